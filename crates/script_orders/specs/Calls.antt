-- Calls in a script of steps, and the steps that they are short for.
use Rattle.std.specs.Prelude.{ℕ, ◌+◌, ◌-◌, ◌==◌, ◌&&◌, not, nat_le, nat_lt, cond, Bool, false, List, [], ◌∷◌, ◌++◌}
use Rattle.std.specs.Prelude.{codes, decimal, length, slice_index, take, drop, Option, Some, None, is_some, if◌then◌else◌}
use Rattle.std.specs.List.{count_by, flat_map, position}
use Rattle.std.specs.Str.{bytes_eq}
use Rattle.sh_shape.specs.Classes.{class_of}
use Rattle.sh_script.specs.Words.{Word, is_dot, is_newline, number_of, words_in}

-- ---- steps of a pass

-- a step, and the words after its own
abbrev pub step_line : (pass step : Word) (words : List Word) → List ℕ
step_line pass step words =
    pass ++ (codes " " ++ (step ++ (flat_map (λ w. codes " " ++ w) words ++ codes "\n")))

-- after the step that ended a generation
abbrev pub freeing_text : (pass : Word) → List ℕ
freeing_text pass =
    step_line pass (codes "Finish") []
    ++ (step_line pass (codes "Put") []
    ++ (step_line pass (codes "Tie") []
    ++ (step_line pass (codes "Ring") [] ++ step_line pass (codes "RingTie") [])))

-- of a pass that gives back its count on a slot
abbrev pub leaving_text : (pass : Word) → List ℕ
leaving_text pass = step_line pass (codes "Drop") [] ++ freeing_text pass

-- ---- calls

-- on one number
abbrev pub keyed_text : (pass call : Word) (word : List Word) → Option (List ℕ)
keyed_text pass call word =
    if bytes_eq call (codes "adopt") then Some (step_line pass (codes "Adopt") word)
    else if bytes_eq call (codes "get") then Some (step_line pass (codes "Enter get") word ++ leaving_text pass)
    else if bytes_eq call (codes "release") then Some (step_line pass (codes "Drop") word ++ freeing_text pass)
    else if bytes_eq call (codes "remove")
    then Some (step_line pass (codes "Enter remove") word ++ (step_line pass (codes "Mark") [] ++ leaving_text pass))
    else None

-- what is before the second dot of a slot, by the place of its first dot
abbrev pub page_by : (slot : Word) → (first second : Option ℕ) → Option Word
page_by slot (Some i) (Some j) = Some (take (i + 1 + j) slot)
page_by slot (Some i) None = None
page_by slot None second = None

abbrev pub second_dot : (slot : Word) → (first : Option ℕ) → Option ℕ
second_dot slot (Some i) = position is_dot (drop (i + 1) slot)
second_dot slot None = None

abbrev pub page_of : (slot : Word) → Option Word
page_of slot = page_by slot (position is_dot slot) (second_dot slot (position is_dot slot))

-- the step that stores a page's class
abbrev pub set_class_text : (pass page : Word) (class : ℕ) → List ℕ
set_class_text pass page class =
    pass ++ (codes " SetClass " ++ (page ++ (codes " " ++ (decimal class ++ codes "\n"))))

-- a step for each word that is stored
abbrev pub fills_text : (pass : Word) (words : List Word) → List ℕ
fills_text pass words = flat_map (λ w. step_line pass (codes "Fill") []) words

-- the value goes into a slot of the least class that has room for it
abbrev pub insert_by : (pass slot : Word) (value : List Word) (page : Option Word) (class : Option ℕ)
    → Option (List ℕ)
insert_by pass slot value (Some page) (Some class) =
    Some (step_line pass (codes "Read") (page ∷ [])
    ++ (set_class_text pass page class
    ++ (step_line pass (codes "Fill") (slot ∷ value)
    ++ (fills_text pass value ++ step_line pass (codes "Publish") []))))
insert_by pass slot value (Some page) None = None
insert_by pass slot value None class = None

abbrev pub insert_text : (pass : Word) (words : List Word) → Option (List ℕ)
insert_text pass [] = None
insert_text pass (slot ∷ value) = insert_by pass slot value (page_of slot) (class_of (length value))

abbrev pub call_text : (words : List Word) → Option (List ℕ)
call_text [] = None
call_text (pass ∷ []) = None
call_text (pass ∷ call ∷ others) =
    if not (is_some (number_of pass)) then None
    else if bytes_eq call (codes "insert") then insert_text pass others
    else if not (length others == 1) then None
    else keyed_text pass call others

-- ---- the whole script

abbrev pub or_none : Option (List ℕ) → List ℕ
or_none (Some text) = text
or_none None = []

abbrev pub is_third : List Word → Bool
is_third [] = false
is_third (word ∷ []) = false
is_third (word ∷ version ∷ []) = bytes_eq word (codes "version") && bytes_eq version (codes "3")
is_third (word ∷ version ∷ other ∷ others) = false

abbrev pub text_or : Option (List ℕ) → (line : List ℕ) → List ℕ
text_or (Some text) line = text
text_or None line = line ++ codes "\n"

-- a line: a call of at most 512 bytes as its steps, and all else as it is
abbrev pub steps_text : (line : List ℕ) → List ℕ
steps_text line =
    if is_third (words_in line) then codes "version 2\n"
    else text_or (cond (nat_lt 512 (length line)) None (call_text (words_in line))) line

-- the lines of a text, of which the last one has no newline
abbrev pub expanded : (lines : List (List ℕ)) → List ℕ
expanded [] = []
expanded (rest ∷ []) = rest
expanded (line ∷ next ∷ more) = steps_text line ++ expanded (next ∷ more)

-- ---- where a line comes from

-- the number of the line, of these from this number on, whose lines have the line that comes after `left - 1` others
abbrev pub origin_from : (number left : ℕ) (lines : List (List ℕ)) → ℕ
origin_from n left [] = n
origin_from n left (rest ∷ []) = n
origin_from n left (line ∷ next ∷ more) =
    if nat_le left (count_by is_newline (steps_text line)) then n
    else origin_from (n + 1) (left - count_by is_newline (steps_text line)) (next ∷ more)

-- ---- whether a script has calls

-- the words say something, and are no comment
abbrev pub says : List Word → Bool
says [] = false
says (w ∷ ws) = not (slice_index w 0 == 59)

-- the first line that says something is `version 3`
abbrev pub first_is_third : (lines : List (List ℕ)) → Bool
first_is_third [] = false
first_is_third (rest ∷ []) = false
first_is_third (line ∷ next ∷ more) =
    if says (words_in line) then is_third (words_in line) else first_is_third (next ∷ more)
