-- What a line says, or the first fault in it. The steps are in the order of the faults.
use Rattle.std.specs.Prelude.{◌≡◌, ℕ, ◌^◌, ◌==◌, ◌&&◌, ◌||◌, Bool, true, false, nat_lt, nat_le, List, [], ◌∷◌, ◌++◌}
use Rattle.std.specs.Prelude.{length}
use Rattle.std.specs.Prelude.{Option, Some, None, is_some, Result, Ok, Err, slice_index, codes, option_map}
use Rattle.std.specs.Prelude.{if◌then◌else◌}
use Rattle.std.specs.List.{list_all}
use Rattle.std.specs.Int.{is_in_range}
use Rattle.std.specs.Str.{bytes_eq}
use Rattle.sh_script.specs.Words.{Word, words_in, number_of}
use Rattle.sh_script.specs.Trouble.{◌>>=◌}
use Rattle.sh_history.specs.declared.entry.Entry.TheVariants as entry
use Rattle.sh_history.specs.declared.entry.Entry.{Entry}
use Rattle.history_lines.specs.declared.fault.Cause.{Cause}
use Rattle.history_lines.specs.declared.fault.Cause.TheVariants as cause
use Rattle.history_timed.specs.declared.call.Said.{Said}
use Rattle.history_timed.specs.declared.call.Said.TheVariants as said
use Rattle.history_timed.specs.Times.{Times}
use Rattle.history_timed.specs.Calls.{key_said}
use Rattle.history_lines.specs.declared.line.Answer.{Answer}
use Rattle.history_lines.specs.declared.line.Limits.{Limits}
use Rattle.history_lines.specs.declared.fault.Trouble.{Trouble}
use Rattle.history_lines.specs.declared.fault.Trouble.TheVariants.{Memory, Because}
use Rattle.history_lines.specs.declared.line.Kind.{Kind}
use Rattle.history_lines.specs.declared.line.Kind.TheVariants as kind

-- ---- words

-- the entry that the word names
abbrev pub kind_named : Word → Option Kind
kind_named w =
    if bytes_eq w (codes "Insert") then Some kind.Insert
    else if bytes_eq w (codes "Got") then Some kind.Got
    else if bytes_eq w (codes "Gone") then Some kind.Gone
    else if bytes_eq w (codes "Crowded") then Some kind.Crowded
    else if bytes_eq w (codes "Removed") then Some kind.Removed
    else if bytes_eq w (codes "Released") then Some kind.Released
    else if bytes_eq w (codes "Seen") then Some kind.Seen
    else None

-- what is there, or this fault
abbrev pub or_cause : {A : Type 0} → Cause → Option A → Result A Cause
or_cause c None = Err c
or_cause c (Some x) = Ok x

-- what was returned, seen by view
abbrev pub seen : {X Y : Type 0} → (X → Y) → Result X Cause → Result Y Cause
seen view (Ok x) = Ok (view x)
seen view (Err c) = Err c

-- the next word, and those after it
abbrev pub word_at : List Word → Result (Word × List Word) Cause
word_at [] = Err cause.Count
word_at (w ∷ ws) = Ok (w, ws)

-- the next word, which is a number
abbrev pub number_at : List Word → Result (ℕ × List Word) Cause
number_at ws = word_at ws >>= λ w. or_cause cause.Number (number_of w.0) >>= λ n. Ok (n, w.1)

-- ---- an answer

-- numbers up to the end of the line, after those already read
abbrev pub numbers_from : List ℕ → List Word → Result (List ℕ) Cause
numbers_from front [] = Ok front
numbers_from front (w ∷ ws) = or_cause cause.Number (number_of w) >>= λ n. numbers_from (front ++ n ∷ []) ws

-- a value: how many words it has, at most 16, and then the words
unfoldable pub value_said : List Word → Result (List ℕ) Cause
value_said ws =
    number_at ws >>= λ n.
    if (n.0 == length n.1) && nat_le n.0 16 then numbers_from [] n.1 else Err cause.Count

-- an entry that has no value
abbrev pub bare_said : Entry → List Word → Result Said Cause
bare_said e ws = if length ws == 0 then Ok (said.Known e) else Err cause.Count

-- what an answer of this kind to the pass says of the key; a get may leave its value out, and a look may not
unfoldable pub said_by : Kind → ℕ → ℕ → List Word → Result Said Cause
said_by kind.Insert pass key ws = value_said ws >>= λ v. Ok (said.Known (entry.Insert pass key v))
said_by kind.Got pass key ws =
    if length ws == 0 then Ok (said.Unread pass key)
    else value_said ws >>= λ v. Ok (said.Known (entry.Got pass key v))
said_by kind.Gone pass key ws = bare_said (entry.Gone pass key) ws
said_by kind.Crowded pass key ws = bare_said (entry.Crowded pass key) ws
said_by kind.Removed pass key ws = bare_said (entry.Removed pass key) ws
said_by kind.Released pass key ws = bare_said (entry.Released pass key) ws
said_by kind.Seen pass key ws = value_said ws >>= λ v. Ok (said.Known (entry.Seen pass key v))

-- the pass, which is below the number of passes, and the words after it
abbrev pub pass_at : ℕ → List Word → Result (ℕ × List Word) Cause
pass_at passes ws = number_at ws >>= λ p. if nat_lt p.0 passes then Ok p else Err cause.Pass

-- a pass, an entry, its key, and its value if it has one
unfoldable pub said_of : ℕ → List Word → Result Said Cause
said_of passes ws =
    pass_at passes ws >>= λ pass.
    word_at pass.1 >>= λ word.
    or_cause cause.Entry (kind_named word.0) >>= λ k.
    number_at word.1 >>= λ key.
    said_by k pass.0 key.0 key.1

-- ---- times

-- two times come first: the second word is a number or `-`
abbrev pub has_times : List Word → Bool
has_times (begin ∷ end ∷ ws) = bytes_eq end (codes "-") || is_some (number_of end)
has_times _ = false

-- when the call ended, or nothing if it never did, and the words after it
abbrev pub end_at : List Word → Result (Option ℕ × List Word) Cause
end_at ws =
    word_at ws >>= λ w.
    if bytes_eq w.0 (codes "-") then Ok (None, w.1)
    else or_cause cause.Number (number_of w.0) >>= λ n. Ok (Some n, w.1)

abbrev pub times_of : ℕ → Option ℕ → Result Times Cause
times_of begin None = Ok (record { begin = begin; end = None })
times_of begin (Some end) =
    if nat_lt end begin then Err cause.Times else Ok (record { begin = begin; end = Some end })

-- times, and then an answer
unfoldable pub timed_of : ℕ → List Word → Result Answer Cause
timed_of passes ws =
    number_at ws >>= λ begin.
    end_at begin.1 >>= λ end.
    times_of begin.0 end.0 >>= λ times.
    said_of passes end.1 >>= λ s.
    Ok (record { times = Some times; said = s })

abbrev pub answer_of : ℕ → List Word → Result Answer Cause
answer_of passes ws =
    if has_times ws then timed_of passes ws
    else said_of passes ws >>= λ s. Ok (record { times = None; said = s })

-- ---- the header

-- a number below 2^32
abbrev pub small_number : Word → Result ℕ Cause
small_number word =
    or_cause cause.Header (number_of word) >>= λ n. if nat_lt n (2 ^ 32) then Ok n else Err cause.Header

-- `history`, how many passes there are, and how many holds a key may have
abbrev pub header_of : List Word → Result Limits Cause
header_of (h ∷ p ∷ g ∷ []) =
    if bytes_eq h (codes "history") then
    (small_number p >>= λ passes. small_number g >>= λ guard_max.
    Ok (record { passes = passes; guard_max = guard_max }))
    else Err cause.Header
header_of _ = Err cause.Header

-- ---- a line

-- a line of at most 512 bytes from 32 to 126
abbrev pub words_of : List ℕ → Result (List Word) Cause
words_of text =
    if nat_lt 512 (length text) then Err cause.Size
    else if list_all (is_in_range 32 126) text then Ok (words_in text)
    else Err cause.Byte

-- a line without a word, or that begins with ;, says nothing
abbrev pub is_silent : List Word → Bool
is_silent [] = true
is_silent (w ∷ ws) = slice_index w 0 == 59

-- what a line says before the header has come, and what after it
abbrev pub header_said : List Word → Result (Option Limits) Cause
header_said ws = if is_silent ws then Ok None else header_of ws >>= λ l. Ok (Some l)

abbrev pub answer_said : ℕ → List Word → Result (Option Answer) Cause
answer_said passes ws = if is_silent ws then Ok None else answer_of passes ws >>= λ a. Ok (Some a)

abbrev pub header_line : List ℕ → Result (Option Limits) Cause
header_line text = words_of text >>= λ ws. header_said ws

abbrev pub answer_line : ℕ → List ℕ → Result (Option Answer) Cause
answer_line passes text = words_of text >>= λ ws. answer_said passes ws

-- the key of the answer that a line says, if it says one: of a map with this number of passes, or under these limits
abbrev pub key_answered : ℕ → List ℕ → Result (Option ℕ) Cause
key_answered passes text =
    answer_line passes text >>= λ a. Ok (option_map (λ (answer : Answer). key_said answer.said) a)

abbrev pub key_line : Option Limits → List ℕ → Result (Option ℕ) Cause
key_line None text = Ok None
key_line (Some limits) text = key_answered limits.passes text

-- what was returned, seen by view, is what reading gives, unless memory was refused
abbrev pub Gives : {X Y : Type 0} → (X → Y) → Result Y Cause → Result X Trouble → Type 0
Gives view read (Ok x) = read ≡ Ok (view x)
Gives view read (Err Memory) = Unit {0}
Gives view read (Err (Because c)) = read ≡ Err c
