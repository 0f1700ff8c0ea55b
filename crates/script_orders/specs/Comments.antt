-- Comments that ask for something.
use Rattle.std.specs.Prelude.{ℕ, ◌+◌, ◌==◌, ◌&&◌, ◌||◌, not, nat_le, Bool, List, [], ◌∷◌, ◌++◌, length, drop, map}
use Rattle.std.specs.Prelude.{Vec, Option, Some, None, is_some, Result, Ok, Err, codes, if◌then◌else◌}
use Rattle.std.specs.Borrow.{Bor}
use Rattle.std.specs.Global.{Global}
use Rattle.std.specs.List.{list_all}
use Rattle.std.specs.Str.{bytes_eq}
use Rattle.sh_script.specs.Words.{Word, words_in, number_of}
use Rattle.sh_script.specs.Trouble.{◌>>=◌, placed}
use Rattle.sh_script.specs.declared.fault.Cause.{Cause}
use Rattle.sh_script.specs.declared.fault.Cause.TheVariants as cause
use Rattle.sh_script.specs.declared.fault.Fault.{Fault}
use Rattle.sh_script.specs.declared.trouble.Trouble.{Trouble}
use Rattle.sh_script.specs.declared.trouble.Trouble.TheVariants as trouble
use Rattle.script_orders.specs.declared.comments.Asked.{Asked}
use Rattle.script_orders.specs.declared.comments.Comment.{Comment}
use Rattle.script_orders.specs.declared.comments.Comment.TheVariants as comment

-- ---- the words of a line

-- a comment would ask for something with a blank after `;`
abbrev pub lacks_blank : Word → Bool
lacks_blank w = bytes_eq w (codes ";explore") || bytes_eq w (codes ";where") || bytes_eq w (codes ";never")

-- by the first word of a comment
abbrev pub comment_by : List Word → Comment
comment_by [] = comment.Plain
comment_by (w ∷ ws) = if bytes_eq w (codes "where") then comment.Where
    else if bytes_eq w (codes "never") then comment.Never
    else comment.Plain

abbrev pub comment_of : List Word → Comment
comment_of [] = comment.Plain
comment_of (w ∷ ws) = if lacks_blank w then comment.LacksBlank
    else if bytes_eq w (codes ";") then comment_by ws
    else comment.Plain

-- ---- the words of a reply

abbrev pub Reply : Type 0
Reply = List Word

-- a step of this kind may decide this entry
abbrev pub is_entry : (kind entry : Word) → Bool
is_entry kind entry =
    if bytes_eq kind (codes "Enter")
    then bytes_eq entry (codes "Got") || bytes_eq entry (codes "Gone") || bytes_eq entry (codes "Crowded")
    else if bytes_eq kind (codes "Mark") then bytes_eq entry (codes "Removed") || bytes_eq entry (codes "Gone")
    else if bytes_eq kind (codes "Drop") then bytes_eq entry (codes "Released")
    else bytes_eq kind (codes "Publish") && bytes_eq entry (codes "Insert")

-- a value follows after this entry
abbrev pub has_value : Word → Bool
has_value entry = bytes_eq entry (codes "Got") || bytes_eq entry (codes "Insert")

abbrev pub is_number : Word → Bool
is_number w = is_some (number_of w)

-- why no reply of a pass below this number begins with these words: a pass, a kind, an entry, a key and a value, of
-- which words at the end may be missing
abbrev pub cause_by : (passes : ℕ) (pass : Option ℕ) (kind entry key : Word) (value : List Word) → Option Cause
cause_by passes None kind entry key value = Some cause.Number
cause_by passes (Some pass) kind entry key value =
    if nat_le passes pass then Some cause.Pass
    else if not (is_entry kind entry) then Some cause.Command
    else if not (length value == 0) && not (has_value entry) then Some cause.Count
    else if list_all is_number (key ∷ value) then None
    else Some cause.Number

abbrev pub cause_of : (passes : ℕ) → List Word → Option Cause
cause_of passes [] = Some cause.Count
cause_of passes (pass ∷ []) = Some cause.Count
cause_of passes (pass ∷ kind ∷ []) = Some cause.Count
cause_of passes (pass ∷ kind ∷ entry ∷ []) = Some cause.Count
cause_of passes (pass ∷ kind ∷ entry ∷ key ∷ value) = cause_by passes (number_of pass) kind entry key value

-- the replies, as their words
abbrev pub replies_of : List (Vec (Bor (List ℕ)) Global) → List Reply
replies_of replies = map (λ r. map (λ w. w.now) r.items) replies

-- with one more, unless no reply begins with these words
abbrev pub added_unless : Option Cause → List Reply → List Word → Result (List Reply) Trouble
added_unless None replies words = Ok (replies ++ words ∷ [])
added_unless (Some why) replies words = Err (trouble.Because why)

abbrev pub with_reply : (passes : ℕ) → List Reply → List Word → Result (List Reply) Trouble
with_reply passes replies words = added_unless (cause_of passes words) replies words

-- ---- what comments ask

-- outcomes with each of some replies, and none of others
pub record Asks : Type 0 where
  pub wheres : List Reply
  pub nevers : List Reply

abbrev pub nothing_asked : Asks
nothing_asked = record { wheres = []; nevers = [] }

abbrev pub asks : Asked → Asks
asks a = record { wheres = replies_of a.wheres.items; nevers = replies_of a.nevers.items }

-- what a comment adds, by the words after its second one
abbrev pub asked_by : (passes : ℕ) → Asks → Comment → List Word → Result Asks Trouble
asked_by passes a comment.Plain words = Ok a
asked_by passes a comment.LacksBlank words = Err (trouble.Because cause.Command)
asked_by passes a comment.Where words = with_reply passes a.wheres words >>= λ rs. Ok (record a { wheres = rs })
asked_by passes a comment.Never words = with_reply passes a.nevers words >>= λ rs. Ok (record a { nevers = rs })

abbrev pub after_comment : (passes : ℕ) → Asks → List Word → Result Asks Trouble
after_comment passes a words = asked_by passes a (comment_of words) (drop 2 words)

-- what the lines from this number on add, or the first fault
abbrev pub asked_from : (passes : ℕ) → Asks → (number : ℕ) → (lines : List (List ℕ)) → Result Asks Fault
asked_from passes a n [] = Ok a
asked_from passes a n (line ∷ lines) = placed n (after_comment passes a (words_in line)) >>= λ b. asked_from passes b
    (n + 1) lines
