-- What a line with an event gives as it is read, or the first fault in it: the steps are in the order of the faults.
use Rattle.std.specs.Prelude.{ℕ, ◌-◌, ◌==◌, nat_lt, List, [], ◌∷◌, ◌++◌, length, Option, Some, None, Result, Ok, Err}
use Rattle.std.specs.Prelude.{codes, if◌then◌else◌}
use Rattle.std.specs.Str.{bytes_eq}
use Rattle.std.specs.List.{find}
use Rattle.sh_step.specs.Kinds.{kind_name}
use Rattle.sh_step.specs.declared.action.Action.{Action}
use Rattle.sh_step.specs.declared.action.Action.TheVariants as action
use Rattle.sh_step.specs.declared.action.Event.{Event}
use Rattle.sh_step.specs.declared.action.PageName.{PageName}
use Rattle.sh_step.specs.declared.action.SlotName.{SlotName}
use Rattle.sh_step.specs.declared.kind.ActionKind.{ActionKind}
use Rattle.sh_step.specs.declared.kind.ActionKind.TheVariants as kind
use Rattle.sh_script.specs.Words.{Word, number_of, split_dot}
use Rattle.sh_script.specs.Trouble.{◌>>=◌, or_cause}
use Rattle.sh_script.specs.Arguments.{next_of, pass_at, only_of, two_of, none_of, numbers_from}
use Rattle.sh_script.specs.declared.fault.Cause.TheVariants as cause
use Rattle.sh_script.specs.declared.trouble.Trouble.{Trouble}
use Rattle.sh_script.specs.declared.trouble.Trouble.TheVariants as trouble

-- ---- the kind

abbrev pub kinds : List ActionKind
kinds =
    kind.Enter ∷ kind.Mark ∷ kind.Drop ∷ kind.Finish ∷ kind.Fill ∷ kind.Publish ∷ kind.Read ∷ kind.SetClass ∷ kind.Take
    ∷ kind.Follow
    ∷ kind.Put ∷ kind.Tie ∷ kind.Adopt ∷ kind.Leave ∷ kind.Arm ∷ kind.Ring ∷ kind.RingTie ∷ kind.TakeBell ∷
    kind.FollowBell ∷ []

-- the kind that the word names
abbrev pub kind_named : Word → Option ActionKind
kind_named word = find (λ k. bytes_eq (kind_name k) word) kinds

-- ---- the arguments

-- the number that the only word writes
abbrev pub number_alone : List Word → Result ℕ Trouble
number_alone ws = only_of ws >>= λ w. or_cause cause.Number (number_of w)

-- the two or three numbers that dots join
unfoldable pub page_from : Word → Result PageName Trouble
page_from word = do
  p ← or_cause cause.Number (split_dot word)
  shard ← or_cause cause.Number (number_of p.0)
  page ← or_cause cause.Number (number_of p.1)
  Ok (record { shard = shard; page = page })

unfoldable pub slot_from : Word → Result SlotName Trouble
slot_from word = do
  p ← or_cause cause.Number (split_dot word)
  q ← or_cause cause.Number (split_dot p.1)
  shard ← or_cause cause.Number (number_of p.0)
  page ← or_cause cause.Number (number_of q.0)
  slot ← or_cause cause.Number (number_of q.1)
  Ok (record { shard = shard; page = page; slot = slot })

abbrev pub page_alone : List Word → Result PageName Trouble
page_alone ws = only_of ws >>= λ w. page_from w

-- ---- the kinds that have arguments

abbrev pub bare : Action → List Word → Result Action Trouble
bare action ws = none_of ws >>= λ _. Ok action

-- `get` or `remove`, and a key
unfoldable pub enter_of : List Word → Result Action Trouble
enter_of ws =
    next_of cause.Count ws >>= λ way.
    if bytes_eq way.0 (codes "get") then (number_alone way.1 >>= λ k. Ok (action.EnterGet k))
    else if bytes_eq way.0 (codes "remove") then (number_alone way.1 >>= λ k. Ok (action.EnterRemove k))
    else Err (trouble.Because cause.Command)

-- a key, or nothing
unfoldable pub drop_of : List Word → Result Action Trouble
drop_of ws = if length ws == 0 then Ok action.Drop else number_alone ws >>= λ k. Ok (action.DropHold k)

-- a slot, or nothing
unfoldable pub put_of : List Word → Result Action Trouble
put_of ws = if length ws == 0 then Ok action.Put else only_of ws >>= λ w. slot_from w >>= λ s. Ok (action.PutSlot s)

-- a slot and at most 16 words, or nothing
unfoldable pub fill_of : List Word → Result Action Trouble
fill_of [] = Ok action.Fill
fill_of (w ∷ ws) =
    if nat_lt 16 (length ws) then Err (trouble.Because cause.Count)
    else slot_from w >>= λ s. numbers_from [] ws >>= λ v. Ok (action.FillSlot s v)

-- number 0 reads the class of a key, number 1 its length, and the others its words from 0
abbrev pub part_of : ℕ → ℕ → Action
part_of k j =
    if j == 0 then action.ReadClass k
    else if j == 1 then action.ReadLength k
    else action.ReadWord k (j - 2)

abbrev pub read_by : Option (Word × Word) → List Word → Result Action Trouble
read_by None ws = page_alone ws >>= λ p. Ok (action.ReadPage p)
read_by (Some p) ws =
    or_cause cause.Number (number_of p.0) >>= λ k.
    or_cause cause.Number (number_of p.1) >>= λ j.
    Ok (part_of k j)

-- a key and a number, or a page
unfoldable pub read_of : List Word → Result Action Trouble
read_of ws = read_by (two_of ws) ws

-- a page and a class
unfoldable pub set_class_of : List Word → Result Action Trouble
set_class_of ws = do
  p ← or_cause cause.Count (two_of ws)
  page ← page_from p.0
  class ← or_cause cause.Number (number_of p.1)
  Ok (action.SetClass page class)

unfoldable pub action_of : ActionKind → List Word → Result Action Trouble
action_of kind.Enter ws = enter_of ws
action_of kind.Mark ws = bare action.Mark ws
action_of kind.Drop ws = drop_of ws
action_of kind.Finish ws = bare action.Finish ws
action_of kind.Fill ws = fill_of ws
action_of kind.Publish ws = bare action.Publish ws
action_of kind.Read ws = read_of ws
action_of kind.SetClass ws = set_class_of ws
action_of kind.Take ws = page_alone ws >>= λ p. Ok (action.Take p)
action_of kind.Follow ws = page_alone ws >>= λ p. Ok (action.Follow p)
action_of kind.Put ws = put_of ws
action_of kind.Tie ws = bare action.Tie ws
action_of kind.Adopt ws = number_alone ws >>= λ n. Ok (action.Adopt n)
action_of kind.Leave ws = bare action.Leave ws
action_of kind.Arm ws = page_alone ws >>= λ p. Ok (action.Arm p)
action_of kind.Ring ws = bare action.Ring ws
action_of kind.RingTie ws = bare action.RingTie ws
action_of kind.TakeBell ws = bare action.TakeBell ws
action_of kind.FollowBell ws = bare action.FollowBell ws

-- ---- the event

unfoldable pub event_of : ℕ → List Word → Result Event Trouble
event_of passes ws = do
  pass ← pass_at passes ws
  word ← next_of cause.Count pass.1
  k ← or_cause cause.Command (kind_named word.0)
  a ← action_of k word.1
  Ok (record { pass = pass.0; action = a })

-- an event joins those before it
abbrev pub event_added : ℕ → List Event → List Word → Result (List Event) Trouble
event_added passes before ws = event_of passes ws >>= λ e. Ok (before ++ e ∷ [])
