-- What a line with a call gives as it is read, or the first fault in it: the steps are in the order of the faults.
use Rattle.std.specs.Prelude.{ℕ, ◌==◌, Bool, true, false, not, List, [], ◌∷◌, ◌++◌, drop, Option, Some, None, is_some}
use Rattle.std.specs.Prelude.{Result, Ok, Err, slice_index, codes, if◌then◌else◌}
use Rattle.std.specs.Str.{bytes_eq}
use Rattle.sh_script.specs.Words.{Word, number_of, is_name}
use Rattle.sh_script.specs.Names.{Binding, find_from}
use Rattle.sh_script.specs.Trouble.{◌>>=◌, or_cause}
use Rattle.sh_script.specs.Arguments.{next_of, pass_at, only_of, none_of, numbers_from}
use Rattle.sh_script.specs.declared.fault.Cause.TheVariants as cause
use Rattle.sh_script.specs.declared.trouble.Trouble.{Trouble}
use Rattle.sh_script.specs.declared.trouble.Trouble.TheVariants as trouble
use Rattle.sh_script.specs.declared.calls.Reference.{Reference}
use Rattle.sh_script.specs.declared.calls.Reference.TheVariants as reference
use Rattle.sh_script.specs.declared.names.Binder.{Binder}
use Rattle.sh_script.specs.declared.names.Binder.TheVariants as binder
use Rattle.sh_script.specs.declared.names.Found.{Found}
use Rattle.sh_script.specs.declared.call.Command.{Command}
use Rattle.sh_script.specs.declared.call.Command.TheVariants as command
use Rattle.sh_script.specs.declared.calls.Call.{Call}
use Rattle.sh_script.specs.declared.calls.Call.TheVariants as call
use Rattle.sh_script.specs.declared.calls.CallLine.{CallLine}

-- ---- a call, when these names are bound

-- a name bound before, and its place
unfoldable pub found_of : List Binding → Word → Result Found Trouble
found_of names word =
    if is_name word then or_cause cause.Unbound (find_from 0 names word)
    else Err (trouble.Because cause.Name)

-- it is bound to a key
abbrev pub has_key : Binder → Bool
has_key binder.Insert = true
has_key binder.Post = false

-- # and a key
abbrev pub key_from : Word → Result Reference Trouble
key_from word = or_cause cause.Number (number_of (drop 1 word)) >>= λ k. Ok (reference.Key k)

-- a name bound before to a key
abbrev pub keyed_of : List Binding → Word → Result Reference Trouble
keyed_of names word = found_of names word >>= λ f. if has_key f.by then Ok (reference.Name f.place) else Err
    (trouble.Because cause.Unbound)

unfoldable pub reference_of : List Binding → Word → Result Reference Trouble
reference_of names word = if slice_index word 0 == 35 then key_from word else keyed_of names word

-- a name that isn't bound yet
unfoldable pub new_name : List Binding → Word → Result Word Trouble
new_name names word =
    if not (is_name word) then Err (trouble.Because cause.Name)
    else if is_some (find_from 0 names word) then Err (trouble.Because cause.Bound)
    else Ok word

-- the command that the word is
abbrev pub command_of : Word → Option Command
command_of w =
    if bytes_eq w (codes "adopt") then Some command.Adopt
    else if bytes_eq w (codes "leave") then Some command.Leave
    else if bytes_eq w (codes "insert") then Some command.Insert
    else if bytes_eq w (codes "get") then Some command.Get
    else if bytes_eq w (codes "read") then Some command.Read
    else if bytes_eq w (codes "remove") then Some command.Remove
    else if bytes_eq w (codes "release") then Some command.Release
    else if bytes_eq w (codes "post") then Some command.Post
    else if bytes_eq w (codes "wait") then Some command.Wait
    else None

-- the only word is what a command is about
unfoldable pub about_of : List Binding → List Word → Result Reference Trouble
about_of names ws = only_of ws >>= λ w. reference_of names w

-- the call, and the name that it binds
unfoldable pub call_of : List Binding → Command → List Word → Result (Call × Option Binding) Trouble
call_of names command.Adopt ws = do
  w ← only_of ws
  shard ← or_cause cause.Number (number_of w)
  Ok (call.Adopt shard, None)
call_of names command.Leave ws = none_of ws >>= λ _. Ok (call.Leave, None)
call_of names command.Insert ws = do
  w ← next_of cause.Count ws
  name ← new_name names w.0
  value ← numbers_from [] w.1
  Ok (call.Insert value, Some (record { name = name; by = binder.Insert }))
call_of names command.Get ws = about_of names ws >>= λ r. Ok (call.Get r, None)
call_of names command.Read ws = about_of names ws >>= λ r. Ok (call.Read r, None)
call_of names command.Remove ws = about_of names ws >>= λ r. Ok (call.Remove r, None)
call_of names command.Release ws = about_of names ws >>= λ r. Ok (call.Release r, None)
call_of names command.Post ws = do
  w ← only_of ws
  name ← new_name names w
  Ok (call.Post, Some (record { name = name; by = binder.Post }))
call_of names command.Wait ws = do
  w ← only_of ws
  f ← found_of names w
  Ok (call.Wait f.place, None)

-- the line, and the name that it binds
unfoldable pub line_of : ℕ → List Binding → List Word → Result (CallLine × Option Binding) Trouble
line_of passes names ws = do
  pass ← pass_at passes ws
  word ← next_of cause.Count pass.1
  k ← or_cause cause.Command (command_of word.0)
  c ← call_of names k word.1
  Ok (record { pass = pass.0; call = c.0 }, c.1)

-- ---- the calls so far

-- the names that are bound, and the calls, in order
pub record CallsSoFar : Type 0 where
  pub names : List Binding
  pub lines : List CallLine

abbrev pub no_calls : CallsSoFar
no_calls = record { names = []; lines = [] }

-- a name that a line binds joins those bound before
abbrev pub with_name : List Binding → Option Binding → List Binding
with_name names None = names
with_name names (Some name) = names ++ name ∷ []

-- a call joins those before it, with the name that it binds
abbrev pub with_call : CallsSoFar → CallLine → Option Binding → CallsSoFar
with_call before line binds = record { names = with_name before.names binds; lines = before.lines ++ line ∷ [] }

abbrev pub call_added : ℕ → CallsSoFar → List Word → Result CallsSoFar Trouble
call_added passes before ws = line_of passes before.names ws >>= λ l. Ok (with_call before l.0 l.1)
