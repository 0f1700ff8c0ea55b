-- Mode plain's own run along with mode heap, for scripts in which no line has a key as a number. The numbers of keys
-- then occur only in the answers to inserts.
use Rattle.std.specs.Prelude.{◌≡◌, ℕ, List, [], ◌∷◌, ◌⊎◌, Option}
use Rattle.sh_key.specs.Layout.{Layout}
use Rattle.sh_shape.specs.Shape.{Numbers}
use Rattle.sh_script.specs.declared.calls.Reference.{Reference}
use Rattle.sh_script.specs.declared.calls.Reference.TheVariants as reference
use Rattle.sh_script.specs.declared.calls.Call.{Call}
use Rattle.sh_script.specs.declared.calls.Call.TheVariants as call
use Rattle.sh_script.specs.declared.calls.CallLine.{CallLine}
use Rattle.script_output.specs.declared.answer.Answer.{Answer}
use Rattle.script_output.specs.declared.answer.Answer.TheVariants as answer
use Rattle.script_models.specs.PlainRun.{Run, CallDoes, at_turn, opening_run}
use Rattle.script_heap.specs.Owners.{owned_after, nobody_owns}
use Rattle.script_beside.specs.Beside.{RefusedAlone}

-- the key is referred to by its name
abbrev pub ByName : Reference → Type 0
ByName (reference.Name i) = Unit {0}
ByName (reference.Key number) = ⊥

abbrev pub NamesKey : Call → Type 0
NamesKey (call.Get r) = ByName r
NamesKey (call.Read r) = ByName r
NamesKey (call.Remove r) = ByName r
NamesKey (call.Release r) = ByName r
NamesKey _ = Unit {0}

-- the same answer, except for the number of a key
abbrev pub SameButKey : (told plain : Answer) → Type 0
SameButKey (answer.Key m) (answer.Key n) = Unit {0}
SameButKey told plain = told ≡ plain

-- mode plain gives the same answer, except for the number of a key
pub record IsPlainAnswer (layout : Layout) (run : Run) (c : Call) (told : Answer) (next : Run) : Type 0 where
  pub plain : Answer
  pub does : CallDoes layout run c plain next
  pub same : SameButKey told plain

-- or it is refused as only the running heap refuses
abbrev pub CallAlong : Layout → Numbers → (owned : ℕ → Option ℕ) → Run → Call → Answer → Run → Type 0
CallAlong layout shape owned run c told next =
    IsPlainAnswer layout run c told next ⊎ RefusedAlone shape owned run c told next

-- these lines have these answers along with mode plain, one after the other, if passes own these shards before
abbrev pub RanAlong : Layout → Numbers → (owned : ℕ → Option ℕ) → Run → List CallLine → List Answer → Run → Type 0
RanAlong layout shape owned run [] [] after = after ≡ run
RanAlong layout shape owned run [] (a ∷ answers) after = ⊥
RanAlong layout shape owned run (l ∷ lines) [] after = ⊥
RanAlong layout shape owned run (l ∷ lines) (a ∷ answers) after = (next : Run)
    × CallAlong layout shape owned (at_turn run l.pass) l.call a next
    × RanAlong layout shape (owned_after owned l a) next lines answers after

-- the same, from the start
abbrev pub AreAlongPlain : Layout → Numbers → Option ℕ → List CallLine → List Answer → Type 0
AreAlongPlain layout shape tag lines answers = (after : Run)
    × RanAlong layout shape nobody_owns (opening_run shape.shards shape.passes tag) lines answers after
