-- Mode heap beside mode plain. The plain map walks the lines along with the running heap, in the keys that the heap
-- gives. Each answer is what mode plain's own definitions say of its line, with two exceptions, stated here. They are
-- the number of a key, and some refusals of an adopt or an insert.
use Rattle.std.specs.Prelude.{◌≡◌, ℕ, ◌≤◌, Bool, true, false, List, [], ◌∷◌, ◌++◌, ◌⊎◌, length}
use Rattle.std.specs.Prelude.{Option, Some, None, Result, Ok, Err}
use Rattle.sh_value.specs.declared.refusal.Refusal.{Refusal}
use Rattle.sh_value.specs.declared.refusal.Refusal.TheVariants as refusal
use Rattle.sh_key.specs.Layout.{Layout}
use Rattle.sh_shape.specs.Shape.{Numbers}
use Rattle.sh_history.specs.declared.entry.Entry.TheVariants.{Insert}
use Rattle.sh_plain.specs.Plain.{IsNewKey, with_added}
use Rattle.sh_script.specs.declared.calls.Call.{Call}
use Rattle.sh_script.specs.declared.calls.Call.TheVariants as call
use Rattle.sh_script.specs.declared.calls.CallLine.{CallLine}
use Rattle.script_output.specs.declared.answer.Answer.{Answer}
use Rattle.script_output.specs.declared.answer.Answer.TheVariants as answer
use Rattle.script_output.specs.Keys.{shown}
use Rattle.script_models.specs.PlainRun.{Run, CallDoes, at_turn, has_shard, key_of, opening_run, adopt_answer}
use Rattle.script_models.specs.PlainRun.{insert_attempt}
use Rattle.script_heap.specs.Owners.{IsFree, IsOwned, owned_after, nobody_owns}
use Rattle.script_calls.specs.Parts.{is_placed_key}

-- ---- the numbers of keys

-- the name of an insert that was refused is bound to no key
abbrev pub unnamed : Run → Run
unnamed run = record run { keys = run.keys ++ None ∷ [] }

-- the value is stored under a key of the heap's choice: one with a place in the shape, which was not given before
pub record GivesKey (layout : Layout) (shape : Numbers) (run : Run) (words : List ℕ) (told : Answer)
    (next : Run) : Type 0
  where
    pub key : ℕ
    pub placed : is_placed_key layout shape key ≡ true
    pub new : IsNewKey layout run.store.entries key
    pub is : told ≡ answer.Key (shown run.tag key)
    pub next_is : next ≡ record run {
      store = with_added run.store (Some (Insert run.store.pass key words));
      keys = run.keys ++ Some key ∷ [];
    }

-- if mode plain gives its next key, the heap gives a key of its own; what mode plain refuses is refused
abbrev pub InsertsBeside : Layout → Numbers → Run → List ℕ → Result ℕ Refusal → Answer → Run → Type 0
InsertsBeside layout shape run words (Ok next_key) told next = GivesKey layout shape run words told next
InsertsBeside layout shape run words (Err r) told next = (told ≡ answer.Refused r) × (next ≡ unnamed run)

-- a number whose place the shape does not have is no key to the heap; otherwise this is done
abbrev pub IfPlaced : (is_placed : Bool) → (Does : Type 0) → Run → Answer → Run → Type 0
IfPlaced true Does run told next = Does
IfPlaced false Does run told next = (told ≡ answer.Refused refusal.BadKey) × (next ≡ run)

abbrev pub WherePlaced : Layout → Numbers → Result ℕ Answer → (Does : Type 0) → Run → Answer → Run → Type 0
WherePlaced layout shape (Ok key) Does run told next = IfPlaced (is_placed_key layout shape key) Does run told next
WherePlaced layout shape (Err a) Does run told next = Does

-- ---- a line

-- The answer to the call is that of mode plain, which does not look at what other passes own. An adopt is ok only if no
-- pass owns the shard.
abbrev pub AsPlain : Layout → Numbers → (owned : ℕ → Option ℕ) → Run → Call → Answer → Run → Type 0
AsPlain layout shape owned run (call.Adopt shard) told next = CallDoes layout run (call.Adopt shard) told next
    × (told ≡ answer.Done → IsFree shape owned shard)
AsPlain layout shape owned run (call.Insert words) told next =
    InsertsBeside layout shape run words (insert_attempt layout run words).answer told next
AsPlain layout shape owned run (call.Get r) told next =
    WherePlaced layout shape (key_of run r) (CallDoes layout run (call.Get r) told next) run told next
AsPlain layout shape owned run (call.Remove r) told next =
    WherePlaced layout shape (key_of run r) (CallDoes layout run (call.Remove r) told next) run told next
AsPlain layout shape owned run c told next = CallDoes layout run c told next

-- A refusal by the running heap alone of what mode plain would do; the line then changes nothing. Taken: another pass
-- owns the shard. Memory: room for what is kept of pages was refused. Full: the pass's shard has no room for a value of
-- this size, by the words before the line (`lines_see_room` of script_heap).
abbrev pub RefusedAlone : Numbers → (owned : ℕ → Option ℕ) → Run → Call → Answer → Run → Type 0
RefusedAlone shape owned run (call.Adopt shard) told next = (adopt_answer run shard ≡ answer.Done)
    × (((told ≡ answer.Refused refusal.Taken) × IsOwned shape owned run.store.pass shard)
    ⊎ (told ≡ answer.Refused refusal.Memory)) × (next ≡ run)
RefusedAlone shape owned run (call.Insert words) told next = (length words ≤ 16) × (has_shard run ≡ true)
    × ((told ≡ answer.Refused refusal.Full) ⊎ (told ≡ answer.Refused refusal.Memory)) × (next ≡ unnamed run)
RefusedAlone shape owned run _ told next = ⊥

abbrev pub CallBeside : Layout → Numbers → (owned : ℕ → Option ℕ) → Run → Call → Answer → Run → Type 0
CallBeside layout shape owned run c told next =
    AsPlain layout shape owned run c told next ⊎ RefusedAlone shape owned run c told next

-- ---- lines

-- these lines have these answers beside mode plain, one after the other, if passes own these shards before
abbrev pub RanBeside : Layout → Numbers → (owned : ℕ → Option ℕ) → Run → List CallLine → List Answer → Run → Type 0
RanBeside layout shape owned run [] [] after = after ≡ run
RanBeside layout shape owned run [] (a ∷ answers) after = ⊥
RanBeside layout shape owned run (l ∷ lines) [] after = ⊥
RanBeside layout shape owned run (l ∷ lines) (a ∷ answers) after = (next : Run)
    × CallBeside layout shape owned (at_turn run l.pass) l.call a next
    × RanBeside layout shape (owned_after owned l a) next lines answers after

-- the same from the start, when the map is empty and no pass has a shard
abbrev pub AreBesidePlain : Layout → Numbers → Option ℕ → List CallLine → List Answer → Type 0
AreBesidePlain layout shape tag lines answers = (after : Run)
    × RanBeside layout shape nobody_owns (opening_run shape.shards shape.passes tag) lines answers after
