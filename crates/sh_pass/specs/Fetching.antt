-- What reading a key does that is not kept.
use Rattle.std.specs.Prelude.{◌≡◌, ℕ, ◌+◌, ◌<◌, ◌≤◌, ◌⊎◌, List, [], ◌∷◌, ◌++◌, map, length, None, Result, Ok, Err}
use Rattle.sh_history.specs.declared.entry.Entry.TheVariants as entry
use Rattle.sh_history.specs.declared.log.LogEntry.{LogEntry}
use Rattle.sh_history.specs.declared.log.LogEntry.TheVariants.{Known}
use Rattle.sh_history.specs.Log.{filled, AllHaveValue}
use Rattle.sh_key.specs.Layout.{Layout}
use Rattle.sh_step.specs.Moves.{place_named}
use Rattle.sh_step.specs.Plans.{plan_of}
use Rattle.sh_table.specs.Views.{HeardOfInsert}
use Rattle.sh_value.specs.declared.refusal.Refusal.{Refusal}
use Rattle.sh_value.specs.declared.refusal.Refusal.TheVariants as refusal
use Rattle.sh_pass.specs.declared.looking.Glance.TheVariants.{Seen, Gone, Early}
use Rattle.sh_pass.specs.Growing.{SameTale, CallsAlone}
use Rattle.sh_pass.specs.Passes.{Caller, holds, GetDoes, LookAdds, IsKeyOfHeap}

-- the value of the key was read, which is then that of each get of the key, and these entries were added, in at most
-- `most` steps, of calls alone; heap and holds are as they were
pub record ReadsAndAdds (key : ℕ) (value : List ℕ) (es : List LogEntry) (most : ℕ) (v w : Caller) : Type 0 where
  pub heap : w.heap ≡ v.heap
  pub same : SameTale v.view w.view
  pub log : w.view.own.log ≡ map (filled key value) v.view.own.log ++ es
  pub value_is : AllHaveValue key value w.view.own.log
  pub holds : holds w ≡ holds v
  pub steps : length w.view.own.trail ≤ length v.view.own.trail + most
  pub alone : CallsAlone v.view w.view

-- there is room for a hold on a key of the heap
abbrev pub MayGet : Layout → ℕ → Caller → Type 0
MayGet layout key v = IsKeyOfHeap layout v key × (length (holds v) < 16)

-- the key was got, read and released, or was refused as the get is
abbrev pub GetsAndReads : Layout → ℕ → Caller → Result (List ℕ) Refusal → Caller → Type 0
GetsAndReads layout key v (Ok value) w =
    MayGet layout key v × ReadsAndAdds key value
    (Known (entry.Got v.view.pass key value) ∷ Known (entry.Released v.view.pass key) ∷ []) (length value + 9) v w
GetsAndReads layout key v (Err why) w = GetDoes layout key v (Err why) w

-- a look at the key found its value, or that it was removed, or that the number is no key of the heap
abbrev pub LookDoes : Layout → ℕ → Caller → Result (List ℕ) Refusal → Caller → Type 0
LookDoes layout key v (Ok value) w =
    LookAdds layout key Seen (Known (entry.Seen v.view.pass key value) ∷ []) (length value + 4) v w
LookDoes layout key v (Err refusal.Gone) w =
    LookAdds layout key Gone (Known (entry.Gone v.view.pass key) ∷ []) 20 v w
LookDoes layout key v (Err refusal.BadKey) w = (place_named (plan_of layout v.heap.shape) key ≡ None) × (w ≡ v)
LookDoes layout key v (Err _) w = ⊥

-- A fetch looks at the key. If the slot is as it was before the key's value was there, the look is one load that
-- decides nothing, and the fetch gets, reads and releases the key. So it is only of a key whose insert the caller
-- neither did nor heard of
abbrev pub FetchDoes : Layout → ℕ → Caller → Result (List ℕ) Refusal → Caller → Type 0
FetchDoes layout key v answer w = LookDoes layout key v answer w ⊎ ((early : Caller)
    × LookAdds layout key Early [] 1 v early × (¬ HeardOfInsert v.view key) × GetsAndReads layout key early answer w)
