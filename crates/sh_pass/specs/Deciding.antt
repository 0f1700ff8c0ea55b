-- Which word decides a call: one that its own steps really found.
use Rattle.std.specs.Prelude.{◌≡◌, ℕ, ◌⊎◌, Bool, true, false, List, [], ◌∷◌, ◌++◌, length, Some}
use Rattle.sh_shape.specs.declared.places.Place.TheVariants.{State}
use Rattle.sh_slots.specs.declared.enter.GetAnswer.{GetAnswer}
use Rattle.sh_slots.specs.declared.enter.GetAnswer.TheVariants as answer
use Rattle.sh_slots.specs.declared.hand.KeyRef.{KeyRef}
use Rattle.sh_slots.specs.Slots.{answer_to_get, live_at, past_at, is_first_mark}
use Rattle.sh_step.specs.declared.action.Action.{Action}
use Rattle.sh_step.specs.declared.action.Action.TheVariants as action
use Rattle.sh_step.specs.declared.footstep.Footstep.{Footstep}
use Rattle.sh_step.specs.Moves.{place_named}
use Rattle.sh_step.specs.Plans.{Plan}
use Rattle.sh_table.specs.declared.view.View.{View}
use Rattle.sh_pass.specs.declared.looking.Glance.{Glance}
use Rattle.sh_pass.specs.declared.looking.Glance.TheVariants.{Seen, Gone, Early}

-- IsSo holds of the steps that the pass did between two views
abbrev pub Stepped : (List Footstep → Type 0) → View → View → Type 0
Stepped IsSo v w = (new : List Footstep) × (w.own.trail ≡ v.own.trail ++ new) × IsSo new

-- the step of an action on the state word of the slot of this name, which found the word n
abbrev pub step_at_slot : Action → KeyRef → ℕ → Footstep
step_at_slot x name n = record { action = x; place = State name.page name.slot; answer = Some n }

-- the first of these steps is that of the action at the slot of this name
pub record Begins (x : Action) (name : KeyRef) (new : List Footstep) : Type 0 where
  pub found : ℕ
  pub rest : List Footstep
  pub steps : new ≡ step_at_slot x name found ∷ rest

-- ---- of the slot of this name

-- the slot is entered to get the key, and the word found there decides the answer
abbrev pub EntryDecides : Plan → ℕ → KeyRef → GetAnswer → List Footstep → Type 0
EntryDecides plan key name a new = (b : Begins (action.EnterGet key) name new)
    × (answer_to_get name.generation plan.keys.guard_max b.found ≡ a)

-- the slot is marked, and the word found there decides whether this pass removed the key
abbrev pub MarkDecides : KeyRef → Bool → List Footstep → Type 0
MarkDecides name removed new = (b : Begins action.Mark name new) × (removed ≡ is_first_mark b.found)

-- the slot is entered to remove the key, in one step: whether the word found there is live
abbrev pub EntryTells : ℕ → KeyRef → Bool → List Footstep → Type 0
EntryTells key name live new = (n : ℕ) × (new ≡ step_at_slot (action.EnterRemove key) name n ∷ [])
    × (live_at name.generation n ≡ live)

-- after an entry that found a word which is live, or is not, these steps follow
abbrev pub AfterEntry : KeyRef → (removed live : Bool) → List Footstep → Type 0
AfterEntry name removed true rest = MarkDecides name removed rest
AfterEntry name removed false rest = removed ≡ false

-- the slot is entered to remove the key: if the word found there is not live, this pass did not remove the key;
-- otherwise the mark decides
abbrev pub EntryOrMarkDecides : ℕ → KeyRef → Bool → List Footstep → Type 0
EntryOrMarkDecides key name removed new = (b : Begins (action.EnterRemove key) name new)
    × AfterEntry name removed (live_at name.generation b.found) b.rest

-- what a word that a look found says of the value of this name: that it is there, that it was removed, or neither
abbrev pub IsLive : KeyRef → ℕ → Type 0
IsLive name n = live_at name.generation n ≡ true

abbrev pub IsPast : KeyRef → ℕ → Type 0
IsPast name n = past_at name.generation n ≡ true

abbrev pub IsEarly : KeyRef → ℕ → Type 0
IsEarly name n = (live_at name.generation n ≡ false) × (past_at name.generation n ≡ false)

-- the first of these steps looks at the slot, and the word found there is so
abbrev pub FirstFinds : ℕ → KeyRef → (ℕ → Type 0) → List Footstep → Type 0
FirstFinds key name IsSo new = (b : Begins (action.Look key) name new) × IsSo b.found

-- the last of these steps looks at the slot again, and the word found there is so
abbrev pub LastFinds : KeyRef → (ℕ → Type 0) → List Footstep → Type 0
LastFinds name IsSo new = (front : List Footstep) × (n : ℕ)
    × (new ≡ front ++ step_at_slot action.LookAgain name n ∷ []) × IsSo n

-- A value is seen if it was there at the first look and at the last one. A key is gone if one of the two found it past.
-- A first word of before the value was there decides nothing
abbrev pub LooksDecide : ℕ → KeyRef → Glance → List Footstep → Type 0
LooksDecide key name Seen new = FirstFinds key name (IsLive name) new × LastFinds name (IsLive name) new
LooksDecide key name Gone new = FirstFinds key name (IsPast name) new
    ⊎ (FirstFinds key name (IsLive name) new × LastFinds name (IsPast name) new)
LooksDecide key name Early new = FirstFinds key name (IsEarly name) new

-- ---- of the slot of a key

-- a get is decided by the word that it found as it entered the slot of its key
abbrev pub DecidedByEntry : Plan → ℕ → GetAnswer → List Footstep → Type 0
DecidedByEntry plan key a new = (name : KeyRef) × (place_named plan key ≡ Some name) × EntryDecides plan key name a new

-- a get that succeeds has done only this one step
abbrev pub InOneStep : Plan → ℕ → List Footstep → Type 0
InOneStep plan key new = DecidedByEntry plan key answer.Got new × (length new ≡ 1)

-- A removal is decided by the word that it found as it entered the slot of its key, if that word is not live. Otherwise
-- the word that its mark found there decides
abbrev pub RemovalDecided : Plan → ℕ → Bool → List Footstep → Type 0
RemovalDecided plan key removed new = (name : KeyRef) × (place_named plan key ≡ Some name)
    × EntryOrMarkDecides key name removed new

-- a release drops a hold on its key first, at the slot of the key
abbrev pub DropsHold : Plan → ℕ → List Footstep → Type 0
DropsHold plan key new = (name : KeyRef) × (place_named plan key ≡ Some name) × Begins (action.DropHold key) name new

-- a look is decided by the words that it found first and last at the slot of its key
abbrev pub LookDecided : Plan → ℕ → Glance → List Footstep → Type 0
LookDecided plan key answer new = (name : KeyRef) × (place_named plan key ≡ Some name)
    × LooksDecide key name answer new
