-- What a line with an event means, in the words of the format.
use Rattle.std.specs.Prelude.{◌≡◌, ℕ, ◌+◌, ◌<◌, ◌≤◌, ◌^◌, List, [], ◌∷◌, ◌++◌, length, map, codes, decimal}
use Rattle.std.specs.List.{All}
use Rattle.sh_step.specs.declared.action.Action.{Action}
use Rattle.sh_step.specs.declared.action.Action.TheVariants as action
use Rattle.sh_step.specs.declared.action.Event.{Event}
use Rattle.sh_step.specs.declared.action.PageName.{PageName}
use Rattle.sh_step.specs.declared.action.SlotName.{SlotName}
use Rattle.sh_script.specs.Words.{Word}
use Rattle.sh_script.specs.Meaning.{IsNumber, IsPage, IsSlot}

-- the words are these, and then the digits of a number
pub record IsWithNumber (front words : List Word) (n : ℕ) : Type 0 where
  pub says : words ≡ front ++ decimal n ∷ []
  pub small : n < 2 ^ 64

-- the words are this one, and then a page
pub record IsWithPage (front : Word) (words : List Word) (page : PageName) : Type 0 where
  pub place : Word
  pub says : words ≡ front ∷ place ∷ []
  pub is : IsPage place page

-- the words are `Put` and a slot
pub record IsPutSlot (words : List Word) (slot : SlotName) : Type 0 where
  pub place : Word
  pub says : words ≡ codes "Put" ∷ place ∷ []
  pub is : IsSlot place slot

-- the words are `Fill`, a slot, and the digits of at most 16 numbers
pub record IsFillSlot (words : List Word) (slot : SlotName) (value : List ℕ) : Type 0 where
  pub place : Word
  pub says : words ≡ codes "Fill" ∷ place ∷ map decimal value
  pub is : IsSlot place slot
  pub few : length value ≤ 16
  pub small : All (λ n. n < 2 ^ 64) value

-- the words are `Read`, a key, and a number that says what is read
pub record IsReadKey (words : List Word) (key part : ℕ) : Type 0 where
  pub says : words ≡ codes "Read" ∷ decimal key ∷ decimal part ∷ []
  pub key_small : key < 2 ^ 64
  pub part_small : part < 2 ^ 64

-- the words are `SetClass`, a page, and a class
pub record IsSetClass (words : List Word) (page : PageName) (class : ℕ) : Type 0 where
  pub place : Word
  pub says : words ≡ codes "SetClass" ∷ place ∷ decimal class ∷ []
  pub is : IsPage place page
  pub small : class < 2 ^ 64

-- the words say this action
abbrev pub IsAction : List Word → Action → Type 0
IsAction words (action.EnterGet k) = IsWithNumber (codes "Enter" ∷ codes "get" ∷ []) words k
IsAction words (action.EnterRemove k) = IsWithNumber (codes "Enter" ∷ codes "remove" ∷ []) words k
IsAction words action.Mark = words ≡ codes "Mark" ∷ []
IsAction words action.Drop = words ≡ codes "Drop" ∷ []
IsAction words (action.DropHold k) = IsWithNumber (codes "Drop" ∷ []) words k
IsAction words action.Finish = words ≡ codes "Finish" ∷ []
IsAction words (action.FillSlot slot value) = IsFillSlot words slot value
IsAction words action.Fill = words ≡ codes "Fill" ∷ []
IsAction words action.Publish = words ≡ codes "Publish" ∷ []
IsAction words (action.ReadClass k) = IsReadKey words k 0
IsAction words (action.ReadLength k) = IsReadKey words k 1
IsAction words (action.ReadWord k i) = IsReadKey words k (2 + i)
IsAction words (action.ReadPage page) = IsWithPage (codes "Read") words page
IsAction words (action.SetClass page class) = IsSetClass words page class
IsAction words (action.Take page) = IsWithPage (codes "Take") words page
IsAction words (action.Follow page) = IsWithPage (codes "Follow") words page
IsAction words action.Put = words ≡ codes "Put" ∷ []
IsAction words (action.PutSlot slot) = IsPutSlot words slot
IsAction words action.Tie = words ≡ codes "Tie" ∷ []
IsAction words (action.Adopt n) = IsWithNumber (codes "Adopt" ∷ []) words n
IsAction words action.Leave = words ≡ codes "Leave" ∷ []
IsAction words (action.Arm page) = IsWithPage (codes "Arm") words page
IsAction words action.Ring = words ≡ codes "Ring" ∷ []
IsAction words action.RingTie = words ≡ codes "RingTie" ∷ []
IsAction words action.TakeBell = words ≡ codes "TakeBell" ∷ []
IsAction words action.FollowBell = words ≡ codes "FollowBell" ∷ []
-- no words say a load that leaves no mark in the heap: a peek, a step of a look, or a read before an end
IsAction words action.ReadEnding = ⊥
IsAction words (action.Peek slot) = ⊥
IsAction words (action.Look k) = ⊥
IsAction words action.LookOn = ⊥
IsAction words action.LookAgain = ⊥

-- the words are the number of a pass below the passes, and an action
pub record IsEventLine (passes : ℕ) (words : List Word) (event : Event) : Type 0 where
  pub first : Word
  pub others : List Word
  pub says : words ≡ first ∷ others
  pub pass_is : IsNumber first event.pass
  pub below : event.pass < passes
  pub acts : IsAction others event.action

-- the words are an event, which joins those before it
pub record SaysEvent (passes : ℕ) (before : List Event) (words : List Word) (now : List Event) : Type 0 where
  pub event : Event
  pub is : IsEventLine passes words event
  pub now_is : now ≡ before ++ event ∷ []
