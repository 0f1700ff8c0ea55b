-- The condition of each move: what it asks of the pass's own part.
use Rattle.std.specs.Prelude.{ℕ, ◌≡◌, ◌-◌, ◌<◌, ◌≤◌, ◌==◌, ◌⊎◌, true, false, [], length, Some, None}
use Rattle.sh_shape.specs.Classes.{class_count, width}
use Rattle.sh_shape.specs.Places.{slot_places}
use Rattle.sh_slots.specs.declared.hand.SlotRef.{SlotRef}
use Rattle.sh_slots.specs.declared.hand.KeyRef.{KeyRef}
use Rattle.sh_slots.specs.declared.hand.Hand.TheVariants.{Idle, Removing, Leaving, Finishing, ToPut, Tying, Ringing}
use Rattle.sh_slots.specs.declared.hand.Hand.TheVariants.{RingTying, Filling, Looking}
use Rattle.sh_slots.specs.declared.hand.Sight.{Sight}
use Rattle.sh_slots.specs.Slots.{same_slot, name_at}
use Rattle.sh_step.specs.declared.body.Body.{Body}
use Rattle.sh_step.specs.declared.action.PageName.{PageName}
use Rattle.sh_step.specs.declared.action.SlotName.{SlotName}
use Rattle.sh_step.specs.declared.action.Action.{Action}
use Rattle.sh_step.specs.declared.action.Action.TheVariants as action
use Rattle.sh_step.specs.declared.moves.Move.{Move}
use Rattle.sh_step.specs.declared.moves.Move.TheVariants as move
use Rattle.sh_step.specs.Collections.{has, noted}
use Rattle.sh_step.specs.Moves.{move_of}
use Rattle.sh_step.specs.Plans.{Plan, heap_pages, shard_of, local}
use Rattle.sh_step.specs.Rows.{class_word_noted, all_mine, is_read}

-- the key names this slot of the heap
pub record Named (plan : Plan) (k : ℕ) (x : KeyRef) : Type 0 where
  pub unpacks : plan.keys.unpack k ≡ Some x
  pub page : x.page < heap_pages plan
  pub slot : x.slot < slot_places

-- the heap has the page with that name
pub record HasPage (plan : Plan) (y : PageName) : Type 0 where
  pub shard : y.shard < plan.shards
  pub page : y.page < plan.pages

-- the page on which a slot of that name is
abbrev pub its_page : SlotName → PageName
its_page y = record { shard = y.shard; page = y.page }

-- the heap has the slot
abbrev pub SlotWithin : Plan → SlotRef → Type 0
SlotWithin plan x = (x.page < heap_pages plan) × (x.slot < slot_places)

-- the page is of the shard that the pass owns
abbrev pub Owns : Plan → Body → ℕ → Type 0
Owns plan p q = p.owned ≡ Some (shard_of plan q)

-- the pass has a hold on the key
abbrev pub Holds : Body → ℕ → Type 0
Holds p k = has (λ j. j == k) p.holds ≡ true

-- the slot is its own to fill
abbrev pub HasMine : Body → SlotRef → Type 0
HasMine p x = has (same_slot x) p.mine ≡ true

-- what a move asks of the part of the pass that does it: first the hand
abbrev pub May : Plan → Body → Move → Type 0
May plan p (move.EnterGet k x) = (p.hand ≡ Idle) × Named plan k x × (length p.holds < 16)
May plan p (move.EnterRemove k x) = (p.hand ≡ Idle) × Named plan k x
May plan p (move.Mark k x) = (p.hand ≡ Removing k) × Named plan k x
May plan p (move.Drop x) = p.hand ≡ Leaving x
May plan p (move.DropHold k x) = (p.hand ≡ Idle) × Named plan k x × Holds p k
May plan p (move.ReadEnding x g s) = (p.hand ≡ Finishing x g s) × (is_read (name_at x g) s ≡ false)
May plan p (move.Finish x g) = (s : Sight) × (p.hand ≡ Finishing x g s)
May plan p (move.FillSlot x v) = (p.hand ≡ Idle) × SlotWithin plan x × Owns plan p x.page × HasMine p x
    × (0 < class_word_noted p x.page) × (length v ≤ width (class_word_noted p x.page - 1))
May plan p (move.Fill x v i c) = (p.hand ≡ Filling x v i) × (i < length v) × (class_word_noted p x.page ≡ c)
May plan p (move.Publish x v) = (i : ℕ) × (p.hand ≡ Filling x v i) × (length v ≤ i)
May plan p (move.ReadClass k x) = (p.hand ≡ Idle) × Named plan k x × Holds p k
May plan p (move.ReadLength k x) = (p.hand ≡ Idle) × Named plan k x × Holds p k
May plan p (move.ReadWord k x c i) = (n : ℕ) × (p.hand ≡ Idle) × Named plan k x × (noted k p.class_words ≡ Some c)
    × (noted k p.lengths ≡ Some n) × Holds p k × (i < n)
May plan p (move.Peek x) = (p.hand ≡ Idle) × SlotWithin plan x
May plan p (move.Look k x) = (p.hand ≡ Idle) × Named plan k x
May plan p (move.LookOn k x s) = (p.hand ≡ Looking k x s) × (is_read x s ≡ false)
May plan p (move.LookAgain k x s) = (p.hand ≡ Looking k x s) × (is_read x s ≡ true)
May plan p (move.ReadPage q) = (p.hand ≡ Idle) × (q < heap_pages plan) × Owns plan p q
May plan p (move.SetClass q c) = (n : ℕ) × (p.hand ≡ Idle) × (q < heap_pages plan) × Owns plan p q
    × (noted q p.classes ≡ Some n) × ((n ≡ 0) ⊎ (all_mine p q n ≡ true)) × (c < class_count)
May plan p (move.Take q) = (p.hand ≡ Idle) × (q < heap_pages plan) × Owns plan p q × (0 < class_word_noted p q)
    × (noted q p.cursors ≡ None)
May plan p (move.Follow q s) = (p.hand ≡ Idle) × (q < heap_pages plan) × Owns plan p q × (noted q p.cursors ≡ Some s)
May plan p (move.Put x) = p.hand ≡ ToPut x
May plan p (move.PutSlot x) = (p.hand ≡ Idle) × SlotWithin plan x × Owns plan p x.page × HasMine p x
May plan p (move.Tie x l r) = p.hand ≡ Tying x l r
May plan p (move.Adopt n) = (p.hand ≡ Idle) × (p.owned ≡ None) × (n < plan.shards)
May plan p (move.Leave n) = (p.hand ≡ Idle) × (p.owned ≡ Some n) × (p.mine ≡ []) × (p.cursors ≡ []) × (p.armed ≡ [])
    × (p.bell_cursor ≡ None)
May plan p (move.Arm q) = (p.hand ≡ Idle) × (q < heap_pages plan) × Owns plan p q × (0 < class_word_noted p q)
    × (noted q p.cursors ≡ None) × (has (λ x. x == q) p.armed ≡ false)
May plan p (move.Ring q) = p.hand ≡ Ringing q
May plan p (move.RingTie q l) = p.hand ≡ RingTying q l
May plan p (move.TakeBell n) = (p.hand ≡ Idle) × (p.owned ≡ Some n) × (p.bell_cursor ≡ None)
May plan p (move.FollowBell q) = (p.hand ≡ Idle) × (p.bell_cursor ≡ Some q)

-- the names of a page and of a slot
abbrev pub page_name : Plan → ℕ → PageName
page_name plan q = record { shard = shard_of plan q; page = local plan q }

abbrev pub slot_name : Plan → SlotRef → SlotName
slot_name plan x = record { shard = shard_of plan x.page; page = local plan x.page; slot = x.slot }

-- the action of a move
abbrev pub action_of : Plan → Move → Action
action_of plan (move.EnterGet k x) = action.EnterGet k
action_of plan (move.EnterRemove k x) = action.EnterRemove k
action_of plan (move.Mark k x) = action.Mark
action_of plan (move.Drop x) = action.Drop
action_of plan (move.DropHold k x) = action.DropHold k
action_of plan (move.ReadEnding x g s) = action.ReadEnding
action_of plan (move.Finish x g) = action.Finish
action_of plan (move.FillSlot x v) = action.FillSlot (slot_name plan x) v
action_of plan (move.Fill x v i c) = action.Fill
action_of plan (move.Publish x v) = action.Publish
action_of plan (move.ReadClass k x) = action.ReadClass k
action_of plan (move.ReadLength k x) = action.ReadLength k
action_of plan (move.ReadWord k x c i) = action.ReadWord k i
action_of plan (move.Peek x) = action.Peek (slot_name plan x)
action_of plan (move.Look k x) = action.Look k
action_of plan (move.LookOn k x s) = action.LookOn
action_of plan (move.LookAgain k x s) = action.LookAgain
action_of plan (move.ReadPage q) = action.ReadPage (page_name plan q)
action_of plan (move.SetClass q c) = action.SetClass (page_name plan q) c
action_of plan (move.Take q) = action.Take (page_name plan q)
action_of plan (move.Follow q s) = action.Follow (page_name plan q)
action_of plan (move.Put x) = action.Put
action_of plan (move.PutSlot x) = action.PutSlot (slot_name plan x)
action_of plan (move.Tie x l r) = action.Tie
action_of plan (move.Adopt n) = action.Adopt n
action_of plan (move.Leave n) = action.Leave
action_of plan (move.Arm q) = action.Arm (page_name plan q)
action_of plan (move.Ring q) = action.Ring
action_of plan (move.RingTie q l) = action.RingTie
action_of plan (move.TakeBell n) = action.TakeBell
action_of plan (move.FollowBell q) = action.FollowBell

-- The table gives an action its move exactly if the move may be done. A move that it gives may be done, and is the
-- action's. A move that may be done is the one that the table gives its action
abbrev pub GivesWhatMayBe : Type 0
GivesWhatMayBe = (plan : Plan) (p : Body) (x : Action) (m : Move) → move_of plan p x ≡ Some m → May plan p m
    × (action_of plan m ≡ x)

abbrev pub GivesAllThatMayBe : Type 0
GivesAllThatMayBe = (plan : Plan) (p : Body) (m : Move) → May plan p m → move_of plan p (action_of plan m) ≡ Some m
