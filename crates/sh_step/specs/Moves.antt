-- Moves: actions whose condition holds, with what they name looked up, and their rows: the table.
use Rattle.std.specs.Prelude.{ℕ, ◌≡◌, ◌-◌, ◌==◌, nat_lt, nat_le, cond, not, ◌&&◌, ◌||◌, Bool, true, false, length}
use Rattle.std.specs.Prelude.{Option, Some, None, is_some, option_map, option_and_then}
use Rattle.std.specs.Bool.{then_some}
use Rattle.sh_key.specs.declared.parts.Parts.{Parts}
use Rattle.sh_shape.specs.Classes.{class_count, width}
use Rattle.sh_shape.specs.Shape.{Numbers}
use Rattle.sh_shape.specs.Places.{pages_of, slot_places}
use Rattle.sh_slots.specs.declared.hand.Hand.TheVariants.{Removing, Leaving, Finishing, ToPut, Tying, Ringing}
use Rattle.sh_slots.specs.declared.hand.Hand.TheVariants.{RingTying, Filling, Looking}
use Rattle.sh_slots.specs.declared.hand.SlotRef.{SlotRef}
use Rattle.sh_slots.specs.declared.hand.KeyRef.{KeyRef}
use Rattle.sh_slots.specs.Slots.{same_slot, name_at}
use Rattle.sh_step.specs.declared.action.Action.{Action}
use Rattle.sh_step.specs.declared.action.Action.TheVariants as action
use Rattle.sh_step.specs.declared.action.PageName.{PageName}
use Rattle.sh_step.specs.declared.action.SlotName.{SlotName}
use Rattle.sh_step.specs.declared.body.Body.{Body}
use Rattle.sh_step.specs.declared.step.Step.{Step}
use Rattle.sh_step.specs.declared.moves.Move.{Move}
use Rattle.sh_step.specs.declared.moves.Move.TheVariants as move
use Rattle.sh_step.specs.Collections.{has, noted, without}
use Rattle.sh_step.specs.declared.operation.Operation.TheVariants.{Store}
use Rattle.sh_step.specs.Parts.{newcomer}
use Rattle.sh_step.specs.Plans.{Plan, heap_pages, page_of, slot_of}
use Rattle.sh_step.specs.Rows.{Row, idle, own, class_word_noted, no_cursor, all_mine, enter_get, enter_remove, mark}
use Rattle.sh_step.specs.Rows.{drop_hand, drop_key, finish, fill_slot, fill_in, publish, read_class, read_length}
use Rattle.sh_step.specs.Rows.{read_word, read_page, set_class, take_page, follow, put_at, tie, adopt, leave, arm, ring}
use Rattle.sh_step.specs.Rows.{ring_tie, take_bell, follow_bell, look, look_on, look_again, is_read}
use Rattle.sh_step.specs.Rows.{peek, read_ending}

-- the shape has the place of a key of these parts
abbrev pub has_place : Numbers → Parts → Bool
has_place shape p = nat_lt p.shard shape.shards && nat_lt p.page (pages_of shape) && nat_lt p.slot slot_places

-- the place that a key, a page's name or a slot's name names, if the shape has it
abbrev pub place_named : Plan → ℕ → Option KeyRef
place_named plan k = elim (plan.keys.unpack k) [
  | Some x ↦ cond (nat_lt x.page (heap_pages plan) && nat_lt x.slot slot_places)
      (Some x) None
  | None ↦ None
]

abbrev pub page_named : Plan → PageName → Option ℕ
page_named plan x = cond (nat_lt x.shard plan.shards && nat_lt x.page plan.pages) (Some (page_of plan x)) None

abbrev pub slot_named : Plan → SlotName → Option SlotRef
slot_named plan x = cond (nat_lt x.shard plan.shards && nat_lt x.page plan.pages && nat_lt x.slot slot_places)
    (Some (slot_of plan x)) None

-- f of the place that a key, a page's name or a slot's name names, or nothing if the heap has no such place
abbrev pub named : {A : Type 0} → Plan → ℕ → (KeyRef → Option A) → Option A
named plan k f = option_and_then f (place_named plan k)

abbrev pub paged : {A : Type 0} → Plan → PageName → (ℕ → Option A) → Option A
paged plan y f = option_and_then f (page_named plan y)

abbrev pub slotted : {A : Type 0} → Plan → SlotName → (SlotRef → Option A) → Option A
slotted plan y f = option_and_then f (slot_named plan y)

-- the conditions: the move of an action by a pass with this part, if the action may be done
unfoldable pub move_of : Plan → Body → Action → Option Move
move_of plan p (action.EnterGet k) = named plan k
    (λ x. then_some (idle p && nat_lt (length p.holds) 16) (move.EnterGet k x))
move_of plan p (action.EnterRemove k) = named plan k (λ x. then_some (idle p) (move.EnterRemove k x))
move_of plan p action.Mark = elim (p.hand) [ Removing k ↦ named plan k (λ x. Some (move.Mark k x)) | _ ↦ None ]
move_of plan p action.Drop = elim (p.hand) [ Leaving x ↦ Some (move.Drop x) | _ ↦ None ]
move_of plan p (action.DropHold k) = named plan k
    (λ x. then_some (idle p && has (λ j. j == k) p.holds) (move.DropHold k x))
move_of plan p action.ReadEnding = elim (p.hand)
    [ Finishing x g s ↦ then_some (not (is_read (name_at x g) s)) (move.ReadEnding x g s) | _ ↦ None ]
move_of plan p action.Finish = elim (p.hand) [ Finishing x g s ↦ Some (move.Finish x g) | _ ↦ None ]
move_of plan p (action.FillSlot y v) = slotted plan y (λ x. then_some
    (idle p && own plan p x.page && has (same_slot x) p.mine && nat_lt 0 (class_word_noted p x.page)
    && nat_le (length v) (width (class_word_noted p x.page - 1))) (move.FillSlot x v))
move_of plan p action.Fill = elim (p.hand) [
  | Filling x v n ↦ then_some (nat_lt n (length v))
      (move.Fill x v n (class_word_noted p x.page))
  | _ ↦ None
]
move_of plan p action.Publish = elim (p.hand)
    [ Filling x v n ↦ then_some (nat_le (length v) n) (move.Publish x v) | _ ↦ None ]
move_of plan p (action.ReadClass k) = named plan k
    (λ x. then_some (idle p && has (λ j. j == k) p.holds) (move.ReadClass k x))
move_of plan p (action.ReadLength k) = named plan k
    (λ x. then_some (idle p && has (λ j. j == k) p.holds) (move.ReadLength k x))
move_of plan p (action.ReadWord k i) = named plan k (λ x. elim (noted k p.class_words) [
  | Some c ↦ elim (noted k p.lengths)
      [ Some n ↦ then_some (idle p && has (λ j. j == k) p.holds && nat_lt i n) (move.ReadWord k x c i) | None ↦ None ]
  | None ↦ None
])
move_of plan p (action.Peek y) = slotted plan y (λ x. then_some (idle p) (move.Peek x))
move_of plan p (action.Look k) = named plan k (λ x. then_some (idle p) (move.Look k x))
move_of plan p action.LookOn = elim (p.hand)
    [ Looking k x s ↦ then_some (not (is_read x s)) (move.LookOn k x s) | _ ↦ None ]
move_of plan p action.LookAgain = elim (p.hand)
    [ Looking k x s ↦ then_some (is_read x s) (move.LookAgain k x s) | _ ↦ None ]
move_of plan p (action.ReadPage y) = paged plan y (λ q. then_some (idle p && own plan p q) (move.ReadPage q))
move_of plan p (action.SetClass y c) = paged plan y (λ q. elim (noted q p.classes) [
  | Some n ↦ then_some (idle p && own plan p q && ((n == 0) || all_mine p q n) && nat_lt c class_count)
      (move.SetClass q c)
  | None ↦ None
])
move_of plan p (action.Take y) = paged plan y
    (λ q. then_some (idle p && own plan p q && nat_lt 0 (class_word_noted p q) && no_cursor p q) (move.Take q))
move_of plan p (action.Follow y) = paged plan y (λ q. elim (noted q p.cursors)
    [ Some s ↦ then_some (idle p && own plan p q) (move.Follow q s) | None ↦ None ])
move_of plan p action.Put = elim (p.hand) [ ToPut x ↦ Some (move.Put x) | _ ↦ None ]
move_of plan p (action.PutSlot y) = slotted plan y
    (λ x. then_some (idle p && own plan p x.page && has (same_slot x) p.mine) (move.PutSlot x))
move_of plan p action.Tie = elim (p.hand) [ Tying x l r ↦ Some (move.Tie x l r) | _ ↦ None ]
move_of plan p (action.Adopt n) = elim (p.owned)
    [ None ↦ then_some (idle p && nat_lt n plan.shards) (move.Adopt n) | _ ↦ None ]
move_of plan p action.Leave = elim (p.owned) [
  | Some n ↦ then_some (idle p && (length p.mine == 0) && (length p.cursors == 0) &&
      (length p.armed == 0) && (elim (p.bell_cursor) [ None ↦ true | _ ↦ false ])) (move.Leave n)
  | None ↦ None
]
move_of plan p (action.Arm y) = paged plan y (λ q. then_some (idle p && own plan p q && nat_lt 0 (class_word_noted p q)
    && no_cursor p q && not (has (λ x. x == q) p.armed)) (move.Arm q))
move_of plan p action.Ring = elim (p.hand) [ Ringing q ↦ Some (move.Ring q) | _ ↦ None ]
move_of plan p action.RingTie = elim (p.hand) [ RingTying q l ↦ Some (move.RingTie q l) | _ ↦ None ]
move_of plan p action.TakeBell = elim (p.owned) [
  | Some n ↦ then_some (idle p && (elim (p.bell_cursor) [ None ↦ true | _ ↦ false ]))
      (move.TakeBell n)
  | None ↦ None
]
move_of plan p action.FollowBell = elim (p.bell_cursor)
    [ Some q ↦ then_some (idle p) (move.FollowBell q) | None ↦ None ]

-- the row of a move
abbrev pub row_of : Plan → Body → Move → Row
row_of plan p (move.EnterGet k x) = enter_get plan p k x
row_of plan p (move.EnterRemove k x) = enter_remove plan p k x
row_of plan p (move.Mark k x) = mark p k x
row_of plan p (move.Drop x) = drop_hand p x
row_of plan p (move.DropHold k x) = drop_key p k x
row_of plan p (move.ReadEnding x g s) = read_ending p x g s
row_of plan p (move.Finish x g) = finish plan p x g
row_of plan p (move.FillSlot x v) = fill_slot p x v
row_of plan p (move.Fill x v n c) = fill_in p x v n c
row_of plan p (move.Publish x v) = publish plan p x v
row_of plan p (move.ReadClass k x) = read_class p k x
row_of plan p (move.ReadLength k x) = read_length p k x
row_of plan p (move.ReadWord k x c i) = read_word p k x c i
row_of plan p (move.Peek x) = peek p x
row_of plan p (move.Look k x) = look p k x
row_of plan p (move.LookOn k x s) = look_on p k x s
row_of plan p (move.LookAgain k x s) = look_again p k x s
row_of plan p (move.ReadPage q) = read_page p q
row_of plan p (move.SetClass q c) = set_class p q c
row_of plan p (move.Take q) = take_page p q
row_of plan p (move.Follow q s) = follow p q s
row_of plan p (move.Put x) = put_at p x
row_of plan p (move.PutSlot x) = put_at (record p { mine = without (same_slot x) p.mine }) x
row_of plan p (move.Tie x l r) = tie p x l r
row_of plan p (move.Adopt n) = adopt p n
row_of plan p (move.Leave n) = leave p n
row_of plan p (move.Arm q) = arm p q
row_of plan p (move.Ring q) = ring plan p q
row_of plan p (move.RingTie q l) = ring_tie p q l
row_of plan p (move.TakeBell n) = take_bell plan p n
row_of plan p (move.FollowBell q) = follow_bell plan p q

-- the table: the row of an action's move
unfoldable pub row : Plan → Body → Action → Option Row
row plan p a = option_map (row_of plan p) (move_of plan p a)

-- the place and the operation of a row
abbrev pub step_of : Row → Step
step_of r = record { place = r.place; operation = r.operation }

-- The step of a move, which does not depend on the part. It is the step of its row for any part, here for the part of a
-- pass that has done nothing yet
abbrev pub step_at : Plan → Move → Step
step_at plan m = step_of (row_of plan newcomer m)

-- the step of a move's row is the same for every part
abbrev pub StepsLookAtNoPart : Type 0
StepsLookAtNoPart = (plan : Plan) (p : Body) (m : Move) → step_of (row_of plan p m) ≡ step_at plan m

-- neither what is left of the part nor what is replied depends on the word found
abbrev pub IsBlind : Row → Type 0
IsBlind r = (n m : ℕ) → (r.part n ≡ r.part m) × (r.reply n ≡ r.reply m)

-- the row of each move that stores, and so returns no word, is blind
abbrev pub StoresAreBlind : Type 0
StoresAreBlind = (plan : Plan) (p : Body) (m : Move) (new : ℕ) → (row_of plan p m).operation ≡ Store new
    → IsBlind (row_of plan p m)

abbrev pub is_enabled : Plan → Body → Action → Bool
is_enabled plan p a = is_some (move_of plan p a)
