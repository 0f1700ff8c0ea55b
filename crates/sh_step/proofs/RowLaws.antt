-- A move that may be done is what the table gives the move's action.
use Rattle.std.proofs.Common.{◌≡◌, ℕ, ◌-◌, ◌<◌, ◌==◌, ◌&&◌, ◌||◌, ◌∙◌, length, refl, ap, Option, Some, None}
use Rattle.std.specs.Prelude.{nat_lt, option_and_then}
use Rattle.std.specs.Bool.{then_some}
use Rattle.sh_shape.specs.Classes.{width}
use Rattle.sh_slots.specs.declared.hand.SlotRef.{SlotRef}
use Rattle.sh_step.specs.declared.body.Body.{Body}
use Rattle.sh_step.specs.declared.moves.Move.{Move}
use Rattle.sh_step.specs.declared.moves.Move.TheVariants as move
use Rattle.sh_step.specs.Collections.{noted}
use Rattle.sh_step.specs.Conditions.{May, SlotWithin, action_of, page_name, slot_name, GivesAllThatMayBe}
use Rattle.sh_step.specs.Moves.{move_of, row_of, row, page_named, slot_named}
use Rattle.sh_step.specs.Plans.{Plan, heap_pages}
use Rattle.sh_step.specs.Rows.{idle, own, all_mine, class_word_noted}
use Rattle.sh_step.proofs.LookupLaws.{is_place, is_page, is_slot}
use Rattle.sh_step.proofs.PageLaws.{has_page, page_of_name, slot_of_name}
use Rattle.sh_step.proofs.PartTests.{is_idle, is_own, is_none, is_no_cursor, is_empty, zero_or}
use Rattle.sh_step.proofs.Truths.{lt_true, le_true}

module _ (plan : Plan) (p : Body) where
  -- a page and a slot of the heap are what their names name
  page_at : (q : ℕ) → q < heap_pages plan → page_named plan (page_name plan q) ≡ Some q
  page_at q below = is_page plan (page_name plan q) (has_page plan q below) ∙ ap (λ n. Some n) (page_of_name plan q)

  slot_at : (x : SlotRef) → SlotWithin plan x → slot_named plan (slot_name plan x) ≡ Some x
  slot_at x within = is_slot plan (slot_name plan x) (has_page plan x.page within.0) within.1
      ∙ ap (λ (y : SlotRef). Some y) (slot_of_name plan x)

  given : (m : Move) → May plan p m → move_of plan p (action_of plan m) ≡ Some m
  unfolding move_of
  given (move.EnterGet k x) h = rw (is_place plan k x h.1, is_idle p h.0, lt_true (length p.holds) 16 h.2) refl
  given (move.EnterRemove k x) h = rw (is_place plan k x h.1, is_idle p h.0) refl
  given (move.Mark k x) h = rw (h.0, is_place plan k x h.1) refl
  given (move.Drop x) h = rw h refl
  given (move.DropHold k x) h = rw (is_place plan k x h.1, is_idle p h.0, h.2) refl
  given (move.ReadEnding x g s) h = rw (h.0, h.1) refl
  given (move.Finish x g) h = rw h.1 refl
  given (move.FillSlot x v) h = rw (
    slot_at x h.1,
    is_idle p h.0,
    is_own plan p x.page h.2,
    h.3,
    lt_true 0 (class_word_noted p x.page) h.4,
    le_true (length v) (width (class_word_noted p x.page - 1)) h.5,
  ) refl
  given (move.Fill x v i c) h = rw (h.0, lt_true i (length v) h.1, h.2) refl
  given (move.Publish x v) h = rw (h.1, le_true (length v) h.0 h.2) refl
  given (move.ReadClass k x) h = rw (is_place plan k x h.1, is_idle p h.0, h.2) refl
  given (move.ReadLength k x) h = rw (is_place plan k x h.1, is_idle p h.0, h.2) refl
  given (move.ReadWord k x c i) h =
      rw (is_place plan k x h.2, h.3, h.4, is_idle p h.1, h.5, lt_true i h.0 h.6) refl
  given (move.Peek x) h = rw (slot_at x h.1, is_idle p h.0) refl
  given (move.Look k x) h = rw (is_place plan k x h.1, is_idle p h.0) refl
  given (move.LookOn k x s) h = rw (h.0, h.1) refl
  given (move.LookAgain k x s) h = rw (h.0, h.1) refl
  given (move.ReadPage q) h = rw (page_at q h.1, is_idle p h.0, is_own plan p q h.2) refl
  given (move.SetClass q c) h =
      ap (option_and_then (λ q. elim (noted q p.classes) as (λ _. Option Move) [
        | Some n ↦ then_some (idle p && own plan p q && ((n == 0) || all_mine p q n) && nat_lt c 8) (move.SetClass q c)
        | None ↦ None
      ])) (page_at q h.2)
      ∙ (ap (λ (o : Option ℕ). elim o as (λ _. Option Move) [
        | Some n ↦ then_some (idle p && own plan p q && ((n == 0) || all_mine p q n) && nat_lt c 8) (move.SetClass q c)
        | None ↦ None
      ]) h.4
      ∙ rw (is_idle p h.1, is_own plan p q h.3, zero_or h.0 (all_mine p q h.0) h.5, lt_true c 8 h.6) refl)
  given (move.Take q) h =
      rw (
        page_at q h.1,
        is_idle p h.0,
        is_own plan p q h.2,
        lt_true 0 (class_word_noted p q) h.3,
        is_no_cursor p q h.4,
      ) refl
  given (move.Follow q s) h =
      ap (option_and_then (λ q. elim (noted q p.cursors) as (λ _. Option Move)
      [ Some s ↦ then_some (idle p && own plan p q) (move.Follow q s) | None ↦ None ])) (page_at q h.1)
      ∙ (ap (λ (o : Option ℕ). elim o as (λ _. Option Move)
      [ Some s ↦ then_some (idle p && own plan p q) (move.Follow q s) | None ↦ None ]) h.3
      ∙ rw (is_idle p h.0, is_own plan p q h.2) refl)
  given (move.Put x) h = rw h refl
  given (move.PutSlot x) h = rw (slot_at x h.1, is_idle p h.0, is_own plan p x.page h.2, h.3) refl
  given (move.Tie x l r) h = rw h refl
  given (move.Adopt n) h = rw (h.1, is_idle p h.0, lt_true n plan.shards h.2) refl
  given (move.Leave n) h = rw (
    h.1,
    is_idle p h.0,
    is_empty p.mine h.2,
    is_empty p.cursors h.3,
    is_empty p.armed h.4,
    is_none p.bell_cursor h.5,
  ) refl
  given (move.Arm q) h =
      rw (
        page_at q h.1,
        is_idle p h.0,
        is_own plan p q h.2,
        lt_true 0 (class_word_noted p q) h.3,
        is_no_cursor p q h.4,
        h.5,
      ) refl
  given (move.Ring q) h = rw h refl
  given (move.RingTie q l) h = rw h refl
  given (move.TakeBell n) h = rw (h.1, is_idle p h.0, is_none p.bell_cursor h.2) refl
  given (move.FollowBell q) h = rw (h.1, is_idle p h.0) refl

  -- so its row is that of the action
  pub row_of_may : (m : Move) → May plan p m → row plan p (action_of plan m) ≡ Some (row_of plan p m)
  unfolding row
  row_of_may m may = rw (given m may) refl

pub gives_all_that_may_be : GivesAllThatMayBe
gives_all_that_may_be plan p m may = given plan p m may
