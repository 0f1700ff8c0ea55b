-- When an owner may step: the conditions of its actions, by what it knows of its pages.
use Rattle.std.proofs.Common.{◌≡◌, ℕ, zero, suc, ◌+◌, ◌-◌, ◌*◌, ◌<◌, ◌≤◌, ◌==◌, ◌&&◌, inl, inr, Bool, true, false, Some}
use Rattle.std.proofs.Common.{None, length, List, [], refl, ap, ◌∙◌, sym, subst, arith}
use Rattle.std.proofs.lemmas.Nat.{div-mul-add}
use Rattle.sh_key.specs.Layout.{Layout}
use Rattle.sh_shape.specs.Classes.{width, slots}
use Rattle.sh_slots.specs.declared.hand.Hand.TheVariants.{Idle, Filling, Tying}
use Rattle.sh_slots.specs.declared.hand.SlotRef.{SlotRef}
use Rattle.sh_slots.specs.Slots.{same_slot, slot_refs}
use Rattle.sh_step.specs.declared.action.Action.{Action}
use Rattle.sh_step.specs.declared.action.Action.TheVariants as action
use Rattle.sh_step.specs.declared.action.PageName.{PageName}
use Rattle.sh_step.specs.declared.moves.Move.{Move}
use Rattle.sh_step.specs.declared.moves.Move.TheVariants as move
use Rattle.sh_step.specs.Collections.{has, noted, every}
use Rattle.sh_step.specs.Conditions.{HasPage, Owns, May, action_of, page_name}
use Rattle.sh_step.specs.Plans.{Plan, plan_of, shard_of, heap_pages, page_number}
use Rattle.sh_step.specs.Rows.{own, all_mine, class_word_noted}
use Rattle.sh_step.proofs.PartTests.{is_own}
use Rattle.sh_step.proofs.PageLaws.{page_within, name_of_page}
use Rattle.sh_step.proofs.RowLaws.{row_of_may}
use Rattle.sh_table.specs.Steps.{MayDo}
use Rattle.sh_pass.specs.Passes.{Caller}
use Rattle.sh_pass.specs.Owners.{MayTouch, MayGive, own_body, heap_page, heap_slot, slot_in, seen_page}

pub home_is : (plan : Plan) (n p : ℕ) → p < plan.pages → shard_of plan (n * plan.pages + p) ≡ n
unfolding shard_of
home_is plan n p h = div-mul-add n plan.pages p h

every_of : (f : SlotRef → Bool) (q s n : ℕ) → ((t : ℕ) → s ≤ t → t < s + n → f (record { page = q; slot = t }) ≡ true)
    → every f (slot_refs q s n) ≡ true
unfolding every slot_refs
every_of f q s zero h = refl
every_of f q s (suc n) h = ap (λ b. b && every f (slot_refs q (s + 1) n)) (h s (omega arith) (omega arith))
    ∙ every_of f q (s + 1) n (λ t above below. h t (omega arith) (omega arith))

pub owns_it : (layout : Layout) (v : Caller) (x : PageName) → MayTouch v x
    → own (plan_of layout v.view.shape) (own_body v) (heap_page v x) ≡ true
owns_it layout v x m = is_own (plan_of layout v.view.shape) (own_body v) (heap_page v x)
    (m.owned ∙ ap (λ n. Some n) (sym (home_is (plan_of layout v.view.shape) x.shard x.page m.page)))

module _ (layout : Layout) (v : Caller) where
  abbrev heap_plan : Plan
  heap_plan = plan_of layout v.view.shape

  -- a move that is allowed is that of its action
  may_do : (m : Move) → May heap_plan (own_body v) m → MayDo layout v.view (action_of heap_plan m) m
  may_do m may = row_of_may heap_plan (own_body v) m may

  pub may_tie_owned : (x : SlotRef) (l : ℕ) (ring : Bool) → (own_body v).hand ≡ Tying x l ring
      → MayDo layout v.view action.Tie (move.Tie x l ring)
  may_tie_owned x l ring is = may_do (move.Tie x l ring) is

  pub may_fill : (x : SlotRef) (value : List ℕ) (i class_word : ℕ) → (own_body v).hand ≡ Filling x value i
      → i < length value → class_word_noted (own_body v) x.page ≡ class_word
      → MayDo layout v.view action.Fill (move.Fill x value i class_word)
  may_fill x value i class_word is less class = may_do (move.Fill x value i class_word) (is, less, class)

  pub may_publish : (x : SlotRef) (value : List ℕ) → (own_body v).hand ≡ Filling x value (length value)
      → MayDo layout v.view action.Publish (move.Publish x value)
  may_publish x value is = may_do (move.Publish x value) (length value, is, omega arith)

  pub may_take_bell : (n : ℕ) → (own_body v).hand ≡ Idle → (own_body v).owned ≡ Some n → (own_body v).bell_cursor ≡ None
      → MayDo layout v.view action.TakeBell (move.TakeBell n)
  may_take_bell n rests owned none = may_do (move.TakeBell n) (rests, owned, none)

  pub may_follow_bell : (q : ℕ) → (own_body v).hand ≡ Idle → (own_body v).bell_cursor ≡ Some q
      → MayDo layout v.view action.FollowBell (move.FollowBell q)
  may_follow_bell q rests at = may_do (move.FollowBell q) (rests, at)

  pub may_adopt : (n : ℕ) → (own_body v).hand ≡ Idle → (own_body v).owned ≡ None → n < v.view.shape.shards
      → MayDo layout v.view (action.Adopt n) (move.Adopt n)
  may_adopt n rests left less = may_do (move.Adopt n) (rests, left, less)

  pub may_leave : (n : ℕ) → (own_body v).hand ≡ Idle → (own_body v).owned ≡ Some n → (own_body v).mine ≡ []
      → (own_body v).cursors ≡ [] → (own_body v).armed ≡ [] → (own_body v).bell_cursor ≡ None
      → MayDo layout v.view action.Leave (move.Leave n)
  may_leave n rests owned mine cursors armed none = may_do (move.Leave n) (rests, owned, mine, cursors, armed, none)

module _ (layout : Layout) (v : Caller) (x : PageName) (m : MayTouch v x) (few : x.shard < v.view.shape.shards) where
  abbrev touched : ℕ
  touched = heap_page v x

  abbrev own_plan : Plan
  own_plan = plan_of layout v.view.shape

  here : HasPage own_plan x
  here = record { shard = few; page = m.page }

  owns : Owns own_plan (own_body v) touched
  owns = m.owned ∙ ap (λ n. Some n) (sym (home_is own_plan x.shard x.page m.page))

  inside : touched < heap_pages own_plan
  unfolding page_number
  inside = page_within own_plan x here

  -- an action that names the page
  by_name : (a : PageName → Action) (done : Move) → MayDo layout v.view (a (page_name own_plan touched)) done
      → MayDo layout v.view (a x) done
  unfolding page_number
  by_name a done may = subst (λ (y : PageName). MayDo layout v.view (a y) done) (name_of_page own_plan x here) may

  pub may_take : 0 < class_word_noted (own_body v) touched → noted touched (own_body v).cursors ≡ None
      → MayDo layout v.view (action.Take x) (move.Take touched)
  may_take class none = by_name (λ y. action.Take y) (move.Take touched)
      (may_do layout v (move.Take touched) (m.idle, inside, owns, class, none))

  pub may_arm : 0 < class_word_noted (own_body v) touched → noted touched (own_body v).cursors ≡ None
      → has (λ r. r == touched) (own_body v).armed ≡ false → MayDo layout v.view (action.Arm x) (move.Arm touched)
  may_arm class none unarmed = by_name (λ y. action.Arm y) (move.Arm touched)
      (may_do layout v (move.Arm touched) (m.idle, inside, owns, class, none, unarmed))

  pub may_follow : (s : ℕ) → noted touched (own_body v).cursors ≡ Some s
      → MayDo layout v.view (action.Follow x) (move.Follow touched s)
  may_follow s at = by_name (λ y. action.Follow y) (move.Follow touched s)
      (may_do layout v (move.Follow touched s) (m.idle, inside, owns, at))

  pub may_read_page : MayDo layout v.view (action.ReadPage x) (move.ReadPage touched)
  may_read_page = by_name (λ y. action.ReadPage y) (move.ReadPage touched)
      (may_do layout v (move.ReadPage touched) (m.idle, inside, owns))

  pub may_set_class : (class : ℕ) → class < 8 → MayGive (seen_page v touched)
      → MayDo layout v.view (action.SetClass x class) (move.SetClass touched class)
  may_set_class class small (inl blank) = by_name (λ y. action.SetClass y class) (move.SetClass touched class)
      (may_do layout v (move.SetClass touched class) (0, m.idle, inside, owns, blank, inl refl, small))
  may_set_class class small (inr t) =
      let f : SlotRef → Bool = λ y. has (same_slot y) (own_body v).mine in
      let one : suc t.0 - 1 ≡ t.0 = omega arith in
      let all : all_mine (own_body v) touched (suc t.0) ≡ true = ap (λ c. every f (slot_refs touched 0 (slots c))) one
      ∙ every_of f touched 0 (slots t.0) (λ s low high. t.2 s (omega arith)) in
      by_name (λ y. action.SetClass y class) (move.SetClass touched class)
      (may_do layout v (move.SetClass touched class) (suc t.0, m.idle, inside, owns, t.1, inr all, small))

  pub may_fill_slot : (s : ℕ) (value : List ℕ) → s < 48 → has (same_slot (heap_slot v x s)) (own_body v).mine ≡ true
      → 0 < class_word_noted (own_body v) touched → length value ≤ width (class_word_noted (own_body v) touched - 1)
      → MayDo layout v.view (action.FillSlot (slot_in x s) value) (move.FillSlot (heap_slot v x s) value)
  may_fill_slot s value low mine class fits = by_name (λ y. action.FillSlot (slot_in y s) value)
      (move.FillSlot (heap_slot v x s) value)
      (may_do layout v (move.FillSlot (heap_slot v x s) value) (m.idle, (inside, low), owns, mine, class, fits))

  pub may_put_slot : (s : ℕ) → s < 48 → has (same_slot (heap_slot v x s)) (own_body v).mine ≡ true
      → MayDo layout v.view (action.PutSlot (slot_in x s)) (move.PutSlot (heap_slot v x s))
  may_put_slot s low mine = by_name (λ y. action.PutSlot (slot_in y s)) (move.PutSlot (heap_slot v x s))
      (may_do layout v (move.PutSlot (heap_slot v x s)) (m.idle, (inside, low), owns, mine))
