-- All that holds, over the moves on a state word, a length or a payload word.
use Rattle.std.proofs.Common.{◌≡◌, ◌≢◌, ℕ, ◌+◌, ◌-◌, ◌^◌, ◌<◌, ◌≤◌, ◌==◌, ◌&&◌, ◌||◌, Bool, true, false, cond, List}
use Rattle.std.proofs.Common.{◌∷◌, length, sym, refl, ap, ◌∙◌, subst, arith, Option, Some, None, slice_get, eqb-true}
use Rattle.std.proofs.Common.{eq-eqb}
use Rattle.std.specs.Prelude.{not, nat_lt, bit_or}
use Rattle.sh_slots.specs.declared.hand.SlotRef.{SlotRef}
use Rattle.sh_slots.specs.declared.hand.KeyRef.{KeyRef}
use Rattle.sh_slots.specs.declared.hand.Hand.{Hand}
use Rattle.sh_slots.specs.declared.hand.Hand.TheVariants.{Idle, Removing, Leaving, Finishing, ToPut, Filling}
use Rattle.sh_core.specs.Words.{Words, write}
use Rattle.sh_shape.specs.declared.places.Place.TheVariants.{State}
use Rattle.sh_word.specs.Fields.{Fields, fields_of, word_of}
use Rattle.sh_step.specs.Plans.{Plan, Lawful}
use Rattle.sh_shape.specs.Classes.{width}
use Rattle.sh_shape.proofs.ClassLaws.{slots_few}
use Rattle.sh_slots.specs.Slots.{same_slot, slot_ref_of, name_at, live_at, marked_word}
use Rattle.sh_step.specs.Collections.{total, if1, has, without, noted}
use Rattle.sh_step.specs.declared.body.Body.{Body}
use Rattle.sh_core.specs.Lists.{PutLists, mine_at, in_hand}
use Rattle.sh_core.specs.Placed.{BoundsOf, OwnNotesOf, Agreement}
use Rattle.sh_step.specs.Operations.{operate}
use Rattle.sh_step.specs.declared.operation.Operation.{Operation}
use Rattle.sh_slots.specs.declared.reply.Reply.{Reply}
use Rattle.sh_step.specs.Rows.{Row, hand, own, freed, class_word_noted, enter_get, enter_remove, mark, drop_hand}
use Rattle.sh_step.specs.Rows.{drop_key, finish, fill_slot, fill, publish}
use Rattle.sh_core.specs.Worlds.{World, apply}
use Rattle.sh_core.specs.Tallies.{held, at_slot}
use Rattle.sh_core.specs.Sums.{Sums}
use Rattle.sh_core.proofs.Sums.Totals.{total_at, total_without}
use Rattle.sh_word.proofs.Words.{fields_of-sub, fields_of-or_mark, fields_of-or_present, fields_of-word_of}
use Rattle.sh_core.proofs.Slots.Slots.{same_slot-refl, same_slot-true, if1_same_slot}
use Rattle.sh_core.proofs.Slots.SlotSteps.{leaving, reused_fields, fields_of-entered}
use Rattle.sh_core.proofs.Slots.MarkStep.{sums_mark, is_current}
use Rattle.sh_core.proofs.Slots.SlotSums.{sums_drop, sums_publish, sums_gone, sums_got, room_to_enter, room_few}
use Rattle.sh_core.proofs.Slots.FinishSums.{sums_enter_remove, sums_finish_hand, sums_drop_key}
use Rattle.sh_core.proofs.Slots.FillSums.{sums_fill_slot, sums_fill}
use Rattle.sh_core.proofs.Slots.SumsKinds.{sums_finish_fail, sums_finish_mine, sums_finish_last, found_is}
use Rattle.sh_core.proofs.Slots.SumsKinds.{retired_fields, sums_remove_gone, sums_crowded}
use Rattle.sh_core.proofs.Slots.ClassSums.{bounds_state, bounds_still, bounds_length}
use Rattle.sh_core.proofs.Lists.ListsSteps.{face, lists_frame}
use Rattle.sh_core.proofs.Lists.StackKinds.{apart_pages}
use Rattle.sh_core.proofs.Sums.Tests.{eqb-comm, if1_neither, cond_either}
use Rattle.sh_core.proofs.Sums.ListCounts.{has_some}
use Rattle.sh_core.proofs.Sums.ClassSlots.{room_placed}
use Rattle.sh_slots.specs.declared.hand.Sight.{Sight}
use Rattle.sh_slots.specs.declared.hand.Sight.TheVariants.{Bare}

-- a part that shows the same of lists, bells, duties and owners
abbrev pub Plain : Plan → (ℕ → ℕ) → Body → Body → Type 0
Plain plan class p u = (face plan u ≡ face plan p) × OwnNotesOf plan class u

pub plain_hand : (plan : Plan) (class : ℕ → ℕ) (p q : Body) (b : Bool) (h k : Hand) → Plain plan class p (hand q h)
    → Plain plan class p (hand q k) → Plain plan class p (hand q (cond b h k))
plain_hand plan class p q b h k = cond_either (λ u. Plain plan class p (hand q u)) b h k

-- a step on a state word by a part that shows the same
pub all_state : (plan : Plan) (w : World) (l : PutLists) (a : ℕ) (p : Body) (x : SlotRef) (operation : Operation)
    (part : ℕ → Body) (reply : ℕ → Option Reply) → Agreement plan w l → slice_get w.parts a ≡ Some p
    → (let m : Row = record { place = State x.page x.slot; operation = operation; part = part; reply = reply }
    in Sums plan (apply w a m) l) → Plain plan w.words.class_at p (part (w.words.state_at x.page x.slot))
    → BoundsOf plan (write w.words (State x.page x.slot) (operate operation (w.words.state_at x.page x.slot)))
    → Agreement plan
    (apply w a (record { place = State x.page x.slot; operation = operation; part = part; reply = reply })) l
unfolding apply
all_state plan w l a p x operation part reply old at sums plain bounds = record {
  sums = sums;
  lists = lists_frame plan w.words w.parts l a p (part (w.words.state_at x.page x.slot)) old.lists at plain.0 plain.1;
  bounds = bounds;
}

bounds_count : (plan : Plan) (w : Words) (x : SlotRef) (n : ℕ) (c : ℕ) → BoundsOf plan w → fields_of n
    ≡ record (fields_of (w.state_at x.page x.slot)) { count = c } → BoundsOf plan (write w (State x.page x.slot) n)
bounds_count plan w x n c old e = bounds_still plan w x n old (ap (λ (t : Fields). t.generation) e)
    (ap (λ (t : Fields). t.marked) e) (ap (λ (t : Fields). t.present) e)

pub all_enter_get : (plan : Plan) (w : World) (l : PutLists) (a : ℕ) (p : Body) (k : ℕ) (y : KeyRef) → Lawful plan
    → Agreement plan w l → slice_get w.parts a ≡ Some (hand p Idle) → plan.keys.unpack k ≡ Some y → length p.holds < 16
    → Agreement plan (apply w a (enter_get plan (hand p Idle) k y)) l
all_enter_get plan w l a p k y laws old at name fewer =
    let h = old.lists.own_notes a (hand p Idle) at in
    all_state plan w l a (hand p Idle) (slot_ref_of y) _ _ _ old at
    (sums (live_at y.generation n) (nat_lt (fields_of n).count plan.keys.guard_max) refl refl)
    (cond_either (Plain plan w.words.class_at (hand p Idle)) (live_at y.generation n && nat_lt (fields_of n).count
    plan.keys.guard_max) (record p { holds = k ∷ p.holds; hand = Idle }) (hand p (Leaving (slot_ref_of y))) (refl, h)
    (refl, h))
    (bounds_count plan w.words (slot_ref_of y) (n + 1) _ old.bounds (fields_of-entered n
    (room_to_enter plan w l (slot_ref_of y) laws old.sums))) where
      n : ℕ
      n = w.words.state_at y.page y.slot

      sums : (b c : Bool) → live_at y.generation n ≡ b → nat_lt (fields_of n).count plan.keys.guard_max ≡ c
          → Sums plan (apply w a (enter_get plan (hand p Idle) k y)) l
      sums false c e f = sums_gone plan w l a p k y laws old.sums at name e
      sums true true e f = sums_got plan w l a p k y laws old.sums at name fewer e f
      sums true false e f = sums_crowded plan w l a p k y laws old.sums at name e f

pub all_enter_remove : (plan : Plan) (w : World) (l : PutLists) (a : ℕ) (p : Body) (k : ℕ) (y : KeyRef) → Lawful plan
    → Agreement plan w l → slice_get w.parts a ≡ Some (hand p Idle) → plan.keys.unpack k ≡ Some y
    → Agreement plan (apply w a (enter_remove plan (hand p Idle) k y)) l
all_enter_remove plan w l a p k y laws old at name =
    let h = old.lists.own_notes a (hand p Idle) at in
    all_state plan w l a (hand p Idle) (slot_ref_of y) _ _ _ old at (sums (live_at y.generation n) refl)
    (plain_hand plan w.words.class_at (hand p Idle) p (live_at y.generation n) (Removing k) (Leaving (slot_ref_of y))
    (refl, h) (refl, h))
    (bounds_count plan w.words (slot_ref_of y) (n + 1) _ old.bounds (fields_of-entered n
    (room_to_enter plan w l (slot_ref_of y) laws old.sums))) where
      n : ℕ
      n = w.words.state_at y.page y.slot

      sums : (b : Bool) → live_at y.generation n ≡ b → Sums plan (apply w a (enter_remove plan (hand p Idle) k y)) l
      sums false e = sums_remove_gone plan w l a p k y laws old.sums at name e
      sums true e = sums_enter_remove plan w l a p k y laws old.sums at name e

pub all_mark : (plan : Plan) (w : World) (l : PutLists) (a : ℕ) (p : Body) (k : ℕ) (y : KeyRef) → Lawful plan
    → Agreement plan w l → slice_get w.parts a ≡ Some (hand p (Removing k)) → plan.keys.unpack k ≡ Some y
    → Agreement plan (apply w a (mark (hand p (Removing k)) k y)) l
all_mark plan w l a p k y laws old at name =
    let n : ℕ = w.words.state_at y.page y.slot in
    let c = is_current _ _ (fields_of n) plan w.parts a p k y name at (old.sums.slots (slot_ref_of y)) in
    all_state plan w l a (hand p (Removing k)) (slot_ref_of y) _ _ _ old at
    (sums_mark plan w l a p k y laws old.sums at name) (refl, old.lists.own_notes a (hand p (Removing k)) at)
    (bounds_state plan w.words (slot_ref_of y) (bit_or n (2 ^ 31)) old.bounds
    (let g = old.bounds.generations y.page y.slot in rw (fields_of-or_mark n) g)
    (λ _. old.bounds.lengths y.page y.slot (rw c.0 refl)))

pub all_drop_hand : (plan : Plan) (w : World) (l : PutLists) (a : ℕ) (p : Body) (x : SlotRef) → Agreement plan w l
    → slice_get w.parts a ≡ Some (hand p (Leaving x)) → Agreement plan (apply w a (drop_hand (hand p (Leaving x)) x)) l
all_drop_hand plan w l a p x old at =
    let n : ℕ = w.words.state_at x.page x.slot in
    let h = old.lists.own_notes a (hand p (Leaving x)) at in
    let f = old.sums.slots x in
    let v = leaving plan w.parts a p x at in
    let some : 0 < (fields_of n).count = omega arith in
    all_state plan w l a (hand p (Leaving x)) x _ _ _ old at (sums_drop plan w l a p x old.sums at)
    (plain_hand plan w.words.class_at (hand p (Leaving x)) p
    ((fields_of n).present && (fields_of n).marked && ((fields_of n).count == 1))
    (Finishing x (fields_of n).generation Bare) Idle (refl, h) (refl, h))
    (bounds_count plan w.words x (n - 1) _ old.bounds (fields_of-sub n some))

pub all_drop_key : (plan : Plan) (w : World) (l : PutLists) (a : ℕ) (p : Body) (k : ℕ) (y : KeyRef) → Agreement plan w l
    → slice_get w.parts a ≡ Some (hand p Idle) → plan.keys.unpack k ≡ Some y → has (λ j. j == k) p.holds ≡ true
    → Agreement plan (apply w a (drop_key (hand p Idle) k y)) l
all_drop_key plan w l a p k y old at name is =
    let n : ℕ = w.words.state_at y.page y.slot in
    let x : SlotRef = slot_ref_of y in
    let h = old.lists.own_notes a (hand p Idle) at in
    let f = old.sums.slots x in
    let e = same_slot-refl x in
    let here : if1 (at_slot x (plan.keys.unpack k)) ≡ 1 = rw (name, e) refl in
    let less = total_without (λ j. if1 (at_slot x (plan.keys.unpack j))) (λ j. j == k) 1
    (λ j t. let i = eqb-true j k t in rw i here) p.holds is in
    let v = total_at (held plan x) w.parts a (hand p Idle) at in
    let some : 0 < (fields_of n).count = omega arith in
    all_state plan w l a (hand p Idle) x _ _ _ old at (sums_drop_key plan w l a p k y old.sums at name is)
    (plain_hand plan w.words.class_at (hand p Idle) (freed p k)
    ((fields_of n).present && (fields_of n).marked && ((fields_of n).count == 1))
    (Finishing x (fields_of n).generation Bare) Idle (refl, h) (refl, h))
    (bounds_count plan w.words x (n - 1) _ old.bounds (fields_of-sub n some))

-- one more of `mine`, on a page of the own shard
pub mine_more : (plan : Plan) (class : ℕ → ℕ) (p : Body) (x : SlotRef) → own plan p x.page ≡ true
    → OwnNotesOf plan class p
    → OwnNotesOf plan class (record p { mine = x ∷ p.mine })
unfolding total
mine_more plan class p x mine h = record {
  mines = λ y e. let z = h.mines y e
      in let f = apart_pages plan p.owned x.page y.page mine e in let g : if1 (same_slot y x)
      ≡ 0 = rw (eqb-comm y.page x.page, f) refl in omega arith;
  points = h.points;
  arms = h.arms;
  bell = h.bell;
  notes =
      h.notes;
}

pub mine_less : (plan : Plan) (class : ℕ → ℕ) (p : Body) (x : SlotRef) → has (same_slot x) p.mine ≡ true
    → OwnNotesOf plan class p → OwnNotesOf plan class (record p { mine = without (same_slot x) p.mine })
mine_less plan class p x is h = record {
  mines = λ y e. let z = h.mines y e
      in let t = total_without (λ u. if1 (same_slot y u)) (same_slot x) (if1 (same_slot y x))
      (λ u k. let i = same_slot-true u x k in ap (λ (v : SlotRef). if1 (same_slot y v)) (sym i)) p.mine is
      in omega arith;
  points = h.points;
  arms = h.arms;
  bell = h.bell;
  notes = h.notes;
}

abbrev finish_next : Plan → ℕ → ℕ → ℕ
finish_next plan g n = cond (n == marked_word g)
    (cond (g == plan.keys.gen_max) (word_of (record { generation = g; marked = true; present = false; count = 0 }))
    (word_of (record { generation = g + 1; marked = false; present = false; count = 0 })))
    n

pub all_finish : (plan : Plan) (w : World) (l : PutLists) (a : ℕ) (p : Body) (x : SlotRef) (g : ℕ)
    (sight : Sight) → Agreement plan w l → slice_get w.parts a ≡ Some (hand p (Finishing x g sight)) → Agreement plan
    (apply w a (finish plan (hand p (Finishing x g sight)) x g)) l
all_finish plan w l a p x g sight old at = go (n == marked_word g) (g == plan.keys.gen_max) (own plan p x.page) refl refl
    refl where
      n : ℕ
      n = w.words.state_at x.page x.slot

      h : OwnNotesOf plan w.words.class_at p
      h = old.lists.own_notes a (hand p (Finishing x g sight)) at

      plain : (b c d : Bool) → own plan p x.page ≡ d → Plain plan w.words.class_at (hand p (Finishing x g sight))
          (cond (b && not c) (cond d (hand (record p { mine = x ∷ p.mine }) Idle) (hand p (ToPut x))) (hand p Idle))
      plain false c d e = (refl, h)
      plain true true d e = (refl, h)
      plain true false true e = (refl, mine_more plan w.words.class_at p x e h)
      plain true false false e = (refl, h)

      go : (b c d : Bool) → (n == marked_word g) ≡ b → (g == plan.keys.gen_max) ≡ c → own plan p x.page ≡ d
          → Agreement plan (apply w a (finish plan (hand p (Finishing x g sight)) x g)) l
      go false c d e f o = all_state plan w l a (hand p (Finishing x g sight)) x _ _ _ old at
          (sums_finish_fail plan w l a p x g sight old.sums at e) (plain (n == marked_word g) (g == plan.keys.gen_max)
          (own plan p x.page) refl)
          (let i : finish_next plan g n ≡ n = rw e refl in let P : ℕ → Type 0 = λ m. BoundsOf plan
          (write w.words (State x.page x.slot) m) in subst P (sym i)
          (bounds_still plan w.words x n old.bounds refl refl refl))
      go true true d e f o = all_state plan w l a (hand p (Finishing x g sight)) x _ _ _ old at
          (sums_finish_last plan w l a p x g sight old.sums at e f) (plain (n == marked_word g) (g == plan.keys.gen_max)
          (own plan p x.page) refl)
          (let i : finish_next plan g n ≡ word_of (retired_fields g) = rw (e, f) refl in let P : ℕ
          → Type 0 = λ m. BoundsOf plan (write w.words (State x.page x.slot) m)
          in subst P (sym i) (bounds_state plan w.words x (word_of (retired_fields g)) old.bounds
          (rw (fields_of-word_of (retired_fields g) (omega arith)) range)
          (λ _. old.bounds.lengths x.page x.slot there)))
        where
          s : fields_of n ≡ record { generation = g; marked = true; present = true; count = 0 }
          s = found_is plan w l a p x g sight old.sums at e

          range : (0 < g) × (g ≤ plan.keys.gen_max)
          range = let P : Fields → Type 0 = λ t. (0 < t.generation) × (t.generation ≤ plan.keys.gen_max)
              in subst P s (old.bounds.generations x.page x.slot)

          there : ((fields_of n).present || (fields_of n).marked) ≡ true
          there = rw s refl
      go true false d e f o = all_state plan w l a (hand p (Finishing x g sight)) x _ _ _ old at (sums d o)
          (plain (n == marked_word g) (g == plan.keys.gen_max) (own plan p x.page) refl)
          (let i : finish_next plan g n ≡ word_of (reused_fields g) = rw (e, f) refl in let P : ℕ
          → Type 0 = λ m. BoundsOf plan (write w.words (State x.page x.slot) m)
          in subst P (sym i) (bounds_state plan w.words x (word_of (reused_fields g)) old.bounds
          (rw (fields_of-word_of (reused_fields g) (omega arith)) range)
          (λ z. let y : (false || false) ≡ true = rw (fields_of-word_of (reused_fields g) (omega arith)) at z
          in absurd (cc))))
        where
          s : fields_of n ≡ record { generation = g; marked = true; present = true; count = 0 }
          s = found_is plan w l a p x g sight old.sums at e

          range : (0 < g + 1) × (g + 1 ≤ plan.keys.gen_max)
          range =
              let P : Fields → Type 0 = λ t. (0 < t.generation) × (t.generation ≤ plan.keys.gen_max) in
              let r = subst P s (old.bounds.generations x.page x.slot) in
              let r0 = r.0 in
              let r1 = r.1 in
              let k : g ≢ plan.keys.gen_max = (λ z. let y : (g == plan.keys.gen_max)
              ≡ true = rw z (eq-eqb plan.keys.gen_max plan.keys.gen_max refl) in let v : true ≡ false = sym y ∙ f in cc)
              in (omega arith, grind arith)

          sums : (d : Bool) → own plan p x.page ≡ d → Sums plan (apply w a (finish plan (hand p (Finishing x g sight)) x g)) l
          sums true o = sums_finish_mine plan w l a p x g sight old.sums at e f o
          sums false o = sums_finish_hand plan w l a p x g sight old.sums at e f o

pub all_publish : (plan : Plan) (w : World) (l : PutLists) (a : ℕ) (p : Body) (x : SlotRef) (v : List ℕ) (i : ℕ)
    → Lawful plan → Agreement plan w l → slice_get w.parts a ≡ Some (hand p (Filling x v i)) → length v ≤ i
    → Agreement plan (apply w a (publish plan (hand p (Filling x v i)) x v)) l
all_publish plan w l a p x v i laws old at all =
    let n : ℕ = w.words.state_at x.page x.slot in
    let f = old.sums.slots x in
    let one = if1_same_slot x in
    let t = total_at (in_hand x) w.parts a (hand p (Filling x v i)) at in
    let g = old.bounds.generations x.page x.slot in
    let s = room_placed plan w.words x old.bounds (omega arith) in
    let few = slots_few (w.words.class_at x.page - 1) in
    let fill = (old.sums.parts a (hand p (Filling x v i)) at).1 in
    all_state plan w l a (hand p (Filling x v i)) x _ _ _ old at
    (sums_publish plan w l a p x v i laws old.sums at all
    (laws.names (name_at x (fields_of n).generation) g.0 g.1 s.0 (let small = s.1 in omega arith)))
    (refl, old.lists.own_notes a (hand p (Filling x v i)) at)
    (bounds_state plan w.words x (bit_or n (2 ^ 30)) old.bounds (rw (fields_of-or_present n) g)
    (λ _. rw fill.length_is fill.fits))

noted_class : (o : Option ℕ) → 0 < (elim o as (λ _. ℕ) [ Some c ↦ c | None ↦ 0 ]) → o
    ≡ Some (elim o as (λ _. ℕ) [ Some c ↦ c | None ↦ 0 ])
noted_class (Some c) h = refl
noted_class None h = absurd (omega arith)

-- the class noted of an own page is the one that it has
pub class_noted : (plan : Plan) (w : World) (l : PutLists) (a : ℕ) (p : Body) (q : ℕ) → Agreement plan w l
    → slice_get w.parts a ≡ Some p → own plan p q ≡ true → 0 < class_word_noted p q → class_word_noted p q
    ≡ w.words.class_at q
class_noted plan w l a p q old at mine some = sym ((old.lists.own_notes a p at).notes q (class_word_noted p q) mine
    (noted_class (noted q p.classes) some)).0

pub all_fill_slot : (plan : Plan) (w : World) (l : PutLists) (a : ℕ) (p : Body) (x : SlotRef) (v : List ℕ)
    → Agreement plan w l
    → slice_get w.parts a ≡ Some (hand p Idle) → own plan p x.page ≡ true → has (same_slot x) p.mine ≡ true
    → 0 < class_word_noted p x.page → length v ≤ width (class_word_noted p x.page - 1)
    → Agreement plan (apply w a (fill_slot (hand p Idle) x v)) l
unfolding apply
all_fill_slot plan w l a p x v old at mine is some fits =
    let c = class_noted plan w l a (hand p Idle) x.page old at mine some in
    let f = old.sums.slots x in
    let m = total_at (mine_at x) w.parts a (hand p Idle) at in
    let t = has_some (same_slot x) p.mine is in
    let r = room_few w.words x in
    let P : ℕ → Type 0 = λ k. length v ≤ width (k - 1) in
    record {
      sums = sums_fill_slot plan w l a p x v old.sums at is c (subst P c fits);
      lists = lists_frame plan w.words w.parts l a (hand p Idle)
          (hand (record p { mine = without (same_slot x) p.mine })
          (Filling x v 0)) old.lists at refl
          (mine_less plan w.words.class_at p x is (old.lists.own_notes a (hand p Idle) at));
      bounds = bounds_length plan w.words x (length v) old.bounds
          (if1_neither (fields_of (w.words.state_at x.page x.slot)).present
          (fields_of (w.words.state_at x.page x.slot)).marked (omega arith));
    }

pub all_fill : (plan : Plan) (w : World) (l : PutLists) (a : ℕ) (p : Body) (x : SlotRef) (v : List ℕ) (i : ℕ)
    → Agreement plan w l → slice_get w.parts a ≡ Some (hand p (Filling x v i)) → i < length v
    → Agreement plan (apply w a (fill (hand p (Filling x v i)) x v i)) l
unfolding apply
all_fill plan w l a p x v i old at less = record {
  sums = sums_fill plan w l a p x v i old.sums old.bounds at less;
  lists = lists_frame plan w.words w.parts l a (hand p (Filling x v i)) (hand p (Filling x v (i + 1))) old.lists at refl
      (old.lists.own_notes a (hand p (Filling x v i)) at);
  bounds = old.bounds;
}
