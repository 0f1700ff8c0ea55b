-- The holds on a slot's key are at most the number that the layout allows, step by step.
use Rattle.std.proofs.Common.{◌≡◌, ℕ, suc, ◌+◌, ◌<◌, ◌≤◌, ◌==◌, ◌&&◌, ◌⊎◌, inl, inr, ⊎_elim, Bool, true, false, cond}
use Rattle.std.proofs.Common.{List, ◌∷◌, refl, sym, ap, subst, arith, Some, slice_get, eqb-true, ltb-true}
use Rattle.std.specs.Prelude.{nat_lt}
use Rattle.sh_word.specs.Fields.{fields_of}
use Rattle.sh_slots.specs.declared.hand.SlotRef.{SlotRef}
use Rattle.sh_slots.specs.declared.hand.KeyRef.{KeyRef}
use Rattle.sh_slots.specs.declared.hand.Hand.TheVariants.{Leaving}
use Rattle.sh_slots.specs.Slots.{same_slot, slot_ref_of, live_at}
use Rattle.sh_step.specs.declared.body.Body.{Body}
use Rattle.sh_step.specs.Collections.{total, if1, without, has}
use Rattle.sh_core.specs.Words.{read}
use Rattle.sh_core.specs.Worlds.{World, apply, open_world}
use Rattle.sh_core.specs.Lists.{PutLists}
use Rattle.sh_core.specs.Tallies.{held, at_slot}
use Rattle.sh_core.specs.Sums.{Sums}
use Rattle.sh_core.proofs.Sums.Totals.{total_set, total_without}
use Rattle.sh_core.proofs.Slots.Slots.{same_slot-true}
use Rattle.sh_core.proofs.Clauses.OpenSums.{none_new}
use Rattle.sh_step.specs.declared.moves.Move.{Move}
use Rattle.sh_step.specs.declared.moves.Move.TheVariants.{EnterGet, DropHold, ReadClass, ReadLength, ReadWord}
use Rattle.sh_step.specs.Moves.{row_of}
use Rattle.sh_step.specs.Plans.{Plan}
use Rattle.sh_step.specs.Rows.{Row, hand, read_class, read_length, read_word}
use Rattle.sh_step.specs.Conditions.{May}
use Rattle.sh_core.proofs.Moves.ByMove.{keys_stay}

-- each held key that names a slot is held in the slot's present generation, so these are the holds on the slot's key
abbrev pub HoldsInBound : Plan → World → Type 0
HoldsInBound plan w = (x : SlotRef) → total (held plan x) w.parts ≤ plan.keys.guard_max

-- a step takes no hold, or it takes one and the count was below the bound
abbrev Bounded : Plan → World → Body → Row → Type 0
Bounded plan w p m = (x : SlotRef) → (held plan x (m.part (read w.words m.place)) ≤ held plan x p)
    ⊎ ((held plan x (m.part (read w.words m.place)) ≤ suc (held plan x p))
    × ((fields_of (w.words.state_at x.page x.slot)).count < plan.keys.guard_max))

module _ (plan : Plan) (w : World) (p : Body) where
  same_bounded : (r : Row) → (r.part (read w.words r.place)).holds ≡ p.holds → Bounded plan w p r
  same_bounded r h x = inl (let s : held plan x (r.part (read w.words r.place)) ≡ held plan x p = ap
      (λ (ks : List ℕ). total (λ k. if1 (at_slot x (plan.keys.unpack k))) ks) h in omega arith)

  -- a get takes a hold if it found room for it
  get_bounded : (k : ℕ) (y : KeyRef) (b c : Bool) → plan.keys.unpack k ≡ Some y
      → nat_lt (fields_of (w.words.state_at y.page y.slot)).count plan.keys.guard_max ≡ c → (x : SlotRef)
      → (held plan x (cond (b && c) (record p { holds = k ∷ p.holds }) (hand p (Leaving (slot_ref_of y)))) ≤ held plan x
      p)
      ⊎ ((held plan x (cond (b && c) (record p { holds = k ∷ p.holds }) (hand p (Leaving (slot_ref_of y)))) ≤ suc
      (held plan x p)) × ((fields_of (w.words.state_at x.page x.slot)).count < plan.keys.guard_max))
  unfolding total
  get_bounded k y false c name is x = inl (omega arith)
  get_bounded k y true false name is x = inl (omega arith)
  get_bounded k y true true name is x = go (same_slot x (slot_ref_of y)) refl where
    go : (d : Bool) → same_slot x (slot_ref_of y) ≡ d
        → (if1 (at_slot x (plan.keys.unpack k)) + held plan x p ≤ held plan x
        p) ⊎ ((if1 (at_slot x (plan.keys.unpack k)) + held plan x p ≤ suc (held plan x p))
        × ((fields_of (w.words.state_at x.page x.slot)).count < plan.keys.guard_max))
    go false e = let z : if1 (at_slot x (plan.keys.unpack k)) ≡ 0 = rw (name, e) refl in inl (omega arith)
    go true e =
        let z : if1 (at_slot x (plan.keys.unpack k)) ≡ 1 = rw (name, e) refl in
        let i = same_slot-true (slot_ref_of y) x e in
        let room = ltb-true (fields_of (w.words.state_at y.page y.slot)).count plan.keys.guard_max is in
        let P : SlotRef → Type 0 = λ u. (fields_of (w.words.state_at u.page u.slot)).count < plan.keys.guard_max in
        inr (omega arith, subst P (sym i) room)

  -- one hold less
  drop_lessens : (k : ℕ) (xs : List ℕ) (x : SlotRef) → has (λ j. j == k) xs ≡ true
      → total (λ j. if1 (at_slot x (plan.keys.unpack j))) (without (λ j. j == k) xs) ≤ total
      (λ j. if1 (at_slot x (plan.keys.unpack j))) xs
  drop_lessens k xs x is = let t = total_without (λ j. if1 (at_slot x (plan.keys.unpack j))) (λ j. j == k)
      (if1 (at_slot x (plan.keys.unpack k))) (λ j e. ap (λ (i : ℕ). if1 (at_slot x (plan.keys.unpack i)))
      (eqb-true j k e)) xs is in omega arith

  bounded : (m : Move) → May plan p m → Bounded plan w p (row_of plan p m)
  bounded (EnterGet k x) (idle, named, few) = get_bounded k x (live_at x.generation (w.words.state_at x.page x.slot))
      (nat_lt (fields_of (w.words.state_at x.page x.slot)).count plan.keys.guard_max) named.unpacks refl
  bounded (DropHold k x) (idle, named, is) = λ y. inl (drop_lessens k p.holds y is)
  bounded (ReadClass k x) may = same_bounded (read_class p k x) refl
  bounded (ReadLength k x) may = same_bounded (read_length p k x) refl
  bounded (ReadWord k x c i) may = same_bounded (read_word p k x c i) refl
  bounded m may = same_bounded (row_of plan p m) (keys_stay plan p m (read w.words (row_of plan p m).place) (λ z. z)).0

few_apply : (plan : Plan) (w : World) (l : PutLists) (a : ℕ) (p : Body) (m : Row) → Sums plan w l → slice_get w.parts a
    ≡ Some p → Bounded plan w p m → HoldsInBound plan w → HoldsInBound plan (apply w a m)
unfolding apply
few_apply plan w l a p m sums at least old x =
    let u : Body = m.part (read w.words m.place) in
    let t = total_set (held plan x) w.parts a p u at in
    let o = old x in
    let c = (sums.slots x).counts in
    ⊎_elim (λ h. omega arith) (λ h. let h0 = h.0 in let h1 = h.1 in omega arith) (least x)

pub holds_move : (plan : Plan) (w : World) (l : PutLists) (a : ℕ) (p : Body) (m : Move) → Sums plan w l
    → slice_get w.parts a ≡ Some p → May plan p m → HoldsInBound plan w
    → HoldsInBound plan (apply w a (row_of plan p m))
holds_move plan w l a p m sums at may old = few_apply plan w l a p (row_of plan p m) sums at
    (bounded plan w p m may) old

pub holds_open : (plan : Plan) → HoldsInBound plan (open_world plan)
unfolding total
holds_open plan x = let z = none_new (held plan x) plan.passes refl in omega arith
