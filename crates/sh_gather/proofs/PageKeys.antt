-- What the log says of a slot's keys is what its state word says, if no pass has anything in hand or of its own.
use Rattle.std.proofs.Common.{◌≡◌, ◌≢◌, ℕ, zero, suc, ◌<◌, ◌≤◌, ◌==◌, ◌&&◌, ◌||◌, Bool, true, false, List, sym}
use Rattle.std.proofs.Common.{refl, ap, ◌∙◌, arith, Option, Some, None, slice_get, eqb-true}
use Rattle.std.specs.Prelude.{not, nat_lt, IsSome, is_some}
use Rattle.std.proofs.lemmas.Bool.Decides.{nat_tests}
use mathlib.Core.Logic.{dite}
use native.Mathlib.Decide.{ℕ_discrete}
use Rattle.sh_history.specs.History.{value_of, is_removed, holds_on}
use Rattle.sh_word.specs.Fields.{Fields}
use Rattle.sh_slots.specs.declared.hand.Hand.TheVariants.{Idle}
use Rattle.sh_slots.specs.declared.hand.KeyRef.{KeyRef}
use Rattle.sh_slots.specs.declared.hand.SlotRef.{SlotRef}
use Rattle.sh_slots.specs.Slots.{same_slot, slot_ref_of, name_at}
use Rattle.sh_step.specs.declared.body.Body.{Body}
use Rattle.sh_step.specs.Collections.{total, if1}
use Rattle.sh_step.specs.Plans.{Plan, Lawful, heap_pages}
use Rattle.sh_step.proofs.Truths.{lt_of}
use Rattle.sh_core.specs.Lists.{PutLists, times, state_of}
use Rattle.sh_core.specs.Refines.{Refines, KeyMatchesLog, holds_now}
use Rattle.sh_core.specs.Tallies.{visits, finishing, at_slot, current}
use Rattle.sh_core.specs.Worlds.{World, value_at}
use Rattle.sh_core.proofs.Slots.Slots.{same_slot-true}
use Rattle.sh_core.proofs.Sums.Totals.{total_le}
use Rattle.sh_core.proofs.Quiet.{none_of}
use Rattle.sh_gather.specs.PageKeys.{keys_of_slot, is_last_key, is_live_key, is_marked_key, is_retired_key}

-- all passes are idle and own nothing
abbrev pub AllRest : World → Type 0
AllRest w = (a : ℕ) (p : Body) → slice_get w.parts a ≡ Some p → (p.hand ≡ Idle) × (p.owned ≡ None)

-- ---- sums over the keys of a slot, if all but one generation give 0

module _ (plan : Plan) (x : SlotRef) (f : ℕ → ℕ) (g v : ℕ) (here : f (plan.keys.pack (name_at x g)) ≡ v)
    (other : (h : ℕ) → 0 < h → h ≤ plan.keys.gen_max → h ≢ g → f (plan.keys.pack (name_at x h)) ≡ 0) where
  before_it : (m : ℕ) → m ≤ plan.keys.gen_max → m < g → total f (keys_of_slot plan x m) ≡ 0
  unfolding total keys_of_slot
  before_it zero le l = refl
  before_it (suc m) le l = let z = other (suc m) (omega arith) le (λ e. omega arith)
      in let rest = before_it m (omega arith) (omega arith) in omega arith

  pub up_to : (m : ℕ) → m ≤ plan.keys.gen_max → 0 < g → g ≤ m → total f (keys_of_slot plan x m) ≡ v
  unfolding total keys_of_slot
  up_to zero le some l = absurd (omega arith)
  up_to (suc m) le some l = dite (ℕ_discrete (suc m) g)
      (λ (e : suc m ≡ g). let z = before_it m (omega arith) (omega arith)
      in let h : f (plan.keys.pack (name_at x (suc m))) ≡ v = ap (λ (n : ℕ). f (plan.keys.pack (name_at x n))) e
      ∙ here in omega arith)
      (λ (ne : suc m ≢ g). let z = other (suc m) (omega arith) le ne
      in let rest = up_to m (omega arith) some (omega arith) in omega arith)

some_is : (o : Option (List ℕ)) → IsSome o → is_some o ≡ true
some_is (Some v) s = refl
some_is None s = absurd (let z : false ≡ true = s in cc)

pub not_0 : (n : ℕ) → 0 < n → (n == 0) ≡ false
not_0 n some = grind (arith, nat_tests)

none_is : (o : Option (List ℕ)) → o ≡ None → is_some o ≡ false
none_is o e = ap is_some e

value_is : (o : Option (List ℕ)) (v : List ℕ) → o ≡ Some v → is_some o ≡ true
value_is o v e = ap is_some e

positive : (n : ℕ) → 0 < n → nat_lt 0 n ≡ true
positive n h = grind (arith, nat_tests)

same_is : (a b : ℕ) → a ≡ b → (a == b) ≡ true
same_is a b e = grind (arith, nat_tests)

apart_is : (a b : ℕ) → a ≢ b → (a == b) ≡ false
apart_is a b e = grind (arith, nat_tests)

more_is : (a b : ℕ) → nat_lt a b ≡ false → a ≢ b → b < a
more_is a b e ne = grind (arith, nat_tests)

-- ---- what the log says of one slot's keys

module _ (plan : Plan) (w : World) (l : PutLists) (laws : Lawful plan) (core : Refines plan w l) (rest : AllRest w)
    (x : SlotRef) (page : x.page < heap_pages plan) (slot : x.slot < 48) where
  abbrev st : Fields
  st = state_of w x

  abbrev key : ℕ → ℕ
  key g = plan.keys.pack (name_at x g)

  unpacks : (g : ℕ) → 0 < g → g ≤ plan.keys.gen_max → plan.keys.unpack (key g) ≡ Some (name_at x g)
  unpacks g some le = laws.names (name_at x g) some le page slot

  told : (g : ℕ) → 0 < g → g ≤ plan.keys.gen_max → KeyMatchesLog w.log (key g) g st (value_at w.words x.page x.slot)
  told g some le = core.keys (key g) (name_at x g) (unpacks g some le)

  -- who holds the key finds its value present in the slot
  held_now : (g : ℕ) → 0 < g → g ≤ plan.keys.gen_max → (a : ℕ) (p : Body) → slice_get w.parts a ≡ Some p
      → 0 < times (key g) p.holds → current st (Some (name_at x g)) ≡ true
  held_now g some le a p at held =
      let s = core.held a p (key g) at held in
      let n : s.name ≡ name_at x g = let z : Some s.name ≡ Some (name_at x g) = sym s.unpacks ∙ unpacks g some le
      in cc in
      let here : (state_of w (slot_ref_of s.name)) ≡ st = ap (λ (m : KeyRef). state_of w (slot_ref_of m)) n in
      let present : st.present ≡ true = ap (λ (f : Fields). f.present) (sym here) ∙ s.present in
      let generation : g ≡ st.generation = ap (λ (m : KeyRef). m.generation) (sym n)
      ∙ (sym s.generation ∙ ap (λ (f : Fields). f.generation) here) in
      ap (λ (b : Bool). b && (g == st.generation)) present ∙ same_is g st.generation generation

  -- so if the slot has no value of the key, nobody holds it
  none_held : (g : ℕ) → 0 < g → g ≤ plan.keys.gen_max → current st (Some (name_at x g)) ≡ false → holds_on w.log (key g)
      ≡ 0
  none_held g some le not_now =
      let none = none_of (λ (p : Body). times (key g) p.holds) w.parts
      (λ a p at. go (times (key g) p.holds) a p at refl) in
      let h = core.holds.together (key g) in omega arith where
        go : (n : ℕ) (a : ℕ) (p : Body) → slice_get w.parts a ≡ Some p → times (key g) p.holds ≡ n → n ≡ 0
        go zero a p at e = refl
        go (suc n) a p at e = absurd (let now = held_now g some le a p at (omega arith) in let z : true
            ≡ false = sym now ∙ not_now in cc)

  -- a marked slot is held
  some_held : (g : ℕ) → 0 < g → g ≤ plan.keys.gen_max → g ≡ st.generation → st.present ≡ true → st.marked ≡ true
      → 0 < holds_on w.log (key g)
  some_held g some le now p m = go (st.count == 0) refl where
    on_key : (j : ℕ) → if1 (at_slot x (plan.keys.unpack j) && current st (plan.keys.unpack j)) ≤ if1 (j == key g)
    on_key j = named (plan.keys.unpack j) refl where
      named : (o : Option KeyRef) → plan.keys.unpack j ≡ o → if1 (at_slot x o && current st o) ≤ if1 (j == key g)
      named None e = omega arith
      named (Some z) e = by (same_slot x (slot_ref_of z)) st.present (z.generation == st.generation) refl refl where
        by : (b c d : Bool) → same_slot x (slot_ref_of z) ≡ b → (z.generation == st.generation) ≡ d
            → if1 (b && (c && d)) ≤ if1 (j == key g)
        by true true true h i =
            let s : x ≡ slot_ref_of z = same_slot-true (slot_ref_of z) x h in
            let n : z.generation ≡ g = eqb-true z.generation st.generation i ∙ sym now in
            let y : name_at x g ≡ z = λ k. record { page = (s k).page; slot = (s k).slot; generation = sym n k } in
            let k : j ≡ key g = laws.keys j z e ∙ ap plan.keys.pack (sym y) in
            let t : if1 (j == key g) ≡ 1 = ap if1 (same_is j (key g) k) in omega arith
        by true true false h i = omega arith
        by true false d h i = omega arith
        by false c d h i = omega arith

    each : (u : Body) → holds_now plan x st u ≤ times (key g) u.holds
    each u = total_le (λ j. if1 (at_slot x (plan.keys.unpack j) && current st (plan.keys.unpack j)))
        (λ j. if1 (j == key g)) on_key u.holds

    go : (b : Bool) → (st.count == 0) ≡ b → 0 < holds_on w.log (key g)
    go true i =
        let due = core.finished x p m (eqb-true st.count 0 i) in
        let none = none_of (finishing x st.generation) w.parts (λ a u at. let i = (rest a u at).0 in rw i refl)
        in absurd (omega arith)
    go false i =
        let ne : 0 < st.count = grind (arith, nat_tests) in
        let c = core.counted x in
        let away = none_of (visits plan x) w.parts (λ a u at. let i = (rest a u at).0 in rw i refl) in
        let t = total_le (holds_now plan x st) (λ u. times (key g) u.holds) each w.parts in
        let h = core.holds.together (key g) in omega arith

  -- ---- the three kinds

  pub range : (0 < st.generation) × (st.generation ≤ plan.keys.gen_max)
  range = core.generations x

  -- of the present generation: removed if the slot is marked, issued if it is present or marked
  now_removed : is_removed w.log (key st.generation) ≡ st.marked
  now_removed = (told st.generation range.0 range.1).removed refl

  now_issued : is_some (value_of w.log (key st.generation)) ≡ (st.present || st.marked)
  now_issued = go (st.present || st.marked) refl where
    go : (b : Bool) → (st.present || st.marked) ≡ b → is_some (value_of w.log (key st.generation)) ≡ b
    go true e = value_is (value_of w.log (key st.generation)) _ ((told st.generation range.0 range.1).issued refl e)
    go false e = none_is (value_of w.log (key st.generation)) ((told st.generation range.0 range.1).empty refl e)

  -- of another generation: never held; removed if it is an earlier one, neither issued nor removed if it is a later one
  not_current : (g : ℕ) → g ≢ st.generation → current st (Some (name_at x g)) ≡ false
  not_current g ne = go st.present where
    go : (b : Bool) → (b && (g == st.generation)) ≡ false
    go true = apart_is g st.generation ne
    go false = refl

  other_held : (g : ℕ) → 0 < g → g ≤ plan.keys.gen_max → g ≢ st.generation → holds_on w.log (key g) ≡ 0
  other_held g some le ne = none_held g some le (not_current g ne)

  past_removed : (g : ℕ) → 0 < g → g ≤ plan.keys.gen_max → g < st.generation → is_removed w.log (key g) ≡ true
  past_removed g some le low = (core.past (key g) (name_at x g) (unpacks g some le) low).1

  -- live
  live_kind : (p m : Bool) → if1 ((p || m) && not m) ≡ if1 (p && not m)
  live_kind true true = refl
  live_kind true false = refl
  live_kind false true = refl
  live_kind false false = refl

  pub live_now : if1 (is_live_key w.log (key st.generation)) ≡ if1 (st.present && not st.marked)
  live_now = ap (λ (z : Bool × Bool). if1 (z.0 && not z.1)) (λ i. (now_issued i, now_removed i))
      ∙ live_kind st.present st.marked

  pub live_other : (g : ℕ) → 0 < g → g ≤ plan.keys.gen_max → g ≢ st.generation → if1 (is_live_key w.log (key g)) ≡ 0
  live_other g some le ne = go (nat_lt g st.generation) refl where
    off : (b : Bool) → (b && not true) ≡ false
    off true = refl
    off false = refl

    go : (b : Bool) → nat_lt g st.generation ≡ b → if1 (is_live_key w.log (key g)) ≡ 0
    go true e =
        let r = past_removed g some le (lt_of g st.generation e) in
        ap (λ (z : Bool). if1 (is_some (value_of w.log (key g)) && not z)) r
        ∙ ap if1 (off (is_some (value_of w.log (key g))))
    go false e =
        let s = (told g some le).later (more_is g st.generation e ne) in
        ap (λ (z : Bool). if1 (z && not (is_removed w.log (key g)))) (none_is (value_of w.log (key g)) s.0)

  pub live_is : total (λ k. if1 (is_live_key w.log k)) (keys_of_slot plan x plan.keys.gen_max)
      ≡ if1 (st.present && not st.marked)
  live_is = up_to plan x (λ k. if1 (is_live_key w.log k)) st.generation (if1 (st.present && not st.marked)) live_now
      live_other plan.keys.gen_max (omega arith) range.0 range.1

  -- marked
  marked_now : if1 (is_marked_key w.log (key st.generation)) ≡ if1 (st.present && st.marked)
  marked_now = ap (λ (z : Bool). if1 (z && nat_lt 0 (holds_on w.log (key st.generation)))) now_removed
      ∙ go st.present st.marked refl refl where
        go : (p m : Bool) → st.present ≡ p → st.marked ≡ m → if1 (m && nat_lt 0 (holds_on w.log (key st.generation)))
            ≡ if1 (p && m)
        go true true a b = ap if1 (positive (holds_on w.log (key st.generation))
            (some_held st.generation range.0 range.1 refl a b))
        go true false a b = refl
        go false true a b = ap (λ n. if1 (nat_lt 0 n)) (none_held st.generation range.0 range.1
            (ap (λ (c : Bool). c && (st.generation == st.generation)) a))
        go false false a b = refl

  none_marked : (b : Bool) → if1 (b && nat_lt 0 0) ≡ 0
  none_marked true = refl
  none_marked false = refl

  pub marked_is : total (λ k. if1 (is_marked_key w.log k)) (keys_of_slot plan x plan.keys.gen_max)
      ≡ if1 (st.present && st.marked)
  marked_is = up_to plan x (λ k. if1 (is_marked_key w.log k)) st.generation (if1 (st.present && st.marked)) marked_now
      (λ g some le ne. ap (λ n. if1 (is_removed w.log (key g) && nat_lt 0 n)) (other_held g some le ne)
      ∙ none_marked (is_removed w.log (key g))) plan.keys.gen_max (omega arith) range.0 range.1

  -- retired
  last_is : (g : ℕ) → 0 < g → g ≤ plan.keys.gen_max → is_last_key plan (key g) ≡ (g == plan.keys.gen_max)
  last_is g some le = ap (λ (o : Option KeyRef). elim o as (λ _. Bool)
      [ Some n ↦ n.generation == plan.keys.gen_max | None ↦ false ]) (unpacks g some le)

  no_third : (b c : Bool) → if1 (b && c && false) ≡ 0
  no_third true true = refl
  no_third true false = refl
  no_third false c = refl

  no_second : (b c : Bool) → if1 (b && false && c) ≡ 0
  no_second true c = refl
  no_second false c = refl

  retired_now : if1 (is_retired_key plan w.log (key st.generation)) ≡ if1 (not st.present && st.marked)
  retired_now = ap (λ (z : Bool). if1 (z && is_last_key plan (key st.generation) &&
      (holds_on w.log (key st.generation) == 0))) now_removed ∙ go st.present st.marked refl refl where
        go : (p m : Bool) → st.present ≡ p → st.marked ≡ m → if1
            (m && is_last_key plan (key st.generation) && (holds_on w.log (key st.generation) == 0)) ≡ if1 (not p && m)
        go true true a b = ap (λ (z : Bool). if1 (is_last_key plan (key st.generation) && z))
            (not_0 (holds_on w.log (key st.generation)) (some_held st.generation range.0 range.1 refl a b))
            ∙ no_third true (is_last_key plan (key st.generation))
        go true false a b = refl
        go false true a b =
            let last : is_last_key plan (key st.generation) ≡ true = last_is st.generation range.0 range.1
            ∙ same_is st.generation plan.keys.gen_max (core.retired x a b) in
            let held : (holds_on w.log (key st.generation) == 0) ≡ true = same_is (holds_on w.log (key st.generation)) 0
            (none_held st.generation range.0 range.1 (ap (λ (c : Bool). c && (st.generation == st.generation)) a)) in
            ap (λ (z : Bool × Bool). if1 (z.0 && z.1)) (λ i. (last i, held i))
        go false false a b = refl

  retired_other : (g : ℕ) → 0 < g → g ≤ plan.keys.gen_max → g ≢ st.generation → if1 (is_retired_key plan w.log (key g))
      ≡ 0
  retired_other g some le ne = go (nat_lt g st.generation) refl where
    go : (b : Bool) → nat_lt g st.generation ≡ b → if1 (is_retired_key plan w.log (key g)) ≡ 0
    go true e =
        let low = lt_of g st.generation e in
        let top = range.1 in
        let not_last : is_last_key plan (key g) ≡ false = last_is g some le
        ∙ apart_is g plan.keys.gen_max (λ i. omega arith) in
        ap (λ (z : Bool). if1 (is_removed w.log (key g) && z && (holds_on w.log (key g) == 0))) not_last
        ∙ no_second (is_removed w.log (key g)) (holds_on w.log (key g) == 0)
    go false e =
        let s = (told g some le).later (more_is g st.generation e ne) in
        ap (λ (z : Bool). if1 (z && is_last_key plan (key g) && (holds_on w.log (key g) == 0))) s.1

  pub retired_is : total (λ k. if1 (is_retired_key plan w.log k)) (keys_of_slot plan x plan.keys.gen_max)
      ≡ if1 (not st.present && st.marked)
  retired_is = up_to plan x (λ k. if1 (is_retired_key plan w.log k)) st.generation (if1 (not st.present && st.marked))
      retired_now retired_other plan.keys.gen_max (omega arith) range.0 range.1
