-- A removed key ends once: a run ends it as often as the key has ended, and what has ended stays so.
use Rattle.std.proofs.Common.{◌≡◌, ℕ, zero, suc, ◌+◌, ◌<◌, ◌≤◌, ◌==◌, ◌&&◌, ◌||◌, ◌⊎◌, inl, inr, ⊎_elim, Bool, true}
use Rattle.std.proofs.Common.{false, cond, List, [], ◌∷◌, ◌++◌, refl, arith, ap, sym, ◌∙◌, subst, Option, Some, None}
use Rattle.std.proofs.Common.{slice_get, eqb-true, eq-or-lt_of_le}
use Rattle.std.specs.Prelude.{nat_lt, not}
use Rattle.std.specs.Bool.{then_some}
use Rattle.std.proofs.lemmas.Bool.{cases_lt}
use Rattle.std.proofs.lemmas.Bool.Decides.{nat_tests}
use Rattle.sh_step.specs.declared.action.Action.{Action}
use Rattle.sh_step.specs.declared.action.Action.TheVariants.{Finish}
use Rattle.sh_step.specs.declared.body.Body.{Body}
use Rattle.sh_step.specs.Collections.{total, if1}
use Rattle.sh_step.specs.declared.action.Event.{Event}
use Rattle.sh_word.specs.Fields.{Fields, fields_of}
use Rattle.sh_slots.specs.declared.hand.Hand.{Hand}
use Rattle.sh_slots.specs.declared.hand.Hand.TheVariants.{Finishing}
use Rattle.sh_core.specs.KeyEnds.{is_after, has_ended, Ending, ending_by, ending_of, is_end_of, EndIsTrue, HandEnds}
use Rattle.sh_slots.specs.declared.hand.KeyRef.{KeyRef}
use Rattle.sh_key.specs.Layout.{Layout, IsLayout}
use Rattle.sh_core.specs.Lists.{PutLists, times, lists_of}
use Rattle.sh_step.specs.Plans.{Plan, plan_of, Lawful}
use Rattle.sh_core.specs.Refines.{Refines, holds_now}
use Rattle.sh_step.specs.Rows.{is_read}
use Rattle.sh_shape.specs.Shape.{Numbers, IsShape, Fits}
use Rattle.sh_slots.specs.declared.hand.Sight.{Sight}
use Rattle.sh_slots.specs.declared.hand.SlotRef.{SlotRef}
use Rattle.sh_slots.specs.Slots.{same_slot, slot_ref_of, name_at, marked_word, value_seen}
use Rattle.sh_core.specs.Tallies.{at_slot, current, visits, finishing}
use Rattle.sh_core.specs.Worlds.{World, run, run_from, step, open_world}
use Rattle.sh_history.specs.History.{value_of, is_removed}
use Rattle.sh_core.proofs.Clauses.LayoutLaws.{plan_lawful}
use Rattle.sh_core.proofs.Clauses.RunTheorem.{theorem}
use Rattle.sh_core.proofs.Slots.FinishSums.{found_marked}
use Rattle.sh_core.proofs.Slots.Slots.{same_slot-refl}
use Rattle.sh_core.proofs.Sums.Totals.{total_at, zero_all}
use Rattle.sh_core.proofs.Words.Steps.{run_snoc, run_append}
use Rattle.sh_laws.specs.Ends.{ends_from, times_ended, EndsOnce, IsLeft, LeftHasEnded, EndIsLast, EndsAreLast}
use Rattle.sh_laws.specs.Objects.{holds_of}
use Rattle.sh_laws.proofs.HoldCounts.{holds_at, no_holds_at}

is_one : (b : Bool) → 1 ≤ if1 b → b ≡ true
is_one true h = refl
is_one false h = absurd (omega arith)

-- ---- the slot of a key

-- a slot that is present in a generation has not ended it
not_ended : (g : ℕ) (st : Fields) → st.present ≡ true → st.generation ≡ g → is_after g st ≡ false
not_ended g st there same =
    let f : nat_lt g st.generation ≡ false = grind (arith, nat_tests, same) in rw (f, there) refl

module _ (plan : Plan) (w : World) (l : PutLists) (all : Refines plan w l) (laws : Lawful plan) (k : ℕ) (n : KeyRef)
    (name : plan.keys.unpack k ≡ Some n) where
  abbrev x : SlotRef
  x = slot_ref_of n

  abbrev st : Fields
  st = fields_of (w.words.state_at n.page n.slot)

  -- what has ended was removed
  ended_removed : has_ended w n ≡ true → is_removed w.log k ≡ true
  ended_removed is = go (nat_lt n.generation st.generation) st.present st.marked (st.generation == n.generation) refl
      refl refl is where
        go : (a b c d : Bool) → nat_lt n.generation st.generation ≡ a → st.marked ≡ c → (st.generation == n.generation) ≡ d
            → (a || (not b && c && d)) ≡ true → is_removed w.log k ≡ true
        go true b c d less marks same h =
            let before : n.generation < st.generation = grind (arith, nat_tests, less) in (all.past k n name before).1
        go false false true true less marks same h =
            (all.keys k n name).removed (sym (eqb-true st.generation n.generation same)) ∙ marks
        go false true c d less marks same h = absurd (let z : false ≡ true = h in cc)
        go false false false d less marks same h = absurd (let z : false ≡ true = h in cc)
        go false false true false less marks same h = absurd (let z : false ≡ true = h in cc)

  -- a hold on the slot's present key is one on k
  same_key : (j : ℕ) → n.generation ≡ st.generation → (at_slot x (plan.keys.unpack j) && current st (plan.keys.unpack j))
      ≡ true → j ≡ k
  same_key j same is = go (plan.keys.unpack j) refl is where
    go : (o : Option KeyRef) → plan.keys.unpack j ≡ o → (at_slot x o && current st o) ≡ true → j ≡ k
    go None e h = absurd (let z : false ≡ true = h in cc)
    go (Some m) e h = tests (n.page == m.page) (n.slot == m.slot) st.present (m.generation == st.generation) refl refl
        refl h where
          tests : (a b c d : Bool) → (n.page == m.page) ≡ a → (n.slot == m.slot) ≡ b → (m.generation == st.generation) ≡ d
              → ((a && b) && (c && d)) ≡ true → j ≡ k
          tests true true true true page slot generation h =
              let p = eqb-true n.page m.page page in
              let s = eqb-true n.slot m.slot slot in
              let g : n.generation ≡ m.generation = same ∙ sym (eqb-true m.generation st.generation generation) in
              let is : n ≡ m = λ i. record { page = p i; slot = s i; generation = g i } in
              laws.keys j m e ∙ (ap plan.keys.pack (sym is) ∙ sym (laws.keys k n name))
          tests true true true false page slot generation h = absurd (let z : false ≡ true = h in cc)
          tests true true false d page slot generation h = absurd (let z : false ≡ true = h in cc)
          tests true false c d page slot generation h = absurd (let z : false ≡ true = h in cc)
          tests false b c d page slot generation h = absurd (let z : false ≡ true = h in cc)

  no_hold_now : (p : Body) → n.generation ≡ st.generation → times k p.holds ≡ 0 → holds_now plan x st p ≡ 0
  no_hold_now p same none = zero_all
      (λ j. if1 (at_slot x (plan.keys.unpack j) && current st (plan.keys.unpack j))) (λ j. if1 (j == k)) p.holds
      (λ i j _ z. go j (at_slot x (plan.keys.unpack j) && current st (plan.keys.unpack j)) refl z) none where
        go : (j : ℕ) (b : Bool) → (at_slot x (plan.keys.unpack j) && current st (plan.keys.unpack j)) ≡ b
            → if1 (j == k) ≡ 0 → if1 b ≡ 0
        go j false e z = refl
        go j true e z =
            let is = same_key j same e in
            let one : if1 (j == k) ≡ 1 = grind (arith, nat_tests, is) in absurd (omega (arith, z, one))

  -- a key that was removed, and that no pass waits for, has ended
  left_ended : is_removed w.log k ≡ true → IsLeft plan w k n → has_ended w n ≡ true
  left_ended gone left = go (cases_lt n.generation st.generation) where
    told : (n.generation ≡ st.generation) → (b c : Bool) → st.present ≡ b → st.marked ≡ c → has_ended w n ≡ true
    told same b false there marks =
        let f = (all.keys k n name).removed same in absurd (let z : true ≡ false = sym gone ∙ (f ∙ marks) in cc)
    told same false true there marks =
        let f : nat_lt n.generation st.generation ≡ false = grind (arith, nat_tests, same) in
        let t : (st.generation == n.generation) ≡ true = grind (arith, nat_tests, same) in
        rw (f, there, marks, t) refl
    told same true true there marks =
        let holds = zero_all (λ (p : Body). holds_now plan x st p) (λ (p : Body). times k p.holds) w.parts
        (λ j p _ z. no_hold_now p same z) left.unheld in
        let count = all.counted x in
        let none = left.unvisited in
        let some = all.finished x there marks (omega (arith, holds, count, none)) in
        let unfinished : total (finishing x st.generation) w.parts ≡ 0 =
        subst (λ g. total (finishing x g) w.parts ≡ 0) same left.unfinished in
        absurd (omega (arith, some, unfinished))

    later : st.generation < n.generation → has_ended w n ≡ true
    later c = absurd (let z : true ≡ false = sym gone ∙ ((all.keys k n name).later c).1 in cc)

    go : (n.generation < st.generation) ⊎ (st.generation ≤ n.generation) → has_ended w n ≡ true
    go (inl c) = let t : nat_lt n.generation st.generation ≡ true = grind (arith, nat_tests, c) in rw t refl
    go (inr c) = ⊎_elim (λ d. told (sym d) st.present st.marked refl refl) later (eq-or-lt_of_le c)

  -- no pass has a hold on a key that has ended
  ended_unheld : has_ended w n ≡ true → (a : ℕ) → holds_of w a k ≡ 0
  ended_unheld is a = part (slice_get w.parts a) refl where
    none : (p : Body) → slice_get w.parts a ≡ Some p → (m : ℕ) → times k p.holds ≡ m → m ≡ 0
    none p at zero e = refl
    none p at (suc m) e =
        let valid = all.held a p k at (omega (arith, e)) in
        let same : valid.name ≡ n = let z : Some valid.name ≡ Some n = sym valid.unpacks ∙ name in cc in
        let there : st.present ≡ true = subst
        (λ (u : KeyRef). (fields_of (w.words.state_at u.page u.slot)).present ≡ true) same valid.present in
        let generation : st.generation ≡ n.generation = subst
        (λ (u : KeyRef). (fields_of (w.words.state_at u.page u.slot)).generation ≡ u.generation) same
        valid.generation in
        absurd (let z : true ≡ false = sym is ∙ not_ended n.generation st there generation in cc)

    part : (o : Option Body) → slice_get w.parts a ≡ o → holds_of w a k ≡ 0
    part (Some p) at = holds_at w a k p at ∙ none p at (times k p.holds) refl
    part None at = no_holds_at w a k at

-- ---- along a run

module _ (layout : Layout) (shape : Numbers) (is_layout : IsLayout layout) (is_shape : IsShape shape)
    (fits : Fits layout shape) where
  abbrev plan : Plan
  plan = plan_of layout shape

  abbrev laws : Lawful plan
  laws = plan_lawful layout shape is_layout is_shape fits

  abbrev stands : (es : List Event) → Refines plan (run plan es) (lists_of plan es)
  stands es = theorem layout shape is_layout is_shape fits es

  -- each run that goes on ends a key as often as the key has ended then, and had not before
  run_ends : (es more : List Event) (n : KeyRef) → if1 (has_ended (run_from plan (run plan es) more) n)
      ≡ if1 (has_ended (run plan es) n) + ends_from plan (run plan es) more n
  unfolding run_from ends_from
  run_ends es [] n = omega arith
  run_ends es (e ∷ more) n =
      let w : World = run plan es in
      let once = (stands es).ends.once e n in
      let P : World → Type 0 = λ v. if1 (has_ended (run_from plan v more) n) ≡ if1 (has_ended v n)
      + ends_from plan v more n in
      let rest = subst P (run_snoc plan (open_world plan) es e) (run_ends (es ++ e ∷ []) more n) in
      omega (arith, once, rest)

  opens_unended : (n : KeyRef) → 0 < n.generation → has_ended (open_world plan) n ≡ false
  unfolding fields_of
  opens_unended n some = let f : nat_lt n.generation 1 ≡ false = grind (arith, nat_tests, some) in rw f refl

  ended_times : (es : List Event) (n : KeyRef) → 0 < n.generation
      → times_ended plan es n ≡ if1 (has_ended (run plan es) n)
  unfolding run_from
  ended_times es n some =
      let sum = run_ends [] es n in
      let none : if1 (has_ended (open_world plan) n) ≡ 0 = rw (opens_unended n some) refl in omega (arith, sum, none)

  few_ends : (es : List Event) (k : ℕ) (n : KeyRef) → plan.keys.unpack k ≡ Some n
      → (times_ended plan es n ≤ 1) × (0 < times_ended plan es n → is_removed (run plan es).log k ≡ true)
  few_ends es k n name =
      let is = ended_times es n (laws.begins k n name) in (
        few (has_ended (run plan es) n) (times_ended plan es n) is,
        λ some. ended_removed plan (run plan es) (lists_of plan es) (stands es) laws k n name
            (is_one (has_ended (run plan es) n) (omega (arith, is, some))),
      ) where
        few : (b : Bool) (m : ℕ) → m ≡ if1 b → m ≤ 1
        few true m e = omega (arith, e)
        few false m e = omega (arith, e)

  left_end : (es : List Event) (k : ℕ) (n : KeyRef) → plan.keys.unpack k ≡ Some n
      → is_removed (run plan es).log k ≡ true → IsLeft plan (run plan es) k n → times_ended plan es n ≡ 1
  left_end es k n name gone left =
      let is = ended_times es n (laws.begins k n name) in
      let ended = left_ended plan (run plan es) (lists_of plan es) (stands es) laws k n name gone left in
      is ∙ ap if1 ended

  -- ---- an end

  record EndsIn (es : List Event) (e : Event) (t : Ending) : Type 0 where
    pub part : Body
    pub at : slice_get (run plan es).parts e.pass ≡ Some part
    pub slot : SlotRef
    pub generation : ℕ
    pub sight : Sight
    pub hand : part.hand ≡ Finishing slot generation sight
    pub found : ((run plan es).words.state_at slot.page slot.slot == marked_word generation) ≡ true
    pub is : t ≡ record { name = name_at slot generation; sight = sight }

  ends_by : (es : List Event) (e : Event) (t : Ending) (p : Body) → slice_get (run plan es).parts e.pass ≡ Some p
      → (x : Action) (h : Hand) → p.hand ≡ h → ending_by (run plan es) x h ≡ Some t → EndsIn es e t
  ends_by es e t p at Finish (Finishing y g s) hand is = go ((run plan es).words.state_at y.page y.slot == marked_word g)
      refl is where
        go : (b : Bool) → ((run plan es).words.state_at y.page y.slot == marked_word g) ≡ b
            → then_some b (record { name = name_at y g; sight = s }) ≡ Some t → EndsIn es e t
        go true found so = record {
          part = p;
          at = at;
          slot = y;
          generation = g;
          sight = s;
          hand = hand;
          found = found;
          is = let z : Some t ≡ Some (record { name = name_at y g; sight = s }) = sym so in cc;
        }
        go false found so = absurd (let z : None ≡ Some t = so in cc)
  ends_by es e t p at _ _ hand is = absurd (let z : None ≡ Some t = is in cc)

  ends_in : (es : List Event) (e : Event) (t : Ending) → ending_of (run plan es) e ≡ Some t → EndsIn es e t
  unfolding ending_of
  ends_in es e t is = go (slice_get (run plan es).parts e.pass) refl is where
    go : (o : Option Body) → slice_get (run plan es).parts e.pass ≡ o → (elim o as (λ _. Option Ending)
        [ Some p ↦ ending_by (run plan es) e.action p.hand | None ↦ None ]) ≡ Some t → EndsIn es e t
    go (Some p) at so = ends_by es e t p at e.action p.hand refl so
    go None at so = absurd (let z : None ≡ Some t = so in cc)

  is_last : (es : List Event) (e : Event) (t : Ending) → ending_of (run plan es) e ≡ Some t → EndIsLast plan es e t
  unfolding run_from
  is_last es e t is =
      subst (EndIsLast plan es e) (sym d.is) (record {
        key = k;
        named = known.named.unpacks;
        removed = known.removed;
        value = known.value;
        issued = known.issued;
        words = λ ends.
            let so : value_of w.log k ≡ Some (value_seen d.sight) =
            all.ends.words e.pass d.part d.slot d.generation d.sight d.at d.hand ends unended in
            let z : Some (value_seen d.sight) ≡ Some known.value = sym so ∙ known.issued in cc;
        unheld = unheld;
        later = later;
      })
    where
      d : EndsIn es e t
      d = ends_in es e t is

      w : World
      w = run plan es

      all : Refines plan w (lists_of plan es)
      all = stands es

      n : KeyRef
      n = name_at d.slot d.generation

      k : ℕ
      k = plan.keys.pack n

      known : EndIsTrue plan w k n d.sight
      known = subst (HandEnds plan w) d.hand (all.ends.begun e.pass d.part d.at)

      unended : has_ended w n ≡ false
      unended =
          let s = found_marked (w.words.state_at d.slot.page d.slot.slot) d.generation d.found in
          not_ended d.generation (fields_of (w.words.state_at d.slot.page d.slot.slot))
          (ap (λ (f : Fields). f.present) s) (ap (λ (f : Fields). f.generation) s)

      unheld : (a : ℕ) → holds_of w a k ≡ 0
      unheld a = part (slice_get w.parts a) refl where
        part : (o : Option Body) → slice_get w.parts a ≡ o → holds_of w a k ≡ 0
        part (Some p) at =
            let one = total_at (λ (u : Body). times k u.holds) w.parts a p at in
            let none = known.unheld in
            let is = holds_at w a k p at in omega (arith, one, none, is)
        part None at = no_holds_at w a k at

      its_end : is_end_of n (ending_of w e) ≡ true
      its_end =
          let same = same_slot-refl (slot_ref_of n) in
          let t : (n.generation == n.generation) ≡ true = grind (arith, nat_tests) in
          ap (is_end_of n) (is ∙ ap (λ (u : Ending). Some u) d.is) ∙ rw (same, t) refl

      later : (more : List Event) (a : ℕ) → holds_of (run plan (es ++ e ∷ more)) a k ≡ 0
      later more a =
          let u : World = run plan (es ++ e ∷ more) in
          let on : u ≡ run_from plan (step plan w e) more = run_append plan (open_world plan) es (e ∷ more) in
          let once = all.ends.once e n in
          let ends : if1 (is_end_of n (ending_of w e)) ≡ 1 = ap if1 its_end in
          let P : World → Type 0 = λ v. if1 (has_ended (run_from plan v more) n) ≡ if1 (has_ended v n)
          + ends_from plan v more n in
          let rest = subst P (run_snoc plan (open_world plan) es e) (run_ends (es ++ e ∷ []) more n) in
          let ended : has_ended (run_from plan (step plan w e) more) n ≡ true =
          is_one (has_ended (run_from plan (step plan w e) more) n) (omega (arith, once, ends, rest)) in
          ended_unheld plan u (lists_of plan (es ++ e ∷ more)) (stands (es ++ e ∷ more)) laws k n known.named.unpacks
          (ap (λ (v : World). has_ended v n) on ∙ ended) a

pub ends_once : EndsOnce
ends_once layout shape a b c es k n name = few_ends layout shape a b c es k n name

pub left_has_ended : LeftHasEnded
left_has_ended layout shape a b c es k n name gone left = left_end layout shape a b c es k n name gone left

pub ends_are_last : EndsAreLast
ends_are_last layout shape a b c es e t is = is_last layout shape a b c es e t is
