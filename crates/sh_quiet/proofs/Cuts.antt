-- A run is cut where a pass has done some of its steps, and behind all steps of others that it had heard of by then.
use Rattle.std.proofs.Common.{◌≡◌, ◌≢◌, ℕ, zero, suc, ◌+◌, ◌<◌, ◌≤◌, ◌⊎◌, List, [], ◌∷◌, ◌++◌, length, refl, ap, sym}
use Rattle.std.proofs.Common.{◌∙◌, subst, arith, append-nil, append_assoc, inl, inr, ⊎_elim}
use Rattle.std.proofs.lemmas.List.{length-append}
use Rattle.std.specs.List.{Contains}
use mathlib.Core.Logic.{dite}
use native.Mathlib.Decide.{ℕ_discrete}
use Rattle.sh_step.specs.declared.action.Event.{Event}
use Rattle.sh_step.specs.declared.footstep.Footstep.{Footstep}
use Rattle.sh_step.specs.Plans.{Plan}
use Rattle.sh_core.specs.Trails.{trail_from, trail_of}
use Rattle.sh_core.proofs.Words.Trails.{trails_lengthen}
use Rattle.sh_table.specs.declared.view.Order.{Order}
use Rattle.sh_table.specs.Reached.{StepsBefore}
use Rattle.sh_table.specs.Views.{Each}
use Rattle.sh_table.proofs.OrderLaws.{each_in}
use Rattle.sh_quiet.proofs.GoesOn.{grows}

-- one of two cuts comes first
pub compare : (xs ys zs us : List Event) → xs ++ ys ≡ zs ++ us
    → ((rest : List Event) × (zs ≡ xs ++ rest)) ⊎ ((rest : List Event) × (xs ≡ zs ++ rest))
compare [] ys zs us e = inl (zs, refl)
compare (x ∷ xs) ys [] us e = inr (x ∷ xs, refl)
compare (x ∷ xs) ys (z ∷ zs) us e =
    let h : x ≡ z = cc in
    let t : xs ++ ys ≡ zs ++ us = cc in
    ⊎_elim (λ (r : (rest : List Event) × (zs ≡ xs ++ rest)). inl (r.0, λ i. sym h i ∷ r.1 i))
    (λ (r : (rest : List Event) × (xs ≡ zs ++ rest)). inr (r.0, λ i. h i ∷ r.1 i)) (compare xs ys zs us t)

-- lists that begin with the same number of elements of one list
pub same_front : (xs us ys vs : List Footstep) → xs ++ us ≡ ys ++ vs → length xs ≡ length ys → xs ≡ ys
same_front [] us [] vs e l = refl
same_front [] us (y ∷ ys) vs e l = absurd (omega (arith, l))
same_front (x ∷ xs) us [] vs e l = absurd (omega (arith, l))
same_front (x ∷ xs) us (y ∷ ys) vs e l =
    let h : x ≡ y = cc in
    let t : xs ++ us ≡ ys ++ vs = cc in
    let rest = same_front xs us ys vs t (omega (arith, l)) in
    λ i. h i ∷ rest i

-- ---- how many steps each pass did

module _ (plan : Plan) where
  abbrev pub done : List Event → ℕ → ℕ
  done es p = length (trail_of plan es p)

  pub none_done : (p : ℕ) → done [] p ≡ 0
  unfolding trail_from
  none_done p = refl

  -- a longer list has at least as many
  pub done_more : (short long rest : List Event) → long ≡ short ++ rest → (p : ℕ) → done short p ≤ done long p
  done_more short long rest is p =
      subst (λ (es : List Event). done short p ≤ done es p) (sym is) (trails_lengthen plan short rest p)

  one_more : (es : List Event) (e : Event) (p : ℕ) → done (es ++ e ∷ []) p ≤ done es p + 1
  one_more es e p = ⊎_elim
      (λ same. let is = ap length same in omega (arith, is))
      (λ s. let is = ap length s.1 in let long = length-append (trail_of plan es p) (s.0 ∷ []) in
      omega (arith, is, long))
      (grows plan es e p)

  -- the events are cut where pass p has done k steps
  abbrev CutAfter : List Event → (p k : ℕ) → Type 0
  CutAfter events p k = (early : List Event) × (late : List Event) × (events ≡ early ++ late) × (done early p ≡ k)

  cut_after : (p k : ℕ) (es rest : List Event) → done es p ≤ k → k ≤ done (es ++ rest) p
      → CutAfter (es ++ rest) p k
  cut_after p k es [] few enough =
      let whole : done (es ++ []) p ≡ done es p = ap (λ (ds : List Event). done ds p) (append-nil es) in
      (es, [], refl, omega (arith, few, enough, whole))
  cut_after p k es (e ∷ rest) few enough = dite (ℕ_discrete (done es p) k)
      (λ (is : done es p ≡ k). (es, e ∷ rest, refl, is))
      (λ (less : done es p ≢ k).
      let more = one_more es e p in
      let whole : (es ++ e ∷ []) ++ rest ≡ es ++ (e ∷ rest) = append_assoc es (e ∷ []) rest in
      subst (λ (ds : List Event). CutAfter ds p k) whole
      (cut_after p k (es ++ e ∷ []) rest (omega (arith, few, less, more))
      (subst (λ (ds : List Event). k ≤ done ds p) (sym whole) enough)))

  -- the events before the cut have just n p steps of pass p, and at least n q of each pass q below m
  pub record CutBefore (events : List Event) (n : ℕ → ℕ) (m p : ℕ) : Type 0 where
    pub early : List Event
    pub late : List Event
    pub is : events ≡ early ++ late
    pub own : done early p ≡ n p
    pub others : (q : ℕ) → q < m → n q ≤ done early q

  -- ---- what a pass had heard of cuts the events

  -- the pass p had heard that pass q did n q steps, before it had done more than n p
  abbrev pub Heard : List Order → (ℕ → ℕ) → (p q : ℕ) → Type 0
  Heard orders n p q = (o : Order) × Contains orders o × (o.carrier ≡ p) × (o.steps ≤ n p) × (o.heard.pass ≡ q)
      × (n q ≤ o.heard.steps)

  -- so one cut has these
  pub heard_early : (events : List Event) (orders : List Order) → Each (StepsBefore plan events) orders
      → (n : ℕ → ℕ) (p q : ℕ) → Heard orders n p q
      → (early : List Event) × (late : List Event) × (events ≡ early ++ late) × (done early p ≤ n p)
      × (n q ≤ done early q)
  heard_early events orders each n p q h =
      let b : StepsBefore plan events h.0 = each_in (StepsBefore plan events) orders h.0 h.1 each in
      let own : done b.0 p ≡ h.0.steps = ap (done b.0) (sym h.2) ∙ b.3 in
      let told : h.0.heard.steps ≤ done b.0 h.0.heard.pass = b.4 in
      let its : h.0.heard.steps ≤ done b.0 q = subst (λ (z : ℕ). h.0.heard.steps ≤ done b.0 z) h.4 told in
      let some = h.3 in
      let few = h.5 in (b.0, b.1, b.2, omega (arith, own, some), omega (arith, its, few))

  module _ (events : List Event) (orders : List Order) (each : Each (StepsBefore plan events) orders) (n : ℕ → ℕ)
      (m p : ℕ) (enough : n p ≤ done events p)
      (heard : (q : ℕ) → q < m → q ≢ p → 0 < n q → Heard orders n p q) where
    with_one : (j : ℕ) (c : CutBefore events n j p) → n j ≤ done c.early j → CutBefore events n (suc j) p
    with_one j c all = record {
      early = c.early;
      late = c.late;
      is = c.is;
      own = c.own;
      others = λ q less. dite (ℕ_discrete q j)
          (λ (e : q ≡ j). subst (λ (z : ℕ). n z ≤ done c.early z) (sym e) all)
          (λ (ne : q ≢ j). c.others q (omega (arith, less, ne)));
    }

    -- with the steps of pass j too
    wider : (j : ℕ) → j < m → j ≢ p → CutBefore events n j p → (k : ℕ) → n j ≡ k → CutBefore events n (suc j) p
    wider j lt ne c zero is = with_one j c (omega (arith, is))
    wider j lt ne c (suc k) is = ⊎_elim after before (compare c.early c.late d.0 d.1 (sym c.is ∙ d.2))
      where
        d : (early : List Event) × (late : List Event) × (events ≡ early ++ late) × (done early p ≤ n p)
            × (n j ≤ done early j)
        d = heard_early events orders each n p j (heard j lt ne (omega (arith, is)))

        after : (rest : List Event) × (d.0 ≡ c.early ++ rest) → CutBefore events n (suc j) p
        after r = with_one j (record {
          early = d.0;
          late = d.1;
          is = d.2;
          own = let own = c.own in let few = d.3 in let more = done_more c.early d.0 r.0 r.1 p in
              omega (arith, own, few, more);
          others = λ q less. let few = c.others q less in let more = done_more c.early d.0 r.0 r.1 q in
              omega (arith, few, more);
        }) d.4

        before : (rest : List Event) × (c.early ≡ d.0 ++ rest) → CutBefore events n (suc j) p
        before r = with_one j c
            (let few = d.4 in let more = done_more d.0 c.early r.0 r.1 j in omega (arith, few, more))

    upto : (j : ℕ) → j ≤ m → CutBefore events n j p
    upto zero le =
        let none = none_done p in
        let c = cut_after p (n p) [] events (omega (arith, none)) enough in record {
          early = c.0;
          late = c.1;
          is = c.2;
          own = c.3;
          others = λ q less. absurd (omega (arith, less));
        }
    upto (suc j) le =
        let c = upto j (omega (arith, le)) in dite (ℕ_discrete j p)
        (λ (e : j ≡ p). with_one j c
        (subst (λ (z : ℕ). n z ≤ done c.early z) (sym e) (let own = c.own in omega (arith, own))))
        (λ (ne : j ≢ p). wider j (omega (arith, le)) ne c (n j) refl)

    pub heard_cut : CutBefore events n m p
    heard_cut = upto m (omega arith)
