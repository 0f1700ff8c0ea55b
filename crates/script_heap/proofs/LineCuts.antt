-- Events are cut between two lines, if the first steps of each pass after the cut come after all steps before it.
use Rattle.std.proofs.Common.{◌≡◌, ◌≢◌, ℕ, zero, suc, ◌<◌, ◌≤◌, List, [], ◌∷◌, ◌++◌, refl, ap, sym, ◌∙◌}
use Rattle.std.proofs.Common.{subst, arith, append-nil, append_assoc, ⊎_elim}
use Rattle.std.specs.List.{Contains}
use mathlib.Core.Logic.{dite}
use native.Mathlib.Decide.{ℕ_discrete}
use Rattle.sh_step.specs.declared.action.Event.{Event}
use Rattle.sh_step.specs.Plans.{Plan}
use Rattle.sh_table.specs.declared.view.Order.{Order}
use Rattle.sh_table.specs.Reached.{StepsBefore}
use Rattle.sh_table.specs.Views.{Each}
use Rattle.sh_quiet.proofs.Cuts.{CutBefore, Heard, compare, done, done_more, heard_early, heard_cut as cut_heard}

cancel : (xs ys zs : List Event) → xs ++ ys ≡ xs ++ zs → ys ≡ zs
cancel [] ys zs e = e
cancel (x ∷ xs) ys zs e = let t : xs ++ ys ≡ xs ++ zs = cc in cancel xs ys zs t

-- ---- how many steps each pass did

module _ (plan : Plan) where
  -- the events before the cut have just n q steps of each pass q below m
  pub record CutAt (events : List Event) (n : ℕ → ℕ) (m : ℕ) : Type 0 where
    pub early : List Event
    pub late : List Event
    pub is : events ≡ early ++ late
    pub same : (q : ℕ) → q < m → done plan early q ≡ n q

  -- ---- what a pass had heard of cuts the events

  module _ (events : List Event) (orders : List Order) (each : Each (StepsBefore plan events) orders) (n : ℕ → ℕ)
      (p : ℕ) (heard : (q : ℕ) → 0 < n q → (o : Order) × Contains orders o × (o.carrier ≡ p) × (o.steps ≡ n p)
      × (o.heard.pass ≡ q) × (n q ≤ o.heard.steps)) where
    by_then : (q : ℕ) → 0 < n q → Heard plan orders n p q
    by_then q some = let h = heard q some in let its = h.3 in (h.0, h.1, h.2, omega (arith, its), h.4, h.5)

    enough : (k : ℕ) → n p ≡ k → n p ≤ done plan events p
    enough zero is = omega (arith, is)
    enough (suc k) is =
        let c = heard_early plan events orders each n p p (by_then p (omega (arith, is))) in
        let few = c.4 in
        let more = done_more plan c.0 events c.1 c.2 p in omega (arith, few, more)

    pub heard_cut : (m : ℕ) → CutBefore plan events n m p
    heard_cut m = cut_heard plan events orders each n m p (enough (n p) refl) (λ q lt ne some. by_then q some)

  -- ---- the shortest of the cuts

  module _ (events : List Event) (n : ℕ → ℕ) (m : ℕ) (cuts : (p : ℕ) → p < m → CutBefore plan events n m p) where
    -- no longer than those of the first k passes
    record Shortest (k : ℕ) : Type 0 where
      early : List Event
      late : List Event
      is : events ≡ early ++ late
      all : (q : ℕ) → q < m → n q ≤ done plan early q
      few : (q : ℕ) → q < k → done plan early q ≤ n q

    all_events : Shortest 0
    all_events = record {
      early = events;
      late = [];
      is = sym (append-nil events);
      all = λ q less. let c = cuts q less in let own = c.own in
          let more = done_more plan c.early events c.late c.is q in omega (arith, own, more);
      few = λ q less. absurd (omega (arith, less));
    }

    -- the shorter one of two
    shorter : (k : ℕ) → CutBefore plan events n m k → Shortest k → Shortest (suc k)
    shorter k c s = ⊎_elim after before (compare s.early s.late c.early c.late (sym s.is ∙ c.is))
      where
        after : (rest : List Event) × (c.early ≡ s.early ++ rest) → Shortest (suc k)
        after r = record {
          early = s.early;
          late = s.late;
          is = s.is;
          all = s.all;
          few = λ q less. dite (ℕ_discrete q k)
              (λ (e : q ≡ k). subst (λ (z : ℕ). done plan s.early z ≤ n z) (sym e)
              (let own = c.own in let more = done_more plan s.early c.early r.0 r.1 k in omega (arith, own, more)))
              (λ (ne : q ≢ k). s.few q (omega (arith, less, ne)));
        }

        before : (rest : List Event) × (s.early ≡ c.early ++ rest) → Shortest (suc k)
        before r = record {
          early = c.early;
          late = c.late;
          is = c.is;
          all = c.others;
          few = λ q less. dite (ℕ_discrete q k)
              (λ (e : q ≡ k). subst (λ (z : ℕ). done plan c.early z ≤ n z) (sym e)
              (let own = c.own in omega (arith, own)))
              (λ (ne : q ≢ k). let few = s.few q (omega (arith, less, ne)) in
              let more = done_more plan c.early s.early r.0 r.1 q in omega (arith, few, more));
        }

    shortest : (k : ℕ) → k ≤ m → Shortest k
    shortest zero le = all_events
    shortest (suc k) le = shorter k (cuts k (omega (arith, le))) (shortest k (omega (arith, le)))

    pub exact_cut : CutAt events n m
    exact_cut =
        let s = shortest m (omega arith) in
        record {
          early = s.early;
          late = s.late;
          is = s.is;
          same = λ q less. let all = s.all q less in let few = s.few q less in omega (arith, all, few);
        }

  -- ---- the next cut

  -- what comes between a cut and the next one
  pub record CutNext (late early : List Event) (n : ℕ → ℕ) (m : ℕ) : Type 0 where
    pub own : List Event
    pub rest : List Event
    pub is : late ≡ own ++ rest
    pub same : (q : ℕ) → q < m → done plan (early ++ own) q ≡ n q

  pub next_cut : (events early late : List Event) (n now : ℕ → ℕ) (m : ℕ) → events ≡ early ++ late
      → ((q : ℕ) → q < m → done plan early q ≡ now q) → ((q : ℕ) → q < m → now q ≤ n q) → CutAt events n m
      → CutNext late early n m
  next_cut events early late n now m is here grows c =
      ⊎_elim after before (compare early late c.early c.late (sym is ∙ c.is))
    where
      after : (rest : List Event) × (c.early ≡ early ++ rest) → CutNext late early n m
      after r =
          let whole : early ++ late ≡ early ++ (r.0 ++ c.late) = sym is
          ∙ (c.is ∙ (ap (λ (es : List Event). es ++ c.late) r.1 ∙ append_assoc early r.0 c.late)) in
          record {
            own = r.0;
            rest = c.late;
            is = cancel early late (r.0 ++ c.late) whole;
            same = λ q less. ap (λ (es : List Event). done plan es q) (sym r.1) ∙ c.same q less;
          }

      before : (rest : List Event) × (early ≡ c.early ++ rest) → CutNext late early n m
      before r = record {
        own = [];
        rest = late;
        is = refl;
        same = λ q less.
            let first = here q less in
            let grown = grows q less in
            let next = c.same q less in
            let more = done_more plan c.early early r.0 r.1 q in
            let same : done plan early q ≡ n q = omega (arith, first, grown, next, more) in
            ap (λ (es : List Event). done plan es q) (append-nil early) ∙ same;
      }
