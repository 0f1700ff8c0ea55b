-- A quiet heap loses nothing: what follows from the clauses of the theorem.
use Rattle.std.proofs.Common.{◌≡◌, ℕ, zero, suc, ◌+◌, ◌-◌, ◌≤◌, ◌==◌, ◌⊎◌, inl, inr, false, cond, List, []}
use Rattle.std.proofs.Common.{◌∷◌, refl, ap, sym, ◌∙◌, subst, arith, length, Some, None, slice_get}
use Rattle.std.specs.Prelude.{option_map}
use Rattle.std.proofs.lemmas.Bool.Decides.{nat_tests}
use Rattle.sh_slots.specs.declared.hand.SlotRef.{SlotRef}
use Rattle.sh_step.specs.declared.body.Body.{Body}
use Rattle.sh_step.specs.Collections.{total}
use Rattle.sh_step.specs.Plans.{Plan, plan_of, shard_of}
use Rattle.sh_core.specs.Worlds.{World, run}
use Rattle.sh_core.specs.Lists.{PutLists, times, lists_of, in_hand}
use Rattle.sh_core.specs.Stacks.{top, link_to, slot_ref, ties_of}
use Rattle.sh_core.specs.Follows.{LinksOn}
use Rattle.sh_core.specs.Refines.{in_hands, Refines}
use Rattle.sh_core.specs.Quiet.{Quiet, walked, WordsLead, NoneLost, LeftIsOnStacks, LosesNothing}
use Rattle.sh_core.specs.Quiet.{QuietLosesNothing}
use Rattle.sh_core.proofs.Clauses.Follows.{kinds_of, left_empty}
use Rattle.sh_core.proofs.Clauses.LinkFacts.{links_of}
use Rattle.sh_core.proofs.Clauses.RunTheorem.{theorem}
use Rattle.sh_core.proofs.Sums.ListCounts.{no_first}

-- a sum of zeros
pub none_of : (f : Body → ℕ) (ps : List Body) → ((a : ℕ) (p : Body) → slice_get ps a ≡ Some p → f p ≡ 0)
    → total f ps ≡ 0
unfolding total
none_of f [] each = refl
none_of f (p ∷ ps) each =
    let here = each 0 p refl in
    let rest = none_of f ps (λ a r at. each (suc a) r at) in omega arith

names_top : (ys : List ℕ) → link_to ys ≡ suc (top ys)
names_top [] = refl
names_top (y ∷ ys) = omega arith

-- a walk over a written link continues
next : (link : ℕ → ℕ) (tied s : ℕ) (xs : List ℕ) (n : ℕ) → tied ≡ 0 → walked link n (top xs) ≡ Some xs
    → ((link s ≡ 0) × (tied ≡ 1)) ⊎ ((link s ≡ link_to xs) × (tied ≡ 0))
    → cond (link s == 0) None (option_map (λ zs. s ∷ zs) (walked link n (link s - 1))) ≡ Some (s ∷ xs)
next link tied s xs n free rest (inl unwritten) = let one = unwritten.1 in absurd (omega (arith, one, free))
next link tied s xs n free rest (inr written) =
    let e : link s ≡ suc (top xs) = written.0 ∙ names_top xs in
    let no : (suc (top xs) == 0) ≡ false = grind (arith, nat_tests) in
    let less : suc (top xs) - 1 ≡ top xs = omega arith in
    let on : walked link n (suc (top xs) - 1) ≡ Some xs = ap (walked link n) less ∙ rest in
    let P : ℕ → Type 0 = λ m. cond (m == 0) None (option_map (λ zs. s ∷ zs) (walked link n (m - 1))) ≡ Some (s ∷ xs) in
    let at : P (suc (top xs)) = subst (λ b. cond b None (option_map (λ zs. s ∷ zs) (walked link n (suc (top xs) - 1)))
    ≡ Some (s ∷ xs)) (sym no) (ap (option_map (λ zs. s ∷ zs)) on) in
    subst P (sym e) at

-- if all links are written they lead along the list
leads : (link tied : ℕ → ℕ) (xs : List ℕ) → LinksOn link tied xs → ((s : ℕ) → tied s ≡ 0) → (n : ℕ) → length xs ≤ n
    → walked link n (top xs) ≡ Some xs
unfolding walked
leads link tied [] on free n few = refl
leads link tied (s ∷ xs) on free zero few = absurd (omega (arith, few))
leads link tied (s ∷ xs) on free (suc n) few =
    let rest : walked link n (top xs) ≡ Some xs = leads link tied xs on.1 free n (omega (arith, few)) in
    let first : walked link (suc n) (suc s) ≡ Some (s ∷ xs) = next link (tied s) s xs n (free s) rest on.0 in
    let is : suc s ≡ s + 1 = omega arith in
    subst (λ t. walked link (suc n) t ≡ Some (s ∷ xs)) is first

module _ (plan : Plan) (w : World) (l : PutLists) (all : Refines plan w l) (quiet : Quiet w) where
  no_ties_now : (q s : ℕ) → total (ties_of (slot_ref q s)) w.parts ≡ 0
  no_ties_now q s = none_of (ties_of (slot_ref q s)) w.parts (λ a p at. rw (quiet a p at) refl)

  no_hands_now : (x : SlotRef) → in_hands w x ≡ 0
  no_hands_now x = none_of (in_hand x) w.parts (λ a p at. rw (quiet a p at) refl)

  lead : WordsLead w l
  lead = record {
    stack = λ q n few. subst (λ (t : ℕ). walked (w.words.link_at q) n t ≡ Some (l.stack q))
        (sym (all.linked.0.tops q))
        (leads (w.words.link_at q) (λ s. total (ties_of (slot_ref q s)) w.parts) (l.stack q)
        ((links_of plan w l all).stack q) (no_ties_now q) n few);
    chain = λ q n few. leads (w.words.link_at q) (λ s. total (ties_of (slot_ref q s)) w.parts) (l.chain q)
        ((links_of plan w l all).chain q) (no_ties_now q) n few;
    cursor = all.linked.0.cursors;
  }

  none_lost : NoneLost w l
  none_lost x is =
      let one = (kinds_of w l all.one_kind x is.class is.classed).0 is.below in
      let no_hand = no_hands_now x in
      let e = is.empty in
      grind (arith, one, no_hand, e)

  left_on_stacks : LeftIsOnStacks plan w l
  unfolding total
  left_on_stacks x is free =
      let nothing = left_empty plan w all.owners all.parts (shard_of plan x.page) free in
      let no_mine = nothing.0 x refl in
      let chain = no_first (l.chain x.page)
      (λ s. sym (all.linked.0.cursors x.page s) ∙ nothing.1 x.page s refl) in
      let no_chain : times x.slot (l.chain x.page) ≡ 0 = ap (times x.slot) chain in
      let one = none_lost x is in omega (arith, one, no_mine, no_chain)

  pub loses_nothing : LosesNothing plan w l
  loses_nothing = record { lead = lead; none_lost = none_lost; left = left_on_stacks }

pub quiet_loses_nothing : QuietLosesNothing
quiet_loses_nothing layout shape a b f es quiet = loses_nothing (plan_of layout shape) (run (plan_of layout shape) es)
    (lists_of (plan_of layout shape) es) (theorem layout shape a b f es) quiet
