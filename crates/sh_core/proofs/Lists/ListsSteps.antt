-- What is kept of lists, bells, duties and owners: what stays if a part keeps its face, and what only an owner has.
use Rattle.std.proofs.Common.{◌≡◌, ◌≢◌, ℕ, ◌+◌, ◌-◌, ◌≤◌, ◌==◌, ◌&&◌, ⊎_elim, Bool, true, false, cond, List, [], ◌∷◌}
use Rattle.std.proofs.Common.{set, sym, refl, ap, ◌∙◌, subst, arith, Option, Some, None, slice_get, eq-eqb}
use Rattle.std.specs.Prelude.{nat_lt}
use Rattle.std.proofs.lemmas.Bool.Decides.{nat_tests}
use Rattle.sh_slots.specs.declared.hand.SlotRef.{SlotRef}
use Rattle.sh_slots.specs.declared.hand.Hand.{Hand}
use Rattle.sh_slots.specs.declared.hand.Hand.TheVariants.{Tying, RingTying}
use Rattle.sh_step.specs.Plans.{Plan, shard_of, over_heap}
use Rattle.sh_slots.specs.Slots.{same_slot}
use Rattle.sh_step.specs.Collections.{total, if1}
use Rattle.sh_step.specs.declared.body.Body.{Body}
use Rattle.sh_core.specs.Lists.{PutLists}
use Rattle.sh_core.specs.Stacks.{slot_ref, top, link_to, first_is, tying, ties_of, cursor_at, ring_tying, ring_ties}
use Rattle.sh_core.specs.Stacks.{is_at}
use Rattle.sh_core.specs.Stacks.{bell_cursor_at}
use Rattle.sh_core.specs.Bells.{rings, armed_at, owns}
use Rattle.sh_core.specs.Placed.{OwnNotesOf, ListsAgreeOf}
use Rattle.sh_step.specs.Rows.{hand, own, owned_by, point}
use Rattle.sh_core.proofs.Sums.Totals.{total_same, get_set, total_alone, total_two}
use Rattle.sh_core.proofs.Lists.StackSteps.{chains_same}
use Rattle.sh_core.proofs.Sums.Tests.{if1_none}
use Rattle.sh_core.proofs.Sums.ListCounts.{times_noted_as}
use Rattle.sh_core.specs.Words.{Words}

-- What a part shows of lists, bells, duties and owners
pub record Face : Type 0 where
  pub owed : ℕ → ℕ → ℕ
  pub tied : ℕ → ℕ → ℕ
  pub cursor : ℕ → ℕ → ℕ
  pub bell_owed : ℕ → ℕ → ℕ
  pub bell_tied : ℕ → ℕ → ℕ
  pub bell_cursor : ℕ → ℕ → ℕ
  pub ringing : ℕ → ℕ
  pub armed : ℕ → ℕ
  pub owning : ℕ → ℕ

abbrev pub face : Plan → Body → Face
face plan p = record {
  owed = λ q s. tying (slot_ref q s) p;
  tied = λ q s. ties_of (slot_ref q s) p;
  cursor = λ q s. cursor_at q s p;
  bell_owed = λ n q. ring_tying plan n q p;
  bell_tied = λ n q. ring_ties plan n q p;
  bell_cursor = λ n q. bell_cursor_at n q p;
  ringing = λ q. rings q p;
  armed = λ q. armed_at q p;
  owning = λ n. owns n p;
}

pub homed_set : (plan : Plan) (class : ℕ → ℕ) (ps : List Body) (a : ℕ) (p' : Body)
    → ((b : ℕ) (u : Body) → slice_get ps b ≡ Some u → OwnNotesOf plan class u) → OwnNotesOf plan class p'
    → (b : ℕ) (u : Body) → slice_get (set ps a p') b ≡ Some u → OwnNotesOf plan class u
homed_set plan class ps a p' old new b u at = ⊎_elim (λ h. let P : Body → Type 0 = λ v. OwnNotesOf plan class v
    in subst P h.1 new) (λ h. old b u h.1) (get_set ps a b p' u at)

pub lists_frame : (plan : Plan) (w : Words) (ps : List Body) (l : PutLists) (a : ℕ) (p p' : Body)
    → ListsAgreeOf plan w ps l
    → slice_get ps a ≡ Some p → face plan p' ≡ face plan p → OwnNotesOf plan w.class_at p'
    → ListsAgreeOf plan w (set ps a p') l
lists_frame plan w ps l a p p' r at same mine = record {
  stacks = chains_same _ _ _ _ _ _ _ _ _ _ _ _ _ _ r.stacks (λ q. refl) (λ q s. refl)
      (λ q s. total_same (tying (slot_ref q s)) ps a p p' at (ap (λ (f : Face). f.owed q s) same))
      (λ q s. total_same (ties_of (slot_ref q s)) ps a p p' at (ap (λ (f : Face). f.tied q s) same))
      (λ q s. total_same (cursor_at q s) ps a p p' at (ap (λ (f : Face). f.cursor q s) same)) (λ q. refl) (λ q. refl);
  bells = chains_same _ _ _ _ _ _ _ _ _ _ _ _ _ _ r.bells (λ q. refl) (λ q s. refl)
      (λ q s. total_same (ring_tying plan q s) ps a p p' at (ap (λ (f : Face). f.bell_owed q s) same))
      (λ q s. total_same (ring_ties plan q s) ps a p p' at (ap (λ (f : Face). f.bell_tied q s) same))
      (λ q s. total_same (bell_cursor_at q s) ps a p p' at (ap (λ (f : Face). f.bell_cursor q s) same)) (λ q. refl)
      (λ q. refl);
  duty = λ q.
      let x = total_same (armed_at q) ps a p p' at (ap (λ (f : Face). f.armed q) same) in
      let y = total_same (rings q) ps a p p' at (ap (λ (f : Face). f.ringing q) same) in
      let d = r.duty q in
      let d0 = d.0 in
      let d1 = d.1 in (omega arith, omega arith);
  owned = λ n. let x = total_same (owns n) ps a p p' at (ap (λ (f : Face). f.owning n) same) in let d = r.owned n
      in (d.0 ∙ sym x, d.1);
  own_notes = homed_set plan w.class_at ps a p' r.own_notes mine;
}

abbrev owns_by : ℕ → Option ℕ → ℕ
owns_by n o = elim o [ Some k ↦ if1 (k == n) | None ↦ 0 ]

pub owns_one : (plan : Plan) (o : Option ℕ) (q : ℕ) → owned_by plan o q ≡ true → owns_by (shard_of plan q) o ≡ 1
owns_one plan (Some k) q h = rw h refl
owns_one plan None q h = absurd (let z : false ≡ true = h in cc)

pub owns_none : (plan : Plan) (o : Option ℕ) (q : ℕ) → owns_by (shard_of plan q) o ≡ 0 → owned_by plan o q ≡ false
owns_none plan (Some k) q h = if1_none (k == shard_of plan q) h
owns_none plan None q h = refl

module _ (plan : Plan) (w : Words) (ps : List Body) (l : PutLists) (a : ℕ) (p : Body) (r : ListsAgreeOf plan w ps l)
    (at : slice_get ps a ≡ Some p) where
  few_owners : (n : ℕ) → total (owns n) ps ≤ 1
  few_owners n = let d = r.owned n in let d0 = d.0 in let d1 = d.1 in omega arith

  pub alone_cursor : (q s : ℕ) → own plan p q ≡ true → total (cursor_at q s) ps ≡ cursor_at q s p
  alone_cursor q s mine = let o = owns_one plan p.owned q mine in let f = few_owners (shard_of plan q) in
      total_alone (cursor_at q s) (owns (shard_of plan q)) ps a p
      (λ j u h z. (r.own_notes j u h).points q s (owns_none plan u.owned q z)) at f (omega arith)

  pub alone_armed : (q : ℕ) → own plan p q ≡ true → total (armed_at q) ps ≡ armed_at q p
  alone_armed q mine = let o = owns_one plan p.owned q mine in let f = few_owners (shard_of plan q) in
      total_alone (armed_at q) (owns (shard_of plan q)) ps a p (λ j u h z. (r.own_notes j u h).arms q
      (owns_none plan u.owned q z)) at f (omega arith)

  pub alone_bell : (n q : ℕ) → p.owned ≡ Some n → total (bell_cursor_at n q) ps ≡ bell_cursor_at n q p
  alone_bell n q mine = let f = few_owners n in
      total_alone (bell_cursor_at n q) (owns n) ps a p (λ j u h z. none u.owned u.bell_cursor z) at f
      (let o : owns n p ≡ 1 = rw (mine, eq-eqb n n refl) refl in omega arith) where
        none : (o b : Option ℕ) → owns_by n o ≡ 0 → (elim o as (λ _. ℕ)
            [ Some k ↦ cond (k == n) (is_at b q) 0 | None ↦ 0 ]) ≡ 0
        none (Some k) b z = go (k == n) z where
          go : (c : Bool) → if1 c ≡ 0 → cond c (is_at b q) 0 ≡ 0
          go true e = absurd (omega arith)
          go false e = refl
        none None b z = refl

  -- another pass does not own what p does
  pub other_owner : (b q : ℕ) (u : Body) → b ≢ a → slice_get ps b ≡ Some u → own plan p q ≡ true → own plan u q ≡ false
  other_owner b q u n h mine =
      let f = few_owners (shard_of plan q) in
      let o = owns_one plan p.owned q mine in
      let t = total_two (owns (shard_of plan q)) ps b a u p n h at in
      owns_none plan u.owned q (omega arith)

-- a pass that ties nothing has no link to store
pub no_ties : (x : SlotRef) (ps : List Body) → total (ties_of x) ps ≡ 0 → total (tying x) ps ≡ 0
unfolding total
no_ties x [] h = refl
no_ties x (p ∷ ps) h = let one = each (p.hand) in let rest = no_ties x ps (omega arith) in let here = one (omega arith)
    in omega arith where
      each : (h : Hand) → ties_of x (hand p h) ≡ 0 → tying x (hand p h) ≡ 0
      each (Tying y l r) e = go (same_slot x y) e where
        go : (b : Bool) → if1 b ≡ 0 → cond b l 0 ≡ 0
        go true c = absurd (omega arith)
        go false c = refl
      each _ e = refl

pub no_ring_ties : (plan : Plan) (n q : ℕ) (ps : List Body) → total (ring_ties plan n q) ps ≡ 0
    → total (ring_tying plan n q) ps ≡ 0
unfolding total
no_ring_ties plan n q [] h = refl
no_ring_ties plan n q (p ∷ ps) h = let one = each (p.hand) in let rest = no_ring_ties plan n q ps (omega arith)
    in let here = one (omega arith) in omega arith where
      each : (h : Hand) → ring_ties plan n q (hand p h) ≡ 0 → ring_tying plan n q (hand p h) ≡ 0
      each (RingTying k l) e = go ((n == shard_of plan k) && (q == k)) e where
        go : (b : Bool) → if1 b ≡ 0 → cond b (over_heap plan n 2 l) 0 ≡ 0
        go true c = absurd (omega arith)
        go false c = refl
      each _ e = refl

-- a cursor made from the number of a list's top
pub point_total : (q k t : ℕ) (xs : List ℕ) (cs : List (ℕ × ℕ)) → times_noted_as k t (point 1 q (top xs) cs)
    ≡ times_noted_as k t cs + cond (q == k) (first_is xs t) 0
unfolding total
point_total q k t [] cs = go (q == k) where
  go : (b : Bool) → times_noted_as k t cs ≡ times_noted_as k t cs + cond b 0 0
  go true = omega arith
  go false = omega arith
point_total q k t (s ∷ xs) cs =
    let e : nat_lt (s + 1) 1 ≡ false = grind (arith, nat_tests) in
    let d : s + 1 - 1 ≡ s = omega arith in
    rw (e, d) (go (q == k) (s == t)) where
      go : (b c : Bool) → if1 (b && c) + times_noted_as k t cs ≡ times_noted_as k t cs + cond b (if1 c) 0
      go true c = omega arith
      go false c = omega arith

-- the same from the link word of the item above it
pub point_link : (q k t : ℕ) (xs : List ℕ) (cs : List (ℕ × ℕ)) → times_noted_as k t (point 2 q (link_to xs) cs)
    ≡ times_noted_as k t cs + cond (q == k) (first_is xs t) 0
unfolding total
point_link q k t [] cs = go (q == k) where
  go : (b : Bool) → times_noted_as k t cs ≡ times_noted_as k t cs + cond b 0 0
  go true = omega arith
  go false = omega arith
point_link q k t (s ∷ xs) cs =
    let e : nat_lt (s + 2) 2 ≡ false = grind (arith, nat_tests) in
    let d : s + 2 - 2 ≡ s = omega arith in
    rw (e, d) (go (q == k) (s == t)) where
      go : (b c : Bool) → if1 (b && c) + times_noted_as k t cs ≡ times_noted_as k t cs + cond b (if1 c) 0
      go true c = omega arith
      go false c = omega arith
