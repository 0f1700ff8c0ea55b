-- Bells and the links of pages name pages of the heap, so their words are small.
use Rattle.std.proofs.Common.{◌≡◌, ℕ, zero, suc, ◌+◌, ◌-◌, ◌*◌, ◌<◌, ◌≤◌, ◌==◌, Bool, true, false, cond, List, [], ◌∷◌}
use Rattle.std.proofs.Common.{refl, ap, ◌∙◌, subst, arith, eqb-true, eq-eqb}
use Rattle.std.specs.Prelude.{not, nat_lt}
use Rattle.sh_step.specs.Collections.{total, if1}
use Rattle.sh_step.specs.Plans.{Plan, Lawful, heap_pages, shard_of, page_number, over_heap}
use Rattle.sh_core.specs.Worlds.{World}
use Rattle.sh_core.specs.Lists.{PutLists, times}
use Rattle.sh_core.specs.Stacks.{Chained, top, link_to, ring_tying, bell_link}
use Rattle.sh_core.specs.Placed.{Agreement}
use Rattle.sh_core.specs.Reads.{AllReadsAgree}
use Rattle.sh_core.specs.InHeap.{AllInHeap, BellsAreSmall}
use Rattle.sh_core.proofs.Sums.PageNumbers.{over_some}
use Rattle.sh_core.proofs.Kept.PlacesInHeap.{belled}
use Rattle.sh_core.proofs.Sums.Tests.{if1_self}
use Rattle.sh_core.proofs.Sums.ListCounts.{times_cons}

-- an item of a chain links to the item after it
chained_at : (word owed : ℕ → ℕ) (q : ℕ) (xs : List ℕ) → Chained word owed xs → 0 < times q xs → (rest : List ℕ)
    × (word q + owed q ≡ link_to rest) × ((s : ℕ) → times s rest ≤ times s xs)
unfolding total
chained_at word owed q [] h some = absurd (omega arith)
chained_at word owed q (x ∷ xs) h some = go (x == q) refl some (λ k. chained_at word owed q xs h.1 k) where
  go : (b : Bool) → (x == q) ≡ b → 0 < if1 b + times q xs → (0 < times q xs → (rest : List ℕ)
      × (word q + owed q ≡ link_to rest) × ((s : ℕ) → times s rest ≤ times s xs)) → (rest : List ℕ)
      × (word q + owed q ≡ link_to rest) × ((s : ℕ) → times s rest ≤ times s (x ∷ xs))
  go true e some rest = let i = eqb-true x q e in let P : ℕ → Type 0 = λ k. word k + owed k ≡ link_to xs
      in (xs, subst P i h.0, λ s. let t = times_cons s x xs in omega arith)
  go false e some rest = let r = rest (omega arith) in (
    r.0,
    r.1,
    λ s. let t = times_cons s x xs in let k = r.2 s
        in omega arith,
  )

-- a word that names a page by its number in the shard is at most the word that names it over the heap
over_small : (plan : Plan) (n k m : ℕ) → m ≤ over_heap plan n k m
unfolding over_heap page_number
over_small plan n k m = go (nat_lt m k) refl where
  go : (b : Bool) → nat_lt m k ≡ b → m ≤ cond b m (n * plan.pages + (m - k) + k)
  go true e = omega arith
  go false e = omega arith

module _ (plan : Plan) (w : World) (l : PutLists) (laws : Lawful plan) (all : Agreement plan w l)
    (know : AllReadsAgree plan w)
    (within : AllInHeap plan w) where
  names_small : (n : ℕ) (xs : List ℕ) → ((s : ℕ) → times s xs ≤ times s (l.bells n) + times s (l.bell_chain n))
      → (top xs ≤ heap_pages plan) × (link_to xs ≤ heap_pages plan + 1)
  names_small n [] few = (omega arith, omega arith)
  names_small n (s ∷ xs) few =
      let f = few s in
      let t = times_cons s s xs in
      let one = if1_self s in
      let b = belled plan w l laws all know within n s (omega arith) in (omega arith, omega arith)

  bell_small : (n : ℕ) → w.words.bell_at n ≤ heap_pages plan
  bell_small n =
      let t = all.lists.bells.tops n in
      let s = over_small plan n 1 (w.words.bell_at n) in
      let f = (names_small n (l.bells n) (λ s. omega arith)).0 in omega arith

  link_small : (q : ℕ) → w.words.page_link_at q ≤ heap_pages plan + 1
  link_small q = go (w.words.page_link_at q == 0) refl where
    n : ℕ
    n = shard_of plan q

    word : ℕ → ℕ
    word = bell_link plan w.words.page_link_at n

    owed : ℕ → ℕ
    owed k = total (ring_tying plan n k) w.parts

    here : word q ≡ over_heap plan n 2 (w.words.page_link_at q)
    here = rw (eq-eqb (shard_of plan q) (shard_of plan q) refl) refl

    ends : (xs : List ℕ) → Chained word owed xs → ((s : ℕ) → times s xs ≤ times s (l.bells n) + times s
        (l.bell_chain n)) → 0 < times q xs → w.words.page_link_at q ≤ heap_pages plan + 1
    ends xs c few some =
        let r = chained_at word owed q xs c some in
        let f = (names_small n r.0 (λ s. let a = r.2 s in let b = few s in omega arith)).1 in
        let s = over_small plan n 2 (w.words.page_link_at q) in
        let h = here in
        let e = r.1 in omega arith

    go : (b : Bool) → (w.words.page_link_at q == 0) ≡ b → w.words.page_link_at q ≤ heap_pages plan + 1
    go true e = let i = eqb-true (w.words.page_link_at q) 0 e in omega arith
    go false e =
        let z : (word q == 0) ≡ false = ap (λ (k : ℕ). k == 0) here ∙ over_some plan n (w.words.page_link_at q) e in
        let y : if1 (not (word q == 0)) ≡ 1 = rw z refl in
        let t = all.lists.bells.ties n q in
        at (times q (l.bells n)) refl (omega arith) where
          at : (k : ℕ) → times q (l.bells n) ≡ k → 0 < k + times q (l.bell_chain n)
              → w.words.page_link_at q ≤ heap_pages plan + 1
          at (suc k) is some = ends (l.bells n) (all.lists.bells.stacks n) (λ s. omega arith) (omega arith)
          at zero is some = ends (l.bell_chain n) (all.lists.bells.chains n) (λ s. omega arith) (omega arith)

  pub bells_are_small : BellsAreSmall plan w
  bells_are_small = (bell_small, link_small)
