-- Which pages are blank, and why a page that was given a class has a slot.
use Rattle.std.proofs.Common.{◌≡◌, ℕ, zero, suc, ◌+◌, ◌<◌, ◌≤◌, ◌⊎◌, inl, inr, true, Some, None, List, [], ◌∷◌}
use Rattle.std.proofs.Common.{slice_get, refl, ap, ◌∙◌, sym, subst, arith}
use Rattle.std.proofs.lemmas.Bool.{false≢true}
use Rattle.std.specs.Prelude.{nat_lt}
use Rattle.sh_queue.specs.Numbers.{has_number}
use Rattle.sh_queue.specs.Queues.{PageQueues, EachOnce, class_queue}
use Rattle.sh_queue.proofs.Numbers.{has_number-first}
use Rattle.sh_queue.proofs.PagePlaces.{opened_somewhere}
use Rattle.sh_shape.specs.Classes.{slots}
use Rattle.sh_pass.specs.Owners.{SeenPage}
use Rattle.sh_shard.specs.Pages.{Paged, page_at, seen_class, NothingMine, WhollyMine, GivesClass}
use Rattle.sh_shard.specs.Shards.{Sharded, SortedPages, IsBlank, NoneOpenedBlank, IsLowest}
use Rattle.sh_shard.proofs.ClassWords.{word_of}

-- an opened page that is blank is among the blank pages of the queues
pub blank_stands : (n : Sharded) → SortedPages n.pages n.queues → EachOnce n.queues → (p : ℕ) → p < n.queues.opened
    → IsBlank (page_at n.pages p) → has_number p n.queues.blank ≡ true
blank_stands n k once p l is = stands (opened_somewhere p n.queues once l)
  where
    stands : ((c : ℕ) × (c < 8) × (has_number p (class_queue n.queues c) ≡ true))
        ⊎ ((has_number p n.queues.full ≡ true) ⊎ (has_number p n.queues.blank ≡ true))
        → has_number p n.queues.blank ≡ true
    stands (inl r) = let e : Some (r.0 + 1) ≡ Some 0 = sym (k.classes r.0 p r.2) ∙ is in let f : r.0 + 1 ≡ 0 = cc
        in absurd (omega arith)
    stands (inr (inl t)) = let some = (k.full p t).classed in let e : seen_class (page_at n.pages p)
        ≡ 0 = word_of (page_at n.pages p) 0 is in absurd (omega arith)
    stands (inr (inr t)) = t

-- no opened page is blank once no page is among the blank ones
pub none_opened_blank : (n : Sharded) → SortedPages n.pages n.queues → EachOnce n.queues
    → slice_get n.queues.blank 0 ≡ None → NoneOpenedBlank n
none_opened_blank n k once front p l is = go n.queues.blank front (blank_stands n k once p l is)
  where
    go : (xs : List ℕ) → slice_get xs 0 ≡ None → has_number p xs ≡ true → ⊥
    go [] e here = false≢true here
    go (x ∷ xs) e here = let z : Some x ≡ None = e in cc

-- no page is blank once no opened page is blank and every segment is opened
pub none_blank : (n : Sharded) → SortedPages n.pages n.queues → n.queues.unopened ≡ 0 → NoneOpenedBlank n → (p : ℕ)
    → p < n.pages.count → ¬ IsBlank (page_at n.pages p)
none_blank n k none opened p l is = opened p (let a = k.all in omega arith) is

-- the lowest page among the blank ones is the lowest blank page
pub lowest_blank : (n : Sharded) → SortedPages n.pages n.queues → EachOnce n.queues → (p : ℕ) → p < n.queues.opened
    → IsBlank (page_at n.pages p) → ((q : ℕ) → has_number q n.queues.blank ≡ true → p ≤ q) → IsLowest IsBlank p n.pages
lowest_blank n k once p inside here lowest = record {
  here = here;
  lower = λ q below is. let l = lowest q (blank_stands n k once q (omega arith) is) in absurd (omega arith);
}

pub front_blank : (p : ℕ) (q : PageQueues) → slice_get q.blank 0 ≡ Some p → has_number p q.blank ≡ true
front_blank p q e = has_number-first p q.blank e

slots_some : (c : ℕ) → c < 8 → nat_lt 0 (slots c) ≡ true
slots_some zero l = refl
slots_some (suc zero) l = refl
slots_some (suc (suc zero)) l = refl
slots_some (suc (suc (suc zero))) l = refl
slots_some (suc (suc (suc (suc zero)))) l = refl
slots_some (suc (suc (suc (suc (suc zero))))) l = refl
slots_some (suc (suc (suc (suc (suc (suc zero)))))) l = refl
slots_some (suc (suc (suc (suc (suc (suc (suc zero))))))) l = refl
slots_some (suc (suc (suc (suc (suc (suc (suc (suc c)))))))) l = absurd (omega arith)

-- a page that was given a class has a slot
pub some_given : {A : Type 0} (p c : ℕ) (o n : Paged) → c < 8 → GivesClass p c o n → NothingMine (page_at n p) → A
some_given p c o n l g none = absurd (false≢true (sym (none 0) ∙
    (ap (λ (z : SeenPage). z.mine 0) g.here ∙ slots_some c l)))

-- a page of the class with nothing left does not have all its slots with its owner
pub not_whole : (c p : ℕ) (n : Paged) → c < 8 → NothingMine (page_at n p) → (page_at n p).class ≡ Some (c + 1)
    → ¬ WhollyMine (page_at n p)
not_whole c p n class none is w =
    let e : Some (suc w.class) ≡ Some (c + 1) = sym w.classed ∙ is in
    let f : suc w.class ≡ c + 1 = cc in
    let g : c ≡ w.class = omega arith in
    let some : nat_lt 0 (slots w.class) ≡ true = subst (λ z. nat_lt 0 (slots z) ≡ true) g (slots_some c class) in
    false≢true (sym (none 0) ∙ w.mine 0 (grind (arith, Rattle.std.proofs.lemmas.Bool.Decides.nat_tests)))
