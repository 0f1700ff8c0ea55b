-- How many numbers below a bound pass a test, and so how many slots of a page are its owner's and how many pages
-- are armed.
use Rattle.std.proofs.Common.{◌≡◌, ◌≢◌, ℕ, zero, suc, ◌+◌, ◌<◌, ◌≤◌, ◌==◌, ◌||◌, ◌⊎◌, inl, inr, Bool, true, false, refl}
use Rattle.std.proofs.Common.{ap, ◌∙◌, sym, arith, eq-eqb, ne_eqb}
use Rattle.std.proofs.Math.Numerals.{lt_of_le_of_ne}
use Rattle.std.proofs.lemmas.Bool.{cases_eq}
use Rattle.sh_step.specs.Collections.{if1}
use Rattle.sh_pass.specs.Owners.{SeenPage}
use Rattle.sh_shard.specs.Pages.{Paged, page_at, count_below, own_slots, armed_pages, NothingMine, BellReads}

pub count_few : (f : ℕ → Bool) (n : ℕ) → count_below f n ≤ n
count_few f zero = omega arith
count_few f (suc n) = go (f n) (count_few f n) where
  go : (b : Bool) → count_below f n ≤ n → if1 b + count_below f n ≤ suc n
  go true l = omega arith
  go false l = omega arith

pub count_alike : (f g : ℕ → Bool) (n : ℕ) → ((q : ℕ) → g q ≡ f q) → count_below g n ≡ count_below f n
count_alike f g zero same = refl
count_alike f g (suc n) same =
    let a : if1 (g n) ≡ if1 (f n) = ap if1 (same n) in
    let b = count_alike f g n same in omega arith

pub count_none : (f : ℕ → Bool) (n : ℕ) → ((q : ℕ) → f q ≡ false) → count_below f n ≡ 0
count_none f zero none = refl
count_none f (suc n) none =
    let a : if1 (f n) ≡ 0 = ap if1 (none n) in
    let b = count_none f n none in omega arith

pub count_all : (f : ℕ → Bool) (n : ℕ) → ((s : ℕ) → s < n → f s ≡ true) → count_below f n ≡ n
count_all f zero h = refl
count_all f (suc n) h =
    let r = count_all f n (λ s l. h s (omega arith)) in
    let e : if1 (f n) ≡ 1 = ap if1 (h n (omega arith)) in omega arith

-- ---- two tests that differ at p only

-- p is not below the bound
count_apart : (f g : ℕ → Bool) (p n : ℕ) → n ≤ p → ((q : ℕ) → q ≢ p → g q ≡ f q) → count_below g n ≡ count_below f n
count_apart f g p zero l same = refl
count_apart f g p (suc n) l same =
    let x : if1 (g n) ≡ if1 (f n) = ap if1 (same n (λ e. absurd (omega arith))) in
    let z = count_apart f g p n (omega arith) same in omega arith

-- p is below the bound, and passes the first test only
pub count_less : (f g : ℕ → Bool) (p n : ℕ) → p < n → f p ≡ true → g p ≡ false → ((q : ℕ) → q ≢ p → g q ≡ f q)
    → count_below g n + 1 ≡ count_below f n
count_less f g p zero l a b same = absurd (omega arith)
count_less f g p (suc n) l a b same = go (λ k. count_less f g p n k a b same) (cases_eq n p) where
  go : (p < n → count_below g n + 1 ≡ count_below f n) → (n ≡ p) ⊎ (n ≢ p) → (if1 (g n) + count_below g n) + 1
      ≡ if1 (f n) + count_below f n
  go rest (inl is) =
      let x : if1 (f n) ≡ 1 = ap if1 (ap f is ∙ a) in
      let y : if1 (g n) ≡ 0 = ap if1 (ap g is ∙ b) in
      let z = count_apart f g p n (omega arith) same in omega arith
  go rest (inr ne) =
      let x : if1 (g n) ≡ if1 (f n) = ap if1 (same n ne) in
      let z = rest (lt_of_le_of_ne (omega arith) (λ e. ne (sym e))) in omega arith

-- p passes either test, both or none
pub count_one_more : (f g : ℕ → Bool) (p n : ℕ) → ((q : ℕ) → q ≢ p → g q ≡ f q) → count_below g n
    ≤ suc (count_below f n)
count_one_more f g p zero same = omega arith
count_one_more f g p (suc n) same = go (count_one_more f g p n same) (cases_eq n p) where
  few : (b : Bool) → if1 b ≤ 1
  few true = omega arith
  few false = omega arith

  go : count_below g n ≤ suc (count_below f n) → (n ≡ p) ⊎ (n ≢ p)
      → if1 (g n) + count_below g n ≤ suc (if1 (f n) + count_below f n)
  go rest (inl is) = let z = count_apart f g p n (omega arith) same in let l = few (g n) in omega arith
  go rest (inr ne) =
      let x : if1 (g n) ≡ if1 (f n) = ap if1 (same n ne) in omega arith

-- s also passes
pub count_more : (f : ℕ → Bool) (s n : ℕ) → s < n → f s ≡ false → count_below (λ t. (t == s) || f t) n
    ≡ count_below f n + 1
count_more f s n l none = sym (count_less (λ t. (t == s) || f t) f s n l
    (ap (λ b. b || f s) (eq-eqb s s refl)) none
    (λ q ne. sym (ap (λ b. b || f q) (ne_eqb q s ne))))

-- ---- the slots of a page that are its owner's

pub none_own : (g : SeenPage) → NothingMine g → own_slots g ≡ 0
none_own g none = count_none g.mine 48 none

pub own_few : (g : SeenPage) → own_slots g ≤ 48
own_few g = count_few g.mine 48

-- ---- the pages of a shard that are armed

pub armed_few : (v : Paged) → armed_pages v ≤ v.count
armed_few v = count_few (λ p. (page_at v p).armed) v.count

pub armed_alike : (o n : Paged) → n.count ≡ o.count → ((q : ℕ) → page_at n q ≡ page_at o q)
    → armed_pages n ≡ armed_pages o
armed_alike o n count pages = ap (λ k. count_below (λ p. (page_at n p).armed) k) count
    ∙ count_alike (λ p. (page_at o p).armed) (λ p. (page_at n p).armed) o.count
    (λ q. ap (λ (g : SeenPage). g.armed) (pages q))

-- a page that is read from the bell is no longer armed
pub armed_less : (p : ℕ) (n m : Paged) → BellReads p n m → armed_pages m + 1 ≡ armed_pages n
armed_less p n m b =
    let size : m.count ≡ n.count = b.count in
    ap (λ k. count_below (λ q. (page_at m q).armed) k + 1) size
    ∙ count_less (λ q. (page_at n q).armed) (λ q. (page_at m q).armed) p n.count (let i = b.inside in omega arith) b.was
    (ap (λ (g : SeenPage). g.armed) b.here) (λ q ne. ap (λ (g : SeenPage). g.armed) (b.others q ne))
