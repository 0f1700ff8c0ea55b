-- What the links of a chain say of the numbers beside a number, and that a write of another link leaves them linked.
use Rattle.std.proofs.Common.{◌≡◌, ◌≢◌, ℕ, ⊎_elim, true, List, [], ◌∷◌, get_or, set, sym, ap, ◌∙◌, subst, cond, eq-eqb}
use Rattle.std.proofs.Common.{ne_eqb}
use Rattle.std.proofs.lemmas.List.{get_or-set_other}
use Rattle.std.proofs.lemmas.Bool.{cases_eq, false≢true}
use Rattle.sh_lists.specs.Numbers.{Misses}
use Rattle.sh_lists.specs.Lists.{LastFrom}
use Rattle.sh_queue.specs.Numbers.{has_number, preceding_from, following}
use Rattle.sh_queue.specs.Chain.{ChainLinked}
use Rattle.sh_queue.proofs.Numbers.{has_number-here, has_number-there, has_number-rest}

-- ---- a link that is written elsewhere

pub Linked-set_next : (next prev : List ℕ) (k v a : ℕ) (xs : List ℕ) → Misses k (a ∷ xs) → ChainLinked next prev a xs
    → ChainLinked (set next k v) prev a xs
Linked-set_next next prev k v a [] misses linked = tt
Linked-set_next next prev k v a (b ∷ rest) misses linked = (
  get_or-set_other next k a v 0 (λ same. misses.0 (sym same)) ∙ linked.0,
  linked.1,
  Linked-set_next next prev k v b rest misses.1 linked.2,
)

pub Linked-set_prev : (next prev : List ℕ) (k v a : ℕ) (xs : List ℕ) → Misses k xs → ChainLinked next prev a xs
    → ChainLinked next (set prev k v) a xs
Linked-set_prev next prev k v a [] misses linked = tt
Linked-set_prev next prev k v a (b ∷ rest) misses linked = (
  linked.0,
  get_or-set_other prev k b v 0 (λ same. misses.0 (sym same)) ∙ linked.1,
  Linked-set_prev next prev k v b rest misses.1 linked.2,
)

-- ---- the numbers beside a number

-- the link of s names the number behind it
pub next_is
    : (next prev : List ℕ) (s a e : ℕ) (xs : List ℕ)
    → ChainLinked next prev a xs → has_number s (a ∷ xs) ≡ true → LastFrom a xs e → s ≢ e
    → (get_or next s 0 ≡ following s (a ∷ xs)) × (has_number (get_or next s 0) xs ≡ true)
next_is next prev s a e [] linked here last inner = ⊎_elim
    (λ (is : a ≡ s). absurd (inner (sym is ∙ last)))
    (λ (other : a ≢ s). absurd (false≢true (has_number-rest s a [] other here)))
    (cases_eq a s)
next_is next prev s a e (y ∷ ys) linked here last inner = ⊎_elim
    (λ (is : a ≡ s).
    let leads : get_or next s 0 ≡ y = ap (λ k. get_or next k 0) (sym is) ∙ linked.0 in (
      leads ∙ sym (ap (λ b. cond b y (following s (y ∷ ys))) (eq-eqb a s is)),
      subst (λ k. has_number k (y ∷ ys) ≡ true) (sym leads) (has_number-here y ys),
    ))
    (λ (other : a ≢ s).
    let rest = next_is next prev s y e ys linked.2 (has_number-rest s a (y ∷ ys) other here) last inner in (
      rest.0 ∙ sym (ap (λ b. cond b y (following s (y ∷ ys))) (ne_eqb a s other)),
      has_number-there (get_or next s 0) y ys rest.1,
    ))
    (cases_eq a s)

-- the link of m names the number ahead of it
pub prev_is
    : (next prev : List ℕ) (m a : ℕ) (xs : List ℕ)
    → ChainLinked next prev a xs → has_number m xs ≡ true
    → (get_or prev m 0 ≡ preceding_from a m xs) × (has_number (get_or prev m 0) (a ∷ xs) ≡ true)
prev_is next prev m a [] linked here = absurd (false≢true here)
prev_is next prev m a (y ∷ ys) linked here = ⊎_elim
    (λ (is : y ≡ m).
    let leads : get_or prev m 0 ≡ a = ap (λ k. get_or prev k 0) (sym is) ∙ linked.1 in (
      leads ∙ sym (ap (λ b. cond b a (preceding_from y m ys)) (eq-eqb y m is)),
      subst (λ k. has_number k (a ∷ y ∷ ys) ≡ true) (sym leads) (has_number-here a (y ∷ ys)),
    ))
    (λ (other : y ≢ m).
    let rest = prev_is next prev m y ys linked.2 (has_number-rest m y ys other here) in (
      rest.0 ∙ sym (ap (λ b. cond b a (preceding_from y m ys)) (ne_eqb y m other)),
      has_number-there (get_or prev m 0) a (y ∷ ys) rest.1,
    ))
    (cases_eq y m)

-- from m to the number ahead of it, and back
pub next_of_prev
    : (next prev : List ℕ) (m a : ℕ) (xs : List ℕ)
    → ChainLinked next prev a xs → has_number m xs ≡ true → get_or next (get_or prev m 0) 0 ≡ m
next_of_prev next prev m a [] linked here = absurd (false≢true here)
next_of_prev next prev m a (y ∷ ys) linked here = ⊎_elim
    (λ (is : y ≡ m). ap (λ k. get_or next k 0) (ap (λ k. get_or prev k 0) (sym is) ∙ linked.1) ∙ linked.0 ∙ is)
    (λ (other : y ≢ m). next_of_prev next prev m y ys linked.2 (has_number-rest m y ys other here))
    (cases_eq y m)
