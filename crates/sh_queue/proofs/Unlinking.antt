-- What the two writes that take a number out of a chain leave in it.
use Rattle.std.proofs.Common.{◌≡◌, ◌≢◌, ℕ, ◌+◌, ◌-◌, ◌<◌, ⊎_elim, true, false, List, [], ◌∷◌, length, get_or, set, sym}
use Rattle.std.proofs.Common.{◌∙◌, subst, arith}
use Rattle.std.proofs.lemmas.List.{get_or-set_same, get_or-set_other, length-set}
use Rattle.std.proofs.lemmas.Bool.{cases_eq, false≢true}
use Rattle.sh_lists.specs.Numbers.{Distinct, AllBelow}
use Rattle.sh_lists.specs.Lists.{walk, LastFrom}
use Rattle.sh_lists.proofs.Walks.{length-walk}
use Rattle.sh_queue.specs.Numbers.{has_number, without_number}
use Rattle.sh_queue.specs.Chain.{ChainNumbers, ChainLinked, Links}
use Rattle.sh_queue.proofs.Numbers.{has_number-there, has_number-rest, differs, below_from_has}
use Rattle.sh_queue.proofs.Without.{without_number-same, without_number-else, AllBelow-without, Misses-without}
use Rattle.sh_queue.proofs.Without.{Distinct-without, has_number-without_same, LastFrom-without, length-without}
use Rattle.sh_queue.proofs.LinksBeside.{Linked-set_next, Linked-set_prev, next_is, prev_is}
use Rattle.sh_queue.proofs.ChainHolds.{chained, Holds, holds}

out_here
    : (next prev : List ℕ) (x before behind a e : ℕ) (ys : List ℕ)
    → get_or next x 0 ≡ behind → get_or prev x 0 ≡ before → before < length next → behind < length prev
    → ChainLinked next prev a (x ∷ ys) → Distinct (a ∷ x ∷ ys) → LastFrom x ys e → x ≢ e
    → ChainLinked (set next before behind) (set prev behind before) a (without_number x (x ∷ ys))
out_here next prev x before behind a e [] next_x prev_x in_next in_prev linked distinct last inner = absurd (inner last)
out_here next prev x before behind a e (b ∷ rest) next_x prev_x in_next in_prev linked distinct last inner =
    let is_b : b ≡ behind = sym linked.2.0 ∙ next_x in
    let is_a : a ≡ before = sym linked.1 ∙ prev_x in
    let P : ℕ × ℕ → Type 0 = λ z. z.0 < length next → z.1 < length prev
    → ChainLinked (set next z.0 z.1) (set prev z.1 z.0) a (b ∷ rest) in
    let at : P (a, b) = λ in_next in_prev. (
      get_or-set_same next a b 0 in_next,
      get_or-set_same prev b a 0 in_prev,
      Linked-set_prev (set next a b) prev b a b rest distinct.1.1.0
          (Linked-set_next next prev a b b rest distinct.0.1 linked.2.2),
    ) in
    let now : P (before, behind) = subst P (λ i. (is_a i, is_b i)) at in
    subst (ChainLinked (set next before behind) (set prev behind before) a) (sym (without_number-same x (b ∷ rest)))
    (now in_next in_prev)

Linked-without
    : (next prev : List ℕ) (x before behind a e : ℕ) (xs : List ℕ)
    → get_or next x 0 ≡ behind → get_or prev x 0 ≡ before → before < length next → behind < length prev
    → ChainLinked next prev a xs → Distinct (a ∷ xs) → has_number x xs ≡ true → LastFrom a xs e → x ≢ e
    → ChainLinked (set next before behind) (set prev behind before) a (without_number x xs)
Linked-without next prev x before behind a e [] next_x prev_x in_next in_prev linked distinct here last inner =
    absurd (false≢true here)
Linked-without next prev x before behind a e (y ∷ ys) next_x prev_x in_next in_prev linked distinct here last inner =
    ⊎_elim
    (λ (is : x ≡ y).
    let P : ℕ → Type 0 = λ z. ChainLinked next prev a (z ∷ ys) → Distinct (a ∷ z ∷ ys) → LastFrom z ys e
    → ChainLinked (set next before behind) (set prev behind before) a (without_number x (z ∷ ys)) in
    let at : P x = λ linked distinct last.
    out_here next prev x before behind a e ys next_x prev_x in_next in_prev linked distinct last inner in
    subst P is at linked distinct last)
    (λ (other : x ≢ y).
    let there : has_number x ys ≡ true = has_number-rest x y ys (λ same. other (sym same)) here in
    let ahead : has_number before (y ∷ ys) ≡ true = subst (λ k. has_number k (y ∷ ys) ≡ true) prev_x
    (prev_is next prev x y ys linked.2 there).1 in
    let after : has_number behind ys ≡ true = subst (λ k. has_number k ys ≡ true) next_x
    (next_is next prev x y e ys linked.2 (has_number-there x y ys there) last inner).1 in
    subst (ChainLinked (set next before behind) (set prev behind before) a)
    (sym (without_number-else x y ys (λ same. other (sym same)))) (
      get_or-set_other next before a behind 0 (differs a before (y ∷ ys) distinct.0 ahead) ∙ linked.0,
      get_or-set_other prev behind y before 0 (differs y behind ys distinct.1.0 after) ∙ linked.1,
      Linked-without next prev x before behind y e ys next_x prev_x in_next in_prev linked.2 distinct.1 there last
          inner,
    ))
    (cases_eq x y)

pub record Unlinks (next prev : List ℕ) (count x before behind : ℕ) (v : ChainNumbers) : Type 0 where
  pub before_in : before < length next
  pub behind_in : behind < length prev
  pub holds : Holds (set next before behind) (set prev behind before) (count - 1)
      (record v { numbers = without_number x v.numbers })
  pub gone : has_number x (without_number x v.numbers) ≡ false

pub unlinks
    : (next prev : List ℕ) (count x before behind : ℕ) (v : ChainNumbers)
    → chained next count ≡ v → Links next prev (walk next (get_or next 0 0) count) → has_number x v.numbers ≡ true
    → (x ≢ 0) × (x ≢ 10) → before ≡ get_or prev x 0 → behind ≡ get_or next x 0
    → Unlinks next prev count x before behind v
unlinks next prev count x before behind v is h here inner before_is behind_is =
    let rest = walk next (get_or next 0 0) count in
    let P : ChainNumbers → Type 0 = λ v. has_number x v.numbers ≡ true → Unlinks next prev count x before behind v in
    let at : P (chained next count) = λ here.
    let first : without_number x (0 ∷ rest) ≡ 0 ∷ without_number x rest = without_number-else x 0 rest
    (λ same. inner.0 (sym same)) in
    let there : has_number x rest ≡ true = has_number-rest x 0 rest (λ same. inner.0 (sym same)) here in
    let in_next : before < length next =
    below_from_has (length next) before (0 ∷ rest) h.small
    (subst (λ k. has_number k (0 ∷ rest) ≡ true) (sym before_is) (prev_is next prev x 0 rest h.linked there).1) in
    let behind_small : behind < length next =
    below_from_has (length next) behind rest h.small.1
    (subst (λ k. has_number k rest ≡ true) (sym behind_is) (next_is next prev x 0 10 rest h.linked here h.last
    inner.1).1) in
    let in_prev : behind < length prev = omega (arith, h.size) in
    let sized : length (set next before behind) ≡ length next = length-set next before behind in
    let sized' : length (set prev behind before) ≡ length prev = length-set prev behind before in
    let fewer : length (without_number x rest) + 1 ≡ length rest = length-without x rest there in
    let counted : length rest ≡ count = length-walk next (get_or next 0 0) count in
    let links : Links (set next before behind) (set prev behind before) (without_number x rest) = record {
      size = omega (arith, h.size);
      small = subst (λ k. AllBelow k (0 ∷ without_number x rest)) (sym sized)
          (h.small.0, AllBelow-without (length next) x rest h.small.1);
      distinct = (Misses-without 0 x rest h.distinct.0, Distinct-without x rest h.distinct.1);
      linked = Linked-without next prev x before behind 0 10 rest (sym behind_is) (sym before_is) in_next in_prev
          h.linked h.distinct there h.last inner.1;
      last = LastFrom-without x 0 10 rest h.last inner.1;
    } in
    record {
      before_in = in_next;
      behind_in = in_prev;
      holds = subst (λ (zs : List ℕ). Holds (set next before behind) (set prev behind before) (count - 1)
          (record { numbers = zs; size = length next }))
          (sym first)
          (holds (set next before behind) (set prev behind before) (count - 1) (length next) (without_number x rest)
          (omega arith) sized links);
      gone = has_number-without_same x (0 ∷ rest) h.distinct;
    } in
    subst P is at here
