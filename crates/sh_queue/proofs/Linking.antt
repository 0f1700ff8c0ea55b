-- What the four writes that put a number into a chain leave in it.
use Rattle.std.proofs.Common.{◌≡◌, ◌≢◌, ℕ, ◌+◌, ◌<◌, ◌≤◌, ⊎_elim, true, false, List, [], ◌∷◌, length, get_or, set, sym}
use Rattle.std.proofs.Common.{ap, ◌∙◌, subst, arith}
use Rattle.std.proofs.lemmas.List.{get_or-set_same, get_or-set_other, length-set}
use Rattle.std.proofs.lemmas.Bool.{cases_eq, false≢true}
use Rattle.sh_lists.specs.Numbers.{Misses, Distinct, AllBelow}
use Rattle.sh_lists.specs.Lists.{walk, LastFrom}
use Rattle.sh_lists.proofs.Distincts.{length-le_from_Distinct}
use Rattle.sh_lists.proofs.Walks.{length-walk}
use Rattle.sh_queue.specs.Numbers.{has_number, put_after}
use Rattle.sh_queue.specs.Chain.{ChainNumbers, ChainLinked, Links}
use Rattle.sh_queue.proofs.Numbers.{has_number-rest, differs, Misses-from_has, below_from_has}
use Rattle.sh_queue.proofs.PutAfter.{put_behind, put_behind-same, put_behind-else, AllBelow-put_behind}
use Rattle.sh_queue.proofs.PutAfter.{Misses-put_behind, Distinct-put_behind, LastFrom-put_behind, length-put_behind}
use Rattle.sh_queue.proofs.LinksBeside.{Linked-set_next, Linked-set_prev, next_is}
use Rattle.sh_queue.proofs.ChainHolds.{chained, Holds, holds}

in_here
    : (next prev : List ℕ) (x behind a e : ℕ) (xs : List ℕ)
    → get_or next a 0 ≡ behind → a < length next → behind < length prev → x < length next → x < length prev
    → ChainLinked next prev a xs → Distinct (a ∷ xs) → Misses x (a ∷ xs) → LastFrom a xs e → a ≢ e
    → ChainLinked (set (set next a x) x behind) (set (set prev behind x) x a) a (put_behind a x a xs)
in_here next prev x behind a e [] next_a in_next in_prev x_next x_prev linked distinct misses last inner = absurd
    (inner last)
in_here next prev x behind a e (b ∷ rest) next_a in_next in_prev x_next x_prev linked distinct misses last inner =
    let is : b ≡ behind = sym linked.0 ∙ next_a in
    let P : ℕ → Type 0 = λ z. z < length prev → ChainLinked (set (set next a x) x z) (set (set prev z x) x a) a
    (x ∷ b ∷ rest) in
    let at : P b = λ in_prev. (
      get_or-set_other (set next a x) x a b 0 (λ same. misses.0 (sym same)) ∙ get_or-set_same next a x 0 in_next,
      get_or-set_same (set prev b x) x a 0 (subst (λ k. x < k) (sym (length-set prev b x)) x_prev),
      (
        get_or-set_same (set next a x) x b 0 (subst (λ k. x < k) (sym (length-set next a x)) x_next),
        get_or-set_other (set prev b x) x b a 0 (λ same. misses.1.0 (sym same)) ∙ get_or-set_same prev b x 0 in_prev,
        Linked-set_prev (set (set next a x) x b) (set prev b x) x a b rest misses.1.1 (
            Linked-set_prev (set (set next a x) x b) prev b x b rest distinct.1.0 (
            Linked-set_next (set next a x) prev x b b rest misses.1
            (Linked-set_next next prev a x b rest distinct.0 linked.2))),
      ),
    ) in
    subst (ChainLinked (set (set next a x) x behind) (set (set prev behind x) x a) a)
    (sym (put_behind-same a x (b ∷ rest))) (subst P is at in_prev)

Linked-put_behind
    : (next prev : List ℕ) (s x behind a e : ℕ) (xs : List ℕ)
    → get_or next s 0 ≡ behind → s < length next → behind < length prev → x < length next → x < length prev
    → ChainLinked next prev a xs → Distinct (a ∷ xs) → Misses x (a ∷ xs) → LastFrom a xs e → has_number s (a ∷ xs)
    ≡ true → s ≢ e
    → ChainLinked (set (set next s x) x behind) (set (set prev behind x) x s) a (put_behind s x a xs)
Linked-put_behind next prev s x behind a e [] next_s in_next in_prev x_next x_prev linked distinct misses last here
    inner = ⊎_elim
    (λ (is : s ≡ a). absurd (inner (is ∙ last)))
    (λ (other : s ≢ a). absurd (false≢true (has_number-rest s a [] (λ same. other (sym same)) here)))
    (cases_eq s a)
Linked-put_behind next prev s x behind a e (y ∷ ys) next_s in_next in_prev x_next x_prev linked distinct misses last
    here inner = ⊎_elim
    (λ (is : s ≡ a).
    let P : ℕ → Type 0 = λ z. ChainLinked (set (set next z x) x behind) (set (set prev behind x) x z) a
    (put_behind z x a (y ∷ ys)) in
    subst P (sym is) (in_here next prev x behind a e (y ∷ ys) (ap (λ z. get_or next z 0) (sym is) ∙ next_s)
    (subst (λ z. z < length next) is in_next) in_prev x_next x_prev linked distinct misses last
    (λ same. inner (is ∙ same))))
    (λ (other : s ≢ a).
    let there : has_number s (y ∷ ys) ≡ true = has_number-rest s a (y ∷ ys) (λ same. other (sym same)) here in
    let after : has_number behind ys ≡ true = subst (λ k. has_number k ys ≡ true) next_s
    (next_is next prev s y e ys linked.2 there last inner).1 in
    subst (ChainLinked (set (set next s x) x behind) (set (set prev behind x) x s) a)
    (sym (put_behind-else s x a (y ∷ ys) (λ same. other (sym same)))) (
      get_or-set_other (set next s x) x a behind 0 (λ same. misses.0 (sym same))
          ∙ get_or-set_other next s a x 0 (λ same. other (sym same)) ∙ linked.0,
      get_or-set_other (set prev behind x) x y s 0 (λ same. misses.1.0 (sym same))
          ∙ get_or-set_other prev behind y x 0 (differs y behind ys distinct.1.0 after) ∙ linked.1,
      Linked-put_behind next prev s x behind y e ys next_s in_next in_prev x_next x_prev linked.2 distinct.1 misses.1
          last there inner,
    ))
    (cases_eq s a)

pub record Puts (next prev : List ℕ) (count s x behind : ℕ) (v : ChainNumbers) : Type 0 where
  pub room : count + 1 < length next
  pub behind_in : behind < length prev
  pub x_next : x < length next
  pub x_prev : x < length prev
  pub holds : Holds (set (set next s x) x behind) (set (set prev behind x) x s) (count + 1)
      (record v { numbers = put_after s x v.numbers })

pub puts
    : (next prev : List ℕ) (count s x behind : ℕ) (v : ChainNumbers)
    → chained next count ≡ v → Links next prev (walk next (get_or next 0 0) count) → has_number s v.numbers ≡ true
    → s ≢ 10
    → has_number x v.numbers ≡ false → x < v.size → behind ≡ get_or next s 0
    → Puts next prev count s x behind v
puts next prev count s x behind v is h here inner none small behind_is =
    let rest = walk next (get_or next 0 0) count in
    let P : ChainNumbers → Type 0 = λ v. has_number s v.numbers ≡ true → has_number x v.numbers ≡ false → x < v.size
    → Puts next prev count s x behind v in
    let at : P (chained next count) = λ here none small.
    let misses : Misses x (0 ∷ rest) = Misses-from_has x (0 ∷ rest) none in
    let in_next : s < length next = below_from_has (length next) s (0 ∷ rest) h.small here in
    let behind_small : behind < length next =
    below_from_has (length next) behind rest h.small.1
    (subst (λ k. has_number k rest ≡ true) (sym behind_is) (next_is next prev s 0 10 rest h.linked here h.last inner).1)
    in
    let in_prev : behind < length prev = omega (arith, h.size) in
    let x_prev : x < length prev = omega (arith, h.size) in
    let counted : length rest ≡ count = length-walk next (get_or next 0 0) count in
    let more : length (put_behind s x 0 rest) ≡ length rest + 1 = length-put_behind s x 0 rest here in
    let sized : length (set (set next s x) x behind) ≡ length next = length-set (set next s x) x behind
    ∙ length-set next s x in
    let sized' : length (set (set prev behind x) x s) ≡ length prev = length-set (set prev behind x) x s
    ∙ length-set prev behind x in
    let all : length (x ∷ 0 ∷ rest) ≤ length next = length-le_from_Distinct (length next) (x ∷ 0 ∷ rest)
    (misses, h.distinct) (small, h.small) in
    let links : Links (set (set next s x) x behind) (set (set prev behind x) x s) (put_behind s x 0 rest) = record {
      size = omega (arith, h.size);
      small = subst (λ k. AllBelow k (0 ∷ put_behind s x 0 rest)) (sym sized)
          (h.small.0, AllBelow-put_behind (length next) s x 0 rest h.small.1 small);
      distinct = (
        Misses-put_behind 0 s x 0 rest h.distinct.0 (λ same. misses.0 (sym same)),
        Distinct-put_behind s x 0
            rest h.distinct.1 misses.1,
      );
      linked = Linked-put_behind next prev s x behind 0 10 rest (sym behind_is) in_next in_prev small x_prev h.linked
          h.distinct misses h.last here inner;
      last = LastFrom-put_behind s x 0 10 rest h.last inner;
    } in
    record {
      room = omega arith;
      behind_in = in_prev;
      x_next = small;
      x_prev = x_prev;
      holds = holds (set (set next s x) x behind) (set (set prev behind x) x s) (count + 1) (length next)
          (put_behind s x 0 rest) (omega arith) sized links;
    } in
    subst P is at here none small
