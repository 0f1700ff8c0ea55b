-- Links that are added behind leave the numbers of a chain as they were, whether or not there was memory.
use Rattle.std.proofs.Common.{◌≡◌, ℕ, ◌+◌, ◌-◌, ◌<◌, ◌≤◌, List, [], ◌∷◌, ◌++◌, length, get_or, sym, refl, ap}
use Rattle.std.proofs.Common.{◌∙◌, subst, arith, max, length-append, replicate, Result, Ok, Err, OnOk, OnErr}
use Rattle.std.proofs.lemmas.List.{get_or_append_left, length-replicate, length-map, map-append}
use Rattle.sh_lists.specs.Numbers.{AllBelow}
use Rattle.sh_lists.specs.Lists.{walk}
use Rattle.sh_lists.proofs.Walks.{length-walk}
use Rattle.sh_queue.specs.Chain.{ChainLinked, Links, nexts, prevs, ends}
use Rattle.sh_queue.specs.declared.chain.Link.{Link}
use Rattle.sh_queue.proofs.ChainHolds.{chained, Holds, holds}
use Rattle.sh_queue.proofs.Pairs.{holds_paired}

Linked-append
    : (next prev more more' : List ℕ) (a : ℕ) (xs : List ℕ)
    → AllBelow (length next) (a ∷ xs) → length next ≤ length prev → ChainLinked next prev a xs
    → ChainLinked (next ++ more) (prev ++ more') a xs
Linked-append next prev more more' a [] small size linked = tt
Linked-append next prev more more' a (b ∷ rest) small size linked =
    let here : b < length prev = omega (arith, small.1.0) in (
      get_or_append_left next more 0 a small.0 ∙ linked.0,
      get_or_append_left prev more' 0 b here ∙ linked.1,
      Linked-append next prev more more' b rest small.1 size linked.2,
    )

AllBelow-more : (m n : ℕ) (xs : List ℕ) → m ≤ n → AllBelow m xs → AllBelow n xs
AllBelow-more m n [] more small = tt
AllBelow-more m n (x ∷ xs) more small = (omega (arith, small.0), AllBelow-more m n xs more small.1)

-- the links are these, or more
pub record Grows {A E : Type 0} (r : Result A E) (old new : List Link) (count size : ℕ) : Type 0 where
  pub holds : Holds (nexts new) (prevs new) count
      (record (chained (nexts old) count) { size = length (nexts new) })
  pub kept : length (nexts old) ≤ length (nexts new)
  pub room : OnOk r (size ≤ length (nexts new))
  pub lean : length (nexts new) ≤ max (length (nexts old)) size

-- more links are added behind
added
    : (old more : List Link) (count : ℕ)
    → Links (nexts old) (prevs old) (walk (nexts old) (get_or (nexts old) 0 0) count)
    → Holds (nexts (old ++ more)) (prevs (old ++ more)) count
    (record (chained (nexts old) count) { size = length (nexts (old ++ more)) })
added old more count h =
    let next = nexts old in
    let rest = walk next (get_or next 0 0) count in
    let is_next = map-append (λ (l : Link). l.next) old more in
    let is_prev = map-append (λ (l : Link). l.prev) old more in
    let n : length (next ++ nexts more) ≡ length next + length (nexts more) = length-append next (nexts more) in
    let p : length (prevs old ++ prevs more) ≡ length (prevs old) + length (prevs more) =
    length-append (prevs old) (prevs more) in
    let longer : length next ≤ length (next ++ nexts more) = omega arith in
    let sized : length (next ++ nexts more) ≤ length (prevs old ++ prevs more) = omega (
      arith,
      h.size,
      length-map more (λ (l : Link). l.next),
      length-map more (λ (l : Link). l.prev),
    ) in
    holds_paired (record { is_next = is_next; is_prev = is_prev })
    (holds (next ++ nexts more) (prevs old ++ prevs more) count (length (nexts (old ++ more))) rest
    (length-walk next (get_or next 0 0) count) (ap length (sym is_next)) (record {
      size = sized;
      small = AllBelow-more (length next) (length (next ++ nexts more)) (0 ∷ rest) longer h.small;
      distinct = h.distinct;
      linked = Linked-append next (prevs old) (nexts more) (prevs more) 0 rest h.small h.size h.linked;
      last = h.last;
    }))

pub grows
    : {A E : Type 0} (r : Result A E) (old new : List Link) (count size : ℕ)
    → Links (nexts old) (prevs old) (walk (nexts old) (get_or (nexts old) 0 0) count)
    → OnOk r (new ≡ old ++ replicate (size - length old) ends) → OnErr r (new ≡ old) → Grows r old new count size
grows {E = E} (Ok a) old new count size h longer same =
    let more : List Link = replicate (size - length old) ends in
    let n : length (nexts (old ++ more)) ≡ length (old ++ more) = length-map (old ++ more) (λ (l : Link). l.next) in
    let o : length (nexts old) ≡ length old = length-map old (λ (l : Link). l.next) in
    let sized : length (old ++ more) ≡ length old + length more = length-append old more in
    let m : length more ≡ size - length old = length-replicate (size - length old) ends in
    subst (λ (new : List Link). Grows {E = E} (Ok a) old new count size) (sym longer) (record {
      holds = added old more count h;
      kept = omega arith;
      room = omega arith;
      lean = omega arith;
    })
grows {A = A} (Err e) old new count size h longer same =
    subst (λ (new : List Link). Grows {A = A} (Err e) old new count size) (sym same) (record {
      holds = record { links = h; shows = refl };
      kept = omega arith;
      room = tt;
      lean = omega arith;
    })
