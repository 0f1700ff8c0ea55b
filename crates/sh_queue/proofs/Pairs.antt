-- What is written to the array of pairs, as two lists of links.
use Rattle.std.proofs.Common.{◌≡◌, ℕ, zero, suc, ◌<◌, List, [], ◌∷◌, length, get_or, map, set, sym, ap, ◌∙◌, subst}
use Rattle.std.proofs.Common.{arith}
use Rattle.std.proofs.Math.Seq.{map-set_same}
use Rattle.std.proofs.lemmas.List.{map-set}
use Rattle.sh_queue.specs.Chain.{ChainNumbers, nexts, prevs}
use Rattle.sh_queue.specs.declared.chain.Link.{Link}
use Rattle.sh_queue.proofs.ChainHolds.{Holds}

-- what is read of a pair
pub read
    : (f : Link → ℕ) (ls : List Link) (i : ℕ) (l : Link)
    → i < length (nexts ls) → l ≡ get_or ls i l → f l ≡ get_or (map f ls) i 0
read f [] i l small is = absurd (omega (arith, small))
read f (k ∷ ls) zero l small is = ap f is
read f (k ∷ ls) (suc i) l small is = read f ls i l (omega (arith, small)) is

-- the pairs are these two lists
pub record Paired (ls : List Link) (next prev : List ℕ) : Type 0 where
  pub is_next : nexts ls ≡ next
  pub is_prev : prevs ls ≡ prev

-- the number behind i becomes v, and the one ahead of j becomes w
abbrev pub two_written : List Link → (i v : ℕ) (l : Link) (j w : ℕ) (m : Link) → List Link
two_written ls i v l j w m = set (set ls i (record { next = v; prev = l.prev })) j (record { next = m.next; prev = w })

pub writes_two
    : (ls : List Link) (i v : ℕ) (l : Link) (j w : ℕ) (m : Link)
    → l ≡ get_or ls i l → m ≡ get_or (set ls i (record { next = v; prev = l.prev })) j m
    → Paired (two_written ls i v l j w m) (set (nexts ls) i v) (set (prevs ls) j w)
writes_two ls i v l j w m l_is m_is =
    let y : Link = record { next = v; prev = l.prev } in
    let z : Link = record { next = m.next; prev = w } in
    record {
      is_next = map-set_same (λ (k : Link). k.next) (set ls i y) j z m (ap (λ (k : Link). k.next) m_is)
          ∙ map-set (λ (k : Link). k.next) ls i y;
      is_prev = map-set (λ (k : Link). k.prev) (set ls i y) j z
          ∙ ap (λ (ps : List ℕ). set ps j w)
          (map-set_same (λ (k : Link). k.prev) ls i y l (ap (λ (k : Link). k.prev) l_is));
    }

-- then both of x are written
pub writes_both
    : (ls : List Link) (next prev : List ℕ) (x v w : ℕ)
    → Paired ls next prev → Paired (set ls x (record { next = v; prev = w })) (set next x v) (set prev x w)
writes_both ls next prev x v w h =
    let y : Link = record { next = v; prev = w } in
    record {
      is_next = map-set (λ (k : Link). k.next) ls x y ∙ ap (λ (ns : List ℕ). set ns x v) h.is_next;
      is_prev = map-set (λ (k : Link). k.prev) ls x y ∙ ap (λ (ps : List ℕ). set ps x w) h.is_prev;
    }

pub holds_paired : {ls : List Link} {next prev : List ℕ} {count : ℕ} {v : ChainNumbers} → Paired ls next prev
    → Holds next prev count v → Holds (nexts ls) (prevs ls) count v
holds_paired {count = count} {v = v} h held =
    subst (λ (z : List ℕ × List ℕ). Holds z.0 z.1 count v) (λ i. (sym h.is_next i, sym h.is_prev i)) held
