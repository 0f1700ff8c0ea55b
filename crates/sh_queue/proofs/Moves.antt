-- What the calls do to the queues.
use Rattle.std.proofs.Common.{◌≡◌, ◌≢◌, ℕ, zero, suc, ◌+◌, ◌<◌, ◌≤◌, ⊎_elim, Bool, true, false, ◌||◌, List, [], ◌∷◌}
use Rattle.std.proofs.Common.{◌++◌, map, length, get_or, set, sym, refl, ap, ◌∙◌, subst, arith, add-one}
use Rattle.std.specs.Prelude.{nat_lt}
use Rattle.std.proofs.Math.Bool.{or-true, or-false}
use Rattle.std.proofs.lemmas.Bool.{cases_eq, lt-ltb}
use Rattle.std.proofs.lemmas.List.{get_or-set_same, get_or-set_other, length-set}
use Rattle.sh_lists.specs.Numbers.{Misses, Distinct, upward}
use Rattle.sh_queue.specs.Numbers.{has_number, without_number, put_after, put_before, RisesFrom}
use Rattle.sh_queue.specs.Queues.{PageQueues, class_queue, at_front, at_back, among_full, pages_to_mark, pages_behind}
use Rattle.sh_queue.specs.Queues.{marks, queues_from, class_queues, queues_shown, KeepsQueues}
use Rattle.sh_queue.proofs.Numbers.{has_number-from_Misses, Misses-from_has, has_number-append, has_number-else}
use Rattle.sh_queue.proofs.Numbers.{has_number-here}
use Rattle.sh_queue.proofs.Without.{has_number-without_other, has_number-without_same}
use Rattle.sh_queue.proofs.PutAfter.{has_number-put_after_other, has_number-put_after_same}
use Rattle.sh_queue.proofs.PutBefore.{has_number-put_before_other, has_number-put_before_same}
use Rattle.sh_queue.proofs.Rising.{RisesFrom-without}
use Rattle.sh_queue.proofs.Marks.{has_number-mark}
use Rattle.sh_queue.proofs.PageTakenOut.{queue-without, Misses-queue, run-without, marks-without}
use Rattle.sh_queue.proofs.PagePutIn.{run-put_after, queue-put_after_same, queue-put_after_other, marks-put_after}
use Rattle.sh_queue.proofs.PagePutIn.{run-put_before_other, queue-put_before_same, queue-put_before_other}
use Rattle.sh_queue.proofs.PagePutIn.{marks-put_before}

-- ---- the queues of the classes

get_or-queues_from : (n k c : ℕ) (w : List ℕ) → c < n → get_or (queues_from n k w) c [] ≡ pages_behind (k + c) w
get_or-queues_from zero k c w inside = absurd (omega arith)
get_or-queues_from (suc n) k zero w inside = ap (λ m. pages_behind m w) (omega arith)
get_or-queues_from (suc n) k (suc c) w inside =
    let is : suc k + c ≡ k + suc c = omega arith in
    get_or-queues_from n (suc k) c w (omega arith) ∙ ap (λ m. pages_behind m w) is

pub length-queues_from : (n k : ℕ) (w : List ℕ) → length (queues_from n k w) ≡ n
length-queues_from zero k w = refl
length-queues_from (suc n) k w = ap suc (length-queues_from n (suc k) w)

-- a page is taken out of each queue
queues_from-without
    : (n k p : ℕ) (w w' : List ℕ)
    → ((i : ℕ) → k ≤ i → i < k + n → pages_behind i w' ≡ without_number p (pages_behind i w))
    → queues_from n k w' ≡ map (without_number p) (queues_from n k w)
queues_from-without zero k p w w' others = refl
queues_from-without (suc n) k p w w' others =
    ap (λ x. x ∷ queues_from n (suc k) w') (others k (omega arith) (omega arith))
    ∙ ap (λ xs. without_number p (pages_behind k w) ∷ xs) (queues_from-without n (suc k) p w w'
    (λ i from upto. others i (omega arith) (omega arith)))

-- the same page is taken out, and one queue becomes another
queues_from-set
    : (n k p c t : ℕ) (new w w' : List ℕ)
    → t ≡ k + c → c < n → pages_behind t w' ≡ new
    → ((i : ℕ) → i < k + n → i ≢ t → pages_behind i w' ≡ without_number p (pages_behind i w))
    → queues_from n k w' ≡ set (map (without_number p) (queues_from n k w)) c new
queues_from-set zero k p c t new w w' is inside target others = absurd (omega arith)
queues_from-set (suc n) k p zero t new w w' is inside target others =
    let here : k ≡ t = omega arith in
    ap (λ x. x ∷ queues_from n (suc k) w') (ap (λ m. pages_behind m w') here ∙ target)
    ∙ ap (λ xs. new ∷ xs) (queues_from-without n (suc k) p w w'
    (λ i from upto. others i (omega arith) (λ same. omega arith)))
queues_from-set (suc n) k p (suc c) t new w w' is inside target others =
    ap (λ x. x ∷ queues_from n (suc k) w') (others k (omega arith) (λ same. omega arith))
    ∙ ap (λ xs. without_number p (pages_behind k w) ∷ xs) (queues_from-set n (suc k) p c t new w w' (omega arith)
    (omega arith) target (λ i upto other. others i (omega arith) other))

pub class_is : (c : ℕ) (w : List ℕ) → c < 8 → get_or (class_queues w) c [] ≡ pages_behind c w
unfolding class_queues
class_is c w inside = get_or-queues_from 8 0 c w inside ∙ ap (λ m. pages_behind m w) (omega arith)

-- ---- a page is moved

-- page p is in queue t, which is now this list, and the other queues are as they were without it
pub record Moved (w w' : List ℕ) (t p : ℕ) (new : List ℕ) : Type 0 where
  pub target : pages_behind t w' ≡ new
  pub others : (k : ℕ) → k < 11 → k ≢ t → pages_behind k w' ≡ without_number p (pages_behind k w)
  pub marked : marks w' ≡ marks w
  pub none_ahead : pages_to_mark w' ≡ without_number p (pages_to_mark w)
  pub page : has_number (11 + p) w' ≡ true
  pub pages : (k : ℕ) → 11 + p ≢ k → has_number k w' ≡ has_number k w

pub moved_to_front
    : (w : List ℕ) (c p : ℕ)
    → c < 11 → Distinct w → marks w ≡ upward 0 11
    → Moved w (put_after c (11 + p) (without_number (11 + p) w)) c p (p ∷ without_number p (pages_behind c w))
moved_to_front w c p mark distinct marked =
    let v = without_number (11 + p) w in
    let here : has_number c v ≡ true = has_number-mark c v (marks-without p w ∙ marked) mark in
    record {
      target = queue-put_after_same c p v mark here ∙ ap (λ xs. p ∷ xs) (queue-without c p w mark distinct);
      others = λ k inner other. queue-put_after_other k c p v inner mark other ∙ queue-without k p w inner distinct;
      marked = marks-put_after c p v ∙ marks-without p w;
      none_ahead = run-put_after c p v mark ∙ run-without p w;
      page = has_number-put_after_same c (11 + p) v here;
      pages = λ k other. has_number-put_after_other k c (11 + p) v other ∙ has_number-without_other k (11 + p) w other;
    }

pub moved_to_back
    : (w : List ℕ) (c p : ℕ)
    → suc c < 11 → Distinct w → marks w ≡ upward 0 11
    → Moved w (put_before (suc c) ((11 + p) ∷ []) (without_number (11 + p) w)) c p
    (without_number p (pages_behind c w) ++ p ∷ [])
moved_to_back w c p mark distinct marked =
    let v = without_number (11 + p) w in
    let m : marks v ≡ upward 0 11 = marks-without p w ∙ marked in
    let here : has_number (suc c) v ≡ true = has_number-mark (suc c) v m mark in
    record {
      target = queue-put_before_same c p 0 11 v m (omega arith) (omega arith) mark
          ∙ ap (λ xs. xs ++ p ∷ []) (queue-without c p w (omega arith) distinct);
      others = λ k inner other. queue-put_before_other k (suc c) p 0 11 v m inner mark (λ same. other (omega arith))
          ∙ queue-without k p w inner distinct;
      marked = marks-put_before (suc c) p v ∙ marks-without p w;
      none_ahead = run-put_before_other (suc c) p 0 11 v m mark (λ same. omega arith) ∙ run-without p w;
      page = has_number-put_before_same (suc c) (11 + p) v here;
      pages = λ k other. has_number-put_before_other k (suc c) (11 + p) v other
          ∙ has_number-without_other k (11 + p) w other;
    }

-- the mark is there once the page is taken out
pub mark_stays
    : (w : List ℕ) (c p size opened unopened : ℕ) (notes : List Bool)
    → KeepsQueues w size opened unopened notes → c < 11 → has_number c (without_number (11 + p) w) ≡ true
mark_stays w c p size opened unopened notes h mark = has_number-mark c (without_number (11 + p) w)
    (marks-without p w ∙ h.marked) mark

-- the notes after a move
noted_elsewhere
    : (notes : List Bool) (p t : ℕ) (w w' new : List ℕ)
    → p < length notes → Distinct w → ((q : ℕ) → get_or notes q false ≡ has_number q (pages_behind 8 w))
    → Moved w w' t p new → t ≢ 8 → (q : ℕ) → get_or (set notes p false) q false ≡ has_number q (pages_behind 8 w')
noted_elsewhere notes p t w w' new inside distinct noted h elsewhere q =
    let full : pages_behind 8 w' ≡ without_number p (pages_behind 8 w) = h.others 8 (omega arith)
    (λ same. elsewhere (sym same)) in
    ⊎_elim
    (λ (is : p ≡ q).
    let none : Misses (11 + p) (without_number (11 + p) w) = Misses-from_has (11 + p) (without_number (11 + p) w)
    (has_number-without_same (11 + p) w distinct) in
    let gone : has_number p (without_number p (pages_behind 8 w)) ≡ false =
    ap (has_number p) (sym (queue-without 8 p w (omega arith) distinct))
    ∙ has_number-from_Misses p (pages_behind 8 (without_number (11 + p) w))
    (Misses-queue 8 p (without_number (11 + p) w) none) in
    let P : ℕ → Type 0 = λ q. get_or (set notes p false) q false ≡ has_number q (pages_behind 8 w') in
    let at : P p = get_or-set_same notes p false false inside ∙ sym (ap (has_number p) full ∙ gone) in
    subst P is at)
    (λ (other : p ≢ q).
    get_or-set_other notes p q false false (λ same. other (sym same))
    ∙ noted q
    ∙ sym (ap (has_number q) full ∙ has_number-without_other q p (pages_behind 8 w) other))
    (cases_eq p q)

noted_full
    : (notes : List Bool) (p : ℕ) (w w' : List ℕ)
    → p < length notes → ((q : ℕ) → get_or notes q false ≡ has_number q (pages_behind 8 w))
    → Moved w w' 8 p (without_number p (pages_behind 8 w) ++ p ∷ []) → (q : ℕ) → get_or (set notes p true) q false
    ≡ has_number q (pages_behind 8 w')
noted_full notes p w w' inside noted h q =
    let at_end : has_number q (pages_behind 8 w') ≡ has_number q (without_number p (pages_behind 8 w)) || has_number q
    (p ∷ []) =
    ap (has_number q) h.target ∙ has_number-append q (without_number p (pages_behind 8 w)) (p ∷ []) in
    ⊎_elim
    (λ (is : p ≡ q).
    let P : ℕ → Type 0 = λ k. get_or (set notes p true) k false ≡ has_number k (without_number p (pages_behind 8 w)) ||
    has_number k (p ∷ []) in
    let at : P p = get_or-set_same notes p true false inside
    ∙ sym (ap (λ b. has_number p (without_number p (pages_behind 8 w)) || b) (has_number-here p [])
    ∙ or-true (has_number p (without_number p (pages_behind 8 w)))) in
    subst P is at ∙ sym at_end)
    (λ (other : p ≢ q).
    get_or-set_other notes p q true false (λ same. other (sym same))
    ∙ noted q
    ∙ sym (at_end
    ∙ ap (λ b. has_number q (without_number p (pages_behind 8 w)) || b) (has_number-else q p [] other)
    ∙ or-false (has_number q (without_number p (pages_behind 8 w)))
    ∙ has_number-without_other q p (pages_behind 8 w) other))
    (cases_eq p q)

kept_moved
    : (w w' new : List ℕ) (t p size size' opened unopened : ℕ) (notes notes' : List Bool)
    → KeepsQueues w size opened unopened notes → Moved w w' t p new → Distinct w' → t < 9 → p < opened → size' ≡ size
    → length notes' ≡ length notes → ((q : ℕ) → get_or notes' q false ≡ has_number q (pages_behind 8 w'))
    → KeepsQueues w' size' opened unopened notes'
kept_moved w w' new t p size size' opened unopened notes notes' h m distinct inner old sized long noted = record {
  room = omega (arith, h.room);
  lean = omega (arith, h.lean);
  few = h.few;
  distinct = distinct;
  marked = m.marked ∙ h.marked;
  none_ahead = m.none_ahead ∙ ap (without_number p) h.none_ahead;
  none_behind = m.others 10 (omega arith) (λ same. omega arith) ∙ ap (without_number p) h.none_behind;
  pages = λ q. ⊎_elim
      (λ (is : p ≡ q).
      let P : ℕ → Type 0 = λ k. has_number (11 + k) w' ≡ nat_lt k opened in
      let at : P p = m.page ∙ sym (lt-ltb p opened old) in
      subst P is at)
      (λ (other : p ≢ q). m.pages (11 + q) (λ same. other (omega arith)) ∙ h.pages q)
      (cases_eq p q);
  rising = subst (RisesFrom 0) (sym (m.others 9 (omega arith) (λ same. omega arith)))
      (RisesFrom-without 0 p (pages_behind 9 w) h.rising);
  each_noted = long ∙ h.each_noted;
  noted = noted;
}

-- what a call leaves: this holds for the new chain, and the chain says this of the queues
pub record Leaves (w : List ℕ) (size opened unopened : ℕ) (notes : List Bool) (v : PageQueues) : Type 0 where
  pub kept : KeepsQueues w size opened unopened notes
  pub shows : queues_shown w opened unopened ≡ v

class_moved
    : (w w' new : List ℕ) (c p : ℕ)
    → Moved w w' c p new → c < 8 → class_queues w' ≡ set (map (without_number p) (class_queues w)) c new
unfolding class_queues
class_moved w w' new c p m inside =
    queues_from-set 8 0 p c c new w w' (omega arith) inside m.target (λ i upto other. m.others i (omega arith) other)

classes_without
    : (w w' new : List ℕ) (t p : ℕ)
    → Moved w w' t p new → 8 ≤ t → class_queues w' ≡ map (without_number p) (class_queues w)
unfolding class_queues
classes_without w w' new t p m beyond =
    queues_from-without 8 0 p w w' (λ i from upto. m.others i (omega arith) (λ same. omega arith))

pub leaves_front
    : (w w' : List ℕ) (c p size size' opened unopened : ℕ) (notes : List Bool) (v : PageQueues)
    → queues_shown w opened unopened ≡ v → KeepsQueues w size opened unopened notes → c < 8 → p < v.opened
    → w' ≡ put_after c (11 + p) (without_number (11 + p) w) → Distinct w' → size' ≡ size
    → Leaves w' size' opened unopened (set notes p false) (at_front c p v)
leaves_front w w' c p size size' opened unopened notes v is h class old new distinct sized =
    let P : PageQueues → Type 0 = λ v. p < v.opened → Leaves w' size' opened unopened (set notes p false)
    (at_front c p v) in
    let at : P (queues_shown w opened unopened) = λ old.
    let m : Moved w w' c p (p ∷ without_number p (pages_behind c w)) =
    subst (λ z. Moved w z c p (p ∷ without_number p (pages_behind c w))) (sym new)
    (moved_to_front w c p (omega arith) h.distinct h.marked) in
    let inside : p < length notes = subst (λ n. p < n) (sym h.each_noted) old in
    let classes : class_queues w' ≡ set (map (without_number p) (class_queues w)) c
    (p ∷ without_number p (class_queue (queues_shown w opened unopened) c)) =
    class_moved w w' (p ∷ without_number p (pages_behind c w)) c p m class
    ∙ ap (λ xs. set (map (without_number p) (class_queues w)) c (p ∷ without_number p xs)) (sym (class_is c w class)) in
    let full : pages_behind 8 w' ≡ without_number p (pages_behind 8 w) = m.others 8 (omega arith) (λ same. omega arith)
    in
    let blank : pages_behind 9 w' ≡ without_number p (pages_behind 9 w) = m.others 9 (omega arith) (λ same. omega arith)
    in
    record {
      kept = kept_moved w w' (p ∷ without_number p (pages_behind c w)) c p size size' opened unopened notes
          (set notes p false) h m distinct (omega arith) old sized (length-set notes p false)
          (noted_elsewhere notes p c w w' (p ∷ without_number p (pages_behind c w)) inside h.distinct h.noted m
          (λ same. omega arith));
      shows = λ i. record { opened = opened; unopened = unopened; classes = classes i; full = full i; blank = blank i };
    } in
    subst P is at old

pub leaves_back
    : (w w' : List ℕ) (c p size size' opened unopened : ℕ) (notes : List Bool) (v : PageQueues)
    → queues_shown w opened unopened ≡ v → KeepsQueues w size opened unopened notes → c < 8 → p < v.opened
    → w' ≡ put_before (c + 1) ((11 + p) ∷ []) (without_number (11 + p) w) → Distinct w' → size' ≡ size
    → Leaves w' size' opened unopened (set notes p false) (at_back c p v)
leaves_back w w' c p size size' opened unopened notes v is h class old new distinct sized =
    let P : PageQueues → Type 0 = λ v. p < v.opened → Leaves w' size' opened unopened (set notes p false)
    (at_back c p v) in
    let at : P (queues_shown w opened unopened) = λ old.
    let behind : put_before (suc c) ((11 + p) ∷ []) (without_number (11 + p) w) ≡ w' =
    sym (new ∙ ap (λ m. put_before m ((11 + p) ∷ []) (without_number (11 + p) w)) (add-one c)) in
    let m : Moved w w' c p (without_number p (pages_behind c w) ++ p ∷ []) =
    subst (λ z. Moved w z c p (without_number p (pages_behind c w) ++ p ∷ [])) behind
    (moved_to_back w c p (omega arith) h.distinct h.marked) in
    let inside : p < length notes = subst (λ n. p < n) (sym h.each_noted) old in
    let classes : class_queues w' ≡ set (map (without_number p) (class_queues w)) c
    (without_number p (class_queue (queues_shown w opened unopened) c) ++ p ∷ []) =
    class_moved w w' (without_number p (pages_behind c w) ++ p ∷ []) c p m class
    ∙ ap (λ xs. set (map (without_number p) (class_queues w)) c (without_number p xs ++ p ∷ []))
    (sym (class_is c w class)) in
    let full : pages_behind 8 w' ≡ without_number p (pages_behind 8 w) = m.others 8 (omega arith) (λ same. omega arith)
    in
    let blank : pages_behind 9 w' ≡ without_number p (pages_behind 9 w) = m.others 9 (omega arith) (λ same. omega arith)
    in
    record {
      kept = kept_moved w w' (without_number p (pages_behind c w) ++ p ∷ []) c p size size' opened unopened notes
          (set notes p false) h m distinct (omega arith) old sized (length-set notes p false)
          (noted_elsewhere notes p c w w' (without_number p (pages_behind c w) ++ p ∷ []) inside h.distinct h.noted m
          (λ same. omega arith));
      shows = λ i. record { opened = opened; unopened = unopened; classes = classes i; full = full i; blank = blank i };
    } in
    subst P is at old

pub leaves_full
    : (w w' : List ℕ) (p size size' opened unopened : ℕ) (notes : List Bool) (v : PageQueues)
    → queues_shown w opened unopened ≡ v → KeepsQueues w size opened unopened notes → p < v.opened
    → w' ≡ put_before 9 ((11 + p) ∷ []) (without_number (11 + p) w) → Distinct w' → size' ≡ size
    → Leaves w' size' opened unopened (set notes p true) (among_full p v)
leaves_full w w' p size size' opened unopened notes v is h old new distinct sized =
    let P : PageQueues → Type 0 = λ v. p < v.opened → Leaves w' size' opened unopened (set notes p true)
    (among_full p v) in
    let at : P (queues_shown w opened unopened) = λ old.
    let m : Moved w w' 8 p (without_number p (pages_behind 8 w) ++ p ∷ []) =
    subst (λ z. Moved w z 8 p (without_number p (pages_behind 8 w) ++ p ∷ [])) (sym new)
    (moved_to_back w 8 p (omega arith) h.distinct h.marked) in
    let inside : p < length notes = subst (λ n. p < n) (sym h.each_noted) old in
    let classes : class_queues w' ≡ map (without_number p) (class_queues w) =
    classes_without w w' (without_number p (pages_behind 8 w) ++ p ∷ []) 8 p m (omega arith) in
    let blank : pages_behind 9 w' ≡ without_number p (pages_behind 9 w) = m.others 9 (omega arith) (λ same. omega arith)
    in
    record {
      kept = kept_moved w w' (without_number p (pages_behind 8 w) ++ p ∷ []) 8 p size size' opened unopened notes
          (set notes p true) h m distinct (omega arith) old sized (length-set notes p true)
          (noted_full notes p w w' inside h.noted m);
      shows = λ i. record {
        opened = opened;
        unopened = unopened;
        classes = classes i;
        full = m.target i;
        blank = blank
            i;
      };
    } in
    subst P is at old

-- ---- the same for every class that the page is put into

-- each mark is there once the page is taken out
pub mark_is_there
    : (w out : List ℕ) (p size opened unopened : ℕ) (notes : List Bool)
    → KeepsQueues w size opened unopened notes → out ≡ without_number (11 + p) w → (mark : ℕ) → mark < 11
    → has_number mark out ≡ true
mark_is_there w out p size opened unopened notes h is mark inside =
    ap (has_number mark) is ∙ mark_stays w mark p size opened unopened notes h inside

pub kept_in_front
    : (w out w' : List ℕ) (p size size' opened unopened : ℕ) (notes : List Bool) (v : PageQueues)
    → queues_shown w opened unopened ≡ v → KeepsQueues w size opened unopened notes → p < v.opened → out
    ≡ without_number (11 + p) w
    → Distinct w' → size' ≡ size → (c : ℕ) → w' ≡ put_after c (11 + p) out → c < 8
    → KeepsQueues w' size' opened unopened (set notes p false)
kept_in_front w out w' p size size' opened unopened notes v is h old taken distinct sized c new class =
    (leaves_front w w' c p size size' opened unopened notes v is h class old (new ∙ ap (put_after c (11 + p)) taken)
    distinct sized).kept

pub kept_in_back
    : (w out w' : List ℕ) (p size size' opened unopened : ℕ) (notes : List Bool) (v : PageQueues)
    → queues_shown w opened unopened ≡ v → KeepsQueues w size opened unopened notes → p < v.opened → out
    ≡ without_number (11 + p) w
    → Distinct w' → size' ≡ size → (c : ℕ) → w' ≡ put_before (c + 1) ((11 + p) ∷ []) out → c < 8
    → KeepsQueues w' size' opened unopened (set notes p false)
kept_in_back w out w' p size size' opened unopened notes v is h old taken distinct sized c new class =
    (leaves_back w w' c p size size' opened unopened notes v is h class old
    (new ∙ ap (put_before (c + 1) ((11 + p) ∷ [])) taken) distinct sized).kept
