-- Each opened page is in one of the queues, once, and still is after each move.
use Rattle.std.proofs.Common.{◌≡◌, ◌≢◌, ℕ, ◌+◌, ◌<◌, ◌≤◌, ⊎_elim, inl, inr, Bool, true, false, List, [], ◌∷◌, ◌++◌}
use Rattle.std.proofs.Common.{map, length, sym, refl, ap, ◌∙◌, subst, arith}
use Rattle.std.specs.List.{concat}
use Rattle.std.proofs.lemmas.Bool.{cases_eq, cases_lt}
use Rattle.std.proofs.Math.ListN.{get_or-map}
use Rattle.std.proofs.lemmas.List.{length-map, length-set}
use Rattle.sh_lists.specs.Numbers.{upward}
use Rattle.sh_queue.specs.Numbers.{has_number, without_number}
use Rattle.sh_queue.specs.Queues.{PageQueues, EachOnce, class_queue, queued_pages, taken_out, with_class, at_front}
use Rattle.sh_queue.specs.Queues.{at_back, among_full, one_more_segment}
use Rattle.sh_queue.proofs.Times.{times, times-here, times-else, times-append, times-none, times-some}
use Rattle.sh_queue.proofs.Times.{has_number-from_times, times-le, Distinct-from_times, times-upward_inside}
use Rattle.sh_queue.proofs.Times.{times-upward_outside, times-without_other, times-without_same}
use Rattle.sh_queue.proofs.Times.{times-concat_without_other, times-concat_without_same, times-concat_set}

-- ---- each page is in the queues once

-- the number of times that a page is in the queues
pub times-all : (k : ℕ) (q : PageQueues) → times k (queued_pages q) ≡ times k (concat q.classes) +
    (times k q.full + times k q.blank)
times-all k q = times-append k (concat q.classes) (q.full ++ q.blank)
    ∙ ap (λ n. times k (concat q.classes) + n) (times-append k q.full q.blank)

pub times-opened : (k : ℕ) (q : PageQueues) → EachOnce q → k < q.opened → times k (queued_pages q) ≡ 1
times-opened k q once inside =
    let few = times-le (queued_pages q) once.once k in
    let some = times-some k (queued_pages q) ((once.opened k).1 inside) in omega arith

times-not_opened : (k : ℕ) (q : PageQueues) → EachOnce q → q.opened ≤ k → times k (queued_pages q) ≡ 0
times-not_opened k q once outside = go (has_number k (queued_pages q)) refl where
  go : (b : Bool) → has_number k (queued_pages q) ≡ b → times k (queued_pages q) ≡ 0
  go true is = let inside = (once.opened k).0 is in absurd (omega arith)
  go false is = times-none k (queued_pages q) is

EachOnce-from_times : (q : PageQueues) → length q.classes ≡ 8 → ((k : ℕ) → k < q.opened → times k (queued_pages q) ≡ 1)
    → ((k : ℕ) → q.opened ≤ k → times k (queued_pages q) ≡ 0) → EachOnce q
EachOnce-from_times q classes inside outside = record {
  classes = classes;
  once = Distinct-from_times (queued_pages q) few;
  opened = λ page. (
    has_opened page,
    λ below. has_number-from_times page (queued_pages q)
        (let one = inside page below in omega arith),
  );
} where
  few : (k : ℕ) → times k (queued_pages q) ≤ 1
  few k = ⊎_elim
      (λ (h : k < q.opened). let one = inside k h in omega arith)
      (λ (h : q.opened ≤ k). let none = outside k h in omega arith)
      (cases_lt k q.opened)

  has_opened : (page : ℕ) → has_number page (queued_pages q) ≡ true → page < q.opened
  has_opened page here = ⊎_elim
      (λ (h : page < q.opened). h)
      (λ (h : q.opened ≤ page). let none = outside page h in let some = times-some page (queued_pages q) here
      in absurd (omega arith))
      (cases_lt page q.opened)

-- this page is in the queues once, and every other page as often as before
EachOnce-moved : (p : ℕ) (q q' : PageQueues) → EachOnce q → p < q.opened → q'.opened ≡ q.opened → length q'.classes ≡ 8
    → times p (queued_pages q') ≡ 1 → ((k : ℕ) → p ≢ k → times k (queued_pages q') ≡ times k (queued_pages q))
    → EachOnce q'
EachOnce-moved p q q' once inside same classes one others = EachOnce-from_times q' classes
    (λ k below. ⊎_elim
    (λ (is : p ≡ k). subst (λ z. times z (queued_pages q') ≡ 1) is one)
    (λ (other : p ≢ k). others k other ∙ times-opened k q once (omega arith))
    (cases_eq p k))
    (λ k above. others k (λ is. omega arith) ∙ times-not_opened k q once (omega arith))

-- the page was put among those of class c
EachOnce-class : (c p : ℕ) (pages : List ℕ) (q : PageQueues) → EachOnce q → c < 8 → p < q.opened
    → ((k : ℕ) → times k pages ≡ times k (p ∷ without_number p (class_queue q c)))
    → EachOnce (with_class c pages (taken_out p q))
EachOnce-class c p pages q once class inside is =
    EachOnce-moved p q new once inside refl (length-set (map (without_number p) q.classes) c pages
    ∙ length-map q.classes (without_number p) ∙ once.classes)
    one others
  where
    new : PageQueues
    new = with_class c pages (taken_out p q)

    replaced : (k : ℕ) → times k (concat new.classes) + times k (without_number p (class_queue q c))
        ≡ times k (concat (map (without_number p) q.classes)) + times k pages
    replaced k =
        ap (λ xs. times k (concat new.classes) + times k xs) (sym (get_or-map (without_number p) q.classes c []))
        ∙ times-concat_set k c (map (without_number p) q.classes) pages
        (let same = length-map q.classes (without_number p) in let eight = once.classes in omega arith)

    one : times p (queued_pages new) ≡ 1
    one =
        let all = times-all p q in
        let once_all = times-opened p q once inside in
        let gone = times-concat_without_same p q.classes (omega arith) in
        let full = times-without_same p q.full in
        let blank = times-without_same p q.blank in
        let here = is p in
        let first = times-here p p (without_number p (class_queue q c)) refl in
        let put = replaced p in
        times-all p new ∙ omega arith

    others : (k : ℕ) → p ≢ k → times k (queued_pages new) ≡ times k (queued_pages q)
    others k other =
        let all = times-all k q in
        let classes = times-concat_without_other k p q.classes other in
        let full = times-without_other k p q.full other in
        let blank = times-without_other k p q.blank other in
        let here = is k in
        let behind = times-else k p (without_number p (class_queue q c)) other in
        let put = replaced k in
        times-all k new ∙ omega arith

-- ---- each page is still in the queues once after a move

pub EachOnce-at_front : (c p : ℕ) (q : PageQueues) → EachOnce q → c < 8 → p < q.opened → EachOnce (at_front c p q)
EachOnce-at_front c p q once class inside = EachOnce-class c p (p ∷ without_number p (class_queue q c)) q once class
    inside (λ k. refl)

pub EachOnce-at_back : (c p : ℕ) (q : PageQueues) → EachOnce q → c < 8 → p < q.opened → EachOnce (at_back c p q)
EachOnce-at_back c p q once class inside = EachOnce-class c p (without_number p (class_queue q c) ++ p ∷ []) q once
    class inside
    (λ k. times-append k (without_number p (class_queue q c)) (p ∷ []) ∙ omega arith)

pub EachOnce-among_full : (p : ℕ) (q : PageQueues) → EachOnce q → p < q.opened → EachOnce (among_full p q)
EachOnce-among_full p q once inside =
    EachOnce-moved p q (among_full p q) once inside refl (length-map q.classes (without_number p) ∙ once.classes) one
    others
  where
    full_is : (k : ℕ) → times k (among_full p q).full ≡ times k (p ∷ without_number p q.full)
    full_is k = times-append k (without_number p q.full) (p ∷ []) ∙ omega arith

    one : times p (queued_pages (among_full p q)) ≡ 1
    one =
        let all = times-all p q in
        let once_all = times-opened p q once inside in
        let gone = times-concat_without_same p q.classes (omega arith) in
        let here = full_is p in
        let first = times-here p p (without_number p q.full) refl in
        let full = times-without_same p q.full in
        let blank = times-without_same p q.blank in
        times-all p (among_full p q) ∙ omega arith

    others : (k : ℕ) → p ≢ k → times k (queued_pages (among_full p q)) ≡ times k (queued_pages q)
    others k other =
        let all = times-all k q in
        let classes = times-concat_without_other k p q.classes other in
        let here = full_is k in
        let behind = times-else k p (without_number p q.full) other in
        let full = times-without_other k p q.full other in
        let blank = times-without_other k p q.blank other in
        times-all k (among_full p q) ∙ omega arith

pub EachOnce-one_more_segment : (q : PageQueues) → EachOnce q → EachOnce (one_more_segment q)
EachOnce-one_more_segment q once = EachOnce-from_times (one_more_segment q) once.classes inside outside where
  more : (k : ℕ) → times k (queued_pages (one_more_segment q)) ≡ times k (queued_pages q) + times k (upward q.opened 8)
  more k =
      let old = times-all k q in
      let blank = times-append k q.blank (upward q.opened 8) in
      times-all k (one_more_segment q) ∙ omega arith

  inside : (k : ℕ) → k < q.opened + 8 → times k (queued_pages (one_more_segment q)) ≡ 1
  inside k below = ⊎_elim
      (λ (h : k < q.opened).
      let old = times-opened k q once h in let new = times-upward_outside k q.opened 8 (inl h) in more k ∙ omega arith)
      (λ (h : q.opened ≤ k).
      let old = times-not_opened k q once h in let new = times-upward_inside k q.opened 8 h below in more k
      ∙ omega arith)
      (cases_lt k q.opened)

  outside : (k : ℕ) → q.opened + 8 ≤ k → times k (queued_pages (one_more_segment q)) ≡ 0
  outside k above =
      let old = times-not_opened k q once (omega arith) in
      let new = times-upward_outside k q.opened 8 (inr above) in more k ∙ omega arith
