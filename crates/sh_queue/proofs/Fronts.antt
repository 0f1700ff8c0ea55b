-- The results of the calls that look at the queues.
use Rattle.std.proofs.Common.{◌≡◌, ℕ, ◌+◌, ◌<◌, ◌≤◌, Bool, true, List, [], ◌∷◌, ◌++◌, sym, refl, ap, ◌∙◌, subst, arith}
use Rattle.std.proofs.Common.{add-one, Option, Some, None, append-nil}
use Rattle.std.specs.Prelude.{nat_lt, slice_get, IfSome}
use Rattle.std.specs.List.{last_or, concat}
use Rattle.std.proofs.lemmas.List.Folds.{concat-append}
use Rattle.std.proofs.lemmas.Bool.{lt-ltb, ltb-true}
use Rattle.sh_lists.specs.Numbers.{Distinct}
use Rattle.sh_queue.specs.Numbers.{has_number, following, preceding, RisesFrom}
use Rattle.sh_queue.specs.Queues.{PageQueues, EachOnce, queued_pages, page_numbered, pages_behind, queues_from}
use Rattle.sh_queue.specs.Queues.{class_queues, queues_shown, KeepsQueues}
use Rattle.sh_queue.proofs.Numbers.{has_number-first, has_number-last}
use Rattle.sh_queue.proofs.Rising.{lowest}
use Rattle.sh_queue.proofs.QueueEnds.{page_of-following, page_of-preceding}
use Rattle.sh_queue.proofs.QueuedPages.{has_number-queue, pages, Distinct-pages, has_number-pages, run-append-queues}
use Rattle.sh_queue.proofs.Moves.{length-queues_from}

-- the first of a queue, if there is one, is opened, and so is the last
IfSome-from : (o : Option ℕ) (P : ℕ → Type 0) → ((p : ℕ) → o ≡ Some p → P p) → IfSome o P
IfSome-from None P h = tt
IfSome-from (Some p) P h = h p refl

is_opened
    : (w : List ℕ) (k p size opened unopened : ℕ) (notes : List Bool)
    → KeepsQueues w size opened unopened notes → has_number p (pages_behind k w) ≡ true → p < opened
is_opened w k p size opened unopened notes h here = ltb-true p opened (sym (h.pages p) ∙ has_number-queue k p w here)

-- the front page of the queue behind a mark
pub record IsFront (w : List ℕ) (k opened : ℕ) (answer : Option ℕ) : Type 0 where
  pub is : answer ≡ slice_get (pages_behind k w) 0
  pub is_opened : IfSome answer (λ page. page < opened)

pub front_of
    : (w : List ℕ) (k x size opened unopened : ℕ) (notes : List Bool) (answer : Option ℕ)
    → KeepsQueues w size opened unopened notes → x ≡ following k w → answer ≡ page_numbered x
    → IsFront w k opened answer
front_of w k x size opened unopened notes answer h found said =
    let is : answer ≡ slice_get (pages_behind k w) 0 = said ∙ ap page_numbered found ∙ page_of-following k w in
    record {
      is = is;
      is_opened = IfSome-from answer (λ page. page < opened)
          (λ p some. is_opened w k p size opened unopened notes h
          (has_number-first p (pages_behind k w) (sym is ∙ some)));
    }

-- the last page of the queue behind a mark
pub record IsLast (w : List ℕ) (k opened : ℕ) (answer : Option ℕ) : Type 0 where
  pub is : answer ≡ last_or None (pages_behind k w)
  pub is_opened : IfSome answer (λ page. page < opened)

pub last_of
    : (w : List ℕ) (c x size opened unopened : ℕ) (notes : List Bool) (answer : Option ℕ)
    → KeepsQueues w size opened unopened notes → c < 8 → x ≡ preceding (c + 1) w → answer ≡ page_numbered x
    → IsLast w c opened answer
last_of w c x size opened unopened notes answer h class found said =
    let is : answer ≡ last_or None (pages_behind c w) =
    said
    ∙ ap page_numbered (found ∙ ap (λ m. preceding m w) (add-one c))
    ∙ page_of-preceding c 0 0 11 w h.marked (omega arith) (omega arith) (omega arith) in
    record {
      is = is;
      is_opened = IfSome-from answer (λ page. page < opened)
          (λ p some. is_opened w c p size opened unopened notes h
          (has_number-last p (pages_behind c w) (sym is ∙ some)));
    }

-- the front of the blank pages is the lowest of them
pub lowest_blank
    : (xs : List ℕ) (answer : Option ℕ)
    → RisesFrom 0 xs → answer ≡ slice_get xs 0
    → IfSome answer (λ page. (other : ℕ) → has_number other xs ≡ true → page ≤ other)
lowest_blank xs answer rises is =
    IfSome-from answer (λ page. (other : ℕ) → has_number other xs ≡ true → page ≤ other)
    (λ p some other here. lowest p other 0 xs rises (sym is ∙ some) here)

-- ---- each page is in one queue

all_pages-shown
    : (w : List ℕ) (size opened unopened : ℕ) (notes : List Bool)
    → KeepsQueues w size opened unopened notes → queued_pages (queues_shown w opened unopened) ≡ pages w
unfolding class_queues
all_pages-shown w size opened unopened notes h =
    let ends : List (List ℕ) = pages_behind 8 w ∷ pages_behind 9 w ∷ pages_behind 10 w ∷ [] in
    let end : pages_behind 8 w ++ (pages_behind 9 w ++ (pages_behind 10 w ++ [])) ≡ pages_behind 8 w
    ++ pages_behind 9 w =
    ap (λ zs. pages_behind 8 w ++ (pages_behind 9 w ++ (zs ++ []))) h.none_behind
    ∙ ap (λ zs. pages_behind 8 w ++ zs) (append-nil (pages_behind 9 w)) in
    ap (λ zs. concat (queues_from 8 0 w) ++ zs) (sym end)
    ∙ sym (concat-append (queues_from 8 0 w) ends)
    ∙ ap (λ zs. zs ++ concat (queues_from 11 0 w)) (sym h.none_ahead)
    ∙ run-append-queues 0 11 w h.marked (omega arith)

pub each_once
    : (w : List ℕ) (size opened unopened : ℕ) (notes : List Bool) (v : PageQueues)
    → queues_shown w opened unopened ≡ v → KeepsQueues w size opened unopened notes → EachOnce v
unfolding class_queues
each_once w size opened unopened notes v is h =
    let same : queued_pages (queues_shown w opened unopened) ≡ pages w = all_pages-shown w size opened unopened notes h
    in
    let in_pages : (page : ℕ) → has_number page (pages w) ≡ nat_lt page opened = λ page. has_number-pages page w
    ∙ h.pages page in
    let at : EachOnce (queues_shown w opened unopened) = record {
      classes = length-queues_from 8 0 w;
      once = subst Distinct (sym same) (Distinct-pages w h.distinct);
      opened = λ page. (
        (λ here. ltb-true page opened (sym (in_pages page) ∙ ap (has_number page) (sym same) ∙ here)),
        (λ below. ap (has_number page) same ∙ in_pages page ∙ lt-ltb page opened below),
      );
    } in
    subst EachOnce is at
