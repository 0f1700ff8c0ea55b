-- The queues of pages of an owner.
use Rattle.std.specs.Prelude.{◌≡◌, ◌↔◌, ℕ, zero, suc, ◌+◌, ◌-◌, ◌*◌, ◌^◌, ◌<◌, ◌≤◌, ◌==◌, nat_lt, Bool, true, false}
use Rattle.std.specs.Prelude.{cond, List, [], ◌∷◌, ◌++◌, map, replicate, length, get_or, slice_set, Option, Some, None}
use Rattle.std.specs.List.{concat}
use Rattle.sh_shape.specs.Classes.{class_count}
use Rattle.sh_shape.specs.Shape.{segment_pages}
use Rattle.sh_lists.specs.Numbers.{Distinct, upward}
use Rattle.sh_queue.specs.Numbers.{has_number, without_number, RisesFrom}

-- The number of opened pages, which are the first ones, and of segments that are not opened. Then the pages in the
-- queue of each class, in the full queue, and the blank pages, each list from its front.
pub record PageQueues : Type 0 where
  pub opened : ℕ
  pub unopened : ℕ
  pub classes : List (List ℕ)
  pub full : List ℕ
  pub blank : List ℕ

-- the pages in the queue of class c
abbrev pub class_queue : PageQueues → ℕ → List ℕ
class_queue q c = get_or q.classes c []

-- the queues one after the other
abbrev pub queued_pages : PageQueues → List ℕ
queued_pages q = concat q.classes ++ (q.full ++ q.blank)

-- each opened page, and no other, is in exactly one of the queues, and there once
pub record EachOnce (q : PageQueues) : Type 0 where
  pub classes : length q.classes ≡ class_count
  pub once : Distinct (queued_pages q)
  pub opened : (page : ℕ) → (has_number page (queued_pages q) ≡ true) ↔ (page < q.opened)

-- ---- what the calls leave

-- no page is opened
abbrev pub none_opened : ℕ → PageQueues
none_opened segments =
    record { opened = 0; unopened = segments; classes = replicate class_count []; full = []; blank = [] }

-- the page is in no queue
abbrev pub taken_out : ℕ → PageQueues → PageQueues
taken_out page q =
    record q {
      classes = map (without_number page) q.classes;
      full = without_number page q.full;
      blank = without_number
          page q.blank;
    }

-- the queue of class c becomes this one
abbrev pub with_class : ℕ → List ℕ → PageQueues → PageQueues
with_class c pages q = record q { classes = slice_set q.classes c pages }

-- the page, taken from where it is, becomes the front of class c
abbrev pub at_front : ℕ → ℕ → PageQueues → PageQueues
at_front c page q = with_class c (page ∷ without_number page (class_queue q c)) (taken_out page q)

-- the page, taken from where it is, becomes the last of class c
abbrev pub at_back : ℕ → ℕ → PageQueues → PageQueues
at_back c page q = with_class c (without_number page (class_queue q c) ++ page ∷ []) (taken_out page q)

-- the page, taken from where it is, becomes the last of the full queue
abbrev pub among_full : ℕ → PageQueues → PageQueues
among_full page q = record (taken_out page q) { full = without_number page q.full ++ page ∷ [] }

-- the pages of the next segment are opened, and blank
abbrev pub one_more_segment : PageQueues → PageQueues
one_more_segment q =
    record q {
      opened = q.opened + segment_pages;
      unopened = q.unopened - 1;
      blank = q.blank ++ upward q.opened segment_pages;
    }

-- ---- queues that are being filled

-- the pages that are filed so far, in their queues, and the number of pages to file
pub record FilingQueues : Type 0 where
  pub queues : PageQueues
  pub pages : ℕ

-- one more page is opened, the next one: it is blank, or the last of a class
abbrev pub next_filed : Option ℕ → PageQueues → PageQueues
next_filed None q = record q { opened = q.opened + 1; blank = q.blank ++ q.opened ∷ [] }
next_filed (Some c) q = with_class c (class_queue q c ++ q.opened ∷ []) (record q { opened = q.opened + 1 })

-- ---- how one chain of numbers holds the queues

-- The numbers below 11 are marks. 0 to 7 are ahead of the queues of the classes, 8 is ahead of the full queue, 9 ahead
-- of the blank pages, and 10 at the end. Page p is the number 11 + p.

-- the mark behind the blank pages, and the one behind the pages of a class
abbrev pub mark_behind : Option ℕ → ℕ
mark_behind None = 10
mark_behind (Some c) = c + 1

-- the page that a number means; a mark means none
abbrev pub page_numbered : ℕ → Option ℕ
page_numbered x = cond (nat_lt x 11) None (Some (x - 11))

-- the pages up to the next mark
abbrev pub pages_to_mark : List ℕ → List ℕ
pages_to_mark [] = []
pages_to_mark (x ∷ xs) = cond (nat_lt x 11) [] ((x - 11) ∷ pages_to_mark xs)

-- the pages behind this mark
abbrev pub pages_behind : ℕ → List ℕ → List ℕ
pages_behind mark [] = []
pages_behind mark (x ∷ xs) = cond (x == mark) (pages_to_mark xs) (pages_behind mark xs)

-- the marks among the numbers
abbrev pub marks : List ℕ → List ℕ
marks [] = []
marks (x ∷ xs) = cond (nat_lt x 11) (x ∷ marks xs) (marks xs)

-- the queues behind the n marks from k on
abbrev pub queues_from : ℕ → ℕ → List ℕ → List (List ℕ)
queues_from zero k numbers = []
queues_from (suc n) k numbers = pages_behind k numbers ∷ queues_from n (suc k) numbers

-- the queues of the classes
unfoldable pub class_queues : List ℕ → List (List ℕ)
class_queues numbers = queues_from class_count 0 numbers

-- what the chain says of the queues
abbrev pub queues_shown : List ℕ → ℕ → ℕ → PageQueues
queues_shown numbers opened unopened = record {
  opened = opened;
  unopened = unopened;
  classes = class_queues numbers;
  full = pages_behind 8 numbers;
  blank = pages_behind 9 numbers;
}

-- what the chain says while pages are filed, with a note for each page to file
abbrev pub filing_shown : List ℕ → ℕ → ℕ → List Bool → FilingQueues
filing_shown numbers filed unopened notes = record {
  queues = queues_shown numbers filed unopened;
  pages = length notes;
}

-- What is true of the chain. It has room for the opened pages, and for at most one segment beyond them. It has the
-- marks in ascending order and the opened pages between them, and the blank pages rise. The notes say which pages are
-- in the full queue.
pub record KeepsQueues (numbers : List ℕ) (size opened unopened : ℕ) (notes : List Bool) : Type 0 where
  pub room : 11 + opened ≤ size
  pub lean : size ≤ 19 + opened
  pub few : opened + segment_pages * unopened ≤ 2 ^ 24
  pub distinct : Distinct numbers
  pub marked : marks numbers ≡ upward 0 11
  pub none_ahead : pages_to_mark numbers ≡ []
  pub none_behind : pages_behind 10 numbers ≡ []
  pub pages : (page : ℕ) → has_number (11 + page) numbers ≡ nat_lt page opened
  pub rising : RisesFrom 0 (pages_behind 9 numbers)
  pub each_noted : length notes ≡ opened
  pub noted : (page : ℕ) → get_or notes page false ≡ has_number page (pages_behind 8 numbers)

-- what is true while pages are filed: there is room for exactly all of them; those filed so far are in the chain; no
-- page is full
pub record KeepsFiling (numbers : List ℕ) (size filed unopened : ℕ) (notes : List Bool) : Type 0 where
  pub room : size ≡ 11 + length notes
  pub some_left : filed ≤ length notes
  pub few : length notes + segment_pages * unopened ≤ 2 ^ 24
  pub none_noted : notes ≡ replicate (length notes) false
  pub kept : KeepsQueues numbers (11 + filed) filed unopened (replicate filed false)
