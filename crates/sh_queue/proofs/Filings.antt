-- Pages are filed one after the other.
use Rattle.std.proofs.Common.{◌≡◌, ◌≢◌, ℕ, zero, suc, ◌+◌, ◌*◌, ◌^◌, ◌<◌, ◌≤◌, ⊎_elim, Bool, true, false, List}
use Rattle.std.proofs.Common.{[], ◌∷◌, ◌++◌, length, set, replicate, Option, Some, None, sym, refl, ap, ◌∙◌, subst}
use Rattle.std.proofs.Common.{arith, add-one}
use Rattle.std.specs.Prelude.{nat_lt, IfSome}
use Rattle.std.proofs.lemmas.Bool.{cases_eq, lt-ltb, ltb-true}
use Rattle.std.proofs.lemmas.List.{length-replicate, get_or-set_same, get_or-set_other}
use Rattle.sh_lists.specs.Numbers.{Distinct, upward}
use Rattle.sh_queue.specs.Numbers.{has_number, put_before, RisesFrom}
use Rattle.sh_queue.specs.Queues.{PageQueues, FilingQueues, class_queue, next_filed, mark_behind, none_opened}
use Rattle.sh_queue.specs.Queues.{pages_to_mark, pages_behind, marks, queues_from, class_queues, queues_shown}
use Rattle.sh_queue.specs.Queues.{filing_shown, KeepsQueues, KeepsFiling}
use Rattle.sh_queue.proofs.PutBefore.{has_number-put_before_other, has_number-put_before_same}
use Rattle.sh_queue.proofs.Rising.{RisesFrom-more}
use Rattle.sh_queue.proofs.Marks.{has_number-mark}
use Rattle.sh_queue.proofs.PagePutIn.{run-put_before_other, queue-put_before_same, queue-put_before_other}
use Rattle.sh_queue.proofs.PagePutIn.{marks-put_before}
use Rattle.sh_queue.proofs.QueuedPages.{has_number-queue}
use Rattle.sh_queue.proofs.Moves.{Leaves, class_is}
use Rattle.sh_queue.proofs.Openings.{get_or-replicate_same, less_or_same, class_queues_same, shows_none}

-- ---- no page yet

pub filing_shows_none
    : (w : List ℕ) (opened unopened : ℕ) (notes : List Bool)
    → w ≡ upward 0 11 → notes ≡ replicate (8 * opened) false
    → filing_shown w 0 unopened notes
    ≡ record { queues = none_opened unopened; pages = 8 * opened }
filing_shows_none w opened unopened notes marked none =
    let shown : queues_shown w 0 unopened ≡ none_opened unopened = ap (λ z. queues_shown z 0 unopened) marked
    ∙ shows_none unopened in
    let long : length notes ≡ 8 * opened = ap length none ∙ length-replicate {A = Bool} (8 * opened) false in
    λ i. record { queues = shown i; pages = long i }

-- ---- the next page

-- page n is last in queue t, and the other queues are as they were
record Filed (w w' : List ℕ) (t n : ℕ) : Type 0 where
  target : pages_behind t w' ≡ pages_behind t w ++ n ∷ []
  others : (k : ℕ) → k < 11 → k ≢ t → pages_behind k w' ≡ pages_behind k w
  marked : marks w' ≡ upward 0 11
  none_ahead : pages_to_mark w' ≡ pages_to_mark w
  pages : (q : ℕ) → has_number (11 + q) w' ≡ nat_lt q (n + 1)

filed_behind
    : (w : List ℕ) (t n : ℕ)
    → suc t < 11 → marks w ≡ upward 0 11 → ((q : ℕ) → has_number (11 + q) w ≡ nat_lt q n)
    → Filed w (put_before (suc t) ((11 + n) ∷ []) w) t n
filed_behind w t n mark marked pages =
    let here : has_number (suc t) w ≡ true = has_number-mark (suc t) w marked mark in
    record {
      target = queue-put_before_same t n 0 11 w marked (omega arith) (omega arith) mark;
      others = λ k inner other. queue-put_before_other k (suc t) n 0 11 w marked inner mark
          (λ same. other (omega arith));
      marked = marks-put_before (suc t) n w ∙ marked;
      none_ahead = run-put_before_other (suc t) n 0 11 w marked mark (λ same. omega arith);
      pages = λ q. ⊎_elim
          (λ (is : n ≡ q).
          let P : ℕ → Type 0 = λ k. has_number (11 + k) (put_before (suc t) ((11 + n) ∷ []) w) ≡ nat_lt k (n + 1) in
          let at : P n = has_number-put_before_same (suc t) (11 + n) w here ∙ sym (lt-ltb n (n + 1) (omega arith)) in
          subst P is at)
          (λ (other : n ≢ q).
          has_number-put_before_other (11 + q) (suc t) (11 + n) w (λ same. other (omega arith))
          ∙ pages q
          ∙ sym (ap (nat_lt q) (add-one n) ∙ less_or_same q n (λ same. other (sym same))))
          (cases_eq n q);
    }

-- ---- the queues of the classes

queues_from-same
    : (n k : ℕ) (w w' : List ℕ) → ((i : ℕ) → k ≤ i → i < k + n → pages_behind i w' ≡ pages_behind i w)
    → queues_from n k w' ≡ queues_from n k w
queues_from-same zero k w w' others = refl
queues_from-same (suc n) k w w' others =
    ap (λ x. x ∷ queues_from n (suc k) w') (others k (omega arith) (omega arith))
    ∙ ap (λ xs. pages_behind k w ∷ xs) (queues_from-same n (suc k) w w'
    (λ i from upto. others i (omega arith) (omega arith)))

-- one of them becomes another
queues_from-one
    : (n k c t : ℕ) (new w w' : List ℕ)
    → t ≡ k + c → c < n → pages_behind t w' ≡ new
    → ((i : ℕ) → i < k + n → i ≢ t → pages_behind i w' ≡ pages_behind i w)
    → queues_from n k w' ≡ set (queues_from n k w) c new
queues_from-one zero k c t new w w' is inside target others = absurd (omega arith)
queues_from-one (suc n) k zero t new w w' is inside target others =
    let here : k ≡ t = omega arith in
    ap (λ x. x ∷ queues_from n (suc k) w') (ap (λ m. pages_behind m w') here ∙ target)
    ∙ ap (λ xs. new ∷ xs) (queues_from-same n (suc k) w w'
    (λ i from upto. others i (omega arith) (λ same. omega arith)))
queues_from-one (suc n) k (suc c) t new w w' is inside target others =
    ap (λ x. x ∷ queues_from n (suc k) w') (others k (omega arith) (λ same. omega arith))
    ∙ ap (λ xs. pages_behind k w ∷ xs) (queues_from-one n (suc k) c t new w w' (omega arith) (omega arith) target
    (λ i upto other. others i (omega arith) other))

class_filed
    : (w w' : List ℕ) (c n opened unopened : ℕ)
    → Filed w w' c n → c < 8
    → class_queues w' ≡ set (class_queues w) c (class_queue (queues_shown w opened unopened) c ++ n ∷ [])
unfolding class_queues
class_filed w w' c n opened unopened f class =
    queues_from-one 8 0 c c (pages_behind c w ++ n ∷ []) w w' (omega arith) class f.target
    (λ i upto other. f.others i (omega arith) other)
    ∙ ap (λ xs. set (queues_from 8 0 w) c (xs ++ n ∷ [])) (sym (class_is c w class))

-- ---- what is kept

kept_filed
    : (w w' : List ℕ) (t n unopened : ℕ)
    → KeepsQueues w (11 + n) n unopened (replicate n false) → Filed w w' t n → t ≢ 8 → t < 10 → Distinct w'
    → n + 1 + 8 * unopened ≤ 2 ^ 24 → RisesFrom 0 (pages_behind 9 w')
    → KeepsQueues w' (11 + (n + 1)) (n + 1) unopened (replicate (n + 1) false)
kept_filed w w' t n unopened h f elsewhere inner distinct few rising =
    let full : pages_behind 8 w' ≡ pages_behind 8 w = f.others 8 (omega arith) (λ same. elsewhere (sym same)) in
    record {
      room = omega arith;
      lean = omega arith;
      few = few;
      distinct = distinct;
      marked = f.marked;
      none_ahead = f.none_ahead ∙ h.none_ahead;
      none_behind = f.others 10 (omega arith) (λ same. omega arith) ∙ h.none_behind;
      pages = f.pages;
      rising = rising;
      each_noted = length-replicate {A = Bool} (n + 1) false;
      noted = λ q. get_or-replicate_same (n + 1) q
          ∙ sym (get_or-replicate_same n q)
          ∙ h.noted q
          ∙ ap (has_number q) (sym full);
    }

filed_class
    : (w w' : List ℕ) (c n unopened : ℕ)
    → KeepsQueues w (11 + n) n unopened (replicate n false) → c < 8 → n + 1 + 8 * unopened ≤ 2 ^ 24
    → w' ≡ put_before (c + 1) ((11 + n) ∷ []) w → Distinct w'
    → Leaves w' (11 + (n + 1)) (n + 1) unopened (replicate (n + 1) false)
    (next_filed (Some c) (queues_shown w n unopened))
filed_class w w' c n unopened h class few new distinct =
    let f : Filed w w' c n = subst (λ z. Filed w z c n)
    (sym (new ∙ ap (λ m. put_before m ((11 + n) ∷ []) w) (add-one c)))
    (filed_behind w c n (omega arith) h.marked h.pages) in
    let blank : pages_behind 9 w' ≡ pages_behind 9 w = f.others 9 (omega arith) (λ same. omega arith) in
    let full : pages_behind 8 w' ≡ pages_behind 8 w = f.others 8 (omega arith) (λ same. omega arith) in
    let classes = class_filed w w' c n n unopened f class in
    record {
      kept = kept_filed w w' c n unopened h f (λ same. omega arith) (omega arith) distinct few
          (subst (RisesFrom 0) (sym blank) h.rising);
      shows = λ i. record {
        opened = n + 1;
        unopened = unopened;
        classes = classes i;
        full = full i;
        blank = blank i;
      };
    }

filed_blank
    : (w w' : List ℕ) (n unopened : ℕ)
    → KeepsQueues w (11 + n) n unopened (replicate n false) → n + 1 + 8 * unopened ≤ 2 ^ 24
    → w' ≡ put_before 10 ((11 + n) ∷ []) w → Distinct w'
    → Leaves w' (11 + (n + 1)) (n + 1) unopened (replicate (n + 1) false) (next_filed None (queues_shown w n unopened))
filed_blank w w' n unopened h few new distinct =
    let f : Filed w w' 9 n = subst (λ z. Filed w z 9 n) (sym new)
    (filed_behind w 9 n (omega arith) h.marked h.pages) in
    let full : pages_behind 8 w' ≡ pages_behind 8 w = f.others 8 (omega arith) (λ same. omega arith) in
    let classes = class_queues_same w w' (λ k inside. f.others k (omega arith) (λ same. omega arith)) in
    record {
      kept = kept_filed w w' 9 n unopened h f (λ same. omega arith) (omega arith) distinct few
          (subst (RisesFrom 0) (sym f.target) (RisesFrom-more 0 n 1 (pages_behind 9 w) (omega arith) h.rising
          (λ k here. ltb-true k n (sym (h.pages k) ∙ has_number-queue 9 k w here))));
      shows = λ i. record {
        opened = n + 1;
        unopened = unopened;
        classes = classes i;
        full = full i;
        blank = f.target i;
      };
    }

filed_next
    : (class : Option ℕ) (w w' : List ℕ) (n unopened : ℕ)
    → KeepsQueues w (11 + n) n unopened (replicate n false) → IfSome class (λ c. c < 8) → n + 1 + 8 * unopened ≤ 2 ^ 24
    → w' ≡ put_before (mark_behind class) ((11 + n) ∷ []) w → Distinct w'
    → Leaves w' (11 + (n + 1)) (n + 1) unopened (replicate (n + 1) false) (next_filed class (queues_shown w n unopened))
filed_next None w w' n unopened h class few new distinct = filed_blank w w' n unopened h few new distinct
filed_next (Some c) w w' n unopened h class few new distinct = filed_class w w' c n unopened h class few new distinct

-- what filing a page leaves
pub record LeavesFiled (w : List ℕ) (size filed unopened : ℕ) (notes : List Bool) (v : FilingQueues) : Type 0 where
  pub kept : KeepsFiling w size filed unopened notes
  pub shows : filing_shown w filed unopened notes ≡ v

-- a page is left to be filed
one_left
    : (w : List ℕ) (filed unopened : ℕ) (notes : List Bool) (v : FilingQueues)
    → filing_shown w filed unopened notes ≡ v
    → v.queues.opened < v.pages → filed < length notes
one_left w filed unopened notes v is left =
    let opened : filed ≡ v.queues.opened = ap (λ (z : FilingQueues). z.queues.opened) is in
    let pages : length notes ≡ v.pages = ap (λ (z : FilingQueues). z.pages) is in
    omega arith

pub leaves_filed
    : (w w' : List ℕ) (size size' filed unopened : ℕ) (notes : List Bool) (class : Option ℕ) (v : FilingQueues)
    → filing_shown w filed unopened notes ≡ v
    → KeepsFiling w size filed unopened notes → v.queues.opened < v.pages → IfSome class (λ c. c < 8)
    → w' ≡ put_before (mark_behind class) ((11 + filed) ∷ []) w → Distinct w' → size' ≡ size
    → LeavesFiled w' size' (filed + 1) unopened notes (record v { queues = next_filed class v.queues })
leaves_filed w w' size size' filed unopened notes class v is h left few_class new distinct sized =
    let less : filed < length notes = one_left w filed unopened notes v is left in
    let room : size ≡ 11 + length notes = h.room in
    let few : length notes + 8 * unopened ≤ 2 ^ 24 = h.few in
    let next = filed_next class w w' filed unopened h.kept few_class (omega arith) new distinct in
    let shown = next.shows in
    record {
      kept = record {
        room = sized ∙ room;
        some_left = omega arith;
        few = few;
        none_noted = h.none_noted;
        kept = next.kept;
      };
      shows = subst (λ (z : FilingQueues). filing_shown w' (filed + 1) unopened notes
          ≡ record z { queues = next_filed class z.queues }) is
          (λ i. record { queues = shown i; pages = length notes });
    }

-- ---- the queues after a page is filed, in the form that callers need

pub next_filed-opened : (class : Option ℕ) (q : PageQueues) → (next_filed class q).opened ≡ q.opened + 1
next_filed-opened None q = refl
next_filed-opened (Some c) q = refl

pub next_filed-unopened : (class : Option ℕ) (q : PageQueues) → (next_filed class q).unopened ≡ q.unopened
next_filed-unopened None q = refl
next_filed-unopened (Some c) q = refl

-- the queue of its class, and that of another class
pub class_queue-next_filed_same : (c : ℕ) (q : PageQueues) → c < length q.classes
    → class_queue (next_filed (Some c) q) c ≡ class_queue q c ++ q.opened ∷ []
class_queue-next_filed_same c q inside = get_or-set_same q.classes c (class_queue q c ++ q.opened ∷ []) [] inside

pub class_queue-next_filed_other : (c d : ℕ) (q : PageQueues) → d ≢ c
    → class_queue (next_filed (Some c) q) d ≡ class_queue q d
class_queue-next_filed_other c d q other = get_or-set_other q.classes c d (class_queue q c ++ q.opened ∷ []) [] other
