-- The next segment is opened.
use Rattle.std.proofs.Common.{◌≡◌, ◌≢◌, ℕ, zero, suc, ◌+◌, ◌-◌, ◌*◌, ◌^◌, ◌<◌, ◌≤◌, ◌⊎◌, ⊎_elim, inl, Bool, true, false}
use Rattle.std.proofs.Common.{List, [], ◌∷◌, ◌++◌, length, get_or, replicate, sym, refl, ap, ◌∙◌, subst, arith}
use Rattle.std.proofs.Common.{append-nil, append_assoc, length-append}
use Rattle.std.specs.Prelude.{max, nat_lt}
use Rattle.std.proofs.lemmas.Bool.{cases_eq, cases_lt, lt-ltb, le-ltb, ltb-true}
use Rattle.std.proofs.lemmas.List.{length-replicate}
use Rattle.sh_lists.specs.Numbers.{Distinct, upward}
use Rattle.sh_lists.proofs.Distincts.{upward-push, Misses-upward}
use Rattle.sh_queue.specs.Numbers.{has_number, put_before, RisesFrom}
use Rattle.sh_queue.specs.Queues.{PageQueues, one_more_segment, none_opened, pages_to_mark, pages_behind, marks}
use Rattle.sh_queue.specs.Queues.{queues_from, class_queues, queues_shown, KeepsQueues}
use Rattle.sh_queue.proofs.PutBefore.{has_number-put_before_other, has_number-put_before_same, put_before-nil}
use Rattle.sh_queue.proofs.PutBefore.{put_before-push}
use Rattle.sh_queue.proofs.Rising.{RisesFrom-more}
use Rattle.sh_queue.proofs.Marks.{has_number-mark}
use Rattle.sh_queue.proofs.PagePutIn.{run-put_before_other, queue-put_before_same, queue-put_before_other}
use Rattle.sh_queue.proofs.PagePutIn.{marks-put_before}
use Rattle.sh_queue.proofs.QueuedPages.{has_number-queue}
use Rattle.sh_queue.proofs.Moves.{Leaves}

-- n pages, from this one on, are put behind the blank ones
record Opened (w w' : List ℕ) (first n : ℕ) : Type 0 where
  blank : pages_behind 9 w' ≡ pages_behind 9 w ++ upward first n
  others : (k : ℕ) → k < 11 → k ≢ 9 → pages_behind k w' ≡ pages_behind k w
  marked : marks w' ≡ upward 0 11
  none_ahead : pages_to_mark w' ≡ pages_to_mark w
  pages : (q : ℕ) → has_number (11 + q) w' ≡ nat_lt q (first + n)

pub less_or_same : (q n : ℕ) → q ≢ n → nat_lt q (suc n) ≡ nat_lt q n
less_or_same q n other = ⊎_elim
    (λ (less : q < n). let more : q < suc n = omega arith in lt-ltb q (suc n) more ∙ sym (lt-ltb q n less))
    (λ (from : n ≤ q). let beyond : suc n ≤ q = omega arith in le-ltb q (suc n) beyond ∙ sym (le-ltb q n from))
    (cases_lt q n)

opened_none : (w : List ℕ) (first : ℕ) → marks w ≡ upward 0 11 → ((q : ℕ) → has_number (11 + q) w ≡ nat_lt q first)
    → Opened w w first 0
opened_none w first marked pages =
    let none : first + 0 ≡ first = omega arith in
    record {
      blank = sym (append-nil (pages_behind 9 w));
      others = λ k mark other. refl;
      marked = marked;
      none_ahead = refl;
      pages = λ q. pages q ∙ ap (nat_lt q) (sym none);
    }

opened_more : (w v : List ℕ) (first n : ℕ) → Opened w v first n → Opened w (put_before 10 ((11 + (first + n)) ∷ []) v)
    first (suc n)
opened_more w v first n h =
    let p = first + n in
    let next : first + suc n ≡ suc p = omega arith in
    let here : has_number 10 v ≡ true = has_number-mark 10 v h.marked (omega arith) in
    record {
      blank = queue-put_before_same 9 p 0 11 v h.marked (omega arith) (omega arith) (omega arith)
          ∙ ap (λ xs. xs ++ p ∷ []) h.blank
          ∙ append_assoc (pages_behind 9 w) (upward first n) (p ∷ [])
          ∙ ap (λ xs. pages_behind 9 w ++ xs) (sym (upward-push first n));
      others = λ k mark other. queue-put_before_other k 10 p 0 11 v h.marked mark (omega arith)
          (λ same. other (omega arith)) ∙ h.others k mark other;
      marked = marks-put_before 10 p v ∙ h.marked;
      none_ahead = run-put_before_other 10 p 0 11 v h.marked (omega arith) (λ same. omega arith) ∙ h.none_ahead;
      pages = λ q. ⊎_elim
          (λ (is : p ≡ q).
          let P : ℕ → Type 0 = λ k. has_number (11 + k) (put_before 10 ((11 + p) ∷ []) v) ≡ nat_lt k (first + suc n) in
          let less : p < first + suc n = omega arith in
          let at : P p = has_number-put_before_same 10 (11 + p) v here ∙ sym (lt-ltb p (first + suc n) less) in
          subst P is at)
          (λ (other : p ≢ q).
          has_number-put_before_other (11 + q) 10 (11 + p) v (λ same. other (omega arith))
          ∙ h.pages q
          ∙ sym (ap (nat_lt q) next ∙ less_or_same q p (λ same. other (sym same))))
          (cases_eq p q);
    }

opened_all
    : (w : List ℕ) (first n : ℕ)
    → marks w ≡ upward 0 11 → ((q : ℕ) → has_number (11 + q) w ≡ nat_lt q first)
    → Opened w (put_before 10 (upward (11 + first) n) w) first n
opened_all w first zero marked pages =
    subst (λ z. Opened w z first 0) (sym (put_before-nil 10 w)) (opened_none w first marked pages)
opened_all w first (suc n) marked pages =
    let numbers = upward (11 + first) n in
    let before : 10 < 11 + first = omega arith in
    let ahead : (10 < 11 + first) ⊎ (11 + first + n ≤ 10) = inl before in
    let is : 11 + (first + n) ≡ 11 + first + n = omega arith in
    let puts : put_before 10 ((11 + (first + n)) ∷ []) (put_before 10 numbers w)
    ≡ put_before 10 (upward (11 + first) (suc n)) w =
    put_before-push 10 (11 + (first + n)) numbers w (Misses-upward 10 (11 + first) n ahead)
    ∙ ap (λ k. put_before 10 (numbers ++ k ∷ []) w) is
    ∙ ap (λ xs. put_before 10 xs w) (sym (upward-push (11 + first) n)) in
    subst (λ z. Opened w z first (suc n)) puts (opened_more w (put_before 10 numbers w) first n
    (opened_all w first n marked pages))

pub get_or-replicate_same : (n i : ℕ) → get_or (replicate n false) i false ≡ false
get_or-replicate_same zero i = refl
get_or-replicate_same (suc n) zero = refl
get_or-replicate_same (suc n) (suc i) = get_or-replicate_same n i

-- an added note is false
get_or-more : (notes : List Bool) (n i : ℕ) → get_or (notes ++ replicate n false) i false ≡ get_or notes i false
get_or-more [] n i = get_or-replicate_same n i
get_or-more (b ∷ notes) n zero = refl
get_or-more (b ∷ notes) n (suc i) = get_or-more notes n i

classes_same : (n k : ℕ) (w w' : List ℕ) → ((i : ℕ) → i < k + n → pages_behind i w' ≡ pages_behind i w)
    → queues_from n k w' ≡ queues_from n k w
classes_same zero k w w' others = refl
classes_same (suc n) k w w' others =
    ap (λ x. x ∷ queues_from n (suc k) w') (others k (omega arith))
    ∙ ap (λ xs. pages_behind k w ∷ xs) (classes_same n (suc k) w w' (λ i upto. others i (omega arith)))

pub class_queues_same : (w w' : List ℕ) → ((i : ℕ) → i < 8 → pages_behind i w' ≡ pages_behind i w) → class_queues w'
    ≡ class_queues w
unfolding class_queues
class_queues_same w w' others = classes_same 8 0 w w' (λ i upto. others i (omega arith))

-- if no more than the next segment was asked for
pub lean_after : (size grown after opened : ℕ) → size ≤ 19 + opened → grown ≤ max size (11 + (opened + 8))
    → after ≡ grown → after ≤ 19 + (opened + 8)
lean_after size grown after opened lean asked is = omega arith

pub leaves_opened
    : (w w' : List ℕ) (size size' opened unopened : ℕ) (notes notes' : List Bool) (v : PageQueues)
    → queues_shown w opened unopened ≡ v → KeepsQueues w size opened unopened notes → v.unopened ≢ 0
    → w' ≡ put_before 10 (upward (11 + opened) 8) w → Distinct w' → 11 + (opened + 8) ≤ size'
    → size' ≤ 19 + (opened + 8)
    → notes' ≡ notes ++ replicate (opened + 8 - length notes) false
    → Leaves w' size' (opened + 8) (unopened - 1) notes' (one_more_segment v)
leaves_opened w w' size size' opened unopened notes notes' v is h some new distinct room lean noted =
    let P : PageQueues → Type 0 = λ v. v.unopened ≢ 0 → Leaves w' size' (opened + 8) (unopened - 1) notes'
    (one_more_segment v) in
    let at : P (queues_shown w opened unopened) = λ some.
    let o : Opened w w' opened 8 = subst (λ z. Opened w z opened 8) (sym new) (opened_all w opened 8 h.marked h.pages)
    in
    let left : opened + 8 + 8 * (unopened - 1) ≡ opened + 8 * unopened = omega arith in
    let full : pages_behind 8 w' ≡ pages_behind 8 w = o.others 8 (omega arith) (λ same. omega arith) in
    let long : length notes' ≡ length notes + (opened + 8 - length notes) =
    ap length noted
    ∙ length-append notes (replicate (opened + 8 - length notes) false)
    ∙ ap (λ k. length notes + k) (length-replicate {A = Bool} (opened + 8 - length notes) false) in
    let each : length notes ≡ opened = h.each_noted in
    record {
      kept = record {
        room = room;
        lean = lean;
        few = subst (λ k. k ≤ 2 ^ 24) (sym left) h.few;
        distinct = distinct;
        marked = o.marked;
        none_ahead = o.none_ahead ∙ h.none_ahead;
        none_behind = o.others 10 (omega arith) (λ same. omega arith) ∙ h.none_behind;
        pages = o.pages;
        rising = subst (RisesFrom 0) (sym o.blank) (RisesFrom-more 0 opened 8 (pages_behind 9 w) (omega arith) h.rising
            (λ k here. ltb-true k opened (sym (h.pages k) ∙ has_number-queue 9 k w here)));
        each_noted = omega arith;
        noted = λ q. ap (λ xs. get_or xs q false) noted
            ∙ get_or-more notes (opened + 8 - length notes) q
            ∙ h.noted q
            ∙ ap (has_number q) (sym full);
      };
      shows = λ i. record {
        opened = opened + 8;
        unopened = unopened - 1;
        classes = class_queues_same w w' (λ k inside. o.others k (omega arith) (λ same. omega arith)) i;
        full = full i;
        blank = o.blank i;
      };
    } in
    subst P is at some

-- the marks alone have no page behind them
pub shows_none : (segments : ℕ) → queues_shown (upward 0 11) 0 segments ≡ none_opened segments
unfolding class_queues
shows_none segments = refl

-- the pages that come next are not in the chain
pub next_are_new
    : (w : List ℕ) (size opened unopened : ℕ) (notes : List Bool)
    → KeepsQueues w size opened unopened notes → (k : ℕ) → 11 + opened ≤ k → has_number k w ≡ false
next_are_new w size opened unopened notes h k from =
    let is : k ≡ 11 + (k - 11) = omega arith in
    let beyond : opened ≤ k - 11 = omega arith in
    ap (λ n. has_number n w) is ∙ h.pages (k - 11) ∙ le-ltb (k - 11) opened beyond
