-- Laws of histories and of logs that agree with them.
use Rattle.std.proofs.Common.{◌≡◌, ℕ, ◌+◌, ◌<◌, ◌≤◌, Bool, true, false, List, [], ◌∷◌, ◌++◌, Option, Some, None, refl}
use Rattle.std.proofs.Common.{sym, ◌∙◌, ap, subst, append_assoc, arith, rules, map, cond, zero-add, eq-eqb}
use Rattle.std.specs.Prelude.{◌==◌, ◌&&◌, filter, count_by}
use Rattle.std.specs.List.{AllZip}
use Rattle.std.proofs.lemmas.List.{append-nil}
use Rattle.std.proofs.lemmas.List.Sums.{sum_by-append, sum_by-cons}
use Rattle.sh_history.proofs.Laws.{legal_after_parts}
use Rattle.sh_history.specs.declared.entry.Entry.{Entry}
use Rattle.sh_history.specs.declared.entry.Entry.TheVariants.{Insert, Got, Released, Seen}
use Rattle.sh_history.specs.History.{value_of, holds_by, is_got_by, is_release_by, got_count_by, released_count_by}
use Rattle.sh_history.specs.History.{Allowed, LegalAfter, Legal}
use Rattle.sh_history.specs.declared.log.LogEntry.{LogEntry}
use Rattle.sh_history.specs.declared.log.LogEntry.TheVariants.{Known}
use Rattle.sh_history.specs.Log.{Agrees, pass_of, entries_of, IsLegalLog, is_logged_got_by, is_logged_release_by}
use Rattle.sh_history.specs.Log.{logged_holds_by, filled, HasValue, AllHaveValue}

cond_kept : (b : Bool) (v w : List ℕ) (x y : Option (List ℕ)) → (x ≡ Some w → y ≡ Some w)
    → cond b (Some v) x ≡ Some w → cond b (Some v) y ≡ Some w
cond_kept true v w x y f e = e
cond_kept false v w x y f e = f e

cond_none : (b : Bool) (v : List ℕ) (x y z : Option (List ℕ)) → (x ≡ None → y ≡ z)
    → cond b (Some v) x ≡ None → cond b (Some v) y ≡ z
cond_none true v x y z f e = absurd (let h : ⊥ = cc in h)
cond_none false v x y z f e = f e

-- a key keeps the value that it was issued with
pub value_of-append_some : (xs ys : List Entry) (key : ℕ) (value : List ℕ) → value_of xs key ≡ Some value
    → value_of (xs ++ ys) key ≡ Some value
value_of-append_some [] ys key value h = absurd (let n : ⊥ = cc in n)
value_of-append_some (Insert p k v ∷ xs) ys key value h =
    cond_kept (k == key) v value (value_of xs key) (value_of (xs ++ ys) key) (value_of-append_some xs ys key value) h
value_of-append_some (_ ∷ xs) ys key value h = value_of-append_some xs ys key value h

-- a key that is not issued yet may be issued by a later entry
pub value_of-append_none : (xs ys : List Entry) (key : ℕ) → value_of xs key ≡ None
    → value_of (xs ++ ys) key ≡ value_of ys key
value_of-append_none [] ys key h = refl
value_of-append_none (Insert p k v ∷ xs) ys key h =
    cond_none (k == key) v (value_of xs key) (value_of (xs ++ ys) key) (value_of ys key)
    (value_of-append_none xs ys key) h
value_of-append_none (_ ∷ xs) ys key h = value_of-append_none xs ys key h

-- an entry that says nothing of the key leaves its value
pub value_stays : (log : List Entry) (e : Entry) (key : ℕ) → value_of (e ∷ []) key ≡ None
    → value_of (log ++ e ∷ []) key ≡ value_of log key
value_stays log e key none = go (value_of log key) refl where
  go : (o : Option (List ℕ)) → value_of log key ≡ o → value_of (log ++ e ∷ []) key ≡ value_of log key
  go (Some v) is = value_of-append_some log (e ∷ []) key v is ∙ sym is
  go None is = value_of-append_none log (e ∷ []) key is ∙ (none ∙ sym is)

-- a count, entry by entry
pub count_by-cons : {X : Type 0} (p : X → Bool) (x : X) (xs : List X) → count_by p (x ∷ xs)
    ≡ cond (p x) 1 0 + count_by p xs
count_by-cons p x xs = sum_by-cons (λ x. cond (p x) 1 0) x xs

pub count_by-push : {X : Type 0} (p : X → Bool) (xs : List X) (x : X) → count_by p (xs ++ x ∷ [])
    ≡ count_by p xs + cond (p x) 1 0
count_by-push p xs x =
    sum_by-append (λ x. cond (p x) 1 0) xs (x ∷ []) ∙ ap (λ n. count_by p xs + n) (zero-add (cond (p x) 1 0))

-- a log of known entries
pub agrees_with_itself : (xs : List Entry) → AllZip Agrees (map Known xs) (filter (λ _. true) xs)
agrees_with_itself [] = tt
agrees_with_itself (x ∷ xs) = (refl, agrees_with_itself xs)

pub known_stands : (passes guard_max : ℕ) (xs : List Entry) → Legal passes guard_max xs
    → IsLegalLog passes guard_max (λ _. true) (map Known xs)
known_stands passes guard_max xs legal = record { history = xs; legal = legal; agrees = agrees_with_itself xs }

pub known_got : (xs : List Entry) (pass key : ℕ) → count_by (is_logged_got_by pass key) (map Known xs)
    ≡ got_count_by xs pass key
known_got [] pass key = refl
known_got (x ∷ xs) pass key =
    rw (
      count_by-cons (is_logged_got_by pass key) (Known x) (map Known xs),
      count_by-cons (is_got_by pass key) x xs,
      known_got xs pass key,
    ) refl

pub known_released : (xs : List Entry) (pass key : ℕ) → count_by (is_logged_release_by pass key) (map Known xs)
    ≡ released_count_by xs pass key
known_released [] pass key = refl
known_released (x ∷ xs) pass key =
    rw (
      count_by-cons (is_logged_release_by pass key) (Known x) (map Known xs),
      count_by-cons (is_release_by pass key) x
          xs,
      known_released xs pass key,
    ) refl

pub known_holds : (xs : List Entry) (pass key : ℕ) → logged_holds_by (map Known xs) pass key ≡ holds_by xs pass key
known_holds xs pass key = rw (known_got xs pass key, known_released xs pass key) refl

pub known_filled : (key : ℕ) (value : List ℕ) (xs : List Entry) → map (filled key value) (map Known xs) ≡ map Known xs
known_filled key value [] = refl
known_filled key value (x ∷ xs) = ap (λ ys. Known x ∷ ys) (known_filled key value xs)

bump : (b : Bool) (m n : ℕ) → m ≤ n → (b ≡ true → m < n) → m + cond b 1 0 ≤ n + 0
bump true m n h f = let lt = f refl in omega arith
bump false m n h f = omega arith

pub both : (p pass k key : ℕ) → ((p == pass) && (k == key)) ≡ true → (p ≡ pass) × (k ≡ key)
both p pass k key e = search rules

module _ (passes guard_max : ℕ) where
  release_step : (pass key : ℕ) (before : List Entry) (x : Entry) → Allowed passes guard_max before x
      → released_count_by before pass key ≤ got_count_by before pass key
      → released_count_by before pass key + cond (is_release_by pass key x) 1 0 ≤ got_count_by before pass key + cond
      (is_got_by pass key x) 1 0
  release_step pass key before (Released p k) allowed h =
      bump ((p == pass) && (k == key)) _ _ h (λ e.
      let same = both p pass k key e in
      let mine : 0 < holds_by before pass key = rw (← same.0, ← same.1) allowed in
      omega arith)
  release_step pass key before (Got p k v) allowed h = omega arith
  release_step pass key before _ allowed h = omega arith

  -- no pass releases more than it got
  pub releases_after : (pass key : ℕ) (before xs : List Entry) → LegalAfter passes guard_max before xs
      → released_count_by before pass key ≤ got_count_by before pass key
      → released_count_by (before ++ xs) pass key ≤ got_count_by (before ++ xs) pass key
  releases_after pass key before [] legal h = rw append-nil h
  releases_after pass key before (x ∷ xs) legal h =
      let step : released_count_by (before ++ x ∷ []) pass key ≤ got_count_by (before ++ x ∷ []) pass key =
      rw (count_by-push (is_release_by pass key) before x, count_by-push (is_got_by pass key) before x)
      (release_step pass key before x legal.0 h) in
      rw append_assoc at (releases_after pass key (before ++ x ∷ []) xs legal.1 step)

  pub releases_le : (pass key : ℕ) (xs : List Entry) → Legal passes guard_max xs
      → released_count_by xs pass key ≤ got_count_by xs pass key
  releases_le pass key xs legal = releases_after pass key [] xs legal (omega arith)

  -- each get of a key returned its value
  pub gets_have_value : (key : ℕ) (value : List ℕ) (before xs : List Entry) → LegalAfter passes guard_max before xs
      → value_of (before ++ xs) key ≡ Some value → AllHaveValue key value (map Known xs)
  gets_have_value key value before [] legal is = tt
  gets_have_value key value before (x ∷ xs) legal is =
      let rest : value_of ((before ++ x ∷ []) ++ xs) key ≡ Some value = rw append_assoc is in
      (here x legal.0 is, gets_have_value key value (before ++ x ∷ []) xs legal.1 rest)
    where
      here : (y : Entry) → Allowed passes guard_max before y → value_of (before ++ y ∷ xs) key ≡ Some value
          → HasValue key value (Known y)
      here (Got p k w) allowed is = λ same.
          let first : value_of before key ≡ Some w = rw (← same) allowed.0 in
          let all = value_of-append_some before (Got p k w ∷ xs) key w first in cc
      here _ allowed is = tt

  -- a key that was got was issued
  got_here : (pass key : ℕ) (before xs : List Entry) (p k : ℕ) (w : List ℕ) (b : Bool)
      → ((p == pass) && (k == key)) ≡ b → value_of before k ≡ Some w → 0 < cond b 1 0 + got_count_by xs pass key
      → (0 < got_count_by xs pass key → (value : List ℕ) × (value_of (before ++ Got p k w ∷ xs) key ≡ Some value))
      → (value : List ℕ) × (value_of (before ++ Got p k w ∷ xs) key ≡ Some value)
  got_here pass key before xs p k w true e is got later =
      let same = both p pass k key e in
      (w, value_of-append_some before (Got p k w ∷ xs) key w (rw same.1 at is))
  got_here pass key before xs p k w false e is got later = later (omega (arith, got))

  pub issued_when_got : (pass key : ℕ) (before xs : List Entry) → LegalAfter passes guard_max before xs
      → 0 < got_count_by xs pass key → (value : List ℕ) × (value_of (before ++ xs) key ≡ Some value)
  issued_when_got pass key before [] legal got = absurd (omega (arith, got))
  issued_when_got pass key before (Got p k w ∷ xs) legal got =
      got_here pass key before xs p k w ((p == pass) && (k == key)) refl legal.0.0
      (rw (count_by-cons (is_got_by pass key) (Got p k w) xs) at got)
      (λ more. rw append_assoc at (issued_when_got pass key (before ++ Got p k w ∷ []) xs legal.1 more))
  issued_when_got pass key before (x ∷ xs) legal got =
      rw append_assoc at (issued_when_got pass key (before ++ x ∷ []) xs legal.1
      (let h = rw (count_by-cons (is_got_by pass key) x xs) at got in omega (arith, h)))

  -- the value of an insert and that of a get, at any position
  pub value_of_insert : (front rest : List Entry) (p key : ℕ) (value : List ℕ)
      → Legal passes guard_max (front ++ Insert p key value ∷ rest)
      → value_of (front ++ Insert p key value ∷ rest) key ≡ Some value
  value_of_insert front rest p key value legal =
      let parts = legal_after_parts passes guard_max [] front (Insert p key value ∷ rest) legal in
      value_of-append_none front (Insert p key value ∷ rest) key parts.1.0 ∙ found
    where
      found : value_of (Insert p key value ∷ rest) key ≡ Some value
      found = rw (eq-eqb key key refl) refl

  pub value_of_got : (front rest : List Entry) (p key : ℕ) (value : List ℕ)
      → Legal passes guard_max (front ++ Got p key value ∷ rest)
      → value_of (front ++ Got p key value ∷ rest) key ≡ Some value
  value_of_got front rest p key value legal =
      let parts = legal_after_parts passes guard_max [] front (Got p key value ∷ rest) legal in
      value_of-append_some front (Got p key value ∷ rest) key value parts.1.0.0

  pub value_of_seen : (front rest : List Entry) (p key : ℕ) (value : List ℕ)
      → Legal passes guard_max (front ++ Seen p key value ∷ rest)
      → value_of (front ++ Seen p key value ∷ rest) key ≡ Some value
  value_of_seen front rest p key value legal =
      let parts = legal_after_parts passes guard_max [] front (Seen p key value ∷ rest) legal in
      value_of-append_some front (Seen p key value ∷ rest) key value parts.1.0.0

-- an entry of a log is one of the history
pub zip_splits : (front rest : List LogEntry) (e : Entry) (es : List Entry) → AllZip Agrees (front ++ Known e ∷ rest) es
    → (front' : List Entry) × (rest' : List Entry) × (es ≡ front' ++ e ∷ rest')
zip_splits [] rest e [] agrees = absurd agrees
zip_splits [] rest e (y ∷ ys) agrees = ([], ys, ap (λ z. z ∷ ys) agrees.0)
zip_splits (f ∷ fs) rest e [] agrees = absurd agrees
zip_splits (f ∷ fs) rest e (y ∷ ys) agrees =
    let r = zip_splits fs rest e ys agrees.1 in (y ∷ r.0, r.1, ap (λ zs. y ∷ zs) r.2)

nothing_splits : (front rest : List Entry) (e : Entry) → [] ≡ front ++ e ∷ rest → ⊥
nothing_splits [] rest e is = cc
nothing_splits (f ∷ fs) rest e is = cc

filter_here : (b : Bool) (x e : Entry) (xs ys front rest : List Entry)
    → ((front : List Entry) → ys ≡ front ++ e ∷ rest → (front' : List Entry) × (rest' : List Entry)
    × (xs ≡ front' ++ e ∷ rest'))
    → cond b (x ∷ ys) ys ≡ front ++ e ∷ rest
    → (front' : List Entry) × (rest' : List Entry) × (x ∷ xs ≡ front' ++ e ∷ rest')
filter_here true x e xs ys [] rest later is = ([], xs, let same : x ≡ e = cc in ap (λ z. z ∷ xs) same)
filter_here true x e xs ys (f ∷ fs) rest later is =
    let r = later fs (let tails : ys ≡ fs ++ e ∷ rest = cc in tails) in (x ∷ r.0, r.1, ap (λ zs. x ∷ zs) r.2)
filter_here false x e xs ys front rest later is = let r = later front is in (x ∷ r.0, r.1, ap (λ zs. x ∷ zs) r.2)

pub filter_splits : (p : Entry → Bool) (xs front rest : List Entry) (e : Entry) → filter p xs ≡ front ++ e ∷ rest
    → (front' : List Entry) × (rest' : List Entry) × (xs ≡ front' ++ e ∷ rest')
filter_splits p [] front rest e is = absurd (nothing_splits front rest e is)
filter_splits p (x ∷ xs) front rest e is =
    filter_here (p x) x e xs (filter p xs) front rest (λ front is. filter_splits p xs front rest e is) is

-- an entry of the log is in the history
pub stands_in : (passes guard_max : ℕ) (of_pass : ℕ → Bool) (front rest : List LogEntry) (e : Entry)
    → (book : IsLegalLog passes guard_max of_pass (front ++ Known e ∷ rest))
    → (front' : List Entry) × (rest' : List Entry) × (book.history ≡ front' ++ e ∷ rest')
stands_in passes guard_max of_pass front rest e book =
    let r = zip_splits front rest e (entries_of of_pass book.history) book.agrees in
    filter_splits (λ entry. of_pass (pass_of entry)) book.history r.0 r.1 e r.2

-- what a get returned is what was inserted
pub same_value : (passes guard_max : ℕ) (of_pass : ℕ → Bool) (log front rest front' rest' : List LogEntry)
    (p q key : ℕ) (given got : List ℕ) → IsLegalLog passes guard_max of_pass log
    → log ≡ front ++ Known (Insert p key given) ∷ rest → log ≡ front' ++ Known (Got q key got) ∷ rest' → got ≡ given
same_value passes guard_max of_pass log front rest front' rest' p q key given got book is is' =
    let P : List LogEntry → Type 0 = λ l. AllZip Agrees l (entries_of of_pass book.history) in
    let i = filter_splits (λ entry. of_pass (pass_of entry)) book.history _ _ (Insert p key given)
    (zip_splits front rest (Insert p key given) _ (subst P is book.agrees)).2 in
    let g = filter_splits (λ entry. of_pass (pass_of entry)) book.history _ _ (Got q key got)
    (zip_splits front' rest' (Got q key got) _ (subst P is' book.agrees)).2 in
    let given_is = value_of_insert passes guard_max i.0 i.1 p key given (rw (← i.2) book.legal) in
    let got_is = value_of_got passes guard_max g.0 g.1 q key got (rw (← g.2) book.legal) in
    let given_is' : value_of book.history key ≡ Some given = rw i.2 given_is in
    let got_is' : value_of book.history key ≡ Some got = rw g.2 got_is in
    let both : Some got ≡ Some given = sym got_is' ∙ given_is' in cc
