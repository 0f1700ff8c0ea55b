-- The holds of a pass by its log are those by the history.
use Rattle.std.proofs.Common.{◌≡◌, ℕ, ◌-◌, ◌==◌, Bool, true, false, cond, List, [], ◌∷◌, refl, ap, ◌∙◌, sym}
use Rattle.std.proofs.Common.{arith}
use Rattle.std.specs.Prelude.{count_by, filter}
use Rattle.std.specs.List.{AllZip}
use Rattle.std.proofs.lemmas.Bool.{and_parts, false_from_ne_true, true≢false}
use Rattle.sh_history.specs.declared.entry.Entry.{Entry}
use Rattle.sh_history.specs.declared.entry.Entry.TheVariants.{Insert, Got, Gone, Crowded, Removed, Released, Seen}
use Rattle.sh_history.specs.declared.log.LogEntry.{LogEntry}
use Rattle.sh_history.specs.declared.log.LogEntry.TheVariants.{Known, Unread}
use Rattle.sh_history.specs.History.{is_got_by, is_release_by, is_got_from, is_release_from, hold_count, holds_by}
use Rattle.sh_history.specs.Log.{Agrees, pass_of, entries_of, is_logged_got_by, is_logged_release_by, logged_holds_by}
use Rattle.sh_history.specs.Log.{is_logged_got_from, is_logged_release_from, logged_hold_count}
use Rattle.sh_history.proofs.LogLaws.{count_by-cons}

-- ---- what a log says of its entries

same_got : (a k : ℕ) (x : LogEntry) (e : Entry) → Agrees x e → is_logged_got_by a k x ≡ is_got_by a k e
same_got a k (Known f) e h = ap (is_got_by a k) (sym h)
same_got a k (Unread p j) e h = sym (ap (is_got_by a k) h.1)

same_release : (a k : ℕ) (x : LogEntry) (e : Entry) → Agrees x e → is_logged_release_by a k x ≡ is_release_by a k e
same_release a k (Known f) e h = ap (is_release_by a k) (sym h)
same_release a k (Unread p j) e h = sym (ap (is_release_by a k) h.1)

same_got_from : (a : ℕ) (x : LogEntry) (e : Entry) → Agrees x e → is_logged_got_from a x ≡ is_got_from a e
same_got_from a (Known f) e h = ap (is_got_from a) (sym h)
same_got_from a (Unread p j) e h = sym (ap (is_got_from a) h.1)

same_release_from : (a : ℕ) (x : LogEntry) (e : Entry) → Agrees x e → is_logged_release_from a x ≡ is_release_from a e
same_release_from a (Known f) e h = ap (is_release_from a) (sym h)
same_release_from a (Unread p j) e h = sym (ap (is_release_from a) h.1)

agreeing_count : (f : LogEntry → Bool) (g : Entry → Bool) → ((x : LogEntry) (e : Entry) → Agrees x e → f x ≡ g e)
    → (log : List LogEntry) (es : List Entry) → AllZip Agrees log es → count_by f log ≡ count_by g es
agreeing_count f g same [] [] h = refl
agreeing_count f g same [] (e ∷ es) h = absurd h
agreeing_count f g same (x ∷ log) [] h = absurd h
agreeing_count f g same (x ∷ log) (e ∷ es) h =
    rw (count_by-cons f x log, count_by-cons g e es, same x e h.0, agreeing_count f g same log es h.1) refl

-- ---- entries of a pass among those of all

pub got_own : (a k : ℕ) (e : Entry) → is_got_by a k e ≡ true → (pass_of e == a) ≡ true
got_own a k (Got p j v) e = (and_parts (p == a) (j == k) e).0
got_own a k (Insert p j v) e = cc
got_own a k (Gone p j) e = cc
got_own a k (Crowded p j) e = cc
got_own a k (Removed p j) e = cc
got_own a k (Released p j) e = cc
got_own a k (Seen p j v) e = cc

release_own : (a k : ℕ) (e : Entry) → is_release_by a k e ≡ true → (pass_of e == a) ≡ true
release_own a k (Released p j) e = (and_parts (p == a) (j == k) e).0
release_own a k (Insert p j v) e = cc
release_own a k (Got p j v) e = cc
release_own a k (Gone p j) e = cc
release_own a k (Crowded p j) e = cc
release_own a k (Removed p j) e = cc
release_own a k (Seen p j v) e = cc

got_from_own : (a : ℕ) (e : Entry) → is_got_from a e ≡ true → (pass_of e == a) ≡ true
got_from_own a (Got p j v) e = e
got_from_own a (Insert p j v) e = cc
got_from_own a (Gone p j) e = cc
got_from_own a (Crowded p j) e = cc
got_from_own a (Removed p j) e = cc
got_from_own a (Released p j) e = cc
got_from_own a (Seen p j v) e = cc

release_from_own : (a : ℕ) (e : Entry) → is_release_from a e ≡ true → (pass_of e == a) ≡ true
release_from_own a (Released p j) e = e
release_from_own a (Insert p j v) e = cc
release_from_own a (Got p j v) e = cc
release_from_own a (Gone p j) e = cc
release_from_own a (Crowded p j) e = cc
release_from_own a (Removed p j) e = cc
release_from_own a (Seen p j v) e = cc

pub own_count : (g h : Entry → Bool) → ((e : Entry) → g e ≡ true → h e ≡ true) → (es : List Entry)
    → count_by g (filter h es) ≡ count_by g es
own_count g h only [] = refl
own_count g h only (e ∷ es) = go (own_count g h only es) (h e) refl
  where
    go : count_by g (filter h es) ≡ count_by g es → (b : Bool) → h e ≡ b
        → count_by g (cond b (e ∷ filter h es) (filter h es)) ≡ count_by g (e ∷ es)
    go rest true is = rw (count_by-cons g e (filter h es), count_by-cons g e es, rest) refl
    go rest false is =
        let no : g e ≡ false = false_from_ne_true (g e) (λ t. true≢false (sym (only e t) ∙ is)) in
        rw (count_by-cons g e es, no, rest) (omega arith)

-- a count over the log of pass a
told_count : (a : ℕ) (f : LogEntry → Bool) (g : Entry → Bool) → ((x : LogEntry) (e : Entry) → Agrees x e → f x ≡ g e)
    → ((e : Entry) → g e ≡ true → (pass_of e == a) ≡ true) → (log : List LogEntry) (es : List Entry)
    → AllZip Agrees log (entries_of (λ p. p == a) es) → count_by f log ≡ count_by g es
told_count a f g same own log es agrees = agreeing_count f g same log (entries_of (λ p. p == a) es) agrees
    ∙ own_count g (λ e. pass_of e == a) own es

-- ---- the holds

module _ (a : ℕ) (log : List LogEntry) (es : List Entry) (agrees : AllZip Agrees log (entries_of (λ p. p == a) es))
  where
    pub holds_by_log : (k : ℕ) → logged_holds_by log a k ≡ holds_by es a k
    holds_by_log k =
        let got = told_count a (is_logged_got_by a k) (is_got_by a k) (same_got a k) (got_own a k) log es agrees in
        let gone = told_count a (is_logged_release_by a k) (is_release_by a k) (same_release a k) (release_own a k) log
        es agrees in (λ i. got i - gone i)

    pub hold_count_by_log : logged_hold_count log a ≡ hold_count es a
    hold_count_by_log =
        let got = told_count a (is_logged_got_from a) (is_got_from a) (same_got_from a)
        (got_from_own a) log es agrees in
        let gone = told_count a (is_logged_release_from a) (is_release_from a) (same_release_from a)
        (release_from_own a) log es agrees in (λ i. got i - gone i)
