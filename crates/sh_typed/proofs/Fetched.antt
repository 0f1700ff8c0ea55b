-- What a get and its read leave, over any store.
use Rattle.std.proofs.Common.{◌≡◌, ℕ, ◌<◌, Bool, true, false, cond, List, [], ◌∷◌, ◌++◌, refl, ◌∙◌, ap, subst, arith}
use Rattle.std.proofs.Common.{map, Ok, Err, Option, Some, None, eq-eqb}
use Rattle.std.specs.Prelude.{◌==◌, ◌&&◌, count_by, IfNone, IfSome}
use Rattle.std.proofs.lemmas.List.{map-append}
use Rattle.sh_value.specs.declared.hold.Hold.{Hold}
use Rattle.sh_value.specs.declared.refusal.Refusal.{Refusal}
use Rattle.sh_value.specs.declared.refusal.Refusal.TheVariants.{NotHeld}
use Rattle.sh_history.specs.declared.entry.Entry.TheVariants.{Insert, Got, Gone, Crowded, Removed, Released, Seen}
use Rattle.sh_history.specs.declared.log.LogEntry.{LogEntry}
use Rattle.sh_history.specs.declared.log.LogEntry.TheVariants.{Known, Unread}
use Rattle.sh_history.specs.Log.{IsGotBy, filled, HasValue, AllHaveValue, logged_holds_by, is_logged_got_by}
use Rattle.sh_history.specs.Log.{is_logged_release_by}
use Rattle.sh_history.proofs.LogLaws.{count_by-cons}
use Rattle.sh_plain.specs.Store.{Setting, GetLeaves, ReadLeaves}
use Rattle.sh_typed.specs.Typed.{FetchLeaves, GotValue}

-- a read of a held key is not refused
pub read_not_refused : (s : Setting) (key : ℕ) (book after : List LogEntry) (refusal : Refusal)
    → ReadLeaves s key book (Err refusal) after → 0 < logged_holds_by book s.pass key → ⊥
read_not_refused s key book after NotHeld leaves held = let none = leaves.0 in omega arith
read_not_refused s key book after _ leaves held = leaves

fill_got : (b : Bool) (pass key p k : ℕ) (v : List ℕ) → is_logged_got_by pass key
    (cond b (Known (Got p k v)) (Unread p k)) ≡ ((p == pass) && (k == key))
fill_got true pass key p k v = refl
fill_got false pass key p k v = refl

fill_release : (b : Bool) (pass key p k : ℕ) (v : List ℕ) → is_logged_release_by pass key
    (cond b (Known (Got p k v)) (Unread p k)) ≡ false
fill_release true pass key p k v = refl
fill_release false pass key p k v = refl

got_same : (pass key k : ℕ) (v : List ℕ) (e : LogEntry) → is_logged_got_by pass key (filled k v e)
    ≡ is_logged_got_by pass key e
got_same pass key k v (Known e) = refl
got_same pass key k v (Unread p q) = fill_got (q == k) pass key p q v

release_same : (pass key k : ℕ) (v : List ℕ) (e : LogEntry) → is_logged_release_by pass key (filled k v e)
    ≡ is_logged_release_by pass key e
release_same pass key k v (Known e) = refl
release_same pass key k v (Unread p q) = fill_release (q == k) pass key p q v

-- a count that looks the same at each entry
count_same : (p : LogEntry → Bool) (f : LogEntry → LogEntry) → ((e : LogEntry) → p (f e) ≡ p e) → (xs : List LogEntry)
    → count_by p (map f xs) ≡ count_by p xs
count_same p f same [] = refl
count_same p f same (x ∷ xs) = rw (
  count_by-cons p (f x) (map f xs),
  count_by-cons p x xs,
  same x,
  count_same p f same
      xs,
) refl

-- a read changes no hold
pub filled_holds : (k : ℕ) (v : List ℕ) (book : List LogEntry) (pass key : ℕ)
    → logged_holds_by (map (filled k v) book) pass key ≡ logged_holds_by book pass key
filled_holds k v book pass key =
    rw (
      count_same (is_logged_got_by pass key) (filled k v) (got_same pass key k v) book,
      count_same (is_logged_release_by pass key) (filled k v) (release_same pass key k v) book,
    ) refl

last_has : (key : ℕ) (value : List ℕ) (xs : List LogEntry) (e : LogEntry) → AllHaveValue key value (xs ++ e ∷ [])
    → HasValue key value e
last_has key value [] e h = h.0
last_has key value (x ∷ xs) e h = last_has key value xs e h.1

-- the get once it is read
read_got : (pass key : ℕ) (value : List ℕ) (e : LogEntry) → IsGotBy pass key e → HasValue key value (filled key value e)
    → filled key value e ≡ Known (Got pass key value)
read_got pass key value (Known (Got p k v)) is has = rw (is.0, is.1, has is.1) refl
read_got pass key value (Known (Insert _ _ _)) is has = absurd is
read_got pass key value (Known (Gone _ _)) is has = absurd is
read_got pass key value (Known (Crowded _ _)) is has = absurd is
read_got pass key value (Known (Removed _ _)) is has = absurd is
read_got pass key value (Known (Released _ _)) is has = absurd is
read_got pass key value (Known (Seen _ _ _)) is has = absurd is
read_got pass key value (Unread p k) is has = rw (is.0, is.1, eq-eqb key key refl) refl

-- a get that is read
pub fetched : (s s' : Setting) (key k : ℕ) (book mid after : List LogEntry) (value : List ℕ) → s' ≡ s → k ≡ key
    → ((got : LogEntry) × IsGotBy s.pass key got × (mid ≡ book ++ got ∷ [])) → 0 < logged_holds_by mid s.pass key
    → ReadLeaves s' k mid (Ok value) after
    → GotValue s key value book after
fetched s s' key k book mid after value same same_key (got, is, mid_is) held (_, after_is, has) =
    let after_is' : after ≡ map (filled key value) book ++ filled key value got ∷ [] =
    after_is ∙ rw (same_key, mid_is) (map-append (filled key value) book (got ∷ [])) in
    let P : List LogEntry → Type 0 = λ l. AllHaveValue key value l in
    let Q : ℕ → Type 0 = λ n. AllHaveValue n value after in
    let last = last_has key value (map (filled key value) book) (filled key value got)
    (subst P after_is' (subst Q same_key has)) in
    let filled_is = read_got s.pass key value got is last in
    record {
      got = after_is' ∙ ap (λ e. map (filled key value) book ++ e ∷ []) filled_is;
      held = rw (after_is, filled_holds k value mid s.pass key) held;
    }

-- ---- the same of a store that may have no book

-- what was got can be read: by the book, or by what holds without one
pub got_is_read : (o p : Option Setting) (L : Type 0) (key : ℕ) (hold : Hold) (book mid after : List LogEntry)
    (why : Refusal)
    → p ≡ o → IfSome o (λ s. GetLeaves s key book (Ok hold) mid)
    → IfSome p (λ s. ReadLeaves s hold.key mid (Err why) after) → IfNone o L → (L → ⊥) → ⊥
got_is_read None p L key hold book mid after why same got read law without = without law
got_is_read (Some s) p L key hold book mid after why same got read law without =
    let here = subst (λ (q : Option Setting). IfSome q (λ t. ReadLeaves t hold.key mid (Err why) after)) same read in
    read_not_refused s hold.key mid after why here (rw got.0 got.2)

pub fetched_there : (o p : Option Setting) (key : ℕ) (hold : Hold) (book mid after : List LogEntry) (value : List ℕ)
    → p ≡ o → IfSome o (λ s. GetLeaves s key book (Ok hold) mid)
    → IfSome p (λ s. ReadLeaves s hold.key mid (Ok value) after)
    → IfSome o (λ s. FetchLeaves s key book (Ok (hold, value)) after)
fetched_there None p key hold book mid after value same got read = tt
fetched_there (Some s) p key hold book mid after value same got read =
    let here = subst (λ (q : Option Setting). IfSome q (λ t. ReadLeaves t hold.key mid (Ok value) after)) same read in
    (got.0, fetched s s key hold.key book mid after value refl got.0 got.1 got.2 here)
