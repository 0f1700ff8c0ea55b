-- Holds and values in the book of a plain store.
use Rattle.std.proofs.Common.{◌≡◌, ℕ, ◌+◌, ◌<◌, true, List, [], ◌∷◌, ◌++◌, None, refl, subst, arith, eq-eqb, map}
use Rattle.std.specs.Prelude.{count_by}
use Rattle.sh_key.specs.Layout.{Layout}
use Rattle.sh_history.specs.declared.entry.Entry.{Entry}
use Rattle.sh_history.specs.declared.entry.Entry.TheVariants.{Got}
use Rattle.sh_history.specs.declared.log.LogEntry.TheVariants.{Known}
use Rattle.sh_history.specs.History.{Legal, value_of, holds_by, is_got_by, is_release_by, got_count_by}
use Rattle.sh_history.specs.Log.{logged_holds_by}
use Rattle.sh_history.proofs.LogLaws.{known_holds, known_stands, releases_le, issued_when_got, count_by-push}
use Rattle.sh_plain.specs.declared.index.Issued.{Issued}
use Rattle.sh_plain.specs.declared.index.Held.{Held}
use Rattle.sh_plain.specs.Plain.{Plain, IsSound, plain_book, plain_setting}
use Rattle.sh_plain.specs.Store.{IsBook}

-- the book of a store whose entries are a legal history is in a legal history, which is the book itself
pub legal_stands : (layout : Layout) (s : Plain) → Legal s.passes layout.guard_max s.entries
    → IsBook (plain_setting layout s) (plain_book s)
legal_stands layout s legal = known_stands s.passes layout.guard_max s.entries legal

-- so is the book of a sound store
pub book_stands : (layout : Layout) (issued : List Issued) (holds : List Held) (entries : List Entry) (pass passes : ℕ)
    (s : Plain)
    → IsSound layout entries pass passes issued holds
    → record { entries = entries; pass = pass; passes = passes } ≡ s → IsBook (plain_setting layout s) (plain_book s)
book_stands layout issued holds entries pass passes s sound is =
    let P : Plain → Type 0 = λ s. IsBook (plain_setting layout s) (plain_book s) in
    subst P is (known_stands passes layout.guard_max entries sound.legal)

module _ (passes guard_max : ℕ) (entries : List Entry) (pass key : ℕ) (legal : Legal passes guard_max entries) where
  -- a key that is held has a value
  pub held_has_value : 0 < holds_by entries pass key → value_of entries key ≡ None → ⊥
  held_has_value h none =
      let some = issued_when_got passes guard_max pass key [] entries legal (omega (arith, h)) in
      let is = some.1 in cc

  -- a pass that got a key holds it
  pub got_is_held : (value : List ℕ) → 0 < logged_holds_by (map Known (entries ++ Got pass key value ∷ [])) pass key
  got_is_held value =
      let yes : is_got_by pass key (Got pass key value) ≡ true = rw (eq-eqb pass pass refl, eq-eqb key key refl) refl in
      let got : count_by (is_got_by pass key) (entries ++ Got pass key value ∷ []) ≡ got_count_by entries pass key + 1 =
      rw (count_by-push (is_got_by pass key) entries (Got pass key value), yes) refl in
      let released = count_by-push (is_release_by pass key) entries (Got pass key value) in
      let le = releases_le passes guard_max pass key entries legal in
      rw (known_holds (entries ++ Got pass key value ∷ []) pass key, got, released) (omega arith)
