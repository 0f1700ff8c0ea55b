-- Keys renamed one to one.
use Rattle.std.proofs.Common.{◌≡◌, ℕ, Bool, true, false, List, [], ◌∷◌, ◌++◌, refl, sym, ◌∙◌, ap, subst, map}
use Rattle.std.proofs.Common.{eq-eqb, eqb-true}
use Rattle.std.specs.Prelude.{◌==◌, ◌&&◌, count_by}
use Rattle.std.specs.List.{list_any}
use Rattle.std.proofs.lemmas.Bool.{false≢true}
use Rattle.sh_history.specs.declared.entry.Entry.{Entry}
use Rattle.sh_history.specs.declared.entry.Entry.TheVariants.{Insert, Got, Gone, Crowded, Removed, Released, Seen}
use Rattle.sh_history.specs.History.{value_of, is_removed, is_removal_of, is_got_of, is_release_of, is_got_by}
use Rattle.sh_history.specs.History.{is_release_by, holds_on, holds_by, Allowed, LegalAfter}
use Rattle.sh_history.proofs.LogLaws.{count_by-cons}
use Rattle.history_local.specs.Groups.{renamed, IsOneToOne}
use Rattle.history_local.specs.Laws.{KeysMayBeRenamed}

module _ (name : ℕ → ℕ) (one : IsOneToOne name) where
  eqb_cases : (a b : ℕ) (x y : Bool) → (name a == name b) ≡ x → (a == b) ≡ y → x ≡ y
  eqb_cases a b true true m n = refl
  eqb_cases a b false false m n = refl
  eqb_cases a b true false m n =
      absurd (false≢true (sym n ∙ eq-eqb a b (one a b (eqb-true (name a) (name b) m))))
  eqb_cases a b false true m n =
      absurd (false≢true (sym m ∙ eq-eqb (name a) (name b) (ap name (eqb-true a b n))))

  same_test : (a b : ℕ) → (name a == name b) ≡ (a == b)
  same_test a b = eqb_cases a b _ _ refl refl

  count_renamed : (p q : Entry → Bool) → ((x : Entry) → p (renamed name x) ≡ q x) → (xs : List Entry)
      → count_by p (map (renamed name) xs) ≡ count_by q xs
  count_renamed p q same [] = refl
  count_renamed p q same (x ∷ xs) =
      count_by-cons p (renamed name x) (map (renamed name) xs)
      ∙ rw (same x, count_renamed p q same xs) refl ∙ sym (count_by-cons q x xs)

  any_renamed : (p q : Entry → Bool) → ((x : Entry) → p (renamed name x) ≡ q x) → (xs : List Entry)
      → list_any p (map (renamed name) xs) ≡ list_any q xs
  any_renamed p q same [] = refl
  any_renamed p q same (x ∷ xs) = rw (same x, any_renamed p q same xs) refl

  module _ (key : ℕ) where
    removal_same : (x : Entry) → is_removal_of (name key) (renamed name x) ≡ is_removal_of key x
    removal_same (Removed pass k) = same_test k key
    removal_same _ = refl

    got_same : (x : Entry) → is_got_of (name key) (renamed name x) ≡ is_got_of key x
    got_same (Got pass k value) = same_test k key
    got_same _ = refl

    release_same : (x : Entry) → is_release_of (name key) (renamed name x) ≡ is_release_of key x
    release_same (Released pass k) = same_test k key
    release_same _ = refl

    got_by_same : (pass : ℕ) (x : Entry) → is_got_by pass (name key) (renamed name x) ≡ is_got_by pass key x
    got_by_same pass (Got p k value) = ap (λ b. (p == pass) && b) (same_test k key)
    got_by_same pass _ = refl

    release_by_same : (pass : ℕ) (x : Entry) → is_release_by pass (name key) (renamed name x)
        ≡ is_release_by pass key x
    release_by_same pass (Released p k) = ap (λ b. (p == pass) && b) (same_test k key)
    release_by_same pass _ = refl

    value_renamed : (xs : List Entry) → value_of (map (renamed name) xs) (name key) ≡ value_of xs key
    value_renamed [] = refl
    value_renamed (Insert p k v ∷ xs) = rw (same_test k key, value_renamed xs) refl
    value_renamed (_ ∷ xs) = value_renamed xs

    removed_renamed : (xs : List Entry) → is_removed (map (renamed name) xs) (name key) ≡ is_removed xs key
    removed_renamed xs = any_renamed (is_removal_of (name key)) (is_removal_of key) removal_same xs

    holds_on_renamed : (xs : List Entry) → holds_on (map (renamed name) xs) (name key) ≡ holds_on xs key
    holds_on_renamed xs =
        rw (
          count_renamed (is_got_of (name key)) (is_got_of key) got_same xs,
          count_renamed (is_release_of (name key)) (is_release_of key) release_same xs,
        ) refl

    holds_by_renamed : (pass : ℕ) (xs : List Entry) → holds_by (map (renamed name) xs) pass (name key)
        ≡ holds_by xs pass key
    holds_by_renamed pass xs =
        rw (
          count_renamed (is_got_by pass (name key)) (is_got_by pass key) (got_by_same pass) xs,
          count_renamed (is_release_by pass (name key)) (is_release_by pass key) (release_by_same pass) xs,
        ) refl

  module _ (passes guard_max : ℕ) where
    judged_renamed : (xs : List Entry) (e : Entry)
        → Allowed passes guard_max (map (renamed name) xs) (renamed name e) ≡ Allowed passes guard_max xs e
    judged_renamed xs (Insert pass key value) = rw (value_renamed key xs) refl
    judged_renamed xs (Got pass key value) = rw (value_renamed key xs, removed_renamed key xs) refl
    judged_renamed xs (Gone pass key) = rw (value_renamed key xs, removed_renamed key xs) refl
    judged_renamed xs (Crowded pass key) =
        rw (value_renamed key xs, removed_renamed key xs, holds_on_renamed key xs) refl
    judged_renamed xs (Removed pass key) = rw (value_renamed key xs, removed_renamed key xs) refl
    judged_renamed xs (Seen pass key value) = rw (value_renamed key xs, removed_renamed key xs) refl
    judged_renamed xs (Released pass key) = rw (holds_by_renamed key pass xs) refl

    push_renamed : (xs : List Entry) (e : Entry) → map (renamed name) (xs ++ e ∷ [])
        ≡ map (renamed name) xs ++ renamed name e ∷ []
    push_renamed [] e = refl
    push_renamed (x ∷ xs) e = ap (λ l. renamed name x ∷ l) (push_renamed xs e)

    renamed_is_legal : (before xs : List Entry)
        → LegalAfter passes guard_max (map (renamed name) before) (map (renamed name) xs)
        ≡ LegalAfter passes guard_max before xs
    renamed_is_legal before [] = refl
    renamed_is_legal before (e ∷ xs) =
        let rest = ap (λ l. LegalAfter passes guard_max l (map (renamed name) xs)) (sym (push_renamed before e))
        ∙ renamed_is_legal (before ++ e ∷ []) xs in
        ap (λ T. T × LegalAfter passes guard_max (map (renamed name) before ++ renamed name e ∷ [])
        (map (renamed name) xs)) (judged_renamed before e)
        ∙ ap (λ T. Allowed passes guard_max before e × T) rest

pub keys_may_be_renamed : KeysMayBeRenamed
keys_may_be_renamed passes guard_max name one history =
    let e = renamed_is_legal name one passes guard_max [] history in
    (λ legal. subst (λ T. T) (sym e) legal, λ legal. subst (λ T. T) e legal)
