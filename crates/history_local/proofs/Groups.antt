-- A history is legal exactly if the entries of each group of keys are.
use Rattle.std.proofs.Common.{◌≡◌, ◌≢◌, ℕ, zero, suc, ◌<◌, ◌≤◌, Bool, true, false}
use Rattle.std.proofs.Common.{List, [], ◌∷◌, ◌++◌, refl, sym, ◌∙◌, ap}
use Rattle.std.proofs.Common.{subst, arith, cond, eq-eqb, eqb-true, inl, inr, ◌⊎◌}
use Rattle.std.specs.Prelude.{◌==◌}
use Rattle.std.proofs.lemmas.List.{append-nil}
use Rattle.std.proofs.lemmas.List.Elements.{filter-append}
use Rattle.std.proofs.lemmas.Bool.{false≢true}
use Rattle.sh_history.specs.declared.entry.Entry.{Entry}
use Rattle.sh_history.specs.declared.entry.Entry.TheVariants.{Insert, Got, Gone, Crowded, Removed, Released, Seen}
use Rattle.sh_history.specs.History.{Allowed, LegalAfter, Legal}
use Rattle.history_local.specs.Groups.{key_of, entries_on, entries_in, IsWithin}
use Rattle.history_local.specs.Laws.{LegalityIsLocal, GroupsAreLegal, OneHistoryOfAll}
use Rattle.history_local.proofs.Chosen.{value_on, removed_on, holds_on_on, holds_by_on, on_push}

module _ (passes guard_max : ℕ) where
  -- an entry is judged by the entries on its key
  judged : (c : ℕ → Bool) (xs : List Entry) (e : Entry) → c (key_of e) ≡ true
      → Allowed passes guard_max (entries_on c xs) e ≡ Allowed passes guard_max xs e
  judged c xs (Insert pass key value) chosen = rw (value_on c key chosen xs) refl
  judged c xs (Got pass key value) chosen = rw (value_on c key chosen xs, removed_on c key chosen xs) refl
  judged c xs (Gone pass key) chosen = rw (value_on c key chosen xs, removed_on c key chosen xs) refl
  judged c xs (Crowded pass key) chosen =
      rw (value_on c key chosen xs, removed_on c key chosen xs, holds_on_on c key chosen xs) refl
  judged c xs (Removed pass key) chosen = rw (value_on c key chosen xs, removed_on c key chosen xs) refl
  judged c xs (Seen pass key value) chosen = rw (value_on c key chosen xs, removed_on c key chosen xs) refl
  judged c xs (Released pass key) chosen = rw (holds_by_on c key chosen xs pass) refl

  -- the chosen entries of a legal list are legal
  chosen_step : (c : ℕ → Bool) (before xs : List Entry) (e : Entry) (b : Bool) → c (key_of e) ≡ b
      → Allowed passes guard_max before e
      → LegalAfter passes guard_max (entries_on c (before ++ e ∷ [])) (entries_on c xs)
      → LegalAfter passes guard_max (entries_on c before) (cond b (e ∷ entries_on c xs) (entries_on c xs))
  chosen_step c before xs e true is allowed rest = (
    subst (λ T. T) (sym (judged c before e is)) allowed,
    subst (λ l. LegalAfter passes guard_max l (entries_on c xs)) (on_push c before e true is) rest,
  )
  chosen_step c before xs e false is allowed rest =
      subst (λ l. LegalAfter passes guard_max l (entries_on c xs))
      (on_push c before e false is ∙ append-nil (entries_on c before)) rest

  pub chosen_are_legal : (c : ℕ → Bool) (before xs : List Entry) → LegalAfter passes guard_max before xs
      → LegalAfter passes guard_max (entries_on c before) (entries_on c xs)
  chosen_are_legal c before [] legal = tt
  chosen_are_legal c before (e ∷ xs) legal =
      chosen_step c before xs e (c (key_of e)) refl legal.0 (chosen_are_legal c (before ++ e ∷ []) xs legal.1)

  -- a list is legal if the entries of each group are
  head_allowed : (c : ℕ → Bool) (before xs : List Entry) (e : Entry) (b : Bool) → c (key_of e) ≡ b → b ≡ true
      → LegalAfter passes guard_max (entries_on c before) (cond b (e ∷ entries_on c xs) (entries_on c xs))
      → Allowed passes guard_max before e
  head_allowed c before xs e true is chosen legal = subst (λ T. T) (judged c before e is) legal.0
  head_allowed c before xs e false is chosen legal = absurd (false≢true chosen)

  tail_legal : (c : ℕ → Bool) (before xs : List Entry) (e : Entry) (b : Bool) → c (key_of e) ≡ b
      → LegalAfter passes guard_max (entries_on c before) (cond b (e ∷ entries_on c xs) (entries_on c xs))
      → LegalAfter passes guard_max (entries_on c (before ++ e ∷ [])) (entries_on c xs)
  tail_legal c before xs e true is legal =
      subst (λ l. LegalAfter passes guard_max l (entries_on c xs)) (sym (on_push c before e true is)) legal.1
  tail_legal c before xs e false is legal =
      subst (λ l. LegalAfter passes guard_max l (entries_on c xs))
      (sym (on_push c before e false is ∙ append-nil (entries_on c before))) legal

  pub all_are_legal : (group_of : ℕ → ℕ) (before xs : List Entry)
      → ((group : ℕ) → LegalAfter passes guard_max (entries_in group_of group before) (entries_in group_of group xs))
      → LegalAfter passes guard_max before xs
  all_are_legal group_of before [] legal = tt
  all_are_legal group_of before (e ∷ xs) legal =
      let own = group_of (key_of e) in (
        head_allowed (λ k. group_of k == own) before xs e _ refl (eq-eqb own own refl) (legal own),
        all_are_legal group_of (before ++ e ∷ []) xs
            (λ group. tail_legal (λ k. group_of k == group) before xs e _ refl (legal group)),
      )

pub groups_are_legal : GroupsAreLegal
groups_are_legal passes guard_max group_of history = (
  λ legal group. chosen_are_legal passes guard_max (λ k. group_of k == group) [] history legal,
  λ legal. all_are_legal passes guard_max group_of [] history legal,
)

pub legality_is_local : LegalityIsLocal
legality_is_local passes guard_max history = groups_are_legal passes guard_max (λ key. key) history

-- one history of all: that of the first group, then that of the second, and so on
abbrev one_after_another : (ℕ → List Entry) → ℕ → List Entry
one_after_another histories zero = []
one_after_another histories (suc n) = one_after_another histories n ++ histories n

module _ (group_of : ℕ → ℕ) where
  -- no entry of a group is of another
  none_step : (group other : ℕ) (e : Entry) (xs : List Entry) (b d : Bool) → group ≢ other
      → (group_of (key_of e) == group) ≡ b → (group_of (key_of e) == other) ≡ d
      → entries_in group_of other (entries_in group_of group xs) ≡ []
      → entries_in group_of other (cond b (e ∷ entries_in group_of group xs) (entries_in group_of group xs)) ≡ []
  none_step group other e xs true true differ is also rest =
      absurd (differ (sym (eqb-true (group_of (key_of e)) group is) ∙ eqb-true (group_of (key_of e)) other also))
  none_step group other e xs true false differ is also rest = rw (also, rest) refl
  none_step group other e xs false d differ is also rest = rest

  none_of_other : (group other : ℕ) → group ≢ other → (xs : List Entry)
      → entries_in group_of other (entries_in group_of group xs) ≡ []
  none_of_other group other differ [] = refl
  none_of_other group other differ (e ∷ xs) =
      none_step group other e xs (group_of (key_of e) == group) (group_of (key_of e) == other) differ refl refl
      (none_of_other group other differ xs)

-- what is of the group among the first n histories: its history if it is one of these, and nothing if not
abbrev Found : (ℕ → ℕ) → (ℕ → List Entry) → ℕ → ℕ → Type 0
Found group_of histories group n =
    ((group < n) × (entries_in group_of group (one_after_another histories n) ≡ histories group))
    ⊎ ((n ≤ group) × (entries_in group_of group (one_after_another histories n) ≡ []))

two_lists : (group_of : ℕ → ℕ) (histories : ℕ → List Entry) (group n : ℕ) (xs ys : List Entry)
    → entries_in group_of group (one_after_another histories n) ≡ xs → entries_in group_of group (histories n) ≡ ys
    → entries_in group_of group (one_after_another histories (suc n)) ≡ xs ++ ys
two_lists group_of histories group n xs ys is also =
    filter-append (λ e. group_of (key_of e) == group) (one_after_another histories n) (histories n)
    ∙ rw (is, also) refl

module _ (group_of : ℕ → ℕ) (histories : ℕ → List Entry) (count : ℕ)
    (within : (group : ℕ) → group < count → IsWithin group_of group (histories group)) where
  none_here : (group n : ℕ) → n < count → n ≢ group → entries_in group_of group (histories n) ≡ []
  none_here group n lt differ =
      ap (λ l. entries_in group_of group l) (sym (within n lt)) ∙ none_of_other group_of n group differ (histories n)

  found_earlier : (group n : ℕ) → n < count → group < n
      → entries_in group_of group (one_after_another histories n) ≡ histories group
      → Found group_of histories group (suc n)
  found_earlier group n lt before is =
      let whole = two_lists group_of histories group n (histories group) [] is (none_here group n lt (λ e. omega arith))
      in
      inl (omega arith, whole ∙ append-nil (histories group))

  found_here : (group n : ℕ) (b : Bool) → n < count → n ≤ group → (n == group) ≡ b
      → entries_in group_of group (one_after_another histories n) ≡ [] → Found group_of histories group (suc n)
  found_here group n true lt le test is =
      let same : n ≡ group = eqb-true n group test in
      let own : entries_in group_of group (histories n) ≡ histories group =
      subst (λ g. entries_in group_of g (histories n) ≡ histories g) same (within n lt) in
      inl (omega arith, two_lists group_of histories group n [] (histories group) is own)
  found_here group n false lt le test is =
      let differ : n ≢ group = λ e. false≢true (sym test ∙ eq-eqb n group e) in
      inr (omega arith, two_lists group_of histories group n [] [] is (none_here group n lt differ))

  found_next : (group n : ℕ) → n < count → Found group_of histories group n → Found group_of histories group (suc n)
  found_next group n lt (inl h) = found_earlier group n lt h.0 h.1
  found_next group n lt (inr h) = found_here group n (n == group) lt h.0 refl h.1

  found : (group n : ℕ) → n ≤ count → Found group_of histories group n
  found group zero le = inr (omega arith, refl)
  found group (suc n) le = found_next group n (omega arith) (found group n (omega arith))

is_found : (group_of : ℕ → ℕ) (histories : ℕ → List Entry) (group count : ℕ) → group < count
    → Found group_of histories group count
    → entries_in group_of group (one_after_another histories count) ≡ histories group
is_found group_of histories group count lt (inl h) = h.1
is_found group_of histories group count lt (inr h) = absurd (let le = h.0 in omega arith)

is_legal : (passes guard_max : ℕ) (group_of : ℕ → ℕ) (histories : ℕ → List Entry) (group count : ℕ)
    → ((group : ℕ) → group < count → Legal passes guard_max (histories group)) → Found group_of histories group count
    → Legal passes guard_max (entries_in group_of group (one_after_another histories count))
is_legal passes guard_max group_of histories group count legal (inl h) = rw h.1 (legal group h.0)
is_legal passes guard_max group_of histories group count legal (inr h) = rw h.1 tt

pub one_history_of_all : OneHistoryOfAll
one_history_of_all passes guard_max group_of count histories h =
    let all = one_after_another histories count in
    let found_all = λ (group : ℕ). found group_of histories count (λ g lt. (h g lt).0) group count (omega arith) in (
      all,
      (groups_are_legal passes guard_max group_of all).1
          (λ group. is_legal passes guard_max group_of histories group count (λ g lt. (h g lt).1) (found_all group)),
      λ group lt. is_found group_of histories group count lt (found_all group),
    )
