-- Examples against the laws without a premise, and against an order of each caller's entries.
use Rattle.std.proofs.Common.{◌≡◌, ℕ, Bool, true, false, List, [], ◌∷◌, ◌++◌, refl, sym, ◌∙◌, ap, subst, cond}
use Rattle.std.proofs.Common.{eqb-true, eq-eqb, inl, inr, ◌⊎◌, Some, None}
use Rattle.std.specs.Prelude.{◌==◌, ◌||◌, filter}
use Rattle.std.specs.List.{list_any}
use Rattle.std.proofs.lemmas.List.Folds.{list_any-append}
use Rattle.std.proofs.lemmas.Bool.{or_right, false≢true}
use Rattle.sh_history.specs.declared.entry.Entry.{Entry}
use Rattle.sh_history.specs.declared.entry.Entry.TheVariants.{Insert, Got, Removed}
use Rattle.sh_history.specs.History.{is_removed, is_removal_of, is_got_of, LegalAfter}
use Rattle.sh_history.specs.Log.{pass_of}
use Rattle.history_local.specs.Groups.{entries_on_key, IsInterleaving}
use Rattle.history_local.specs.Refuted.{AnyInterleavingIsLegal, KeysMayBeJoined, entries_by, CallersOrderIsNotLocal}

-- two callers were issued one key
pub an_interleaving_is_not_legal : ¬ AnyInterleavingIsLegal
an_interleaving_is_not_legal law =
    let both =
    law 1 1 (Insert 0 0 [] ∷ []) (Insert 0 0 [] ∷ []) (Insert 0 0 [] ∷ Insert 0 0 [] ∷ [])
    (inl ([], refl, inr ([], refl, (refl, refl)))) in
    let legal = both.1 ((refl, tt), (refl, tt)) in
    let again : Some [] ≡ None = legal.1.0 in
    cc

-- two keys get one name
pub joined_keys_are_not_legal : ¬ KeysMayBeJoined
joined_keys_are_not_legal law =
    let both = law 1 1 (λ key. 0) (Insert 0 0 [] ∷ Insert 0 1 [] ∷ []) in
    let legal = both.0 (refl, (refl, tt)) in
    let again : Some [] ≡ None = legal.1.0 in
    cc

-- Pass 0 removes key 0 and then gets key 1, and pass 1 removes key 1 and then gets key 0. Pass 2 inserts both.
abbrev on_key_0 : List Entry
on_key_0 = Insert 2 0 [] ∷ Got 1 0 [] ∷ Removed 0 0 ∷ []

abbrev on_key_1 : List Entry
on_key_1 = Insert 2 1 [] ∷ Got 0 1 [] ∷ Removed 1 1 ∷ []

abbrev all_calls : List Entry
all_calls = Insert 2 0 [] ∷ Insert 2 1 [] ∷ Removed 0 0 ∷ Got 0 1 [] ∷ Removed 1 1 ∷ Got 1 0 [] ∷ []

apart_at : (key : ℕ) (b : Bool) → (0 == key) ≡ b
    → (entries_on_key key on_key_0 ≡ []) ⊎ (entries_on_key key on_key_1 ≡ [])
apart_at key true is = inr (subst (λ k. entries_on_key k on_key_1 ≡ []) (eqb-true 0 key is) refl)
apart_at key false is = inl (rw is refl)

-- all calls, by the pass that made them
abbrev InOrder : ℕ → Type 0
InOrder pass = IsInterleaving (entries_by pass on_key_0) (entries_by pass on_key_1) (entries_by pass all_calls)

in_order_at : (pass : ℕ) (b d f : Bool) → (0 == pass) ≡ b → (1 == pass) ≡ d → (2 == pass) ≡ f → InOrder pass
in_order_at pass true d f is_0 is_1 is_2 =
    subst (λ p. InOrder p) (eqb-true 0 pass is_0) (inl ([], refl, inr ([], refl, (refl, refl))))
in_order_at pass false true f is_0 is_1 is_2 =
    subst (λ p. InOrder p) (eqb-true 1 pass is_1) (inr ([], refl, inl ([], refl, (refl, refl))))
in_order_at pass false false true is_0 is_1 is_2 =
    subst (λ p. InOrder p) (eqb-true 2 pass is_2) (inl ([], refl, inr ([], refl, (refl, refl))))
in_order_at pass false false false is_0 is_1 is_2 = rw (is_0, is_1, is_2) (refl, refl)

or_mapped : (b x y : Bool) → (x ≡ true → y ≡ true) → (b || x) ≡ true → (b || y) ≡ true
or_mapped true x y later is = refl
or_mapped false x y later is = later is

-- what some chosen item passes, some item passes
module _ {X : Type 0} (p c : X → Bool) where
  any_chosen_step : (x : X) (xs : List X) (d : Bool) → (list_any p (filter c xs) ≡ true → list_any p xs ≡ true)
      → list_any p (cond d (x ∷ filter c xs) (filter c xs)) ≡ true → (p x || list_any p xs) ≡ true
  any_chosen_step x xs true later is = or_mapped (p x) (list_any p (filter c xs)) (list_any p xs) later is
  any_chosen_step x xs false later is = rw (later is) (or_right (p x) true refl)

  any_of_chosen : (xs : List X) → list_any p (filter c xs) ≡ true → list_any p xs ≡ true
  any_of_chosen [] is = is
  any_of_chosen (x ∷ xs) is = any_chosen_step x xs (c x) (any_of_chosen xs) is

stays_removed : (before : List Entry) (e : Entry) (key : ℕ) → is_removed before key ≡ true
    → is_removed (before ++ e ∷ []) key ≡ true
stays_removed before e key is = list_any-append (is_removal_of key) before (e ∷ []) ∙ rw is refl

is_removed_now : (before : List Entry) (pass key : ℕ) → is_removed (before ++ Removed pass key ∷ []) key ≡ true
is_removed_now before pass key =
    list_any-append (is_removal_of key) before (Removed pass key ∷ [])
    ∙ rw (eq-eqb key key refl) (or_right (is_removed before key) true refl)

other_key : (before : List Entry) (k key : ℕ) (b : Bool) → (k == key) ≡ b → is_removed before key ≡ true
    → is_removed before k ≡ false → b ≡ false
other_key before k key true test removed present =
    absurd (false≢true (sym present ∙ ap (λ k. is_removed before k) (eqb-true k key test) ∙ removed))
other_key before k key false test removed present = refl

module _ (passes guard_max : ℕ) where
  -- after the removal of a key no get returns its value
  no_get_later : (before xs : List Entry) (key : ℕ) → is_removed before key ≡ true
      → LegalAfter passes guard_max before xs → list_any (is_got_of key) xs ≡ false
  no_get_later before [] key removed legal = refl
  no_get_later before (Got pass k value ∷ xs) key removed legal =
      rw (
        other_key before k key (k == key) refl removed legal.0.1,
        no_get_later (before ++ Got pass k value ∷ []) xs key (stays_removed before (Got pass k value) key removed)
            legal.1,
      ) refl
  no_get_later before (e ∷ xs) key removed legal =
      no_get_later (before ++ e ∷ []) xs key (stays_removed before e key removed) legal.1

  -- a pass removed a key that another is yet to get
  too_late : (before xs : List Entry) (pass other key : ℕ) (e : Entry) → e ≡ Removed pass key
      → LegalAfter passes guard_max (before ++ e ∷ []) xs → list_any (is_got_of key) (entries_by other xs) ≡ true → ⊥
  too_late before xs pass other key e is legal got =
      let removed : is_removed (before ++ e ∷ []) key ≡ true = rw is (is_removed_now before pass key) in
      let none = no_get_later (before ++ e ∷ []) xs key removed legal in
      absurd (false≢true (sym none ∙ any_of_chosen (is_got_of key) (λ x. pass_of x == other) xs got))

  -- neither pass comes first
  no_first_step : (before xs : List Entry) (e : Entry) (b d : Bool)
      → LegalAfter passes guard_max (before ++ e ∷ []) xs
      → (entries_by 0 xs ≡ entries_by 0 all_calls → entries_by 1 xs ≡ entries_by 1 all_calls → ⊥)
      → cond b (e ∷ entries_by 0 xs) (entries_by 0 xs) ≡ entries_by 0 all_calls
      → cond d (e ∷ entries_by 1 xs) (entries_by 1 xs) ≡ entries_by 1 all_calls → ⊥
  no_first_step before xs e true true legal later first second =
      let all : e ∷ entries_by 0 xs ≡ Removed 0 0 ∷ Got 0 1 [] ∷ [] = first in
      let others : e ∷ entries_by 1 xs ≡ Removed 1 1 ∷ Got 1 0 [] ∷ [] = second in
      let one : e ≡ Removed 0 0 = cc in
      let other : e ≡ Removed 1 1 = cc in
      let same : pass_of (Removed 0 0) ≡ pass_of (Removed 1 1) = ap (λ x. pass_of x) (sym one ∙ other) in
      let no : 0 ≡ 1 = same in
      cc
  no_first_step before xs e true false legal later first second =
      let all : e ∷ entries_by 0 xs ≡ Removed 0 0 ∷ Got 0 1 [] ∷ [] = first in
      let one : e ≡ Removed 0 0 = cc in
      too_late before xs 0 1 0 e one legal (ap (λ l. list_any (is_got_of 0) l) second)
  no_first_step before xs e false true legal later first second =
      let all : e ∷ entries_by 1 xs ≡ Removed 1 1 ∷ Got 1 0 [] ∷ [] = second in
      let one : e ≡ Removed 1 1 = cc in
      too_late before xs 1 0 1 e one legal (ap (λ l. list_any (is_got_of 1) l) first)
  no_first_step before xs e false false legal later first second = later first second

  not_in_order : (before xs : List Entry) → LegalAfter passes guard_max before xs
      → entries_by 0 xs ≡ entries_by 0 all_calls → entries_by 1 xs ≡ entries_by 1 all_calls → ⊥
  not_in_order before [] legal first second =
      let no : [] ≡ Removed 0 0 ∷ Got 0 1 [] ∷ [] = first in
      cc
  not_in_order before (e ∷ xs) legal first second =
      no_first_step before xs e (pass_of e == 0) (pass_of e == 1) legal.1 (not_in_order (before ++ e ∷ []) xs legal.1)
      first second

pub callers_order_is_not_local : CallersOrderIsNotLocal
callers_order_is_not_local passes guard_max = (
  on_key_0,
  on_key_1,
  all_calls,
  (refl, ((refl, refl), ((refl, refl), tt))),
  (refl, ((refl, refl), ((refl, refl), tt))),
  λ key. apart_at key (0 == key) refl,
  λ pass. in_order_at pass (0 == pass) (1 == pass) (2 == pass) refl refl refl,
  λ history legal same. not_in_order passes guard_max [] history legal (same 0) (same 1),
)
