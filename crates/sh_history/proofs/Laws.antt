-- Laws of legal histories.
use Rattle.std.proofs.Common.{◌≡◌, ◌≢◌, ℕ, ◌+◌, ◌<◌, true, false, List, [], ◌∷◌, ◌++◌, append_assoc, arith, rules, inl}
use Rattle.std.proofs.Common.{inr, length, get_or, take, drop, refl, sym, Option, Some, None}
use Rattle.std.specs.Prelude.{IsSome}
use Rattle.std.specs.Cmp.Lexicographic.{pointwise}
use lib.Dec.{eqb}
use Rattle.std.proofs.lemmas.Bool.{true≢false}
use Rattle.std.proofs.lemmas.List.{append-nil, take_more, take-append-drop}
use Rattle.std.proofs.lemmas.Slice.Eq.{bytes_eq-Decides}
use Rattle.sh_history.specs.declared.entry.Entry.{Entry}
use Rattle.sh_history.specs.declared.entry.Entry.TheVariants.{Insert, Got, Gone, Crowded, Removed, Released, Seen}
use Rattle.sh_history.specs.declared.checker.Why.{Why}
use Rattle.sh_history.specs.declared.checker.Why.TheVariants.{NotNew, NotIssued, OtherValue, AfterRemoval, StillThere}
use Rattle.sh_history.specs.declared.checker.Why.TheVariants.{NotCrowded, NotHeld}
use Rattle.sh_history.specs.History.{Allowed, LegalAfter, Legal}
use Rattle.sh_history.specs.FirstFault.{IsWhy}

-- what the comparison of two values says
pub same_words : (xs ys : List ℕ) → pointwise eqb xs ys ≡ true → xs ≡ ys
same_words xs ys h = (bytes_eq-Decides xs ys).0 h

pub other_words : (xs ys : List ℕ) → pointwise eqb xs ys ≡ false → xs ≢ ys
other_words xs ys h e = let t = (bytes_eq-Decides xs ys).1 e in cc

-- the value that there is
pub some_value : (o : Option (List ℕ)) → IsSome o → (v : List ℕ) × (o ≡ Some v)
some_value None is = absurd (true≢false (sym is))
some_value (Some v) is = (v, refl)

module _ (passes guard_max : ℕ) where
  -- a legal list with one more entry that may follow
  pub legal_after_more : (before xs : List Entry) (e : Entry) → LegalAfter passes guard_max before xs
      → Allowed passes guard_max (before ++ xs) e → LegalAfter passes guard_max before (xs ++ e ∷ [])
  legal_after_more before [] e legal allowed = (rw append-nil at allowed, tt)
  legal_after_more before (x ∷ xs) e legal allowed =
      (legal.0, legal_after_more (before ++ x ∷ []) xs e legal.1 (rw append_assoc allowed))

  pub legal_more : (xs : List Entry) (e : Entry) → Legal passes guard_max xs → Allowed passes guard_max xs e
      → Legal passes guard_max (xs ++ e ∷ [])
  legal_more xs e legal allowed = legal_after_more [] xs e legal allowed

  -- both parts of a legal list
  pub legal_after_parts : (before xs ys : List Entry) → LegalAfter passes guard_max before (xs ++ ys)
      → LegalAfter passes guard_max before xs × LegalAfter passes guard_max (before ++ xs) ys
  legal_after_parts before [] ys legal = (tt, rw append-nil legal)
  legal_after_parts before (x ∷ xs) ys legal =
      let rest = legal_after_parts (before ++ x ∷ []) xs ys legal.1 in
      ((legal.0, rest.0), rw append_assoc at rest.1)

  -- an entry for which there is a reason may not follow
  pub why_excludes : (before : List Entry) (e : Entry) (why : Why) → IsWhy passes guard_max before e why
      → Allowed passes guard_max before e → ⊥
  why_excludes before (Insert pass key value) NotNew is allowed = let h = rw allowed at is in search rules
  why_excludes before (Got pass key value) NotIssued is allowed = cc
  why_excludes before (Got pass key value) OtherValue is allowed = is.1 allowed.0
  why_excludes before (Got pass key value) AfterRemoval is allowed = cc
  why_excludes before (Gone pass key) StillThere is allowed =
      elim allowed [ inl none ↦ (let h = rw none at is.0 in search rules) | inr gone ↦ cc ]
  why_excludes before (Crowded pass key) NotIssued is allowed = let h = rw is at allowed.0 in search rules
  why_excludes before (Crowded pass key) AfterRemoval is allowed = cc
  why_excludes before (Crowded pass key) NotCrowded is allowed = omega arith
  why_excludes before (Removed pass key) NotIssued is allowed = let h = rw is at allowed.0 in search rules
  why_excludes before (Removed pass key) AfterRemoval is allowed = cc
  why_excludes before (Released pass key) NotHeld is allowed = omega arith
  why_excludes before (Seen pass key value) NotIssued is allowed = cc
  why_excludes before (Seen pass key value) OtherValue is allowed = is.1 allowed.0
  why_excludes before (Seen pass key value) AfterRemoval is allowed = cc
  why_excludes before _ _ is allowed = is

  -- one more entry of a list that is legal so far
  pub legal_take_more : (xs : List Entry) (i : ℕ) (e : Entry) → i < length xs → e ≡ get_or xs i e
      → Legal passes guard_max (take i xs) → Allowed passes guard_max (take i xs) e
      → Legal passes guard_max (take (i + 1) xs)
  legal_take_more xs i e lt is legal allowed =
      rw (take_more xs i e lt, ← is) (legal_more (take i xs) e legal allowed)

  -- a list with an entry that may not follow is not legal
  pub fault_excludes : (xs : List Entry) (i : ℕ) (e : Entry) (why : Why) → i < length xs → e ≡ get_or xs i e
      → IsWhy passes guard_max (take i xs) e why → Legal passes guard_max xs → ⊥
  fault_excludes xs i e why lt is is_why legal =
      let whole : Legal passes guard_max (take (i + 1) xs ++ drop (i + 1) xs) = rw (take-append-drop (i + 1) xs) legal
      in
      let front = (legal_after_parts [] (take (i + 1) xs) (drop (i + 1) xs) whole).0 in
      let parts : Legal passes guard_max (take i xs ++ e ∷ []) = rw (is, ← take_more xs i e lt) front in
      why_excludes (take i xs) e why is_why (legal_after_parts [] (take i xs) (e ∷ []) parts).1.0
