-- An audit that has taken in the front of a list.
use Rattle.std.proofs.Common.{◌≡◌, ℕ, ◌+◌, ◌<◌, List, [], ◌∷◌, ◌++◌, take, length, get_or, ap, ◌∙◌, sym}
use Rattle.std.proofs.lemmas.List.{take_more}
use Rattle.sh_history.specs.declared.entry.Entry.{Entry}
use Rattle.sh_history.specs.History.{Legal}
use Rattle.sh_history.specs.FirstFault.{IsWhy}
use Rattle.history_audit.specs.declared.audit.Audit.{Audit}
use Rattle.history_audit.specs.declared.clash.Clash.{Clash}
use Rattle.history_audit.specs.Lines.{entries_in}
use Rattle.history_audit.specs.Noted.{IsClash}
use Rattle.history_audit.specs.Followed.{Follows}
use Rattle.history_audit.proofs.LineLemmas.{entries_in-push}

-- the audit is of this map, and has taken in these entries under some numbers
abbrev pub HasTaken : Audit → (passes guard_max : ℕ) → List Entry → Type 0
HasTaken audit passes guard_max entries =
    (audit.passes ≡ passes) × (audit.guard_max ≡ guard_max)
    × ((lines : List (ℕ × Entry)) × Follows audit lines × (entries_in lines ≡ entries))

module _ (a : Audit) (passes guard_max : ℕ) (before : List Entry) (taken : HasTaken a passes guard_max before) where
  pub legal_so_far : Legal passes guard_max before
  legal_so_far = rw (← taken.0, ← taken.1, ← taken.2.2) taken.2.1.legal

  pub why_here : (entry : Entry) (clash : Clash) → IsClash a.passes a.guard_max taken.2.0 entry clash
      → IsWhy passes guard_max before entry clash.why
  why_here entry clash is = rw (← taken.0, ← taken.1, ← taken.2.2) is.is_why

-- one more entry of a list
pub taken_more : (b : Audit) (passes guard_max : ℕ) (lines : List (ℕ × Entry)) (xs : List Entry) (i : ℕ) (e : Entry)
    → b.passes ≡ passes → b.guard_max ≡ guard_max → Follows b (lines ++ (i, e) ∷ []) → entries_in lines ≡ take i xs
    → i < length xs → e ≡ get_or xs i e → HasTaken b passes guard_max (take (i + 1) xs)
taken_more b passes guard_max lines xs i e p g follows same lt is = (
  p,
  g,
  (
    lines ++ (i, e) ∷ [],
    follows,
    entries_in-push lines i e ∙ ap (λ ys. ys ++ e ∷ []) same ∙ sym (rw (← is) at (take_more xs i e lt)),
  ),
)
