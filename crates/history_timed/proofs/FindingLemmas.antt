-- Findings, call by call.
use Rattle.std.proofs.Common.{ℕ, List, [], ◌∷◌, ◌++◌, refl, ap, inl, inr}
use Rattle.history_audit.specs.declared.clash.Clash.{Clash}
use Rattle.history_timed.specs.declared.call.Call.{Call}
use Rattle.history_timed.specs.declared.finding.Finding.{Finding}
use Rattle.history_timed.specs.Clashes.{IsClash, ClashesWithNone}
use Rattle.history_timed.specs.Verdicts.{AreFindings}

module _ (passes guard_max : ℕ) (all : List Call) where
  -- one call more, without a clash or with one
  pub found_no_more : (calls : List Call) (c : Call) (found : List Finding)
      → AreFindings passes guard_max all calls found → ClashesWithNone passes guard_max all c
      → AreFindings passes guard_max all (calls ++ c ∷ []) found
  found_no_more [] c found is none = inl (none, is)
  found_no_more (x ∷ xs) c found (inl is) none = inl (is.0, found_no_more xs c found is.1 none)
  found_no_more (x ∷ xs) c found (inr is) none =
      inr (is.0, is.1, is.2, is.3, found_no_more xs c is.1 is.4 none)

  abbrev finding : Call → Clash → Finding
  finding c clash = record { line = c.line; clash = clash }

  pub found_more : (calls : List Call) (c : Call) (found : List Finding) (clash : Clash)
      → AreFindings passes guard_max all calls found → IsClash passes guard_max all c clash.why clash.by
      → AreFindings passes guard_max all (calls ++ c ∷ []) (found ++ record { line = c.line; clash = clash } ∷ [])
  found_more [] c found clash is does =
      inr (clash, [], ap (λ (xs : List Finding). xs ++ finding c clash ∷ []) is, does, refl)
  found_more (x ∷ xs) c found clash (inl is) does = inl (is.0, found_more xs c found clash is.1 does)
  found_more (x ∷ xs) c found clash (inr is) does = inr (
    is.0,
    is.1 ++ finding c clash ∷ [],
    ap (λ (ys : List Finding). ys ++ finding c clash ∷ []) is.2,
    is.3,
    found_more xs c is.1 clash is.4 does,
  )
