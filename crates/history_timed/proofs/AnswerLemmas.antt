-- Which call a test finds, and what it shows of a clash that none is found.
use Rattle.std.proofs.Common.{◌≡◌, ◌∙◌, ℕ, Bool, true, false, cond, List, [], ◌∷◌, Option, Some, None, zero, suc}
use Rattle.std.proofs.Common.{refl, sym, subst, ap, arith}
use Rattle.std.specs.Prelude.{slice_get, option_map, ◌&&◌, not, IfSome, IfNone}
use Rattle.std.specs.List.{find, All}
use Rattle.std.proofs.lemmas.Bool.{true≢false, and_parts, and_from, eqb-false, ne_eqb, not-true}
use Rattle.std.proofs.lemmas.Option.{none-some, same_Some}
use Rattle.sh_history.specs.declared.checker.Why.{Why}
use Rattle.sh_history.specs.declared.checker.Why.TheVariants.{NotNew, NotIssued, OtherValue, AfterRemoval, StillThere}
use Rattle.sh_history.specs.declared.checker.Why.TheVariants.{NotCrowded, NotHeld}
use Rattle.history_audit.specs.declared.clash.Clash.{Clash}
use Rattle.history_timed.specs.declared.call.Call.{Call}
use Rattle.sh_history.specs.declared.entry.Entry.TheVariants.{Insert, Got, Gone, Crowded, Removed, Released, Seen}
use Rattle.history_timed.specs.declared.call.Said.{Said}
use Rattle.history_timed.specs.declared.call.Said.TheVariants.{Known, Unread}
use Rattle.history_timed.specs.Calls.{uses, removes}
use Rattle.history_timed.specs.Times.{ends_before}
use Rattle.history_timed.specs.Clashes.{AtLine, first_line, is_another, IsAnother, IsAnswer}
use Rattle.history_timed.specs.Clashes.{IsClash, ClashesForNone, IsAnyAnswer}
use Rattle.history_timed.proofs.ListLemmas.{at_place, contained}

module _ (test : Call → Bool) where
  found_at : (calls : List Call) (o : Call) → find test calls ≡ Some o
      → (i : ℕ) × (slice_get calls i ≡ Some o) × (test o ≡ true)
  found_at [] o e = absurd (none-some o e)
  found_at (x ∷ xs) o e = go (test x) refl (found_at xs o) e where
    go : (b : Bool) → test x ≡ b
        → (find test xs ≡ Some o → (i : ℕ) × (slice_get xs i ≡ Some o) × (test o ≡ true))
        → cond b (Some x) (find test xs) ≡ Some o
        → (i : ℕ) × (slice_get (x ∷ xs) i ≡ Some o) × (test o ≡ true)
    go true is later e = (0, e, subst (λ (y : Call). test y ≡ true) (same_Some x o e) is)
    go false is later e = let r = later e in (suc r.0, r.1, r.2)

  none_found : (calls : List Call) (i : ℕ) (o : Call) → find test calls ≡ None → slice_get calls i ≡ Some o
      → test o ≡ true → ⊥
  none_found [] i o e is passes = absurd (none-some o is)
  none_found (x ∷ xs) i o e is passes = go (test x) refl e i is (λ j none at. none_found xs j o none at passes) where
    go : (b : Bool) → test x ≡ b → cond b (Some x) (find test xs) ≡ None → (i : ℕ)
        → slice_get (x ∷ xs) i ≡ Some o → ((j : ℕ) → find test xs ≡ None → slice_get xs j ≡ Some o → ⊥) → ⊥
    go true here e i is later = absurd (none-some x (sym e))
    go false here e zero is later = true≢false (sym passes ∙ ap test (sym (same_Some x o is)) ∙ here)
    go false here e (suc i) is later = later i e is

  pub line_at : (calls : List Call) (line : ℕ) → first_line test calls ≡ Some line
      → AtLine calls (Some line) (λ o. test o ≡ true)
  line_at calls line e = go (find test calls) refl e where
    go : (f : Option Call) → find test calls ≡ f → option_map (λ (o : Call). o.line) f ≡ Some line
        → AtLine calls (Some line) (λ o. test o ≡ true)
    go None is e = absurd (none-some line e)
    go (Some o) is e =
        let at = found_at calls o is in (o, contained calls at.0 o at.1, same_Some o.line line e, at.2)

  pub no_line : (calls : List Call) → first_line test calls ≡ None → (by : Option ℕ)
      → AtLine calls by (λ o. test o ≡ true) → ⊥
  no_line calls e None is = is
  no_line calls e (Some line) is = go (find test calls) refl e where
    go : (f : Option Call) → find test calls ≡ f → option_map (λ (o : Call). o.line) f ≡ None → ⊥
    go None same e = let at = at_place calls is.0 is.1 in none_found calls at.0 is.0 same at.1 is.3
    go (Some o) same e = none-some o.line (sym e)

at_line_as : (calls : List Call) (by : Option ℕ) (P Q : Call → Type 0) → ((o : Call) → P o → Q o)
    → AtLine calls by P → AtLine calls by Q
at_line_as calls None P Q f is = absurd is
at_line_as calls (Some line) P Q f is = (is.0, is.1, is.2, f is.0 is.3)

another_is : (call o : Call) → is_another call o ≡ true → IsAnother call o
another_is call o e =
    let parts = and_parts _ _ e in
    record { line = eqb-false o.line call.line (not-true _ parts.0); ended = parts.1 }

is_other : (call o : Call) → IsAnother call o → is_another call o ≡ true
is_other call o is = and_from _ _ (ap not (ne_eqb o.line call.line is.line)) is.ended

-- ---- another call of a kind, which ended, and an earlier one

module _ (kind : Said → Bool) (calls : List Call) (c : Call) where
  pub other_line : (line : ℕ) → first_line (λ (o : Call). kind o.said && is_another c o) calls ≡ Some line
      → AtLine calls (Some line) (λ o. (kind o.said ≡ true) × IsAnother c o)
  other_line line is = at_line_as calls (Some line) _ _
      (λ o h. (let parts = and_parts _ _ h in (parts.0, another_is c o parts.1)))
      (line_at (λ (o : Call). kind o.said && is_another c o) calls line is)

  pub no_other : first_line (λ (o : Call). kind o.said && is_another c o) calls ≡ None → (by : Option ℕ)
      → AtLine calls by (λ o. (kind o.said ≡ true) × IsAnother c o) → ⊥
  no_other none by is = no_line (λ (o : Call). kind o.said && is_another c o) calls none by
      (at_line_as calls by _ _ (λ o h. and_from _ _ h.0 (is_other c o h.1)) is)

  pub earlier_line : (line : ℕ) → first_line (λ (o : Call). kind o.said && ends_before o.times c.times) calls ≡ Some line
      → AtLine calls (Some line) (λ o. (kind o.said ≡ true) × (ends_before o.times c.times ≡ true))
  earlier_line line is = at_line_as calls (Some line) _ _ (λ o h. and_parts _ _ h)
      (line_at (λ (o : Call). kind o.said && ends_before o.times c.times) calls line is)

  pub no_earlier : first_line (λ (o : Call). kind o.said && ends_before o.times c.times) calls ≡ None → (by : Option ℕ)
      → AtLine calls by (λ o. (kind o.said ≡ true) × (ends_before o.times c.times ≡ true)) → ⊥
  no_earlier none by is = no_line (λ (o : Call). kind o.said && ends_before o.times c.times) calls none by
      (at_line_as calls by _ _ (λ o h. and_from _ _ h.0 h.1) is)

-- what uses a key does not remove it
pub not_both : (key : ℕ) (s : Said) → uses key s ≡ true → removes key s ≡ true → ⊥
not_both key (Known (Insert p k v)) used removed = true≢false (sym used)
not_both key (Known (Got p k v)) used removed = true≢false (sym removed)
not_both key (Known (Gone p k)) used removed = true≢false (sym used)
not_both key (Known (Crowded p k)) used removed = true≢false (sym removed)
not_both key (Known (Removed p k)) used removed = true≢false (sym used)
not_both key (Known (Released p k)) used removed = true≢false (sym used)
not_both key (Known (Seen p k v)) used removed = true≢false (sym removed)
not_both key (Unread p k) used removed = true≢false (sym removed)

-- what is answered by the line that was looked for
pub answered : (why : Why) (Clashing : Option ℕ → Type 0) (by : Option ℕ)
    → ((line : ℕ) → by ≡ Some line → Clashing (Some line)) → (by ≡ None → (line : Option ℕ) → Clashing line → ⊥)
    → IsAnswer why Clashing (option_map (λ (line : ℕ). record { why = why; by = Some line }) by)
answered why Clashing None some none = none refl
answered why Clashing (Some line) some none = (refl, some line refl)

-- ---- reasons in their order

pub every_reason : (P : Why → Type 0)
    → All P (NotNew ∷ NotIssued ∷ OtherValue ∷ AfterRemoval ∷ StillThere ∷ NotCrowded ∷ NotHeld ∷ []) → (why : Why) → P why
every_reason P all NotNew = all 0 NotNew (omega arith)
every_reason P all NotIssued = all 1 NotNew (omega arith)
every_reason P all OtherValue = all 2 NotNew (omega arith)
every_reason P all AfterRemoval = all 3 NotNew (omega arith)
every_reason P all StillThere = all 4 NotNew (omega arith)
every_reason P all NotCrowded = all 5 NotNew (omega arith)
every_reason P all NotHeld = all 6 NotNew (omega arith)

pub any_answer : (passes guard_max : ℕ) (calls : List Call) (c : Call) (result : Option Clash)
    → IfSome result (λ clash. IsClash passes guard_max calls c clash.why clash.by)
    → IfNone result (All (ClashesForNone passes guard_max calls c)
    (NotNew ∷ NotIssued ∷ OtherValue ∷ AfterRemoval ∷ StillThere ∷ NotCrowded ∷ NotHeld ∷ []))
    → IsAnyAnswer passes guard_max calls c result
any_answer passes guard_max calls c None some none = every_reason (ClashesForNone passes guard_max calls c) none
any_answer passes guard_max calls c (Some clash) some none = some
