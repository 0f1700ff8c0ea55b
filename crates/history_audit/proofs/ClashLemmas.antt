-- What a note on a key says of an entry on that key.
use Rattle.std.proofs.Common.{◌≡◌, ℕ, ◌-◌, true, false, List, Option, Some, None, refl, sym, ◌∙◌, ap, inr}
use Rattle.std.specs.Prelude.{is_some, IsSome, option_map}
use Rattle.sh_history.specs.declared.entry.Entry.{Entry}
use Rattle.sh_history.specs.declared.entry.Entry.TheVariants.{Got, Gone, Crowded, Removed, Seen}
use Rattle.sh_history.specs.declared.checker.Why.TheVariants.{AfterRemoval, StillThere}
use Rattle.sh_history.specs.History.{value_of, is_removed, holds_on}
use Rattle.history_audit.specs.declared.note.Note.{Note}
use Rattle.history_audit.specs.declared.clash.Clash.{Clash}
use Rattle.history_audit.specs.Lines.{entries_in}
use Rattle.history_audit.specs.Noted.{IsNote, IsJudged}
use Rattle.history_audit.proofs.LineLemmas.{removed_by_line}

-- a removal on this line, if there is one
abbrev pub after_removal : Option ℕ → Option Clash
after_removal removed = option_map (λ line. record { why = AfterRemoval; by = Some line }) removed

module _ (lines : List (ℕ × Entry)) (key : ℕ) (note : Note) (is : IsNote lines key (Some note)) where
  pub issued : value_of (entries_in lines) key ≡ Some note.value
  issued = sym is.value

  pub is_issued : IsSome (value_of (entries_in lines) key)
  is_issued = rw (← is.value) refl

  pub not_removed : note.removed ≡ None → is_removed (entries_in lines) key ≡ false
  not_removed none = removed_by_line lines key ∙ ap is_some (sym is.removed ∙ none)

  pub is_removed_at : (line : ℕ) → note.removed ≡ Some line → is_removed (entries_in lines) key ≡ true
  is_removed_at line some = removed_by_line lines key ∙ ap is_some (sym is.removed ∙ some)

  pub held_on : note.got - note.released ≡ holds_on (entries_in lines) key
  held_on = rw (is.got, is.released) refl

  pub gone_judged : (passes guard_max pass line : ℕ) → note.removed ≡ Some line
      → IsJudged passes guard_max lines (Gone pass key) None
  gone_judged passes guard_max pass line some = inr (is_removed_at line some)

  pub still_there : (passes guard_max pass : ℕ) → note.removed ≡ None
      → IsJudged passes guard_max lines (Gone pass key) (Some (record { why = StillThere; by = Some note.inserted }))
  still_there passes guard_max pass none = record { is_why = (is_issued, not_removed none); by = is.inserted }

  pub removed_judged : (passes guard_max pass : ℕ) → IsJudged passes guard_max lines (Removed pass key)
      (after_removal note.removed)
  removed_judged passes guard_max pass = go note.removed refl where
    go : (removed : Option ℕ) → note.removed ≡ removed
        → IsJudged passes guard_max lines (Removed pass key) (after_removal removed)
    go None none = (is_issued, not_removed none)
    go (Some line) some =
        record { is_why = (is_issued, is_removed_at line some); by = sym some ∙ is.removed }

  -- a get and a look of the value are judged alike
  pub read_judged : (passes guard_max pass : ℕ) (value : List ℕ) → note.value ≡ value
      → IsJudged passes guard_max lines (Got pass key value) (after_removal note.removed)
      × IsJudged passes guard_max lines (Seen pass key value) (after_removal note.removed)
  read_judged passes guard_max pass value same = go note.removed refl where
    of_value : value_of (entries_in lines) key ≡ Some value
    of_value = issued ∙ ap Some same

    go : (removed : Option ℕ) → note.removed ≡ removed
        → IsJudged passes guard_max lines (Got pass key value) (after_removal removed)
        × IsJudged passes guard_max lines (Seen pass key value) (after_removal removed)
    go None none = ((of_value, not_removed none), (of_value, not_removed none))
    go (Some line) some = (
      record { is_why = (of_value, is_removed_at line some); by = sym some ∙ is.removed },
      record { is_why = (of_value, is_removed_at line some); by = sym some ∙ is.removed },
    )

  pub crowded_after : (passes guard_max pass line : ℕ) → note.removed ≡ Some line
      → IsJudged passes guard_max lines (Crowded pass key) (after_removal note.removed)
  crowded_after passes guard_max pass line some =
      rw some (record { is_why = (is_issued, is_removed_at line some); by = sym some ∙ is.removed })
