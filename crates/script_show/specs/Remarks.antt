-- What is written after the line of an event.
use Rattle.std.specs.Prelude.{ℕ, ◌==◌, ◌&&◌, not, is_none, Bool, true, false, List, [], Option, Some, None, codes}
use Rattle.std.specs.Prelude.{slice_get, if◌then◌else◌}
use Rattle.sh_shape.specs.declared.places.Place.TheVariants.{State}
use Rattle.sh_word.specs.Fields.{fields_of}
use Rattle.sh_slots.specs.declared.hand.SlotRef.{SlotRef}
use Rattle.sh_slots.specs.Slots.{same_slot}
use Rattle.sh_step.specs.declared.body.Body.{Body}
use Rattle.sh_step.specs.declared.kind.ActionKind.{ActionKind}
use Rattle.sh_step.specs.declared.kind.ActionKind.TheVariants as kind
use Rattle.sh_step.specs.Collections.{has, noted}
use Rattle.sh_step.specs.Rows.{idle}
use Rattle.script_show.specs.declared.touched.Touched.{Touched}
use Rattle.script_show.specs.declared.touched.Touched.TheVariants.{Nothing, Page, Slot, Link, Shard, PageAndBell}
use Rattle.script_show.specs.declared.view.View.{View}
use Rattle.script_show.specs.Reasons.{reason_text}
use Rattle.script_show.specs.Views.{word_seen}

abbrev pub is_finish : ActionKind → Bool
is_finish kind.Finish = true
is_finish _ = false

abbrev pub is_follow_bell : ActionKind → Bool
is_follow_bell kind.FollowBell = true
is_follow_bell _ = false

abbrev pub is_adopt : ActionKind → Bool
is_adopt kind.Adopt = true
is_adopt _ = false

-- a cursor is at this place
abbrev pub is_at : ℕ → Option ℕ → Bool
is_at place None = false
is_at place (Some cursor) = cursor == place

abbrev pub is_retired : ℕ → Bool
is_retired word = (fields_of word).marked && not (fields_of word).present

-- an end of a generation failed: the slot is not retired, and the pass neither owns it nor has it in hand
abbrev pub has_failed : View → Body → SlotRef → Bool
has_failed view part x = idle part && (not (has (same_slot x) part.mine)
    && not (is_retired (word_seen view (State x.page x.slot))))

abbrev pub text_if : Bool → List ℕ → List ℕ
text_if holds text = if holds then text else []

-- the reason of an event that is skipped
abbrev pub why_skipped : Touched → List ℕ
why_skipped (Nothing reason) = reason_text reason
why_skipped _ = []

-- the same, and of another event what it met, by what its pass has after it
abbrev pub met_text : View → Body → ActionKind → Touched → List ℕ
met_text view part by (Nothing reason) = reason_text reason
met_text view part by (Page page) = []
met_text view part by (Slot x) = text_if (is_finish by && has_failed view part x)
    (codes "another is on the slot, or ended its generation")
met_text view part by (Link page slot) = text_if (is_at slot (noted page part.cursors))
    (codes "the link is not written")
met_text view part by (Shard shard) = text_if (is_adopt by && is_none part.owned)
    (codes "the shard has an owner")
met_text view part by (PageAndBell page) = text_if (is_follow_bell by && is_at page part.bell_cursor)
    (codes "the link is not written")

-- the same of a pass that may not be there
abbrev pub met_by : View → Option Body → ActionKind → Touched → List ℕ
met_by view None by touched = why_skipped touched
met_by view (Some part) by touched = met_text view part by touched

abbrev pub remark_text : View → (pass : ℕ) → ActionKind → Touched → List ℕ
remark_text view pass by touched = met_by view (slice_get view.parts.now pass) by touched
