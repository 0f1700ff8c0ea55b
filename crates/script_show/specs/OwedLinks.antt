-- Links that a pass has in its hand and has yet to store.
use Rattle.std.specs.Prelude.{ℕ, ◌+◌, ◌==◌, List, [], ◌∷◌, Option, Some, None, if◌then◌else◌}
use Rattle.sh_slots.specs.declared.hand.SlotRef.{SlotRef}
use Rattle.sh_slots.specs.declared.hand.Hand.{Hand}
use Rattle.sh_slots.specs.declared.hand.Hand.TheVariants.{Tying, RingTying}
use Rattle.sh_slots.specs.Slots.{same_slot}
use Rattle.sh_step.specs.declared.body.Body.{Body}
use Rattle.script_show.specs.declared.lane.Owed.{Owed}
use Rattle.script_show.specs.declared.view.View.{View}

-- the link that is owed to a slot, or to a page
abbrev pub link_for_slot : SlotRef → Hand → Option ℕ
link_for_slot x (Tying put link rings) = if same_slot x put then Some link else None
link_for_slot x _ = None

abbrev pub link_for_page : ℕ → Hand → Option ℕ
link_for_page page (RingTying put link) = if put == page then Some link else None
link_for_page page _ = None

abbrev pub owed_or : (pass : ℕ) → Option ℕ → Option Owed → Option Owed
owed_or pass None later = later
owed_or pass (Some link) later = Some (record { pass = pass; link = link })

-- the first of these passes, numbered from this one on, that owes a link, with the link
abbrev pub owed_from : (Hand → Option ℕ) → (pass : ℕ) → List Body → Option Owed
owed_from owes pass [] = None
owed_from owes pass (part ∷ parts) = owed_or pass (owes part.hand) (owed_from owes (pass + 1) parts)

abbrev pub slot_owed : View → SlotRef → Option Owed
slot_owed view x = owed_from (link_for_slot x) 0 view.parts.now

abbrev pub page_owed : View → ℕ → Option Owed
page_owed view page = owed_from (link_for_page page) 0 view.parts.now
