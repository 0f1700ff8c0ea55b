use Rattle.std.proofs.Common.{◌≡◌, drop}
use Rattle.script_show.specs.OwedLinks.{link_for_slot, owed_from}
use Rattle.script_show.proofs.lane.slot_owed_by.Given as goal

abbrev pub invariant-loop-pass : goal.invariant-loop-pass
invariant-loop-pass l = owed_from (link_for_slot l.slot_ref) l.pass (drop l.pass l.parts)
    ≡ owed_from (link_for_slot l.slot_ref) 0 l.parts
