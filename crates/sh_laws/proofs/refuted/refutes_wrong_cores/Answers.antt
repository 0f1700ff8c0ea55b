use Rattle.sh_laws.proofs.Counterexamples.{forgotten_slots_add_up, untied_slot_is_cut_off, untied_page_is_cut_off}
use Rattle.sh_laws.proofs.Counterexamples.{released_hold_stays, room_is_not_crowded}
use Rattle.sh_laws.proofs.refuted.refutes_wrong_cores.Goals as goal

pub returns-clause-drops_and_forgets : goal.returns-clause-drops_and_forgets
returns-clause-drops_and_forgets c = forgotten_slots_add_up

pub returns-clause-never_ties : goal.returns-clause-never_ties
returns-clause-never_ties c = untied_slot_is_cut_off

pub returns-clause-never_ties_rings : goal.returns-clause-never_ties_rings
returns-clause-never_ties_rings c = untied_page_is_cut_off

pub returns-clause-keeps_hold : goal.returns-clause-keeps_hold
returns-clause-keeps_hold c = released_hold_stays

pub returns-clause-crowds_at_once : goal.returns-clause-crowds_at_once
returns-clause-crowds_at_once c = room_is_not_crowded
