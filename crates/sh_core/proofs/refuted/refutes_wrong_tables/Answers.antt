use Rattle.sh_core.proofs.Examples.WrongRows.{crowded_too_early, key_is_removed_twice, stayed_count_is_nobodys}
use Rattle.sh_core.proofs.Examples.WrongRows.{forgotten_end_never_comes, known_key_is_not_held}
use Rattle.sh_core.proofs.Examples.WrongRows.{kept_generation_issues_twice, ignored_count_loses_held}
use Rattle.sh_core.proofs.Examples.WrongRows.{wrapped_generation_issues_twice}
use Rattle.sh_core.proofs.Examples.WrongRows.{unretired_slot_has_no_key, early_link_is_wrong, unwritten_end_loses_slots}
use Rattle.sh_core.proofs.Examples.WrongRows.{old_link_loses_slots, followed_twice_is_mine_twice}
use Rattle.sh_core.proofs.Examples.WrongRows.{silent_freer_loses_ring, leaver_keeps_slots, left_bell_is_nobodys}
use Rattle.sh_core.proofs.Examples.WrongRows.{forgotten_slot_has_two_kinds}
use Rattle.sh_core.proofs.Examples.WrongRows.{ninth_class_is_none, fifth_hold_is_too_many, flag_stays_over_slot}
use Rattle.sh_core.proofs.Examples.WrongRows.{generation_is_no_key, end_may_never_come, gone_is_never_told}
use Rattle.sh_core.proofs.Examples.NoRing.{unrung_never_ends}
use Rattle.sh_core.proofs.refuted.refutes_wrong_tables.Goals as goal

pub returns-clause-crowds_at_once : goal.returns-clause-crowds_at_once
returns-clause-crowds_at_once c = crowded_too_early

pub returns-clause-both_remove : goal.returns-clause-both_remove
returns-clause-both_remove c = key_is_removed_twice

pub returns-clause-marks_and_stays : goal.returns-clause-marks_and_stays
returns-clause-marks_and_stays c = stayed_count_is_nobodys

pub returns-clause-drops_and_forgets : goal.returns-clause-drops_and_forgets
returns-clause-drops_and_forgets c = forgotten_end_never_comes

pub returns-clause-knows_after_hold : goal.returns-clause-knows_after_hold
returns-clause-knows_after_hold c = known_key_is_not_held

pub returns-clause-keeps_generation : goal.returns-clause-keeps_generation
returns-clause-keeps_generation c = kept_generation_issues_twice

pub returns-clause-ignores_count : goal.returns-clause-ignores_count
returns-clause-ignores_count c = ignored_count_loses_held

pub returns-clause-wraps_generation : goal.returns-clause-wraps_generation
returns-clause-wraps_generation c = wrapped_generation_issues_twice

pub returns-clause-never_retires : goal.returns-clause-never_retires
returns-clause-never_retires c = unretired_slot_has_no_key

pub returns-clause-ties_first : goal.returns-clause-ties_first
returns-clause-ties_first c = early_link_is_wrong

pub returns-clause-ends_at_unwritten : goal.returns-clause-ends_at_unwritten
returns-clause-ends_at_unwritten c = unwritten_end_loses_slots

pub returns-clause-leaves_link : goal.returns-clause-leaves_link
returns-clause-leaves_link c = old_link_loses_slots

pub returns-clause-follows_twice : goal.returns-clause-follows_twice
returns-clause-follows_twice c = followed_twice_is_mine_twice

pub returns-clause-never_rings : goal.returns-clause-never_rings
returns-clause-never_rings c = silent_freer_loses_ring

pub returns-clause-leaves_slots : goal.returns-clause-leaves_slots
returns-clause-leaves_slots c = leaver_keeps_slots

pub returns-clause-leaves_bell : goal.returns-clause-leaves_bell
returns-clause-leaves_bell c = left_bell_is_nobodys

pub returns-clause-forgets_last_slot : goal.returns-clause-forgets_last_slot
returns-clause-forgets_last_slot c = forgotten_slot_has_two_kinds

pub returns-clause-gives_any_class : goal.returns-clause-gives_any_class
returns-clause-gives_any_class c = ninth_class_is_none

pub returns-clause-ignores_room : goal.returns-clause-ignores_room
returns-clause-ignores_room c = fifth_hold_is_too_many

pub returns-clause-keeps_flag : goal.returns-clause-keeps_flag
returns-clause-keeps_flag c = flag_stays_over_slot

pub returns-clause-remembers_generation : goal.returns-clause-remembers_generation
returns-clause-remembers_generation c = generation_is_no_key

pub returns-clause-tries_again : goal.returns-clause-tries_again
returns-clause-tries_again c = end_may_never_come

pub returns-clause-never_answers_gone : goal.returns-clause-never_answers_gone
returns-clause-never_answers_gone c = gone_is_never_told

pub returns-clause-cannot_ring : goal.returns-clause-cannot_ring
returns-clause-cannot_ring c = unrung_never_ends
