use Rattle.sh_core.proofs.Examples.MoreWrongRows.{first_is_not_last}
use Rattle.sh_core.proofs.Examples.MoreWrongRows.{skipped_was_never_issued}
use Rattle.sh_core.proofs.Examples.MoreWrongRows.{two_own_one}
use Rattle.sh_core.proofs.Examples.MoreWrongRows.{leaver_has_slots}
use Rattle.sh_core.proofs.Examples.MoreWrongRows.{left_page_is_armed}
use Rattle.sh_core.proofs.Examples.MoreWrongRows.{left_page_has_a_cursor}
use Rattle.sh_core.proofs.Examples.MoreWrongRows.{live_key_was_not_issued}
use Rattle.sh_core.proofs.Examples.MoreWrongRows.{released_is_held}
use Rattle.sh_core.proofs.Examples.MoreWrongRows.{held_value_changes}
use Rattle.sh_core.proofs.Examples.MoreWrongRows.{noted_class_is_not_its}
use Rattle.sh_core.proofs.Examples.MoreWrongRows.{noted_length_is_not_its}
use Rattle.sh_core.proofs.Examples.MoreWrongRows.{count_goes_below_0}
use Rattle.sh_core.proofs.Examples.MoreWrongRows.{long_value_does_not_fit}
use Rattle.sh_core.proofs.Examples.MoreWrongRows.{bell_names_no_page}
use Rattle.sh_core.proofs.Examples.MoreWrongRows.{step_is_outside}
use Rattle.sh_core.proofs.Examples.MoreWrongRows.{page_under_it_is_lost}
use Rattle.sh_core.proofs.Examples.MoreWrongRows.{sixth_count_is_too_many}
use Rattle.sh_core.proofs.Examples.MoreWrongRows.{page_has_a_slot_too_many}
use Rattle.sh_core.proofs.Examples.MoreWrongRows.{fourth_generation_is_no_key}
use Rattle.sh_core.proofs.Examples.MoreWrongRows.{early_link_names_nothing}
use Rattle.sh_core.proofs.Examples.MoreWrongRows.{noted_class_is_read_by}
use Rattle.sh_core.proofs.Examples.MoreWrongRows.{fourth_generation_is_issued}
use Rattle.sh_core.proofs.Examples.MoreWrongRows.{end_of_a_word_is_no_word}
use Rattle.sh_core.proofs.Examples.LookRows.{removed_key_is_seen, another_value_is_seen, another_class_is_seen}
use Rattle.sh_core.proofs.Examples.LookRows.{early_key_is_gone}
use Rattle.sh_core.proofs.Examples.EndRows.{end_comes_under_a_hold, another_key_ends, next_value_is_read}
use Rattle.sh_core.proofs.Examples.EndRows.{key_ends_again}
use Rattle.sh_core.proofs.refuted.refutes_more_wrong_tables.Goals as goal

pub returns-clause-retires_early : goal.returns-clause-retires_early
returns-clause-retires_early c = first_is_not_last

pub returns-clause-skips_generation : goal.returns-clause-skips_generation
returns-clause-skips_generation c = skipped_was_never_issued

pub returns-clause-adopts_taken : goal.returns-clause-adopts_taken
returns-clause-adopts_taken c = two_own_one

pub returns-clause-leaves_slots_shardless : goal.returns-clause-leaves_slots_shardless
returns-clause-leaves_slots_shardless c = leaver_has_slots

pub returns-clause-leaves_bell_armed : goal.returns-clause-leaves_bell_armed
returns-clause-leaves_bell_armed c = left_page_is_armed

pub returns-clause-leaves_cursors : goal.returns-clause-leaves_cursors
returns-clause-leaves_cursors c = left_page_has_a_cursor

pub returns-clause-publishes_next : goal.returns-clause-publishes_next
returns-clause-publishes_next c = live_key_was_not_issued

pub returns-clause-keeps_hold : goal.returns-clause-keeps_hold
returns-clause-keeps_hold c = released_is_held

pub returns-clause-fills_any_slot : goal.returns-clause-fills_any_slot
returns-clause-fills_any_slot c = held_value_changes

pub returns-clause-reads_wrong_class : goal.returns-clause-reads_wrong_class
returns-clause-reads_wrong_class c = noted_class_is_not_its

pub returns-clause-reads_wrong_length : goal.returns-clause-reads_wrong_length
returns-clause-reads_wrong_length c = noted_length_is_not_its

pub returns-clause-enters_uncounted : goal.returns-clause-enters_uncounted
returns-clause-enters_uncounted c = count_goes_below_0

pub returns-clause-fits_any_length : goal.returns-clause-fits_any_length
returns-clause-fits_any_length c = long_value_does_not_fit

pub returns-clause-rings_far : goal.returns-clause-rings_far
returns-clause-rings_far c = bell_names_no_page

pub returns-clause-leaves_elsewhere : goal.returns-clause-leaves_elsewhere
returns-clause-leaves_elsewhere c = step_is_outside

pub returns-clause-ties_ring_as_end : goal.returns-clause-ties_ring_as_end
returns-clause-ties_ring_as_end c = page_under_it_is_lost

pub returns-clause-ignores_room_count : goal.returns-clause-ignores_room_count
returns-clause-ignores_room_count c = sixth_count_is_too_many

pub returns-clause-forgets_last_slot_filled : goal.returns-clause-forgets_last_slot_filled
returns-clause-forgets_last_slot_filled c = page_has_a_slot_too_many

pub returns-clause-never_retires_fills : goal.returns-clause-never_retires_fills
returns-clause-never_retires_fills c = fourth_generation_is_no_key

pub returns-clause-ties_first_links : goal.returns-clause-ties_first_links
returns-clause-ties_first_links c = early_link_names_nothing

pub returns-clause-reads_wrong_class_words : goal.returns-clause-reads_wrong_class_words
returns-clause-reads_wrong_class_words c = noted_class_is_read_by

pub returns-clause-never_retires_issues : goal.returns-clause-never_retires_issues
returns-clause-never_retires_issues c = fourth_generation_is_issued

pub returns-clause-ends_whole_word : goal.returns-clause-ends_whole_word
returns-clause-ends_whole_word c = end_of_a_word_is_no_word

pub returns-clause-trusts_the_first_load : goal.returns-clause-trusts_the_first_load
returns-clause-trusts_the_first_load c = removed_key_is_seen

pub returns-clause-sees_at_once : goal.returns-clause-sees_at_once
returns-clause-sees_at_once c = another_value_is_seen

pub returns-clause-looks_at_a_head : goal.returns-clause-looks_at_a_head
returns-clause-looks_at_a_head c = another_class_is_seen

pub returns-clause-is_gone_early : goal.returns-clause-is_gone_early
returns-clause-is_gone_early c = early_key_is_gone

pub returns-clause-ends_under_holds : goal.returns-clause-ends_under_holds
returns-clause-ends_under_holds c = end_comes_under_a_hold

pub returns-clause-ends_another_key : goal.returns-clause-ends_another_key
returns-clause-ends_another_key c = another_key_ends

pub returns-clause-reads_next_value : goal.returns-clause-reads_next_value
returns-clause-reads_next_value c = next_value_is_read

pub returns-clause-leaves_marked_word : goal.returns-clause-leaves_marked_word
returns-clause-leaves_marked_word c = key_ends_again
