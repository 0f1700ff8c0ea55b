-- More wrong tables, and which clause each breaks.
use Rattle.std.proofs.Common.{◌≡◌, ℕ, ◌+◌, ◌<◌, ◌≤◌, ◌⊎◌, List, [], ◌∷◌, ◌++◌, refl, sym, ◌∙◌, subst, arith}
use Rattle.std.proofs.Common.{Option, Some, None, slice_get, ⊎_elim}
use Rattle.std.specs.Prelude.{IsSome}
use Rattle.sh_history.specs.History.{value_of}
use Rattle.sh_slots.specs.declared.hand.KeyRef.{KeyRef}
use Rattle.sh_slots.specs.declared.hand.Hand.TheVariants.{Leaving, Finishing, Filling}
use Rattle.sh_step.specs.declared.action.Action.TheVariants.{EnterGet, EnterRemove, DropHold, FillSlot, Fill, Publish}
use Rattle.sh_step.specs.declared.action.Action.TheVariants.{Drop, Mark, Finish, ReadClass, ReadLength, ReadPage}
use Rattle.sh_step.specs.declared.action.Action.TheVariants.{SetClass, Take, Adopt, Leave, Arm, Ring, RingTie}
use Rattle.sh_step.specs.declared.action.Event.{Event}
use Rattle.sh_step.specs.declared.body.Body.{Body}
use Rattle.sh_step.specs.Parts.{newcomer}
use Rattle.sh_step.specs.Plans.{Plan}
use Rattle.sh_step.specs.Rows.{drop_hand, finish, publish}
use Rattle.sh_core.specs.Follows.{Filled, ReadsWithin, LeftEmpty, EachLinked}
use Rattle.sh_core.specs.InHeap.{StepsWithin, CountsFit, BellsAreSmall, ValuesFit, StoresWords, IssuesKeys}
use Rattle.sh_core.specs.Lists.{times}
use Rattle.sh_core.specs.Refines.{HeldKeysAreValid, NotesAreTrue, HoldsMatchLog, CountIsFew, PastIsRemoved}
use Rattle.sh_core.specs.Refines.{KeysMatchLog, RetiredIsLast, OneOwner, ShardlessHaveNothing, Linked}
use Rattle.sh_core.specs.Refines.{FillsAreKeys}
use Rattle.sh_core.specs.Stacks.{slot_ref}
use Rattle.sh_core.specs.Variants.{step_by, run_from_by, run_by, list_step_by, lists_from_by, AlwaysBy}
use Rattle.sh_core.specs.Worlds.{World, value_at}
use Rattle.sh_core.specs.WrongRows.{ignores_room, forgets_last_slot, never_retires, leaves_slots, leaves_bell}
use Rattle.sh_core.specs.WrongRows.{ties_first}
use Rattle.sh_core.specs.MoreWrongRows.{retires_early, skips_generation, adopts_taken, leaves_cursors, publishes_next}
use Rattle.sh_core.specs.MoreWrongRows.{keeps_hold, fills_any_slot, reads_wrong_class, reads_wrong_length}
use Rattle.sh_core.specs.MoreWrongRows.{enters_uncounted, fits_any_length, rings_far, leaves_elsewhere}
use Rattle.sh_core.specs.MoreWrongRows.{ties_ring_as_end, ends_whole_word}
use Rattle.sh_core.proofs.Examples.Worked.{small, ev, slot, page, three_slots, everything}
use Rattle.sh_core.proofs.Examples.WrongRows.{refuted, inserted, removed, put_back, putting, ringing, owner}
use Rattle.sh_slots.specs.declared.hand.Sight.TheVariants.{Bare}

more_wrongly : ℕ
unfolding everything step_by run_from_by list_step_by lists_from_by retires_early skips_generation adopts_taken
    leaves_cursors publishes_next keeps_hold fills_any_slot reads_wrong_class reads_wrong_length enters_uncounted
    fits_any_length rings_far leaves_elsewhere ties_ring_as_end ends_whole_word ignores_room forgets_last_slot
    never_retires leaves_slots leaves_bell ties_first
more_wrongly = 0

abbrev first : ℕ → KeyRef
first g = record { page = 0; slot = 0; generation = g }

pub first_is_not_last : ¬ AlwaysBy retires_early (λ plan w l. RetiredIsLast plan w)
unfolding more_wrongly
first_is_not_last = refuted retires_early (λ plan w l. RetiredIsLast plan w) 1 (omega arith) (omega arith)
    (three_slots ++ inserted 0 ++ removed 0 4096)
    (λ h. let z : 1 ≡ 3 = h (slot_ref 0 0) refl refl in absurd (omega arith))

pub skipped_was_never_issued : ¬ AlwaysBy skips_generation (λ plan w l. PastIsRemoved plan w)
unfolding more_wrongly
skipped_was_never_issued = refuted skips_generation (λ plan w l. PastIsRemoved plan w) 1 (omega arith) (omega arith)
    (three_slots ++ inserted 0 ++ removed 0 4096)
    (λ h. let low : 2 < 3 = omega arith in let n : Option (List ℕ) = None in
    let z : IsSome n = (h 8192 (first 2) refl low).0 in cc)

pub two_own_one : ¬ AlwaysBy adopts_taken (λ plan w l. OneOwner w)
unfolding more_wrongly
two_own_one = refuted adopts_taken (λ plan w l. OneOwner w) 2 (omega arith) (omega arith)
    (ev 0 (Adopt 0) ∷ ev 1 (Adopt 0) ∷ [])
    (λ h. let z : 0 ≡ 1 = h.alone 0 1 (record newcomer { owned = Some 0 }) (record newcomer { owned = Some 0 }) 0 refl
    refl refl refl in absurd (omega arith))

pub leaver_has_slots : ¬ AlwaysBy leaves_slots (λ plan w l. ShardlessHaveNothing w)
unfolding more_wrongly
leaver_has_slots = refuted leaves_slots (λ plan w l. ShardlessHaveNothing w) 1 (omega arith) (omega arith)
    (three_slots ++ ev 0 Leave ∷ [])
    (λ h. let z : slot_ref 0 0 ∷ slot_ref 0 1 ∷ slot_ref 0 2 ∷ [] ≡ [] = (h 0 (record newcomer {
      classes = (0, 8) ∷ (0, 0) ∷ [];
      mine = slot_ref 0 0 ∷ slot_ref 0 1 ∷ slot_ref 0 2 ∷ [];
    }) refl refl).0 in cc)

pub left_page_is_armed : ¬ AlwaysBy leaves_bell (λ plan w l. LeftEmpty plan w)
unfolding more_wrongly
left_page_is_armed = refuted leaves_bell (λ plan w l. LeftEmpty plan w) 2 (omega arith) (omega arith) ringing
    (λ h. let z : 1 ≡ 0 = (h 0 refl).2 0 refl in absurd (omega arith))

pub left_page_has_a_cursor : ¬ AlwaysBy leaves_cursors (λ plan w l. LeftEmpty plan w)
unfolding more_wrongly
left_page_has_a_cursor = refuted leaves_cursors (λ plan w l. LeftEmpty plan w) 2 (omega arith) (omega arith)
    (three_slots ++ inserted 0 ++ inserted 1 ++ inserted 2 ++ put_back 1 4096 ++ ev 0 (Take (page 0 0)) ∷
    ev 0 Leave ∷ [])
    (λ h. let z : 1 ≡ 0 = (h 0 refl).1 0 0 refl in absurd (omega arith))

pub live_key_was_not_issued : ¬ AlwaysBy publishes_next (λ plan w l. KeysMatchLog plan w)
unfolding more_wrongly
live_key_was_not_issued = refuted publishes_next (λ plan w l. KeysMatchLog plan w) 1 (omega arith) (omega arith)
    (three_slots ++ inserted 0)
    (λ h. let z : None ≡ Some [] = (h 4096 (first 1) refl).issued refl refl in cc)

pub released_is_held : ¬ AlwaysBy keeps_hold (λ plan w l. HoldsMatchLog w)
unfolding more_wrongly
released_is_held = refuted keeps_hold (λ plan w l. HoldsMatchLog w) 1 (omega arith) (omega arith)
    (three_slots ++ inserted 0 ++ ev 0 (EnterGet 4096) ∷ ev 0 (DropHold 4096) ∷ [])
    (λ h. let z : 1 ≡ 1 + 1 = h.together 4096 in absurd (omega arith))

-- the words of a held key with this name are its value
stored : (plan : Plan) (w : World) (a : ℕ) (p : Body) (k : ℕ) (n : KeyRef) → HeldKeysAreValid plan w
    → slice_get w.parts a
    ≡ Some p → 0 < times k p.holds → plan.keys.unpack k ≡ Some n
    → value_of w.log k ≡ Some (value_at w.words n.page n.slot)
stored plan w a p k n h at some name =
    let s = h a p k at some in
    let e : Some s.name ≡ Some n = sym s.unpacks ∙ name in
    let i : s.name ≡ n = cc in
    let P : KeyRef → Type 0 = λ y. value_of w.log k ≡ Some (value_at w.words y.page y.slot) in subst P i s.value

abbrev refilling : List Event
refilling = three_slots ++ ev 0 (FillSlot (slot 0 0 0) (5 ∷ [])) ∷ ev 0 Fill ∷ ev 0 Publish ∷ ev 0 (EnterGet 4096) ∷
    ev 0 (FillSlot (slot 0 0 0) (6 ∷ [])) ∷ ev 0 Fill ∷ []

pub held_value_changes : ¬ AlwaysBy fills_any_slot (λ plan w l. HeldKeysAreValid plan w)
unfolding more_wrongly
held_value_changes = refuted fills_any_slot (λ plan w l. HeldKeysAreValid plan w) 1 (omega arith) (omega arith)
    refilling
    (λ h.
    let some : 0 < 1 = omega arith in
    let z : Some (5 ∷ []) ≡ Some (6 ∷ []) = stored (small 1) (run_by fills_any_slot (small 1) refilling) 0
    (record owner { holds = 4096 ∷ []; hand = Filling (slot_ref 0 0) (6 ∷ []) 1 }) 4096 (first 1) h refl some refl in
    absurd (let no : ⊥ = cc in no))

pub noted_class_is_not_its : ¬ AlwaysBy reads_wrong_class (λ plan w l. NotesAreTrue plan w)
unfolding more_wrongly
noted_class_is_not_its = refuted reads_wrong_class (λ plan w l. NotesAreTrue plan w) 1 (omega arith) (omega arith)
    (three_slots ++ inserted 0 ++ ev 0 (EnterGet 4096) ∷ ev 0 (ReadClass 4096) ∷ [])
    (λ h. let z : 8 ≡ 0 = ((h 0 (record owner { holds = 4096 ∷ []; class_words = (4096, 0) ∷ [] }) refl).class_words
    4096 0 refl).1 (first 1) refl in absurd (omega arith))

pub noted_length_is_not_its : ¬ AlwaysBy reads_wrong_length (λ plan w l. NotesAreTrue plan w)
unfolding more_wrongly
noted_length_is_not_its = refuted reads_wrong_length (λ plan w l. NotesAreTrue plan w) 1 (omega arith) (omega arith)
    (three_slots ++ ev 0 (FillSlot (slot 0 0 0) (5 ∷ [])) ∷ ev 0 Fill ∷ ev 0 Publish ∷ ev 0 (EnterGet 4096) ∷
    ev 0 (ReadLength 4096) ∷ [])
    (λ h. let z : 1 ≡ 0 = ((h 0 (record owner { holds = 4096 ∷ []; lengths = (4096, 0) ∷ [] }) refl).lengths
    4096 0 refl).1 (5 ∷ []) refl in absurd (omega arith))

abbrev latecomer : Body
latecomer = record newcomer {
  owned = Some 0;
  classes = (0, 8) ∷ (0, 0) ∷ [];
  mine = slot_ref 0 0 ∷ slot_ref 0 1 ∷ slot_ref 0 2 ∷ [];
  hand = Leaving (slot_ref 0 0);
}

pub count_goes_below_0 : ¬ AlwaysBy enters_uncounted (λ plan w l. CountsFit plan w)
unfolding more_wrongly
count_goes_below_0 = refuted enters_uncounted (λ plan w l. CountsFit plan w) 1 (omega arith) (omega arith)
    (three_slots ++ ev 0 (EnterGet 4096) ∷ [])
    (λ h. let z : 1 ≤ 0 = h 0 latecomer Drop (drop_hand latecomer (slot_ref 0 0)) refl refl in absurd (omega arith))

-- seventeen words
abbrev long : List ℕ
long = 1 ∷ 2 ∷ 3 ∷ 4 ∷ 5 ∷ 6 ∷ 7 ∷ 8 ∷ 9 ∷ 10 ∷ 11 ∷ 12 ∷ 13 ∷ 14 ∷ 15 ∷ 16 ∷ 17 ∷ []

abbrev four_fills : List Event
four_fills = ev 0 Fill ∷ ev 0 Fill ∷ ev 0 Fill ∷ ev 0 Fill ∷ []

pub long_value_does_not_fit : ¬ AlwaysBy fits_any_length (λ plan w l. ValuesFit plan w)
unfolding more_wrongly
long_value_does_not_fit = refuted fits_any_length (λ plan w l. ValuesFit plan w) 1 (omega arith) (omega arith)
    (three_slots ++ ev 0 (FillSlot (slot 0 0 0) long) ∷ ev 0 Fill ∷ four_fills ++ four_fills ++ four_fills
    ++ four_fills ++ ev 0 Publish ∷ [])
    (λ h. let z : 17 ≤ 16 = (h (slot_ref 0 0) refl).4 in absurd (omega arith))

pub bell_names_no_page : ¬ AlwaysBy rings_far (λ plan w l. BellsAreSmall plan w)
unfolding more_wrongly
bell_names_no_page = refuted rings_far (λ plan w l. BellsAreSmall plan w) 2 (omega arith) (omega arith)
    (three_slots ++ inserted 0 ++ ev 0 (Arm (page 0 0)) ∷ put_back 1 4096 ++ ev 1 Ring ∷ [])
    (λ h. let z : 101 ≤ 8 = h.0 0 in absurd (omega arith))

abbrev stray : Body
stray = record newcomer { hand = Leaving (slot_ref 100 0) }

pub step_is_outside : ¬ AlwaysBy leaves_elsewhere (λ plan w l. StepsWithin plan w)
unfolding more_wrongly
step_is_outside = refuted leaves_elsewhere (λ plan w l. StepsWithin plan w) 2 (omega arith) (omega arith)
    (three_slots ++ ev 1 (EnterRemove 4096) ∷ [])
    (λ h. let z : 100 < 8 = (h 1 stray Drop (drop_hand stray (slot_ref 100 0)) refl refl).0 in absurd (omega arith))

-- two pages on one bell
pub page_under_it_is_lost : ¬ AlwaysBy ties_ring_as_end (λ plan w l. Linked plan w l)
unfolding more_wrongly
page_under_it_is_lost = refuted ties_ring_as_end (λ plan w l. Linked plan w l) 2 (omega arith) (omega arith)
    (three_slots ++ inserted 0 ++ ev 0 (ReadPage (page 0 1)) ∷ ev 0 (SetClass (page 0 1) 7) ∷
    ev 0 (FillSlot (slot 0 1 0) []) ∷ ev 0 Publish ∷ ev 0 (Arm (page 0 0)) ∷ ev 0 (Arm (page 0 1)) ∷ put_back 1 4096
    ++ ev 1 Ring ∷ ev 1 RingTie ∷ put_back 1 4160 ++ ev 1 Ring ∷ ev 1 RingTie ∷ [])
    (λ h. let z : 1 ≡ 2 = (h.1.stacks 0).0 in absurd (omega arith))

pub sixth_count_is_too_many : ¬ AlwaysBy ignores_room (λ plan w l. CountIsFew plan w)
unfolding more_wrongly
sixth_count_is_too_many = refuted ignores_room (λ plan w l. CountIsFew plan w) 1 (omega arith) (omega arith)
    (three_slots ++ inserted 0 ++ ev 0 (EnterGet 4096) ∷ ev 0 (EnterGet 4096) ∷ ev 0 (EnterGet 4096) ∷
    ev 0 (EnterGet 4096) ∷ ev 0 (EnterGet 4096) ∷ ev 0 (EnterGet 4096) ∷ [])
    (λ h. let z : 6 ≤ 5 = h (slot_ref 0 0) in absurd (omega arith))

pub page_has_a_slot_too_many : ¬ AlwaysBy forgets_last_slot (λ plan w l. Filled w l)
unfolding more_wrongly
page_has_a_slot_too_many = refuted forgets_last_slot (λ plan w l. Filled w l) 1 (omega arith) (omega arith)
    (three_slots ++ inserted 2 ++ ev 0 (SetClass (page 0 0) 6) ∷ [])
    (λ h. let z : 5 ≡ 4 = h 0 in absurd (omega arith))

pub fourth_generation_is_no_key : ¬ AlwaysBy never_retires (λ plan w l. FillsAreKeys plan w)
unfolding more_wrongly
fourth_generation_is_no_key = refuted never_retires (λ plan w l. FillsAreKeys plan w) 1 (omega arith) (omega arith)
    (three_slots ++ inserted 0 ++ removed 0 4096 ++ inserted 0 ++ removed 0 8192 ++ inserted 0 ++ removed 0 12288
    ++ ev 0 (FillSlot (slot 0 0 0) []) ∷ [])
    (λ h. let z : None ≡ Some (first 4) = h 0 (record owner { hand = Filling (slot_ref 0 0) [] 0 }) (slot_ref 0 0) [] 0
    refl refl in cc)

pub early_link_names_nothing : ¬ AlwaysBy ties_first (λ plan w l. EachLinked plan w l)
unfolding more_wrongly
early_link_names_nothing = refuted ties_first (λ plan w l. EachLinked plan w l) 2 (omega arith) (omega arith) putting
    (λ h.
    let one : ((1 ≡ 0) × (0 ≡ 1)) ⊎ ((1 ≡ 2) × (0 ≡ 0)) = (h.stack 0).0 in
    ⊎_elim (λ a. let z = a.0 in absurd (omega (arith, z))) (λ b. let z = b.0 in absurd (omega (arith, z))) one)

-- the class word that was noted of the key is 0, and that of its page is 8
pub noted_class_is_read_by : ¬ AlwaysBy reads_wrong_class (λ plan w l. ReadsWithin plan w)
unfolding more_wrongly
noted_class_is_read_by = refuted reads_wrong_class (λ plan w l. ReadsWithin plan w) 1 (omega arith) (omega arith)
    (three_slots ++ ev 0 (FillSlot (slot 0 0 0) (5 ∷ [])) ∷ ev 0 Fill ∷ ev 0 Publish ∷ ev 0 (EnterGet 4096) ∷
    ev 0 (ReadClass 4096) ∷ ev 0 (ReadLength 4096) ∷ [])
    (λ h. let some : 0 < 1 = omega arith in
    let z : 0 ≡ 8 = (h 0 (record owner {
      holds = 4096 ∷ [];
      class_words = (4096, 0) ∷ [];
      lengths = (4096, 1) ∷ [];
    }) 4096 (first 1) 0 1 0 refl refl refl refl some).0 in absurd (omega arith))

-- a value is about to be published in a fourth generation
abbrev publisher : Body
publisher = record owner { hand = Filling (slot_ref 0 0) [] 0 }

pub fourth_generation_is_issued : ¬ AlwaysBy never_retires (λ plan w l. IssuesKeys plan w)
unfolding more_wrongly
fourth_generation_is_issued = refuted never_retires (λ plan w l. IssuesKeys plan w) 1 (omega arith) (omega arith)
    (three_slots ++ inserted 0 ++ removed 0 4096 ++ inserted 0 ++ removed 0 8192 ++ inserted 0 ++ removed 0 12288
    ++ ev 0 (FillSlot (slot 0 0 0) []) ∷ [])
    (λ h. let z : None ≡ Some (first 4) = h 0 publisher Publish (publish (small 1) publisher (slot_ref 0 0) []) 16384 []
    0 0 refl refl refl refl in cc)

-- the state word of a marked slot in its first generation, on which one pass is left
abbrev left_word : ℕ
left_word = 7516192769

abbrev finisher : Body
finisher = record owner { hand = Finishing (slot_ref 0 0) left_word Bare }

pub end_of_a_word_is_no_word : ¬ AlwaysBy ends_whole_word (λ plan w l. StoresWords plan w)
unfolding more_wrongly
end_of_a_word_is_no_word = refuted ends_whole_word (λ plan w l. StoresWords plan w) 1 (omega arith) (omega arith)
    (three_slots ++ inserted 0 ++ ev 0 (EnterRemove 4096) ∷ ev 0 Mark ∷ ev 0 Drop ∷ [])
    (λ h. let z : 32281802137581649920 < 18446744073709551616 = h 0 finisher Finish
    (finish (small 1) finisher (slot_ref 0 0) left_word) refl refl in absurd (omega arith))
