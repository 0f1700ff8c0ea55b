-- A worked end; wrong tables of ends, and which clause each breaks.
use Rattle.std.proofs.Common.{◌≡◌, ℕ, List, [], ◌∷◌, ◌++◌, refl, ap, arith, Some, false, true, length}
use Rattle.sh_slots.specs.declared.hand.Hand.TheVariants.{Finishing}
use Rattle.sh_slots.specs.declared.hand.Sight.TheVariants.{Bare, Measured}
use Rattle.sh_step.specs.declared.action.Action.TheVariants.{EnterGet, EnterRemove, Mark, Drop, ReadEnding, Finish}
use Rattle.sh_step.specs.declared.action.Action.TheVariants.{FillSlot, Fill, Publish}
use Rattle.sh_step.specs.declared.action.Event.{Event}
use Rattle.sh_core.specs.EndRows.{ends_under_holds, ends_another_key, reads_next_value, leaves_marked_word, EndsOnceBy}
use Rattle.sh_core.specs.KeyEnds.{ending_of, EndsAreTrue}
use Rattle.sh_core.specs.Stacks.{slot_ref}
use Rattle.sh_core.specs.Variants.{step_by, run_from_by, list_step_by, lists_from_by, AlwaysBy}
use Rattle.sh_core.specs.Worlds.{run}
use Rattle.sh_core.proofs.Examples.Worked.{small, ev, slot, three_slots, again, everything}
use Rattle.sh_core.proofs.Examples.WrongRows.{refuted, inserted, owner}

ending_wrongly : ℕ
unfolding everything step_by run_from_by list_step_by lists_from_by ending_of ends_under_holds ends_another_key
    reads_next_value leaves_marked_word
ending_wrongly = 0

-- pass 1, whose get of an older key was refused, ends the key that pass 0 removed, and has read its value 6
late_end : ending_of (run (small 2) (again ++ ev 1 Drop ∷ ev 1 ReadEnding ∷ ev 1 ReadEnding ∷ ev 1 ReadEnding ∷ []))
    (ev 1 Finish)
    ≡ Some (record { name = record { page = 0; slot = 0; generation = 2 }; sight = Measured 8 1 (6 ∷ []) })
unfolding everything ending_of
late_end = refl

-- pass 0 removes a key that pass 1 holds
pub end_comes_under_a_hold : ¬ AlwaysBy ends_under_holds (λ plan w l. EndsAreTrue plan w)
unfolding ending_wrongly
end_comes_under_a_hold = refuted ends_under_holds (λ plan w l. EndsAreTrue plan w) 2 (omega arith) (omega arith)
    (three_slots ++ inserted 0 ++ ev 1 (EnterGet 4096) ∷ ev 0 (EnterRemove 4096) ∷ ev 0 Mark ∷ ev 0 Drop ∷ [])
    (λ h. let z : 1 ≡ 0 = (h.begun 0 (record owner { hand = Finishing (slot_ref 0 0) 1 Bare }) refl).unheld
    in absurd (omega arith))

pub another_key_ends : ¬ AlwaysBy ends_another_key (λ plan w l. EndsAreTrue plan w)
unfolding ending_wrongly
another_key_ends = refuted ends_another_key (λ plan w l. EndsAreTrue plan w) 1 (omega arith) (omega arith)
    (three_slots ++ inserted 0 ++ ev 0 (EnterRemove 4096) ∷ ev 0 Mark ∷ ev 0 Drop ∷ [])
    (λ h. let z : false ≡ true = (h.begun 0 (record owner { hand = Finishing (slot_ref 0 0) 2 Bare }) refl).removed
    in cc)

-- the value 5 ends, and the next slot has no value
abbrev five_ends : List Event
five_ends = three_slots ++ ev 0 (FillSlot (slot 0 0 0) (5 ∷ [])) ∷ ev 0 Fill ∷ ev 0 Publish ∷ ev 0 (EnterRemove 4096) ∷
    ev 0 Mark ∷ ev 0 Drop ∷ ev 0 ReadEnding ∷ ev 0 ReadEnding ∷ []

pub next_value_is_read : ¬ AlwaysBy reads_next_value (λ plan w l. EndsAreTrue plan w)
unfolding ending_wrongly
next_value_is_read = refuted reads_next_value (λ plan w l. EndsAreTrue plan w) 1 (omega arith) (omega arith) five_ends
    (λ h.
    let t = h.begun 0 (record owner { hand = Finishing (slot_ref 0 0) 1 (Measured 8 0 []) }) refl in
    let is : Some (5 ∷ []) ≡ Some t.value = t.issued in
    let same : 5 ∷ [] ≡ t.value = cc in
    let many : 1 ≡ length t.value = ap length same in
    let z : 0 ≡ length t.value = (t.sees refl).1 in absurd (omega arith))

-- a second Finish finds the word again
pub key_ends_again : ¬ AlwaysBy leaves_marked_word (λ plan w l. EndsOnceBy leaves_marked_word plan w)
unfolding ending_wrongly
key_ends_again = refuted leaves_marked_word (λ plan w l. EndsOnceBy leaves_marked_word plan w) 1 (omega arith)
    (omega arith) (three_slots ++ inserted 0 ++ ev 0 (EnterRemove 4096) ∷ ev 0 Mark ∷ ev 0 Drop ∷ [])
    (λ h. let z : 0 ≡ 1 = h (ev 0 Finish) (record { page = 0; slot = 0; generation = 1 }) in absurd (omega arith))
