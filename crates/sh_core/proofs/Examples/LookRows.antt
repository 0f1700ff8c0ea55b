-- Wrong tables of looks, and which clause each breaks.
use Rattle.std.proofs.Common.{◌≡◌, ℕ, ◌≤◌, List, [], ◌∷◌, ◌++◌, refl, sym, subst, arith, Some, None, true, false, cond}
use Rattle.sh_history.specs.declared.entry.Entry.TheVariants.{Insert, Removed, Seen}
use Rattle.sh_history.specs.History.{Legal}
use Rattle.sh_slots.specs.declared.hand.KeyRef.{KeyRef}
use Rattle.sh_slots.specs.declared.hand.Hand.TheVariants.{Looking}
use Rattle.sh_slots.specs.declared.hand.Sight.TheVariants.{Classed}
use Rattle.sh_slots.specs.declared.reply.Reply.TheVariants as reply
use Rattle.sh_slots.specs.Slots.{live_at}
use Rattle.sh_step.specs.declared.action.Action.TheVariants.{EnterRemove, Mark, Look, LookOn, LookAgain, FillSlot, Fill}
use Rattle.sh_step.specs.declared.action.Action.TheVariants.{Publish}
use Rattle.sh_step.specs.declared.action.Event.{Event}
use Rattle.sh_step.specs.Deciding.{DecidingReplies}
use Rattle.sh_step.specs.Parts.{newcomer}
use Rattle.sh_step.specs.Plans.{keys_of}
use Rattle.sh_step.specs.Rows.{Row, look}
use Rattle.sh_step.proofs.Truths.{no_bool}
use Rattle.sh_core.specs.Looks.{LooksAreTrue}
use Rattle.sh_core.specs.LookRows.{trusts_the_first_load, sees_at_once, looks_at_a_head, is_gone_early}
use Rattle.sh_core.specs.Variants.{step_by, run_from_by, run_by, list_step_by, lists_from_by, AlwaysBy}
use Rattle.sh_core.proofs.Examples.Worked.{small, ev, slot, three_slots, everything}
use Rattle.sh_core.proofs.Examples.WrongRows.{refuted, inserted, IsLegal}

looking_wrongly : ℕ
unfolding everything step_by run_from_by list_step_by lists_from_by trusts_the_first_load sees_at_once looks_at_a_head
looking_wrongly = 0

-- pass 1 looks at a key that pass 0 removes meanwhile
abbrev removed_meanwhile : List Event
removed_meanwhile = three_slots ++ inserted 0 ++ ev 1 (Look 4096) ∷ ev 0 (EnterRemove 4096) ∷ ev 0 Mark ∷ ev 1 LookOn ∷
    ev 1 LookOn ∷ ev 1 LookAgain ∷ []

seen_late : (run_by trusts_the_first_load (small 2) removed_meanwhile).log ≡ Insert 0 4096 [] ∷ Removed 0 4096 ∷
    Seen 1 4096 [] ∷ []
unfolding looking_wrongly
seen_late = refl

pub removed_key_is_seen : ¬ AlwaysBy trusts_the_first_load IsLegal
unfolding keys_of
removed_key_is_seen = refuted trusts_the_first_load IsLegal 2 (omega arith) (omega arith) removed_meanwhile
    (λ h. let t : Legal 2 4 (Insert 0 4096 [] ∷ Removed 0 4096 ∷ Seen 1 4096 [] ∷ []) = subst (Legal 2 4) seen_late h
    in let z : true ≡ false = t.1.1.0.1 in cc)

abbrev looked_at : List Event
looked_at = three_slots ++ ev 0 (FillSlot (slot 0 0 0) (5 ∷ [])) ∷ ev 0 Fill ∷ ev 0 Publish ∷ ev 1 (Look 4096) ∷ []

seen_empty : (run_by sees_at_once (small 2) looked_at).log ≡ Insert 0 4096 (5 ∷ []) ∷ Seen 1 4096 [] ∷ []
unfolding looking_wrongly
seen_empty = refl

pub another_value_is_seen : ¬ AlwaysBy sees_at_once IsLegal
unfolding keys_of
another_value_is_seen = refuted sees_at_once IsLegal 2 (omega arith) (omega arith) looked_at
    (λ h. let t : Legal 2 4 (Insert 0 4096 (5 ∷ []) ∷ Seen 1 4096 [] ∷ []) = subst (Legal 2 4) seen_empty h
    in let z : Some (5 ∷ []) ≡ Some [] = t.1.0.0 in cc)

abbrev looked_key : KeyRef
looked_key = record { page = 0; slot = 0; generation = 1 }

pub another_class_is_seen : ¬ AlwaysBy looks_at_a_head (λ plan w l. LooksAreTrue plan w)
unfolding looking_wrongly
another_class_is_seen = refuted looks_at_a_head (λ plan w l. LooksAreTrue plan w) 2 (omega arith) (omega arith)
    (three_slots ++ inserted 0 ++ ev 1 (Look 4096) ∷ ev 1 LookOn ∷ [])
    (λ h. let z : 0 ≡ 8 = (h 1 (record newcomer { hand = Looking 4096 looked_key (Classed 0) }) refl).sees refl
    in absurd (omega arith))

abbrev early_row : Row
early_row = record (look newcomer 4096 looked_key) { reply = λ n. cond (live_at 1 n) None (Some (reply.Gone 4096)) }

pub early_key_is_gone : ¬ DecidingReplies is_gone_early
unfolding everything is_gone_early
early_key_is_gone = λ h. let z : true ≡ false = h (small 1) newcomer (Look 4096) early_row 0 refl in no_bool (sym z)
