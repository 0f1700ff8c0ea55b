-- For each wrong table and each wider statement, a run that breaks it.
use Rattle.std.proofs.Common.{◌≡◌, ℕ, zero, suc, ◌+◌, ◌<◌, ◌≤◌, List, [], ◌∷◌, ◌++◌, refl, arith}
use Rattle.sh_step.specs.declared.action.Action.TheVariants.{EnterGet, EnterRemove, Mark, Drop, DropHold, Put, PutSlot, Tie, Arm}
use Rattle.sh_step.specs.declared.action.Action.TheVariants.{Ring, Adopt, ReadPage, SetClass}
use Rattle.sh_history.specs.declared.entry.Entry.TheVariants.{Gone}
use Rattle.sh_step.specs.declared.action.Event.{Event}
use Rattle.sh_core.specs.Lists.{PutLists}
use Rattle.sh_core.specs.MoreWrongRows.{keeps_hold}
use Rattle.sh_step.specs.Moves.{row}
use Rattle.sh_step.specs.Plans.{Plan}
use Rattle.sh_core.specs.Refines.{Always}
use Rattle.sh_core.specs.Variants.{AlwaysBy, step_by, run_from_by, run_by, list_step_by, lists_from_by, lists_by}
use Rattle.sh_core.specs.Worlds.{World}
use Rattle.sh_core.specs.WrongRows.{crowds_at_once, drops_and_forgets}
use Rattle.sh_core.proofs.Examples.Worked.{small, ev, slot, page, three_slots, everything}
use Rattle.sh_core.proofs.Examples.WrongRows.{refuted, inserted, removed, same_always}
use Rattle.sh_laws.specs.Garbage.{sum_below, cut_off, FewAreCutOff, GarbageIsFew}
use Rattle.sh_laws.specs.Refuted.{never_ties, never_ties_rings, ObjectIsAtomicBy, OnlyHoldsMatter, OrderByPassStays}
use Rattle.sh_laws.specs.Refuted.{RemovalsEndHolds, CrowdedIsFull, SixteenSuffice, SixtyThreeSuffice}

wrongly : ℕ
unfolding everything step_by run_from_by list_step_by lists_from_by drops_and_forgets crowds_at_once keeps_hold
    never_ties never_ties_rings sum_below cut_off
wrongly = 0

-- ---- wrong tables

-- a marked slot that no pass waits for
pub forgotten_slots_add_up : ¬ AlwaysBy drops_and_forgets GarbageIsFew
unfolding wrongly
forgotten_slots_add_up = refuted drops_and_forgets GarbageIsFew 1 (omega arith) (omega arith)
    (three_slots ++ inserted 0 ++ ev 0 (EnterRemove 4096) ∷ ev 0 Mark ∷ ev 0 Drop ∷ [])
    (λ h. let z : 1 ≤ 0 = h.together in absurd (omega arith))

-- a slot that is cut off, though no pass will tie it
pub untied_slot_is_cut_off : ¬ AlwaysBy never_ties FewAreCutOff
unfolding wrongly
untied_slot_is_cut_off = refuted never_ties FewAreCutOff 2 (omega arith) (omega arith)
    (three_slots ++ inserted 0 ++ removed 1 4096 ++ ev 1 Put ∷ []) (λ h. let z : 0 < 0 = h.by_ties 0 (omega arith)
    in absurd (omega arith))

-- the same of a page on a bell
pub untied_page_is_cut_off : ¬ AlwaysBy never_ties_rings FewAreCutOff
unfolding wrongly
untied_page_is_cut_off = refuted never_ties_rings FewAreCutOff 2 (omega arith) (omega arith)
    (three_slots ++ inserted 0 ++ ev 0 (Arm (page 0 0)) ∷ removed 1 4096 ++ ev 1 Put ∷ ev 1 Tie ∷ ev 1 Ring ∷ [])
    (λ h. let z : 0 < 0 = h.by_rings 0 (omega arith) in absurd (omega arith))

-- a hold that stays though it was released
pub released_hold_stays : ¬ AlwaysBy keeps_hold (ObjectIsAtomicBy keeps_hold)
unfolding wrongly
released_hold_stays = refuted keeps_hold (ObjectIsAtomicBy keeps_hold) 1 (omega arith) (omega arith)
    (three_slots ++ inserted 0 ++ ev 0 (EnterGet 4096) ∷ [])
    (λ h. let z : 1 ≡ 0 = (h (ev 0 (DropHold 4096))).1.holds 0 4096 in absurd (omega arith))

-- a get that is refused though its key has room
pub room_is_not_crowded : ¬ AlwaysBy crowds_at_once (ObjectIsAtomicBy crowds_at_once)
unfolding wrongly
room_is_not_crowded = refuted crowds_at_once (ObjectIsAtomicBy crowds_at_once) 1 (omega arith) (omega arith)
    (three_slots ++ inserted 0) (λ h. let z : 4 < 0 + 1 = (h (ev 0 (EnterGet 4096))).0.1 in absurd (omega arith))

-- ---- wider statements

abbrev right : (P : Plan → World → PutLists → Type 0) (n : ℕ) → 1 ≤ n → n ≤ 64 → (es : List Event)
    → ¬ P (small n) (run_by row (small n) es) (lists_by row (small n) es) → ¬ Always P
right P n some few es fails always = refuted row P n some few es fails (same_always P always)

-- f of each number below n
unfoldable each_below : (ℕ → List Event) → ℕ → List Event
each_below f zero = []
each_below f (suc n) = each_below f n ++ f n

-- a page of 48 slots, with a value in each of the first n; a pass gets and removes the first 16 of these
abbrev wide_page : ℕ → List Event
wide_page q = ev 0 (ReadPage (page 0 q)) ∷ ev 0 (SetClass (page 0 q) 0) ∷ []

abbrev held_and_removed : ℕ → List Event
held_and_removed n = ev 0 (Adopt 0) ∷ wide_page 0 ++ each_below inserted n
    ++ each_below (λ s. ev 0 (EnterGet (4096 + s)) ∷ []) 16
    ++ each_below (λ s. ev 0 (EnterRemove (4096 + s)) ∷ ev 0 Mark ∷ ev 0 Drop ∷ []) 16

-- one more slot is marked, by a pass that has 16 holds on others
pub seventeen_are_marked : ¬ Always SixteenSuffice
unfolding wrongly each_below
seventeen_are_marked = right SixteenSuffice 1 (omega arith) (omega arith)
    (held_and_removed 17 ++ ev 0 (EnterRemove 4112) ∷ ev 0 Mark ∷ [])
    (λ h. let z : 17 ≤ 16 = h in absurd (omega arith))

-- a whole page is cut off, by a pass that has 16 holds on another page
pub sixty_four_are_cut_off : ¬ Always SixtyThreeSuffice
unfolding wrongly each_below
sixty_four_are_cut_off = right SixtyThreeSuffice 1 (omega arith) (omega arith)
    (held_and_removed 16 ++ wide_page 1 ++ each_below (λ s. ev 0 (PutSlot (slot 0 1 s)) ∷ ev 0 Tie ∷ []) 47
    ++ ev 0 (PutSlot (slot 0 1 47)) ∷ []) (λ h. let z : 64 ≤ 63 = h in absurd (omega arith))

-- a slot whose key was just marked
pub remover_matters : ¬ Always OnlyHoldsMatter
unfolding wrongly
remover_matters = right OnlyHoldsMatter 1 (omega arith) (omega arith)
    (three_slots ++ inserted 0 ++ ev 0 (EnterRemove 4096) ∷ ev 0 Mark ∷ [])
    (λ h. let z : 1 ≤ 0 = h in absurd (omega arith))

-- pass 0 gets its first reply after pass 1
pub earlier_reply_comes_later : ¬ OrderByPassStays
unfolding wrongly
earlier_reply_comes_later stays =
    let h = stays (small 2) (ev 1 (EnterGet 4096) ∷ []) (ev 0 (EnterGet 4096) ∷ []) in
    let z : Gone 0 4096 ∷ Gone 1 4096 ∷ [] ≡ Gone 1 4096 ∷ h.0 = h.1 in
    let y : Gone 0 4096 ≡ Gone 1 4096 = cc in
    let x : ◌≡◌ {A = ℕ} 0 1 = cc in absurd (omega (arith, x))

-- a key that is held while another pass removes it
pub removed_key_is_held : ¬ Always RemovalsEndHolds
unfolding wrongly
removed_key_is_held = right RemovalsEndHolds 2 (omega arith) (omega arith)
    (three_slots ++ inserted 0 ++ ev 0 (EnterGet 4096) ∷ ev 1 (EnterRemove 4096) ∷ ev 1 Mark ∷ [])
    (λ h. let z : 1 ≡ 0 = h 0 4096 refl in absurd (omega arith))

-- a get while four passes are on the slot for a moment
pub crowded_without_holds : ¬ Always CrowdedIsFull
unfolding wrongly
crowded_without_holds = right CrowdedIsFull 5 (omega arith) (omega arith)
    (three_slots ++ inserted 0 ++ ev 1 (EnterRemove 4096) ∷ ev 2 (EnterRemove 4096) ∷ ev 3 (EnterRemove 4096) ∷
    ev 4 (EnterRemove 4096) ∷ [])
    (λ h. let z : 4 ≤ 0 = h (ev 0 (EnterGet 4096)) 0 4096 refl in absurd (omega arith))
