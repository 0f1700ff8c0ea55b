-- The theorem refuses wrong tables: for each table, a clause that some list of events breaks.
use Rattle.std.proofs.Common.{◌≡◌, ℕ, ◌+◌, ◌<◌, ◌≤◌, true, false, List, [], ◌∷◌, ◌++◌, refl, sym, ◌∙◌, subst, arith}
use Rattle.std.proofs.Common.{cond, Some, None, slice_get}
use Rattle.sh_history.specs.declared.entry.Entry.TheVariants.{Insert, Crowded, Removed}
use Rattle.sh_history.specs.History.{Legal}
use Rattle.sh_key.specs.Layouts.{tiny, tiny_numbers}
use Rattle.sh_slots.specs.declared.hand.KeyRef.{KeyRef}
use Rattle.sh_slots.specs.declared.hand.Hand.TheVariants.{Removing, Finishing}
use Rattle.sh_slots.specs.Slots.{slot_ref_of, live_at}
use Rattle.sh_step.specs.declared.action.Action.TheVariants.{EnterGet, EnterRemove, Mark, Drop, DropHold, Finish}
use Rattle.sh_step.specs.declared.action.Action.TheVariants.{FillSlot, Publish, ReadClass, ReadPage, SetClass, Take}
use Rattle.sh_step.specs.declared.action.Action.TheVariants.{Follow, Put, Tie, Adopt, Leave, Arm, Ring, RingTie}
use Rattle.sh_step.specs.declared.action.Action.TheVariants.{TakeBell}
use Rattle.sh_step.specs.declared.action.Event.{Event}
use Rattle.sh_step.specs.declared.body.Body.{Body}
use Rattle.sh_step.specs.Plans.{Plan, plan_of, keys_of}
use Rattle.sh_step.specs.Deciding.{DecidingReplies}
use Rattle.sh_step.specs.Moves.{row}
use Rattle.sh_step.specs.Rows.{Row, enter_get}
use Rattle.sh_core.specs.Worlds.{World, step, run_from, run, open_world}
use Rattle.sh_step.specs.Parts.{newcomer}
use Rattle.sh_core.specs.Lists.{PutLists, list_step, lists_from, lists_of, no_lists, state_of, times}
use Rattle.sh_core.specs.Stacks.{slot_ref}
use Rattle.sh_core.specs.Refines.{Always, OneKind, HeldKeysAreValid, NotesAreTrue, Counted, GenerationsEnd, Finished}
use Rattle.sh_core.specs.Refines.{Armed}
use Rattle.sh_core.specs.Follows.{LeftEmpty}
use Rattle.sh_core.specs.Refines.{Linked, OwnPartsAreValid, ClassesAreKnown, HoldsAreFew, FlaggedAreEmpty}
use Rattle.sh_core.specs.Refines.{KeysInHandName, GoesOn}
use Rattle.sh_core.specs.Variants.{Table, step_by, run_from_by, run_by, list_step_by, lists_from_by, lists_by, AlwaysBy}
use Rattle.sh_core.specs.WrongRows.{crowds_at_once, both_remove, marks_and_stays, drops_and_forgets, knows_after_hold}
use Rattle.sh_core.specs.WrongRows.{keeps_generation, ignores_count, wraps_generation, never_retires, ties_first}
use Rattle.sh_core.specs.WrongRows.{ends_at_unwritten, leaves_link, follows_twice, never_rings, leaves_slots}
use Rattle.sh_core.specs.WrongRows.{leaves_bell, forgets_last_slot, gives_any_class, ignores_room, never_answers_gone}
use Rattle.sh_core.specs.WrongRows.{remembers_generation, finish_again, tries_again, keeps_flag}
use Rattle.sh_step.proofs.Truths.{no_bool}
use Rattle.sh_core.proofs.Examples.Worked.{small, ev, slot, page, three_slots, everything}
use Rattle.sh_slots.specs.declared.hand.Sight.TheVariants.{Bare}

-- ---- a run by the right table is the run

same_from : (plan : Plan) (w : World) (l : PutLists) (es : List Event)
    → (run_from_by row plan w es ≡ run_from plan w es) × (lists_from_by row plan w l es ≡ lists_from plan w l es)
unfolding step_by step run_from_by run_from list_step_by list_step lists_from_by lists_from
same_from plan w l [] = (refl, refl)
same_from plan w l (e ∷ es) = same_from plan (step plan w e) (list_step plan w e l) es

pub same_run : (plan : Plan) (es : List Event) → (run_by row plan es ≡ run plan es)
    × (lists_by row plan es ≡ lists_of plan es)
same_run plan es = same_from plan (open_world plan) no_lists es

-- so what always holds, always holds by the right table
pub same_always : (P : Plan → World → PutLists → Type 0) → Always P → AlwaysBy row P
same_always P always layout shape a b c es =
    let plan : Plan = plan_of layout shape in
    let s = same_run plan es in rw (s.0, s.1) (always layout shape a b c es)

-- ---- one list of events in a tiny heap refutes that a clause always holds

abbrev pub IsLegal : Plan → World → PutLists → Type 0
IsLegal plan w l = Legal plan.passes plan.keys.guard_max w.log

pub refuted : (rows : Table) (P : Plan → World → PutLists → Type 0) (n : ℕ) → 1 ≤ n → n ≤ 64 → (es : List Event)
    → ¬ P (small n) (run_by rows (small n) es) (lists_by rows (small n) es) → ¬ AlwaysBy rows P
refuted rows P n some few es fails always = fails (always tiny (record { shards = 1; segments = 1; passes = n })
    tiny_numbers.lawful (record {
      some_shard = omega arith;
      some_segment = omega arith;
      few_segments = omega arith;
      some_pass = some;
      few_passes = few;
    }) (record { shards_fit = omega arith; pages_fit = omega arith }) es)

-- On a page of three slots: a value in one of them. A key that pass a removes, up to the end of its generation. The
-- same, up to its slot's place on the stack
abbrev pub inserted : ℕ → List Event
inserted s = ev 0 (FillSlot (slot 0 0 s) []) ∷ ev 0 Publish ∷ []

abbrev pub removed : ℕ → ℕ → List Event
removed a k = ev a (EnterRemove k) ∷ ev a Mark ∷ ev a Drop ∷ ev a Finish ∷ []

abbrev pub put_back : ℕ → ℕ → List Event
put_back a k = removed a k ++ ev a Put ∷ ev a Tie ∷ []

wrongly : ℕ
unfolding everything step_by run_from_by list_step_by lists_from_by crowds_at_once both_remove marks_and_stays
    drops_and_forgets knows_after_hold keeps_generation ignores_count wraps_generation never_retires ties_first
    ends_at_unwritten leaves_link follows_twice never_rings leaves_slots leaves_bell forgets_last_slot gives_any_class
    ignores_room never_answers_gone remembers_generation tries_again keeps_flag
wrongly = 0

-- a key is issued twice if the end of a generation leaves the generation
abbrev reissuing : List Event
reissuing = three_slots ++ inserted 0 ++ removed 0 4096 ++ inserted 0

reissued : (run_by keeps_generation (small 1) reissuing).log ≡ Insert 0 4096 [] ∷ Removed 0 4096 ∷ Insert 0 4096 [] ∷ []
unfolding wrongly
reissued = refl

pub kept_generation_issues_twice : ¬ AlwaysBy keeps_generation IsLegal
unfolding keys_of
kept_generation_issues_twice = refuted keeps_generation IsLegal 1 (omega arith) (omega arith) reissuing
    (λ h. let t : Legal 1 4 (Insert 0 4096 [] ∷ Removed 0 4096 ∷ Insert 0 4096 [] ∷ []) = subst (Legal 1 4) reissued h
    in let z : Some [] ≡ None = t.1.1.0 in cc)

-- the same if the first generation follows the last
abbrev wrapping : List Event
wrapping = three_slots ++ inserted 0 ++ removed 0 4096 ++ inserted 0 ++ removed 0 8192 ++ inserted 0 ++ removed 0 12288
    ++ inserted 0

wrapped : (run_by wraps_generation (small 1) wrapping).log ≡ Insert 0 4096 [] ∷ Removed 0 4096 ∷ Insert 0 8192 [] ∷
    Removed 0 8192 ∷ Insert 0 12288 [] ∷ Removed 0 12288 ∷ Insert 0 4096 [] ∷ []
unfolding wrongly
wrapped = refl

pub wrapped_generation_issues_twice : ¬ AlwaysBy wraps_generation IsLegal
unfolding keys_of
wrapped_generation_issues_twice = refuted wraps_generation IsLegal 1 (omega arith) (omega arith) wrapping
    (λ h. let t : Legal 1 4 (Insert 0 4096 [] ∷ Removed 0 4096 ∷ Insert 0 8192 [] ∷ Removed 0 8192 ∷ Insert 0 12288 [] ∷
    Removed 0 12288 ∷ Insert 0 4096 [] ∷ []) = subst (Legal 1 4) wrapped h in let z : Some []
    ≡ None = t.1.1.1.1.1.1.0 in cc)

-- the value of a held key with this name is in its slot
present : (plan : Plan) (w : World) (a : ℕ) (p : Body) (k : ℕ) (n : KeyRef) → HeldKeysAreValid plan w
    → slice_get w.parts a
    ≡ Some p → 0 < times k p.holds → plan.keys.unpack k ≡ Some n → (state_of w (slot_ref_of n)).present ≡ true
present plan w a p k n h at some name =
    let s = h a p k at some in
    let e : Some s.name ≡ Some n = sym s.unpacks ∙ name in
    let i : s.name ≡ n = cc in
    let P : KeyRef → Type 0 = λ y. (state_of w (slot_ref_of y)).present ≡ true in subst P i s.present

-- a held value is lost if a late end overwrites the state word
abbrev overwriting : List Event
overwriting = three_slots ++ inserted 0 ++ ev 1 (EnterRemove 4096) ∷ ev 1 Mark ∷ ev 1 Drop ∷ ev 0 (EnterGet 4096) ∷
    ev 0 Drop ∷ ev 0 Finish ∷ inserted 0 ++ ev 0 (EnterGet 8192) ∷ ev 1 Finish ∷ []

abbrev holder : Body
holder = record newcomer {
  holds = 8192 ∷ [];
  owned = Some 0;
  classes = (0, 8) ∷ (0, 0) ∷ [];
  mine = slot_ref 0 1 ∷ slot_ref 0 2 ∷ [];
}

pub ignored_count_loses_held : ¬ AlwaysBy ignores_count (λ plan w l. HeldKeysAreValid plan w)
unfolding wrongly
ignored_count_loses_held = refuted ignores_count (λ plan w l. HeldKeysAreValid plan w) 2 (omega arith) (omega arith)
    overwriting (λ h.
    let some : 0 < 1 = omega arith in
    let z : false ≡ true = present (small 2) (run_by ignores_count (small 2) overwriting) 0 holder 8192
    (record { page = 0; slot = 0; generation = 2 }) h refl some refl in no_bool z)

-- a link that is stored before its slot is put does not name the slot under it
abbrev pub putting : List Event
putting = three_slots ++ inserted 0 ++ inserted 1 ++ put_back 1 4096 ++ put_back 1 4097

pub early_link_is_wrong : ¬ AlwaysBy ties_first Linked
unfolding wrongly
early_link_is_wrong = refuted ties_first Linked 2 (omega arith) (omega arith) putting
    (λ h. let z : 1 ≡ 2 = (h.0.stacks 0).0 in absurd (omega arith))

-- the slots under a link that is not written yet are lost if it is taken for the end
abbrev following : List Event
following = three_slots ++ inserted 0 ++ inserted 1 ++ put_back 1 4096 ++ removed 1 4097 ++ ev 1 Put ∷
    ev 0 (Take (page 0 0)) ∷ ev 0 (Follow (page 0 0)) ∷ []

pub unwritten_end_loses_slots : ¬ AlwaysBy ends_at_unwritten Linked
unfolding wrongly
unwritten_end_loses_slots = refuted ends_at_unwritten Linked 2 (omega arith) (omega arith) following
    (λ h. let z : 0 ≡ 1 = h.0.cursors 0 1 in absurd (omega arith))

-- the same if an old link is still there
abbrev following_again : List Event
following_again = three_slots ++ inserted 0 ++ inserted 1 ++ put_back 1 4096 ++ ev 0 (Take (page 0 0)) ∷
    ev 0 (Follow (page 0 0)) ∷ inserted 0 ++ put_back 1 4097 ++ removed 1 8192 ++ ev 1 Put ∷ ev 0 (Take (page 0 0)) ∷
    ev 0 (Follow (page 0 0)) ∷ []

pub old_link_loses_slots : ¬ AlwaysBy leaves_link Linked
unfolding wrongly
old_link_loses_slots = refuted leaves_link Linked 2 (omega arith) (omega arith) following_again
    (λ h. let z : 0 ≡ 1 = h.0.cursors 0 1 in absurd (omega arith))

-- if no pass rings, an armed page whose flag was found has no ring to wait for
abbrev pub freeing : List Event
freeing = three_slots ++ inserted 0 ++ ev 0 (Arm (page 0 0)) ∷ put_back 1 4096

pub silent_freer_loses_ring : ¬ AlwaysBy never_rings Armed
unfolding wrongly
silent_freer_loses_ring = refuted never_rings Armed 2 (omega arith) (omega arith) freeing
    (λ h. let z : 1 ≡ 0 = (h 0).0 in absurd (omega arith))

-- slots stay with a pass that owns nothing if it leaves with them
pub leaver_keeps_slots : ¬ AlwaysBy leaves_slots (λ plan w l. LeftEmpty plan w)
unfolding wrongly
leaver_keeps_slots = refuted leaves_slots (λ plan w l. LeftEmpty plan w) 1 (omega arith) (omega arith)
    (three_slots ++ ev 0 Leave ∷ []) (λ h. let z : 1 ≡ 0 = (h 0 refl).0 (slot_ref 0 0) refl in absurd (omega arith))

-- a slot with a value is its owner's too if its page gets another class
pub forgotten_slot_has_two_kinds : ¬ AlwaysBy forgets_last_slot (λ plan w l. OneKind w l)
unfolding wrongly
forgotten_slot_has_two_kinds = refuted forgets_last_slot (λ plan w l. OneKind w l) 1 (omega arith) (omega arith)
    (three_slots ++ inserted 2 ++ ev 0 (SetClass (page 0 0) 6) ∷ [])
    (λ h. let z : 2 ≡ 1 = h (slot_ref 0 2) in absurd (omega arith))

-- a key with room for one more hold is not crowded if it may have four
abbrev getting : List Event
getting = three_slots ++ inserted 0 ++ ev 0 (EnterGet 4096) ∷ []

crowded : (run_by crowds_at_once (small 1) getting).log ≡ Insert 0 4096 [] ∷ Crowded 0 4096 ∷ []
unfolding wrongly
crowded = refl

pub crowded_too_early : ¬ AlwaysBy crowds_at_once IsLegal
unfolding keys_of
crowded_too_early = refuted crowds_at_once IsLegal 1 (omega arith) (omega arith) getting
    (λ h. let t : Legal 1 4 (Insert 0 4096 [] ∷ Crowded 0 4096 ∷ []) = subst (Legal 1 4) crowded h
    in let z : 4 < 0 + 1 = t.1.0.2 in absurd (omega arith))

-- two passes remove one key
abbrev removing : List Event
removing = three_slots ++ inserted 0 ++ ev 0 (EnterRemove 4096) ∷ ev 1 (EnterRemove 4096) ∷ ev 0 Mark ∷ ev 1 Mark ∷ []

removed_both : (run_by both_remove (small 2) removing).log ≡ Insert 0 4096 [] ∷ Removed 0 4096 ∷ Removed 1 4096 ∷ []
unfolding wrongly
removed_both = refl

pub key_is_removed_twice : ¬ AlwaysBy both_remove IsLegal
unfolding keys_of
key_is_removed_twice = refuted both_remove IsLegal 2 (omega arith) (omega arith) removing
    (λ h. let t : Legal 2 4 (Insert 0 4096 [] ∷ Removed 0 4096 ∷ Removed 1 4096 ∷ []) = subst (Legal 2 4) removed_both h
    in let z : true ≡ false = t.1.1.0.1 in cc)

-- a count that no pass takes back
pub stayed_count_is_nobodys : ¬ AlwaysBy marks_and_stays (λ plan w l. Counted plan w)
unfolding wrongly
stayed_count_is_nobodys = refuted marks_and_stays (λ plan w l. Counted plan w) 1 (omega arith) (omega arith)
    (three_slots ++ inserted 0 ++ ev 0 (EnterRemove 4096) ∷ ev 0 Mark ∷ [])
    (λ h. let z : 1 ≡ 0 = h (slot_ref 0 0) in absurd (omega arith))

-- a marked slot that no pass finishes
pub forgotten_end_never_comes : ¬ AlwaysBy drops_and_forgets (λ plan w l. Finished plan w)
unfolding wrongly
forgotten_end_never_comes = refuted drops_and_forgets (λ plan w l. Finished plan w) 1 (omega arith) (omega arith)
    (three_slots ++ inserted 0 ++ ev 0 (EnterRemove 4096) ∷ ev 0 Mark ∷ ev 0 Drop ∷ [])
    (λ h. let z : 0 < 0 = h (slot_ref 0 0) refl refl refl in absurd (omega arith))

-- the class of a key that is no longer held
abbrev knowing : List Event
knowing = three_slots ++ inserted 0 ++ ev 0 (EnterGet 4096) ∷ ev 0 (ReadClass 4096) ∷ ev 0 (DropHold 4096) ∷ []

abbrev knower : Body
knower = record newcomer {
  owned = Some 0;
  classes = (0, 8) ∷ (0, 0) ∷ [];
  mine = slot_ref 0 1 ∷ slot_ref 0 2 ∷ [];
  class_words =
      (4096, 8) ∷ [];
}

pub known_key_is_not_held : ¬ AlwaysBy knows_after_hold (λ plan w l. NotesAreTrue plan w)
unfolding wrongly
known_key_is_not_held = refuted knows_after_hold (λ plan w l. NotesAreTrue plan w) 1 (omega arith) (omega arith) knowing
    (λ h. let z : 0 < 0 = ((h 0 knower refl).class_words 4096 8 refl).0 in absurd (omega arith))

-- a fourth generation; tiny has three
pub unretired_slot_has_no_key : ¬ AlwaysBy never_retires (λ plan w l. GenerationsEnd plan w)
unfolding wrongly
unretired_slot_has_no_key = refuted never_retires (λ plan w l. GenerationsEnd plan w) 1 (omega arith) (omega arith)
    (three_slots ++ inserted 0 ++ removed 0 4096 ++ inserted 0 ++ removed 0 8192 ++ inserted 0 ++ removed 0 12288)
    (λ h. let z : 4 ≤ 3 = (h (slot_ref 0 0)).1 in absurd (omega arith))

-- a slot that is twice among its owner's
abbrev collected : List Event
collected = three_slots ++ inserted 0 ++ put_back 1 4096 ++ ev 0 (Take (page 0 0)) ∷ ev 0 (Follow (page 0 0)) ∷ []

pub followed_twice_is_mine_twice : ¬ AlwaysBy follows_twice (λ plan w l. OneKind w l)
unfolding wrongly
followed_twice_is_mine_twice = refuted follows_twice (λ plan w l. OneKind w l) 2 (omega arith) (omega arith) collected
    (λ h. let z : 2 ≡ 1 = h (slot_ref 0 0) in absurd (omega arith))

-- no pass follows what was rung for if its owner left
abbrev pub ringing : List Event
ringing = three_slots ++ inserted 0 ++ inserted 1 ++ inserted 2 ++ ev 0 (Arm (page 0 0)) ∷ put_back 1 4096
    ++ ev 1 Ring ∷ ev 1 RingTie ∷ ev 0 TakeBell ∷ ev 0 Leave ∷ []

abbrev gone : Body
gone = record newcomer { classes = (0, 8) ∷ (0, 0) ∷ []; armed = 0 ∷ []; bell_cursor = Some 0 }

pub left_bell_is_nobodys : ¬ AlwaysBy leaves_bell (λ plan w l. OwnPartsAreValid plan w)
unfolding wrongly
left_bell_is_nobodys = refuted leaves_bell (λ plan w l. OwnPartsAreValid plan w) 2 (omega arith) (omega arith) ringing
    (λ h. let z : false ≡ true = ((h 0 gone refl).bell 0 refl).0 in no_bool z)

-- a page of a ninth class
pub ninth_class_is_none : ¬ AlwaysBy gives_any_class (λ plan w l. ClassesAreKnown plan w)
unfolding wrongly
ninth_class_is_none = refuted gives_any_class (λ plan w l. ClassesAreKnown plan w) 1 (omega arith) (omega arith)
    (ev 0 (Adopt 0) ∷ ev 0 (ReadPage (page 0 0)) ∷ ev 0 (SetClass (page 0 0) 8) ∷ [])
    (λ h. let z : 9 ≤ 8 = (h 0).0 in absurd (omega arith))

-- a fifth hold if a key may have four
pub fifth_hold_is_too_many : ¬ AlwaysBy ignores_room (λ plan w l. HoldsAreFew plan w)
unfolding wrongly
fifth_hold_is_too_many = refuted ignores_room (λ plan w l. HoldsAreFew plan w) 1 (omega arith) (omega arith)
    (three_slots ++ inserted 0 ++ ev 0 (EnterGet 4096) ∷ ev 0 (EnterGet 4096) ∷ ev 0 (EnterGet 4096) ∷
    ev 0 (EnterGet 4096) ∷ ev 0 (EnterGet 4096) ∷ []) (λ h. let z : 5 ≤ 4 = h 4096 in absurd (omega arith))

-- a flag over a slot that was put
abbrev flagged : List Event
flagged = three_slots ++ inserted 0 ++ ev 0 (Arm (page 0 0)) ∷ removed 1 4096 ++ ev 1 Put ∷ []

pub flag_stays_over_slot : ¬ AlwaysBy keeps_flag (λ plan w l. FlaggedAreEmpty w l)
unfolding wrongly
flag_stays_over_slot = refuted keeps_flag (λ plan w l. FlaggedAreEmpty w l) 2 (omega arith) (omega arith) flagged
    (λ h. let z : 0 ∷ [] ≡ [] = h 0 refl in cc)

-- what is in hand names nothing: generation 1 is no key
abbrev pub owner : Body
owner = record newcomer { owned = Some 0; classes = (0, 8) ∷ (0, 0) ∷ []; mine = slot_ref 0 1 ∷ slot_ref 0 2 ∷ [] }

pub generation_is_no_key : ¬ AlwaysBy remembers_generation (λ plan w l. KeysInHandName plan w)
unfolding wrongly
generation_is_no_key = refuted remembers_generation (λ plan w l. KeysInHandName plan w) 1 (omega arith) (omega arith)
    (three_slots ++ inserted 0 ++ ev 0 (EnterRemove 4096) ∷ [])
    (λ h. let n = h 0 (record owner { hand = Removing 1 }) refl in let z : None ≡ Some n.0 = n.1.unpacks in cc)

-- an end that is tried again and again
abbrev ender : Body
ender = record owner { hand = Finishing (slot_ref 0 0) 1 Bare }

pub end_may_never_come : ¬ AlwaysBy tries_again (λ plan w l. GoesOn tries_again plan w)
unfolding wrongly
end_may_never_come = refuted tries_again (λ plan w l. GoesOn tries_again plan w) 1 (omega arith) (omega arith)
    (three_slots ++ inserted 0 ++ ev 0 (EnterRemove 4096) ∷ ev 0 Mark ∷ ev 0 Drop ∷ [])
    (λ h. let z : 23 < 23 = (h 0 ender refl (λ e. cc)).1 Finish (finish_again (small 1) ender (slot_ref 0 0) 1) refl 0
    in absurd (omega arith))

-- a get that never returns
abbrev unanswered : Row
unanswered = record (enter_get (small 1) newcomer 4096 (record { page = 0; slot = 0; generation = 1 })) {
  reply = λ n. cond (live_at 1 n) ((enter_get (small 1) newcomer 4096
      (record { page = 0; slot = 0; generation = 1 })).reply n) None;
}

pub gone_is_never_told : ¬ DecidingReplies never_answers_gone
unfolding wrongly
gone_is_never_told = λ h. let z : false ≡ true = h (small 1) newcomer (EnterGet 4096) unanswered 0 refl in no_bool z
