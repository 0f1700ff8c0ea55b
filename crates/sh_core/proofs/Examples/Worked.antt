-- Worked examples, computed on the definitions: outcomes, accounts and words.
use Rattle.std.specs.Prelude.{None, ℕ, ◌≡◌, List, [], ◌∷◌, ◌++◌, Some, refl}
use Rattle.sh_history.specs.declared.entry.Entry.TheVariants.{Insert, Gone, Removed}
use Rattle.sh_step.specs.declared.action.Action.{Action}
use Rattle.sh_step.specs.declared.action.Action.TheVariants.{EnterGet, EnterRemove, Mark, Drop, Finish, FillSlot, Fill}
use Rattle.sh_step.specs.declared.action.Action.TheVariants.{Publish, ReadPage, SetClass, Take, Follow, Put, PutSlot}
use Rattle.sh_step.specs.declared.action.Action.TheVariants.{Tie, Adopt, Leave, Arm, Ring, RingTie, TakeBell}
use Rattle.sh_step.specs.declared.action.Action.TheVariants.{FollowBell}
use Rattle.sh_step.specs.declared.action.Event.{Event}
use Rattle.sh_step.specs.declared.action.PageName.{PageName}
use Rattle.sh_step.specs.declared.action.SlotName.{SlotName}
use Rattle.sh_key.specs.Layouts.{tiny}
use Rattle.sh_core.specs.Words.{Words, put, put2}
use Rattle.sh_word.specs.Fields.{fields_of, word_of}
use Rattle.sh_step.specs.Plans.{Plan, keys_of, page_number, local, over_heap, plan_of, shard_of}
use Rattle.sh_slots.specs.Slots.{slot_refs}
use Rattle.sh_step.specs.Collections.{total, without, has, noted, off, every}
use Rattle.sh_step.specs.Moves.{move_of, row}
use Rattle.sh_core.specs.Worlds.{apply, step, run_from, run, value_at}
use Rattle.sh_core.specs.declared.accounts.Accounts.{Accounts}
use Rattle.sh_core.specs.Lists.{accounts, lists_of, listed, list_step, lists_from}
use Rattle.sh_core.specs.declared.outcome.Outcome.{Outcome}
use Rattle.sh_core.specs.declared.outcome.Outcome.TheVariants.{Moved, Replied, Skipped}
use Rattle.sh_core.specs.Outcomes.{row_of_event, outcome_of, outcomes_from, outcomes}

abbrev pub small : ℕ → Plan
small n = plan_of tiny (record { shards = 1; segments = 1; passes = n })

abbrev pub ev : ℕ → Action → Event
ev a x = record { pass = a; action = x }

abbrev pub slot : ℕ → ℕ → ℕ → SlotName
slot n p s = record { shard = n; page = p; slot = s }

abbrev pub page : ℕ → ℕ → PageName
page n p = record { shard = n; page = p }

-- the accounts of the first page, with class c
abbrev acc : ℕ → ℕ → ℕ → ℕ → ℕ → ℕ → ℕ → Accounts
acc c a b d e f g = record { class = Some c; live = a; marked = b; retired = d; mine = e; hand = f; queued = g }

abbrev blank : Accounts
blank = record { class = None; live = 0; marked = 0; retired = 0; mine = 0; hand = 0; queued = 0 }

-- the outcomes of n passes' events, and the accounts of the first page after them
abbrev ends : ℕ → List Event → List Outcome × Accounts
ends n es = (outcomes (small n) es, accounts (run (small n) es) (lists_of (small n) es) 0)

abbrev words : ℕ → List Event → Words
words n es = (run (small n) es).words

unfoldable pub everything : ℕ
unfolding fields_of word_of put put2 total without has noted off every shard_of slot_refs row move_of apply step
    run_from
    value_at keys_of page_number local over_heap accounts listed list_step lists_from row_of_event outcome_of
    outcomes_from
everything = 0

-- a page of three slots
abbrev pub three_slots : List Event
three_slots = ev 0 (Adopt 0) ∷ ev 0 (ReadPage (page 0 0)) ∷ ev 0 (SetClass (page 0 0) 7) ∷ []

-- the page with the value 5 in the first slot
abbrev one_value : List Event
one_value = three_slots ++ ev 0 (FillSlot (slot 0 0 0) (5 ∷ [])) ∷ ev 0 Fill ∷ ev 0 Publish ∷ []

-- each step is done, and the last one inserts
one_value_ends : ends 2 one_value ≡ (
  Moved ∷ Moved ∷ Moved ∷ Moved ∷ Moved ∷ Replied (Insert 0 4096 (5 ∷ [])) ∷ [],
  acc 7 1 0
      0 2 0 0,
)
unfolding everything
one_value_ends = refl

-- its words
one_value_words : (words 2 one_value).class_at 0 ∷ (words 2 one_value).state_at 0 0 ∷
    (words 2 one_value).length_at 0 0 ∷ (words 2 one_value).payload_at 0 0 ∷ (words 2 one_value).owner_at 0 ∷ []
    ≡ 8 ∷ 5368709120 ∷ 1 ∷ 5 ∷ 1 ∷ []
unfolding everything
one_value_words = refl

-- if two passes remove one key, the first mark decides
two_removers : ends 2 (one_value ++ ev 0 (EnterRemove 4096) ∷ ev 1 (EnterRemove 4096) ∷ ev 1 Mark ∷ ev 0 Mark ∷ []) ≡ (
  Moved ∷ Moved ∷ Moved ∷ Moved ∷ Moved ∷ Replied (Insert 0 4096 (5 ∷ [])) ∷ Moved ∷ Moved ∷
      Replied (Removed 1 4096) ∷ Replied (Gone 0 4096) ∷ [],
  acc 7 0 1 0 2 0 0,
)
unfolding everything
two_removers = refl

-- a slot that is used again while a pass leaves it
abbrev pub again : List Event
again = one_value ++ ev 0 (EnterRemove 4096) ∷ ev 0 Mark ∷ ev 0 Drop ∷ ev 0 Finish ∷
    ev 0 (FillSlot (slot 0 0 0) (6 ∷ [])) ∷ ev 0 Fill ∷ ev 0 Publish ∷ ev 1 (EnterGet 4096) ∷
    ev 0 (EnterRemove 8192) ∷ ev 0 Mark ∷ ev 0 Drop ∷ []

-- the slot is marked, with one pass on it
again_word : (words 2 again).state_at 0 0 ≡ 11811160065
unfolding everything
again_word = refl

-- the other pass then ends the generation
abbrev ended : List Event
ended = again ++ ev 1 Drop ∷ ev 1 Finish ∷ ev 1 Put ∷ ev 1 Tie ∷ []

-- an old key stays gone, and the last pass to leave ends the removal
again_ends : ends 2 ended ≡ (
  Moved ∷ Moved ∷ Moved ∷ Moved ∷ Moved ∷ Replied (Insert 0 4096 (5 ∷ [])) ∷ Moved ∷ Replied (Removed 0 4096) ∷ Moved ∷
      Moved ∷ Moved ∷ Moved ∷ Replied (Insert 0 8192 (6 ∷ [])) ∷ Replied (Gone 1 4096) ∷ Moved ∷
      Replied (Removed 0 8192) ∷ Moved ∷ Moved ∷ Moved ∷ Moved ∷ Moved ∷ [],
  acc 7 0 0 0 2 0 1,
)
unfolding everything
again_ends = refl

-- the slot is empty in its third generation, and on the stack
again_words : (words 2 ended).state_at 0 0 ∷ (words 2 ended).head_at 0 ∷ (words 2 ended).link_at 0 0 ∷ []
    ≡ 12884901888 ∷ 2 ∷ 1 ∷ []
unfolding everything
again_words = refl

-- an exchange that finds another pass on the slot changes nothing; that pass ends the removal
late_finish : ends 2 (one_value ++ ev 0 (EnterRemove 4096) ∷ ev 0 Mark ∷ ev 0 Drop ∷ ev 1 (EnterGet 4096) ∷
    ev 0 Finish ∷ ev 1 Drop ∷ ev 1 Finish ∷ [])
    ≡ (
      Moved ∷ Moved ∷ Moved ∷ Moved ∷ Moved ∷ Replied (Insert 0 4096 (5 ∷ [])) ∷ Moved ∷ Replied (Removed 0 4096) ∷
          Moved ∷ Replied (Gone 1 4096) ∷ Moved ∷ Moved ∷ Moved ∷ [],
      acc 7 0 0 0 2 1 0,
    )
unfolding everything
late_finish = refl

-- two freed slots; the lower one is not tied yet
abbrev untied : List Event
untied = three_slots ++ ev 0 (FillSlot (slot 0 0 0) ([])) ∷ ev 0 Publish ∷ ev 0 (FillSlot (slot 0 0 1) ([])) ∷
    ev 0 Publish ∷ ev 1 (EnterRemove 4096) ∷ ev 1 Mark ∷ ev 1 Drop ∷ ev 1 Finish ∷ ev 1 Put ∷ ev 2 (EnterRemove 4097) ∷
    ev 2 Mark ∷ ev 2 Drop ∷ ev 2 Finish ∷ ev 2 Put ∷ ev 2 Tie ∷ ev 0 (Take (page 0 0)) ∷ ev 0 (Follow (page 0 0)) ∷
    ev 0 (Follow (page 0 0)) ∷ []

-- following stops at a link that is not written
untied_ends : ends 3 untied ≡ (
  Moved ∷ Moved ∷ Moved ∷ Moved ∷ Replied (Insert 0 4096 []) ∷ Moved ∷ Replied (Insert 0 4097 []) ∷ Moved ∷
      Replied (Removed 1 4096) ∷ Moved ∷ Moved ∷ Moved ∷ Moved ∷ Replied (Removed 2 4097) ∷ Moved ∷ Moved ∷ Moved ∷
      Moved ∷ Moved ∷ Moved ∷ Moved ∷ [],
  acc 7 0 0 0 2 0 1,
)
unfolding everything
untied_ends = refl

-- nothing is left on the stack, and no link is written
untied_words : (words 3 untied).head_at 0 ∷ (words 3 untied).link_at 0 0 ∷ (words 3 untied).link_at 0 1 ∷ []
    ≡ 0 ∷ 0 ∷ 0 ∷ []
unfolding everything
untied_words = refl

-- following continues after the link is stored
tied_later : ends 3 (untied ++ ev 1 Tie ∷ ev 0 (Follow (page 0 0)) ∷ [])
    ≡ (
      Moved ∷ Moved ∷ Moved ∷ Moved ∷ Replied (Insert 0 4096 []) ∷ Moved ∷ Replied (Insert 0 4097 []) ∷ Moved ∷
          Replied (Removed 1 4096) ∷ Moved ∷ Moved ∷ Moved ∷ Moved ∷ Replied (Removed 2 4097) ∷ Moved ∷ Moved ∷ Moved ∷
          Moved ∷ Moved ∷ Moved ∷ Moved ∷ Moved ∷ Moved ∷ [],
      acc 7 0 0 0 3 0 0,
    )
unfolding everything
tied_later = refl

-- an owner leaves only what it has put back, and the next one finds it
left_and_adopted : ends 3 (untied ++ ev 0 Leave ∷ ev 1 Tie ∷ ev 0 (Follow (page 0 0)) ∷ ev 0 (PutSlot (slot 0 0 0)) ∷
    ev 0 Tie ∷ ev 0 (PutSlot (slot 0 0 1)) ∷ ev 0 Tie ∷ ev 0 (PutSlot (slot 0 0 2)) ∷ ev 0 Tie ∷ ev 0 Leave ∷
    ev 1 (Adopt 0) ∷ ev 1 (ReadPage (page 0 0)) ∷ ev 1 (Take (page 0 0)) ∷ ev 1 (Follow (page 0 0)) ∷
    ev 1 (Follow (page 0 0)) ∷ ev 1 (FillSlot (slot 0 0 1) (9 ∷ [])) ∷ ev 1 Fill ∷ ev 1 Publish ∷ [])
    ≡ (
      Moved ∷ Moved ∷ Moved ∷ Moved ∷ Replied (Insert 0 4096 []) ∷ Moved ∷ Replied (Insert 0 4097 []) ∷ Moved ∷
          Replied (Removed 1 4096) ∷ Moved ∷ Moved ∷ Moved ∷ Moved ∷ Replied (Removed 2 4097) ∷ Moved ∷ Moved ∷ Moved ∷
          Moved ∷ Moved ∷ Moved ∷ Moved ∷ Skipped ∷ Moved ∷ Moved ∷ Moved ∷ Moved ∷ Moved ∷ Moved ∷ Moved ∷ Moved ∷
          Moved ∷ Moved ∷ Moved ∷ Moved ∷ Moved ∷ Moved ∷ Moved ∷ Moved ∷ Replied (Insert 1 8193 (9 ∷ [])) ∷ [],
      acc 7 1 0 0 1 0 1,
    )
unfolding everything
left_and_adopted = refl

-- the first free into an armed page rings
abbrev rung : List Event
rung = one_value ++ ev 0 (Arm (page 0 0)) ∷ ev 1 (EnterRemove 4096) ∷ ev 1 Mark ∷ ev 1 Drop ∷ ev 1 Finish ∷ ev 1 Put ∷
    ev 1 Tie ∷ ev 1 Ring ∷ ev 0 TakeBell ∷ ev 0 FollowBell ∷ ev 0 (Arm (page 0 0)) ∷ ev 1 RingTie ∷ ev 0 FollowBell ∷
    ev 0 (Arm (page 0 0)) ∷ []

-- the page stays armed until its ring is read
rung_ends : ends 2 rung ≡ (
  Moved ∷ Moved ∷ Moved ∷ Moved ∷ Moved ∷ Replied (Insert 0 4096 (5 ∷ [])) ∷ Moved ∷ Moved ∷ Replied (Removed 1 4096) ∷
      Moved ∷ Moved ∷ Moved ∷ Moved ∷ Moved ∷ Moved ∷ Moved ∷ Skipped ∷ Moved ∷ Moved ∷ Moved ∷ [],
  acc 7 0 0 0 2 0 1,
)
unfolding everything
rung_ends = refl

-- the page is armed again, and the bell is empty
rung_words : (words 2 rung).head_at 0 ∷ (words 2 rung).link_at 0 0 ∷ (words 2 rung).page_link_at 0 ∷
    (words 2 rung).bell_at 0 ∷ [] ≡ 1 ∷ 1 ∷ 0 ∷ 0 ∷ []
unfolding everything
rung_words = refl

-- a stack that is taken without its flag leaves the page armed
taken_before_tied : ends 2 (one_value ++ ev 0 (Arm (page 0 0)) ∷ ev 1 (EnterRemove 4096) ∷ ev 1 Mark ∷ ev 1 Drop ∷
    ev 1 Finish ∷ ev 1 Put ∷ ev 0 (Take (page 0 0)) ∷ ev 1 Tie ∷ ev 1 Ring ∷ ev 0 TakeBell ∷ ev 0 FollowBell ∷
    ev 0 (Arm (page 0 0)) ∷ ev 1 RingTie ∷ ev 0 FollowBell ∷ ev 0 (Arm (page 0 0)) ∷ [])
    ≡ (
      Moved ∷ Moved ∷ Moved ∷ Moved ∷ Moved ∷ Replied (Insert 0 4096 (5 ∷ [])) ∷ Moved ∷ Moved ∷
          Replied (Removed 1 4096) ∷ Moved ∷ Moved ∷ Moved ∷ Moved ∷ Moved ∷ Moved ∷ Moved ∷ Moved ∷ Skipped ∷ Moved ∷
          Moved ∷ Skipped ∷ [],
      acc 7 0 0 0 2 0 1,
    )
unfolding everything
taken_before_tied = refl

-- only the owner reads a page for itself
only_owners : ends 2 (ev 0 (Adopt 0) ∷ ev 1 (Adopt 0) ∷ ev 1 (ReadPage (page 0 0)) ∷ ev 0 (ReadPage (page 0 0)) ∷ [])
    ≡ (Moved ∷ Moved ∷ Skipped ∷ Moved ∷ [], blank)
unfolding everything
only_owners = refl

-- a page with a value keeps its class
class_is_kept : ends 2 (one_value ++ ev 0 (SetClass (page 0 0) 7) ∷ ev 0 (SetClass (page 0 0) 0) ∷ []) ≡ (
  Moved ∷ Moved ∷ Moved ∷ Moved ∷ Moved ∷ Replied (Insert 0 4096 (5 ∷ [])) ∷ Skipped ∷ Skipped ∷ [],
  acc 7 1 0 0 2
      0 0,
)
unfolding everything
class_is_kept = refl

-- a page whose slots are all its owner's gets another class
class_changes : ends 2 (one_value ++ ev 0 (EnterRemove 4096) ∷ ev 0 Mark ∷ ev 0 Drop ∷ ev 0 Finish ∷
    ev 0 (SetClass (page 0 0) 0) ∷ [])
    ≡ (
      Moved ∷ Moved ∷ Moved ∷ Moved ∷ Moved ∷ Replied (Insert 0 4096 (5 ∷ [])) ∷ Moved ∷ Replied (Removed 0 4096) ∷
          Moved ∷ Moved ∷ Moved ∷ [],
      acc 0 0 0 0 48 0 0,
    )
unfolding everything
class_changes = refl

-- an adopter reads a page before it gives it a class, and leaves with nothing of its own
adopter_knows_nothing : ends 2 (ev 0 (Adopt 0) ∷ ev 0 Leave ∷ ev 0 Leave ∷ ev 1 (Adopt 0) ∷ ev 1 (ReadPage (page 0 0)) ∷
    ev 1 (SetClass (page 0 0) 7) ∷ ev 1 Leave ∷ []) ≡ (
      Moved ∷ Moved ∷ Skipped ∷ Moved ∷ Moved ∷ Moved ∷ Skipped ∷ [],
      acc 7 0 0 0 3 0 0,
    )
unfolding everything
adopter_knows_nothing = refl

-- the accounts of the page while a remover has stopped
abbrev stopped : List Event → Accounts
stopped es = (ends 2 (one_value ++ es)).1

stopped_before_entering : stopped ([]) ≡ acc 7 1 0 0 2 0 0
unfolding everything
stopped_before_entering = refl

stopped_after_entering : stopped (ev 1 (EnterRemove 4096) ∷ []) ≡ acc 7 1 0 0 2 0 0
unfolding everything
stopped_after_entering = refl

stopped_after_marking : stopped (ev 1 (EnterRemove 4096) ∷ ev 1 Mark ∷ []) ≡ acc 7 0 1 0 2 0 0
unfolding everything
stopped_after_marking = refl

stopped_after_dropping : stopped (ev 1 (EnterRemove 4096) ∷ ev 1 Mark ∷ ev 1 Drop ∷ []) ≡ acc 7 0 1 0 2 0 0
unfolding everything
stopped_after_dropping = refl

stopped_after_finishing : stopped (ev 1 (EnterRemove 4096) ∷ ev 1 Mark ∷ ev 1 Drop ∷ ev 1 Finish ∷ [])
    ≡ acc 7 0 0 0 2 1 0
unfolding everything
stopped_after_finishing = refl

stopped_after_putting : stopped (ev 1 (EnterRemove 4096) ∷ ev 1 Mark ∷ ev 1 Drop ∷ ev 1 Finish ∷ ev 1 Put ∷ [])
    ≡ acc 7 0 0 0 2 0 1
unfolding everything
stopped_after_putting = refl

stopped_after_tying : stopped (ev 1 (EnterRemove 4096) ∷ ev 1 Mark ∷ ev 1 Drop ∷ ev 1 Finish ∷ ev 1 Put ∷ ev 1 Tie ∷ [])
    ≡ acc 7 0 0 0 2 0 1
unfolding everything
stopped_after_tying = refl
