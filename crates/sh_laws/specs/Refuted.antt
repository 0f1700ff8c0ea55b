-- What the laws refuse: wrong tables of actions, and statements that say more.
use Rattle.std.specs.Prelude.{ℕ, ◌+◌, ◌*◌, ◌≡◌, ◌≤◌, ◌==◌, true, not, List, ◌++◌, Some, None, slice_get}
use Rattle.sh_step.specs.declared.action.Action.TheVariants.{Put, Ring}
use Rattle.sh_history.specs.declared.entry.Entry.{Entry}
use Rattle.sh_history.specs.declared.entry.Entry.TheVariants.{Crowded}
use Rattle.sh_step.specs.declared.action.Event.{Event}
use Rattle.sh_slots.specs.declared.hand.Hand.TheVariants.{Idle, ToPut, Ringing}
use Rattle.sh_core.specs.Lists.{PutLists}
use Rattle.sh_step.specs.Moves.{row}
use Rattle.sh_core.specs.Outcomes.{done, outcome_of}
use Rattle.sh_core.specs.declared.outcome.Outcome.TheVariants.{Replied, Skipped}
use Rattle.sh_core.specs.declared.outcome.Outcome.{Outcome}
use Rattle.sh_step.specs.Plans.{Plan, heap_pages}
use Rattle.sh_step.specs.Rows.{hand, put_at, ring}
use Rattle.sh_core.specs.Variants.{Table, step_by}
use Rattle.sh_core.specs.Words.{read}
use Rattle.sh_core.specs.Worlds.{World, entry_of, run, value_at_place}
use Rattle.sh_history.specs.History.{is_removed}
use Rattle.sh_history.specs.Log.{entries_of}
use Rattle.sh_laws.specs.Garbage.{sum_below, marked_slots, slots_in_hands, all_holds, slots_cut_off}
use Rattle.sh_laws.specs.Objects.{IsObjectOperation, holds_of, holds_together, object_of}

-- a pass that put a slot does not store its link, and one that rang does not store the page's
unfoldable pub never_ties : Table
never_ties plan p Put = elim (p.hand) [
  | ToPut x ↦ Some (record (put_at p x) { part = λ n. hand p Idle })
  | _ ↦ None
]
never_ties plan p x = row plan p x

unfoldable pub never_ties_rings : Table
never_ties_rings plan p Ring = elim (p.hand) [
  | Ringing q ↦ Some (record (ring plan p q) { part = λ n. hand p Idle })
  | _ ↦ None
]
never_ties_rings plan p x = row plan p x

-- the outcome of an event by this table
abbrev pub outcome_by : Table → Plan → World → Event → Outcome
outcome_by rows plan w e = elim (slice_get w.parts e.pass) [
  | Some p ↦ elim (rows plan p e.action) [
    | Some r ↦ done (entry_of e.pass (value_at_place w.words r.place) (r.reply (read w.words r.place)))
    | None ↦ Skipped
  ]
  | None ↦ Skipped
]

-- by this table, each event is at most one operation of the whole object
abbrev pub ObjectIsAtomicBy : Table → Plan → World → PutLists → Type 0
ObjectIsAtomicBy rows plan w l = (e : Event) → IsObjectOperation plan.passes plan.keys.guard_max (object_of plan w)
    (object_of plan (step_by rows plan w e)) (outcome_by rows plan w e)

-- at most 16 slots for each pass are marked or in hands, and at most 63 with those that are cut off
abbrev pub SixteenSuffice : Plan → World → PutLists → Type 0
SixteenSuffice plan w l = marked_slots plan w l + slots_in_hands plan w l ≤ 16 * plan.passes

abbrev pub SixtyThreeSuffice : Plan → World → PutLists → Type 0
SixtyThreeSuffice plan w l =
    marked_slots plan w l + slots_in_hands plan w l + sum_below (slots_cut_off w l) (heap_pages plan) ≤ 63 * plan.passes

-- marked slots wait for holds alone
abbrev pub OnlyHoldsMatter : Plan → World → PutLists → Type 0
OnlyHoldsMatter plan w l = marked_slots plan w l ≤ all_holds w

-- the replies to pass 0 come first, then those to the others; and that order is kept as a run goes on
abbrev pub by_pass : List Entry → List Entry
by_pass log = entries_of (λ a. a == 0) log ++ entries_of (λ a. not (a == 0)) log

abbrev pub OrderByPassStays : Type 0
OrderByPassStays = (plan : Plan) (es more : List Event) → (later : List Entry)
    × (by_pass (run plan (es ++ more)).log ≡ by_pass (run plan es).log ++ later)

-- a removed key has no hold
abbrev pub RemovalsEndHolds : Plan → World → PutLists → Type 0
RemovalsEndHolds plan w l = (a k : ℕ) → is_removed w.log k ≡ true → holds_of w a k ≡ 0

-- a get is crowded only if its key has as many holds as it may have
abbrev pub CrowdedIsFull : Plan → World → PutLists → Type 0
CrowdedIsFull plan w l = (e : Event) (a k : ℕ) → outcome_of plan w e ≡ Replied (Crowded a k)
    → plan.keys.guard_max ≤ holds_together plan.passes (object_of plan w) k
