-- The lists of what was put, which are in no word and follow from the run, and the accounts of a page.
use Rattle.std.specs.Prelude.{ℕ, ◌+◌, ◌-◌, ◌==◌, cond, not, ◌&&◌, List, [], ◌∷◌, Option, Some, None, slice_get, drop}
use Rattle.sh_step.specs.declared.action.Event.{Event}
use Rattle.sh_step.specs.declared.action.Action.{Action}
use Rattle.sh_step.specs.declared.action.Action.TheVariants.{Take, Follow, Put, PutSlot, Arm, Ring, TakeBell}
use Rattle.sh_step.specs.declared.action.Action.TheVariants.{FollowBell}
use Rattle.sh_slots.specs.declared.hand.Hand.TheVariants.{ToPut, Filling, Ringing}
use Rattle.sh_slots.specs.declared.hand.SlotRef.{SlotRef}
use Rattle.sh_core.specs.declared.accounts.Accounts.{Accounts}
use Rattle.sh_core.specs.Words.{put, read}
use Rattle.sh_word.specs.Fields.{Fields, fields_of}
use Rattle.sh_step.specs.Plans.{Plan, page_of, slot_of, shard_of}
use Rattle.sh_shape.specs.Classes.{slots}
use Rattle.sh_slots.specs.Slots.{same_slot, slot_refs}
use Rattle.sh_step.specs.Collections.{total, if1}
use Rattle.sh_step.specs.declared.body.Body.{Body}
use Rattle.sh_step.specs.Moves.{row}
use Rattle.sh_core.specs.Worlds.{World, step, open_world}

-- For page q: the slots put since its last Take or Arm, newest first, and those that its owner's cursor has not
-- followed yet. For shard n: the same lists of pages
pub record PutLists : Type 0 where
  pub stack : ℕ → List ℕ
  pub chain : ℕ → List ℕ
  pub bells : ℕ → List ℕ
  pub bell_chain : ℕ → List ℕ

abbrev pub pushed : PutLists → SlotRef → PutLists
pushed l x = record l { stack = put l.stack x.page (x.slot ∷ l.stack x.page) }

abbrev pub taken : PutLists → ℕ → PutLists
taken l q = record l { stack = put l.stack q []; chain = put l.chain q (l.stack q) }

abbrev pub chain_followed : PutLists → ℕ → PutLists
chain_followed l q = record l { chain = put l.chain q (drop 1 (l.chain q)) }

abbrev pub bells_taken : PutLists → ℕ → PutLists
bells_taken l n = record l { bells = put l.bells n []; bell_chain = put l.bell_chain n (l.bells n) }

-- the lists after an action that was done and found n
unfoldable pub listed : Plan → Body → Action → ℕ → PutLists → PutLists
listed plan p Put n l = elim (p.hand) [ ToPut x ↦ pushed l x | _ ↦ l ]
listed plan p (PutSlot x) n l = pushed l (slot_of plan x)
listed plan p (Take x) n l = taken l (page_of plan x)
listed plan p (Arm x) n l = taken l (page_of plan x)
listed plan p (Follow x) n l = cond (n == 0) l (chain_followed l (page_of plan x))
listed plan p Ring n l = elim (p.hand) [
  | Ringing q ↦ record l
      { bells = put l.bells (shard_of plan q) (q ∷ l.bells (shard_of plan q)) }
  | _ ↦ l
]
listed plan p TakeBell n l = elim (p.owned) [ Some k ↦ bells_taken l k | None ↦ l ]
listed plan p FollowBell n l = elim (p.owned) [
  | Some k ↦ cond (n == 0) l
      (record l { bell_chain = put l.bell_chain k (drop 1 (l.bell_chain k)) })
  | None ↦ l
]
listed plan p _ n l = l

unfoldable pub list_step : Plan → World → Event → PutLists → PutLists
list_step plan w e l = elim (slice_get w.parts e.pass) [
  | Some p ↦ elim (row plan p e.action) [ Some m ↦ listed plan p e.action (read w.words m.place) l | None ↦ l ]
  | None ↦ l
]

abbrev pub no_lists : PutLists
no_lists = record { stack = λ _. []; chain = λ _. []; bells = λ _. []; bell_chain = λ _. [] }

unfoldable pub lists_from : Plan → World → PutLists → List Event → PutLists
lists_from plan w l [] = l
lists_from plan w l (e ∷ es) = lists_from plan (step plan w e) (list_step plan w e l) es

abbrev pub lists_of : Plan → List Event → PutLists
lists_of plan es = lists_from plan (open_world plan) no_lists es

-- how often `mine` has the slot; `in_hand` is 1 if the hand has it to put or to fill
abbrev pub mine_at : SlotRef → Body → ℕ
mine_at x p = total (λ y. if1 (same_slot x y)) p.mine

abbrev pub in_hand : SlotRef → Body → ℕ
in_hand x p = elim (p.hand) [ ToPut y ↦ if1 (same_slot x y) | Filling y v n ↦ if1 (same_slot x y) | _ ↦ 0 ]

abbrev pub times : ℕ → List ℕ → ℕ
times s xs = total (λ y. if1 (y == s)) xs

-- the sum of f over the first n slots of page q
abbrev pub among : ℕ → (SlotRef → ℕ) → ℕ → ℕ
among q f n = total f (slot_refs q 0 n)

abbrev pub state_of : World → SlotRef → Fields
state_of w x = fields_of (w.words.state_at x.page x.slot)

-- the class that a class word names, and the number of slots of a page with that class word
abbrev pub class_named : ℕ → Option ℕ
class_named n = cond (n == 0) None (Some (n - 1))

abbrev pub slots_under : ℕ → ℕ
slots_under n = cond (n == 0) 0 (slots (n - 1))

-- the accounts of page q over the whole heap
unfoldable pub accounts : World → PutLists → ℕ → Accounts
accounts w l q = let n = slots_under (w.words.class_at q) in record {
  class = class_named (w.words.class_at q);
  live = among q (λ x. if1 ((state_of w x).present && not (state_of w x).marked)) n;
  marked = among q (λ x. if1 ((state_of w x).present && (state_of w x).marked)) n;
  retired = among q (λ x. if1 (not (state_of w x).present && (state_of w x).marked)) n;
  mine = among q (λ x. total (mine_at x) w.parts) n;
  hand = among q (λ x. total (in_hand x) w.parts) n;
  queued = among q (λ x. times x.slot (l.stack q) + times x.slot (l.chain q)) n;
}
