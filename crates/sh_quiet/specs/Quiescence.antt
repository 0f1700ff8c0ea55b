-- What an owner finds if no pass has begun anything, and it alone goes on.
use Rattle.std.specs.Prelude.{◌≡◌, ℕ, ◌+◌, ◌<◌, ◌≤◌, true, length, [], Some, None}
use Rattle.std.specs.List.{Contains}
use Rattle.sh_key.specs.Layout.{Layout}
use Rattle.sh_shape.specs.Classes.{slots}
use Rattle.sh_slots.specs.declared.hand.Hand.TheVariants.{Idle}
use Rattle.sh_slots.specs.declared.hand.SlotRef.{SlotRef}
use Rattle.sh_step.specs.Plans.{plan_of}
use Rattle.sh_step.specs.Rows.{own}
use Rattle.sh_core.specs.Lists.{PutLists, lists_of, state_of}
use Rattle.sh_core.specs.Quiet.{Quiet, NothingQueued}
use Rattle.sh_core.specs.Refines.{live, marked, retired}
use Rattle.sh_core.specs.Stacks.{slot_ref}
use Rattle.sh_core.specs.Worlds.{World, run}
use Rattle.sh_table.specs.declared.view.Order.{Order}
use Rattle.sh_table.specs.Tales.{ViewIsValid}
use Rattle.sh_table.specs.Together.{LeadsTogether}
use Rattle.sh_table.specs.declared.view.Told.{Told}
use Rattle.sh_table.specs.declared.view.View.{View}
use Rattle.sh_table.specs.Views.{Each, bundled_view, empty_bundle, joined_view}
use Rattle.sh_table.specs.Whole.{IsWhole}
use Rattle.sh_pass.specs.Growing.{SameTale}
use Rattle.sh_pass.specs.Owners.{NonePut, heap_page, own_body, seen_page}
use Rattle.sh_pass.specs.Passes.{Caller}
use Rattle.sh_shard.specs.Pages.{Paged, page_at, shard_page}
use Rattle.sh_shard.specs.Leaving.{Waiting}
use Rattle.sh_shard.specs.Shards.{Sharded, HoldsShard, NoRoom}

-- the pass has nothing begun, and neither has any that it took in
pub record AllIdle (v : View) : Type 0 where
  pub own : v.own.body.hand ≡ Idle
  pub told : Each (λ t. t.own.body.hand ≡ Idle) v.told

-- before its later steps the pass heard of all steps of each pass that it took in
abbrev pub HeardAll : View → Type 0
HeardAll v = (t : Told) → Contains v.told t → (o : Order) × Contains v.orders o × (o.carrier ≡ v.pass)
    × (o.steps ≤ length v.own.trail) × (o.heard.pass ≡ t.pass) × (length t.own.trail ≤ o.heard.steps)

-- so it is of a pass that took in none, after each join, and after calls, which leave the tale as it was
abbrev pub JoinsAreHeard : Type 0
JoinsAreHeard = ((v : View) → v.told ≡ [] → HeardAll v) × ((v w : View) → HeardAll v → HeardAll (joined_view v w))
    × ((v w : View) → HeardAll v → SameTale v w → HeardAll w)

-- the pass took in all others, and none of them has begun anything: so no other pass steps any more
pub record IsLastOne (v : View) : Type 0 where
  pub whole : IsWhole v
  pub idle : AllIdle v
  pub heard : HeardAll v

-- This holds of world and lists after the events of each bundle in which the pass ends alone: they lead to its part and
-- to those that it took in.
abbrev pub SureOnceEnded : Layout → View → (World → PutLists → Type 0) → Type 0
SureOnceEnded layout w P = (b : LeadsTogether layout (bundled_view (empty_bundle w) w))
    → P (run (plan_of layout w.shape) b.events) (lists_of (plan_of layout w.shape) b.events)

-- If an owner, the last one, took what was put on a page of its shard, followed it to the end and put nothing, then
-- nothing that was put is left there, and each empty slot of the page is its own
abbrev pub CollectedIsEmpty : Type 0
CollectedIsEmpty = (layout : Layout) (v w : Caller) (q : ℕ) → IsLastOne v.view → ViewIsValid layout v.view
    → SameTale v.view w.view → NonePut v w → (own_body w).hand ≡ Idle
    → own (plan_of layout w.view.shape) (own_body w) q ≡ true → (seen_page v q).takes < (seen_page w q).takes
    → (seen_page w q).cursor ≡ None → SureOnceEnded layout w.view (λ world l. NothingQueued world l q)

-- the slot is live, marked or retired
abbrev pub IsUsed : World → SlotRef → Type 0
IsUsed w x = live (state_of w x) + marked (state_of w x) + retired (state_of w x) ≡ 1

-- each slot of each page of class c is used
abbrev pub ClassIsUsed : ℕ → Paged → World → Type 0
ClassIsUsed c v w = (p s : ℕ) → p < v.count → (page_at v p).class ≡ Some (c + 1) → s < slots c
    → IsUsed w (slot_ref (heap_page v.owner (shard_page v.shard p)) s)

-- The last one, if it owns a shard, gets Full only if each slot of each page of the class is used. (That no page is
-- blank, no page of another class is wholly the owner's, and every segment is opened, NoRoom says itself.)
abbrev pub FullIsExact : Type 0
FullIsExact = (layout : Layout) (c : ℕ) (o n : Sharded) → IsLastOne o.pages.owner.view → HoldsShard layout o
    → HoldsShard layout n → NoRoom c o n → SureOnceEnded layout n.pages.owner.view (λ w l. ClassIsUsed c n.pages w)

-- the last one, if it owns a shard, is never told to wait when it leaves: no bundle could take it then
abbrev pub LeavesNeverWait : Type 0
LeavesNeverWait = (layout : Layout) (o n : Sharded) → IsLastOne o.pages.owner.view → HoldsShard layout o
    → HoldsShard layout n → Waiting o.pages n.pages → SureOnceEnded layout n.pages.owner.view (λ w l. ⊥)

-- if a pass took in all others, and none of them has begun anything, then so it is in the heap
abbrev pub LastOnesAreQuiet : Type 0
LastOnesAreQuiet = (layout : Layout) (v : View) → IsLastOne v → SureOnceEnded layout v (λ world l. Quiet world)
