-- A shard keeps the laws of a store.
use Rattle.std.proofs.Common.{◌≡◌, ℕ, ◌==◌, List, Some, refl, ap, ◌∙◌, sym, subst}
use Rattle.std.specs.Prelude.{Option, Result, Ok, Err, length, get_or}
use Rattle.sh_key.specs.Layout.{Layout}
use Rattle.sh_plain.specs.Store.{IsBook, InsertLeaves}
use Rattle.sh_queue.specs.Queues.{PageQueues}
use Rattle.sh_value.specs.declared.refusal.Refusal.{Refusal}
use Rattle.sh_value.specs.declared.refusal.Refusal.TheVariants as refusal
use Rattle.sh_table.specs.Seats.{Heap}
use Rattle.sh_table.specs.Tales.{ViewIsValid}
use Rattle.sh_pass.specs.Growing.{SameTale}
use Rattle.sh_pass.specs.Owners.{Aside, own_body}
use Rattle.sh_pass.specs.Passes.{Caller}
use Rattle.sh_pass.specs.Receipts.{heeded}
use Rattle.sh_pass.specs.Remaining.{Remains}
use Rattle.sh_states.specs.States.{blank_state}
use Rattle.sh_states.specs.declared.states.PageState.{PageState}
use Rattle.sh_shard.specs.Kept.{KeepsPages}
use Rattle.sh_shard.specs.Pages.{Paged, GainsSlot, HoldsPages, KnowsWords}
use Rattle.sh_shard.specs.Shards.{Sharded, HoldsShard, StaysOwner, InsertServes, PrepareServes}
use Rattle.sh_shard.specs.Stores.{shard_book, shard_setting}
use Rattle.sh_shard.proofs.PageSteps.{paged_of}
use Rattle.sh_shard.proofs.Sides.{aside_none}

pub setting_same : (layout : Layout) (o n : Sharded) → SameTale o.pages.owner.view n.pages.owner.view
    → shard_setting layout n ≡ shard_setting layout o
setting_same layout o n s = λ i. record {
  pass = s.pass i;
  passes = (s.shape i).passes;
  guard_max = layout.guard_max;
  answers_for = λ p. p == s.pass i;
}

pub is_book : (layout : Layout) (o : Sharded) → ViewIsValid layout o.pages.owner.view
    → IsBook (shard_setting layout o) (shard_book o)
is_book layout o s = record { history = s.history; legal = s.tale.legal; agrees = s.tale.own }

aside_if_same : (o n : Sharded) → n ≡ o → Aside o.pages.owner n.pages.owner
aside_if_same o n is = subst (λ (z : Sharded). Aside o.pages.owner z.pages.owner) (sym is) (aside_none o.pages.owner)

-- ---- the pass whose calls follow

pub insert_aside : (layout : Layout) (c : ℕ) (value : List ℕ) (o n : Sharded) (r : Result ℕ Refusal)
    → InsertServes layout c value o r n → Aside o.pages.owner n.pages.owner
insert_aside layout c value o n (Ok key) k = k.0.aside
insert_aside layout c value o n (Err refusal.BadKey) k = absurd k
insert_aside layout c value o n (Err refusal.Gone) k = absurd k
insert_aside layout c value o n (Err refusal.Crowded) k = absurd k
insert_aside layout c value o n (Err refusal.HoldsFull) k = absurd k
insert_aside layout c value o n (Err refusal.NotHeld) k = absurd k
insert_aside layout c value o n (Err refusal.TooLong) k = absurd k
insert_aside layout c value o n (Err refusal.Full) k = k.left.through.aside
insert_aside layout c value o n (Err refusal.Memory) k = k.0.aside
insert_aside layout c value o n (Err refusal.Taken) k = absurd k
insert_aside layout c value o n (Err refusal.NoShard) k = absurd k
insert_aside layout c value o n (Err refusal.Waiting) k = absurd k
insert_aside layout c value o n (Err refusal.BadShape) k = absurd k
insert_aside layout c value o n (Err refusal.WrongKind) k = absurd k

pub prepare_aside : (c : ℕ) (o n : Sharded) (r : Result ℕ Refusal) → PrepareServes c o r n
    → Aside o.pages.owner n.pages.owner
prepare_aside c o n (Ok p) k = k.gives.aside
prepare_aside c o n (Err refusal.BadKey) k = absurd k
prepare_aside c o n (Err refusal.Gone) k = absurd k
prepare_aside c o n (Err refusal.Crowded) k = absurd k
prepare_aside c o n (Err refusal.HoldsFull) k = absurd k
prepare_aside c o n (Err refusal.NotHeld) k = absurd k
prepare_aside c o n (Err refusal.TooLong) k = absurd k
prepare_aside c o n (Err refusal.Full) k = aside_if_same o n k.0
prepare_aside c o n (Err refusal.Memory) k = aside_if_same o n k.0
prepare_aside c o n (Err refusal.Taken) k = absurd k
prepare_aside c o n (Err refusal.NoShard) k = absurd k
prepare_aside c o n (Err refusal.Waiting) k = absurd k
prepare_aside c o n (Err refusal.BadShape) k = absurd k
prepare_aside c o n (Err refusal.WrongKind) k = absurd k

-- what remains over work of the owner that leaves it the shard
pub remains_aside : (layout : Layout) (o n : Sharded) → HoldsShard layout o → HoldsShard layout n
    → Aside o.pages.owner n.pages.owner → Remains layout o.pages.owner n.pages.owner
remains_aside layout o n before after aside = record {
  heap = aside.heap;
  shard = aside.owned;
  idle = after.idle;
  shape = before.shape;
  stood = before.stands;
  stands = after.stands;
}

-- what is kept of the pages says how many there are, and the class word of each
pub knows_words : {layout : Layout} {v : Caller} {shard : ℕ} {rings : Option ℕ} {states : List PageState}
    → KeepsPages layout v shard rings states → KnowsWords (paged_of layout v shard states)
knows_words {states = states} keeps = record {
  count = keeps.few;
  words = λ p l. ((get_or states p blank_state).class_word, (keeps.pages p l).class);
}

-- a receipt that is heeded changes nothing of the pages
pub keeps_heeded : {layout : Layout} {v w : Caller} {shard : ℕ} {rings : Option ℕ} {states : List PageState}
    (r : Caller) → w ≡ heeded v r → ViewIsValid layout w.view → KeepsPages layout v shard rings states
    → KeepsPages layout w shard rings states
keeps_heeded {layout} {v} {w} {shard} {rings} {states} r is stands k =
    subst (λ (c : Caller). ViewIsValid layout c.view → KeepsPages layout c shard rings states) (sym is)
    (λ s. record { stands = s; idle = k.idle; owned = k.owned; bell = k.bell; few = k.few; pages = k.pages }) stands

-- what is known after a call of the owner
pub holds_after : {layout : Layout} {v w : Caller} {shard : ℕ} {rings : Option ℕ} {states : List PageState}
    → KeepsPages layout w shard rings states → Remains layout v w
    → (own_body v).owned ≡ Some shard → w.view.shape ≡ v.view.shape
    → HoldsPages layout (paged_of layout w shard states)
holds_after keeps remains owned shape = record {
  stands = remains.stands;
  idle = remains.idle;
  owned = remains.shard ∙ owned;
  shape = shape ∙ (remains.shape ∙ ap (λ (h : Heap). h.shape) (sym remains.heap));
  bell = refl;
  known = knows_words keeps;
}

-- a call of the owner that at most gains a slot leaves it the shard
pub stays_owner : (layout : Layout) (gained : Option ℕ) (o n : Paged) (q r : PageQueues) → HoldsPages layout n
    → GainsSlot gained o n → Remains layout o.owner n.owner
    → StaysOwner layout (record { pages = o; queues = q }) (record { pages = n; queues = r })
stays_owner layout gained o n q r holds gains remains = record {
  holds = holds;
  shard = gains.shard;
  same = gains.same;
  remains = remains;
}

-- ---- the owner of the shard

pub insert_shard : (layout : Layout) (c : ℕ) (value : List ℕ) (o n : Sharded) (r : Result ℕ Refusal)
    → InsertServes layout c value o r n → n.pages.shard ≡ o.pages.shard
insert_shard layout c value o n (Ok key) k = k.0.shard
insert_shard layout c value o n (Err refusal.BadKey) k = absurd k
insert_shard layout c value o n (Err refusal.Gone) k = absurd k
insert_shard layout c value o n (Err refusal.Crowded) k = absurd k
insert_shard layout c value o n (Err refusal.HoldsFull) k = absurd k
insert_shard layout c value o n (Err refusal.NotHeld) k = absurd k
insert_shard layout c value o n (Err refusal.TooLong) k = absurd k
insert_shard layout c value o n (Err refusal.Full) k = k.left.through.shard
insert_shard layout c value o n (Err refusal.Memory) k = k.0.shard
insert_shard layout c value o n (Err refusal.Taken) k = absurd k
insert_shard layout c value o n (Err refusal.NoShard) k = absurd k
insert_shard layout c value o n (Err refusal.Waiting) k = absurd k
insert_shard layout c value o n (Err refusal.BadShape) k = absurd k
insert_shard layout c value o n (Err refusal.WrongKind) k = absurd k

pub prepare_shard : (c : ℕ) (o n : Sharded) (r : Result ℕ Refusal) → PrepareServes c o r n → n.pages.shard
    ≡ o.pages.shard
prepare_shard c o n (Ok p) k = k.gives.shard
prepare_shard c o n (Err refusal.BadKey) k = absurd k
prepare_shard c o n (Err refusal.Gone) k = absurd k
prepare_shard c o n (Err refusal.Crowded) k = absurd k
prepare_shard c o n (Err refusal.HoldsFull) k = absurd k
prepare_shard c o n (Err refusal.NotHeld) k = absurd k
prepare_shard c o n (Err refusal.TooLong) k = absurd k
prepare_shard c o n (Err refusal.Full) k = ap (λ (z : Sharded). z.pages.shard) k.0
prepare_shard c o n (Err refusal.Memory) k = ap (λ (z : Sharded). z.pages.shard) k.0
prepare_shard c o n (Err refusal.Taken) k = absurd k
prepare_shard c o n (Err refusal.NoShard) k = absurd k
prepare_shard c o n (Err refusal.Waiting) k = absurd k
prepare_shard c o n (Err refusal.BadShape) k = absurd k
prepare_shard c o n (Err refusal.WrongKind) k = absurd k

-- ---- what is added to the book

pub insert_leaves : (layout : Layout) (c : ℕ) (value : List ℕ) (o n : Sharded) (r : Result ℕ Refusal)
    → InsertServes layout c value o r n
    → InsertLeaves (shard_setting layout o) value (shard_book o) r (shard_book n)
insert_leaves layout c value o n (Ok key) k = k.0.log
insert_leaves layout c value o n (Err refusal.BadKey) k = absurd k
insert_leaves layout c value o n (Err refusal.Gone) k = absurd k
insert_leaves layout c value o n (Err refusal.Crowded) k = absurd k
insert_leaves layout c value o n (Err refusal.HoldsFull) k = absurd k
insert_leaves layout c value o n (Err refusal.NotHeld) k = absurd k
insert_leaves layout c value o n (Err refusal.TooLong) k = absurd k
insert_leaves layout c value o n (Err refusal.Full) k = k.left.through.log
insert_leaves layout c value o n (Err refusal.Memory) k = k.0.log
insert_leaves layout c value o n (Err refusal.Taken) k = absurd k
insert_leaves layout c value o n (Err refusal.NoShard) k = absurd k
insert_leaves layout c value o n (Err refusal.Waiting) k = absurd k
insert_leaves layout c value o n (Err refusal.BadShape) k = absurd k
insert_leaves layout c value o n (Err refusal.WrongKind) k = absurd k
