-- A pass that may own a shard, and what its calls do.
use Rattle.std.specs.Prelude.{◌≡◌, ℕ, List, Option, Result, Ok, Err}
use Rattle.sh_key.specs.Layout.{Layout}
use Rattle.sh_value.specs.declared.refusal.Refusal.{Refusal}
use Rattle.sh_value.specs.declared.refusal.Refusal.TheVariants as refusal
use Rattle.sh_shape.specs.Shape.{Numbers}
use Rattle.sh_table.specs.Seats.{Heap}
use Rattle.sh_table.specs.Tales.{ViewIsValid}
use Rattle.sh_table.specs.Views.{joined_view}
use Rattle.sh_pass.specs.Passes.{Caller, IsAtRest}
use Rattle.sh_pass.specs.Bundles.{bundle_by, bundled}
use Rattle.sh_pass.specs.Receipts.{heeded, receipt_by}
use Rattle.sh_pass.specs.Remaining.{Remains}
use Rattle.sh_pass.specs.declared.next_key.NextKey.{NextKey}
use Rattle.sh_shard.specs.Pages.{Paged}
use Rattle.sh_shard.specs.Shards.{StaysOwner, InsertServes, AdoptServes, LeaveServes, PrepareServes}
use Rattle.sh_shard.specs.Shards.{value_class, HoldsShard, shard_heeded}
use Rattle.sh_shard.specs.RemoteFrees.{CollectServes}
use Rattle.sh_member.specs.Walks.{NextOwnKeyDoes}
use Rattle.sh_member.specs.declared.member.Side.{Side}
use Rattle.sh_member.specs.declared.member.Side.TheVariants.{Pass, Shard}

-- what a contract sees of a member: a pass, or a shard
abbrev pub SeenSide : Type 0
SeenSide = Side (Unit {0}) (Unit {0})

abbrev pub seen_side : {L H : Type 0} → Side L H → SeenSide
seen_side (Pass v) = Pass v
seen_side (Shard o) = Shard o

-- it owns no shard
abbrev pub IsPass : SeenSide → Type 0
IsPass (Pass v) = Unit {0}
IsPass (Shard o) = ⊥

-- what its pass knows, and of which heap
abbrev pub caller_by : SeenSide → Caller
caller_by (Pass v) = v
caller_by (Shard o) = o.pages.owner

-- ---- what holds between calls

-- the shape of its heap
abbrev pub HasShape : SeenSide → Numbers → Type 0
HasShape (Pass v) shape = shape ≡ v.heap.shape
HasShape (Shard o) shape = shape ≡ o.pages.owner.heap.shape

-- nothing is begun, and all that it knows is true; a pass owns no shard, and an owner owns its shard
abbrev pub SideIsValid : Layout → SeenSide → Type 0
SideIsValid layout (Pass v) = IsAtRest v × ViewIsValid layout v.view
SideIsValid layout (Shard o) = HoldsShard layout o

-- ---- calls

-- a call that keeps the kind: a pass does as `does` says, and so does the owner of a shard, which it stays; heap and
-- shard are as before, and all that is known is true
abbrev pub SideDoes : {A : Type 0} → Layout → (Caller → A → Caller → Type 0) → SeenSide → A → SeenSide → Type 0
SideDoes layout does (Pass v) answer (Pass w) = does v answer w × Remains layout v w
SideDoes layout does (Pass v) answer (Shard n) = ⊥
SideDoes layout does (Shard o) answer (Shard n) = does o.pages.owner answer n.pages.owner × StaysOwner layout o n
SideDoes layout does (Shard o) answer (Pass w) = ⊥

-- an insert: the owner of a shard does it, and stays one; a pass that owns none is refused
abbrev pub SideInserts : Layout → List ℕ → SeenSide → Result ℕ Refusal → SeenSide → Type 0
SideInserts layout value (Pass v) answer new = (answer ≡ Err refusal.NoShard) × (new ≡ Pass v)
SideInserts layout value (Shard o) answer (Shard n) = InsertServes layout (value_class value) value o answer n
    × StaysOwner layout o n
SideInserts layout value (Shard o) answer (Pass w) = ⊥

-- a prepare: the same
abbrev pub SidePrepares : Layout → ℕ → SeenSide → Result ℕ Refusal → SeenSide → Type 0
SidePrepares layout class (Pass v) answer new = (answer ≡ Err refusal.NoShard) × (new ≡ Pass v)
SidePrepares layout class (Shard o) answer (Shard n) = PrepareServes class o answer n × StaysOwner layout o n
SidePrepares layout class (Shard o) answer (Pass w) = ⊥

-- a collect: the same
abbrev pub SideCollects : Layout → SeenSide → Result (Unit {0}) Refusal → SeenSide → Type 0
SideCollects layout (Pass v) answer new = (answer ≡ Err refusal.NoShard) × (new ≡ Pass v)
SideCollects layout (Shard o) answer (Shard n) = (answer ≡ Ok tt) × CollectServes o n × StaysOwner layout o n
SideCollects layout (Shard o) answer (Pass w) = ⊥

-- an adoption: the pass becomes the owner of the shard, or stays a pass; the owner of a shard is refused
abbrev pub SideAdopts : ℕ → SeenSide → Result (Unit {0}) Refusal → SeenSide → Type 0
SideAdopts k (Pass v) (Ok _) (Shard n) = AdoptServes k v (Ok n)
SideAdopts k (Pass v) (Ok _) (Pass w) = ⊥
SideAdopts k (Pass v) (Err why) (Pass w) = AdoptServes k v (Err (w, why))
SideAdopts k (Pass v) (Err why) (Shard n) = ⊥
SideAdopts k (Shard o) answer new = (answer ≡ Err refusal.Taken) × (new ≡ Shard o)

-- leaving: the owner of a shard becomes a pass again, or stays the owner; a pass that owns none is refused
abbrev pub SideLeaves : SeenSide → Result (Unit {0}) Refusal → SeenSide → Type 0
SideLeaves (Shard o) (Ok _) (Pass w) = LeaveServes o (Ok w)
SideLeaves (Shard o) (Ok _) (Shard n) = ⊥
SideLeaves (Shard o) (Err why) (Shard n) = LeaveServes o (Err (n, why))
SideLeaves (Shard o) (Err why) (Pass w) = ⊥
SideLeaves (Pass v) answer new = (answer ≡ Err refusal.NoShard) × (new ≡ Pass v)

-- its pass, if it owns no shard; otherwise it comes back
abbrev pub SideGivesPass : SeenSide → Result Caller SeenSide → Type 0
SideGivesPass (Pass v) (Ok w) = w ≡ v
SideGivesPass (Pass v) (Err m) = ⊥
SideGivesPass (Shard o) (Ok w) = ⊥
SideGivesPass (Shard o) (Err m) = m ≡ Shard o

-- a number that the owner of a shard knows of its pages, and it is as it was; a pass that owns none is refused
abbrev pub SideCounts : (Paged → ℕ) → SeenSide → Result ℕ Refusal → SeenSide → Type 0
SideCounts count (Pass v) answer new = (answer ≡ Err refusal.NoShard) × (new ≡ Pass v)
SideCounts count (Shard o) answer new = (answer ≡ Ok (count o.pages)) × (new ≡ Shard o)

-- the next live key of the shard that it owns, which it still owns; a pass that owns none is refused
abbrev pub SideNextKey : Layout → (from : ℕ) → SeenSide → Result (Option NextKey) Refusal → SeenSide → Type 0
SideNextKey layout from (Pass v) answer new = (answer ≡ Err refusal.NoShard) × (new ≡ Pass v)
SideNextKey layout from (Shard o) answer (Shard n) = (next : Option NextKey) × (answer ≡ Ok next)
    × NextOwnKeyDoes layout from o.pages next n.pages × StaysOwner layout o n
SideNextKey layout from (Shard o) answer (Pass w) = ⊥

-- ---- joining

-- both own no shard, and are of one heap
abbrev pub MayJoin : SeenSide → SeenSide → Type 0
MayJoin (Pass v) (Pass w) = w.heap ≡ v.heap
MayJoin (Pass v) (Shard p) = ⊥
MayJoin (Shard o) other = ⊥

-- the first, which now carries both tales, and still owns no shard
abbrev pub SideJoins : Layout → SeenSide → SeenSide → SeenSide → Type 0
SideJoins layout (Pass v) (Pass w) (Pass r) = (r.heap ≡ v.heap) × (r.view ≡ joined_view v.view w.view)
    × ViewIsValid layout r.view
SideJoins layout (Pass v) (Pass w) (Shard n) = ⊥
SideJoins layout (Pass v) (Shard p) new = ⊥
SideJoins layout (Shard o) other new = ⊥

-- ---- receipts

-- the heap that it is of
abbrev pub IsOfHeap : SeenSide → Heap → Type 0
IsOfHeap (Pass v) heap = heap ≡ v.heap
IsOfHeap (Shard o) heap = heap ≡ o.pages.owner.heap

-- a receipt of all its results
abbrev pub IsReceiptBy : SeenSide → Caller → Type 0
IsReceiptBy (Pass v) r = r ≡ receipt_by v
IsReceiptBy (Shard o) r = r ≡ receipt_by o.pages.owner

-- it heeded the receipt, is otherwise as it was, and stays a pass or an owner as before
abbrev pub SideHeeds : Layout → Caller → SeenSide → SeenSide → Type 0
SideHeeds layout r (Pass v) (Pass w) = (w ≡ heeded v r) × ViewIsValid layout w.view
SideHeeds layout r (Pass v) (Shard n) = ⊥
SideHeeds layout r (Shard o) (Shard n) = (n ≡ shard_heeded o r) × HoldsShard layout n
SideHeeds layout r (Shard o) (Pass w) = ⊥

-- ---- bundles

-- the bundle of no passes that it opens
abbrev pub OpensBundle : SeenSide → Caller → Type 0
OpensBundle (Pass v) b = b ≡ bundle_by v
OpensBundle (Shard o) b = b ≡ bundle_by o.pages.owner

-- the bundle before and after it ended there
abbrev pub EndsInBundle : SeenSide → Caller → Caller → Type 0
EndsInBundle (Pass v) b c = c ≡ bundled b v
EndsInBundle (Shard o) b c = c ≡ bundled b o.pages.owner
