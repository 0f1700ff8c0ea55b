-- What holds after every list of events: the clauses of the theorem, each of a world and of the lists of what was put.
use Rattle.std.specs.Prelude.{IsSome, ℕ, ◌+◌, ◌/◌, ◌%◌, ◌≡◌, ◌≢◌, ◌<◌, ◌≤◌, true, false, nat_lt, not, ◌&&◌}
use Rattle.std.specs.Prelude.{◌||◌, List, [], Some, None, All, length, slice_get, slice_index}
use Rattle.sh_step.specs.declared.action.Event.{Event}
use Rattle.sh_slots.specs.declared.hand.SlotRef.{SlotRef}
use Rattle.sh_slots.specs.declared.hand.KeyRef.{KeyRef}
use Rattle.sh_word.specs.Fields.{Fields}
use Rattle.sh_key.specs.Layout.{Layout, IsLayout}
use Rattle.sh_shape.specs.Shape.{Numbers, IsShape, Fits}
use Rattle.sh_shape.specs.Places.{slot_places}
use Rattle.sh_step.specs.Moves.{row}
use Rattle.sh_step.specs.Rows.{own, unpoint}
use Rattle.sh_step.specs.Ends.{HandNames, ComesNearer, HasNext}
use Rattle.sh_core.specs.Variants.{Table}
use Rattle.sh_core.specs.KeyEnds.{EndsAreTrue}
use Rattle.sh_core.specs.Looks.{LooksAreTrue}
use Rattle.sh_core.specs.InHeap.{StepsWithin, CountsFit, BellsAreSmall, ValuesFit, StoresWords, IssuesKeys}
use Rattle.sh_slots.specs.declared.hand.Hand.TheVariants.{Idle, Filling}
use Rattle.sh_slots.specs.Slots.{name_at}
use Rattle.sh_step.specs.Plans.{plan_of, Plan, heap_pages, shard_of}
use Rattle.sh_shape.specs.Classes.{class_count}
use Rattle.sh_slots.specs.Slots.{slot_ref_of}
use Rattle.sh_step.specs.Collections.{total, if1, noted}
use Rattle.sh_step.specs.declared.body.Body.{Body}
use Rattle.sh_core.specs.Worlds.{World, run, value_at}
use Rattle.sh_core.specs.Lists.{PutLists, lists_of, slots_under, times, mine_at, in_hand, state_of}
use Rattle.sh_core.specs.Tallies.{at_slot, current, visits, finishing}
use Rattle.sh_history.specs.declared.entry.Entry.{Entry}
use Rattle.sh_history.specs.History.{Legal, value_of, is_removed, got_count, released_count, got_count_by}
use Rattle.sh_history.specs.History.{released_count_by}
use Rattle.sh_history.specs.Log.{pass_of}
use Rattle.sh_core.specs.Stacks.{Chains, slot_ref, tying, ties_of, cursor_at, ring_tying, ring_ties, bell_cursor_at}
use Rattle.sh_core.specs.Stacks.{bell_link, bell_head}
use Rattle.sh_core.specs.Bells.{rings, armed_at}

-- the kinds of a slot, each counted
abbrev pub live : Fields → ℕ
live st = if1 (st.present && not st.marked)

abbrev pub marked : Fields → ℕ
marked st = if1 (st.present && st.marked)

abbrev pub retired : Fields → ℕ
retired st = if1 (not st.present && st.marked)

abbrev pub mine : World → SlotRef → ℕ
mine w x = total (mine_at x) w.parts

abbrev pub in_hands : World → SlotRef → ℕ
in_hands w x = total (in_hand x) w.parts

abbrev pub queued_at : PutLists → SlotRef → ℕ
queued_at l x = times x.slot (l.stack x.page) + times x.slot (l.chain x.page)

-- how often the six kinds count a slot, in all
abbrev pub kind_count : World → PutLists → SlotRef → ℕ
kind_count w l x = live (state_of w x) + marked (state_of w x) + retired (state_of w x) + mine w x + in_hands w x +
    queued_at l x

-- a slot of its page's class has one kind, and only one; another slot, and each of a blank page, has none
abbrev pub OneKind : World → PutLists → Type 0
OneKind w l = (x : SlotRef) → kind_count w l x ≡ if1 (nat_lt x.slot (slots_under (w.words.class_at x.page)))

-- a class word names a class or is 0, and only pages of the heap have a class
abbrev pub ClassesAreKnown : Plan → World → Type 0
ClassesAreKnown plan w = (q : ℕ) →
    (w.words.class_at q ≤ class_count) × (heap_pages plan ≤ q → w.words.class_at q ≡ 0)

-- while a pass holds k, k names a slot of the heap, which is present in k's generation, and its words are the value
-- that k was issued with
pub record KeyIsValid (plan : Plan) (w : World) (k : ℕ) : Type 0 where
  pub name : KeyRef
  pub unpacks : plan.keys.unpack k ≡ Some name
  pub page : name.page < heap_pages plan
  pub slot : name.slot < slot_places
  pub present : (state_of w (slot_ref_of name)).present ≡ true
  pub generation : (state_of w (slot_ref_of name)).generation ≡ name.generation
  pub value : value_of w.log k ≡ Some (value_at w.words name.page name.slot)

abbrev pub HeldKeysAreValid : Plan → World → Type 0
HeldKeysAreValid plan w = (a : ℕ) (p : Body) (k : ℕ) → slice_get w.parts a ≡ Some p → 0 < times k p.holds
    → KeyIsValid plan w k

-- What a pass noted of a key is about a key that it holds, and true. It notes the class word of the key's page, the
-- length of its value, and words of the value
pub record KeyNotes (plan : Plan) (w : World) (p : Body) : Type 0 where
  pub class_words : (k c : ℕ) → noted k p.class_words ≡ Some c → (0 < times k p.holds)
      × ((n : KeyRef) → plan.keys.unpack k ≡ Some n → w.words.class_at n.page ≡ c)
  pub lengths : (k m : ℕ) → noted k p.lengths ≡ Some m → (0 < times k p.holds)
      × ((v : List ℕ) → value_of w.log k ≡ Some v → length v ≡ m)
  pub words : (j k i n : ℕ) → slice_get p.contents j ≡ Some (k, i, n) → (0 < times k p.holds)
      × ((v : List ℕ) → value_of w.log k ≡ Some v → (i < length v) × (slice_index v i ≡ n))

abbrev pub NotesAreTrue : Plan → World → Type 0
NotesAreTrue plan w = (a : ℕ) (p : Body) → slice_get w.parts a ≡ Some p → KeyNotes plan w p

-- a slot's count is the number of holds on its present key and of passes that remove or leave there
abbrev pub holds_now : Plan → SlotRef → Fields → Body → ℕ
holds_now plan x st p = total (λ k. if1 (at_slot x (plan.keys.unpack k) && current st (plan.keys.unpack k))) p.holds

abbrev pub Counted : Plan → World → Type 0
Counted plan w = (x : SlotRef) → (state_of w x).count ≡ total (holds_now plan x (state_of w x)) w.parts + total
    (visits plan x) w.parts

-- holds on the present key are at most guard_max, and each pass may be on the slot once more for a moment
abbrev pub CountIsFew : Plan → World → Type 0
CountIsFew plan w = (x : SlotRef) → (state_of w x).count ≤ plan.keys.guard_max + length w.parts

-- each generation of a slot below its present one was issued and removed
abbrev pub PastIsRemoved : Plan → World → Type 0
PastIsRemoved plan w = (k : ℕ) (n : KeyRef) → plan.keys.unpack k ≡ Some n
    → n.generation < (state_of w (slot_ref_of n)).generation → IsSome (value_of w.log k) × (is_removed w.log k ≡ true)

-- so a slot issues at most gen_max keys
abbrev pub GenerationsEnd : Plan → World → Type 0
GenerationsEnd plan w = (x : SlotRef)
    → (0 < (state_of w x).generation) × ((state_of w x).generation ≤ plan.keys.gen_max)

-- if it is retired, its generation is the last one
abbrev pub RetiredIsLast : Plan → World → Type 0
RetiredIsLast plan w = (x : SlotRef) → (state_of w x).present ≡ false → (state_of w x).marked ≡ true
    → (state_of w x).generation ≡ plan.keys.gen_max

-- What the log says of a key of generation g, at a slot in the state st whose words hold `now`. The key of the present
-- generation was issued with the value in the words if the slot is live, marked or retired, and not if it is empty. It
-- was removed exactly if the mark is set. A key of a later generation was neither issued nor removed
pub record KeyMatchesLog (log : List Entry) (k g : ℕ) (st : Fields) (now : List ℕ) : Type 0 where
  pub issued : g ≡ st.generation → (st.present || st.marked) ≡ true → value_of log k ≡ Some now
  pub empty : g ≡ st.generation → (st.present || st.marked) ≡ false → value_of log k ≡ None
  pub removed : g ≡ st.generation → is_removed log k ≡ st.marked
  pub later : st.generation < g → (value_of log k ≡ None) × (is_removed log k ≡ false)

abbrev pub KeysMatchLog : Plan → World → Type 0
KeysMatchLog plan w = (k : ℕ) (n : KeyRef) → plan.keys.unpack k ≡ Some n
    → KeyMatchesLog w.log k n.generation (state_of w (slot_ref_of n)) (value_at w.words n.page n.slot)

-- the Got entries of a key number its Released entries and its holds, for each pass and for all passes together
pub record HoldsMatchLog (w : World) : Type 0 where
  pub of_pass : (a : ℕ) (p : Body) (k : ℕ) → slice_get w.parts a ≡ Some p
      → got_count_by w.log a k ≡ released_count_by w.log a k + times k p.holds
  pub together : (k : ℕ) → got_count w.log k ≡ released_count w.log k + total (λ (p : Body). times k p.holds) w.parts

-- each entry is of a pass of the heap
abbrev pub EntriesAreOurs : Plan → World → Type 0
EntriesAreOurs plan w = All (λ e. pass_of e < plan.passes) w.log

-- a marked slot with count 0 has a pass that finishes it
abbrev pub Finished : Plan → World → Type 0
Finished plan w = (x : SlotRef) → (state_of w x).present ≡ true → (state_of w x).marked ≡ true
    → (state_of w x).count ≡ 0
    → 0 < total (finishing x (state_of w x).generation) w.parts

-- an armed page has exactly one of these: its flag, a pass that must ring, a place on the bell or on the bell chain;
-- another page has none
abbrev pub Armed : Plan → World → PutLists → Type 0
Armed plan w l = (q : ℕ) → (total (armed_at q) w.parts ≡ w.words.head_at q % 2 + total (rings q) w.parts + times q
    (l.bells (shard_of plan q)) + times q (l.bell_chain (shard_of plan q))) × (total (armed_at q) w.parts ≤ 1)

-- a shard's owner word is 1 if exactly one pass owns it, and 0 if none does
pub record OneOwner (w : World) : Type 0 where
  pub word : (n : ℕ) → w.words.owner_at n ≤ 1
  pub owned : (n : ℕ) → w.words.owner_at n ≡ 1 → (a : ℕ) × (p : Body) × (slice_get w.parts a ≡ Some p)
      × (p.owned ≡ Some n)
  pub owner : (a : ℕ) (p : Body) (n : ℕ) → slice_get w.parts a ≡ Some p → p.owned ≡ Some n → w.words.owner_at n ≡ 1
  pub alone : (a b : ℕ) (p r : Body) (n : ℕ) → slice_get w.parts a ≡ Some p → slice_get w.parts b ≡ Some r
      → p.owned ≡ Some n → r.owned ≡ Some n → a ≡ b

-- a pass that owns no shard has no slot, no cursor, no armed page and no bell cursor
abbrev pub ShardlessHaveNothing : World → Type 0
ShardlessHaveNothing w = (a : ℕ) (p : Body) → slice_get w.parts a ≡ Some p → p.owned ≡ None
    → (p.mine ≡ []) × (p.cursors ≡ []) × (p.armed ≡ []) × (p.bell_cursor ≡ None)

-- Along each list, an item's link plus what the pass that ties it will store names the rest. A head names the first of
-- its stack, and a cursor is at the first of its chain. What follows of each link is EachLinked
abbrev pub Linked : Plan → World → PutLists → Type 0
Linked plan w l =
    Chains (λ q. w.words.head_at q / 2) w.words.link_at (λ q s. total (tying (slot_ref q s)) w.parts)
    (λ q s. total (ties_of (slot_ref q s)) w.parts) (λ q s. total (cursor_at q s) w.parts) l.stack l.chain
    × Chains (bell_head plan w.words.bell_at) (bell_link plan w.words.page_link_at)
    (λ n q. total (ring_tying plan n q) w.parts) (λ n q. total (ring_ties plan n q) w.parts)
    (λ n q. total (bell_cursor_at n q) w.parts) l.bells l.bell_chain

-- What a pass has of its own is within its shard, and what it noted is true. Each of its slots is in `mine` once, and
-- is one of its page's class. A page has at most one cursor, at a slot of its class that is not in `mine`. An armed
-- page is armed once, and the bell's cursor is at an armed page. A page of the shard that is not armed has no flag
pub record OwnPartIsValid (plan : Plan) (w : World) (p : Body) : Type 0 where
  pub few_holds : length p.holds ≤ 16
  pub owned : (n : ℕ) → p.owned ≡ Some n → n < plan.shards
  pub mine : (x : SlotRef) → 0 < mine_at x p
      → (mine_at x p ≡ 1) × (own plan p x.page ≡ true) × (x.page < heap_pages plan)
      × (x.slot < slots_under (w.words.class_at x.page))
  pub cursors : (q s : ℕ) → noted q p.cursors ≡ Some s
      → (own plan p q ≡ true) × (q < heap_pages plan) × (s < slots_under (w.words.class_at q))
      × (mine_at (slot_ref q s) p ≡ 0)
  pub one_cursor : (q : ℕ) → noted q (unpoint q p.cursors) ≡ None
  pub armed : (q : ℕ) → 0 < times q p.armed → (times q p.armed ≡ 1) × (own plan p q ≡ true) × (q < heap_pages plan)
  pub unarmed : (q : ℕ) → own plan p q ≡ true → times q p.armed ≡ 0 → w.words.head_at q % 2 ≡ 0
  pub bell : (q : ℕ) → p.bell_cursor ≡ Some q → (own plan p q ≡ true) × (q < heap_pages plan) × (times q p.armed ≡ 1)
  pub notes : (q c : ℕ) → own plan p q ≡ true → noted q p.classes ≡ Some c → w.words.class_at q ≡ c

abbrev pub OwnPartsAreValid : Plan → World → Type 0
OwnPartsAreValid plan w = (a : ℕ) (p : Body) → slice_get w.parts a ≡ Some p → OwnPartIsValid plan w p

-- a slot that is being filled is one of the heap, and the key that it will be published under is one of the layout
abbrev pub FillsAreKeys : Plan → World → Type 0
FillsAreKeys plan w = (a : ℕ) (p : Body) (x : SlotRef) (v : List ℕ) (i : ℕ) → slice_get w.parts a ≡ Some p → p.hand
    ≡ Filling x v i → plan.keys.unpack (plan.keys.pack (name_at x (state_of w x).generation))
    ≡ Some (name_at x (state_of w x).generation)

-- a key has at most as many holds, of all passes together, as the layout allows
abbrev pub HoldsAreFew : Plan → World → Type 0
HoldsAreFew plan w = (k : ℕ) → total (λ (p : Body). times k p.holds) w.parts ≤ plan.keys.guard_max

-- a page whose flag is set has an empty stack
abbrev pub FlaggedAreEmpty : World → PutLists → Type 0
FlaggedAreEmpty w l = (q : ℕ) → w.words.head_at q % 2 ≡ 1 → l.stack q ≡ []

-- a key in hand names a slot of the heap
abbrev pub KeysInHandName : Plan → World → Type 0
KeysInHandName plan w = (a : ℕ) (p : Body) → slice_get w.parts a ≡ Some p → HandNames plan p.hand

-- a pass that has begun something can continue by this table: it has a next step, and each step leaves fewer to the end
abbrev pub GoesOn : Table → Plan → World → Type 0
GoesOn rows plan w = (a : ℕ) (p : Body) → slice_get w.parts a ≡ Some p → p.hand ≢ Idle
    → HasNext (rows plan p) × ComesNearer (rows plan p) p.hand

-- all clauses
pub record Refines (plan : Plan) (w : World) (l : PutLists) : Type 0 where
  pub legal : Legal plan.passes plan.keys.guard_max w.log
  pub entries : EntriesAreOurs plan w
  pub one_kind : OneKind w l
  pub classes : ClassesAreKnown plan w
  pub held : HeldKeysAreValid plan w
  pub notes : NotesAreTrue plan w
  pub looks : LooksAreTrue plan w
  pub holds : HoldsMatchLog w
  pub counted : Counted plan w
  pub few : CountIsFew plan w
  pub counts : CountsFit plan w
  pub past : PastIsRemoved plan w
  pub keys : KeysMatchLog plan w
  pub generations : GenerationsEnd plan w
  pub retired : RetiredIsLast plan w
  pub finished : Finished plan w
  pub owners : OneOwner w
  pub armed : Armed plan w l
  pub shardless : ShardlessHaveNothing w
  pub linked : Linked plan w l
  pub parts : OwnPartsAreValid plan w
  pub fills : FillsAreKeys plan w
  pub places : StepsWithin plan w
  pub bells : BellsAreSmall plan w
  pub values : ValuesFit plan w
  pub stores : StoresWords plan w
  pub issues : IssuesKeys plan w
  pub few_holds : HoldsAreFew plan w
  pub flags : FlaggedAreEmpty w l
  pub hands : KeysInHandName plan w
  pub goes_on : GoesOn row plan w
  pub passes : length w.parts ≡ plan.passes
  pub ends : EndsAreTrue plan w

-- P holds after every list of events, in every heap whose shape fits its layout
abbrev pub Always : (Plan → World → PutLists → Type 0) → Type 0
Always P = (layout : Layout) (shape : Numbers) → IsLayout layout → IsShape shape → Fits layout shape → (es : List Event)
    → P (plan_of layout shape) (run (plan_of layout shape) es) (lists_of (plan_of layout shape) es)
