-- What an insert of a run in one thread is answered, by the room in its pass's shard.
use Rattle.std.specs.Prelude.{◌≡◌, ◌≢◌, ◌⊎◌, ℕ, ◌+◌, ◌<◌, Bool, true, List, [], ◌∷◌, ◌++◌, Option, Some, None, IsSome}
use Rattle.std.specs.Prelude.{refl}
use Rattle.std.specs.List.{All}
use Rattle.sh_value.specs.declared.refusal.Refusal.TheVariants as refusal
use Rattle.sh_key.specs.Layout.{Layout, IsLayout}
use Rattle.sh_shape.specs.Classes.{slots}
use Rattle.sh_shape.specs.Shape.{Numbers, IsShape, Fits}
use Rattle.sh_step.specs.declared.action.Event.{Event}
use Rattle.sh_slots.specs.declared.hand.KeyRef.{KeyRef}
use Rattle.sh_step.specs.Moves.{place_named}
use Rattle.sh_step.specs.Plans.{Plan, plan_of, page_number}
use Rattle.sh_core.specs.Refines.{mine}
use Rattle.sh_core.specs.Stacks.{slot_ref}
use Rattle.sh_core.specs.Worlds.{World, run}
use Rattle.sh_shard.specs.Shards.{value_class}
use Rattle.sh_quiet.specs.Quiescence.{IsUsed}
use Rattle.sh_script.specs.declared.calls.Call.{Call}
use Rattle.sh_script.specs.declared.calls.Call.TheVariants as call
use Rattle.sh_script.specs.declared.calls.CallLine.{CallLine}
use Rattle.script_output.specs.Keys.{shown}
use Rattle.script_output.specs.declared.answer.Answer.{Answer}
use Rattle.script_output.specs.declared.answer.Answer.TheVariants as answer
use Rattle.script_calls.specs.Parts.{RunTerms, PassPart, heap_terms}
use Rattle.script_calls.specs.Runs.{CallsRun, opening_calls}
use Rattle.script_heap.specs.ByLine.{RunsByLine}
use Rattle.script_heap.specs.HeapOutput.{IsHeapOutput}
use Rattle.script_heap.specs.Owners.{owned_by}

-- the class word of page p of shard k
abbrev pub class_word : Plan → World → (k p : ℕ) → ℕ
class_word plan w k p = w.words.class_at (page_number plan k p)

-- each slot of each page of shard k with class c is live, marked or retired
abbrev pub NoSlotLeft : Plan → World → (k c : ℕ) → Type 0
NoSlotLeft plan w k c = (p s : ℕ) → p < plan.pages → class_word plan w k p ≡ c + 1 → s < slots c
    → IsUsed w (slot_ref (page_number plan k p) s)

-- no page of shard k is blank
abbrev pub NoPageBlank : Plan → World → (k : ℕ) → Type 0
NoPageBlank plan w k = (p : ℕ) → p < plan.pages → class_word plan w k p ≢ 0

-- page p of shard k has class d, and each of its slots is its owner's
pub record OwnersWholly (plan : Plan) (w : World) (k p d : ℕ) : Type 0 where
  pub class : class_word plan w k p ≡ d + 1
  pub whole : (s : ℕ) → s < slots d → mine w (slot_ref (page_number plan k p) s) ≡ 1

-- no page of shard k with another class than c is wholly its owner's
abbrev pub NoPageSpare : Plan → World → (k c : ℕ) → Type 0
NoPageSpare plan w k c = (p d : ℕ) → p < plan.pages → d ≢ c → ¬ OwnersWholly plan w k p d

-- Shard k has no room for a value of class c. No page is blank, so no segment is unopened.
pub record HasNoRoom (plan : Plan) (w : World) (k c : ℕ) : Type 0 where
  pub used : NoSlotLeft plan w k c
  pub blank : NoPageBlank plan w k
  pub spare : NoPageSpare plan w k c

-- a slot of a page of shard k with class c is not live, marked or retired
abbrev pub HasFreeSlot : Plan → World → (k c : ℕ) → Type 0
HasFreeSlot plan w k c = (p : ℕ) × (s : ℕ) × (p < plan.pages) × (class_word plan w k p ≡ c + 1) × (s < slots c)
    × ¬ IsUsed w (slot_ref (page_number plan k p) s)

-- a page of shard k is blank
abbrev pub HasBlankPage : Plan → World → (k : ℕ) → Type 0
HasBlankPage plan w k = (p : ℕ) × (p < plan.pages) × (class_word plan w k p ≡ 0)

-- a page of shard k with another class than c is wholly its owner's
abbrev pub HasSparePage : Plan → World → (k c : ℕ) → Type 0
HasSparePage plan w k c = (p : ℕ) × (d : ℕ) × (p < plan.pages) × (d ≢ c) × OwnersWholly plan w k p d

-- shard k has room for a value of class c
abbrev pub HasRoom : Plan → World → (k c : ℕ) → Type 0
HasRoom plan w k c = HasFreeSlot plan w k c ⊎ (HasBlankPage plan w k ⊎ HasSparePage plan w k c)

-- a shard that has room is not one that has none
abbrev pub RoomExcludes : Type 0
RoomExcludes = (plan : Plan) (w : World) (k c : ℕ) → HasRoom plan w k c → ¬ HasNoRoom plan w k c

-- ---- by the words after a line

-- The answer to an insert of these words by pass p, if passes have these parts before and this is the world after. If
-- it is NoShard, the pass owns no shard. If it is Full, its shard has no room. If it is Memory, no slot is left there
-- and no page is spare. TooLong is exact by the call itself.
abbrev pub InsertIsExact : Plan → World → (ℕ → PassPart) → (p : ℕ) → (words : List ℕ) → Answer → Type 0
InsertIsExact plan w parts p words (answer.Refused refusal.Full) = (k : ℕ) × (owned_by parts p ≡ Some k)
    × HasNoRoom plan w k (value_class words)
InsertIsExact plan w parts p words (answer.Refused refusal.Memory) = (k : ℕ) × (owned_by parts p ≡ Some k)
    × NoSlotLeft plan w k (value_class words) × NoPageSpare plan w k (value_class words)
InsertIsExact plan w parts p words (answer.Refused refusal.NoShard) = owned_by parts p ≡ None
InsertIsExact plan w parts p words (answer.Refused refusal.TooLong) = Unit {0}
InsertIsExact plan w parts p words (answer.Key number) = IsSome (owned_by parts p)
InsertIsExact plan w parts p words _ = ⊥

-- the same for a call, if it is an insert
abbrev pub CallFindsRoom : Plan → World → (ℕ → PassPart) → (p : ℕ) → Call → Answer → Type 0
CallFindsRoom plan w parts p (call.Insert words) a = InsertIsExact plan w parts p words a
CallFindsRoom plan w parts p _ a = Unit {0}

-- the answer of each of these lines is exact in the world after the line
abbrev pub RoomsAreExact : (plan : Plan) (early late : List Event) (terms : RunTerms) (tag : Option ℕ)
    (before : CallsRun) (lines : List CallLine) (answers : List Answer) (after : CallsRun)
    → RunsByLine plan early late terms tag before lines answers after → Type 0
RoomsAreExact plan early late terms tag before [] [] after h = Unit {0}
RoomsAreExact plan early late terms tag before [] (a ∷ answers) after h = ⊥
RoomsAreExact plan early late terms tag before (l ∷ lines) [] after h = ⊥
RoomsAreExact plan early late terms tag before (l ∷ lines) (a ∷ answers) after h =
    CallFindsRoom plan (run plan (early ++ h.3)) before.parts l.pass l.call a
    × RoomsAreExact plan (early ++ h.3) h.4 terms tag h.1 lines answers after h.6

-- In a run of mode heap an insert is Full only if its pass's shard has no room for the value's class: no slot of the
-- class, no blank page and no page of another class that is wholly the owner's.
abbrev pub LinesFindRoom : Type 0
LinesFindRoom = (asked : Bool) (layout : Layout) (shape : Numbers) (tag : Option ℕ) (lines : List CallLine)
    (output : List ℕ) → IsLayout layout → IsShape shape → Fits layout shape
    → All (λ (l : CallLine). l.pass < shape.passes) lines
    → (h : IsHeapOutput true layout shape tag lines asked output)
    → RoomsAreExact (plan_of layout shape) [] h.events (heap_terms layout shape) tag (opening_calls (Some h.heap))
    lines h.told.replies.answers h.told.replies.after (h.by_line refl)

-- ---- by the words before a line

-- The number is that of a key of shard k. If its page is blank in this world, no lower page of the shard is. If its
-- page has another class than c or none, the key names slot 0.
pub record BeginsPage (plan : Plan) (tag : Option ℕ) (w : World) (k c number : ℕ) : Type 0 where
  pub key : ℕ
  pub is : number ≡ shown tag key
  pub name : KeyRef
  pub named : place_named plan key ≡ Some name
  pub page : ℕ
  pub place : name.page ≡ page_number plan k page
  pub lowest : class_word plan w k page ≡ 0 → (q : ℕ) → q < page → class_word plan w k q ≢ 0
  pub begins : class_word plan w k page ≢ c + 1 → name.slot ≡ 0

-- The answer to an insert of these words by pass p, if passes have these parts and this is the world before. If it is
-- the number of a key, the pass's shard has room, and a page that is given the class begins with slot 0. If it is Full,
-- the shard has no room. If it is Memory, only a blank page has room.
abbrev pub InsertSeesRoom : Plan → Option ℕ → World → (ℕ → PassPart) → (p : ℕ) → (words : List ℕ) → Answer → Type 0
InsertSeesRoom plan tag w parts p words (answer.Key number) = (k : ℕ) × (owned_by parts p ≡ Some k)
    × HasRoom plan w k (value_class words) × BeginsPage plan tag w k (value_class words) number
InsertSeesRoom plan tag w parts p words (answer.Refused refusal.Full) = (k : ℕ) × (owned_by parts p ≡ Some k)
    × HasNoRoom plan w k (value_class words)
InsertSeesRoom plan tag w parts p words (answer.Refused refusal.Memory) = (k : ℕ) × (owned_by parts p ≡ Some k)
    × NoSlotLeft plan w k (value_class words) × NoPageSpare plan w k (value_class words)
InsertSeesRoom plan tag w parts p words _ = Unit {0}

-- the same for a call, if it is an insert
abbrev pub CallSeesRoom : Plan → Option ℕ → World → (ℕ → PassPart) → (p : ℕ) → Call → Answer → Type 0
CallSeesRoom plan tag w parts p (call.Insert words) a = InsertSeesRoom plan tag w parts p words a
CallSeesRoom plan tag w parts p _ a = Unit {0}

-- the answer of each of these lines is by the room in the world before the line
abbrev pub RoomsAreSeen : (plan : Plan) (early late : List Event) (terms : RunTerms) (tag : Option ℕ)
    (before : CallsRun) (lines : List CallLine) (answers : List Answer) (after : CallsRun)
    → RunsByLine plan early late terms tag before lines answers after → Type 0
RoomsAreSeen plan early late terms tag before [] [] after h = Unit {0}
RoomsAreSeen plan early late terms tag before [] (a ∷ answers) after h = ⊥
RoomsAreSeen plan early late terms tag before (l ∷ lines) [] after h = ⊥
RoomsAreSeen plan early late terms tag before (l ∷ lines) (a ∷ answers) after h =
    CallSeesRoom plan tag (run plan early) before.parts l.pass l.call a
    × RoomsAreSeen plan (early ++ h.3) h.4 terms tag h.1 lines answers after h.6

-- In a run of mode heap an insert is ok only if its pass's shard has room for the value's class by the words before the
-- line, and Full only if it has none. A key in a page that had not the class by the words before the line names slot 0.
abbrev pub LinesSeeRoom : Type 0
LinesSeeRoom = (asked : Bool) (layout : Layout) (shape : Numbers) (tag : Option ℕ) (lines : List CallLine)
    (output : List ℕ) → IsLayout layout → IsShape shape → Fits layout shape
    → All (λ (l : CallLine). l.pass < shape.passes) lines
    → (h : IsHeapOutput true layout shape tag lines asked output)
    → RoomsAreSeen (plan_of layout shape) [] h.events (heap_terms layout shape) tag (opening_calls (Some h.heap))
    lines h.told.replies.answers h.told.replies.after (h.by_line refl)
