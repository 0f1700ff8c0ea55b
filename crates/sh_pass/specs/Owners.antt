-- Owners: what a contract sees of a pass that may own a shard, and what each of its steps does.
use Rattle.std.specs.Prelude.{◌≡◌, ◌≢◌, ℕ, zero, suc, ◌+◌, ◌-◌, ◌<◌, ◌==◌, ◌⊎◌, nat_lt, Bool, true, false, cond}
use Rattle.std.specs.Prelude.{not, ◌&&◌, ◌||◌, List, ◌∷◌, ◌++◌, length, Option, Some, None}
use Rattle.atomic_table.specs.declared.shared.Seat.{Seat}
use Rattle.sh_bell.specs.Bell.{is_armed, top_of}
use Rattle.sh_history.specs.declared.log.LogEntry.{LogEntry}
use Rattle.sh_key.specs.Layout.{Layout}
use Rattle.sh_shape.specs.Classes.{slots}
use Rattle.sh_shape.specs.Places.{pages_of, page_number, slot_places}
use Rattle.sh_slots.specs.declared.hand.Hand.{Hand}
use Rattle.sh_slots.specs.declared.hand.Hand.TheVariants.{Idle}
use Rattle.sh_slots.specs.declared.hand.KeyRef.{KeyRef}
use Rattle.sh_slots.specs.declared.hand.SlotRef.{SlotRef}
use Rattle.sh_slots.specs.Slots.{same_slot, published_name, slot_ref_of}
use Rattle.sh_stack.specs.Stack.{top_item, link_item}
use Rattle.sh_step.specs.declared.action.Action.{Action}
use Rattle.sh_step.specs.declared.action.Action.TheVariants.{Adopt}
use Rattle.sh_step.specs.declared.action.PageName.{PageName}
use Rattle.sh_step.specs.declared.action.SlotName.{SlotName}
use Rattle.sh_step.specs.declared.body.Body.{Body}
use Rattle.sh_step.specs.declared.footstep.Footstep.{Footstep}
use Rattle.sh_step.specs.declared.moves.Move.{Move}
use Rattle.sh_step.specs.Collections.{noted, has}
use Rattle.sh_step.specs.Fits.{RowFits}
use Rattle.sh_step.specs.Footsteps.{takes, met, bell_takes, bell_met, owner_met, puts, arms, at_owner, did_find}
use Rattle.sh_step.specs.Moves.{place_named}
use Rattle.sh_step.specs.Operations.{answer}
use Rattle.sh_step.specs.Plans.{Plan, plan_of, shard_of}
use Rattle.sh_table.specs.declared.view.View.{View}
use Rattle.sh_table.specs.Seats.{Heap, IsSeat}
use Rattle.sh_table.specs.Steps.{WordSays, row_by, did}
use Rattle.sh_table.specs.Tales.{ViewIsValid}
use Rattle.sh_pass.specs.Growing.{SameTale, CallsAlone}
use Rattle.sh_pass.specs.Passes.{Caller, HoldsKept, IsTally}

-- what the pass knows of its own
abbrev pub own_body : Caller → Body
own_body v = v.view.own.body

-- the number of the page over the whole heap
abbrev pub heap_page : Caller → PageName → ℕ
heap_page v x = page_number v.view.shape x.shard x.page

-- slot s of the page
abbrev pub heap_slot : Caller → PageName → ℕ → SlotRef
heap_slot v x s = record { page = heap_page v x; slot = s }

abbrev pub slot_in : PageName → ℕ → SlotName
slot_in x s = record { shard = x.shard; page = x.page; slot = s }

-- nothing is begun, and the page is one of the shard that it owns
pub record MayTouch (v : Caller) (x : PageName) : Type 0 where
  pub idle : (own_body v).hand ≡ Idle
  pub owned : (own_body v).owned ≡ Some x.shard
  pub page : x.page < pages_of v.view.shape

-- a seat, and what is kept of it: its holds, the bits of its tale, its shard, and its number
pub record IsOwner (layout : Layout) (heap : Heap) (t : Seat (Unit {0}) View) (held : List ℕ) (bits : ℕ)
    (shard : Option ℕ) (number : ℕ) : Type 0 where
  pub seat : IsSeat layout heap t
  pub owned : t.me.0.own.body.owned ≡ shard
  pub kept : HoldsKept held t.me.0.own.body.holds
  pub tally : IsTally bits t.me.0
  pub own_number : number ≡ t.me.0.pass

-- ---- what it knows of a page and of its bell

-- which slots are its own, the slot to follow next, whether it armed the page, and the class word that it noted; how
-- often it took what was put, and how often it met a link that was not written
pub record SeenPage : Type 0 where
  pub mine : ℕ → Bool
  pub cursor : Option ℕ
  pub armed : Bool
  pub class : Option ℕ
  pub takes : ℕ
  pub met : ℕ

-- page q of the heap as the pass sees it
abbrev pub seen_page : Caller → ℕ → SeenPage
seen_page v q = record {
  mine = λ s. has (same_slot (record { page = q; slot = s })) (own_body v).mine;
  cursor = noted q (own_body v).cursors;
  armed = has (λ r. r == q) (own_body v).armed;
  class = noted q (own_body v).classes;
  takes = takes q v.view.own.trail;
  met = met q v.view.own.trail;
}

-- the page to follow next, how often what was put on the bell was taken, and how often it met a link that was not
-- written
pub record SeenBell : Type 0 where
  pub cursor : Option ℕ
  pub takes : ℕ
  pub met : ℕ

-- the bell of shard n as the pass sees it
abbrev pub seen_bell : Layout → Caller → ℕ → SeenBell
seen_bell layout v n = record {
  cursor = (own_body v).bell_cursor;
  takes = bell_takes n v.view.own.trail;
  met = bell_met
      (plan_of layout v.view.shape) n v.view.own.trail;
}

-- nothing of the page is its own: no slot, no cursor, and it is not armed
pub record HasNothing (g : SeenPage) : Type 0 where
  pub mine : (s : ℕ) → g.mine s ≡ false
  pub cursor : g.cursor ≡ None
  pub armed : g.armed ≡ false

-- the page is blank, or has a class all of whose slots are its own
abbrev pub MayGive : SeenPage → Type 0
MayGive g = (g.class ≡ Some 0) ⊎ ((c : ℕ) × (g.class ≡ Some (suc c)) × ((s : ℕ) → s < slots c → g.mine s ≡ true))

-- ---- pages and bells after a step

-- the page after its stack was taken and its head was found to be n
abbrev pub page_taken : SeenPage → ℕ → SeenPage
page_taken g n = record g { cursor = top_item (top_of n); armed = cond (is_armed n) false g.armed; takes = g.takes + 1 }

-- the same after it was armed
abbrev pub page_armed : SeenPage → ℕ → SeenPage
page_armed g n = record g { cursor = top_item (top_of n); armed = true; takes = g.takes + 1 }

-- after the link of slot s was found to be n
abbrev pub page_followed : SeenPage → ℕ → ℕ → SeenPage
page_followed g s n = cond (n == 0) (record g { met = g.met + 1 })
    (record g { mine = λ t. (t == s) || g.mine t; cursor = link_item n })

-- slot s is no longer its own
abbrev pub page_without : SeenPage → ℕ → SeenPage
page_without g s = record g { mine = λ t. g.mine t && not (t == s) }

-- slot s became its own
abbrev pub page_with : SeenPage → ℕ → SeenPage
page_with g s = record g { mine = λ t. (t == s) || g.mine t }

-- the page of class c, all of whose slots are its own
abbrev pub page_given : SeenPage → ℕ → SeenPage
page_given g c = record g { class = Some (c + 1); mine = λ s. nat_lt s (slots c) }

-- after its class word was found to be n
abbrev pub page_noted : SeenPage → ℕ → SeenPage
page_noted g n = record g { class = Some n }

-- after the link of the page on the bell was found to be n
abbrev pub page_rung : SeenPage → ℕ → SeenPage
page_rung g n = cond (n == 0) g (record g { armed = false })

-- a page of shard n by the number that a word has for it, which names page p as p + k
abbrev pub page_on_bell : Caller → (n k word : ℕ) → Option ℕ
page_on_bell v n k word = cond (nat_lt word k) None (Some (heap_page v (record { shard = n; page = word - k })))

-- the bell of shard n after it was taken, and found to be this word
abbrev pub bell_taken : Caller → (n word : ℕ) → SeenBell → SeenBell
bell_taken v n word b = record b { cursor = page_on_bell v n 1 word; takes = b.takes + 1 }

-- after the link of the page at its cursor was found to be this word
abbrev pub bell_followed : Caller → (n word : ℕ) → SeenBell → SeenBell
bell_followed v n word b = cond (word == 0) (record b { met = b.met + 1 })
    (record b { cursor = page_on_bell v n 2 word })

-- ---- what a step does

-- it did the action x as the move m, and found the word n
pub record OwnerDid (layout : Layout) (x : Action) (m : Move) (n : ℕ) (v w : Caller) : Type 0 where
  pub heap : w.heap ≡ v.heap
  pub view : w.view ≡ did layout x m v.view n
  pub fits : answer (row_by layout v.view m).operation n ≡ Some n → RowFits v.view.shape (plan_of layout v.view.shape)
      (row_by layout v.view m) n
  pub says : answer (row_by layout v.view m).operation n ≡ Some n → WordSays (plan_of layout v.view.shape) (own_body v)
      (row_by layout v.view m).place n
  pub stands : ViewIsValid layout w.view

-- heap, tale, shard and holds are as before
pub record Aside (v w : Caller) : Type 0 where
  pub heap : w.heap ≡ v.heap
  pub same : SameTale v.view w.view
  pub owned : (own_body w).owned ≡ (own_body v).owned
  pub holds : (own_body w).holds ≡ (own_body v).holds

-- nothing was put, and nothing was armed
abbrev pub NonePut : Caller → Caller → Type 0
NonePut v w = puts w.view.own.trail ≡ puts v.view.own.trail

abbrev pub NoneArmed : Caller → Caller → Type 0
NoneArmed v w = arms w.view.own.trail ≡ arms v.view.own.trail

-- after n steps the hand is this, and these entries joined the log
pub record OwnerActs (begun : Hand) (es : List LogEntry) (n : ℕ) (v w : Caller) : Type 0 where
  pub aside : Aside v w
  pub hand : (own_body w).hand ≡ begun
  pub log : w.view.own.log ≡ v.view.own.log ++ es
  pub steps : length w.view.own.trail ≡ length v.view.own.trail + n

-- each bell is as it was, as the pass sees it
abbrev pub SameBells : Layout → Caller → Caller → Type 0
SameBells layout v w = (n : ℕ) → seen_bell layout w n ≡ seen_bell layout v n

-- page q is now this, and no other page changed
pub record OnPage (q : ℕ) (g : SeenPage) (v w : Caller) : Type 0 where
  pub here : seen_page w q ≡ g
  pub others : (r : ℕ) → r ≢ q → seen_page w r ≡ seen_page v r

abbrev pub SamePages : Caller → Caller → Type 0
SamePages v w = (q : ℕ) → seen_page w q ≡ seen_page v q

-- one step leaves all as it was except the shard that the pass owns, and what it knows of the shard
pub record OwnerTries (v w : Caller) : Type 0 where
  pub heap : w.heap ≡ v.heap
  pub same : SameTale v.view w.view
  pub hand : (own_body w).hand ≡ Idle
  pub holds : (own_body w).holds ≡ (own_body v).holds
  pub log : w.view.own.log ≡ v.view.own.log
  pub steps : length w.view.own.trail ≡ length v.view.own.trail + 1

-- this step found that shard n has no owner
abbrev pub finds_free : ℕ → Footstep → Bool
finds_free n t = elim (t.action) [ Adopt k ↦ at_owner n t.place && did_find 0 t | _ ↦ false ]

-- the first step that the pass did found that shard n has no owner
pub record FoundFree (n : ℕ) (v w : Caller) : Type 0 where
  pub step : Footstep
  pub more : List Footstep
  pub is : w.view.own.trail ≡ v.view.own.trail ++ step ∷ more
  pub free : finds_free n step ≡ true

-- the pass owns shard n, which had no owner, and of which it knows nothing yet
pub record Adopted (n : ℕ) (v w : Caller) : Type 0 where
  pub found : FoundFree n v w
  pub owned : (own_body w).owned ≡ Some n
  pub bell : (own_body w).bell_cursor ≡ None
  pub pages : (q : ℕ) → seen_page w q ≡ record (seen_page v q)
      { mine = λ s. false; cursor = None; armed = false; class = None }

-- an adopt of shard n that found this word: the shard is its own if the word was 0, and otherwise it met an owner
abbrev pub OwnerAdopts : Layout → ℕ → ℕ → Caller → Caller → Type 0
OwnerAdopts layout n zero v w = Adopted n v w
OwnerAdopts layout n (suc m) v w = ((own_body w).owned ≡ None) × SamePages v w
    × (owner_met n w.view.own.trail ≡ suc (owner_met n v.view.own.trail))

-- the shard is given up
pub record Left (v w : Caller) : Type 0 where
  pub owned : (own_body w).owned ≡ None
  pub heap : w.heap ≡ v.heap
  pub same : SameTale v.view w.view
  pub hand : (own_body w).hand ≡ Idle
  pub holds : (own_body w).holds ≡ (own_body v).holds
  pub log : w.view.own.log ≡ v.view.own.log
  pub steps : length w.view.own.trail ≡ length v.view.own.trail + 1

-- the key under which the slot's value is published, if its state was found to be n
abbrev pub published : Layout → Caller → SlotRef → ℕ → ℕ
published layout v x n = (plan_of layout v.view.shape).keys.pack (published_name x n)

-- the key names a slot of shard n
abbrev pub IsKeyIn : Layout → Caller → (n key : ℕ) → Type 0
IsKeyIn layout v n key = (x : KeyRef) × (place_named (plan_of layout v.view.shape) key ≡ Some x)
    × (shard_of (plan_of layout v.view.shape) x.page ≡ n)

-- the key names a slot of page q of the heap
abbrev pub IsKeyOn : Layout → Caller → (q key : ℕ) → Type 0
IsKeyOn layout v q key = (x : KeyRef) × (place_named (plan_of layout v.view.shape) key ≡ Some x) × (x.page ≡ q)

-- the key names this slot
abbrev pub IsKeyOfSlot : Plan → SlotRef → (key : ℕ) → Type 0
IsKeyOfSlot plan slot_ref key = (x : KeyRef) × (place_named plan key ≡ Some x) × (slot_ref_of x ≡ slot_ref)

-- ---- calls

-- this slot, of a page of its shard, became its own; or none did and its pages are as before
abbrev pub SlotCame : Option SlotRef → Caller → Caller → Type 0
SlotCame None v w = SamePages v w
SlotCame (Some x) v w = (y : PageName) × MayTouch v y × (x.page ≡ heap_page v y) × (x.slot < slot_places)
    × ((seen_page v x.page).mine x.slot ≡ false) × OnPage x.page (page_with (seen_page v x.page) x.slot) v w

-- A call is over, and this slot became its own, or none did. Shard, bells and tale are as before, and nothing was armed
pub record CallLeaves (layout : Layout) (gained : Option SlotRef) (v w : Caller) : Type 0 where
  pub idle : (own_body w).hand ≡ Idle
  pub same : SameTale v.view w.view
  pub owned : (own_body w).owned ≡ (own_body v).owned
  pub bells : SameBells layout v w
  pub arm : NoneArmed v w
  pub alone : CallsAlone v.view w.view
  pub slot : SlotCame gained v w
