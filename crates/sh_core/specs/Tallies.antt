-- What is kept for each slot: sums over the passes.
use Rattle.std.specs.Prelude.{ℕ, ◌+◌, ◌-◌, ◌≡◌, ◌<◌, ◌==◌, nat_lt, Bool, true, false, cond, not, ◌&&◌, ◌||◌, List}
use Rattle.std.specs.Prelude.{Option, Some, None}
use Rattle.sh_slots.specs.declared.hand.Hand.TheVariants.{Removing, Leaving, Finishing}
use Rattle.sh_slots.specs.declared.hand.SlotRef.{SlotRef}
use Rattle.sh_slots.specs.declared.hand.KeyRef.{KeyRef}
use Rattle.sh_core.specs.Words.{Words}
use Rattle.sh_word.specs.Fields.{Fields, fields_of}
use Rattle.sh_step.specs.Plans.{Plan}
use Rattle.sh_shape.specs.Classes.{slots}
use Rattle.sh_slots.specs.Slots.{same_slot, slot_ref_of}
use Rattle.sh_step.specs.Collections.{total, if1}
use Rattle.sh_step.specs.declared.body.Body.{Body}
use Rattle.sh_core.specs.Lists.{PutLists, mine_at, in_hand, times}

-- the key names this slot
abbrev pub at_slot : SlotRef → Option KeyRef → Bool
at_slot x (Some n) = same_slot x (slot_ref_of n)
at_slot x None = false

-- the key's generation is the slot's, and the slot is present
abbrev pub current : Fields → Option KeyRef → Bool
current st (Some n) = st.present && (n.generation == st.generation)
current st None = false

abbrev pub held : Plan → SlotRef → Body → ℕ
held plan x p = total (λ k. if1 (at_slot x (plan.keys.unpack k))) p.holds

abbrev pub visits : Plan → SlotRef → Body → ℕ
visits plan x p = elim (p.hand) [
  | Removing k ↦ if1 (at_slot x (plan.keys.unpack k))
  | Leaving y
      ↦ if1 (same_slot x y)
  | _ ↦ 0
]

abbrev pub stale : Fields → SlotRef → Option KeyRef → ℕ
stale st x o = cond (at_slot x o) (if1 (not (current st o))) 0

-- how many of its holds, and of the key that it removes, name the slot in another generation
abbrev pub lost : Plan → SlotRef → Fields → Body → ℕ
lost plan x st p = total (λ k. stale st x (plan.keys.unpack k)) p.holds + elim (p.hand)
    [ Removing k ↦ stale st x (plan.keys.unpack k) | _ ↦ 0 ]

abbrev pub finishing : SlotRef → ℕ → Body → ℕ
finishing x g p = elim (p.hand) [ Finishing y h s ↦ if1 (same_slot x y && (h == g)) | _ ↦ 0 ]

-- What a slot is to the passes together
pub record Tally : Type 0 where
  pub mine : ℕ
  pub hand : ℕ
  pub held : ℕ
  pub visits : ℕ
  pub lost : ℕ
  pub finishing : ℕ

abbrev pub due : Plan → SlotRef → Fields → Body → Tally
due plan x st p = record {
  mine = mine_at x p;
  hand = in_hand x p;
  held = held plan x p;
  visits = visits plan x p;
  lost = lost plan x st p;
  finishing = finishing x st.generation p;
}

abbrev pub tally : Plan → SlotRef → Fields → List Body → Tally
tally plan x st ps = record {
  mine = total (mine_at x) ps;
  hand = total (in_hand x) ps;
  held = total (held plan x) ps;
  visits = total (visits plan x) ps;
  lost = total (lost plan x st) ps;
  finishing = total (finishing x st.generation) ps;
}

-- room: 1 if the slot is one of its page's class, otherwise 0. queued: how often the stack and the chain have the slot
pub record AddsUp (room queued : ℕ) (st : Fields) (t : Tally) : Type 0 where
  pub kinds : if1 (st.present || st.marked) + t.mine + t.hand + queued ≡ room
  pub counts : st.count ≡ t.held + t.visits
  pub none_lost : t.lost ≡ 0
  pub owed : st.present ≡ true → st.marked ≡ true → st.count ≡ 0 → 0 < t.finishing

-- 1 for a slot of its page's class, otherwise 0; a blank page has none
abbrev pub room : Words → SlotRef → ℕ
room w x = cond (nat_lt 0 (w.class_at x.page) && nat_lt x.slot (slots (w.class_at x.page - 1))) 1 0

abbrev pub queued : PutLists → SlotRef → ℕ
queued l x = times x.slot (l.stack x.page) + times x.slot (l.chain x.page)

abbrev pub SlotsAddUp : Plan → Words → List Body → PutLists → Type 0
SlotsAddUp plan w ps l = (x : SlotRef) → AddsUp (room w x) (queued l x) (fields_of (w.state_at x.page x.slot))
    (tally plan x (fields_of (w.state_at x.page x.slot)) ps)
