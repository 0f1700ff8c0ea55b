-- Ends: where a removed key ends, and what the pass that ends it has read of its value.
use Rattle.std.specs.Prelude.{ℕ, ◌+◌, ◌≡◌, ◌==◌, nat_lt, Bool, true, false, not, ◌&&◌, ◌||◌, List, Option, Some, None}
use Rattle.std.specs.Prelude.{slice_get}
use Rattle.std.specs.Bool.{then_some}
use Rattle.sh_history.specs.History.{value_of, is_removed}
use Rattle.sh_slots.specs.declared.hand.Hand.{Hand}
use Rattle.sh_slots.specs.declared.hand.Hand.TheVariants.{Finishing}
use Rattle.sh_slots.specs.declared.hand.KeyRef.{KeyRef}
use Rattle.sh_slots.specs.declared.hand.Sight.{Sight}
use Rattle.sh_slots.specs.declared.hand.SlotRef.{SlotRef}
use Rattle.sh_slots.specs.Slots.{same_slot, slot_ref_of, name_at, marked_word, value_seen}
use Rattle.sh_step.specs.Collections.{total, if1}
use Rattle.sh_step.specs.Conditions.{Named}
use Rattle.sh_step.specs.declared.action.Action.{Action}
use Rattle.sh_step.specs.declared.action.Action.TheVariants.{Finish}
use Rattle.sh_step.specs.declared.action.Event.{Event}
use Rattle.sh_step.specs.declared.body.Body.{Body}
use Rattle.sh_word.specs.Fields.{Fields, fields_of}
use Rattle.sh_step.specs.Plans.{Plan}
use Rattle.sh_step.specs.Rows.{is_read}
use Rattle.sh_core.specs.Lists.{times}
use Rattle.sh_core.specs.Looks.{Sees}
use Rattle.sh_core.specs.Worlds.{World, step}

-- the slot is in a later generation than g, or retired in it
abbrev pub is_after : ℕ → Fields → Bool
is_after g st = nat_lt g st.generation || (not st.present && st.marked && (st.generation == g))

-- the key of this name has ended
abbrev pub has_ended : World → KeyRef → Bool
has_ended w n = is_after n.generation (fields_of (w.words.state_at n.page n.slot))

-- what ends: the name of a key, and what was read of its value
pub record Ending : Type 0 where
  pub name : KeyRef
  pub sight : Sight

-- what an action by a pass with this hand ends: a Finish ends a generation if it finds the marked word without a count
abbrev pub ending_by : World → Action → Hand → Option Ending
ending_by w Finish (Finishing x g s) =
    then_some (w.words.state_at x.page x.slot == marked_word g) (record { name = name_at x g; sight = s })
ending_by w _ _ = None

unfoldable pub ending_of : World → Event → Option Ending
ending_of w e = elim (slice_get w.parts e.pass) [ Some p ↦ ending_by w e.action p.hand | None ↦ None ]

-- it is the end of the key of this name
abbrev pub is_end_of : KeyRef → Option Ending → Bool
is_end_of n (Some t) = same_slot (slot_ref_of n) (slot_ref_of t.name) && (t.name.generation == n.generation)
is_end_of n None = false

-- A pass that is to end a generation, and has read so much of the value: the key was removed, and no pass has a hold on
-- it. What was read is of the key's value, unless the key has ended meanwhile
pub record EndIsTrue (plan : Plan) (w : World) (k : ℕ) (n : KeyRef) (s : Sight) : Type 0 where
  pub named : Named plan k n
  pub removed : is_removed w.log k ≡ true
  pub unheld : total (λ (p : Body). times k p.holds) w.parts ≡ 0
  pub value : List ℕ
  pub issued : value_of w.log k ≡ Some value
  pub sees : has_ended w n ≡ false → Sees (w.words.class_at n.page) value s

-- the same of the hand of a pass
abbrev pub HandEnds : Plan → World → Hand → Type 0
HandEnds plan w (Finishing x g s) = EndIsTrue plan w (plan.keys.pack (name_at x g)) (name_at x g) s
HandEnds plan w _ = Unit {0}

-- Each pass that is to end a generation knows this. Once it has read all, it has the key's value. An event ends a key
-- exactly if the key had not ended before and has after: so a key ends once
pub record EndsAreTrue (plan : Plan) (w : World) : Type 0 where
  pub begun : (a : ℕ) (p : Body) → slice_get w.parts a ≡ Some p → HandEnds plan w p.hand
  pub words : (a : ℕ) (p : Body) (x : SlotRef) (g : ℕ) (s : Sight) → slice_get w.parts a ≡ Some p
      → p.hand ≡ Finishing x g s → is_read (name_at x g) s ≡ true → has_ended w (name_at x g) ≡ false
      → value_of w.log (plan.keys.pack (name_at x g)) ≡ Some (value_seen s)
  pub once : (e : Event) (n : KeyRef)
      → if1 (has_ended (step plan w e) n) ≡ if1 (has_ended w n) + if1 (is_end_of n (ending_of w e))
