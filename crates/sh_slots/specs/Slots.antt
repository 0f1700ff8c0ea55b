-- Slots: which one, and what its state word says to a step.
use Rattle.std.specs.Prelude.{ℕ, zero, suc, ◌+◌, ◌==◌, nat_lt, Bool, true, false, cond, not, ◌&&◌, ◌||◌, List, []}
use Rattle.std.specs.Prelude.{◌∷◌, ◌++◌}
use Rattle.std.specs.Prelude.{length}
use Rattle.sh_word.specs.Fields.{fields_of, word_of}
use Rattle.sh_slots.specs.declared.hand.Hand.{Hand}
use Rattle.sh_slots.specs.declared.hand.Hand.TheVariants.{Idle, Removing, Leaving, Finishing, Looking}
use Rattle.sh_slots.specs.declared.hand.Sight.{Sight}
use Rattle.sh_slots.specs.declared.hand.Sight.TheVariants.{Bare, Classed, Measured}
use Rattle.sh_slots.specs.declared.hand.SlotRef.{SlotRef}
use Rattle.sh_slots.specs.declared.hand.KeyRef.{KeyRef}
use Rattle.sh_slots.specs.declared.enter.GetAnswer.{GetAnswer}
use Rattle.sh_slots.specs.declared.enter.GetAnswer.TheVariants.{Got, Crowded, Gone}

abbrev pub same_slot : SlotRef → SlotRef → Bool
same_slot a b = (a.page == b.page) && (a.slot == b.slot)

-- n slots of page q, from slot s on
unfoldable pub slot_refs : ℕ → ℕ → ℕ → List SlotRef
slot_refs q s zero = []
slot_refs q s (suc n) = record { page = q; slot = s } ∷ slot_refs q (s + 1) n

-- the word found says Live, in this generation
abbrev pub live_at : ℕ → ℕ → Bool
live_at g n = (fields_of n).present && not (fields_of n).marked && ((fields_of n).generation == g)

-- the word found says that the value of this generation was removed: its slot is marked in it, or is in a later one
abbrev pub past_at : ℕ → ℕ → Bool
past_at g n = nat_lt g (fields_of n).generation || (((fields_of n).generation == g) && (fields_of n).marked)

-- what a drop leaves in the hand
abbrev pub after_drop : SlotRef → ℕ → Hand
after_drop x n = cond ((fields_of n).present && (fields_of n).marked && ((fields_of n).count == 1))
    (Finishing x (fields_of n).generation Bare) Idle

abbrev pub slot_ref_of : KeyRef → SlotRef
slot_ref_of n = record { page = n.page; slot = n.slot }

abbrev pub name_at : SlotRef → ℕ → KeyRef
name_at x g = record { page = x.page; slot = x.slot; generation = g }

-- the word of a marked slot that no pass is on, and the word that ends its generation: the slot is empty, in the next
-- generation, or retired
abbrev pub marked_word : ℕ → ℕ
marked_word g = word_of (record { generation = g; marked = true; present = true; count = 0 })

abbrev pub reusable_word : ℕ → ℕ
reusable_word g = word_of (record { generation = g + 1; marked = false; present = false; count = 0 })

abbrev pub retired_word : ℕ → ℕ
retired_word g = word_of (record { generation = g; marked = true; present = false; count = 0 })

-- if a key may have `guard_max` holds, the word found has room for one more
abbrev pub has_room : (guard_max found : ℕ) → Bool
has_room guard_max n = nat_lt (fields_of n).count guard_max

-- what a get of a key of this generation returns, by the word that it found as it entered
abbrev pub answer_to_get : (g guard_max found : ℕ) → GetAnswer
answer_to_get g guard_max n = cond (live_at g n) (cond (has_room guard_max n) Got Crowded) Gone

-- what a removal of a key of this name has in hand, by the word that it found as it entered
abbrev pub after_enter_remove : ℕ → KeyRef → ℕ → Hand
after_enter_remove k x n = cond (live_at x.generation n) (Removing k) (Leaving (slot_ref_of x))

-- what a look at a key of this name has in hand, by the word that its first load found
abbrev pub after_look : ℕ → KeyRef → ℕ → Hand
after_look k x n = cond (live_at x.generation n) (Looking k x Bare) Idle

-- what was read, with the word of one more load; a value has no more than 16 words
abbrev pub sight_with : Sight → ℕ → Sight
sight_with Bare n = Classed n
sight_with (Classed c) n = Measured c n []
sight_with (Measured c m v) n = Measured c m (cond (nat_lt (length v) 16) (v ++ n ∷ []) v)

-- the words of the value that it has read
abbrev pub value_seen : Sight → List ℕ
value_seen Bare = []
value_seen (Classed c) = []
value_seen (Measured c m v) = v

-- no mark came before the one that found the word
abbrev pub is_first_mark : ℕ → Bool
is_first_mark n = not (fields_of n).marked

-- what the end of a generation puts in place of the marked word, and whether the pass then has the slot, empty
abbrev pub finished_word : (g gen_max : ℕ) → ℕ
finished_word g gen_max = cond (g == gen_max) (retired_word g) (reusable_word g)

abbrev pub is_reusable_after : (g gen_max found : ℕ) → Bool
is_reusable_after g gen_max n = (n == marked_word g) && not (g == gen_max)

-- the name of the key under which a value becomes present, by the word found
abbrev pub published_name : SlotRef → ℕ → KeyRef
published_name x n = name_at x (fields_of n).generation
