-- How many steps are taken, over one piece of work after another.
use Rattle.std.proofs.Common.{◌≡◌, ℕ, ◌+◌, ◌≤◌, arith}
use Rattle.sh_pass.specs.Passes.{Caller}
use Rattle.sh_shard.specs.Steps.{StepsAtMost}
use Rattle.sh_shard.specs.Pages.{Paged, page_at, NothingMine, StepsForSlots, StepsForRings}
use Rattle.sh_shard.proofs.Counts.{none_own, own_few, armed_few}

-- ---- numbers

pub plain_then : (a b c j k l : ℕ) → b ≤ a + j → c ≤ b + k → j + k ≤ l → c ≤ a + l
plain_then a b c j k l g h e = omega arith

pub slots_same : (a b x y k : ℕ) → b ≡ a + k → y ≡ x → b + x ≤ a + y + k
slots_same a b x y k e f = omega arith

pub slots_gained : (a b x y : ℕ) → b ≡ a + 1 → y ≡ x + 1 → b + x ≤ a + y + 0
slots_gained a b x y e f = omega arith

pub rings_same : (a b x y k : ℕ) → b ≡ a + k → y ≡ x → b + y ≤ a + x + k
rings_same a b x y k e f = omega arith

pub rings_read : (a b x y : ℕ) → b ≡ a + 1 → y + 1 ≡ x → b + y ≤ a + x + 0
rings_read a b x y e f = omega arith

slots_sum : (a b c x y z j k l : ℕ) → b + x ≤ a + y + j → c + y ≤ b + z + k → j + k ≤ l → c + x ≤ a + z + l
slots_sum a b c x y z j k l g h e = omega arith

rings_sum : (a b c x y z j k l : ℕ) → b + y ≤ a + x + j → c + z ≤ b + y + k → j + k ≤ l → c + z ≤ a + x + l
rings_sum a b c x y z j k l g h e = omega arith

slots_few : (a b x y k l : ℕ) → b + x ≤ a + y + k → y ≤ 48 → 48 + k ≤ l → b ≤ a + l
slots_few a b x y k l g h e = omega arith

rings_few : (a b x y k l : ℕ) → b + y ≤ a + x + k → x ≤ l → b ≤ a + (l + k)
rings_few a b x y k l g h = omega arith

-- ---- work

pub steps_none : (k : ℕ) (v : Caller) → StepsAtMost k v v
steps_none k v = omega arith

pub slots_none : (k p : ℕ) (o : Paged) → StepsForSlots k p o o
slots_none k p o = omega arith

pub rings_none : (k : ℕ) (o : Paged) → StepsForRings k o o
rings_none k o = omega arith

pub slots_then : (j k l p : ℕ) (o m n : Paged) → StepsForSlots j p o m → StepsForSlots k p m n → j + k ≤ l
    → StepsForSlots l p o n
slots_then j k l p o m n g h e = slots_sum _ _ _ _ _ _ j k l g h e

pub rings_then : (j k l : ℕ) (o m n : Paged) → StepsForRings j o m → StepsForRings k m n → j + k ≤ l
    → StepsForRings l o n
rings_then j k l o m n g h e = rings_sum _ _ _ _ _ _ j k l g h e

-- ---- work as a whole

-- a page gained at most 48 slots
pub slots_most : (k l p : ℕ) (o n : Paged) → StepsForSlots k p o n → 48 + k ≤ l → StepsAtMost l o.owner n.owner
slots_most k l p o n g e = slots_few _ _ _ _ k l g (own_few (page_at n p)) e

-- the page has no slot of its owner's left
pub slots_gone : (k p : ℕ) (o n : Paged) → StepsForSlots k p o n → NothingMine (page_at n p)
    → StepsAtMost k o.owner n.owner
slots_gone k p o n g none = gone _ _ _ _ k g (none_own (page_at n p) none) where
  gone : (a b x y k : ℕ) → b + x ≤ a + y + k → y ≡ 0 → b ≤ a + k
  gone a b x y k g h = omega arith

-- at most as many pages as the shard has are no longer armed
pub rings_most : (k : ℕ) (o n : Paged) → StepsForRings k o n → StepsAtMost (o.count + k) o.owner n.owner
rings_most k o n g = rings_few _ _ _ _ k o.count g (armed_few o)
