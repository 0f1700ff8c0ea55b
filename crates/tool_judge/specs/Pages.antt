-- What a page must hold by the answers.
use Rattle.std.specs.Prelude.{◌≡◌, ◌≢◌, ℕ, ◌+◌, ◌-◌, ◌^◌, ◌⊎◌, min, nat_lt, Bool, if◌then◌else◌, Option, Some, None}
use Rattle.sh_core.specs.declared.accounts.Accounts.{Accounts}
use Rattle.sh_shape.specs.Classes.{slots}
use Rattle.tool_judge.specs.declared.tally.PageTally.{PageTally}

-- the number of slots of a page, which is 0 as long as the page has no class
abbrev pub slots_of_page : Option ℕ → ℕ
slots_of_page None = 0
slots_of_page (Some class) = slots class

-- the accounts of a page are those of its tally and add up to its slots, and no slot is an owner's or in a hand
pub record IsAsTallied (accounts : Accounts) (tally : PageTally) : Type 0 where
  pub live : accounts.live ≡ tally.live
  pub marked : accounts.marked ≡ tally.marked
  pub retired : accounts.retired ≡ tally.retired
  pub mine : accounts.mine ≡ 0
  pub hand : accounts.hand ≡ 0
  pub sum : accounts.live + accounts.marked + accounts.retired + accounts.queued ≡ slots_of_page accounts.class

-- the page has no room for a value of the class: it has another class, or it has this class and no queued slot
abbrev pub HasNoRoom : Accounts → ℕ → Type 0
HasNoRoom accounts class =
    (own : ℕ) × (accounts.class ≡ Some own) × ((own ≢ class) ⊎ (accounts.queued ≡ 0))

abbrev pub one_more : ℕ → ℕ
one_more n = min (n + 1) (2 ^ 64 - 1)

-- the tally with one more slot, by these facts: whether its value was removed, the number of holds on it, and whether
-- the value is the slot's last
abbrev pub with_slot : (is_removed : Bool) → (holds : ℕ) → (is_last : Bool) → PageTally → PageTally
with_slot is_removed holds is_last tally =
    if is_removed
    then (if nat_lt 0 holds
    then record tally { marked = one_more tally.marked }
    else (if is_last then record tally { retired = one_more tally.retired } else tally))
    else record tally { live = one_more tally.live }
