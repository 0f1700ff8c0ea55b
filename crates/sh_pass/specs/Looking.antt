-- How a pass looks at a key.
use Rattle.std.specs.Prelude.{ℕ, ◌≢◌, ◌+◌, [], ◌∷◌, length, List}
use Rattle.sh_history.specs.declared.entry.Entry.TheVariants as entry
use Rattle.sh_history.specs.declared.log.LogEntry.TheVariants.{Known}
use Rattle.sh_slots.specs.declared.hand.Hand.TheVariants.{Idle, Looking}
use Rattle.sh_slots.specs.declared.hand.KeyRef.{KeyRef}
use Rattle.sh_slots.specs.declared.hand.Sight.{Sight}
use Rattle.sh_slots.specs.declared.hand.Sight.TheVariants.{Measured}
use Rattle.sh_step.specs.Rows.{hand}
use Rattle.sh_table.specs.declared.view.View.{View}
use Rattle.sh_pass.specs.declared.looking.Glance.{Glance}
use Rattle.sh_pass.specs.declared.looking.Glance.TheVariants.{Seen, Gone, Early}
use Rattle.sh_pass.specs.Deciding.{Stepped, FirstFinds, IsLive, LooksDecide}
use Rattle.sh_pass.specs.Growing.{Grows}

-- the key was there at first, and the look has read so much, in at most n steps
pub record IsLooking (k : ℕ) (x : KeyRef) (s : Sight) (n : ℕ) (v w : View) : Type 0 where
  pub grows : Grows (hand v.own.body (Looking k x s)) [] n v w
  pub first : Stepped (FirstFinds k x (IsLive x)) v w

-- what a look at a key of the shape does, by what it found, and by the value
abbrev pub LookGrows : ℕ → Glance → (value : List ℕ) → View → View → Type 0
LookGrows k Seen value v w =
    Grows (hand v.own.body Idle) (Known (entry.Seen v.pass k value) ∷ []) (length value + 4) v w
LookGrows k Gone value v w = Grows (hand v.own.body Idle) (Known (entry.Gone v.pass k) ∷ []) 20 v w
LookGrows k Early value v w = Grows (hand v.own.body Idle) [] 1 v w

-- the pass looks at the key, and has loaded its state, its class and its length
abbrev pub HasMeasured : ℕ → KeyRef → (class_word count : ℕ) → View → Type 0
HasMeasured k x class_word count w = (v : View) × IsLooking k x (Measured class_word count []) 3 v w

-- the rest of a look whose first three loads found the key there, and this class and length: the key is seen or gone
pub record LookEnds (k : ℕ) (x : KeyRef) (class_word count : ℕ) (answer : Glance) (value : List ℕ) (t u : View) :
    Type 0 where
  pub decided : answer ≢ Early
  pub ends : (v : View) → IsLooking k x (Measured class_word count []) 3 v t
      → LookGrows k answer value v u × Stepped (LooksDecide k x answer) v u
