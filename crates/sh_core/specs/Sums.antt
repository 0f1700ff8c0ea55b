-- What holds after every list of events, and the laws of a layout on which it rests.
use Rattle.std.specs.Prelude.{ℕ, ◌-◌, ◌*◌, ◌≡◌, ◌≤◌, List, Some, length, slice_get, take}
use Rattle.sh_slots.specs.declared.hand.Hand.{Hand}
use Rattle.sh_slots.specs.declared.hand.Hand.TheVariants.{Filling}
use Rattle.sh_core.specs.Words.{Words}
use Rattle.sh_step.specs.Plans.{Plan}
use Rattle.sh_shape.specs.Classes.{width}
use Rattle.sh_step.specs.declared.body.Body.{Body}
use Rattle.sh_step.specs.Rows.{class_word_noted}
use Rattle.sh_core.specs.Worlds.{World, words_from}
use Rattle.sh_core.specs.Lists.{PutLists}
use Rattle.sh_core.specs.Tallies.{SlotsAddUp}
use Rattle.sh_core.specs.Stories.{KeysAgree, HoldsAgree, AllHoldsAgree}
use Rattle.sh_history.specs.History.{Legal}

-- For a slot into which v is being filled: its length word is v's length, which its class allows. The first i words of
-- its payload are v's. The class that the pass noted is the page's
pub record Fills (size class noted slot : ℕ) (payload : ℕ → ℕ) (v : List ℕ) (i : ℕ) : Type 0 where
  pub length_is : size ≡ length v
  pub begun : i ≤ length v
  pub fits : length v ≤ width (class - 1)
  pub so_far : words_from payload (slot * width (class - 1)) i ≡ take i v
  pub class_is : noted ≡ class

abbrev pub FillAgrees : Words → Body → Hand → Type 0
FillAgrees w p (Filling x v i) = Fills (w.length_at x.page x.slot) (w.class_at x.page)
    (class_word_noted p x.page) x.slot (w.payload_at x.page) v i
FillAgrees w p _ = Unit {0}

abbrev pub ValuesAgree : Words → List Body → Type 0
ValuesAgree w ps = (a : ℕ) (p : Body) → slice_get ps a ≡ Some p → (length p.holds ≤ 16) × FillAgrees w p p.hand

pub record Sums (plan : Plan) (w : World) (l : PutLists) : Type 0 where
  pub legal : Legal plan.passes plan.keys.guard_max w.log
  pub slots : SlotsAddUp plan w.words w.parts l
  pub keys : KeysAgree plan w.words w.log
  pub holds : HoldsAgree w.parts w.log
  pub all_holds : AllHoldsAgree w.parts w.log
  pub parts : ValuesAgree w.words w.parts
  pub passes : length w.parts ≡ plan.passes
