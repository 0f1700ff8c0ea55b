-- The run of the core that the lines of a run in one thread are: their steps, one line after the other.
use Rattle.std.specs.Prelude.{◌≡◌, ℕ, ◌<◌, List, [], ◌∷◌, ◌++◌, length, Option, Some, slice_get}
use Rattle.sh_slots.specs.declared.hand.Hand.TheVariants.{Idle}
use Rattle.sh_shape.specs.Places.{pages_of}
use Rattle.sh_step.specs.declared.action.Event.{Event}
use Rattle.sh_step.specs.Footsteps.{bell_takes, bell_met}
use Rattle.sh_step.specs.Plans.{Plan}
use Rattle.sh_core.specs.Trails.{trail_of, log_of}
use Rattle.sh_core.specs.Worlds.{run}
use Rattle.sh_member.specs.declared.member.Side.TheVariants.{Pass, Shard}
use Rattle.sh_member.specs.Sides.{SeenSide}
use Rattle.sh_script.specs.declared.calls.CallLine.{CallLine}
use Rattle.script_output.specs.declared.answer.Answer.{Answer}
use Rattle.script_calls.specs.OwnParts.{own_part, shape_in}
use Rattle.script_calls.specs.Parts.{RunTerms, PassPart, shard_owned}
use Rattle.script_calls.specs.Runs.{CallsRun, LineAnswered}

-- what the owner of a shard knows of its bell is what its steps say
abbrev pub KnowsBell : Plan → SeenSide → Type 0
KnowsBell plan (Shard o) = (o.pages.bell.cursor ≡ o.pages.owner.view.own.body.bell_cursor)
    × (o.pages.bell.takes ≡ bell_takes o.pages.shard o.pages.owner.view.own.trail)
    × (o.pages.bell.met ≡ bell_met plan o.pages.shard o.pages.owner.view.own.trail)
KnowsBell plan _ = Unit {0}

-- After these events the pass has just the body and the steps of this part, and as many entries in the log. It has
-- begun nothing, its body has the shard that it owns, and it knows its bell and how many shards and pages there are.
pub record HasPart (plan : Plan) (es : List Event) (pass : ℕ) (part : PassPart) : Type 0 where
  pub body : slice_get (run plan es).parts pass ≡ Some (own_part part.stands).body
  pub trail : trail_of plan es pass ≡ (own_part part.stands).trail
  pub entries : length (log_of pass (run plan es)) ≡ length part.log
  pub shard : (own_part part.stands).body.owned ≡ shard_owned part.stands
  pub idle : (own_part part.stands).body.hand ≡ Idle
  pub shards : (shape_in part.stands).shards ≡ plan.shards
  pub pages : pages_of (shape_in part.stands) ≡ plan.pages
  pub bell : KnowsBell plan part.stands

-- so it is of each pass of the heap
abbrev pub HaveParts : Plan → List Event → (ℕ → PassPart) → Type 0
HaveParts plan es parts = (p : ℕ) → p < plan.passes → HasPart plan es p (parts p)

-- These lines have these answers. After the events in `early` each pass has the part that it has before the lines. The
-- events in `late` begin with those of the first line, after which each pass has the part that it has then, and so on.
-- So those of a line have steps of its own pass alone, and no step of another comes between.
abbrev pub RunsByLine : Plan → (early late : List Event) → RunTerms → Option ℕ → CallsRun → List CallLine
    → List Answer → CallsRun → Type 0
RunsByLine plan early late terms tag before [] [] after = HaveParts plan early before.parts × (after ≡ before)
RunsByLine plan early late terms tag before [] (a ∷ answers) after = ⊥
RunsByLine plan early late terms tag before (l ∷ lines) [] after = ⊥
RunsByLine plan early late terms tag before (l ∷ lines) (a ∷ answers) after = HaveParts plan early before.parts
    × (next : CallsRun) × LineAnswered terms tag before l a next × (own : List Event) × (rest : List Event)
    × (late ≡ own ++ rest) × RunsByLine plan (early ++ own) rest terms tag next lines answers after
