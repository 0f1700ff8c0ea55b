-- Keys that ended: what the steps of a pass say of them, and what is true of them.
use Rattle.std.specs.Prelude.{◌≡◌, ℕ, cond, true, List, [], ◌∷◌, ◌++◌, Some}
use Rattle.sh_key.specs.Layout.{Layout}
use Rattle.sh_history.specs.declared.entry.Entry.{Entry}
use Rattle.sh_history.specs.History.{value_of, is_removed}
use Rattle.sh_slots.specs.declared.hand.Hand.{Hand}
use Rattle.sh_slots.specs.declared.hand.Hand.TheVariants.{Finishing}
use Rattle.sh_slots.specs.Slots.{name_at, marked_word, value_seen}
use Rattle.sh_step.specs.declared.action.Action.{Action}
use Rattle.sh_step.specs.declared.action.Action.TheVariants.{Finish}
use Rattle.sh_step.specs.declared.body.Body.{Body}
use Rattle.sh_step.specs.declared.footstep.Footstep.{Footstep}
use Rattle.sh_step.specs.Footsteps.{did_find}
use Rattle.sh_step.specs.Moves.{place_named}
use Rattle.sh_step.specs.Parts.{newcomer}
use Rattle.sh_step.specs.Plans.{Plan, plan_of}
use Rattle.sh_step.specs.Rows.{is_read}
use Rattle.sh_core.specs.KeyEnds.{Ending}
use Rattle.sh_core.specs.Trails.{body_then}
use Rattle.sh_table.specs.declared.view.View.{View}
use Rattle.sh_table.specs.Views.{Each}

-- what a Finish with this hand ended: the value in the hand, if it found the marked word
abbrev pub ended_by : Hand → Footstep → List Ending
ended_by (Finishing x g s) t = cond (did_find (marked_word g) t) (record { name = name_at x g; sight = s } ∷ []) []
ended_by _ t = []

-- what a step of a pass with this body ended
abbrev pub ended_at : Body → Footstep → List Ending
ended_at p t = elim (t.action) [ Finish ↦ ended_by p.hand t | _ ↦ [] ]

-- what these steps ended, one after the other
unfoldable pub ended_from : Plan → Body → List Footstep → List Ending
ended_from plan p [] = []
ended_from plan p (t ∷ steps) = ended_at p t ++ ended_from plan (body_then plan p t) steps

-- what the steps of a trail ended
abbrev pub ended_in : Plan → List Footstep → List Ending
ended_in plan trail = ended_from plan newcomer trail

-- just these ended between two views
pub record EndsJust (layout : Layout) (es : List Ending) (v w : View) : Type 0 where
  pub is : ended_in (plan_of layout w.shape) w.own.trail ≡ ended_in (plan_of layout v.shape) v.own.trail ++ es

-- a key that ended was inserted and removed, and what was read of it in full is its value
pub record HasEnded (plan : Plan) (history : List Entry) (e : Ending) : Type 0 where
  pub key : ℕ
  pub value : List ℕ
  pub named : place_named plan key ≡ Some e.name
  pub inserted : value_of history key ≡ Some value
  pub removed : is_removed history key ≡ true
  pub read : is_read e.name e.sight ≡ true → value_seen e.sight ≡ value

abbrev pub HaveEnded : Plan → List Entry → List Ending → Type 0
HaveEnded plan history es = Each (HasEnded plan history) es
