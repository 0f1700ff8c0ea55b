-- The words of each world that a heap comes to are those of some list.
use Rattle.std.proofs.Common.{◌≡◌, ℕ, List, [], ◌∷◌, ◌++◌, refl, sym, subst}
use Rattle.sh_key.specs.Layout.{Layout, IsLayout}
use Rattle.sh_shape.specs.Places.{all_pages, words_of}
use Rattle.sh_shape.specs.Shape.{Numbers, IsShape, Fits}
use Rattle.sh_step.specs.declared.action.Event.{Event}
use Rattle.sh_step.specs.Plans.{Plan, plan_of}
use Rattle.sh_core.specs.Kept.{KeptWorld, Represents, HoldsWords}
use Rattle.sh_core.specs.Opening.{opening_words}
use Rattle.sh_core.specs.Worlds.{World, step, run, run_from, open_world}
use Rattle.sh_core.proofs.Words.OpeningWords.{opening_holds}
use Rattle.sh_core.proofs.Words.Steps.{run_snoc}
use Rattle.script_orders.proofs.Stepping.{stepped}

module _ (layout : Layout) (shape : Numbers) (is_layout : IsLayout layout) (is_shape : IsShape shape)
    (fits : Fits layout shape) where
  abbrev shape_plan : Plan
  shape_plan = plan_of layout shape

  abbrev Listed : World → Type 0
  Listed w = (list : List ℕ) × HoldsWords shape list w.words

  listed_step : (es : List Event) (e : Event) → Listed (run shape_plan es)
      → Listed (step shape_plan (run shape_plan es) e)
  listed_step es e (list, holds) =
      let w : World = run shape_plan es in
      let k : KeptWorld = record { shape = shape; words = list; parts = w.parts; log = w.log } in
      let stands : Represents k w = record { words = holds; parts = refl; log = refl } in
      let on = stepped layout k e (record {
        is_layout = is_layout;
        is_shape = is_shape;
        fits = fits;
        events = es;
        stands = stands;
      }) in
      let steps = on.2 in (
        (on.1).words,
        subst (λ (n : Numbers). HoldsWords n (on.1).words (step shape_plan w e).words) steps.shape
            (steps.world w stands).words,
      )

  all_more : (es fs : List Event) → Listed (run shape_plan es) → Listed (run_from shape_plan (run shape_plan es) fs)
  unfolding run_from
  all_more es [] listed = listed
  all_more es (f ∷ fs) listed =
      let next : run shape_plan (es ++ f ∷ []) ≡ step shape_plan (run shape_plan es) f =
      run_snoc shape_plan (open_world shape_plan) es f in
      subst (λ (w : World). Listed (run_from shape_plan w fs)) next
      (all_more (es ++ f ∷ []) fs (subst Listed (sym next) (listed_step es f listed)))

  pub listed : (es : List Event) → Listed (run shape_plan es)
  unfolding run_from
  listed es = all_more [] es (opening_words (all_pages shape) (words_of shape), opening_holds shape)
