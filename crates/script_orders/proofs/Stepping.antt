-- Each event steps a kept world to another one.
use Rattle.std.proofs.Common.{◌≡◌, ℕ, Option, Some, None, slice_get, set, refl}
use Rattle.sh_key.specs.Layout.{Layout}
use Rattle.sh_shape.specs.Places.{number}
use Rattle.sh_step.specs.declared.action.Event.{Event}
use Rattle.sh_step.specs.declared.body.Body.{Body}
use Rattle.sh_step.specs.Moves.{row}
use Rattle.sh_step.specs.Operations.{operate}
use Rattle.sh_step.specs.Plans.{plan_of}
use Rattle.sh_step.specs.Rows.{Row}
use Rattle.sh_core.specs.declared.outcome.Outcome.{Outcome}
use Rattle.sh_core.specs.declared.outcome.Outcome.TheVariants.{Skipped}
use Rattle.sh_core.specs.Kept.{KeptWorld, FromEvents, StepsWorld, word_at, new_entry}
use Rattle.sh_core.specs.Outcomes.{done}
use Rattle.sh_core.specs.Worlds.{joined}
use Rattle.sh_core.proofs.Words.Doing.{steps_done, steps_past, steps_skipped}
use Rattle.sh_core.proofs.Words.Ready.{ready}

module _ (layout : Layout) (k : KeptWorld) (e : Event) (from : FromEvents layout k) where
  abbrev Stepped : Type 0
  Stepped = (o : Outcome) × (k' : KeptWorld) × StepsWorld layout k e o k'

  by_row : (p : Body) → slice_get k.parts e.pass ≡ Some p → (o : Option Row)
      → row (plan_of layout k.shape) p e.action ≡ o → Stepped
  by_row p at (Some m) is =
      let n : ℕ = word_at k.shape k.words m.place in
      let came : Outcome = done (new_entry k.shape k.words e.pass m) in
      let k' : KeptWorld = record {
        shape = k.shape;
        words = set k.words (number k.shape m.place) (operate m.operation n);
        parts = set k.parts e.pass (m.part n);
        log = joined k.log (new_entry k.shape k.words e.pass m);
      } in (
        came,
        k',
        steps_done layout k k' e p m came from at is (ready layout k e.pass p e.action m from at is) (record {
          part = m.part n;
          does = record { words = refl; part = refl; log = refl; outcome = refl };
          shape = refl;
          parts = refl;
        }),
      )
  by_row p at None is = (Skipped, k, steps_skipped layout k e p at is)

  by_part : (o : Option Body) → slice_get k.parts e.pass ≡ o → Stepped
  by_part (Some p) at = by_row p at (row (plan_of layout k.shape) p e.action) refl
  by_part None past = (Skipped, k, steps_past layout k e past)

  pub stepped : Stepped
  stepped = by_part (slice_get k.parts e.pass) refl
