-- What a run keeps whatever its table is: each pass has its part, and each entry is of a pass of the heap.
use Rattle.std.proofs.Common.{◌≡◌, ℕ, ◌<◌, List, [], ◌∷◌, length, Option, Some, None, slice_get, ◌∙◌, refl, arith}
use Rattle.std.proofs.lemmas.List.{length-replicate, length-set}
use Rattle.std.proofs.lemmas.List.Elements.{All-nil}
use Rattle.std.proofs.lemmas.Option.{slice_get_within}
use Rattle.sh_history.specs.Log.{pass_of}
use Rattle.sh_step.specs.declared.action.Event.{Event}
use Rattle.sh_step.specs.declared.body.Body.{Body}
use Rattle.sh_step.specs.Parts.{newcomer}
use Rattle.sh_step.specs.Plans.{Plan, plan_of}
use Rattle.sh_step.specs.Rows.{Row}
use Rattle.sh_core.specs.Words.{read}
use Rattle.sh_core.specs.Worlds.{World, open_world, apply, value_at_place}
use Rattle.sh_core.specs.Refines.{EntriesAreOurs}
use Rattle.sh_core.specs.Variants.{Table, step_by, run_from_by, AlwaysBy}
use Rattle.sh_core.proofs.Kept.LastGenerations.{joined_ours}

record HasItsPasses (plan : Plan) (w : World) : Type 0 where
  passes : length w.parts ≡ plan.passes
  entries : EntriesAreOurs plan w

applied : (plan : Plan) (w : World) (a : ℕ) (p : Body) (r : Row) → slice_get w.parts a ≡ Some p → HasItsPasses plan w
    → HasItsPasses plan (apply w a r)
unfolding apply
applied plan w a p r at old =
    let low = slice_get_within w.parts a p at in
    let same = old.passes in record {
      passes = length-set w.parts a (r.part (read w.words r.place)) ∙ old.passes;
      entries = joined_ours plan.passes a (value_at_place w.words r.place) (r.reply (read w.words r.place)) w.log
          (omega arith) old.entries;
    }

stepped : (rows : Table) (plan : Plan) (w : World) (e : Event) → HasItsPasses plan w
    → HasItsPasses plan (step_by rows plan w e)
unfolding step_by
stepped rows plan w e old = by_part (slice_get w.parts e.pass) refl where
  by_row : (p : Body) → slice_get w.parts e.pass ≡ Some p → (o : Option Row)
      → HasItsPasses plan (elim o as (λ _. World) [ Some r ↦ apply w e.pass r | None ↦ w ])
  by_row p at None = old
  by_row p at (Some r) = applied plan w e.pass p r at old

  by_part : (o : Option Body) → slice_get w.parts e.pass ≡ o → HasItsPasses plan (elim o as (λ _. World) [
    | Some p ↦ elim (rows plan p e.action) as (λ _. World) [ Some r ↦ apply w e.pass r | None ↦ w ]
    | None ↦ w
  ])
  by_part None at = old
  by_part (Some p) at = by_row p at (rows plan p e.action)

ran : (rows : Table) (plan : Plan) (w : World) (es : List Event) → HasItsPasses plan w
    → HasItsPasses plan (run_from_by rows plan w es)
unfolding run_from_by
ran rows plan w [] old = old
ran rows plan w (e ∷ es) old = ran rows plan (step_by rows plan w e) es (stepped rows plan w e old)

opened : (plan : Plan) → HasItsPasses plan (open_world plan)
opened plan = record {
  passes = length-replicate plan.passes newcomer;
  entries = All-nil (λ e. pass_of e < plan.passes);
}

pub each_has_its_part : (rows : Table) → AlwaysBy rows (λ plan w l. length w.parts ≡ plan.passes)
each_has_its_part rows layout shape lawful small fits es =
    let plan : Plan = plan_of layout shape in (ran rows plan (open_world plan) es (opened plan)).passes

pub entries_are_ours : (rows : Table) → AlwaysBy rows (λ plan w l. EntriesAreOurs plan w)
entries_are_ours rows layout shape lawful small fits es =
    let plan : Plan = plan_of layout shape in (ran rows plan (open_world plan) es (opened plan)).entries
