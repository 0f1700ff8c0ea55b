use Rattle.std.proofs.Common.{◌∙◌, sym, ap, subst}
use Rattle.std.specs.Prelude.{ℕ, List}
use Rattle.sh_shape.specs.Places.{IsPlace}
use Rattle.sh_step.specs.declared.step.Step.{Step}
use Rattle.sh_step.specs.Operations.{StoresWord}
use Rattle.sh_step.specs.Plans.{plan_of}
use Rattle.sh_step.specs.Moves.{row_of}
use Rattle.sh_core.specs.Kept.{word_at}
use Rattle.sh_core.proofs.Words.Operating.{operation_has_room}
use Rattle.sh_core.proofs.moving.do_move.Goals as goal

pub step-step-requires-clause-place : goal.step-step-requires-clause-place
step-step-requires-clause-place g c =
    let shape = c.args.shape.now in
    subst (λ (s : Step). IsPlace shape s.place) (c.steps_look_at_no_part.ensures.steps
    (plan_of g.L.KeyLayout.layout shape) c.args.part.now c.args.the_move.now) c.requires.row.place

pub step-step-requires-clause-stores : goal.step-step-requires-clause-stores
step-step-requires-clause-stores g c =
    let shape = c.args.shape.now in
    subst (λ (s : Step). StoresWord s.operation) (c.steps_look_at_no_part.ensures.steps
    (plan_of g.L.KeyLayout.layout shape) c.args.part.now c.args.the_move.now) c.requires.row.stores

pub after-requires : goal.after-requires
after-requires g c =
    let shape = c.args.shape.now in
    let row = row_of (plan_of g.L.KeyLayout.layout shape) c.args.part.now c.args.the_move.now in
    let step = c.step-step.ensures ∙ sym (c.steps_look_at_no_part.ensures.steps (plan_of g.L.KeyLayout.layout shape)
    c.args.part.now c.args.the_move.now) in
    let place = ap (λ (s : Step). s.place) step in
    let found = c.word_at-found.ensures ∙ (ap (λ (xs : List ℕ). word_at shape xs c.step-step.result.place)
    c.deref.ensures.value ∙ ap (word_at shape c.args.words.now.items) place) in
    operation_has_room c.step-step.result.operation row.operation c.word_at-found.result
    (word_at shape c.args.words.now.items row.place) (ap (λ (s : Step). s.operation) step) found
    c.word_at-found.type_inv c.requires.counts
