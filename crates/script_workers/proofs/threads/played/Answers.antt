use Rattle.std.proofs.Common.{◌≡◌, ◌≤◌, ◌∙◌, sym, ap, subst, ℕ, false, map, length, Option, None, arith}
use Rattle.std.specs.Option.{option_map}
use Rattle.script_calls.specs.Finished.{LinesRan}
use Rattle.script_calls.proofs.InTurn.{all_are, lines_ran}
use Rattle.script_calls.proofs.ListLemmas.{up_length}
use Rattle.script_calls.proofs.Newcomers.{length_map, newcomers_length}
use Rattle.script_workers.proofs.threads.played.Goals as goal
use Rattle.sh_step.proofs.Truths.{no_bool}

pub all_ended-requires-clause-space : goal.all_ended-requires-clause-space
all_ended-requires-clause-space g c =
    let room = g.B.Room in
    let n : ℕ = room.terms.shape.passes in
    let sides : length c.args.sides.items ≡ n = sym (length_map g.S.Side.seen c.args.sides.items)
    ∙ (ap length c.requires.sides ∙ newcomers_length room.heap room.terms n) in
    let workers : length c.in_ok-workers-2.workers.items ≡ n = ap length c.in_ok-workers-2.ensures.all
    ∙ (ap length c.in_ok-workers.ensures.all ∙ up_length n) in
    let long = c.in_ok-workers-2.workers.ok.0 in
    let wide = c.args.sides.ok.0 in
    let empty = c.in-Ok.ensures in
    let count = c.len.ensures in (
      omega (arith, sides, workers, long, wide, empty.sides.1, count),
      omega (arith, sides, workers, long, wide, empty.rests.1, count),
    )

pub met_in_turn-requires : goal.met_in_turn-requires
met_in_turn-requires g c κs within =
    let room = g.B.Room in
    let lines = c.args.lines.now in
    let sides = map g.S.Side.seen c.in_ok-output.sides.items in
    let output = c.in_ok-output.output.items in
    let answered = c.in_ok-output.ensures.answered in (
      within,
      (
        all_are room.heap room.terms room.tag lines (length lines) answered.0 sides output answered.1,
        tt,
      ),
    )

pub returns-clause-ran : goal.returns-clause-ran
returns-clause-ran g c =
    let room = g.B.Room in
    let seen = g.S.Side.seen in
    let lines = c.args.lines.now in
    let sides = map seen c.in_ok-output.sides.items in
    let output = c.in_ok-output.output.items in
    let answered = c.in_ok-output.ensures.answered in
    let past : length lines ≤ length lines = omega arith in
    let carrier = option_map seen c.met_in_turn.result in
    let R : Option ℕ → Type 0 = λ tag. LinesRan false room.heap room.terms tag lines output carrier in
    subst R (sym c.requires.tag) (lines_ran false room.heap room.terms room.tag lines (length lines) answered.0 sides
    output carrier None past c.requires.passes answered.1 c.met_in_turn.ensures (λ s m. no_bool))
