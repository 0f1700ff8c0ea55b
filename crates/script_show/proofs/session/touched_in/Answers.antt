use Rattle.std.proofs.Common.{rules, ap, sym, refl, ◌∙◌, ◌≡◌, ◌<◌, ◌≤◌, Some, None, slice_get, length}
use Rattle.std.specs.Prelude.{is_none}
use Rattle.std.proofs.lemmas.Option.{slice_get_read, slice_get_past}
use Rattle.sh_step.specs.Plans.{plan_of}
use Rattle.sh_step.specs.Moves.{row}
use Rattle.script_show.proofs.Skips.{row_of_body, row_of_none}
use Rattle.script_show.proofs.session.touched_in.Goals as goal

pub returns-in-Some : goal.returns-in-Some
returns-in-Some g c = λ w stands.
    let k = c.args.world.now in
    let e = c.args.event.now in
    let xs = c.parts.result.now in
    let within : e.pass < length xs = search rules in
    let at : slice_get k.parts e.pass ≡ Some c.in-Some.part.now = rw (← c.parts.ensures)
    (slice_get_read xs (length xs) e.pass c.in-Some.part.now refl within (search rules)) in
    let layout = g.L.KeyLayout.layout in
    c.touched_by.ensures ∙ ap (λ s. is_none (row (plan_of layout s) c.in-Some.part.now e.action)) c.requires
    ∙ ap is_none (sym (row_of_body (plan_of layout k.shape) k w e c.in-Some.part.now stands at))

pub returns-in-None : goal.returns-in-None
returns-in-None g c = λ w stands.
    let k = c.args.world.now in
    let e = c.args.event.now in
    let xs = c.parts.result.now in
    let past : length xs ≤ e.pass = search rules in
    let at : slice_get k.parts e.pass ≡ None = rw (← c.parts.ensures) (slice_get_past xs e.pass past) in
    ap is_none (sym (row_of_none (plan_of g.L.KeyLayout.layout k.shape) k w e stands at))
