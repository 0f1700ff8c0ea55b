use Rattle.std.proofs.Common.{◌≡◌, ◌∙◌, sym, ap, subst, arith, List, Some, slice_get, set}
use Rattle.std.specs.Prelude.{IfOk, OnErr}
use Rattle.std.proofs.lemmas.Option.{slice_get-get_or, slice_get_past}
use Rattle.sh_step.specs.declared.body.Body.{Body}
use Rattle.sh_step.specs.Moves.{row_of}
use Rattle.sh_step.specs.Plans.{plan_of}
use Rattle.sh_step.proofs.MoveLaws.{row_of_made}
use Rattle.sh_core.specs.declared.outcome.Outcome.TheVariants.{Skipped}
use Rattle.sh_core.specs.Kept.{KeptWorld, StepsWorld, IsDone, NeedsMemory}
use Rattle.sh_core.proofs.Words.Doing.{reached_after, steps_after, done_after, needs_after, steps_past, steps_skipped}
use Rattle.sh_core.proofs.Words.Doing.{set_here}
use Rattle.sh_core.proofs.Words.Ready.{ready}
use Rattle.sh_core.proofs.world.World.step.Goals as goal

pub returns-then-pass-len-clause-ok : goal.returns-then-pass-len-clause-ok
returns-then-pass-len-clause-ok g c =
    let many = c.len.ensures in
    let vec = c.self.inside.parts.ok in
    let some = c.if-pass-len.true in
    steps_past g.L.KeyLayout.layout c.args.self.now c.args.event.now
    (ap (λ (k : KeptWorld). slice_get k.parts c.args.event.now.pass) (sym c.self.view_is)
    ∙ slice_get_past c.self.inside.parts.items c.args.event.now.pass (omega arith))

pub do_move-requires : goal.do_move-requires
do_move-requires g c =
    let many = c.len.ensures in
    let vec = c.self.inside.parts.ok in
    let less = c.if-pass-len.false in
    let at = slice_get-get_or c.self.inside.parts.items c.args.event.now.pass c.index_mut-part.result.now (omega arith)
    ∙ ap (λ (p : Body). Some p) (sym c.index_mut-part.ensures.value) in
    ready g.L.KeyLayout.layout _ c.args.event.now.pass c.index_mut-part.result.now c.args.event.now.action _
    c.self.invariant at (row_of_made _ _ _ _ c.in-Some.ensures)

pub invariant_of-self : goal.invariant_of-self
invariant_of-self g c =
    let many = c.len.ensures in
    let vec = c.self.inside.parts.ok in
    let less = c.if-pass-len.false in
    let at = slice_get-get_or c.self.inside.parts.items c.args.event.now.pass c.index_mut-part.result.now (omega arith)
    ∙ ap (λ (p : Body). Some p) (sym c.index_mut-part.ensures.value) in
    let is = row_of_made _ _ _ _ c.in-Some.ensures in
    let row = row_of (plan_of g.L.KeyLayout.layout c.self.inside.shape) c.index_mut-part.result.now c.in-Some.the_move
    in
    let t = ready g.L.KeyLayout.layout _ c.args.event.now.pass c.index_mut-part.result.now c.args.event.now.action row
    c.self.invariant at is in
    reached_after g.L.KeyLayout.layout _ c.args.event.now c.index_mut-part.result.now row c.self.invariant at is t
    c.do_move.result c.do_move.new.words.items c.do_move.new.part c.do_move.new.log.items c.do_move.ensures.ok
    c.do_move.ensures.words c.do_move.ensures.part c.do_move.ensures.log

pub returns-in-Some-clause-ok : goal.returns-in-Some-clause-ok
returns-in-Some-clause-ok g c =
    let many = c.len.ensures in
    let vec = c.self.inside.parts.ok in
    let less = c.if-pass-len.false in
    let at = slice_get-get_or c.self.inside.parts.items c.args.event.now.pass c.index_mut-part.result.now (omega arith)
    ∙ ap (λ (p : Body). Some p) (sym c.index_mut-part.ensures.value) in
    let is = row_of_made _ _ _ _ c.in-Some.ensures in
    let row = row_of (plan_of g.L.KeyLayout.layout c.self.inside.shape) c.index_mut-part.result.now c.in-Some.the_move
    in
    let t = ready g.L.KeyLayout.layout _ c.args.event.now.pass c.index_mut-part.result.now c.args.event.now.action row
    c.self.invariant at is in
    subst (λ (k : KeptWorld). IfOk c.do_move.result (λ came. StepsWorld g.L.KeyLayout.layout k c.args.event.now came
    (record {
      shape = c.self.inside.shape;
      words = c.do_move.new.words.items;
      parts = set c.self.inside.parts.items
          c.args.event.now.pass c.do_move.new.part;
      log = c.do_move.new.log.items;
    }))) c.self.view_is
    (steps_after g.L.KeyLayout.layout _ c.args.event.now c.index_mut-part.result.now row c.self.invariant at is t
    c.do_move.result c.do_move.new.words.items c.do_move.new.part c.do_move.new.log.items c.do_move.ensures.ok)

pub returns-in-Some-clause-done : goal.returns-in-Some-clause-done
returns-in-Some-clause-done g c =
    let many = c.len.ensures in
    let vec = c.self.inside.parts.ok in
    let less = c.if-pass-len.false in
    let at = slice_get-get_or c.self.inside.parts.items c.args.event.now.pass c.index_mut-part.result.now (omega arith)
    ∙ ap (λ (p : Body). Some p) (sym c.index_mut-part.ensures.value) in
    let is = row_of_made _ _ _ _ c.in-Some.ensures in
    let row = row_of (plan_of g.L.KeyLayout.layout c.self.inside.shape) c.index_mut-part.result.now c.in-Some.the_move
    in
    let t = ready g.L.KeyLayout.layout _ c.args.event.now.pass c.index_mut-part.result.now c.args.event.now.action row
    c.self.invariant at is in
    subst (λ (k : KeptWorld). OnErr c.do_move.result (IsDone g.L.KeyLayout.layout k c.args.event.now)) c.self.view_is
    (done_after g.L.KeyLayout.layout _ c.args.event.now c.index_mut-part.result.now row c.self.invariant at is t
    c.do_move.result c.do_move.new.words.items c.do_move.new.part c.do_move.new.log.items c.do_move.ensures.ok)

pub returns-in-Some-clause-needs : goal.returns-in-Some-clause-needs
returns-in-Some-clause-needs g c =
    let many = c.len.ensures in
    let vec = c.self.inside.parts.ok in
    let less = c.if-pass-len.false in
    let at = slice_get-get_or c.self.inside.parts.items c.args.event.now.pass c.index_mut-part.result.now (omega arith)
    ∙ ap (λ (p : Body). Some p) (sym c.index_mut-part.ensures.value) in
    let row = row_of (plan_of g.L.KeyLayout.layout c.self.inside.shape) c.index_mut-part.result.now c.in-Some.the_move
    in
    let k : KeptWorld = record {
      shape = c.self.inside.shape;
      words = c.self.inside.words.items;
      parts =
          c.self.inside.parts.items;
      log = c.self.inside.log.items;
    } in
    subst (λ (k : KeptWorld). OnErr c.do_move.result (NeedsMemory g.L.KeyLayout.layout k c.args.event.now))
    c.self.view_is
    (needs_after g.L.KeyLayout.layout k c.args.event.now c.index_mut-part.result.now row at
    (row_of_made _ _ _ _ c.in-Some.ensures) c.do_move.result c.do_move.ensures.asks)

pub returns-in-None-clause-ok : goal.returns-in-None-clause-ok
returns-in-None-clause-ok g c =
    let many = c.len.ensures in
    let vec = c.self.inside.parts.ok in
    let less = c.if-pass-len.false in
    let at = slice_get-get_or c.self.inside.parts.items c.args.event.now.pass c.index_mut-part.result.now (omega arith)
    ∙ ap (λ (p : Body). Some p) (sym c.index_mut-part.ensures.value) in
    let k : KeptWorld = record {
      shape = c.self.inside.shape;
      words = c.self.inside.words.items;
      parts =
          c.self.inside.parts.items;
      log = c.self.inside.log.items;
    } in
    let same : set k.parts c.args.event.now.pass c.index_mut-part.result.now
    ≡ k.parts = set_here k.parts c.args.event.now.pass c.index_mut-part.result.now at in
    let skips = steps_skipped g.L.KeyLayout.layout k c.args.event.now c.index_mut-part.result.now at
    (row_of_made _ _ _ _ c.in-None.ensures) in
    subst (λ (b : KeptWorld). StepsWorld g.L.KeyLayout.layout b c.args.event.now Skipped
    (record k { parts = set k.parts c.args.event.now.pass c.index_mut-part.result.now })) c.self.view_is
    (subst (λ (ps : List Body). StepsWorld g.L.KeyLayout.layout k c.args.event.now Skipped (record k { parts = ps }))
    (sym same) skips)
