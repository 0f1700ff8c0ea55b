use Rattle.std.proofs.Common.{◌≡◌, ℕ, List, None, Option, Some, get_or, slice_get, sym, ap, ◌∙◌, subst}
use Rattle.std.specs.Prelude.{MatchOption}
use Rattle.std.proofs.lemmas.Option.{slice_get_past}
use Rattle.sh_shape.specs.Places.{IsPlace, number}
use Rattle.sh_shape.specs.Shape.{Numbers}
use Rattle.sh_step.specs.declared.body.Body.{Body}
use Rattle.sh_step.specs.declared.operation.Operation.{Operation}
use Rattle.sh_step.specs.declared.step.Step.{Step}
use Rattle.sh_step.specs.Moves.{move_of, step_at}
use Rattle.sh_step.specs.Operations.{StoresWord, HasRoom, operate}
use Rattle.sh_step.specs.Plans.{plan_of}
use Rattle.sh_core.specs.Kept.{Represents}
use Rattle.sh_core.specs.Outcomes.{row_of_event}
use Rattle.sh_core.specs.Worlds.{World}
use Rattle.script_orders.specs.declared.play.Touch.{Touch}
use Rattle.script_orders.specs.Seen.{Sees}
use Rattle.sh_core.proofs.Words.Stepping.{row_of_past}
use Rattle.script_orders.proofs.Seeing.{step_has_place, step_stores, step_has_room, sees, touches, quiet}
use Rattle.script_orders.proofs.Seeing.{no_move_no_row}
use Rattle.script_orders.proofs.Walked.{found_at}
use Rattle.script_orders.proofs.play.touch_of.Goals as goal

pub returns-in_err-part-clause-is : goal.returns-in_err-part-clause-is
returns-in_err-part-clause-is g c =
    subst (λ (o : Option Touch). MatchOption o
    ((w : World) → Represents c.args.world.now w
    → row_of_event (plan_of g.L.KeyLayout.layout c.args.world.now.shape) w c.args.event.now ≡ None)
    (λ touch. (w : World) → Represents c.args.world.now w
    → Sees (plan_of g.L.KeyLayout.layout c.args.world.now.shape) w c.args.event.now touch.seen))
    (sym c.from_residual.ensures) (λ w stands.
    let e = c.args.event.now in
    let past = slice_get_past c.parts.result.now e.pass c.in_err-part.ensures.lookup.3 in
    row_of_past (plan_of g.L.KeyLayout.layout c.args.world.now.shape) w e
    (subst (λ (bs : List Body). slice_get bs e.pass ≡ None) (c.parts.ensures ∙ stands.parts) past))

pub returns-in_err-the_move-clause-is : goal.returns-in_err-the_move-clause-is
returns-in_err-the_move-clause-is g c =
    let layout = g.L.KeyLayout.layout in
    let k = c.args.world.now in
    let e = c.args.event.now in
    let part = c.in_ok-part.part.now in
    let look = c.in_ok-part.ensures.lookup in
    let at = found_at c.parts.result.now k.parts e.pass part c.parts.ensures look.3.0 look.1 in
    let is = sym (subst (λ (n : Numbers). None ≡ move_of (plan_of layout n) part e.action)
    c.shape-shape.ensures.is c.in_err-the_move.ensures) in
    subst (λ (o : Option Touch). MatchOption o
    ((w : World) → Represents c.args.world.now w
    → row_of_event (plan_of g.L.KeyLayout.layout c.args.world.now.shape) w c.args.event.now ≡ None)
    (λ touch. (w : World) → Represents c.args.world.now w
    → Sees (plan_of g.L.KeyLayout.layout c.args.world.now.shape) w c.args.event.now touch.seen))
    (sym c.from_residual-in_err-the_move.ensures) (λ w stands. no_move_no_row layout k e part at is w stands)

pub step-step-requires-clause-place : goal.step-step-requires-clause-place
step-step-requires-clause-place g c =
    let layout = g.L.KeyLayout.layout in
    let k = c.args.world.now in
    let e = c.args.event.now in
    let part = c.in_ok-part.part.now in
    let m = c.in_ok-the_move.the_move in
    let look = c.in_ok-part.ensures.lookup in
    let at = found_at c.parts.result.now k.parts e.pass part c.parts.ensures look.3.0 look.1 in
    let is = sym (subst (λ (n : Numbers). Some m ≡ move_of (plan_of layout n) part e.action) c.shape-shape.ensures.is
    c.in_ok-the_move.ensures) in
    subst (λ (n : Numbers). IsPlace n (step_at (plan_of layout n) m).place) (sym c.shape-shape.ensures.is)
    (step_has_place layout k e part m c.shape-shape.ensures.reached at is)

pub step-step-requires-clause-stores : goal.step-step-requires-clause-stores
step-step-requires-clause-stores g c =
    let layout = g.L.KeyLayout.layout in
    let k = c.args.world.now in
    let e = c.args.event.now in
    let part = c.in_ok-part.part.now in
    let m = c.in_ok-the_move.the_move in
    let look = c.in_ok-part.ensures.lookup in
    let at = found_at c.parts.result.now k.parts e.pass part c.parts.ensures look.3.0 look.1 in
    let is = sym (subst (λ (n : Numbers). Some m ≡ move_of (plan_of layout n) part e.action) c.shape-shape.ensures.is
    c.in_ok-the_move.ensures) in
    subst (λ (n : Numbers). StoresWord (step_at (plan_of layout n) m).operation) (sym c.shape-shape.ensures.is)
    (step_stores layout k e part m c.shape-shape.ensures.reached at is)

pub index-number-requires : goal.index-number-requires
index-number-requires g c =
    let layout = g.L.KeyLayout.layout in
    let k = c.args.world.now in
    let e = c.args.event.now in
    let part = c.in_ok-part.part.now in
    let m = c.in_ok-the_move.the_move in
    let look = c.in_ok-part.ensures.lookup in
    let at = found_at c.parts.result.now k.parts e.pass part c.parts.ensures look.3.0 look.1 in
    let is = sym (subst (λ (n : Numbers). Some m ≡ move_of (plan_of layout n) part e.action) c.shape-shape.ensures.is
    c.in_ok-the_move.ensures) in
    subst (λ (s : Step). IsPlace c.shape-shape.result s.place) (sym c.step-step.ensures)
    (subst (λ (n : Numbers). IsPlace n (step_at (plan_of layout n) m).place) (sym c.shape-shape.ensures.is)
    (step_has_place layout k e part m c.shape-shape.ensures.reached at is))

pub after-left-requires : goal.after-left-requires
after-left-requires g c =
    let layout = g.L.KeyLayout.layout in
    let k = c.args.world.now in
    let e = c.args.event.now in
    let part = c.in_ok-part.part.now in
    let m = c.in_ok-the_move.the_move in
    let look = c.in_ok-part.ensures.lookup in
    let at = found_at c.parts.result.now k.parts e.pass part c.parts.ensures look.3.0 look.1 in
    let is = sym (subst (λ (n : Numbers). Some m ≡ move_of (plan_of layout n) part e.action) c.shape-shape.ensures.is
    c.in_ok-the_move.ensures) in
    let n : ℕ = c.index-number.result in
    let place : n ≡ number k.shape (step_at (plan_of layout k.shape) m).place =
    c.index-number.ensures.is ∙ ap (λ (s : Step). number c.shape-shape.result s.place) c.step-step.ensures
    ∙ ap (λ (ns : Numbers). number ns (step_at (plan_of layout ns) m).place) c.shape-shape.ensures.is in
    let found : ℕ = c.word_at-found.result in
    let looked : found ≡ get_or k.words n 0 = c.word_at-found.ensures
    ∙ ap (λ (ws : List ℕ). get_or ws n 0) c.words.ensures.is in
    subst (λ (o : Operation). HasRoom o found)
    (sym (ap (λ (s : Step). s.operation) c.step-step.ensures
    ∙ ap (λ (ns : Numbers). (step_at (plan_of layout ns) m).operation) c.shape-shape.ensures.is))
    (step_has_room layout k e part m c.shape-shape.ensures.reached at is n found place looked c.word_at-found.type_inv)

pub returns-clause-is : goal.returns-clause-is
returns-clause-is g c =
    let layout = g.L.KeyLayout.layout in
    let k = c.args.world.now in
    let e = c.args.event.now in
    let part = c.in_ok-part.part.now in
    let m = c.in_ok-the_move.the_move in
    let look = c.in_ok-part.ensures.lookup in
    let at = found_at c.parts.result.now k.parts e.pass part c.parts.ensures look.3.0 look.1 in
    let is = sym (subst (λ (n : Numbers). Some m ≡ move_of (plan_of layout n) part e.action) c.shape-shape.ensures.is
    c.in_ok-the_move.ensures) in
    let n : ℕ = c.index-number.result in
    let place : n ≡ number k.shape (step_at (plan_of layout k.shape) m).place =
    c.index-number.ensures.is ∙ ap (λ (s : Step). number c.shape-shape.result s.place) c.step-step.ensures
    ∙ ap (λ (ns : Numbers). number ns (step_at (plan_of layout ns) m).place) c.shape-shape.ensures.is in
    let found : ℕ = c.word_at-found.result in
    let looked : found ≡ get_or k.words n 0 = c.word_at-found.ensures
    ∙ ap (λ (ws : List ℕ). get_or ws n 0) c.words.ensures.is in
    λ w stands. sees layout k e part m c.shape-shape.ensures.reached at is found c.seen-seen.result
    (looked ∙ ap (λ (i : ℕ). get_or k.words i 0) place) (c.seen-seen.ensures k.shape) w stands

pub returns-clause-touches : goal.returns-clause-touches
returns-clause-touches g c =
    let layout = g.L.KeyLayout.layout in
    let k = c.args.world.now in
    let e = c.args.event.now in
    let part = c.in_ok-part.part.now in
    let m = c.in_ok-the_move.the_move in
    let look = c.in_ok-part.ensures.lookup in
    let at = found_at c.parts.result.now k.parts e.pass part c.parts.ensures look.3.0 look.1 in
    let is = sym (subst (λ (n : Numbers). Some m ≡ move_of (plan_of layout n) part e.action) c.shape-shape.ensures.is
    c.in_ok-the_move.ensures) in
    let n : ℕ = c.index-number.result in
    let place : n ≡ number k.shape (step_at (plan_of layout k.shape) m).place =
    c.index-number.ensures.is ∙ ap (λ (s : Step). number c.shape-shape.result s.place) c.step-step.ensures
    ∙ ap (λ (ns : Numbers). number ns (step_at (plan_of layout ns) m).place) c.shape-shape.ensures.is in
    let found : ℕ = c.word_at-found.result in
    let looked : found ≡ get_or k.words n 0 = c.word_at-found.ensures
    ∙ ap (λ (ws : List ℕ). get_or ws n 0) c.words.ensures.is in
    let left : c.after-left.result ≡ operate (step_at (plan_of layout k.shape) m).operation found =
    c.after-left.ensures.is ∙ ap (λ (s : Step). operate s.operation found) c.step-step.ensures
    ∙ ap (λ (ns : Numbers). operate (step_at (plan_of layout ns) m).operation found) c.shape-shape.ensures.is in
    λ w stands. touches layout k e part m c.shape-shape.ensures.reached at is n found c.seen-seen.result
    c.after-left.result place looked (c.seen-seen.ensures k.shape) left w stands

pub returns-clause-quiet : goal.returns-clause-quiet
returns-clause-quiet g c = λ none.
    let layout = g.L.KeyLayout.layout in
    let k = c.args.world.now in
    let e = c.args.event.now in
    let part = c.in_ok-part.part.now in
    let m = c.in_ok-the_move.the_move in
    let look = c.in_ok-part.ensures.lookup in
    let at = found_at c.parts.result.now k.parts e.pass part c.parts.ensures look.3.0 look.1 in
    let is = sym (subst (λ (n : Numbers). Some m ≡ move_of (plan_of layout n) part e.action) c.shape-shape.ensures.is
    c.in_ok-the_move.ensures) in
    let n : ℕ = c.index-number.result in
    let place : n ≡ number k.shape (step_at (plan_of layout k.shape) m).place =
    c.index-number.ensures.is ∙ ap (λ (s : Step). number c.shape-shape.result s.place) c.step-step.ensures
    ∙ ap (λ (ns : Numbers). number ns (step_at (plan_of layout ns) m).place) c.shape-shape.ensures.is in
    let found : ℕ = c.word_at-found.result in
    let looked : found ≡ get_or k.words n 0 = c.word_at-found.ensures
    ∙ ap (λ (ws : List ℕ). get_or ws n 0) c.words.ensures.is in
    λ w stands. sym (quiet layout k e part m c.shape-shape.ensures.reached at is n found place looked
    (sym (c.has_reply-replies.ensures (plan_of layout k.shape) part) ∙ none) w stands)
