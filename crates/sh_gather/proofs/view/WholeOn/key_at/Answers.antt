use Rattle.std.proofs.Common.{◌*◌, ◌<◌, ◌∙◌, ap, subst, sym}
use Rattle.sh_shape.specs.Places.{all_pages}
use Rattle.sh_word.specs.Fields.{Fields, fields_of}
use Rattle.sh_pass.specs.Passes.{Caller}
use Rattle.sh_gather.proofs.LiveKeys.{live_so, looked, none_at, off_absent, off_marked, on_live, packs_so}
use Rattle.sh_gather.proofs.view.WholeOn.key_at.Goals as goal

pub returns-then-state-clause-key : goal.returns-then-state-clause-key
returns-then-state-clause-key g c =
    let look = looked g.L.KeyLayout.layout c.self.inside.pass c.load.new.self.view c.args.place c.load.result
    c.from.result c.from-2.result c.load.ensures.rest c.self.invariant c.load.ensures.known c.from.ensures
    c.from-2.ensures c.load.ensures.view
    (subst (λ (x : Caller). c.args.place < all_pages x.heap.shape * 48) (sym c.self.view_is) c.requires) in
    let st = c.state.view_is ∙ c.of-state.ensures.fields in
    none_at g.L.KeyLayout.layout c.self.inside.pass.view c.load.new.self.view c.args.place c.load.result
    c.core_refines.ensures look (off_marked _ (fields_of c.load.result) st c.if-state.true)

pub returns-then-not-state-clause-key : goal.returns-then-not-state-clause-key
returns-then-not-state-clause-key g c =
    let look = looked g.L.KeyLayout.layout c.self.inside.pass c.load.new.self.view c.args.place c.load.result
    c.from.result c.from-2.result c.load.ensures.rest c.self.invariant c.load.ensures.known c.from.ensures
    c.from-2.ensures c.load.ensures.view
    (subst (λ (x : Caller). c.args.place < all_pages x.heap.shape * 48) (sym c.self.view_is) c.requires) in
    let st = c.state.view_is ∙ c.of-state.ensures.fields in
    none_at g.L.KeyLayout.layout c.self.inside.pass.view c.load.new.self.view c.args.place c.load.result
    c.core_refines.ensures look (off_absent _ (fields_of c.load.result) st c.if-not-state.true)

pub key_of_name-requires-clause-names : goal.key_of_name-requires-clause-names
key_of_name-requires-clause-names g c =
    let look = looked g.L.KeyLayout.layout c.self.inside.pass c.load.new.self.view c.args.place c.load.result
    c.from.result c.from-2.result c.load.ensures.rest c.self.invariant c.load.ensures.known c.from.ensures
    c.from-2.ensures c.load.ensures.view
    (subst (λ (x : Caller). c.args.place < all_pages x.heap.shape * 48) (sym c.self.view_is) c.requires) in
    let st = c.state.view_is ∙ c.of-state.ensures.fields in
    packs_so g.L.KeyLayout.layout c.self.inside.pass c.load.new.self.view c.args.place c.load.result c.from.result
    c.from-2.result c.state.inside.generation c.shape.result.now c.core_refines.ensures look
    c.load.ensures.rest (c.shape.ensures.is ∙ ap (λ h. h.shape) c.load.ensures.same) c.from.ensures
    c.from-2.ensures (ap (λ (f : Fields). f.generation) st)

pub returns-clause-key : goal.returns-clause-key
returns-clause-key g c =
    let look = looked g.L.KeyLayout.layout c.self.inside.pass c.load.new.self.view c.args.place c.load.result
    c.from.result c.from-2.result c.load.ensures.rest c.self.invariant c.load.ensures.known c.from.ensures
    c.from-2.ensures c.load.ensures.view
    (subst (λ (x : Caller). c.args.place < all_pages x.heap.shape * 48) (sym c.self.view_is) c.requires) in
    let st = c.state.view_is ∙ c.of-state.ensures.fields in
    live_so g.L.KeyLayout.layout c.self.inside.pass c.load.new.self.view c.args.place c.load.result c.from.result
    c.from-2.result c.state.inside.generation c.key_of_name.result c.shape.result.now c.core_refines.ensures look
    c.load.ensures.rest (c.shape.ensures.is ∙ ap (λ h. h.shape) c.load.ensures.same) c.from.ensures
    c.from-2.ensures (ap (λ (f : Fields). f.generation) st)
    (on_live _ (fields_of c.load.result) st c.if-state.false c.if-not-state.false) c.key_of_name.ensures
