use Rattle.std.proofs.Common.{◌≡◌, set, ap, ◌∙◌, arith}
use Rattle.sh_states.specs.declared.states.PageState.{PageState}
use Rattle.sh_states.specs.States.{with_lists, with_local}
use Rattle.sh_states.proofs.Padding.{Writes, found, found_few, writes}
use Rattle.sh_states.proofs.states.PageStates.push_local.Goals as goal

pub invariant_of-self : goal.invariant_of-self
invariant_of-self c =
    let f = c.self.inside in
    let old : PageState = c.index_mut-state.result.now in
    let new : PageState = record { lists = c.push_local.new.self; class_word = old.class_word; armed = old.armed } in
    let at = found f.written.items c.write_up_to.new.written.items c.args.self.now f.count f.bound c.args.page old
    c.self.view_is c.self.invariant.0 c.requires.inside c.write_up_to.ensures.longer c.index_mut-state.ensures.value in
    let w : Writes f.written.items c.write_up_to.new.written.items c.args.self.now f.count
    c.bound_with-self-inside.result c.args.page old new =
    writes f.written.items c.write_up_to.new.written.items c.args.self.now f.count f.bound
    c.bound_with-self-inside.result c.args.page old new
    c.self.view_is c.self.invariant.0 at c.write_up_to.ensures.longer c.bound_with-self-inside.ensures.lower
    (c.bound_with-self-inside.ensures.none) (found_few c.self.invariant.0 at) in
    let room = c.self.invariant.1 in
    let same = c.write_up_to.ensures.capacity in
    (w.keeps, omega arith)

pub returns : goal.returns
returns c =
    let f = c.self.inside in
    let old : PageState = c.index_mut-state.result.now in
    let new : PageState = record { lists = c.push_local.new.self; class_word = old.class_word; armed = old.armed } in
    let at = found f.written.items c.write_up_to.new.written.items c.args.self.now f.count f.bound c.args.page old
    c.self.view_is c.self.invariant.0 c.requires.inside c.write_up_to.ensures.longer c.index_mut-state.ensures.value in
    let w : Writes f.written.items c.write_up_to.new.written.items c.args.self.now f.count
    c.bound_with-self-inside.result c.args.page old new =
    writes f.written.items c.write_up_to.new.written.items c.args.self.now f.count f.bound
    c.bound_with-self-inside.result c.args.page old new
    c.self.view_is c.self.invariant.0 at c.write_up_to.ensures.longer c.bound_with-self-inside.ensures.lower
    (c.bound_with-self-inside.ensures.none) (found_few c.self.invariant.0 at) in
    let is : new ≡ with_local old c.args.slot = ap (with_lists old) c.push_local.ensures in
    w.shows ∙ ap (set c.args.self.now c.args.page) (is ∙ ap (λ (z : PageState). with_local z c.args.slot) w.was)
