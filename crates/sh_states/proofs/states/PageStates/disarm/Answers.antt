use Rattle.std.proofs.Common.{◌≡◌, false, set, refl, ap, ◌∙◌, arith}
use Rattle.sh_states.specs.declared.states.PageState.{PageState}
use Rattle.sh_states.proofs.Padding.{Writes, found, found_few, still_not_whole, writes}
use Rattle.sh_states.proofs.states.PageStates.disarm.Goals as goal

pub invariant_of-self : goal.invariant_of-self
invariant_of-self c =
    let f = c.self.inside in
    let old : PageState = c.index_mut.result.now in
    let new : PageState = record { lists = old.lists; class_word = old.class_word; armed = false } in
    let at = found f.written.items c.write_up_to.new.written.items c.args.self.now f.count f.bound c.args.page old
    c.self.view_is c.self.invariant.0 c.requires c.write_up_to.ensures.longer c.index_mut.ensures.value in
    let w : Writes f.written.items c.write_up_to.new.written.items c.args.self.now f.count f.bound c.args.page old new =
    writes f.written.items c.write_up_to.new.written.items c.args.self.now f.count f.bound f.bound c.args.page old new
    c.self.view_is c.self.invariant.0 at c.write_up_to.ensures.longer (omega arith) (still_not_whole new
    c.self.invariant.0 at refl (omega arith)) (found_few c.self.invariant.0 at) in
    let room = c.self.invariant.1 in
    let same = c.write_up_to.ensures.capacity in
    (w.keeps, omega arith)

pub returns : goal.returns
returns c =
    let f = c.self.inside in
    let old : PageState = c.index_mut.result.now in
    let new : PageState = record { lists = old.lists; class_word = old.class_word; armed = false } in
    let at = found f.written.items c.write_up_to.new.written.items c.args.self.now f.count f.bound c.args.page old
    c.self.view_is c.self.invariant.0 c.requires c.write_up_to.ensures.longer c.index_mut.ensures.value in
    let w : Writes f.written.items c.write_up_to.new.written.items c.args.self.now f.count f.bound c.args.page old new =
    writes f.written.items c.write_up_to.new.written.items c.args.self.now f.count f.bound f.bound c.args.page old new
    c.self.view_is c.self.invariant.0 at c.write_up_to.ensures.longer (omega arith) (still_not_whole new
    c.self.invariant.0 at refl (omega arith)) (found_few c.self.invariant.0 at) in
    let is : new ≡ record { lists = old.lists; class_word = old.class_word; armed = false } = refl in
    w.shows ∙ ap (set c.args.self.now c.args.page) (is ∙ ap (λ (z : PageState). record {
      lists = z.lists;
      class_word =
          z.class_word;
      armed = false;
    }) w.was)
