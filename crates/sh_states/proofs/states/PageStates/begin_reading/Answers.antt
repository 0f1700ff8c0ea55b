use Rattle.std.proofs.Common.{◌≡◌, ◌+◌, length, set, refl, ap, ◌∙◌, arith}
use Rattle.sh_lists.specs.Lists.{Lists}
use Rattle.sh_states.specs.declared.states.PageState.{PageState}
use Rattle.sh_states.proofs.Padding.{Writes, found, found_few, still_not_whole, writes}
use Rattle.sh_states.proofs.states.PageStates.begin_reading.Goals as goal

pub invariant_of-self : goal.invariant_of-self
invariant_of-self c =
    let f = c.self.inside in
    let old : PageState = c.index_mut-state.result.now in
    let new : PageState = record { lists = c.set_cursor.new.self; class_word = old.class_word; armed = c.args.armed } in
    let at = found f.written.items c.write_up_to.new.written.items c.args.self.now f.count f.bound c.args.page old
    c.self.view_is c.self.invariant.0 c.requires.inside c.write_up_to.ensures.longer c.index_mut-state.ensures.value in
    let w : Writes f.written.items c.write_up_to.new.written.items c.args.self.now f.count f.bound c.args.page old new =
    writes f.written.items c.write_up_to.new.written.items c.args.self.now f.count f.bound f.bound c.args.page old new
    c.self.view_is c.self.invariant.0 at c.write_up_to.ensures.longer (omega arith) (still_not_whole new
    c.self.invariant.0 at refl (let e = ap (λ (z : Lists). length z.free + length z.local) c.set_cursor.ensures in omega
    arith)) (found_few c.self.invariant.0 at) in
    let room = c.self.invariant.1 in
    let same = c.write_up_to.ensures.capacity in
    (w.keeps, omega arith)

pub returns : goal.returns
returns c =
    let f = c.self.inside in
    let old : PageState = c.index_mut-state.result.now in
    let new : PageState = record { lists = c.set_cursor.new.self; class_word = old.class_word; armed = c.args.armed } in
    let at = found f.written.items c.write_up_to.new.written.items c.args.self.now f.count f.bound c.args.page old
    c.self.view_is c.self.invariant.0 c.requires.inside c.write_up_to.ensures.longer c.index_mut-state.ensures.value in
    let w : Writes f.written.items c.write_up_to.new.written.items c.args.self.now f.count f.bound c.args.page old new =
    writes f.written.items c.write_up_to.new.written.items c.args.self.now f.count f.bound f.bound c.args.page old new
    c.self.view_is c.self.invariant.0 at c.write_up_to.ensures.longer (omega arith) (still_not_whole new
    c.self.invariant.0 at refl (let e = ap (λ (z : Lists). length z.free + length z.local) c.set_cursor.ensures in omega
    arith)) (found_few c.self.invariant.0 at) in
    let is : new ≡ record {
      lists = record old.lists { cursor = c.args.cursor };
      class_word = old.class_word;
      armed =
          c.args.armed;
    } = ap (λ (z : Lists). record { lists = z; class_word = old.class_word; armed = c.args.armed })
    c.set_cursor.ensures in
    w.shows ∙ ap (set c.args.self.now c.args.page) (is ∙ ap (λ (z : PageState). record {
      lists = record z.lists {
        cursor
            = c.args.cursor;
      };
      class_word = z.class_word;
      armed = c.args.armed;
    }) w.was)
