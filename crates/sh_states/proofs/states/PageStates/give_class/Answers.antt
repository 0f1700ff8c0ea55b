use Rattle.sh_lists.specs.Numbers.{upward}
use Rattle.sh_shape.specs.Classes.{slots}
use Rattle.std.proofs.Common.{◌≡◌, ◌+◌, [], set, ap, ◌∙◌, arith}
use Rattle.sh_lists.specs.Lists.{Lists}
use Rattle.sh_states.specs.declared.states.PageState.{PageState}
use Rattle.sh_states.proofs.Padding.{Writes, found, writes}
use Rattle.sh_states.proofs.states.PageStates.give_class.Goals as goal

pub invariant_of-self : goal.invariant_of-self
invariant_of-self c =
    let f = c.self.inside in
    let old : PageState = c.index_mut-state.result.now in
    let new : PageState = record { lists = c.set_cursor.new.self; class_word = c.args.class + 1; armed = old.armed } in
    let at = found f.written.items c.write_up_to.new.written.items c.args.self.now f.count f.bound c.args.page old
    c.self.view_is c.self.invariant.0 c.requires.inside c.write_up_to.ensures.longer c.index_mut-state.ensures.value in
    let w : Writes f.written.items c.write_up_to.new.written.items c.args.self.now f.count
    c.bound_with-self-inside.result c.args.page old new =
    writes f.written.items c.write_up_to.new.written.items c.args.self.now f.count f.bound
    c.bound_with-self-inside.result c.args.page old new
    c.self.view_is c.self.invariant.0 at c.write_up_to.ensures.longer c.bound_with-self-inside.ensures.lower
    (c.bound_with-self-inside.ensures.none) (let l = c.requires.class in omega arith) in
    let room = c.self.invariant.1 in
    let same = c.write_up_to.ensures.capacity in
    (w.keeps, omega arith)

pub returns : goal.returns
returns c =
    let f = c.self.inside in
    let old : PageState = c.index_mut-state.result.now in
    let new : PageState = record { lists = c.set_cursor.new.self; class_word = c.args.class + 1; armed = old.armed } in
    let at = found f.written.items c.write_up_to.new.written.items c.args.self.now f.count f.bound c.args.page old
    c.self.view_is c.self.invariant.0 c.requires.inside c.write_up_to.ensures.longer c.index_mut-state.ensures.value in
    let w : Writes f.written.items c.write_up_to.new.written.items c.args.self.now f.count
    c.bound_with-self-inside.result c.args.page old new =
    writes f.written.items c.write_up_to.new.written.items c.args.self.now f.count f.bound
    c.bound_with-self-inside.result c.args.page old new
    c.self.view_is c.self.invariant.0 at c.write_up_to.ensures.longer c.bound_with-self-inside.ensures.lower
    (c.bound_with-self-inside.ensures.none) (let l = c.requires.class in omega arith) in
    let is : new ≡ record {
      lists = record {
        free = upward 0 (slots c.args.class);
        local = [];
        cursor = old.lists.cursor;
      };
      class_word = c.args.class + 1;
      armed = old.armed;
    } = ap (λ (z : Lists). record {
      lists = z;
      class_word =
          c.args.class + 1;
      armed = old.armed;
    }) (c.set_cursor.ensures ∙ ((λ i. record {
      free = (c.full-state.ensures i).free;
      local = (c.full-state.ensures i).local;
      cursor = c.cursor-cursor.ensures.cursor i;
    }) ∙ ap (λ n. record {
      free =
          upward 0 n;
      local = [];
      cursor = old.lists.cursor;
    }) c.slots.ensures.is)) in
    w.shows ∙ ap (set c.args.self.now c.args.page) (is ∙ ap (λ (z : PageState). record {
      lists = record {
        free = upward
            0 (slots c.args.class);
        local = [];
        cursor = z.lists.cursor;
      };
      class_word = c.args.class + 1;
      armed = z.armed;
    })
    w.was)
