use Rattle.std.proofs.Common.{◌≡◌, false, ◌∷◌, [], ◌++◌, set, ap, ◌∙◌, sym, subst, arith}
use Rattle.sh_lists.specs.Lists.{Lists}
use Rattle.sh_states.specs.declared.states.PageState.{PageState}
use Rattle.sh_states.specs.States.{KeepsStates, WholeState, padded}
use Rattle.sh_states.proofs.Padding.{Writes, found, writes, worded, worded_not_whole, word_behind}
use Rattle.sh_states.proofs.states.PageStates.set_word.Goals as goal

pub invariant_of-self : goal.invariant_of-self
invariant_of-self c =
    let f = c.self.inside in
    let n = c.args.class_word in
    let items : c.push_reserved.new.self.items ≡ f.written.items ++ worded n ∷ [] = c.push_reserved.ensures.items
    ∙ ap (λ (z : Lists). f.written.items ++ record { lists = z; class_word = n; armed = false } ∷ []) c.bare.ensures in
    let w = word_behind f.written.items c.args.self.now f.count f.bound c.args.page n c.self.view_is
    c.self.invariant.0 c.requires.inside (omega arith) c.requires.few in
    let room = c.self.invariant.1 in
    let same = c.push_reserved.ensures.capacity in
    (subst (λ xs. KeepsStates xs f.count f.bound) (sym items) w.0, omega arith)

pub returns-then-page-len : goal.returns-then-page-len
returns-then-page-len c =
    let f = c.self.inside in
    let n = c.args.class_word in
    let items : c.push_reserved.new.self.items ≡ f.written.items ++ worded n ∷ [] = c.push_reserved.ensures.items
    ∙ ap (λ (z : Lists). f.written.items ++ record { lists = z; class_word = n; armed = false } ∷ []) c.bare.ensures in
    let w = word_behind f.written.items c.args.self.now f.count f.bound c.args.page n c.self.view_is
    c.self.invariant.0 c.requires.inside (omega arith) c.requires.few in
    ap (padded f.count) items ∙ w.1

pub invariant_of-self-2 : goal.invariant_of-self-2
invariant_of-self-2 c =
    let f = c.self.inside in
    let old : PageState = c.index_mut.result.now in
    let new : PageState = record { lists = old.lists; class_word = c.args.class_word; armed = old.armed } in
    let at = found f.written.items c.write_up_to.new.written.items c.args.self.now f.count f.bound c.args.page old
    c.self.view_is c.self.invariant.0 c.requires.inside c.write_up_to.ensures.longer c.index_mut.ensures.value in
    let is : new ≡ worded c.args.class_word = ap
    (λ (z : PageState). record { lists = z.lists; class_word = c.args.class_word; armed = z.armed })
    (at.was ∙ c.requires.blank) in
    let w : Writes f.written.items c.write_up_to.new.written.items c.args.self.now f.count f.bound c.args.page old new =
    writes f.written.items c.write_up_to.new.written.items c.args.self.now f.count f.bound f.bound c.args.page old new
    c.self.view_is c.self.invariant.0 at c.write_up_to.ensures.longer (omega arith)
    (λ l. subst (λ (z : PageState). ¬ WholeState z) (sym is) (worded_not_whole c.args.class_word c.requires.few))
    c.requires.few in
    let room = c.self.invariant.1 in
    let same = c.write_up_to.ensures.capacity in
    (w.keeps, omega arith)

pub returns : goal.returns
returns c =
    let f = c.self.inside in
    let old : PageState = c.index_mut.result.now in
    let new : PageState = record { lists = old.lists; class_word = c.args.class_word; armed = old.armed } in
    let at = found f.written.items c.write_up_to.new.written.items c.args.self.now f.count f.bound c.args.page old
    c.self.view_is c.self.invariant.0 c.requires.inside c.write_up_to.ensures.longer c.index_mut.ensures.value in
    let is : new ≡ worded c.args.class_word = ap
    (λ (z : PageState). record { lists = z.lists; class_word = c.args.class_word; armed = z.armed })
    (at.was ∙ c.requires.blank) in
    let w : Writes f.written.items c.write_up_to.new.written.items c.args.self.now f.count f.bound c.args.page old new =
    writes f.written.items c.write_up_to.new.written.items c.args.self.now f.count f.bound f.bound c.args.page old new
    c.self.view_is c.self.invariant.0 at c.write_up_to.ensures.longer (omega arith)
    (λ l. subst (λ (z : PageState). ¬ WholeState z) (sym is) (worded_not_whole c.args.class_word c.requires.few))
    c.requires.few in
    w.shows ∙ ap (set c.args.self.now c.args.page) is
