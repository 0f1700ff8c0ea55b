use Rattle.std.proofs.Common.{List, ℕ, map, subst}
use Rattle.std.specs.Prelude.{vec_items}
use Rattle.script_orders.specs.Reached.{pages_asked, Has}
use Rattle.script_orders.proofs.walk.add_end.Goals as goal

pub returns-then-branch-clause-has : goal.returns-then-branch-clause-has
returns-then-branch-clause-has g c =
    let new = c.in_ok-new.new in
    let found = c.add.new.found.items in
    let pages = pages_asked g.L.KeyLayout.layout c.args.program.now c.args.state.now.order.items in
    subst (λ (rs : List (List ℕ)). Has found rs pages) c.in_ok-new.ensures.replies
    (subst (λ (ps : List ℕ). Has found (map vec_items new.replies.items) ps) c.in_ok-new.ensures.pages
    c.in_ok-add.ensures.has)

pub returns-else-branch-clause-has : goal.returns-else-branch-clause-has
returns-else-branch-clause-has g c =
    let new = c.in_ok-new.new in
    let found = c.add.new.found.items in
    let pages = pages_asked g.L.KeyLayout.layout c.args.program.now c.args.state.now.order.items in
    subst (λ (rs : List (List ℕ)). Has found rs pages) c.in_ok-new.ensures.replies
    (subst (λ (ps : List ℕ). Has found (map vec_items new.replies.items) ps) c.in_ok-new.ensures.pages
    c.in_ok-add.ensures.has)

pub returns-then-branch-clause-adds : goal.returns-then-branch-clause-adds
returns-then-branch-clause-adds g c =
    let is = c.in_ok-new.ensures in record {
      found = c.in_ok-new.new;
      adds = c.in_ok-add.ensures.adds;
      replies = is.replies;
      pages = is.pages;
      orders = is.orders;
    }

pub returns-else-branch-clause-adds : goal.returns-else-branch-clause-adds
returns-else-branch-clause-adds g c =
    let is = c.in_ok-new.ensures in record {
      found = c.in_ok-new.new;
      adds = c.in_ok-add.ensures.adds;
      replies = is.replies;
      pages = is.pages;
      orders = is.orders;
    }
