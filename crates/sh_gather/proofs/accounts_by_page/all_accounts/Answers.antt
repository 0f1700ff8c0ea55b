use Rattle.std.proofs.Common.{◌+◌, ◌∙◌, subst, sym}
use Rattle.sh_gather.specs.PageLists.{AreFirst}
use Rattle.sh_gather.proofs.PageTotals.{first_more}
use Rattle.sh_gather.proofs.accounts_by_page.all_accounts.Goals as goal
use Rattle.sh_gather.proofs.Walking.{later_again}

pub loop-number-preserved : goal.loop-number-preserved
loop-number-preserved g c =
    let i = c.loop-number.invariant in
    let old = c.args.whole.now in
    let at = c.loop-number.whole in
    let new = c.page_accounts.new.whole in
    let e = c.page_accounts.ensures in (
      e.heap ∙ i.0,
      later_again old.view at.view new.view i.1 e.tale,
      i.2,
      subst (AreFirst g.L.KeyLayout.layout old new (c.loop-number.number + 1)) (sym c.in_ok-push.ensures.items)
          (first_more g.L.KeyLayout.layout old at new c.loop-number.number c.loop-number.all.items
          c.page_accounts.result i.0 e.heap i.1 e.tale i.3 e.is),
    )
