use Rattle.std.proofs.Common.{◌+◌, ◌*◌, ◌∙◌, ap, subst, sym, ◌++◌, ◌∷◌, []}
use Rattle.sh_gather.specs.Sums.{AtMost, with_page}
use Rattle.sh_gather.proofs.PageTotals.{first_more, sums_more, at_most_more}
use Rattle.sh_gather.proofs.totals.total.Goals as goal
use Rattle.sh_gather.proofs.Walking.{later_again}

pub loop-number-preserved : goal.loop-number-preserved
loop-number-preserved g c =
    let i = c.loop-number.invariant in
    let old = c.args.whole.now in
    let at = c.loop-number.whole in
    let new = c.page_accounts.new.whole in
    let p = c.page_accounts.result in
    let e = c.page_accounts.ensures in
    let pages = i.4.0 in (
      e.heap ∙ i.0,
      later_again old.view at.view new.view i.1 e.tale,
      i.2,
      subst (AtMost (48 * (c.loop-number.number + 1))) (sym c.with-sums.ensures)
          (at_most_more c.loop-number.number c.loop-number.sums p e.is.are.fill i.3),
      (
        pages ++ p ∷ [],
        first_more g.L.KeyLayout.layout old at new c.loop-number.number pages p i.0 e.heap i.1 e.tale i.4.1 e.is,
        c.with-sums.ensures ∙ (ap (with_page p) i.4.2 ∙ sums_more pages p),
      ),
    )
