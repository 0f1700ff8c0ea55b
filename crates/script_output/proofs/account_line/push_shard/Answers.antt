use Rattle.std.proofs.Common.{◌≡◌, ◌++◌, ◌<◌, ◌≤◌, ◌∙◌, ℕ, sym, ap, subst, arith}
use Rattle.std.specs.List.{flat_map, range_with_len}
use Rattle.sh_shape.specs.Places.{page_number, pages_of}
use Rattle.sh_shape.specs.Shape.{Numbers, IsShape}
use Rattle.sh_step.specs.Plans.{plan_of}
use Rattle.script_output.specs.AccountLines.{page_text, accounts_after}
use Rattle.script_output.proofs.Telling.{later_next, told_none, told_more}
use Rattle.script_output.proofs.account_line.push_shard.Goals as goal

-- the loop ends at the shard's last page
ends : (shape seen : Numbers) (n end : ℕ) → n ≤ end → end ≤ n → end ≡ pages_of seen → seen ≡ shape
    → n ≡ pages_of shape
ends shape seen n end up down is same = (let e : n ≡ end = omega (arith, up, down) in e) ∙ (is ∙ ap pages_of same)

some_page : (shape : Numbers) → IsShape shape → 0 < pages_of shape
some_page shape h = let k = h.some_segment in omega (arith, k)

pub loop-number-init : goal.loop-number-init
loop-number-init g c =
    let shape = g.P.Pages.numbers c.args.pages.now in
    told_none g.P.Pages.fixed g.P.Pages.numbers g.P.Pages.leads g.P.Pages.says g.P.Pages.layout
    (λ of_page page. page_text c.args.shard page (of_page (page_number shape c.args.shard page)))
    (λ says of_page page. says (page_number shape c.args.shard page) (of_page (page_number shape c.args.shard page)))
    c.args.pages.now c.args.out.now.items

pub push_page-requires : goal.push_page-requires
push_page-requires g c =
    let same = sym c.loop-number.invariant.later.same in
    let below = c.loop-number-test.true in
    let pages = c.pages-number-end.ensures.pages ∙ ap pages_of c.shape.ensures in
    record {
      there = (
        subst (λ (n : Numbers). c.args.shard < n.shards) same c.requires.within,
        subst (λ (n : Numbers). c.loop-number.number < pages_of n) same
            (subst (λ (n : ℕ). c.loop-number.number < n) pages below),
      );
    }

pub returns-in_err-push_page-clause-later : goal.returns-in_err-push_page-clause-later
returns-in_err-push_page-clause-later g c =
    later_next g.P.Pages.fixed g.P.Pages.numbers g.P.Pages.leads g.P.Pages.says c.args.pages.now c.loop-number.pages
    c.push_page.new.pages c.loop-number.invariant.later c.push_page.ensures.later

pub loop-number-preserved : goal.loop-number-preserved
loop-number-preserved g c =
    let shape = g.P.Pages.numbers c.args.pages.now in
    let same = c.loop-number.invariant.later.same in
    let n = c.loop-number.number in
    told_more g.P.Pages.fixed g.P.Pages.numbers g.P.Pages.leads g.P.Pages.says g.P.Pages.layout
    (λ of_page page. page_text c.args.shard page (of_page (page_number shape c.args.shard page)))
    (λ says of_page page. says (page_number shape c.args.shard page) (of_page (page_number shape c.args.shard page)))
    c.args.pages.now c.args.out.now.items c.loop-number.pages c.push_page.new.pages c.loop-number.out.items
    c.push_page.new.out.items n
    (λ P Q widens of_page i said. widens (page_number shape c.args.shard i)
    (of_page (page_number shape c.args.shard i)) said)
    c.loop-number.invariant c.push_page.ensures.later c.push_page.ensures.reached
    (λ es leads. subst (λ (s : Numbers). c.push_page.new.out.items ≡ c.loop-number.out.items
    ++ page_text c.args.shard n (accounts_after (plan_of g.P.Pages.layout s) es (page_number s c.args.shard n)))
    same (c.in_ok-push_page.ensures.ok es leads))
    (λ es leads. subst (λ (s : Numbers). g.P.Pages.says c.push_page.new.pages (page_number s c.args.shard n)
    (accounts_after (plan_of g.P.Pages.layout s) es (page_number s c.args.shard n)))
    same (c.push_page.ensures.says es leads))

pub returns-clause-later : goal.returns-clause-later
returns-clause-later g c = c.loop-number.invariant.later

pub returns-clause-reached : goal.returns-clause-reached
returns-clause-reached g c =
    let e = ends (g.P.Pages.numbers c.args.pages.now) c.shape.result c.loop-number.number c.pages-number-end.result
    c.loop-number.auto.number-end c.loop-number-test.false c.pages-number-end.ensures.pages c.shape.ensures in
    let some = some_page (g.P.Pages.numbers c.args.pages.now) c.requires.shape in
    c.loop-number.invariant.reached (subst (λ (n : ℕ). 0 < n) (sym e) some)

pub returns-clause-ok : goal.returns-clause-ok
returns-clause-ok g c = λ es leads.
    let shape = g.P.Pages.numbers c.args.pages.now in
    let e = ends shape c.shape.result c.loop-number.number c.pages-number-end.result
    c.loop-number.auto.number-end c.loop-number-test.false c.pages-number-end.ensures.pages c.shape.ensures in
    subst (λ (n : ℕ). c.loop-number.out.items ≡ c.args.out.now.items ++ flat_map
    (λ page. page_text c.args.shard page (accounts_after (plan_of g.P.Pages.layout shape) es
    (page_number shape c.args.shard page))) (range_with_len 0 n)) e (c.loop-number.invariant.texts es leads)

pub returns-clause-says : goal.returns-clause-says
returns-clause-says g c = λ es leads page below.
    let e = ends (g.P.Pages.numbers c.args.pages.now) c.shape.result c.loop-number.number c.pages-number-end.result
    c.loop-number.auto.number-end c.loop-number-test.false c.pages-number-end.ensures.pages c.shape.ensures in
    c.loop-number.invariant.said es leads page (subst (λ (n : ℕ). page < n) (sym e) below)
