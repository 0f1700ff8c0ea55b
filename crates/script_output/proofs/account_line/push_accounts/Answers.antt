use Rattle.std.proofs.Common.{◌≡◌, ◌++◌, ◌<◌, ◌≤◌, ◌∙◌, ℕ, sym, ap, subst, arith}
use Rattle.std.specs.List.{flat_map, range_with_len}
use Rattle.sh_shape.specs.Places.{page_number, pages_of}
use Rattle.sh_shape.specs.Shape.{Numbers, IsShape}
use Rattle.sh_step.specs.Plans.{plan_of}
use Rattle.script_output.specs.AccountLines.{shard_text, ShardSaid, accounts_after}
use Rattle.script_output.proofs.Telling.{later_next, told_none, told_more}
use Rattle.script_output.proofs.account_line.push_accounts.Goals as goal

-- the loop ends at the last shard
ends : (shape seen : Numbers) (n end : ℕ) → n ≤ end → end ≤ n → end ≡ seen.shards → seen ≡ shape → n ≡ shape.shards
ends shape seen n end up down is same =
    (let e : n ≡ end = omega (arith, up, down) in e) ∙ (is ∙ ap (λ (s : Numbers). s.shards) same)

pub loop-shard-init : goal.loop-shard-init
loop-shard-init g c =
    let shape = g.P.Pages.numbers c.args.pages.now in
    told_none g.P.Pages.fixed g.P.Pages.numbers g.P.Pages.leads g.P.Pages.says g.P.Pages.layout
    (λ of_page shard. shard_text shape of_page shard)
    (λ says of_page shard. ShardSaid says shape of_page shard (pages_of shape)) c.args.pages.now c.args.out.now.items

pub push_shard-requires : goal.push_shard-requires
push_shard-requires g c =
    let same = sym c.loop-shard.invariant.later.same in
    let below = c.loop-shard-test.true in
    let shards = c.shards-shard-end.ensures.shards ∙ ap (λ (s : Numbers). s.shards) c.shape.ensures in
    record {
      shape = subst IsShape same c.requires.shape;
      within = subst (λ (n : Numbers). c.loop-shard.shard < n.shards) same
          (subst (λ (n : ℕ). c.loop-shard.shard < n) shards below);
    }

pub returns-in_err-push_shard-clause-later : goal.returns-in_err-push_shard-clause-later
returns-in_err-push_shard-clause-later g c =
    later_next g.P.Pages.fixed g.P.Pages.numbers g.P.Pages.leads g.P.Pages.says c.args.pages.now c.loop-shard.pages
    c.push_shard.new.pages c.loop-shard.invariant.later c.push_shard.ensures.later

pub loop-shard-preserved : goal.loop-shard-preserved
loop-shard-preserved g c =
    let shape = g.P.Pages.numbers c.args.pages.now in
    let same = c.loop-shard.invariant.later.same in
    let n = c.loop-shard.shard in
    told_more g.P.Pages.fixed g.P.Pages.numbers g.P.Pages.leads g.P.Pages.says g.P.Pages.layout
    (λ of_page shard. shard_text shape of_page shard)
    (λ says of_page shard. ShardSaid says shape of_page shard (pages_of shape))
    c.args.pages.now c.args.out.now.items c.loop-shard.pages c.push_shard.new.pages c.loop-shard.out.items
    c.push_shard.new.out.items n
    (λ P Q widens of_page i said page below. widens (page_number shape i page) (of_page (page_number shape i page))
    (said page below))
    c.loop-shard.invariant c.push_shard.ensures.later c.in_ok-push_shard.ensures.reached
    (λ es leads. subst (λ (s : Numbers). c.push_shard.new.out.items ≡ c.loop-shard.out.items
    ++ shard_text s (accounts_after (plan_of g.P.Pages.layout s) es) n) same
    (c.in_ok-push_shard.ensures.ok es leads))
    (λ es leads. subst (λ (s : Numbers). ShardSaid (g.P.Pages.says c.push_shard.new.pages) s
    (accounts_after (plan_of g.P.Pages.layout s) es) n (pages_of s)) same
    (c.in_ok-push_shard.ensures.says es leads))

pub returns-clause-later : goal.returns-clause-later
returns-clause-later g c = c.loop-shard.invariant.later

pub returns-clause-reached : goal.returns-clause-reached
returns-clause-reached g c =
    let e = ends (g.P.Pages.numbers c.args.pages.now) c.shape.result c.loop-shard.shard c.shards-shard-end.result
    c.loop-shard.auto.shard-end c.loop-shard-test.false c.shards-shard-end.ensures.shards c.shape.ensures in
    let some = c.requires.shape.some_shard in
    c.loop-shard.invariant.reached (subst (λ (n : ℕ). 0 < n) (sym e) (omega (arith, some)))

pub returns-clause-ok : goal.returns-clause-ok
returns-clause-ok g c = λ es leads.
    let shape = g.P.Pages.numbers c.args.pages.now in
    let e = ends shape c.shape.result c.loop-shard.shard c.shards-shard-end.result
    c.loop-shard.auto.shard-end c.loop-shard-test.false c.shards-shard-end.ensures.shards c.shape.ensures in
    subst (λ (n : ℕ). c.loop-shard.out.items ≡ c.args.out.now.items ++ flat_map
    (shard_text shape (accounts_after (plan_of g.P.Pages.layout shape) es)) (range_with_len 0 n)) e
    (c.loop-shard.invariant.texts es leads)

pub returns-clause-says : goal.returns-clause-says
returns-clause-says g c = λ es leads shard below.
    let e = ends (g.P.Pages.numbers c.args.pages.now) c.shape.result c.loop-shard.shard c.shards-shard-end.result
    c.loop-shard.auto.shard-end c.loop-shard-test.false c.shards-shard-end.ensures.shards c.shape.ensures in
    c.loop-shard.invariant.said es leads shard (subst (λ (n : ℕ). shard < n) (sym e) below)
