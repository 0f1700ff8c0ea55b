use Rattle.std.proofs.Common.{◌≡◌, ℕ, ◌+◌, ◌-◌, ◌%◌, ◌^◌, ◌<◌, Option, ◌∙◌, sym, subst}
use Rattle.std.specs.Prelude.{nat_lt, IfSome}
use Rattle.sh_shape.specs.Shape.{Numbers}
use Rattle.sh_step.specs.Plans.{plan_of}
use Rattle.sh_step.specs.Rows.{owned_by}
use Rattle.sh_pass.proofs.ShardPages.{is_owned}
use Rattle.sh_pass.proofs.ending.is_of_shard.Goals as goal

pub returns-in-Some : goal.returns-in-Some
returns-in-Some g c =
    let layout = g.L.KeyLayout.layout in
    let shape : Numbers = c.args.table.now.shape in
    let below : c.in-Some.shard < shape.shards = subst (λ (o : Option ℕ). IfSome o (λ n. n < shape.shards)) c.in-Some.is
    c.requires in
    let P : Numbers → Type 0 = λ z. nat_lt ((c.args.page + (2 ^ 64 - c.from-first.result)) % 2 ^ 64) c.from-pages.result
    ≡ owned_by (plan_of layout z) c.args.owned c.args.page in
    subst P c.shape-shape.ensures (is_owned layout c.shape-shape.result.now c.args.owned c.in-Some.shard c.args.page
    c.from-first.result c.from-pages.result c.pages.ensures.shape c.in-Some.is
    (subst (λ (z : Numbers). c.in-Some.shard < z.shards) (sym c.shape-shape.ensures) below) c.ranges.page.fits
    (c.from-pages.ensures ∙ c.pages.ensures.pages) (c.from-first.ensures ∙ c.page_number.ensures.is))
