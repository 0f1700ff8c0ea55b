use Rattle.std.proofs.Common.{ℕ, ◌<◌, sym, subst, arith}
use Rattle.sh_pass.specs.Passes.{Caller}
use Rattle.sh_pass.specs.Owners.{Adopted, FoundFree, OwnerAdopts}
use Rattle.sh_shard.specs.Pages.{AdoptsShard, ShardLeft}
use Rattle.sh_shard.proofs.Sides.{adopts_then, left_then, free_then}
use Rattle.sh_shard.proofs.pages.PagesOn.adopt.Goals as goal

pub returns-in-Ok-clause-adopts : goal.returns-in-Ok-clause-adopts
returns-in-Ok-clause-adopts g c =
    let v = c.of-owner.result in
    let Q : ℕ → Type 0 = λ n. OwnerAdopts g.L.KeyLayout.layout c.args.shard n v c.adopt.new.self in
    let adopted : Adopted c.args.shard v c.adopt.new.self = subst Q c.if-adopt-ne0.false c.adopt.ensures.adopts in
    let below : c.args.shard < v.view.shape.shards = omega (arith, c.if-shard-shards.false, c.shards.ensures) in
    let P : Caller → Type 0 = λ x. (c.args.shard < x.view.shape.shards) × AdoptsShard x c.args.shard c.in-Ok.pages
    × FoundFree c.args.shard x c.in-Ok.pages.owner in
    let begins = c.in-Ok.ensures.begins in
    subst P c.of-owner.ensures.same
    (below, adopts_then c.adopt.ensures.tries begins, free_then adopted.found begins.same)

pub returns-in-Err-clause-adopts : goal.returns-in-Err-clause-adopts
returns-in-Err-clause-adopts g c =
    let v = c.of-owner.result in
    let Q : ℕ → Type 0 = λ n. OwnerAdopts g.L.KeyLayout.layout c.args.shard n v c.adopt.new.self in
    let adopted : Adopted c.args.shard v c.adopt.new.self = subst Q c.if-adopt-ne0.false c.adopt.ensures.adopts in
    let below : c.args.shard < v.view.shape.shards = omega (arith, c.if-shard-shards.false, c.shards.ensures) in
    let P : Caller → Caller → Type 0 = λ x y. (c.args.shard < x.view.shape.shards) × ShardLeft x y
    × FoundFree c.args.shard x y in
    let begins = c.in-Err.ensures.begins in
    subst (λ x. P x c.into_pass-in-Err.result) c.of-owner.ensures.same
    (subst (P v) (sym c.into_pass-in-Err.ensures)
    (below, left_then c.adopt.ensures.tries begins, free_then adopted.found begins.same))
