use Rattle.std.proofs.Common.{◌≡◌, refl, ap, ◌∙◌, arith}
use Rattle.sh_shard.specs.Shards.{Sharded}
use Rattle.sh_shard.proofs.Hearing.{hears_none, hears_more, hears_stops}
use Rattle.sh_shard.proofs.Counts.{armed_less, armed_few}
use Rattle.sh_shard.proofs.Bounding.{rings_none, rings_then}
use Rattle.sh_shard.proofs.BellEmptying.{read_steps}
use Rattle.sh_shard.proofs.shard.ShardOn.read_rings.Goals as goal

pub loop-turn-init : goal.loop-turn-init
loop-turn-init g c = record {
  hears = hears_none c.args.c c.args.self.now;
  met = refl;
  armed = let f = armed_few
      c.args.self.now.pages in let e = c.count-count.ensures.count in let k : c.self.inside.pages.count
      ≡ c.args.self.now.pages.count = ap (λ (z : Sharded). z.pages.count) c.self.view_is in omega arith;
  steps = rings_none 0 c.args.self.now.pages;
}

pub loop-turn-preserved : goal.loop-turn-preserved
loop-turn-preserved g c =
    let i = c.loop-turn.invariant in
    let h = c.in-Some.ensures.heard in record {
      hears = hears_more c.args.c c.in-Some.word c.loop-turn.read c.is_heard-read.result c.args.self.now
          c.loop-turn.self c.read_bell.new.self c.requires.class i.hears c.in-Some.ensures.sorted.once h
          c.is_heard-read.ensures;
      met = h.reads.met ∙ i.met;
      armed = let a = armed_less h.page c.loop-turn.self.pages c.read_bell.new.self.pages
          h.reads in let b = i.armed in omega arith;
      steps = rings_then 0 0 0 c.args.self.now.pages c.loop-turn.self.pages c.read_bell.new.self.pages i.steps
          (read_steps h.page c.loop-turn.self.pages c.read_bell.new.self.pages
          h.reads) (omega arith);
    }

pub returns-in_default-clause-steps : goal.returns-in_default-clause-steps
returns-in_default-clause-steps g c = rings_then 0 1 1 c.args.self.now.pages c.loop-turn.self.pages
    c.read_bell.new.self.pages c.loop-turn.invariant.steps c.in_default.ensures.heard.1.steps (omega arith)

pub returns-in_default-clause-hears : goal.returns-in_default-clause-hears
returns-in_default-clause-hears g c = hears_stops c.args.c c.loop-turn.read c.args.self.now c.loop-turn.self
    c.read_bell.new.self c.loop-turn.invariant.hears c.in_default.ensures.heard.0 c.in_default.ensures.heard.1
