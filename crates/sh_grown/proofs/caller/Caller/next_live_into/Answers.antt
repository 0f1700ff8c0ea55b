use Rattle.std.proofs.Common.{◌+◌, ◌≤◌, None, Some, Ok, Option, arith, inl, inr, refl, subst, ◌∙◌}
use Rattle.sh_chunk.specs.Chunks.{chunk_of}
use Rattle.sh_pass.specs.declared.next_key.NextKey.{NextKey}
use Rattle.sh_member.specs.Walks.{PutsLive, with_value}
use Rattle.sh_member.specs.declared.walking.NextLive.{NextLive}
use Rattle.sh_grown.specs.Walks.{LiveIn, LooksIn}
use Rattle.sh_grown.proofs.ChunkWalks.{ends_there, looks_as, passes_all, passes_more, passes_none}
use Rattle.sh_grown.proofs.Keeping.{stays_then}
use Rattle.sh_grown.proofs.caller.Caller.next_live_into.Goals as goal

pub loop-chunk-init : goal.loop-chunk-init
loop-chunk-init c =
    let was = c.args.self.now in
    let is = c.chunk_of-chunk.ensures.is in
    record {
      low = omega (arith, is);
      end = c.chunks_up_to-chunk-end.ensures.count;
      few = c.chunks_up_to-chunk-end.ensures.few;
      reached = inr is;
      room = refl;
      stays = record { growing = refl; number = refl };
      passed = passes_none (LiveIn c.args.from c.args.before) was.growing was.number (chunk_of c.args.from)
          c.chunk_of-chunk.result was.met.items is;
    }

pub loop-chunk-preserved : goal.loop-chunk-preserved
loop-chunk-preserved c =
    let i = c.loop-chunk.invariant in
    let k = c.loop-chunk.chunk in
    let low = i.low in
    let less = c.loop-chunk-test.true in
    let old = c.args.self.now in
    let mid = c.loop-chunk.self in
    let new = c.next_live_in.new.self in
    let value = c.next_live_in.new.value in
    let found : Option NextLive → Type 0 = λ o. LooksIn (LiveIn c.args.from c.args.before) mid.growing mid.number k
    mid.met.items (Ok o) new.met.items in
    let none = subst (λ (o : Option NextKey). PutsLive found c.loop-chunk.value o value) c.in_default.is
    c.in_ok-next.ensures.looks in
    record {
      low = omega (arith, low);
      end = i.end;
      few = i.few;
      reached = inl (let reached : k + 1 ≤ c.chunks_up_to-chunk-end.result = omega (arith, less) in reached);
      room = none.1 ∙ i.room;
      stays = stays_then old mid new i.stays c.next_live_in.ensures.stays;
      passed = passes_more (LiveIn c.args.from c.args.before) old.growing old.number (chunk_of c.args.from) k
          old.met.items mid.met.items new.met.items low i.passed
          (looks_as (LiveIn c.args.from c.args.before) old mid k mid.met.items new.met.items (Ok None) i.stays
          none.0);
    }

pub returns-clause-does : goal.returns-clause-does
returns-clause-does c =
    let i = c.loop-chunk.invariant in
    let old = c.args.self.now in (
      passes_all (LiveIn c.args.from c.args.before) old.growing old.number (chunk_of c.args.from) c.loop-chunk.chunk
          c.chunks_up_to-chunk-end.result _ old.met.items c.loop-chunk.self.met.items i.end i.reached
          c.loop-chunk-test.false i.passed,
      i.room,
    )

pub returns-in-Some-clause-does : goal.returns-in-Some-clause-does
returns-in-Some-clause-does c =
    let i = c.loop-chunk.invariant in
    let b = c.loop-chunk.self in
    let k = c.loop-chunk.chunk in
    let new = c.next_live_in.new.self.met.items in
    let value = c.next_live_in.new.value in
    let found : Option NextLive → Type 0 = λ o. LooksIn (LiveIn c.args.from c.args.before) b.growing b.number k
    b.met.items (Ok o) new in
    ends_there (LiveIn c.args.from c.args.before) c.args.self.now b (chunk_of c.args.from) k
    c.chunks_up_to-chunk-end.result _ new (Ok (Some (with_value c.in-Some.next value))) i.end i.low
    c.loop-chunk-test.true i.stays i.passed
    (subst (λ (o : Option NextKey). PutsLive found c.loop-chunk.value o value) c.in-Some.is c.in_ok-next.ensures.looks)
