use Rattle.std.proofs.Common.{◌≡◌, ◌+◌, ◌++◌, ◌∷◌, [], Option, Some, Ok, ap, arith, subst, sym}
use Rattle.std.proofs.lemmas.Result.{err_from_is_err_and}
use Rattle.sh_chunk.specs.Chunks.{chunk_of}
use Rattle.sh_step.specs.Collections.{if1}
use Rattle.sh_pass.specs.declared.next_key.NextKey.{NextKey}
use Rattle.sh_member.specs.Removing.{SaysOf, is_removed, walk_end}
use Rattle.sh_member.specs.Walks.{PutsLive, with_value}
use Rattle.sh_member.specs.declared.walking.NextLive.{NextLive}
use Rattle.sh_member.proofs.JudgedKeys.{judged_more, one_more_counted}
use Rattle.sh_grown.specs.Removing.{CallerMeets, CallerRemoves}
use Rattle.sh_grown.specs.Walks.{LiveIn, Walks, chunks_up_to}
use Rattle.sh_grown.proofs.JudgedChunks.{meets_ahead}
use Rattle.sh_grown.proofs.Keeping.{stays_then}
use Rattle.sh_grown.proofs.caller.Caller.remove_if.Goals as goal

pub loop-predicate-preserved-then-remove_one : goal.loop-predicate-preserved-then-remove_one
loop-predicate-preserved-then-remove_one g c =
    let i = c.loop-predicate.invariant in
    let old = c.args.self.now in
    let a = c.loop-predicate.self in
    let b = c.next_live_into.new.self in
    let d = c.remove_one.new.self in
    let place = c.loop-predicate.place in
    let met : NextLive = with_value c.in-Some.next c.next_live_into.new.value in
    let walk : CallerMeets place a (Some met) b = (
      subst (λ (o : Option NextKey). PutsLive (λ m. Walks (LiveIn place walk_end) a.growing a.number (chunk_of place)
          (chunks_up_to a.growing walk_end) a.met.items (Ok m) b.met.items) c.loop-predicate.value o
          c.next_live_into.new.value) c.in-Some.is c.in_ok-next.ensures.does,
      c.in_ok-next.ensures.stays,
    ) in
    let ahead = meets_ahead place met a b walk in
    let further = ahead.0 in
    let inside = ahead.1 in
    let did = c.if-remove_one.ensures.does in
    let few = i.few in
    let counted = one_more_counted i.judged (record { met = met; removal = did.0 }) in
    let one : if1 (is_removed did.0) ≡ 1 = ap if1 (sym did.1) in
    let count = i.count_is in
    record {
      callable = i.callable;
      few = omega (arith, few, further);
      inside = inside;
      judged = i.judged ++ record { met = met; removal = did.0 } ∷ [];
      each = judged_more (SaysOf g.F.Fn c.args.predicate) CallerMeets CallerRemoves 0 place i.judged met did.0 old a b d
          i.each walk did.2;
      count_is = omega (arith, counted, one, count);
      stays = stays_then old b d (stays_then old a b i.stays c.in_ok-next.ensures.stays)
          c.if-remove_one.ensures.stays;
    }

pub loop-predicate-preserved : goal.loop-predicate-preserved
loop-predicate-preserved g c =
    let i = c.loop-predicate.invariant in
    let old = c.args.self.now in
    let a = c.loop-predicate.self in
    let b = c.next_live_into.new.self in
    let d = c.remove_one.new.self in
    let place = c.loop-predicate.place in
    let met : NextLive = with_value c.in-Some.next c.next_live_into.new.value in
    let walk : CallerMeets place a (Some met) b = (
      subst (λ (o : Option NextKey). PutsLive (λ m. Walks (LiveIn place walk_end) a.growing a.number (chunk_of place)
          (chunks_up_to a.growing walk_end) a.met.items (Ok m) b.met.items) c.loop-predicate.value o
          c.next_live_into.new.value) c.in-Some.is c.in_ok-next.ensures.does,
      c.in_ok-next.ensures.stays,
    ) in
    let ahead = meets_ahead place met a b walk in
    let further = ahead.0 in
    let inside = ahead.1 in
    let did = c.if-remove_one.ensures.does in
    let few = i.few in
    let counted = one_more_counted i.judged (record { met = met; removal = did.0 }) in
    let one : if1 (is_removed did.0) ≡ 0 = ap if1 (sym did.1) in
    let count = i.count_is in
    record {
      callable = i.callable;
      few = omega (arith, few, further);
      inside = inside;
      judged = i.judged ++ record { met = met; removal = did.0 } ∷ [];
      each = judged_more (SaysOf g.F.Fn c.args.predicate) CallerMeets CallerRemoves 0 place i.judged met did.0 old a b d
          i.each walk did.2;
      count_is = omega (arith, counted, one, count);
      stays = stays_then old b d (stays_then old a b i.stays c.in_ok-next.ensures.stays)
          c.if-remove_one.ensures.stays;
    }

pub returns-clause-does : goal.returns-clause-does
returns-clause-does g c =
    let i = c.loop-predicate.invariant in
    let a = c.loop-predicate.self in
    let b = c.next_live_into.new.self in
    let place = c.loop-predicate.place in
    let none = subst (λ (o : Option NextKey). PutsLive (λ m. Walks (LiveIn place walk_end) a.growing a.number
    (chunk_of place) (chunks_up_to a.growing walk_end) a.met.items (Ok m) b.met.items) c.loop-predicate.value o
    c.next_live_into.new.value) c.in_default.is c.in_ok-next.ensures.does in
    record {
      judged = i.judged;
      next = place;
      last = a;
      each = i.each;
      ends = (none.0, c.in_ok-next.ensures.stays);
      count_is = i.count_is;
    }

pub returns-in_err-next-clause-does : goal.returns-in_err-next-clause-does
returns-in_err-next-clause-does g c =
    let i = c.loop-predicate.invariant in
    let p = err_from_is_err_and c.from_residual.result c.from_residual.ensures.1 in
    rw (p.1, p.2) (
      i.judged,
      c.loop-predicate.place,
      c.loop-predicate.self,
      i.each,
      (c.in_err-next.ensures.does.0, c.in_err-next.ensures.stays),
    )
