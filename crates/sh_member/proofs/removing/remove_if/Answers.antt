use Rattle.std.proofs.Common.{◌≡◌, ◌++◌, ◌∷◌, [], ap, arith, inl, sym}
use Rattle.sh_step.specs.Collections.{if1}
use Rattle.sh_pass.specs.Passes.{RemoveDoes}
use Rattle.sh_member.specs.Removing.{SaysOf, is_removed, walk_end}
use Rattle.sh_member.specs.Walks.{NextLiveDoes, with_value}
use Rattle.sh_member.specs.declared.walking.NextLive.{NextLive}
use Rattle.sh_member.proofs.Ending.{remains_after}
use Rattle.sh_member.proofs.JudgedKeys.{judged_more, one_more_counted}
use Rattle.sh_member.proofs.removing.remove_if.Goals as goal

pub loop-next-preserved-then-remove_one : goal.loop-next-preserved-then-remove_one
loop-next-preserved-then-remove_one g c =
    let layout = g.R.Reader.layout in
    let i = c.loop-next.invariant in
    let v = g.R.Reader.caller c.args.reader.now in
    let a = g.R.Reader.caller c.loop-next.reader in
    let b = g.R.Reader.caller c.next_live_into.new.reader in
    let w = g.R.Reader.caller c.remove_one.new.reader in
    let met : NextLive = with_value c.in-Some.next c.next_live_into.new.value in
    let m = c.in-Some.ensures.does in
    let did = c.if-remove_one.ensures.does in
    let few = i.few in
    let behind = m.behind_is in
    let low = m.from_there in
    let inside = m.inside in
    let counted = one_more_counted i.judged (record { met = met; removal = did.0 }) in
    let one : if1 (is_removed did.0) ≡ 1 = ap if1 (sym did.1) in
    let count = i.count_is in
    record {
      callable = i.callable;
      few = omega (arith, few, behind, low);
      inside = omega (arith, behind, inside);
      judged = i.judged ++ record { met = met; removal = did.0 } ∷ [];
      each = judged_more (SaysOf g.F.Fn c.args.predicate) (λ from. NextLiveDoes layout from walk_end)
          (RemoveDoes layout) 0 c.loop-next.place i.judged met did.0 v a b w i.each m did.2;
      count_is = omega (arith, counted, one, count);
      remains = inl (remains_after layout v a b w i.remains c.in-Some.ensures.remains c.if-remove_one.ensures.remains);
    }

pub loop-next-preserved : goal.loop-next-preserved
loop-next-preserved g c =
    let layout = g.R.Reader.layout in
    let i = c.loop-next.invariant in
    let v = g.R.Reader.caller c.args.reader.now in
    let a = g.R.Reader.caller c.loop-next.reader in
    let b = g.R.Reader.caller c.next_live_into.new.reader in
    let w = g.R.Reader.caller c.remove_one.new.reader in
    let met : NextLive = with_value c.in-Some.next c.next_live_into.new.value in
    let m = c.in-Some.ensures.does in
    let did = c.if-remove_one.ensures.does in
    let few = i.few in
    let behind = m.behind_is in
    let low = m.from_there in
    let inside = m.inside in
    let counted = one_more_counted i.judged (record { met = met; removal = did.0 }) in
    let one : if1 (is_removed did.0) ≡ 0 = ap if1 (sym did.1) in
    let count = i.count_is in
    record {
      callable = i.callable;
      few = omega (arith, few, behind, low);
      inside = omega (arith, behind, inside);
      judged = i.judged ++ record { met = met; removal = did.0 } ∷ [];
      each = judged_more (SaysOf g.F.Fn c.args.predicate) (λ from. NextLiveDoes layout from walk_end)
          (RemoveDoes layout) 0 c.loop-next.place i.judged met did.0 v a b w i.each m did.2;
      count_is = omega (arith, counted, one, count);
      remains = inl (remains_after layout v a b w i.remains c.in-Some.ensures.remains c.if-remove_one.ensures.remains);
    }
