use Rattle.std.proofs.Common.{◌≡◌, ◌∙◌, arith, below_more, None, get_or, length, subst, sym}
use Rattle.sh_grown.specs.Inserts.{OwnsNone}
use Rattle.sh_grown.specs.Leaving.{StopsBelow}
use Rattle.sh_grown.specs.Refusals.{WaitsThere}
use Rattle.sh_grown.proofs.Keeping.{keeps_then, stays_then}
use Rattle.sh_grown.proofs.LeftChunks.{on_err}
use Rattle.sh_grown.proofs.caller.Caller.leave.Goals as goal

pub leave_in-requires : goal.leave_in-requires
leave_in-requires c =
    let end = c.loop-chunk.invariant.end in
    let count = c.loop-chunk.invariant.count in
    let less = c.loop-chunk-test.true in omega (arith, end, count, less)

pub loop-chunk-preserved : goal.loop-chunk-preserved
loop-chunk-preserved c =
    let i = c.loop-chunk.invariant in
    let k = c.loop-chunk.chunk in
    let old = c.args.self.now in
    let now = c.loop-chunk.self in
    let new = c.leave_in.new.self in
    let did = c.leave_in.ensures in
    record {
      end = i.end;
      count = did.count ∙ i.count;
      stays = stays_then old now new i.stays did.stays;
      keeps = keeps_then old.met.items now.met.items new.met.items i.keeps did.keeps;
      left = below_more (λ j. OwnsNone (get_or new.met.items j None)) k
          (λ j less. subst OwnsNone (sym (did.others j (λ e. omega (arith, less, e)))) (i.left j less))
          c.in_ok-leave_in.ensures.left;
      rest = λ j past. did.others j (λ e. omega (arith, past, e)) ∙ i.rest j (omega (arith, past));
    }

pub returns-in_err-leave_in-clause-waits : goal.returns-in_err-leave_in-clause-waits
returns-in_err-leave_in-clause-waits c =
    let i = c.loop-chunk.invariant in
    let k = c.loop-chunk.chunk in
    let end = i.end in
    let less = c.loop-chunk-test.true in
    let new = c.leave_in.new.self.met.items in
    let did = c.leave_in.ensures in
    on_err c.from_residual.result (StopsBelow (length c.args.self.now.met.items) c.args.self.now.met.items new) (record {
      chunk = k;
      less = omega (arith, end, less);
      left = λ j below. subst OwnsNone (sym (did.others j (λ e. omega (arith, below, e)))) (i.left j below);
      waits = subst (λ o. WaitsThere o (get_or new k None)) (i.rest k (omega arith))
          c.in_err-leave_in.ensures.waits;
      rest = λ j past. did.others j (λ e. omega (arith, past, e)) ∙ i.rest j (omega (arith, past));
    })

pub returns-clause-left : goal.returns-clause-left
returns-clause-left c =
    let i = c.loop-chunk.invariant in
    let end = i.end in
    let count = i.count in
    let past = c.loop-chunk-test.false in
    λ chunk less. i.left chunk (omega (arith, end, count, past, less))
