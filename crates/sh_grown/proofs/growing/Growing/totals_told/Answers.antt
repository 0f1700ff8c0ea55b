use Rattle.std.proofs.Common.{◌≡◌, ℕ, arith, inl, inr, length, refl, subst, sym, ◌∙◌}
use Rattle.sh_grown.specs.Receipts.{AreReceiptsIn}
use Rattle.sh_grown.specs.Sums.{SumsBelow}
use Rattle.sh_grown.specs.Wholes.{FindsTold}
use Rattle.sh_grown.proofs.Sums.{at_most_more, at_most_stays, chunk_more}
use Rattle.sh_grown.proofs.growing.Growing.totals_told.Goals as goal

pub chunk_told-requires : goal.chunk_told-requires
chunk_told-requires c =
    subst (λ g. AreReceiptsIn c.args.self.now g) (sym c.loop-number.invariant.same) c.requires

pub loop-number-preserved-in_default : goal.loop-number-preserved-in_default
loop-number-preserved-in_default c =
    let i = c.loop-number.invariant in
    let number = c.loop-number.number in
    let sums = c.loop-number.sums in
    let given = c.args.receipt.now.chunks.items in
    let finds = subst (λ g. FindsTold c.args.self.now g c.loop-number.number c.chunk_told.result) i.same
    c.chunk_told.ensures.finds in
    record {
      end = i.end;
      same = c.chunk_told.ensures.same ∙ i.same;
      few = at_most_stays number sums i.few;
      below = chunk_more c.args.self.now given number sums sums i.below (inl (refl, rw c.in_default.is at finds));
    }

pub loop-number-preserved : goal.loop-number-preserved
loop-number-preserved c =
    let i = c.loop-number.invariant in
    let number = c.loop-number.number in
    let sums = c.loop-number.sums in
    let given = c.args.receipt.now.chunks.items in
    let finds = subst (λ g. FindsTold c.args.self.now g c.loop-number.number c.chunk_told.result) i.same
    c.chunk_told.ensures.finds in
    let more = c.with-sums.result in
    record {
      end = i.end;
      same = c.chunk_told.ensures.same ∙ i.same;
      few = at_most_more number sums more c.with-sums.ensures.few i.few;
      below = chunk_more c.args.self.now given number sums more i.below (inr (record {
        chunk = c.in-Some.chunk;
        is = rw c.in-Some.is at finds;
        told = c.in_ok-told.told;
        are = c.in_ok-told.ensures;
        sum = c.with-sums.ensures.sum;
      }));
    }

pub returns-clause-sums : goal.returns-clause-sums
returns-clause-sums c =
    let i = c.loop-number.invariant in
    let end = i.end in
    let past = c.loop-number-test.false in
    let all : c.loop-number.number ≡ length c.args.self.now.cells.items = omega (arith, end, past) in
    subst (λ (k : ℕ). SumsBelow c.args.self.now c.args.receipt.now.chunks.items k c.loop-number.sums) all i.below
