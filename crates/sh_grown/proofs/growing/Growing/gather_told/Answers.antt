use Rattle.std.proofs.Common.{◌≡◌, ◌+◌, ℕ, arith, inl, inr, length, refl, subst, sym, ◌∙◌}
use Rattle.sh_grown.specs.Receipts.{AreReceiptsIn}
use Rattle.sh_grown.specs.Wholes.{CountsBelow, FindsTold, IsGathered}
use Rattle.sh_grown.proofs.Wholes.{counts_more}
use Rattle.sh_grown.proofs.growing.Growing.gather_told.Goals as goal

pub chunk_told-requires : goal.chunk_told-requires
chunk_told-requires c =
    subst (λ g. AreReceiptsIn c.args.self.now g) (sym c.loop-number.invariant.same) c.requires

pub loop-number-preserved-in_default : goal.loop-number-preserved-in_default
loop-number-preserved-in_default c =
    let i = c.loop-number.invariant in
    let few = i.few in
    let count = c.loop-number.gathered in
    let given = c.args.receipt.now.chunks.items in
    let finds = subst (λ g. FindsTold c.args.self.now g c.loop-number.number c.chunk_told.result) i.same
    c.chunk_told.ensures.finds in
    record {
      end = i.end;
      few = omega (arith, few);
      same = c.chunk_told.ensures.same ∙ i.same;
      below = counts_more c.args.self.now given IsGathered c.loop-number.number count count i.below (inl (refl, rw c.in_default.is at finds));
    }

pub loop-number-preserved : goal.loop-number-preserved
loop-number-preserved c =
    let i = c.loop-number.invariant in
    let few = i.few in
    let count = c.loop-number.gathered in
    let given = c.args.receipt.now.chunks.items in
    let finds = subst (λ g. FindsTold c.args.self.now g c.loop-number.number c.chunk_told.result) i.same
    c.chunk_told.ensures.finds in
    record {
      end = i.end;
      few = omega (arith, few);
      same = c.chunk_told.ensures.same ∙ i.same;
      below = counts_more c.args.self.now given IsGathered c.loop-number.number count (count + 1) i.below (inr (record {
        chunk = c.in-Some.chunk;
        is = rw c.in-Some.is at finds;
        so = c.in_ok-gather.ensures;
        more = refl;
      }));
    }

pub returns-clause-gathers : goal.returns-clause-gathers
returns-clause-gathers c =
    let i = c.loop-number.invariant in
    let end = i.end in
    let past = c.loop-number-test.false in
    let all : c.loop-number.number ≡ length c.args.self.now.cells.items = omega (arith, end, past) in
    subst (λ (k : ℕ). CountsBelow c.args.self.now c.args.receipt.now.chunks.items IsGathered k c.loop-number.gathered) all i.below
