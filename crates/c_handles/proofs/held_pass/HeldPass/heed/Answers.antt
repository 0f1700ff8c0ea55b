use Rattle.std.proofs.Common.{refl, subst}
use Rattle.c_handles.specs.HeldPasses.{IsOfHeldHeap}
use Rattle.c_handles.proofs.held_pass.HeldPass.heed.Goals as goal

pub heed_fixed-requires : goal.heed_fixed-requires
heed_fixed-requires c = subst (λ r. IsOfHeldHeap c.args.self.now r) c.in-Fixed.is c.requires

pub heed_grown-requires : goal.heed_grown-requires
heed_grown-requires c = subst (λ r. IsOfHeldHeap c.args.self.now r) c.in-Growing.is c.requires

pub returns-in-Fixed : goal.returns-in-Fixed
returns-in-Fixed c = rw c.in-Fixed.is (refl, c.heed_fixed.ensures)

pub returns-in-Growing : goal.returns-in-Growing
returns-in-Growing c = rw c.in-Growing.is c.heed_grown.ensures
