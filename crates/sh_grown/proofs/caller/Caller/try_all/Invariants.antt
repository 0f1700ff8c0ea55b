use Rattle.std.proofs.Common.{◌≡◌, true, length}
use Rattle.std.specs.Prelude.{ltb}
use Rattle.sh_grown.specs.Callers.{Stays}
use Rattle.sh_grown.specs.Inserts.{AllRefused}
use Rattle.sh_grown.specs.Keeping.{KeepsMembers}
use Rattle.sh_grown.specs.Refusals.{OwnedFull}
use Rattle.sh_grown.specs.Steps.{Takes, steps_of}
use Rattle.sh_grown.proofs.caller.Caller.try_all.Given as goal

abbrev pub invariant-loop-number : goal.invariant-loop-number
invariant-loop-number l = record {
  stays : Stays l.initial.self l.self;
  keeps : KeepsMembers l.initial.self.met.items l.self.met.items;
  own : l.owned ≡ true → OwnedFull l.value l.initial.self.met.items l.self.met.items;
  each : AllRefused l.owned l.number l.value l.initial.self.met.items l.self.met.items;
  steps : Takes (λ k. ltb k l.number) (λ s. steps_of s s s (length l.value)) l.initial.self l.self;
}
