-- All new passes of a heap are of that heap.
use Rattle.std.proofs.Common.{◌≡◌, ℕ, zero, suc, List, [], Option, Some, rules}
use Rattle.std.specs.List.{All}
use Rattle.std.proofs.lemmas.List.Elements.{All-push}
use Rattle.sh_table.specs.Seats.{Heap}
use Rattle.sh_table.specs.Views.{newly}
use Rattle.sh_pass.specs.Passes.{Caller, newcomers}

pub newcomers_at_home : (home : Option Heap) (heap : Heap) (n : ℕ) → home ≡ Some heap
    → All (λ (p : Caller). home ≡ Some p.heap) (newcomers heap n)
newcomers_at_home home heap zero e = search rules
newcomers_at_home home heap (suc n) e = All-push (λ (p : Caller). home ≡ Some p.heap) (newcomers heap n)
    (record { heap = heap; view = newly heap.shape n }) (newcomers_at_home home heap n e) e
