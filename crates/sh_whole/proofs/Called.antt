-- One pass more of those that were called.
use Rattle.std.proofs.Common.{◌≡◌, List, [], ◌∷◌, ◌++◌}
use Rattle.sh_table.specs.Seats.{Heap}
use Rattle.sh_pass.specs.Passes.{AreOf, Caller}

pub are_of_more : (heap : Heap) (ps : List Caller) (p : Caller) → AreOf heap ps → p.heap ≡ heap
    → AreOf heap (ps ++ p ∷ [])
are_of_more heap [] p all is = (is, tt)
are_of_more heap (q ∷ ps) p all is = (all.0, are_of_more heap ps p all.1 is)
