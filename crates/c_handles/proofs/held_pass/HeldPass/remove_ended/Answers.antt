use Rattle.std.proofs.Common.{refl}
use Rattle.c_handles.proofs.Ends.{side_tells}
use Rattle.c_handles.proofs.held_pass.HeldPass.remove_ended.Goals as goal

pub returns-in-Wide : goal.returns-in-Wide
returns-in-Wide g c = rw c.in-Wide.is (record {
  does_it = record { layout = refl; pool_slot = refl; does_it = side_tells _ _ _ _ _ c.remove_ended.ensures };
})

pub returns-in-Tagged : goal.returns-in-Tagged
returns-in-Tagged g c = rw c.in-Tagged.is (record {
  does_it = record { layout = refl; pool_slot = refl; does_it = side_tells _ _ _ _ _ c.remove_ended-in-Tagged.ensures };
})

pub returns-in-Deep : goal.returns-in-Deep
returns-in-Deep g c = rw c.in-Deep.is (record {
  does_it = record { layout = refl; pool_slot = refl; does_it = side_tells _ _ _ _ _ c.remove_ended-in-Deep.ensures };
})

pub returns-in-Tiny : goal.returns-in-Tiny
returns-in-Tiny g c = rw c.in-Tiny.is (record {
  does_it = record { layout = refl; pool_slot = refl; does_it = side_tells _ _ _ _ _ c.remove_ended-in-Tiny.ensures };
})

pub returns-in-Growing : goal.returns-in-Growing
returns-in-Growing g c =
    let e = c.remove_ended-in-Growing.ensures in rw c.in-Growing.is (record { does_it = (e.does, e.stays) })
