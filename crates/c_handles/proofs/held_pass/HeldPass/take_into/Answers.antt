use Rattle.c_handles.proofs.held_pass.HeldPass.take_into.Goals as goal

pub returns-in-Wide : goal.returns-in-Wide
returns-in-Wide c = rw c.in-Wide.is search

pub returns-in-Tagged : goal.returns-in-Tagged
returns-in-Tagged c = rw c.in-Tagged.is search

pub returns-in-Deep : goal.returns-in-Deep
returns-in-Deep c = rw c.in-Deep.is search

pub returns-in-Tiny : goal.returns-in-Tiny
returns-in-Tiny c = rw c.in-Tiny.is search

pub returns-in-Growing : goal.returns-in-Growing
returns-in-Growing c = rw c.in-Growing.is search
