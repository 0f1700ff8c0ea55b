use Rattle.script_workers.proofs.Boards.{binding_left}
use Rattle.script_workers.proofs.board.Binding.heeded.Goals as goal

-- its own receipt contains all that it heeded
pub invariant_of-result : goal.invariant_of-result
invariant_of-result g c =
    let room = g.B.Room in
    let seen = g.S.Side.seen in
    binding_left room.heap c.self.inside.bound c.self.inside.receipt c.receipt.result (seen c.args.side.now)
    (seen c.heed.new.self) c.requires.heap c.self.invariant c.heed.ensures c.receipt.ensures.tells
