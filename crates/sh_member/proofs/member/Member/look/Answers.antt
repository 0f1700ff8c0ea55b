use Rattle.sh_member.proofs.member.Member.look.Goals as goal
use Rattle.sh_member.proofs.member.Member.look.Goals.{in-Pass, in-Shard}

pub returns : goal.returns
returns g c = elim c.match-self.branch [
  | in-Pass w ↦ rw (w.result-is, w.self-inside-is, ← c.self.view_is, w.in-Pass.is) (w.look.ensures.does, w.look.ensures.remains)
  | in-Shard w ↦ rw (w.result-is, w.self-inside-is, ← c.self.view_is, w.in-Shard.is)
      (w.look-in-Shard.ensures.does, w.look-in-Shard.ensures.stays)
]
