use Rattle.sh_member.proofs.member.Member.remove_if.Goals as goal
use Rattle.sh_member.proofs.member.Member.remove_if.Goals.{in-Pass, in-Shard}

pub returns : goal.returns
returns g c = elim c.match-self.branch [
  | in-Pass w ↦ rw (w.result-is, w.self-inside-is, ← c.self.view_is, w.in-Pass.is)
      (w.remove_if.ensures.does, w.remove_if.ensures.remains)
  | in-Shard w ↦ rw (w.result-is, w.self-inside-is, ← c.self.view_is, w.in-Shard.is)
      (w.remove_if_by_owner.ensures.does, w.remove_if_by_owner.ensures.stays)
]
