use Rattle.sh_member.proofs.member.Member.remove_ended.Goals as goal
use Rattle.sh_member.proofs.member.Member.remove_ended.Goals.{in-Pass, in-Shard}

pub returns : goal.returns
returns g c = elim c.match-self.branch [
  | in-Pass w ↦
      let e = w.remove_ended.ensures in
      rw (w.room-is, w.result-is, w.self-inside-is, ← c.self.view_is, w.in-Pass.is) ((e.does, e.tells), e.remains)
  | in-Shard w ↦
      let e = w.remove_ended-in-Shard.ensures in
      rw (w.room-is, w.result-is, w.self-inside-is, ← c.self.view_is, w.in-Shard.is) ((e.does, e.tells), e.stays)
]
