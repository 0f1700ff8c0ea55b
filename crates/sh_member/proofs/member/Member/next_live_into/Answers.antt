use Rattle.std.proofs.Common.{Option}
use Rattle.sh_pass.specs.Remaining.{Remains}
use Rattle.sh_shard.specs.Shards.{StaysOwner}
use Rattle.sh_member.specs.Walks.{NextLiveDoes}
use Rattle.sh_member.specs.declared.walking.NextLive.{NextLive}
use Rattle.sh_member.proofs.PlaceWalks.{puts_as}
use Rattle.sh_member.proofs.member.Member.next_live_into.Goals as goal
use Rattle.sh_member.proofs.member.Member.next_live_into.Goals.{in-Pass, in-Shard}

pub returns : goal.returns
returns g c =
    let layout = g.L.KeyLayout.layout in
    elim c.match-self.branch [
      | in-Pass w ↦
          let v = w.in-Pass.pass in
          let n = w.next_live_into.new.self in
          let does : Option NextLive → Type 0 = λ m. NextLiveDoes layout c.args.from c.args.before v m n in
          rw (w.value-is, w.result-is, w.self-inside-is, ← c.self.view_is, w.in-Pass.is)
          (puts_as does (λ m. does m × Remains layout v n) c.args.value.now w.next_live_into.new.value
          w.next_live_into.result (λ m did. (did, w.next_live_into.ensures.remains)) w.next_live_into.ensures.does)
      | in-Shard w ↦
          let o = w.in-Shard.shard in
          let n = w.next_live_by_owner.new.owner in
          let does : Option NextLive → Type 0 =
          λ m. NextLiveDoes layout c.args.from c.args.before o.pages.owner m n.pages.owner in
          rw (w.value-is, w.result-is, w.self-inside-is, ← c.self.view_is, w.in-Shard.is)
          (puts_as does (λ m. does m × StaysOwner layout o n) c.args.value.now w.next_live_by_owner.new.value
          w.next_live_by_owner.result (λ m did. (did, w.next_live_by_owner.ensures.stays))
          w.next_live_by_owner.ensures.does)
    ]
