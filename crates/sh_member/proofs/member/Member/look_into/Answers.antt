use Rattle.std.proofs.Common.{List, ℕ}
use Rattle.std.specs.Prelude.{Result}
use Rattle.sh_value.specs.declared.refusal.Refusal.{Refusal}
use Rattle.sh_pass.specs.Fetching.{FetchDoes}
use Rattle.sh_pass.specs.Remaining.{Remains}
use Rattle.sh_shard.specs.Shards.{StaysOwner}
use Rattle.sh_pass.proofs.Fetched.{fills_as}
use Rattle.sh_member.proofs.member.Member.look_into.Goals as goal
use Rattle.sh_member.proofs.member.Member.look_into.Goals.{in-Pass, in-Shard}

pub returns : goal.returns
returns g c =
    let layout = g.L.KeyLayout.layout in
    elim c.match-self.branch [
      | in-Pass w ↦
          let v = w.in-Pass.pass in
          let n = w.look_into.new.self in
          let does : Result (List ℕ) Refusal → Type 0 = λ r. FetchDoes layout c.args.key v r n in
          rw (w.room-is, w.result-is, w.self-inside-is, ← c.self.view_is, w.in-Pass.is)
          (fills_as g.M.Room.takes does (λ r. does r × Remains layout v n) c.args.room.now w.look_into.new.room
          w.look_into.result (λ r did. (did, w.look_into.ensures.remains)) w.look_into.ensures.does)
      | in-Shard w ↦
          let o = w.in-Shard.shard in
          let n = w.look_into-in-Shard.new.self in
          let does : Result (List ℕ) Refusal → Type 0 = λ r. FetchDoes layout c.args.key o.pages.owner r n.pages.owner in
          rw (w.room-is, w.result-is, w.self-inside-is, ← c.self.view_is, w.in-Shard.is)
          (fills_as g.M.Room.takes does (λ r. does r × StaysOwner layout o n) c.args.room.now
          w.look_into-in-Shard.new.room w.look_into-in-Shard.result
          (λ r did. (did, w.look_into-in-Shard.ensures.stays)) w.look_into-in-Shard.ensures.does)
    ]
