use Rattle.std.proofs.Common.{◌≡◌, ◌∙◌, Some, sym}
use Rattle.sh_member.specs.Removing.{SaysOf}
use Rattle.sh_member.proofs.JudgedKeys.{removed_same}
use Rattle.sh_member.proofs.member.walking.remove_if_by_owner.Goals as goal

pub returns-clause-stays : goal.returns-clause-stays
returns-clause-stays g c =
    let o = c.args.owner.now in
    let n = c.remove_if-count.new.self in
    let did = c.remove_if-count.ensures in
    record {
      holds = c.shape-known-2.ensures.holds;
      shard =
          let both : Some n.pages.shard ≡ Some o.pages.shard = sym c.shape-known-2.ensures.holds.owned
          ∙ (did.remains.shard ∙ c.shape-known.ensures.holds.owned) in
          let same : n.pages.shard ≡ o.pages.shard = cc in
          same;
      same = removed_same g.L.KeyLayout.layout (SaysOf g.F.Fn c.args.predicate) o.pages.owner n.pages.owner
          c.remove_if-count.result did.does;
      remains = did.remains;
    }
