use Rattle.std.proofs.Common.{subst}
use Rattle.sh_shard.specs.Pages.{Paged, CursorStops}
use Rattle.sh_shard.proofs.Working.{collects, collects_after_taking, works_none}
use Rattle.sh_shard.proofs.Bounding.{slots_none}
use Rattle.sh_shard.proofs.pages.PagesOn.collect.Goals as goal
use Rattle.sh_shard.proofs.pages.PagesOn.collect.Goals.{then-not-has_cursor, else-not-has_cursor}

pub returns : goal.returns
returns g c = elim c.if-not-has_cursor.branch [
  | then-not-has_cursor w ↦ collects_after_taking c.args.page c.args.self.now w.take.new.self c.follow_all.new.self
      w.take.ensures (subst (λ (z : Paged). CursorStops c.args.page z c.follow_all.new.self) w.self-is
      c.follow_all.ensures)
  | else-not-has_cursor w ↦ collects c.args.page c.args.self.now c.args.self.now c.follow_all.new.self
      (works_none c.args.page c.args.self.now) (slots_none 1 c.args.page c.args.self.now)
      (subst (λ (z : Paged). CursorStops c.args.page z c.follow_all.new.self)
      w.self-is c.follow_all.ensures)
]
