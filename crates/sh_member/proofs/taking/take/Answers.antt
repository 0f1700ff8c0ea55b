use Rattle.sh_member.proofs.Ending.{take_does, comes_late}
use Rattle.sh_member.proofs.taking.take.Goals as goal

pub returns-in-Ok-removed-clause-does : goal.returns-in-Ok-removed-clause-does
returns-in-Ok-removed-clause-does g c =
    take_does g.R.Reader.layout c.args.key c.in_ok-hold.hold c.in-Ok.value (g.R.Reader.caller c.args.reader.now)
    (g.R.Reader.caller c.get.new.self) (g.R.Reader.caller c.remove-removed.new.self)
    (g.R.Reader.caller c.read.new.self) (g.R.Reader.caller c.release.new.self) c.in_ok-hold.ensures.does
    c.in-Ok-removed.ensures.does c.in-Ok.ensures.does c.in-Ok-release.ensures.does

pub returns-in-Err-clause-does : goal.returns-in-Err-clause-does
returns-in-Err-clause-does g c =
    comes_late g.R.Reader.layout c.args.key c.in_ok-hold.hold c.in-Ok.value c.in-Err.why
    (g.R.Reader.caller c.args.reader.now) (g.R.Reader.caller c.get.new.self)
    (g.R.Reader.caller c.remove-removed.new.self) (g.R.Reader.caller c.read.new.self)
    (g.R.Reader.caller c.release.new.self) c.in_ok-hold.ensures.does c.in-Err.ensures.does c.in-Ok.ensures.does
    c.in-Ok-release.ensures.does
