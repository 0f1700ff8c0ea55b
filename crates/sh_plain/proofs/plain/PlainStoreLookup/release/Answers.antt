use Rattle.sh_plain.specs.Plain.{release_reply}
use Rattle.sh_plain.proofs.Following.{release_may, replied_stands}
use Rattle.sh_plain.proofs.plain.PlainStoreLookup.release.Goals as goal

pub returns-clause-stands : goal.returns-clause-stands
returns-clause-stands g c = replied_stands g.L.KeyLayout.layout (release_reply c.args.self.now c.args.hold.key)
    c.args.self.now c.plain_release.new.self c.plain_release.result c.plain_release.ensures.legal
    (release_may g.L.KeyLayout.layout.guard_max c.args.self.now c.args.hold.key) c.plain_release.ensures.exact
