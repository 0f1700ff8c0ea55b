use Rattle.std.proofs.Common.{◌<◌, ◌≤◌, length, subst, arith, inr, List, ℕ}
use Rattle.sh_pass.proofs.Fetched.{fetch_does}
use Rattle.sh_member.proofs.TakingInto.{take_ends}
use Rattle.sh_member.proofs.taking_into.take_into.Goals as goal

pub returns-then-words-most-clause-does : goal.returns-then-words-most-clause-does
returns-then-words-most-clause-does g c =
    let long = subst (λ (ws : List ℕ). c.args.most < length ws) c.words.ensures.words c.if-words-most.true in
    inr (
      long,
      fetch_does g.R.Reader.layout c.args.key c.in_ok-hold.hold c.read_into.new.value
          (g.R.Reader.caller c.args.reader.now) (g.R.Reader.caller c.get.new.self)
          (g.R.Reader.caller c.read_into.new.self) (g.R.Reader.caller c.release.new.self) c.in_ok-hold.ensures.does
          c.in-Ok.ensures.does c.in-Ok-release.ensures.does,
    )

pub returns-clause-does : goal.returns-clause-does
returns-clause-does g c =
    let short = c.if-words-most.false in
    let few : length c.words.result.now ≤ c.args.most = omega arith in
    take_ends g.R.Reader.layout c.args.key c.args.most c.in_ok-hold.hold c.read_into.new.value
    c.remove-removed.result (g.R.Reader.caller c.args.reader.now) (g.R.Reader.caller c.get.new.self)
    (g.R.Reader.caller c.read_into.new.self) (g.R.Reader.caller c.remove-removed.new.self)
    (g.R.Reader.caller c.release-2.new.self)
    (subst (λ (ws : List ℕ). length ws ≤ c.args.most) c.words.ensures.words few) c.in_ok-hold.ensures.does
    c.in-Ok.ensures.does c.remove-removed.ensures.does c.in-Ok-release-2.ensures.does
