use Rattle.std.proofs.Common.{Err, subst}
use Rattle.sh_value.specs.declared.refusal.Refusal.{Refusal}
use Rattle.sh_pass.specs.Passes.{GetDoes}
use Rattle.sh_member.proofs.Ending.{remains_along}
use Rattle.sh_member.proofs.OnePlace.{get_crowded, get_gone, get_held, get_refused, held_none}
use Rattle.sh_member.proofs.walking.held_at.Goals as goal

pub returns-in_default-clause-does : goal.returns-in_default-clause-does
returns-in_default-clause-does g c = held_none g.R.Reader.layout c.args.place (g.R.Reader.caller c.args.reader.now)
    (g.R.Reader.caller c.peek_at.new.self) c.in_default.ensures.does

pub returns-in-Ok-clause-does : goal.returns-in-Ok-clause-does
returns-in-Ok-clause-does g c = get_held g.R.Reader.layout c.args.place c.in-Some.key
    (g.R.Reader.caller c.args.reader.now) (g.R.Reader.caller c.peek_at.new.self) c.in-Some.ensures.does c.in-Ok.hold
    (g.R.Reader.caller c.get.new.self) c.in-Ok.ensures.does

pub returns-in-Crowded-clause-does : goal.returns-in-Crowded-clause-does
returns-in-Crowded-clause-does g c =
    let a = g.R.Reader.caller c.peek_at.new.self in
    let w = g.R.Reader.caller c.get.new.self in
    get_crowded g.R.Reader.layout c.args.place c.in-Some.key (g.R.Reader.caller c.args.reader.now) a
    c.in-Some.ensures.does w (subst (λ (r : Refusal). GetDoes g.R.Reader.layout c.in-Some.key a (Err r) w)
    c.in-Crowded.is c.in-Err.ensures.does)

pub returns-in-Gone-clause-does : goal.returns-in-Gone-clause-does
returns-in-Gone-clause-does g c =
    let a = g.R.Reader.caller c.peek_at.new.self in
    let w = g.R.Reader.caller c.get.new.self in
    get_gone g.R.Reader.layout c.args.place c.in-Some.key (g.R.Reader.caller c.args.reader.now) a
    c.in-Some.ensures.does w (subst (λ (r : Refusal). GetDoes g.R.Reader.layout c.in-Some.key a (Err r) w)
    c.in-Gone.is c.in-Err.ensures.does)

pub returns-in_default-refusal : goal.returns-in_default-refusal
returns-in_default-refusal g c =
    let v = g.R.Reader.caller c.args.reader.now in
    let a = g.R.Reader.caller c.peek_at.new.self in
    let w = g.R.Reader.caller c.get.new.self in
    record {
      does = get_refused g.R.Reader.layout c.args.place c.in-Some.key v a c.in-Some.ensures.does c.in-Err.refusal w
          c.in-Err.ensures.does c.in_default-refusal.not-Gone c.in_default-refusal.not-Crowded;
      remains = remains_along g.R.Reader.layout v a w c.in-Some.ensures.remains c.in-Err.ensures.remains;
    }
