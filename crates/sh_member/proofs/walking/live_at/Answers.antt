use Rattle.std.proofs.Common.{Ok, Err, refl, subst, arith}
use Rattle.sh_pass.specs.declared.looking.Glance.{Glance}
use Rattle.sh_pass.specs.declared.looking.Glance.TheVariants as glance
use Rattle.sh_pass.specs.Passes.{GlanceDoes}
use Rattle.sh_pass.specs.Rooms.{becomes}
use Rattle.sh_member.proofs.OnePlace.{look_missed, look_saw, peeked_none}
use Rattle.sh_member.proofs.walking.live_at.Goals as goal

pub returns-in_default-clause-does : goal.returns-in_default-clause-does
returns-in_default-clause-does g c = (
  peeked_none g.R.Reader.layout 21 c.args.place (g.R.Reader.caller c.args.reader.now)
      (g.R.Reader.caller c.peek_at.new.self) (omega arith) c.in_default.ensures.does,
  refl,
)

pub returns-in-Ok-Seen-clause-does : goal.returns-in-Ok-Seen-clause-does
returns-in-Ok-Seen-clause-does g c =
    let a = g.R.Reader.caller c.peek_at.new.self in
    let w = g.R.Reader.caller c.glance.new.self in
    look_saw g.R.Reader.layout c.args.place c.in-Some.key (g.R.Reader.caller c.args.reader.now) a
    c.in-Some.ensures.does c.args.value.now c.glance.new.value w
    (subst (λ (f : Glance). GlanceDoes becomes g.R.Reader.layout c.in-Some.key a c.args.value.now (Ok f)
    c.glance.new.value w) c.in-Ok-Seen.field-0-is c.in-Ok-Seen.ensures.does)

pub returns-in-Ok-Gone-clause-does : goal.returns-in-Ok-Gone-clause-does
returns-in-Ok-Gone-clause-does g c =
    let a = g.R.Reader.caller c.peek_at.new.self in
    let w = g.R.Reader.caller c.glance.new.self in
    look_missed g.R.Reader.layout c.args.place c.in-Some.key (g.R.Reader.caller c.args.reader.now) a
    c.in-Some.ensures.does c.args.value.now c.glance.new.value (Ok glance.Gone) w
    (subst (λ (f : Glance). GlanceDoes becomes g.R.Reader.layout c.in-Some.key a c.args.value.now (Ok f)
    c.glance.new.value w) c.in-Ok-Gone.field-0-is c.in-Ok-Gone.ensures.does) (λ e. cc)

pub returns-in-Ok-Early-clause-does : goal.returns-in-Ok-Early-clause-does
returns-in-Ok-Early-clause-does g c =
    let a = g.R.Reader.caller c.peek_at.new.self in
    let w = g.R.Reader.caller c.glance.new.self in
    look_missed g.R.Reader.layout c.args.place c.in-Some.key (g.R.Reader.caller c.args.reader.now) a
    c.in-Some.ensures.does c.args.value.now c.glance.new.value (Ok glance.Early) w
    (subst (λ (f : Glance). GlanceDoes becomes g.R.Reader.layout c.in-Some.key a c.args.value.now (Ok f)
    c.glance.new.value w) c.in-Ok-Early.field-0-is c.in-Ok-Early.ensures.does) (λ e. cc)

pub returns-in-Err-clause-does : goal.returns-in-Err-clause-does
returns-in-Err-clause-does g c = look_missed g.R.Reader.layout c.args.place c.in-Some.key
    (g.R.Reader.caller c.args.reader.now) (g.R.Reader.caller c.peek_at.new.self) c.in-Some.ensures.does
    c.args.value.now c.glance.new.value (Err c.in-Err.field-0) (g.R.Reader.caller c.glance.new.self)
    c.in-Err.ensures.does (λ e. cc)
