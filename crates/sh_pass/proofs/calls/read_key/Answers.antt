use Rattle.std.proofs.Common.{◌≡◌, ◌∙◌, ℕ, Option, None, Ok, Err, true, false, ap, refl, subst, sym}
use Rattle.sh_slots.specs.declared.hand.KeyRef.{KeyRef}
use Rattle.sh_step.specs.Moves.{place_named}
use Rattle.sh_step.specs.Plans.{plan_of}
use Rattle.sh_value.specs.declared.refusal.Refusal.TheVariants as refusal
use Rattle.sh_pass.specs.Passes.{ReadIntoDoes, caller_of, heap_of}
use Rattle.sh_pass.proofs.HeldLaws.{held_as, held_named, reads_of, same_home}
use Rattle.sh_pass.proofs.OwnCalls.{leaves}
use Rattle.sh_pass.proofs.calls.read_key.Goals as goal

pub returns-then-not-is_held-clause-does : goal.returns-then-not-is_held-clause-does
returns-then-not-is_held-clause-does g c =
    let v = caller_of c.args.seat.now in
    let P : ℕ → Type 0 = λ k. ReadIntoDoes k v c.args.value.now (Err refusal.NotHeld) c.args.value.now v in
    subst P c.held_key-key.ensures (
      (
        held_as c.args.held.now.items _ c.args.seat.now.me.0.own.body.holds c.held_key-key.result c.is_held.result
            false c.requires.kept.holds c.as_slice.ensures.value c.is_held.ensures c.if-not-is_held.true,
        refl,
      ),
      refl,
    )

pub place_in-name-requires : goal.place_in-name-requires
place_in-name-requires g c =
    let here = held_as c.args.held.now.items _ c.args.seat.now.me.0.own.body.holds c.held_key-key.result
    c.is_held.result true c.requires.kept.holds c.as_slice.ensures.value c.is_held.ensures c.if-not-is_held.false in
    let N : ℕ → Option KeyRef = λ k. place_named (plan_of g.L.KeyLayout.layout c.shape.result.now) k in
    λ none. held_named c.held_key-key.result _ _ c.requires.seat here (c.shape.ensures ∙ sym c.requires.seat.shape) refl
    (ap N c.held_key-key.ensures ∙ none)

pub read_at-requires-clause-held : goal.read_at-requires-clause-held
read_at-requires-clause-held g c = held_as c.args.held.now.items _ c.args.seat.now.me.0.own.body.holds
    c.held_key-key.result c.is_held.result true c.requires.kept.holds c.as_slice.ensures.value c.is_held.ensures
    c.if-not-is_held.false

pub returns-clause-does : goal.returns-clause-does
returns-clause-does g c =
    let here = held_as c.args.held.now.items _ c.args.seat.now.me.0.own.body.holds c.held_key-key.result
    c.is_held.result true c.requires.kept.holds c.as_slice.ensures.value c.is_held.ensures c.if-not-is_held.false in
    let same : heap_of c.read_at.new.seat ≡ heap_of c.args.seat.now = same_home c.requires.seat c.read_at.ensures.seat
    in
    let v = caller_of c.args.seat.now in
    let w = caller_of c.read_at.new.seat in
    let P : ℕ → Type 0 = λ k. ReadIntoDoes k v c.args.value.now (Ok tt) c.read_at.new.value w in
    subst P c.held_key-key.ensures
    (here, reads_of (heap_of c.args.seat.now) (heap_of c.read_at.new.seat) same c.read_at.ensures.read)

pub returns-clause-leaves : goal.returns-clause-leaves
returns-clause-leaves g c =
    let r = c.read_at.ensures.read in
    leaves g.L.KeyLayout.layout (caller_of c.args.seat.now) (caller_of c.read_at.new.seat) r.same r.calls None r.own
    c.requires.idle r.idle tt c.read_at.ensures.seat.stands
