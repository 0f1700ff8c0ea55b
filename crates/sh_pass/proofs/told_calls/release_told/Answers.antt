use Rattle.std.proofs.Common.{◌≡◌, ◌∙◌, ◌==◌, ℕ, List, Option, Ok, Err, true, false, refl, ap}
use Rattle.std.proofs.Common.{sym, subst}
use Rattle.sh_slots.specs.declared.hand.KeyRef.{KeyRef}
use Rattle.sh_step.specs.Collections.{has, without}
use Rattle.sh_step.specs.Moves.{place_named}
use Rattle.sh_value.specs.declared.refusal.Refusal.TheVariants as refusal
use Rattle.sh_step.specs.declared.body.Body.{Body}
use Rattle.sh_step.specs.declared.action.Action.TheVariants as action
use Rattle.sh_step.specs.Plans.{plan_of}
use Rattle.sh_pass.specs.Deciding.{Begins, DropsHold}
use Rattle.sh_pass.specs.Passes.{ReleaseDoesWithin, caller_of, heap_of}
use Rattle.sh_pass.proofs.DecidedLaws.{name_found, of_key}
use Rattle.sh_pass.proofs.HeldLaws.{held_as, held_named, kept_less, kept_then, adds_of, same_home}
use Rattle.sh_pass.specs.Telling.{words_asked}
use Rattle.sh_pass.proofs.EndsTold.{ends_now, tells_end}
use Rattle.sh_pass.proofs.OwnCalls.{leaves_grown}
use Rattle.sh_pass.proofs.told_calls.release_told.Goals as goal

pub returns-then-not-is_held-clause-does : goal.returns-then-not-is_held-clause-does
returns-then-not-is_held-clause-does g c =
    let v = caller_of c.args.seat.now in
    let P : ℕ → Type 0 = λ k. ReleaseDoesWithin (words_asked g.M.EndRoom.asks) g.L.KeyLayout.layout k v (Err refusal.NotHeld) v in
    subst P c.held_key-key.ensures (
      held_as c.args.held.now.items _ c.args.seat.now.me.0.own.body.holds c.held_key-key.result c.is_held.result
          false c.requires.kept.holds c.as_slice.ensures.value c.is_held.ensures c.if-not-is_held.true,
      refl,
    )

pub place_in-name-requires : goal.place_in-name-requires
place_in-name-requires g c =
    let here = held_as c.args.held.now.items _ c.args.seat.now.me.0.own.body.holds c.held_key-key.result
    c.is_held.result true c.requires.kept.holds c.as_slice.ensures.value c.is_held.ensures c.if-not-is_held.false in
    let N : ℕ → Option KeyRef = λ k. place_named (plan_of g.L.KeyLayout.layout c.shape.result.now) k in
    λ none. held_named c.held_key-key.result _ _ c.requires.seat here (c.shape.ensures ∙ sym c.requires.seat.shape) refl
    (ap N c.held_key-key.ensures ∙ none)

pub release_told_at-slot-requires-clause-held : goal.release_told_at-slot-requires-clause-held
release_told_at-slot-requires-clause-held g c = held_as c.args.held.now.items _ c.args.seat.now.me.0.own.body.holds
    c.held_key-key.result c.is_held.result true c.requires.kept.holds c.as_slice.ensures.value c.is_held.ensures
    c.if-not-is_held.false

pub remove_one-requires : goal.remove_one-requires
remove_one-requires g c =
    let X : List ℕ → Type 0 = λ xs. has (λ k. k == c.held_key-key.result) xs ≡ true in
    subst X c.as_slice.ensures.value (sym c.is_held.ensures ∙ c.if-not-is_held.false)

pub returns-clause-kept : goal.returns-clause-kept
returns-clause-kept g c =
    let held : List ℕ = c.args.held.now.items in
    let X : List ℕ → Type 0 = λ xs. has (λ k. k == c.held_key-key.result) xs ≡ true in
    let here = subst X c.as_slice.ensures.value (sym c.is_held.ensures ∙ c.if-not-is_held.false) in
    kept_then c.remove_one.new.held.items (without (λ k. k == c.held_key-key.result) held)
    c.release_told_at-slot.new.seat.me.0.own.body.holds c.remove_one.ensures
    (kept_less c.held_key-key.result held c.args.seat.now.me.0.own.body.holds _ c.requires.kept here
    (ap (λ (p : Body). p.holds) c.release_told_at-slot.ensures.grows.body))

pub returns-clause-does : goal.returns-clause-does
returns-clause-does g c =
    let here = held_as c.args.held.now.items _ c.args.seat.now.me.0.own.body.holds c.held_key-key.result
    c.is_held.result true c.requires.kept.holds c.as_slice.ensures.value c.is_held.ensures c.if-not-is_held.false in
    let same : heap_of c.release_told_at-slot.new.seat ≡ heap_of c.args.seat.now = same_home c.requires.seat
    c.release_told_at-slot.ensures.seat in
    let v = c.args.seat.now.me.0 in
    let plan = plan_of g.L.KeyLayout.layout v.shape in
    let N : ℕ → Option KeyRef = λ k. place_named (plan_of g.L.KeyLayout.layout c.shape.result.now) k in
    let named = name_found c.held_key-key.result c.shape.result.now _ c.place_in-name.result c.requires.seat
    c.shape.ensures refl (ap N c.held_key-key.ensures ∙ c.place_in-name.ensures) in
    let first = of_key v c.release_told_at-slot.new.seat.me.0 plan c.held_key-key.result
    (λ x. Begins (action.DropHold c.held_key-key.result) x) c.place_in-name.result named
    c.release_told_at-slot.ensures.first in
    let w = caller_of c.release_told_at-slot.new.seat in
    let P : ℕ → Type 0 = λ k. ReleaseDoesWithin (words_asked g.M.EndRoom.asks) g.L.KeyLayout.layout k (caller_of c.args.seat.now) (Ok tt) w in
    subst P c.held_key-key.ensures (
      here,
      adds_of (heap_of c.args.seat.now) (heap_of c.release_told_at-slot.new.seat) _ (DropsHold plan c.held_key-key.result)
          same refl c.release_told_at-slot.ensures.grows first,
    )

pub returns-clause-leaves : goal.returns-clause-leaves
returns-clause-leaves g c =
    let e = c.release_told_at-slot.ensures in
    leaves_grown g.L.KeyLayout.layout (caller_of c.args.seat.now) (caller_of c.release_told_at-slot.new.seat) _ e.grows
    (record { owned = refl; classes = refl; mine = refl; cursors = refl; armed = refl; bell = refl }) refl
    c.requires.idle e.shard e.seat.stands

pub returns-then-not-is_held-clause-tells : goal.returns-then-not-is_held-clause-tells
returns-then-not-is_held-clause-tells g c = (ends_now g.L.KeyLayout.layout c.args.seat.now.me.0, refl)

pub returns-clause-tells : goal.returns-clause-tells
returns-clause-tells g c =
    let e = c.release_told_at-slot.ensures in
    tells_end g.M.EndRoom.asks g.M.EndRoom.takes g.L.KeyLayout.layout c.args.seat.now.me.0 c.release_told_at-slot.new.seat.me.0
    c.release_told_at-slot.result.1 c.args.room.now c.release_told_at-slot.new.room (e.seat.shape ∙ sym c.requires.seat.shape) e.seat.stands
    e.tells
