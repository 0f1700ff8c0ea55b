use Rattle.std.proofs.Common.{◌∙◌, Bool, true, false, refl, ap, subst, sym}
use Rattle.std.specs.Prelude.{is_some}
use Rattle.sh_step.specs.Plans.{plan_of}
use Rattle.sh_pass.specs.Deciding.{Stepped, EntryOrMarkDecides, RemovalDecided}
use Rattle.sh_pass.specs.Growing.{RemoveGrowsWithin}
use Rattle.sh_pass.specs.Passes.{caller_of, heap_of}
use Rattle.sh_pass.proofs.DecidedLaws.{name_found, of_key}
use Rattle.sh_pass.proofs.HeldLaws.{adds_of, same_home}
use Rattle.sh_pass.specs.Telling.{words_asked}
use Rattle.sh_pass.proofs.EndsTold.{ends_now, tells_end}
use Rattle.sh_pass.proofs.OwnCalls.{leaves_grown}
use Rattle.sh_pass.proofs.told_calls.remove_told.Goals as goal

pub returns-then-removed-clause-leaves : goal.returns-then-removed-clause-leaves
returns-then-removed-clause-leaves g c =
    let e = c.remove_told_at-removed.ensures in
    leaves_grown g.L.KeyLayout.layout (caller_of c.args.seat.now) (caller_of c.remove_told_at-removed.new.seat) _ e.grows
    (record { owned = refl; classes = refl; mine = refl; cursors = refl; armed = refl; bell = refl }) refl
    c.requires.idle e.shard e.seat.stands

pub returns-else-removed-clause-leaves : goal.returns-else-removed-clause-leaves
returns-else-removed-clause-leaves g c =
    let e = c.remove_told_at-removed.ensures in
    leaves_grown g.L.KeyLayout.layout (caller_of c.args.seat.now) (caller_of c.remove_told_at-removed.new.seat) _ e.grows
    (record { owned = refl; classes = refl; mine = refl; cursors = refl; armed = refl; bell = refl }) refl
    c.requires.idle e.shard e.seat.stands

pub returns-then-removed-clause-does : goal.returns-then-removed-clause-does
returns-then-removed-clause-does g c =
    let e = c.remove_told_at-removed.ensures in
    let v = c.args.seat.now.me.0 in
    let w = c.remove_told_at-removed.new.seat.me.0 in
    let plan = plan_of g.L.KeyLayout.layout v.shape in
    let P : Bool → Type 0 = λ b. RemoveGrowsWithin (words_asked g.M.EndRoom.asks) c.args.key b c.remove_told_at-removed.result.1 v w in
    let Q : Bool → Type 0 = λ b. Stepped (EntryOrMarkDecides c.args.key c.in-Some.name b) v w in
    let named = name_found c.args.key c.shape.result.now c.place_of_key.result c.in-Some.name c.requires.seat
    c.shape.ensures c.place_of_key.ensures c.in-Some.is in
    let first = of_key v w plan c.args.key (λ x. EntryOrMarkDecides c.args.key x true) c.in-Some.name named
    (subst Q c.if-removed.true e.first) in (
      ap is_some named,
      adds_of (heap_of c.args.seat.now) (heap_of c.remove_told_at-removed.new.seat) _ (RemovalDecided plan c.args.key true)
          (same_home c.requires.seat e.seat) refl (subst P c.if-removed.true e.grows) first,
    )

pub returns-else-removed-clause-does : goal.returns-else-removed-clause-does
returns-else-removed-clause-does g c =
    let e = c.remove_told_at-removed.ensures in
    let v = c.args.seat.now.me.0 in
    let w = c.remove_told_at-removed.new.seat.me.0 in
    let plan = plan_of g.L.KeyLayout.layout v.shape in
    let P : Bool → Type 0 = λ b. RemoveGrowsWithin (words_asked g.M.EndRoom.asks) c.args.key b c.remove_told_at-removed.result.1 v w in
    let Q : Bool → Type 0 = λ b. Stepped (EntryOrMarkDecides c.args.key c.in-Some.name b) v w in
    let named = name_found c.args.key c.shape.result.now c.place_of_key.result c.in-Some.name c.requires.seat
    c.shape.ensures c.place_of_key.ensures c.in-Some.is in
    let first = of_key v w plan c.args.key (λ x. EntryOrMarkDecides c.args.key x false) c.in-Some.name named
    (subst Q c.if-removed.false e.first) in (
      ap is_some named,
      adds_of (heap_of c.args.seat.now) (heap_of c.remove_told_at-removed.new.seat) _ (RemovalDecided plan c.args.key false)
          (same_home c.requires.seat e.seat) refl (subst P c.if-removed.false e.grows) first,
    )

pub returns-in_default-clause-tells : goal.returns-in_default-clause-tells
returns-in_default-clause-tells g c = (ends_now g.L.KeyLayout.layout c.args.seat.now.me.0, refl)

pub returns-then-removed-clause-tells : goal.returns-then-removed-clause-tells
returns-then-removed-clause-tells g c =
    let e = c.remove_told_at-removed.ensures in
    tells_end g.M.EndRoom.asks g.M.EndRoom.takes g.L.KeyLayout.layout c.args.seat.now.me.0 c.remove_told_at-removed.new.seat.me.0
    c.remove_told_at-removed.result.2 c.args.room.now c.remove_told_at-removed.new.room (e.seat.shape ∙ sym c.requires.seat.shape) e.seat.stands
    e.tells

pub returns-else-removed-clause-tells : goal.returns-else-removed-clause-tells
returns-else-removed-clause-tells g c =
    let e = c.remove_told_at-removed.ensures in
    tells_end g.M.EndRoom.asks g.M.EndRoom.takes g.L.KeyLayout.layout c.args.seat.now.me.0 c.remove_told_at-removed.new.seat.me.0
    c.remove_told_at-removed.result.2 c.args.room.now c.remove_told_at-removed.new.room (e.seat.shape ∙ sym c.requires.seat.shape) e.seat.stands
    e.tells
