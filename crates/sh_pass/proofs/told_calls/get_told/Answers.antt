use Rattle.std.proofs.Common.{◌<◌, ◌∙◌, ℕ, List, None, length, refl, ap, sym, subst, arith}
use Rattle.std.specs.Prelude.{is_some}
use Rattle.sh_value.specs.declared.hold.Hold.{Hold}
use Rattle.sh_slots.specs.declared.enter.GetAnswer.TheVariants as answer
use Rattle.sh_step.specs.Plans.{plan_of}
use Rattle.sh_pass.specs.Deciding.{Stepped, EntryDecides, DecidedByEntry, InOneStep}
use Rattle.std.proofs.lemmas.Bool.Decides.{nat_tests}
use Rattle.sh_pass.proofs.DecidedLaws.{name_found, of_key, in_one_step}
use Rattle.sh_step.specs.declared.body.Body.{Body}
use Rattle.sh_slots.specs.declared.enter.GetAnswer.{GetAnswer}
use Rattle.sh_pass.specs.Growing.{GetGrowsWithin}
use Rattle.sh_pass.specs.Passes.{HoldsKept, caller_of, heap_of}
use Rattle.sh_pass.proofs.HeldLaws.{kept_more, adds_of, same_home}
use Rattle.sh_pass.specs.Telling.{words_asked}
use Rattle.sh_pass.proofs.EndsTold.{ends_now, tells_end}
use Rattle.sh_pass.proofs.OwnCalls.{leaves_grown}
use Rattle.sh_pass.proofs.told_calls.get_told.Goals as goal

pub returns-in-Got-clause-kept : goal.returns-in-Got-clause-kept
returns-in-Got-clause-kept g c =
    let G : GetAnswer → Type 0 = λ a. GetGrowsWithin (words_asked g.M.EndRoom.asks) c.args.key a c.get_told_at-got.result.1 c.args.seat.now.me.0
    c.get_told_at-got.new.seat.me.0 in
    let grows = subst G c.in-Got.is c.get_told_at-got.ensures.grows in
    let P : List ℕ → Type 0 = λ xs. HoldsKept xs c.get_told_at-got.new.seat.me.0.own.body.holds in
    subst P (sym c.push.ensures.items) (kept_more c.args.key c.args.held.now.items c.args.seat.now.me.0.own.body.holds _
    c.requires.kept (ap (λ (p : Body). p.holds) grows.body))

pub returns-in-Got-clause-leaves : goal.returns-in-Got-clause-leaves
returns-in-Got-clause-leaves g c =
    let e = c.get_told_at-got.ensures in
    let P : GetAnswer → Type 0 = λ a. GetGrowsWithin (words_asked g.M.EndRoom.asks) c.args.key a c.get_told_at-got.result.1 c.args.seat.now.me.0
    c.get_told_at-got.new.seat.me.0 in
    let grows = subst P c.in-Got.is e.grows in
    leaves_grown g.L.KeyLayout.layout (caller_of c.args.seat.now) (caller_of c.get_told_at-got.new.seat) None grows
    (record { owned = refl; classes = refl; mine = refl; cursors = refl; armed = refl; bell = refl })
    c.requires.idle c.requires.idle tt e.seat.stands

pub returns-in-Crowded-clause-leaves : goal.returns-in-Crowded-clause-leaves
returns-in-Crowded-clause-leaves g c =
    let e = c.get_told_at-got.ensures in
    let P : GetAnswer → Type 0 = λ a. GetGrowsWithin (words_asked g.M.EndRoom.asks) c.args.key a c.get_told_at-got.result.1 c.args.seat.now.me.0
    c.get_told_at-got.new.seat.me.0 in
    let grows = subst P c.in-Crowded.is e.grows in
    leaves_grown g.L.KeyLayout.layout (caller_of c.args.seat.now) (caller_of c.get_told_at-got.new.seat) _ grows
    (record { owned = refl; classes = refl; mine = refl; cursors = refl; armed = refl; bell = refl }) refl
    c.requires.idle e.shard e.seat.stands

pub returns-in-Gone-clause-leaves : goal.returns-in-Gone-clause-leaves
returns-in-Gone-clause-leaves g c =
    let e = c.get_told_at-got.ensures in
    let P : GetAnswer → Type 0 = λ a. GetGrowsWithin (words_asked g.M.EndRoom.asks) c.args.key a c.get_told_at-got.result.1 c.args.seat.now.me.0
    c.get_told_at-got.new.seat.me.0 in
    let grows = subst P c.in-Gone.is e.grows in
    leaves_grown g.L.KeyLayout.layout (caller_of c.args.seat.now) (caller_of c.get_told_at-got.new.seat) _ grows
    (record { owned = refl; classes = refl; mine = refl; cursors = refl; armed = refl; bell = refl }) refl
    c.requires.idle e.shard e.seat.stands

pub returns-in-Got-clause-does : goal.returns-in-Got-clause-does
returns-in-Got-clause-does g c =
    let e = c.get_told_at-got.ensures in
    let v = c.args.seat.now.me.0 in
    let w = c.get_told_at-got.new.seat.me.0 in
    let plan = plan_of g.L.KeyLayout.layout v.shape in
    let P : GetAnswer → Type 0 = λ a. GetGrowsWithin (words_asked g.M.EndRoom.asks) c.args.key a c.get_told_at-got.result.1 v w in
    let Q : GetAnswer → Type 0 = λ a. Stepped (EntryDecides plan c.args.key c.in-Some.name a) v w in
    let grows = subst P c.in-Got.is e.grows in
    let named = name_found c.args.key c.shape.result.now c.place_of_key.result c.in-Some.name c.requires.seat
    c.shape.ensures c.place_of_key.ensures c.in-Some.is in
    let not_full = c.if-is_full.false in
    let value = c.if-is_full.ensures.value in
    let fits = c.if-is_full.ensures.fits in
    let count = c.requires.kept.count in
    let few : length v.own.body.holds < 16 = grind (arith, nat_tests) in
    let first = in_one_step v w plan c.args.key c.in-Some.name named (subst Q c.in-Got.is e.first) grows in (
      ap (λ (h : Hold). h.key) c.new.ensures,
      ap is_some named,
      few,
      adds_of (heap_of c.args.seat.now) (heap_of c.get_told_at-got.new.seat) _ (InOneStep plan c.args.key)
          (same_home c.requires.seat e.seat) refl grows first,
    )

pub returns-in-Crowded-clause-does : goal.returns-in-Crowded-clause-does
returns-in-Crowded-clause-does g c =
    let e = c.get_told_at-got.ensures in
    let v = c.args.seat.now.me.0 in
    let w = c.get_told_at-got.new.seat.me.0 in
    let plan = plan_of g.L.KeyLayout.layout v.shape in
    let P : GetAnswer → Type 0 = λ a. GetGrowsWithin (words_asked g.M.EndRoom.asks) c.args.key a c.get_told_at-got.result.1 v w in
    let Q : GetAnswer → Type 0 = λ a. Stepped (EntryDecides plan c.args.key c.in-Some.name a) v w in
    let grows = subst P c.in-Crowded.is e.grows in
    let named = name_found c.args.key c.shape.result.now c.place_of_key.result c.in-Some.name c.requires.seat
    c.shape.ensures c.place_of_key.ensures c.in-Some.is in
    let not_full = c.if-is_full.false in
    let value = c.if-is_full.ensures.value in
    let fits = c.if-is_full.ensures.fits in
    let count = c.requires.kept.count in
    let few : length v.own.body.holds < 16 = grind (arith, nat_tests) in
    let first = of_key v w plan c.args.key (λ x. EntryDecides plan c.args.key x answer.Crowded) c.in-Some.name named
    (subst Q c.in-Crowded.is e.first) in (
      ap is_some named,
      few,
      adds_of (heap_of c.args.seat.now) (heap_of c.get_told_at-got.new.seat) _
          (DecidedByEntry plan c.args.key answer.Crowded)
          (same_home c.requires.seat e.seat) refl grows first,
    )

pub returns-in-Gone-clause-does : goal.returns-in-Gone-clause-does
returns-in-Gone-clause-does g c =
    let e = c.get_told_at-got.ensures in
    let v = c.args.seat.now.me.0 in
    let w = c.get_told_at-got.new.seat.me.0 in
    let plan = plan_of g.L.KeyLayout.layout v.shape in
    let P : GetAnswer → Type 0 = λ a. GetGrowsWithin (words_asked g.M.EndRoom.asks) c.args.key a c.get_told_at-got.result.1 v w in
    let Q : GetAnswer → Type 0 = λ a. Stepped (EntryDecides plan c.args.key c.in-Some.name a) v w in
    let grows = subst P c.in-Gone.is e.grows in
    let named = name_found c.args.key c.shape.result.now c.place_of_key.result c.in-Some.name c.requires.seat
    c.shape.ensures c.place_of_key.ensures c.in-Some.is in
    let not_full = c.if-is_full.false in
    let value = c.if-is_full.ensures.value in
    let fits = c.if-is_full.ensures.fits in
    let count = c.requires.kept.count in
    let few : length v.own.body.holds < 16 = grind (arith, nat_tests) in
    let first = of_key v w plan c.args.key (λ x. EntryDecides plan c.args.key x answer.Gone) c.in-Some.name named
    (subst Q c.in-Gone.is e.first) in (
      ap is_some named,
      few,
      adds_of (heap_of c.args.seat.now) (heap_of c.get_told_at-got.new.seat) _ (DecidedByEntry plan c.args.key answer.Gone)
          (same_home c.requires.seat e.seat) refl grows first,
    )

pub returns-in_default-clause-tells : goal.returns-in_default-clause-tells
returns-in_default-clause-tells g c = (ends_now g.L.KeyLayout.layout c.args.seat.now.me.0, refl)

pub returns-then-is_full-clause-tells : goal.returns-then-is_full-clause-tells
returns-then-is_full-clause-tells g c = (ends_now g.L.KeyLayout.layout c.args.seat.now.me.0, refl)

pub returns-in-Got-clause-tells : goal.returns-in-Got-clause-tells
returns-in-Got-clause-tells g c =
    let e = c.get_told_at-got.ensures in
    tells_end g.M.EndRoom.asks g.M.EndRoom.takes g.L.KeyLayout.layout c.args.seat.now.me.0 c.get_told_at-got.new.seat.me.0
    c.get_told_at-got.result.2 c.args.room.now c.get_told_at-got.new.room (e.seat.shape ∙ sym c.requires.seat.shape) e.seat.stands
    e.tells

pub returns-in-Crowded-clause-tells : goal.returns-in-Crowded-clause-tells
returns-in-Crowded-clause-tells g c =
    let e = c.get_told_at-got.ensures in
    tells_end g.M.EndRoom.asks g.M.EndRoom.takes g.L.KeyLayout.layout c.args.seat.now.me.0 c.get_told_at-got.new.seat.me.0
    c.get_told_at-got.result.2 c.args.room.now c.get_told_at-got.new.room (e.seat.shape ∙ sym c.requires.seat.shape) e.seat.stands
    e.tells

pub returns-in-Gone-clause-tells : goal.returns-in-Gone-clause-tells
returns-in-Gone-clause-tells g c =
    let e = c.get_told_at-got.ensures in
    tells_end g.M.EndRoom.asks g.M.EndRoom.takes g.L.KeyLayout.layout c.args.seat.now.me.0 c.get_told_at-got.new.seat.me.0
    c.get_told_at-got.result.2 c.args.room.now c.get_told_at-got.new.room (e.seat.shape ∙ sym c.requires.seat.shape) e.seat.stands
    e.tells
