use Rattle.std.proofs.Common.{◌≡◌, ◌+◌, ◌<◌, ◌==◌, ◌∙◌, ℕ, Option, Some, true, false, refl, ap, arith, eq-eqb, ne_eqb, subst, sym}
use Rattle.sh_shape.specs.Places.{all_pages}
use Rattle.sh_shape.specs.Shape.{Numbers}
use Rattle.sh_slots.specs.declared.hand.Hand.TheVariants.{Idle}
use Rattle.sh_slots.specs.declared.hand.Sight.TheVariants.{Bare}
use Rattle.sh_slots.specs.Slots.{marked_word, name_at}
use Rattle.sh_step.specs.declared.body.Body.{Body}
use Rattle.sh_step.specs.Plans.{plan_of}
use Rattle.sh_step.specs.Rows.{hand}
use Rattle.sh_pass.specs.Peeks.{IsKeyNamed}
use Rattle.sh_pass.specs.Telling.{words_asked}
use Rattle.sh_pass.proofs.EndLoads.{ending_place, failed, is_marked, key_is_there, not_marked, reusable_of, told_key}
use Rattle.sh_pass.proofs.EndLoads.{told_none}
use Rattle.sh_pass.proofs.EndsTold.{tells_before}
use Rattle.sh_pass.proofs.GrowthLaws.{grows_on, grows_to}
use Rattle.sh_pass.proofs.PartLaws.{finished, owned_as}
use Rattle.sh_pass.proofs.ShardPages.{owned_below}
use Rattle.sh_pass.proofs.told_ending.finish_told.Goals as goal

-- ---- it did not end the key

pub returns-then-found-marked-clause-grows : goal.returns-then-found-marked-clause-grows
returns-then-found-marked-clause-grows g c =
    let v = c.args.seat.now.me.0 in
    let plan = plan_of g.L.KeyLayout.layout v.shape in
    let other = not_marked c.finish_asked-found.result c.marked_word-marked.result c.args.generation
    c.marked_word-marked.ensures c.if-found-marked.true in
    grows_to (5 + words_asked g.M.EndRoom.asks) _ (finished plan v.own.body c.args.slot_ref c.args.generation
    c.finish_asked-found.result false _ refl (failed plan c.args.generation c.finish_asked-found.result other))
    c.finish_asked-found.ensures.grows (omega arith)

pub returns-then-found-marked-clause-tells : goal.returns-then-found-marked-clause-tells
returns-then-found-marked-clause-tells g c =
    let other = not_marked c.finish_asked-found.result c.marked_word-marked.result c.args.generation
    c.marked_word-marked.ensures c.if-found-marked.true in
    told_none g.M.EndRoom.asks g.M.EndRoom.takes g.L.KeyLayout.layout c.args.seat.now.me.0
    c.finish_asked-found.new.seat.me.0 c.args.slot_ref c.args.generation
    (c.finish_asked-found.result == marked_word c.args.generation) c.args.room.now c.finish_asked-found.new.room other
    c.finish_asked-found.ensures.tells

-- ---- it did

pub key_in-requires-clause-page : goal.key_in-requires-clause-page
key_in-requires-clause-page g c =
    let place = ending_place c.args.slot_ref c.args.generation Bare c.requires.seat c.requires.hand in
    subst (λ (s : Numbers). c.args.slot_ref.page < all_pages s) (c.requires.seat.shape ∙ sym c.shape.ensures) place.0

pub key_in-requires-clause-slot : goal.key_in-requires-clause-slot
key_in-requires-clause-slot g c =
    (ending_place c.args.slot_ref c.args.generation Bare c.requires.seat c.requires.hand).1

pub unreachable-requires : goal.unreachable-requires
unreachable-requires g c =
    let e = c.finish_asked-found.ensures in
    let same = is_marked c.finish_asked-found.result c.marked_word-marked.result c.args.generation
    c.marked_word-marked.ensures c.if-found-marked.false in
    let P = λ (o : Option ℕ). IsKeyNamed g.L.KeyLayout.layout c.shape.result.now (name_at c.args.slot_ref c.args.generation) o in
    key_is_there g.M.EndRoom.asks g.M.EndRoom.takes g.L.KeyLayout.layout c.args.seat.now.me.0
    c.finish_asked-found.new.seat.me.0 c.args.slot_ref c.args.generation
    (c.finish_asked-found.result == marked_word c.args.generation) c.args.room.now c.finish_asked-found.new.room
    c.shape.result.now same (c.shape.ensures ∙ sym e.seat.shape) e.seat.stands e.tells
    (subst P c.in_default.is c.key_in.ensures)

pub returns-then-generation-last-clause-grows : goal.returns-then-generation-last-clause-grows
returns-then-generation-last-clause-grows g c =
    let v = c.args.seat.now.me.0 in
    let plan = plan_of g.L.KeyLayout.layout v.shape in
    let same = is_marked c.finish_asked-found.result c.marked_word-marked.result c.args.generation
    c.marked_word-marked.ensures c.if-found-marked.false in
    let goes = reusable_of g.L.KeyLayout.layout v.shape c.args.generation c.finish_asked-found.result c.gen_max-last.result
    true true c.gen_max-last.ensures same (eq-eqb c.args.generation c.gen_max-last.result c.if-generation-last.true) in
    grows_to (5 + words_asked g.M.EndRoom.asks) _ (finished plan v.own.body c.args.slot_ref c.args.generation
    c.finish_asked-found.result false _ refl goes) c.finish_asked-found.ensures.grows (omega arith)

pub returns-then-generation-last-clause-tells : goal.returns-then-generation-last-clause-tells
returns-then-generation-last-clause-tells g c =
    let same = is_marked c.finish_asked-found.result c.marked_word-marked.result c.args.generation
    c.marked_word-marked.ensures c.if-found-marked.false in
    let P = λ (o : Option ℕ). IsKeyNamed g.L.KeyLayout.layout c.shape.result.now
    (name_at c.args.slot_ref c.args.generation) o in
    told_key g.M.EndRoom.asks g.M.EndRoom.takes g.L.KeyLayout.layout c.args.seat.now.me.0
    c.finish_asked-found.new.seat.me.0 c.args.slot_ref c.args.generation
    (c.finish_asked-found.result == marked_word c.args.generation) c.args.room.now c.finish_asked-found.new.room
    c.shape.result.now c.in-Some.key same (c.shape.ensures ∙ sym c.requires.seat.shape)
    (subst P c.in-Some.is c.key_in.ensures) c.finish_asked-found.ensures.tells

pub is_of_shard-requires : goal.is_of_shard-requires
is_of_shard-requires g c = owned_below c.args.seat.now c.args.owned c.requires.seat c.requires.owned

pub returns-then-is_of_shard-clause-grows : goal.returns-then-is_of_shard-clause-grows
returns-then-is_of_shard-clause-grows g c =
    let v = c.args.seat.now.me.0 in
    let plan = plan_of g.L.KeyLayout.layout v.shape in
    let same = is_marked c.finish_asked-found.result c.marked_word-marked.result c.args.generation
    c.marked_word-marked.ensures c.if-found-marked.false in
    let goes = reusable_of g.L.KeyLayout.layout v.shape c.args.generation c.finish_asked-found.result c.gen_max-last.result
    true false c.gen_max-last.ensures same (ne_eqb c.args.generation c.gen_max-last.result c.if-generation-last.false) in
    let own = owned_as g.L.KeyLayout.layout v.shape c.args.table.now.shape v.own.body c.args.owned c.args.slot_ref.page
    _ true c.requires.owned c.requires.seat.shape c.is_of_shard.ensures c.if-is_of_shard.true in
    grows_to (5 + words_asked g.M.EndRoom.asks) _ (finished plan v.own.body c.args.slot_ref c.args.generation
    c.finish_asked-found.result true true own goes) c.finish_asked-found.ensures.grows (omega arith)

pub returns-then-is_of_shard-clause-shard : goal.returns-then-is_of_shard-clause-shard
returns-then-is_of_shard-clause-shard g c =
    let v = c.args.seat.now.me.0 in
    let own = owned_as g.L.KeyLayout.layout v.shape c.args.table.now.shape v.own.body c.args.owned c.args.slot_ref.page
    _ true c.requires.owned c.requires.seat.shape c.is_of_shard.ensures c.if-is_of_shard.true in
    own

pub returns-then-is_of_shard-clause-tells : goal.returns-then-is_of_shard-clause-tells
returns-then-is_of_shard-clause-tells g c =
    let same = is_marked c.finish_asked-found.result c.marked_word-marked.result c.args.generation
    c.marked_word-marked.ensures c.if-found-marked.false in
    let P = λ (o : Option ℕ). IsKeyNamed g.L.KeyLayout.layout c.shape.result.now
    (name_at c.args.slot_ref c.args.generation) o in
    told_key g.M.EndRoom.asks g.M.EndRoom.takes g.L.KeyLayout.layout c.args.seat.now.me.0
    c.finish_asked-found.new.seat.me.0 c.args.slot_ref c.args.generation
    (c.finish_asked-found.result == marked_word c.args.generation) c.args.room.now c.finish_asked-found.new.room
    c.shape.result.now c.in-Some.key same (c.shape.ensures ∙ sym c.requires.seat.shape)
    (subst P c.in-Some.is c.key_in.ensures) c.finish_asked-found.ensures.tells

pub put_back-requires-clause-hand : goal.put_back-requires-clause-hand
put_back-requires-clause-hand g c =
    let v = c.args.seat.now.me.0 in
    let plan = plan_of g.L.KeyLayout.layout v.shape in
    let same = is_marked c.finish_asked-found.result c.marked_word-marked.result c.args.generation
    c.marked_word-marked.ensures c.if-found-marked.false in
    let goes = reusable_of g.L.KeyLayout.layout v.shape c.args.generation c.finish_asked-found.result c.gen_max-last.result
    true false c.gen_max-last.ensures same (ne_eqb c.args.generation c.gen_max-last.result c.if-generation-last.false) in
    let own = owned_as g.L.KeyLayout.layout v.shape c.args.table.now.shape v.own.body c.args.owned c.args.slot_ref.page
    _ false c.requires.owned c.requires.seat.shape c.is_of_shard.ensures c.if-is_of_shard.false in
    ap (λ (p : Body). p.hand) (c.finish_asked-found.ensures.grows.body
    ∙ finished plan v.own.body c.args.slot_ref c.args.generation c.finish_asked-found.result true false own goes)

pub returns-clause-grows : goal.returns-clause-grows
returns-clause-grows g c =
    let v = c.args.seat.now.me.0 in
    let plan = plan_of g.L.KeyLayout.layout v.shape in
    let same = is_marked c.finish_asked-found.result c.marked_word-marked.result c.args.generation
    c.marked_word-marked.ensures c.if-found-marked.false in
    let goes = reusable_of g.L.KeyLayout.layout v.shape c.args.generation c.finish_asked-found.result c.gen_max-last.result
    true false c.gen_max-last.ensures same (ne_eqb c.args.generation c.gen_max-last.result c.if-generation-last.false) in
    let own = owned_as g.L.KeyLayout.layout v.shape c.args.table.now.shape v.own.body c.args.owned c.args.slot_ref.page
    _ false c.requires.owned c.requires.seat.shape c.is_of_shard.ensures c.if-is_of_shard.false in
    let a = c.finish_asked-found.ensures.grows in
    let is = finished plan v.own.body c.args.slot_ref c.args.generation c.finish_asked-found.result true false own goes in
    grows_to (5 + words_asked g.M.EndRoom.asks) _ (ap (λ (p : Body). hand p Idle) (a.body ∙ is))
    (grows_on (5 + words_asked g.M.EndRoom.asks) _ a c.put_back.ensures.grows (omega arith)) (omega arith)

pub returns-clause-tells : goal.returns-clause-tells
returns-clause-tells g c =
    let same = is_marked c.finish_asked-found.result c.marked_word-marked.result c.args.generation
    c.marked_word-marked.ensures c.if-found-marked.false in
    let P = λ (o : Option ℕ). IsKeyNamed g.L.KeyLayout.layout c.shape.result.now
    (name_at c.args.slot_ref c.args.generation) o in
    tells_before g.M.EndRoom.asks g.M.EndRoom.takes g.L.KeyLayout.layout c.args.seat.now.me.0
    c.finish_asked-found.new.seat.me.0 c.put_back.new.seat.me.0 (Some c.in-Some.key) c.args.room.now
    c.finish_asked-found.new.room
    (told_key g.M.EndRoom.asks g.M.EndRoom.takes g.L.KeyLayout.layout c.args.seat.now.me.0
    c.finish_asked-found.new.seat.me.0 c.args.slot_ref c.args.generation
    (c.finish_asked-found.result == marked_word c.args.generation) c.args.room.now c.finish_asked-found.new.room
    c.shape.result.now c.in-Some.key same (c.shape.ensures ∙ sym c.requires.seat.shape)
    (subst P c.in-Some.is c.key_in.ensures) c.finish_asked-found.ensures.tells) c.put_back.ensures.ends
