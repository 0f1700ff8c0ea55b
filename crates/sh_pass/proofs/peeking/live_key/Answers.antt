use Rattle.std.proofs.Common.{◌≡◌, ◌∙◌, ◌&&◌, subst, true}
use Rattle.std.specs.Prelude.{not}
use Rattle.sh_word.specs.Fields.{Fields}
use Rattle.sh_slots.specs.Slots.{name_at}
use Rattle.sh_pass.specs.Peeks.{IsKeyNamed}
use Rattle.sh_pass.proofs.PeekLaws.{says_named}
use Rattle.sh_pass.proofs.peeking.live_key.Goals as goal

pub returns-then-not-state : goal.returns-then-not-state
returns-then-not-state g c =
    let is = c.state.view_is ∙ c.of-state.ensures.fields in
    says_named g.L.KeyLayout.layout c.args.shape.now c.args.slot_ref c.args.word c.key_in.result
    (subst (λ (f : Fields). (f.present && not f.marked) ≡ true) is (λ i. c.if-state.true i && c.if-not-state.true i))
    (subst (λ (f : Fields). IsKeyNamed g.L.KeyLayout.layout c.args.shape.now (name_at c.args.slot_ref f.generation)
    c.key_in.result) is c.key_in.ensures)
