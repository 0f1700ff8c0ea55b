-- Clauses of a method that are about any plan or any word found, at those of the move.
use Rattle.std.proofs.Common.{◌≡◌, ◌∙◌, ℕ, Option, refl, sym, ap, subst}
use Rattle.std.specs.Prelude.{OnOk}
use Rattle.sh_slots.specs.declared.reply.Reply.{Reply}
use Rattle.sh_step.specs.declared.body.Body.{Body}
use Rattle.sh_step.specs.declared.moves.Move.{Move}
use Rattle.sh_step.specs.declared.moves.Move.TheVariants as move
use Rattle.sh_step.specs.Plans.{Plan, plan_of}
use Rattle.sh_step.specs.Moves.{row_of}
use Rattle.sh_step.specs.Fits.{RowFits}
use Rattle.sh_step.proofs.part.Part.apply.Goals as goal

left : Plan → Body → ℕ → Move → Body
left plan p n m = (row_of plan p m).part n

same_left : (plan : Plan) (p : Body) (n : ℕ) (m k : Move) → m ≡ k → (row_of plan p k).part n ≡ (row_of plan p m).part n
unfolding left
same_left plan p n m k is = sym (ap (left plan p n) is)

replied : Plan → Body → ℕ → Move → Option Reply
replied plan p n m = (row_of plan p m).reply n

same_replied : (plan : Plan) (p : Body) (n : ℕ) (m k : Move) → m ≡ k → (row_of plan p k).reply n
    ≡ (row_of plan p m).reply n
unfolding replied
same_replied plan p n m k is = sym (ap (replied plan p n) is)

pub publish-requires-clause-names : goal.publish-requires-clause-names
publish-requires-clause-names g c =
    let plan = plan_of g.L.KeyLayout.layout c.args.shape.now in
    let slot_ref = c.in-Publish.slot_ref in
    let fits : RowFits c.args.shape.now plan (row_of plan c.args.self.now (move.Publish slot_ref c.in-Publish.value))
    c.args.found =
    subst (λ m. RowFits c.args.shape.now plan (row_of plan c.args.self.now m) c.args.found) c.in-Publish.is
    c.requires.fits in
    fits.issues _ c.in-Publish.value slot_ref.page slot_ref.slot refl refl

pub returns-in-EnterRemove-clause-reply : goal.returns-in-EnterRemove-clause-reply
returns-in-EnterRemove-clause-reply g c =
    let plan = plan_of g.L.KeyLayout.layout c.args.shape.now in
    c.enter_remove.ensures.reply plan ∙ same_replied plan c.args.self.now c.args.found _ _ c.in-EnterRemove.is

pub returns-in-EnterRemove-clause-part : goal.returns-in-EnterRemove-clause-part
returns-in-EnterRemove-clause-part g c =
    let plan = plan_of g.L.KeyLayout.layout c.args.shape.now in
    c.enter_remove.ensures.part plan ∙ same_left plan c.args.self.now c.args.found _ _ c.in-EnterRemove.is

pub returns-in-FillSlot-clause-part : goal.returns-in-FillSlot-clause-part
returns-in-FillSlot-clause-part g c =
    let plan = plan_of g.L.KeyLayout.layout c.args.shape.now in
    c.fill_slot.ensures.part c.args.found ∙ same_left plan c.args.self.now c.args.found _ _ c.in-FillSlot.is

pub returns-in-Fill-clause-part : goal.returns-in-Fill-clause-part
returns-in-Fill-clause-part g c =
    let plan = plan_of g.L.KeyLayout.layout c.args.shape.now in
    c.fill.ensures.part c.args.found ∙ same_left plan c.args.self.now c.args.found _ _ c.in-Fill.is

pub returns-in-ReadWord-clause-part : goal.returns-in-ReadWord-clause-part
returns-in-ReadWord-clause-part g c =
    let plan = plan_of g.L.KeyLayout.layout c.args.shape.now in
    subst (λ (m : Move). OnOk c.read_word.result
    (c.read_word.new.self ≡ (row_of plan c.args.self.now m).part c.args.found)) (sym c.in-ReadWord.is)
    (c.read_word.ensures.part c.in-ReadWord.field-1 c.in-ReadWord.field-2)

pub returns-in-SetClass-clause-part : goal.returns-in-SetClass-clause-part
returns-in-SetClass-clause-part g c =
    let plan = plan_of g.L.KeyLayout.layout c.args.shape.now in
    subst (λ (m : Move). OnOk c.set_class.result
    (c.set_class.new.self ≡ (row_of plan c.args.self.now m).part c.args.found)) (sym c.in-SetClass.is)
    (c.set_class.ensures.part c.args.found)

pub returns-in-Tie-clause-part : goal.returns-in-Tie-clause-part
returns-in-Tie-clause-part g c =
    let plan = plan_of g.L.KeyLayout.layout c.args.shape.now in
    c.tie.ensures.part c.in-Tie.field-1 c.args.found ∙ same_left plan c.args.self.now c.args.found _ _ c.in-Tie.is

pub returns-in-Leave-clause-part : goal.returns-in-Leave-clause-part
returns-in-Leave-clause-part g c =
    let plan = plan_of g.L.KeyLayout.layout c.args.shape.now in
    c.leave.ensures.part c.in-Leave.field-0 c.args.found ∙ same_left plan c.args.self.now c.args.found _ _ c.in-Leave.is

pub returns-in-Ring-clause-part : goal.returns-in-Ring-clause-part
returns-in-Ring-clause-part g c =
    let plan = plan_of g.L.KeyLayout.layout c.args.shape.now in
    c.ring.ensures.part plan ∙ same_left plan c.args.self.now c.args.found _ _ c.in-Ring.is

pub returns-in-RingTie-clause-part : goal.returns-in-RingTie-clause-part
returns-in-RingTie-clause-part g c =
    let plan = plan_of g.L.KeyLayout.layout c.args.shape.now in
    c.ring_tie.ensures.part c.in-RingTie.field-0 c.in-RingTie.field-1 c.args.found
    ∙ same_left plan c.args.self.now c.args.found _ _ c.in-RingTie.is
