use Rattle.std.proofs.Common.{◌<◌, arith, length, refl, ◌∙◌, sym, subst}
use Rattle.sh_stack.specs.Stack.{top_item}
use Rattle.sh_pass.specs.Owners.{page_armed}
use Rattle.sh_states.specs.declared.states.PageState.{PageState}
use Rattle.sh_states.specs.States.{state_at}
use Rattle.sh_shard.specs.Kept.{KeepsPages}
use Rattle.sh_shard.specs.Pages.{Paged, WorksOn, StepsForSlots, page_at, seen_class}
use Rattle.sh_shard.proofs.PageLaws.{kept_armed}
use Rattle.sh_shard.proofs.Keeping.{keeps_set, cursor_number, page_of}
use Rattle.sh_shard.proofs.PageSteps.{paged_of, works_on, set_size, arming}
use Rattle.sh_shard.proofs.Slots.{lists_beside}
use Rattle.sh_shard.proofs.pages.PagesOn.arm.Goals as goal

pub slot_number-cursor-requires : goal.slot_number-cursor-requires
slot_number-cursor-requires g c = cursor_number c.top_item.result (sym
    (c.top_item.ensures ∙ (λ i. top_item (c.top_of.ensures i)))) c.arm-found.ensures.page
    c.arm-found.ensures.does.stands

pub begin_reading-requires-clause-cursor : goal.begin_reading-requires-clause-cursor
begin_reading-requires-clause-cursor g c = cursor_number c.slot_number-cursor.result
    (sym (c.slot_number-cursor.ensures ∙ (c.top_item.ensures ∙ (λ i. top_item (c.top_of.ensures i)))))
    c.arm-found.ensures.page c.arm-found.ensures.does.stands

pub invariant_of-self : goal.invariant_of-self
invariant_of-self g c =
    let k = c.self.invariant in
    let l : c.args.page < length c.self.inside.states = subst (λ (z : Paged). c.args.page < z.count)
    (sym c.self.view_is) c.requires.inside in
    let some : 0 < seen_class (page_of c.self.inside.owner c.self.inside.shard c.args.page) = subst
    (λ (z : Paged). 0 < seen_class (page_at z c.args.page)) (sym c.self.view_is) c.requires.classed in
    let st : PageState = state_at c.self.inside.states c.args.page in
    subst (KeepsPages g.L.KeyLayout.layout c.arm-found.new.self c.self.inside.shard c.self.inside.rings)
    (sym c.begin_reading.ensures)
    (keeps_set c.args.page _ k c.arm-found.ensures.acts c.arm-found.ensures.bells c.arm-found.ensures.page
    c.arm-found.ensures.does.stands l
    (kept_armed st _ c.arm-found.result (record st.lists { cursor = c.slot_number-cursor.result })
    c.slot_number-cursor.result (k.pages c.args.page l) some refl
    (c.slot_number-cursor.ensures ∙ (c.top_item.ensures ∙ (λ i. top_item (c.top_of.ensures i))))))

pub returns-clause-works : goal.returns-clause-works
returns-clause-works g c =
    let P : Paged → Type 0 = λ z. WorksOn c.args.page z (paged_of g.L.KeyLayout.layout c.arm-found.new.self
    c.self.inside.shard c.begin_reading.new.self) in
    subst P c.self.view_is (works_on g.L.KeyLayout.layout c.args.page c.self.inside.shard _ _ c.self.inside.owner
    c.arm-found.new.self (page_armed (page_of c.self.inside.owner c.self.inside.shard c.args.page)
    c.arm-found.result) c.arm-found.ensures.acts c.arm-found.ensures.bells c.arm-found.ensures.page
    c.arm-found.ensures.put (set_size c.args.page _ _ _ c.begin_reading.ensures)
    (lists_beside c.args.page _ _ _ c.begin_reading.ensures) refl (omega arith) (omega arith))

pub returns-clause-steps : goal.returns-clause-steps
returns-clause-steps g c =
    let P : Paged → Type 0 = λ z. StepsForSlots 1 c.args.page z (paged_of g.L.KeyLayout.layout c.arm-found.new.self
    c.self.inside.shard c.begin_reading.new.self) in
    subst P c.self.view_is (arming g.L.KeyLayout.layout c.args.page c.arm-found.result c.self.inside.shard
    c.self.inside.states c.begin_reading.new.self c.self.inside.owner c.arm-found.new.self
    c.arm-found.ensures.acts c.arm-found.ensures.page)
