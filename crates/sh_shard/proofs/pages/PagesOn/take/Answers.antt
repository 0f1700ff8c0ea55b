use Rattle.std.proofs.Common.{◌<◌, false, cond, length, refl, ap, ◌∙◌, sym, subst}
use Rattle.sh_bell.specs.Bell.{is_armed}
use Rattle.sh_stack.specs.Stack.{top_item}
use Rattle.sh_states.specs.declared.states.PageState.{PageState}
use Rattle.sh_states.specs.States.{state_at}
use Rattle.sh_shard.specs.Kept.{KeepsPages}
use Rattle.sh_shard.specs.Pages.{Paged, TakesPage, page_at, seen_class}
use Rattle.sh_shard.proofs.PageLaws.{kept_taken}
use Rattle.sh_shard.proofs.Keeping.{keeps_set, cursor_number, page_of}
use Rattle.sh_shard.proofs.PageSteps.{paged_of, taken}
use Rattle.sh_shard.proofs.pages.PagesOn.take.Goals as goal

pub slot_number-cursor-requires : goal.slot_number-cursor-requires
slot_number-cursor-requires g c = cursor_number c.top_item.result (sym
    (c.top_item.ensures ∙ (λ i. top_item (c.top_of.ensures i)))) c.take-found.ensures.page
    c.take-found.ensures.does.stands

pub begin_reading-requires-clause-cursor : goal.begin_reading-requires-clause-cursor
begin_reading-requires-clause-cursor g c = cursor_number c.slot_number-cursor.result
    (sym (c.slot_number-cursor.ensures ∙ (c.top_item.ensures ∙ (λ i. top_item (c.top_of.ensures i)))))
    c.take-found.ensures.page c.take-found.ensures.does.stands

pub invariant_of-self : goal.invariant_of-self
invariant_of-self g c =
    let k = c.self.invariant in
    let l : c.args.page < length c.self.inside.states = subst (λ (z : Paged). c.args.page < z.count)
    (sym c.self.view_is) c.requires.inside in
    let some : 0 < seen_class (page_of c.self.inside.owner c.self.inside.shard c.args.page) = subst
    (λ (z : Paged). 0 < seen_class (page_at z c.args.page)) (sym c.self.view_is) c.requires.classed in
    let st : PageState = state_at c.self.inside.states c.args.page in
    subst (KeepsPages g.L.KeyLayout.layout c.take-found.new.self c.self.inside.shard c.self.inside.rings)
    (sym c.begin_reading.ensures)
    (keeps_set c.args.page _ k c.take-found.ensures.acts c.take-found.ensures.bells c.take-found.ensures.page
    c.take-found.ensures.does.stands l
    (kept_taken st _ c.take-found.result (record st.lists { cursor = c.slot_number-cursor.result })
    c.slot_number-cursor.result
    c.still_armed-armed.result (k.pages c.args.page l) some refl
    (c.slot_number-cursor.ensures ∙ (c.top_item.ensures ∙ (λ i. top_item (c.top_of.ensures i))))
    (c.still_armed-armed.ensures ∙ ap (λ b. cond (is_armed c.take-found.result) false b) c.is_armed.ensures)))

pub returns : goal.returns
returns g c =
    let P : Paged → Type 0 = λ z. TakesPage c.args.page z (paged_of g.L.KeyLayout.layout c.take-found.new.self
    c.self.inside.shard c.begin_reading.new.self) in
    subst P c.self.view_is (taken g.L.KeyLayout.layout c.args.page c.take-found.result c.self.inside.shard _ _ _
    c.self.inside.owner c.take-found.new.self c.take-found.ensures.acts c.take-found.ensures.bells
    c.take-found.ensures.page c.take-found.ensures.put c.take-found.ensures.arm
    c.begin_reading.ensures)
