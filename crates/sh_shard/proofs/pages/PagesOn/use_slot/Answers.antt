use Rattle.std.proofs.Common.{◌<◌, length, sym, subst}
use Rattle.sh_states.specs.declared.states.PageState.{PageState}
use Rattle.sh_states.specs.States.{state_at}
use Rattle.sh_shard.specs.Kept.{KeepsPages}
use Rattle.sh_shard.specs.Slots.{SameSlots}
use Rattle.sh_shard.specs.Pages.{Paged, PageInserts, UsesFirst, lists_at}
use Rattle.sh_shard.proofs.PageLaws.{uses_slot, kept_without}
use Rattle.sh_shard.proofs.Keeping.{keeps_set}
use Rattle.sh_shard.proofs.PageSteps.{paged_of, inserted, used_first}
use Rattle.sh_shard.proofs.pages.PagesOn.use_slot.Goals as goal

pub invariant_of-self-2 : goal.invariant_of-self-2
invariant_of-self-2 g c =
    let k = c.self.invariant in
    let l : c.args.page < length c.self.inside.states = subst (λ (z : Paged). c.args.page < z.count)
    (sym c.self.view_is) c.requires.inside in
    let st : PageState = state_at c.self.inside.states c.args.page in
    let u = c.in_ok-slot.ensures.used in
    subst (KeepsPages g.L.KeyLayout.layout c.insert_at.new.self c.self.inside.shard c.self.inside.rings) (sym u.left)
    (keeps_set c.args.page _ k c.insert_at.ensures.acts c.insert_at.ensures.bells c.insert_at.ensures.page
    c.insert_at.ensures.stands l
    (kept_without st _ _ u.lists (k.pages c.args.page l)
    (uses_slot c.in_ok-slot.slot st.lists u.lists u.front u.apart)))

pub returns-clause-used : goal.returns-clause-used
returns-clause-used g c =
    let u = c.in_ok-slot.ensures.used in
    let P : Paged → Type 0 = λ z. PageInserts c.args.page c.args.value.now c.insert_at.result z
    (paged_of g.L.KeyLayout.layout c.insert_at.new.self c.self.inside.shard c.next_slot.new.self) in
    subst P c.self.view_is (inserted g.L.KeyLayout.layout c.args.page c.self.inside.shard c.in_ok-slot.slot
    c.insert_at.result _ _ _ c.args.value.now c.self.inside.owner c.insert_at.new.self c.insert_at.ensures.acts
    c.insert_at.ensures.bells c.insert_at.ensures.page c.insert_at.ensures.put u.left)

pub returns-clause-first : goal.returns-clause-first
returns-clause-first g c =
    let layout = g.L.KeyLayout.layout in
    let l : c.args.page < length c.self.inside.states = subst (λ (z : Paged). c.args.page < z.count)
    (sym c.self.view_is) c.requires.inside in
    let P : Paged → Type 0 = λ z. UsesFirst layout (SameSlots (lists_at z c.args.page)) c.args.page c.insert_at.result z
    (paged_of layout c.insert_at.new.self c.self.inside.shard c.next_slot.new.self) in
    subst P c.self.view_is (used_first layout c.args.page c.self.inside.shard c.in_ok-slot.slot c.insert_at.result
    c.self.inside.states c.next_slot.new.self c.self.inside.owner c.insert_at.new.self c.in_ok-slot.ensures.used l
    c.insert_at.ensures.slot)
