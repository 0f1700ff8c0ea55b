use Rattle.std.proofs.Common.{◌<◌, [], length, refl, sym, subst}
use Rattle.sh_lists.specs.Numbers.{upward}
use Rattle.sh_shape.specs.Classes.{slots}
use Rattle.sh_states.specs.declared.states.PageState.{PageState}
use Rattle.sh_states.specs.States.{state_at}
use Rattle.sh_shard.specs.Kept.{KeepsPages}
use Rattle.sh_shard.specs.Pages.{Paged, GivesClass}
use Rattle.sh_shard.proofs.PageLaws.{kept_given}
use Rattle.sh_shard.proofs.Keeping.{keeps_set}
use Rattle.sh_shard.proofs.PageSteps.{paged_of, gave_class}
use Rattle.sh_shard.proofs.pages.PagesOn.give_class.Goals as goal

pub invariant_of-self : goal.invariant_of-self
invariant_of-self g c =
    let k = c.self.invariant in
    let l : c.args.page < length c.self.inside.states = subst (λ (z : Paged). c.args.page < z.count)
    (sym c.self.view_is) c.requires.inside in
    let st : PageState = state_at c.self.inside.states c.args.page in
    subst (KeepsPages g.L.KeyLayout.layout c.set_class.new.self c.self.inside.shard c.self.inside.rings)
    (sym c.give_class.ensures)
    (keeps_set c.args.page _ k c.set_class.ensures.acts c.set_class.ensures.bells c.set_class.ensures.page
    c.set_class.ensures.does.stands l
    (kept_given st _ c.args.class (slots c.args.class)
    (record { free = upward 0 (slots c.args.class); local = []; cursor = st.lists.cursor }) (k.pages c.args.page l)
    c.requires.class refl refl))

pub returns : goal.returns
returns g c =
    let l : c.args.page < length c.self.inside.states = subst (λ (z : Paged). c.args.page < z.count)
    (sym c.self.view_is) c.requires.inside in
    let P : Paged → Type 0 = λ z. GivesClass c.args.page c.args.class z
    (paged_of g.L.KeyLayout.layout c.set_class.new.self c.self.inside.shard c.give_class.new.self) in
    subst P c.self.view_is (gave_class g.L.KeyLayout.layout c.args.page c.self.inside.shard c.args.class _ _ _
    c.self.inside.owner c.set_class.new.self c.set_class.ensures.acts c.set_class.ensures.bells
    c.set_class.ensures.page c.set_class.ensures.put c.set_class.ensures.arm c.give_class.ensures l
    (record { free = refl; local = refl }))
