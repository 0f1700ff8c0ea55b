use Rattle.std.proofs.Common.{◌≡◌, ◌<◌, false, cond, length, refl, ap, ◌∙◌, sym, subst, append-nil}
use Rattle.std.proofs.lemmas.List.{length-set}
use Rattle.sh_slots.specs.declared.hand.Hand.TheVariants.{Idle, Ringing}
use Rattle.sh_states.specs.declared.states.PageState.{PageState}
use Rattle.sh_states.specs.States.{state_at}
use Rattle.sh_shard.specs.Kept.{KeepsPages}
use Rattle.sh_shard.specs.Pages.{Paged, page_at}
use Rattle.sh_shard.specs.Leaving.{PutsOne}
use Rattle.sh_shard.proofs.PageLaws.{uses_slot, kept_without, used_is_mine}
use Rattle.sh_shard.proofs.Keeping.{page_of, keeps_set, two_acts, page_then, here_at, others_at}
use Rattle.sh_shard.proofs.PageSteps.{paged_of}
use Rattle.sh_shard.proofs.PuttingBack.{puts_one}
use Rattle.sh_shard.proofs.pages.PagesOn.put_next.Goals as goal

pub invariant_of-self-2 : goal.invariant_of-self-2
invariant_of-self-2 g c =
    let k = c.self.invariant in
    let l : c.args.page < length c.self.inside.states = subst (λ (z : Paged). c.args.page < z.count)
    (sym c.self.view_is) c.requires.inside in
    let calm : (page_of c.self.inside.owner c.self.inside.shard c.args.page).armed
    ≡ false = subst (λ (z : Paged). (page_at z c.args.page).armed ≡ false) (sym c.self.view_is) c.requires.calm in
    let ring : c.is_armed.result ≡ false = c.is_armed.ensures ∙ c.put_slot-head.ensures.calm calm in
    let acts = two_acts c.put_slot-head.ensures.acts c.tie.ensures.acts
    (ap (λ b. cond b (Ringing c.heap_page-number.result) Idle) ring) in
    let on = page_then c.put_slot-head.ensures.page c.tie.ensures.pages in
    let st : PageState = state_at c.self.inside.states c.args.page in
    let a = k.pages c.args.page l in
    let n = c.in-Some.ensures.used in
    let u = uses_slot c.in-Some.slot st.lists n.lists n.front n.apart in
    subst (KeepsPages g.L.KeyLayout.layout c.tie.new.self c.self.inside.shard c.self.inside.rings) (sym n.left)
    (keeps_set c.args.page _ k acts (λ b. c.tie.ensures.bells b ∙ c.put_slot-head.ensures.bells b) on
    c.tie.ensures.does.stands l (kept_without st _ c.in-Some.slot n.lists a u))

pub returns : goal.returns
returns g c =
    let k = c.self.invariant in
    let l : c.args.page < length c.self.inside.states = subst (λ (z : Paged). c.args.page < z.count)
    (sym c.self.view_is) c.requires.inside in
    let calm : (page_of c.self.inside.owner c.self.inside.shard c.args.page).armed
    ≡ false = subst (λ (z : Paged). (page_at z c.args.page).armed ≡ false) (sym c.self.view_is) c.requires.calm in
    let ring : c.is_armed.result ≡ false = c.is_armed.ensures ∙ c.put_slot-head.ensures.calm calm in
    let acts = two_acts c.put_slot-head.ensures.acts c.tie.ensures.acts
    (ap (λ b. cond b (Ringing c.heap_page-number.result) Idle) ring) in
    let on = page_then c.put_slot-head.ensures.page c.tie.ensures.pages in
    let st : PageState = state_at c.self.inside.states c.args.page in
    let a = k.pages c.args.page l in
    let n = c.in-Some.ensures.used in
    let u = uses_slot c.in-Some.slot st.lists n.lists n.front n.apart in
    let o : Paged = paged_of g.L.KeyLayout.layout c.self.inside.owner c.self.inside.shard
    c.self.inside.states in
    let then : Paged = paged_of g.L.KeyLayout.layout c.tie.new.self c.self.inside.shard
    c.next_slot.new.self in
    let P : Paged → Type 0 = λ z. PutsOne c.args.page z then in
    subst P c.self.view_is (puts_one o then c.args.page c.in-Some.slot acts.aside
    (c.tie.ensures.bells c.self.inside.shard ∙ c.put_slot-head.ensures.bells c.self.inside.shard)
    (acts.log ∙ append-nil c.self.inside.owner.view.own.log) refl
    (ap length n.left ∙ length-set c.self.inside.states c.args.page _) acts.steps
    (here_at c.self.inside.owner c.tie.new.self c.self.inside.shard c.args.page acts.aside.same.shape on)
    (others_at c.self.inside.owner c.tie.new.self c.self.inside.shard c.args.page acts.aside.same.shape on)
    (used_is_mine st (page_of c.self.inside.owner c.self.inside.shard c.args.page) c.in-Some.slot n.lists a u)
    c.in-Some.ensures.small)
