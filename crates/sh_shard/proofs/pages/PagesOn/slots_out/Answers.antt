use Rattle.std.proofs.Common.{◌≡◌, ◌-◌, ◌<◌, ◌≤◌, length, ap, ◌∙◌, sym, subst, arith}
use Rattle.sh_shape.specs.Classes.{slots}
use Rattle.sh_states.specs.declared.states.PageState.{PageState}
use Rattle.sh_states.specs.States.{state_at}
use Rattle.sh_shard.specs.Pages.{Paged, page_at, page_out}
use Rattle.sh_shard.proofs.Keeping.{page_of, below_class}
use Rattle.sh_shard.proofs.SlotCounts.{owned, out_of}
use Rattle.sh_shard.proofs.pages.PagesOn.slots_out.Goals as goal

pub overflow_sub-result : goal.overflow_sub-result
overflow_sub-result g c =
    let k = c.self.invariant in
    let st : PageState = state_at c.self.inside.states c.args.page in
    let word : c.class_word-class_word.result ≡ st.class_word = c.class_word-class_word.ensures.word in
    let some : st.class_word ≡ 0 → ⊥ = λ z. c.if-class_word-eq0.false (word ∙ z) in
    let count : c.slots.result ≡ slots (st.class_word - 1) = c.slots.ensures.is ∙ ap (λ w. slots (w - 1)) word in
    let l : c.args.page < length c.self.inside.states = subst (λ (z : Paged). c.args.page < z.count)
    (sym c.self.view_is) c.requires in
    let a = k.pages c.args.page l in
    let most : slots (st.class_word - 1) ≤ 48 = subst (λ n. n ≤ 48) count c.slots.ensures.few in
    let o = owned st (page_of c.self.inside.owner c.self.inside.shard c.args.page) a c.slots-2.ensures.once
    (below_class c.args.page st k a some) most in
    let few = o.few in
    let both = c.slots-2.ensures.kept in omega arith

pub returns-clause-is : goal.returns-clause-is
returns-clause-is g c =
    let k = c.self.invariant in
    let st : PageState = state_at c.self.inside.states c.args.page in
    let word : c.class_word-class_word.result ≡ st.class_word = c.class_word-class_word.ensures.word in
    let some : st.class_word ≡ 0 → ⊥ = λ z. c.if-class_word-eq0.false (word ∙ z) in
    let count : c.slots.result ≡ slots (st.class_word - 1) = c.slots.ensures.is ∙ ap (λ w. slots (w - 1)) word in
    let l : c.args.page < length c.self.inside.states = subst (λ (z : Paged). c.args.page < z.count)
    (sym c.self.view_is) c.requires in
    let a = k.pages c.args.page l in
    let most : slots (st.class_word - 1) ≤ 48 = subst (λ n. n ≤ 48) count c.slots.ensures.few in
    let o = owned st (page_of c.self.inside.owner c.self.inside.shard c.args.page) a c.slots-2.ensures.once
    (below_class c.args.page st k a some) most in
    subst (λ (z : Paged). c.slots.result - c.slots-2.result ≡ page_out (page_at z c.args.page)) c.self.view_is
    (out_of st (page_of c.self.inside.owner c.self.inside.shard c.args.page) c.slots.result c.slots-2.result a o some
    count c.slots-2.ensures.kept)
