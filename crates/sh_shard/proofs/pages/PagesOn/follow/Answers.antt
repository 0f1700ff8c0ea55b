use Rattle.std.proofs.Common.{◌≡◌, ◌<◌, Some, [], ◌∷◌, ◌++◌, length, ◌∙◌, sym, subst}
use Rattle.sh_states.specs.declared.states.PageState.{PageState}
use Rattle.sh_states.specs.States.{state_at}
use Rattle.sh_shard.specs.Kept.{KeepsPages}
use Rattle.sh_shard.specs.Pages.{Paged, CursorMoves, CursorStops}
use Rattle.sh_shard.proofs.PageLaws.{kept_followed, followed_cursor}
use Rattle.sh_shard.proofs.Keeping.{page_of, ready, keeps_set, cursor_number}
use Rattle.sh_shard.proofs.PageSteps.{paged_of, moved, stopped}
use Rattle.sh_shard.proofs.pages.PagesOn.follow.Goals as goal

pub returns-then-found-eq0 : goal.returns-then-found-eq0
returns-then-found-eq0 g c =
    let P : Paged → Type 0 = λ z. CursorStops c.args.page z (paged_of g.L.KeyLayout.layout c.follow-found.new.self
    c.self.inside.shard c.self.inside.states) in
    subst P c.self.view_is (stopped g.L.KeyLayout.layout c.args.page c.in-Some.slot c.follow-found.result
    c.self.inside.shard c.self.inside.states c.self.inside.owner c.follow-found.new.self c.follow-found.ensures.acts
    c.follow-found.ensures.bells c.follow-found.ensures.page c.follow-found.ensures.put c.follow-found.ensures.arm
    c.if-found-eq0.true)

pub slot_number-cursor-requires : goal.slot_number-cursor-requires
slot_number-cursor-requires g c =
    cursor_number c.link_item.result (followed_cursor _ c.in-Some.slot c.follow-found.result
    c.if-found-eq0.false ∙ sym c.link_item.ensures) c.follow-found.ensures.page c.follow-found.ensures.does.stands

pub add_read-requires-clause-cursor : goal.add_read-requires-clause-cursor
add_read-requires-clause-cursor g c = cursor_number c.slot_number-cursor.result
    (followed_cursor _ c.in-Some.slot c.follow-found.result c.if-found-eq0.false
    ∙ sym (c.slot_number-cursor.ensures ∙ c.link_item.ensures)) c.follow-found.ensures.page
    c.follow-found.ensures.does.stands

pub add_read-requires-clause-apart : goal.add_read-requires-clause-apart
add_read-requires-clause-apart g c =
    let k = c.self.invariant in
    let l : c.args.page < length c.self.inside.states = subst (λ (z : Paged). c.args.page < z.count)
    (sym c.self.view_is) c.requires.inside in
    let cursor : (page_of c.self.inside.owner c.self.inside.shard c.args.page).cursor
    ≡ Some c.in-Some.slot = (k.pages c.args.page l).cursor ∙ (sym c.cursor.ensures.cursor ∙ c.in-Some.is) in
    (ready c.args.page c.in-Some.slot k l cursor).apart

pub invariant_of-self-2 : goal.invariant_of-self-2
invariant_of-self-2 g c =
    let k = c.self.invariant in
    let l : c.args.page < length c.self.inside.states = subst (λ (z : Paged). c.args.page < z.count)
    (sym c.self.view_is) c.requires.inside in
    let cursor : (page_of c.self.inside.owner c.self.inside.shard c.args.page).cursor
    ≡ Some c.in-Some.slot = (k.pages c.args.page l).cursor ∙ (sym c.cursor.ensures.cursor ∙ c.in-Some.is) in
    let st : PageState = state_at c.self.inside.states c.args.page in
    subst (KeepsPages g.L.KeyLayout.layout c.follow-found.new.self c.self.inside.shard c.self.inside.rings)
    (sym c.add_read.ensures)
    (keeps_set c.args.page _ k c.follow-found.ensures.acts c.follow-found.ensures.bells c.follow-found.ensures.page
    c.follow-found.ensures.does.stands l
    (kept_followed st _ c.in-Some.slot c.follow-found.result (record {
      free = st.lists.free
          ++ c.in-Some.slot ∷ [];
      local = st.lists.local;
      cursor = c.slot_number-cursor.result;
    }) (k.pages c.args.page l) c.if-found-eq0.false cursor
    (λ i. record {
      free = st.lists.free
          ++ c.in-Some.slot ∷ [];
      local = st.lists.local;
      cursor = (c.slot_number-cursor.ensures ∙ c.link_item.ensures) i;
    })))

pub returns : goal.returns
returns g c =
    let k = c.self.invariant in
    let l : c.args.page < length c.self.inside.states = subst (λ (z : Paged). c.args.page < z.count)
    (sym c.self.view_is) c.requires.inside in
    let cursor : (page_of c.self.inside.owner c.self.inside.shard c.args.page).cursor
    ≡ Some c.in-Some.slot = (k.pages c.args.page l).cursor ∙ (sym c.cursor.ensures.cursor ∙ c.in-Some.is) in
    let h = k.stands.owner.cursors _ c.in-Some.slot cursor in
    let P : Paged → Type 0 = λ z. CursorMoves c.args.page z (paged_of g.L.KeyLayout.layout c.follow-found.new.self
    c.self.inside.shard c.add_read.new.self) in
    subst P c.self.view_is (moved g.L.KeyLayout.layout c.args.page c.in-Some.slot c.follow-found.result
    c.self.inside.shard _ _ _ c.self.inside.owner c.follow-found.new.self c.follow-found.ensures.acts
    c.follow-found.ensures.bells c.follow-found.ensures.page c.follow-found.ensures.put c.follow-found.ensures.arm
    c.if-found-eq0.false c.add_read.ensures h.2 h.3)
