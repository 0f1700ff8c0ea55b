-- The room of a shard by the words before a line: what its owner knew then, and what an insert says of it.
use Rattle.std.proofs.Common.{◌≡◌, ◌≢◌, ℕ, suc, ◌+◌, ◌*◌, ◌<◌, ◌≤◌, ◌⊎◌, inl, inr, ⊎_elim, Bool, true, false, List}
use Rattle.std.proofs.Common.{[], ◌∷◌, ◌++◌, slice_get, refl, ap, sym, ◌∙◌, subst, arith, eq-eqb, Option, Some}
use Rattle.std.specs.Prelude.{nat_lt}
use Rattle.std.proofs.lemmas.Bool.{cases_lt}
use Rattle.std.proofs.lemmas.Option.{same_Some}
use Rattle.sh_key.specs.Layout.{Layout, IsLayout}
use Rattle.sh_shape.specs.Classes.{slots}
use Rattle.sh_shape.specs.Shape.{Numbers, IsShape, Fits}
use Rattle.sh_shape.proofs.ClassLaws.{slots_few}
use Rattle.sh_step.specs.declared.action.Event.{Event}
use Rattle.sh_step.specs.declared.body.Body.{Body}
use Rattle.sh_step.specs.Collections.{has, noted}
use Rattle.sh_slots.specs.declared.hand.KeyRef.{KeyRef}
use Rattle.sh_slots.specs.declared.hand.SlotRef.{SlotRef}
use Rattle.sh_slots.specs.Slots.{same_slot, slot_ref_of}
use Rattle.sh_step.specs.Moves.{place_named}
use Rattle.sh_shape.specs.Places.{pages_of}
use Rattle.sh_step.specs.Plans.{Plan, plan_of, keys_of, heap_pages, shard_of, page_number}
use Rattle.sh_step.specs.Rows.{own, owned_by}
use Rattle.sh_core.specs.Lists.{lists_of, mine_at, slots_under, state_of}
use Rattle.sh_core.specs.Quiet.{Quiet}
use Rattle.sh_core.specs.Refines.{Refines, OwnPartIsValid, mine, kind_count}
use Rattle.sh_core.specs.Stacks.{slot_ref}
use Rattle.sh_core.specs.Worlds.{World, run}
use Rattle.sh_core.proofs.Clauses.RunTheorem.{theorem}
use Rattle.sh_core.proofs.Sums.ListCounts.{has_some}
use Rattle.sh_core.proofs.Sums.Tests.{if1_few}
use Rattle.sh_core.proofs.Sums.Totals.{total_at}
use Rattle.sh_core.proofs.UsedSlots.{UsedAs, says_same, used_there, was_free, is_of_class}
use Rattle.sh_history.specs.declared.entry.Entry.TheVariants.{Insert}
use Rattle.sh_table.specs.declared.view.Own.{Own}
use Rattle.sh_pass.specs.Owners.{heap_page, own_body}
use Rattle.sh_shard.specs.Pages.{WhollyMine, page_at, shard_page}
use Rattle.sh_shard.specs.Shards.{Sharded, NoneLeft, IsSpare, IsBlank, IsNextFor, NextAfterSearch, FindsPage, FoundFor}
use Rattle.sh_shard.specs.Shards.{StaysOwner}
use Rattle.sh_member.specs.declared.member.Side.TheVariants.{Shard}
use Rattle.sh_member.specs.Sides.{SeenSide}
use Rattle.sh_quiet.specs.Quiescence.{IsUsed}
use Rattle.sh_quiet.proofs.Emptied.{no_mine}
use Rattle.sh_quiet.proofs.Exact.{Goes, quiet_still}
use Rattle.sh_quiet.proofs.Fulls.{class_is_used}
use Rattle.sh_script.specs.declared.calls.CallLine.{CallLine}
use Rattle.script_output.specs.declared.answer.Answer.{Answer}
use Rattle.script_calls.specs.OwnParts.{shape_in}
use Rattle.script_calls.specs.Parts.{heap_terms}
use Rattle.script_calls.specs.Runs.{CallsRun, LineAnswered}
use Rattle.script_heap.specs.ByLine.{HaveParts}
use Rattle.script_output.specs.Keys.{shown}
use Rattle.script_heap.specs.Rooms.{class_word, NoSlotLeft, NoPageBlank, OwnersWholly, HasRoom, BeginsPage}
use Rattle.script_heap.proofs.PageNumbers.{home_number}
use Rattle.script_heap.proofs.OwnerLaws.{own_before, was_quiet, ends_is}
use Rattle.script_heap.proofs.RoomLaws.{its_shard, goes_alone, saw, sees, its_pages}

module _ (layout : Layout) (shape : Numbers) (la : IsLayout layout) (ls : IsShape shape) (lf : Fits layout shape)
    (tag : Option ℕ) (early own_events : List Event) (before next : CallsRun) (l : CallLine) (a : Answer)
    (line : LineAnswered (heap_terms layout shape) tag before l a next) (inside : l.pass < shape.passes)
    (here : HaveParts (plan_of layout shape) early before.parts)
    (there : HaveParts (plan_of layout shape) (early ++ own_events) next.parts) (o n : Sharded)
    (was : line.begins.stands ≡ Shard o) (is : line.part.stands ≡ Shard n) (stays : StaysOwner layout o n) where
  abbrev old_plan : Plan
  old_plan = plan_of layout shape

  abbrev old_world : World
  old_world = run old_plan early

  abbrev new_world : World
  new_world = run old_plan (early ++ own_events)

  -- the shard
  abbrev shard : ℕ
  shard = n.pages.shard

  -- page p of the shard by its number over the whole heap
  abbrev its_page : ℕ → ℕ
  its_page p = page_number old_plan shard p

  abbrev body : Body
  body = own_body o.pages.owner

  goes : Goes old_plan early own_events l.pass o.pages.owner.view.own n.pages.owner.view.own
  goes = goes_alone layout shape la ls lf tag early own_events before next l a line inside here there o n was is stays

  new_pages : pages_of n.pages.owner.view.shape ≡ old_plan.pages
  new_pages = its_pages layout shape la ls lf tag early own_events before next l a line inside here there o n was is
      stays

  old_pages : pages_of o.pages.owner.view.shape ≡ old_plan.pages
  old_pages = ap pages_of (sym stays.same.shape) ∙ new_pages

  body_at : slice_get old_world.parts l.pass ≡ Some body
  body_at = (here l.pass inside).body ∙ ap (λ (z : Own). Some z.body)
      (own_before layout shape la ls lf tag early own_events before next l a line inside here there o n was is)

  owns_shard : body.owned ≡ Some shard
  owns_shard = ap (λ (z : Own). z.body.owned)
      (sym (own_before layout shape la ls lf tag early own_events before next l a line inside here there o n was is))
      ∙ ((here l.pass inside).shard
      ∙ its_shard layout shape la ls lf tag early own_events before next l a line inside here there o n was is stays)

  was_still : Quiet old_world
  was_still = was_quiet layout shape la ls lf tag early own_events before next l a line inside here there

  all_true : Refines old_plan old_world (lists_of old_plan early)
  all_true = theorem layout shape la ls lf early

  stands : OwnPartIsValid old_plan old_world body
  stands = all_true.parts l.pass body body_at

  -- ---- pages and their numbers

  old_number : (p : ℕ) → heap_page o.pages.owner (shard_page o.pages.shard p) ≡ its_page p
  unfolding page_number
  old_number p = ap (λ (z : ℕ). z * pages_of o.pages.owner.view.shape + p) (sym stays.shard)
      ∙ ap (λ (z : ℕ). shard * z + p) old_pages

  new_number : (p : ℕ) → heap_page n.pages.owner (shard_page n.pages.shard p) ≡ its_page p
  unfolding page_number
  new_number p = ap (λ (z : ℕ). shard * z + p) new_pages

  counted : (p : ℕ) → p < old_plan.pages → p < n.pages.count
  counted p lt = let count = stays.holds.known.count in let pages = new_pages in omega (arith, lt, count, pages)

  in_shard : (p : ℕ) → p < n.pages.count → p < old_plan.pages
  in_shard p lt = let count = stays.holds.known.count in let pages = new_pages in omega (arith, lt, count, pages)

  owns_page : (b : Body) → b.owned ≡ Some shard → (p : ℕ) → p < old_plan.pages → own old_plan b (its_page p) ≡ true
  owns_page b has_it p lt = subst (λ (z : Option ℕ). owned_by old_plan z (its_page p) ≡ true) (sym has_it)
      (eq-eqb shard (shard_of old_plan (its_page p)) (sym (home_number old_plan shard p lt)))

  -- ---- what the owner knew before the line

  -- the class word that it knows is the page's
  old_word : (p v : ℕ) → p < old_plan.pages → (page_at o.pages p).class ≡ Some v
      → class_word old_plan old_world shard p ≡ v
  old_word p v lt h = stands.notes (its_page p) v (owns_page body owns_shard p lt)
      (subst (λ (q : ℕ). noted q body.classes ≡ Some v) (old_number p) h)

  new_word : (p v : ℕ) → p < old_plan.pages → (page_at n.pages p).class ≡ Some v
      → class_word old_plan new_world shard p ≡ v
  new_word p v lt h =
      let after = (theorem layout shape la ls lf (early ++ own_events)).parts l.pass (own_body n.pages.owner) goes.body
      in after.notes (its_page p) v (owns_page (own_body n.pages.owner) stays.holds.owned p lt)
      (subst (λ (q : ℕ). noted q (own_body n.pages.owner).classes ≡ Some v) (new_number p) h)

  -- no other pass has a slot that it has
  old_mine : (p s : ℕ) → p < old_plan.pages → (page_at o.pages p).mine s ≡ true
      → mine old_world (slot_ref (its_page p) s) ≡ 1
  old_mine p s lt h =
      let x : SlotRef = slot_ref (its_page p) s in
      let it : has (same_slot x) body.mine ≡ true =
      subst (λ (q : ℕ). has (same_slot (slot_ref q s)) body.mine ≡ true) (old_number p) h in
      let some : 0 < mine_at x body = has_some (same_slot x) body.mine it in
      let least : mine_at x body ≤ mine old_world x = total_at (mine_at x) old_world.parts l.pass body body_at in
      let kinds : kind_count old_world (lists_of old_plan early) x ≤ 1 =
      (let sum = all_true.one_kind x in
      let few = if1_few (nat_lt x.slot (slots_under (old_world.words.class_at x.page))) in omega (arith, sum, few)) in
      omega (arith, some, least, kinds)

  -- a slot of the shard that a pass has is its owner's
  has_mine : (p s : ℕ) → p < old_plan.pages → mine old_world (slot_ref (its_page p) s) ≡ 1
      → (page_at o.pages p).mine s ≡ true
  has_mine p s lt one = go ((page_at o.pages p).mine s) refl where
    go : (b : Bool) → (page_at o.pages p).mine s ≡ b → (page_at o.pages p).mine s ≡ true
    go true h = h
    go false h =
        let none : mine old_world (slot_ref (its_page p) s) ≡ 0 = no_mine old_plan old_world (lists_of old_plan early)
        all_true was_still l.pass body body_at (slot_ref (its_page p) s) (owns_page body owns_shard p lt)
        (subst (λ (q : ℕ). has (same_slot (slot_ref q s)) body.mine ≡ false) (old_number p) h) in
        absurd (omega (arith, one, none))

  -- ---- a search in vain that added no entry

  module _ (c : ℕ) (left : NoneLeft c o.pages n.pages) (same : new_world.log ≡ old_world.log) where
    -- the owner knows the class word before the line
    knows_word : (p v : ℕ) → p < old_plan.pages → class_word old_plan old_world shard p ≡ v
        → (page_at n.pages p).class ≡ Some v
    knows_word p v lt h =
        let known = stays.holds.known.words p (counted p lt) in
        let its : class_word old_plan old_world shard p ≡ known.0 =
        old_word p known.0 lt (sym (left.through.classes p) ∙ known.1) in
        known.1 ∙ ap (λ (z : ℕ). Some z) (sym its ∙ h)

    in_heap : (p : ℕ) → class_word old_plan old_world shard p ≡ c + 1 → its_page p < heap_pages old_plan
    in_heap p class = ⊎_elim (λ (lt : its_page p < heap_pages old_plan). lt)
        (λ (ge : heap_pages old_plan ≤ its_page p).
        let none : class_word old_plan old_world shard p ≡ 0 = (all_true.classes (its_page p)).1 ge in
        absurd (omega (arith, none, class)))
        (cases_lt (its_page p) (heap_pages old_plan))

    quiet_after : Quiet new_world
    quiet_after = quiet_still layout shape la ls lf early own_events l.pass o.pages.owner.view.own
        n.pages.owner.view.own goes left.through.put stays.holds.idle

    pub none_left_before : NoSlotLeft old_plan old_world shard c
    none_left_before p s lt class slot =
        let after : IsUsed new_world (slot_ref (its_page p) s) =
        subst (λ (q : ℕ). IsUsed new_world (slot_ref q s)) (new_number p)
        (class_is_used layout shape la ls lf early own_events l.pass c o.pages n.pages goes
        (saw layout shape la ls lf tag early own_events before next l a line inside here there o n was is stays)
        (sees layout shape la ls lf tag early own_events before next l a line inside here there o n was is stays)
        stays.holds.owned stays.holds.idle left p s (counted p lt) (knows_word p (c + 1) lt class) slot) in
        let few = slots_few c in
        let placed : s < 48 = omega (arith, slot, few) in
        used_there layout shape la ls lf (early ++ own_events) early quiet_after
        (says_same new_world.log old_world.log (sym same)) (slot_ref (its_page p) s) (in_heap p class) placed
        after

    pub none_blank_before : ((p : ℕ) → p < n.pages.count → (page_at n.pages p).class ≡ Some 0 → ⊥)
        → NoPageBlank old_plan old_world shard
    none_blank_before none p lt h = none p (counted p lt) (knows_word p 0 lt h)

    pub wholly_after : (p d : ℕ) → p < old_plan.pages → d ≢ c → OwnersWholly old_plan old_world shard p d
        → WhollyMine (page_at n.pages p)
    wholly_after p d lt ne whole =
        let other : (page_at o.pages p).class ≢ Some (c + 1) = λ e.
        let its = old_word p (c + 1) lt e in
        let class = whole.class in ne (omega (arith, its, class)) in
        record {
          class = d;
          classed = knows_word p (suc d) lt (let class = whole.class in omega (arith, class));
          mine = λ s slot. left.kept p other s ∙ has_mine p s lt (whole.whole s slot);
        }

    pub other_after : (p d : ℕ) → p < old_plan.pages → d ≢ c → OwnersWholly old_plan old_world shard p d
        → (page_at n.pages p).class ≢ Some (c + 1)
    other_after p d lt ne whole e =
        let class : class_word old_plan old_world shard p ≡ suc d = (let it = whole.class in omega (arith, it)) in
        let both : suc d ≡ c + 1 = same_Some (suc d) (c + 1) (sym (knows_word p (suc d) lt class) ∙ e) in
        ne (omega (arith, both))

    pub inside_after : (p : ℕ) → p < old_plan.pages → p < n.pages.count
    inside_after p lt = counted p lt

  -- ---- an insert that is ok

  shards_are : o.pages.owner.view.shape.shards ≡ shape.shards
  shards_are = ap (λ (z : Numbers). z.shards) (sym stays.same.shape)
      ∙ subst (λ (s : SeenSide). (shape_in s).shards ≡ shape.shards)
      (ends_is layout shape la ls lf tag early own_events before next l a line inside here there o n was is)
      (there l.pass inside).shards

  -- a key names the same place by the shape that the owner knows
  place_same : (key : ℕ) → place_named (plan_of layout o.pages.owner.view.shape) key ≡ place_named old_plan key
  place_same key = λ i. place_named (record {
    shards = shards_are i;
    pages = old_pages i;
    passes = shape.passes;
    keys = keys_of layout (shards_are i) (old_pages i);
  }) key

  module _ (c key : ℕ) (words : List ℕ) (f : FindsPage layout c key words o n)
      (log : new_world.log ≡ old_world.log ++ Insert l.pass key words ∷ []) where
    there_is : f.page < old_plan.pages
    there_is = in_shard f.page f.inside

    abbrev name : KeyRef
    name = f.names.0

    named : place_named old_plan key ≡ Some name
    named = sym (place_same key) ∙ f.names.1

    at_page : name.page ≡ its_page f.page
    at_page = f.names.2 ∙ old_number f.page

    free : UsedAs (state_of old_world (slot_ref_of name)) → ⊥
    free = was_free layout shape la ls lf early (early ++ own_events) was_still l.pass key words name log named

    below : name.slot < slots c
    below = is_of_class layout shape la ls lf early (early ++ own_events) was_still l.pass key words name log named c
        (ap new_world.words.class_at at_page ∙ new_word f.page (c + 1) there_is f.class)

    by_slot : (page_at o.pages f.page).class ≡ Some (c + 1) → HasRoom old_plan old_world shard c
    by_slot class = inl (
      f.page,
      name.slot,
      there_is,
      old_word f.page (c + 1) there_is class,
      below,
      λ used. free (subst (λ (q : ℕ). IsUsed old_world (slot_ref q name.slot)) (sym at_page) used),
    )

    -- the owner knew that a page was blank
    known_blank : (q : ℕ) → q < old_plan.pages → q ≢ f.page → class_word old_plan old_world shard q ≡ 0
        → (page_at o.pages q).class ≡ Some 0
    known_blank q lt ne none =
        let known = stays.holds.known.words q (counted q lt) in
        let its : (page_at o.pages q).class ≡ Some known.0 = sym (f.others q ne) ∙ known.1 in
        its ∙ ap (λ (z : ℕ). Some z) (sym (old_word q known.0 lt its) ∙ none)

    module _ (after : NextAfterSearch c f.page key words o n) where
      -- the class word of the page was the same before the search
      same_class : (page_at after.searched.pages f.page).class ≡ (page_at o.pages f.page).class
      same_class = after.left.through.classes f.page

      by_blank : IsBlank (page_at after.searched.pages f.page) → HasRoom old_plan old_world shard c
      by_blank blank = inr (inl (f.page, there_is, old_word f.page 0 there_is (sym same_class ∙ blank)))

      by_spare : IsSpare c (page_at after.searched.pages f.page) → HasRoom old_plan old_world shard c
      by_spare spare =
          let d : ℕ = spare.whole.class in
          let ne : d ≢ c = λ e. spare.other (spare.whole.classed
          ∙ ap (λ (z : ℕ). Some z) (let it : suc d ≡ c + 1 = omega (arith, e) in it)) in
          let other : (page_at o.pages f.page).class ≢ Some (c + 1) = λ e. spare.other (same_class ∙ e) in
          inr (inr (
            f.page,
            d,
            there_is,
            ne,
            record {
              class = let its = old_word f.page (suc d) there_is (sym same_class ∙ spare.whole.classed) in
                  omega (arith, its);
              whole = λ s slot. old_mine f.page s there_is
                  (sym (after.left.kept f.page other s) ∙ spare.whole.mine s slot);
            },
          ))

      by_next : IsNextFor c f.page after.searched → HasRoom old_plan old_world shard c
      by_next (inl b) = by_blank b.1.here
      by_next (inr (inl s)) = by_spare s.1.here
      by_next (inr (inr b)) = by_blank b.2.here

      -- no page below it was blank, if it was
      blank_there : (q : ℕ) → q < f.page → class_word old_plan old_world shard q ≡ 0
          → IsBlank (page_at after.searched.pages q)
      blank_there q lt none = after.left.through.classes q
          ∙ known_blank q (let inside = there_is in omega (arith, lt, inside))
          (λ (e : q ≡ f.page). omega (arith, e, lt)) none

      low : IsNextFor c f.page after.searched → class_word old_plan old_world shard f.page ≡ 0 → (q : ℕ) → q < f.page
          → class_word old_plan old_world shard q ≢ 0
      low (inl b) blank q lt none = b.1.lower q lt (blank_there q lt none)
      low (inr (inl s)) blank q lt none =
          let its = old_word f.page (suc s.1.here.whole.class) there_is (sym same_class ∙ s.1.here.whole.classed) in
          absurd (omega (arith, its, blank))
      low (inr (inr b)) blank q lt none = b.2.lower q lt (blank_there q lt none)

    had : ((page_at o.pages f.page).class ≡ Some (c + 1)) ⊎ NextAfterSearch c f.page key words o n
    had = by_found f.found where
      by_found : FoundFor layout c f.page key words o n
          → ((page_at o.pages f.page).class ≡ Some (c + 1)) ⊎ NextAfterSearch c f.page key words o n
      by_found (inl h) = inl h.0
      by_found (inr h) = inr h.3

    pub had_room : HasRoom old_plan old_world shard c
    had_room = ⊎_elim by_slot
        (λ (after : NextAfterSearch c f.page key words o n). by_next after after.prepares.next) had

    -- if the page was given the class, the key's slot is the first one
    begins_slot : FoundFor layout c f.page key words o n → (page_at o.pages f.page).class ≢ Some (c + 1) → name.slot ≡ 0
    begins_slot (inl h) other = absurd (other h.0)
    begins_slot (inr h) other =
        let its = h.1.names in
        let same : name ≡ its.0 = same_Some name its.0 (sym f.names.1 ∙ its.1) in
        ap (λ (x : KeyRef). x.slot) same ∙ (ap (λ (x : SlotRef). x.slot) its.2 ∙ h.2)

    pub begins_page : BeginsPage old_plan tag old_world shard c (shown tag key)
    begins_page = record {
      key = key;
      is = refl;
      name = name;
      named = named;
      page = f.page;
      place = at_page;
      lowest = λ blank. ⊎_elim
          (λ (class : (page_at o.pages f.page).class ≡ Some (c + 1)).
          let its = old_word f.page (c + 1) there_is class in absurd (omega (arith, its, blank)))
          (λ (after : NextAfterSearch c f.page key words o n). low after after.prepares.next blank)
          had;
      begins = λ other. begins_slot f.found (λ class. other (old_word f.page (c + 1) there_is class));
    }
