-- A slot that the owner gained is in its page's lists.
use Rattle.std.proofs.Common.{◌≡◌, ◌≢◌, ℕ, suc, ◌+◌, ◌*◌, ◌^◌, ◌<◌, ◌≤◌, ⊎_elim, Option, Some, None, IfSome}
use Rattle.std.proofs.Common.{MatchOption, List}
use Rattle.std.proofs.Common.{length, get_or, set, refl, ap, ◌∙◌, sym, subst, arith}
use Rattle.std.proofs.lemmas.Bool.{cases_eq}
use Rattle.std.proofs.Math.Nat.{mul-le-mul_right}
use Rattle.std.proofs.lemmas.List.{get_or-set_same, get_or-set_other, length-set}
use Rattle.sh_key.specs.Layout.{Layout}
use Rattle.sh_shape.specs.Places.{pages_of}
use Rattle.sh_slots.specs.declared.hand.SlotRef.{SlotRef}
use Rattle.sh_step.specs.declared.action.PageName.{PageName}
use Rattle.sh_table.specs.Tales.{ViewIsValid}
use Rattle.sh_pass.specs.Passes.{Caller}
use Rattle.sh_pass.specs.Owners.{SeenBell, CallLeaves, SlotCame, MayTouch, OnPage, heap_page, seen_page, page_with}
use Rattle.sh_states.specs.declared.states.PageState.{PageState}
use Rattle.sh_states.specs.States.{blank_state, state_at, with_local}
use Rattle.sh_queue.proofs.Numbers.{Misses-from_has}
use Rattle.sh_shard.specs.Pages.{SameLists, GainsFirst, shard_page, GainsSlot}
use Rattle.sh_shard.specs.Kept.{KeepsPage, KeepsPages, MayGain, PushesGained}
use Rattle.sh_shard.proofs.PageLaws.{kept_with}
use Rattle.sh_shard.proofs.Keeping.{page_of, here_at, others_at, all_at, rings_at_same}
use Rattle.sh_shard.proofs.PageSteps.{paged_of}
use Rattle.sh_shard.proofs.Slots.{same_is, lists_set, lists_beside}

-- the pages of a shard are among those of the heap
pub few_pages : {layout : Layout} {v : Caller} {shard : ℕ} {rings : Option ℕ} {states : List PageState}
    → KeepsPages layout v shard rings states → shard * length states + length states ≤ 2 ^ 24
few_pages {layout} {v} {shard} {states = states} k = go (length states) k.few (k.stands.owner.owned shard k.owned)
    k.stands.few_pages where
      go : (n : ℕ) → n ≡ pages_of v.view.shape → shard < v.view.shape.shards
          → v.view.shape.shards * pages_of v.view.shape ≤ 2 ^ 24 → shard * n + n ≤ 2 ^ 24
      go n e l few =
          let a : shard * pages_of v.view.shape + pages_of v.view.shape
          ≤ v.view.shape.shards * pages_of v.view.shape = more shard v.view.shape.shards (pages_of v.view.shape) l in
          subst (λ z. shard * z + z ≤ 2 ^ 24) (sym e) (omega arith) where
            more : (s t n : ℕ) → s < t → s * n + n ≤ t * n
            more s t n l = let x : suc s * n ≤ t * n = mul-le-mul_right {m = suc s} {n = t} n l in omega arith

-- the page that is named is one of the shard
named : {layout : Layout} {v : Caller} {shard : ℕ} {rings : Option ℕ} {states : List PageState} (y : PageName)
    → KeepsPages layout v shard rings states → MayTouch v y → y.shard ≡ shard
named y k t = let e : Some y.shard ≡ Some _ = sym t.owned ∙ k.owned in cc

pub may_gain : {layout : Layout} {v : Caller} {shard : ℕ} {rings : Option ℕ} {states : List PageState}
    (gained : Option SlotRef) (w : Caller) → KeepsPages layout v shard rings states → SlotCame gained v w
    → MayGain shard states gained
may_gain None w k s = tt
may_gain {layout} {v} {shard} {rings} {states} (Some x) w k s =
    let y : PageName = s.0 in
    let is : y.shard ≡ shard = named y k s.1 in
    let at : x.page ≡ heap_page v (shard_page shard y.page) = s.2 ∙ ap (λ z. z * pages_of v.view.shape + y.page) is in
    let l : y.page < length states = let f = k.few in let t = s.1.page in omega arith in (
      y.page,
      l,
      at ∙ ap (λ z. shard * z + y.page) (sym k.few),
      s.3,
      Misses-from_has x.slot _
          ((k.pages y.page l).mine x.slot ∙ (ap (λ z. (seen_page v z).mine x.slot) (sym at) ∙ s.4)),
    )

-- what is kept is still known
pub record KeptAfter (layout : Layout) (v w : Caller) (shard : ℕ) (rings : Option ℕ) (old new : List PageState)
    (page : Option ℕ) : Type 0 where
  pub keeps : KeepsPages layout w shard rings new
  pub comes : GainsSlot page (paged_of layout v shard old) (paged_of layout w shard new)

pub kept_after : {layout : Layout} {v : Caller} {shard : ℕ} {rings : Option ℕ} {states : List PageState}
    (gained : Option SlotRef) (page : Option ℕ) (w : Caller) (after : List PageState)
    → KeepsPages layout v shard rings states → CallLeaves layout gained v w → ViewIsValid layout w.view
    → PushesGained shard gained states page after → KeptAfter layout v w shard rings states after page
kept_after {layout} {v} {shard} {rings} {states} None page w after k h stands c =
    let same = all_at v w shard h.same.shape h.slot in
    let size : length after ≡ length states = ap length c.1 in record {
      keeps = record {
        stands = stands;
        idle = h.idle;
        owned = h.owned ∙ k.owned;
        bell = ap (λ (b : SeenBell). b.cursor) (h.bells shard) ∙ (k.bell ∙ rings_at_same v w shard rings h.same.shape);
        few = size ∙ (k.few ∙ ap pages_of (sym h.same.shape));
        pages = λ p l. subst (λ (z : List PageState). KeepsPage (get_or z p blank_state) (page_of w shard p)) (sym c.1)
            (subst (KeepsPage (get_or states p blank_state)) (sym (same p)) (k.pages p (omega arith)));
      };
      comes = record {
        owned = h.owned;
        same = h.same;
        bell = h.bells shard;
        shard = refl;
        count = size;
        inside = subst (λ (z : Option ℕ). IfSome z (λ p. p < length after)) (sym c.0) tt;
        here = subst (λ (z : Option ℕ). IfSome z (λ p. (s : ℕ) × (page_of w shard p ≡ page_with (page_of v shard p) s)))
            (sym c.0) tt;
        others = λ q ne. same q;
        lists = subst (λ (z : Option ℕ). MatchOption z (SameLists (paged_of layout v shard states)
            (paged_of layout w shard after))
            (λ p. GainsFirst p (paged_of layout v shard states) (paged_of layout w shard after))) (sym c.0)
            (λ q. same_is _ _ (ap (λ (z : List PageState). (state_at z q).lists) c.1));
      };
    }
kept_after {layout} {v} {shard} {rings} {states} (Some x) page w after k h stands c =
    let p : ℕ = c.0 in
    let place : x.page ≡ heap_page v (shard_page shard p) = c.3 ∙ ap (λ z. shard * z + p) k.few in
    let on : OnPage (heap_page v (shard_page shard p)) (page_with (page_of v shard p) x.slot) v w = subst
    (λ z. OnPage z (page_with (seen_page v z) x.slot) v w) place h.slot.5 in
    let st : PageState = with_local (get_or states p blank_state) x.slot in
    let here : page_of w shard p ≡ page_with (page_of v shard p) x.slot = here_at v w shard p h.same.shape on in
    let others = others_at v w shard p h.same.shape on in
    let size : length after ≡ length states = ap length c.4 ∙ length-set states p st in record {
      keeps = record {
        stands = stands;
        idle = h.idle;
        owned = h.owned ∙ k.owned;
        bell = ap (λ (b : SeenBell). b.cursor) (h.bells shard) ∙ (k.bell ∙ rings_at_same v w shard rings h.same.shape);
        few = size ∙ (k.few ∙ ap pages_of (sym h.same.shape));
        pages = λ q l. subst (λ (z : List PageState). KeepsPage (get_or z q blank_state) (page_of w shard q)) (sym c.4)
            (⊎_elim
            (λ (is : q ≡ p). subst (λ z. KeepsPage (get_or (set states p st) z blank_state) (page_of w shard z))
            (sym is)
            (subst (λ (z : PageState). KeepsPage z (page_of w shard p))
            (sym (get_or-set_same states p st blank_state c.2))
            (subst (KeepsPage st) (sym here) (kept_with (get_or states p blank_state) (page_of v shard p) x.slot
            st.lists (k.pages p c.2) refl))))
            (λ (ne : q ≢ p). subst (λ (z : PageState). KeepsPage z (page_of w shard q))
            (sym (get_or-set_other states p q st blank_state ne))
            (subst (KeepsPage (get_or states q blank_state)) (sym (others q ne)) (k.pages q (omega arith))))
            (cases_eq q p));
      };
      comes = record {
        owned = h.owned;
        same = h.same;
        bell = h.bells shard;
        shard = refl;
        count = size;
        inside = subst (λ (z : Option ℕ). IfSome z (λ p. p < length after)) (sym c.1) (let l = c.2 in omega arith);
        here = subst (λ (z : Option ℕ). IfSome z (λ p. (s : ℕ) × (page_of w shard p ≡ page_with (page_of v shard p) s)))
            (sym c.1) (x.slot, here);
        others = λ q ne. others q (λ (is : q ≡ p). ne (c.1 ∙ ap Some (sym is)));
        lists = subst (λ (z : Option ℕ). MatchOption z (SameLists (paged_of layout v shard states)
            (paged_of layout w shard after))
            (λ p. GainsFirst p (paged_of layout v shard states) (paged_of layout w shard after))) (sym c.1)
            (record {
              slot = x.slot;
              here = here;
              lists = lists_set p states after st c.4 c.2;
              beside = lists_beside p states after st c.4;
            });
      };
    }
