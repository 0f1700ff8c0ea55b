-- What a step of the owner does on a page of its shard.
use Rattle.std.proofs.Common.{◌≡◌, ◌≢◌, ℕ, ◌+◌, ◌<◌, ◌≤◌, ◌==◌, ◌||◌, true, false, cond, List, [], ◌∷◌, refl, ap, ◌∙◌}
use Rattle.std.proofs.Common.{sym, subst, arith, append-nil, length, set}
use Rattle.std.proofs.lemmas.List.{length-set}
use Rattle.std.proofs.lemmas.Bool.Decides.{nat_tests}
use Rattle.std.proofs.lemmas.Bool.{cond_both}
use Rattle.sh_bell.specs.Bell.{is_armed}
use Rattle.sh_key.specs.Layout.{Layout}
use Rattle.sh_history.specs.declared.entry.Entry.TheVariants as entry
use Rattle.sh_history.specs.declared.log.LogEntry.TheVariants.{Known}
use Rattle.sh_slots.specs.declared.hand.Hand.TheVariants.{Idle}
use Rattle.sh_stack.specs.Stack.{link_item}
use Rattle.sh_lists.specs.Lists.{Lists, refilled}
use Rattle.sh_step.specs.Plans.{plan_of}
use Rattle.sh_states.specs.declared.states.PageState.{PageState}
use Rattle.sh_states.specs.States.{UsesNext, state_at, with_lists}
use Rattle.sh_pass.specs.Passes.{Caller}
use Rattle.sh_pass.specs.Owners.{SeenPage, OwnerActs, OnPage, SameBells, NonePut, NoneArmed, heap_page, seen_bell}
use Rattle.sh_pass.specs.Owners.{IsKeyOfSlot, heap_slot, page_taken, page_armed, page_followed, page_without}
use Rattle.sh_pass.specs.Owners.{page_given}
use Rattle.sh_shard.specs.Pages.{Paged, shard_page, own_slots, WorksOn, TakesPage, CursorMoves, CursorStops}
use Rattle.sh_shard.specs.Pages.{PageInserts, UsesFirst, GivesClass, StepsForSlots}
use Rattle.sh_shard.specs.Slots.{SameSlots, AllFree}
use Rattle.sh_shard.proofs.Bounding.{slots_same, slots_gained}
use Rattle.sh_shard.proofs.Keeping.{page_of, here_at, others_at}
use Rattle.sh_shard.proofs.Counts.{count_more}
use Rattle.sh_shard.proofs.Waits.{waits_at}
use Rattle.sh_shard.proofs.Slots.{same_none, lists_set, lists_beside}

-- what a contract sees of pages
abbrev pub paged_of : Layout → Caller → (shard : ℕ) → List PageState → Paged
paged_of layout v shard k = record {
  owner = v;
  shard = shard;
  count = length k;
  bell = seen_bell layout v shard;
  kept = k;
}

pub works_on : (layout : Layout) (p shard : ℕ) (k k' : List PageState) (v w : Caller) (g : SeenPage) {n : ℕ}
    → OwnerActs Idle [] n v w
    → SameBells layout v w → OnPage (heap_page v (shard_page shard p)) g v w → NonePut v w → length k' ≡ length k
    → ((q : ℕ) → q ≢ p → SameSlots (state_at k q).lists (state_at k' q).lists) → g.class ≡ (page_of v shard p).class
    → (page_of v shard p).takes ≤ g.takes → (page_of v shard p).met ≤ g.met
    → WorksOn p (paged_of layout v shard k) (paged_of layout w shard k')
works_on layout p shard k k' v w g acts bells on put size beside class takes met =
    let here = here_at v w shard p acts.aside.same.shape on in record {
      aside = acts.aside;
      put = put;
      bell = bells shard;
      log = acts.log ∙ append-nil v.view.own.log;
      shard = refl;
      count = size;
      class = ap (λ (z : SeenPage). z.class) here ∙ class;
      takes = subst (λ (z : SeenPage). (page_of v shard p).takes ≤ z.takes) (sym here) takes;
      met = subst (λ (z : SeenPage). (page_of v shard p).met ≤ z.met) (sym here) met;
      others = others_at v w shard p acts.aside.same.shape on;
      beside = beside;
    }

-- one state was changed
pub set_size : (p : ℕ) (k k' : List PageState) (st : PageState) → k' ≡ set k p st → length k' ≡ length k
set_size p k k' st is = ap length is ∙ length-set k p st

pub taken : (layout : Layout) (p n shard : ℕ) (k k' : List PageState) (st : PageState) (v w : Caller)
    → OwnerActs Idle [] 1 v w
    → SameBells layout v w → OnPage (heap_page v (shard_page shard p)) (page_taken (page_of v shard p) n) v w
    → NonePut v w → NoneArmed v w → k' ≡ set k p st
    → TakesPage p (paged_of layout v shard k) (paged_of layout w shard k')
taken layout p n shard k k' st v w acts bells on put arm is =
    let g : SeenPage = page_of v shard p in
    let here : page_of w shard p ≡ page_taken g n = here_at v w shard p acts.aside.same.shape on in record {
      works = works_on layout p shard k k' v w (page_taken g n) acts bells on put (set_size p k k' st is)
          (lists_beside p k k' st is) refl (omega arith) (omega arith);
      arm = arm;
      takes = ap (λ (z : SeenPage). z.takes) here;
      armed = λ e. ap (λ (z : SeenPage). z.armed) here
          ∙ cond_both (is_armed n) false g.armed (λ b. b ≡ false) (λ _. refl) (λ _. e);
      steps = slots_same _ _ _ _ 1 acts.steps (ap own_slots here);
    }

pub arming : (layout : Layout) (p n shard : ℕ) (k k' : List PageState) (v w : Caller) → OwnerActs Idle [] 1 v w
    → OnPage (heap_page v (shard_page shard p)) (page_armed (page_of v shard p) n) v w
    → StepsForSlots 1 p (paged_of layout v shard k) (paged_of layout w shard k')
arming layout p n shard k k' v w acts on = slots_same _ _ _ _ 1 acts.steps
    (ap own_slots (here_at v w shard p acts.aside.same.shape on))

followed_is : (g : SeenPage) (s n : ℕ) → (n ≡ 0 → ⊥) → page_followed g s n
    ≡ record g { mine = λ t. (t == s) || g.mine t; cursor = link_item n }
followed_is g s n some = let e : (n == 0) ≡ false = grind (arith, nat_tests)
    in ap (λ b. cond b (record g { met = g.met + 1 }) (record g
    { mine = λ t. (t == s) || g.mine t; cursor = link_item n })) e

met_is : (g : SeenPage) (s n : ℕ) → n ≡ 0 → page_followed g s n ≡ record g { met = g.met + 1 }
met_is g s n none = let e : (n == 0) ≡ true = grind (arith, nat_tests)
    in ap (λ b. cond b (record g { met = g.met + 1 }) (record g
    { mine = λ t. (t == s) || g.mine t; cursor = link_item n })) e

pub moved : (layout : Layout) (p s n shard : ℕ) (k k' : List PageState) (st : PageState) (v w : Caller)
    → OwnerActs Idle [] 1 v w
    → SameBells layout v w → OnPage (heap_page v (shard_page shard p)) (page_followed (page_of v shard p) s n) v w
    → NonePut v w → NoneArmed v w → (n ≡ 0 → ⊥) → k' ≡ set k p st → s < 48 → (page_of v shard p).mine s ≡ false
    → CursorMoves p (paged_of layout v shard k) (paged_of layout w shard k')
moved layout p s n shard k k' st v w acts bells on put arm some is small none =
    let g : SeenPage = page_of v shard p in
    let h : SeenPage = record g { mine = λ t. (t == s) || g.mine t; cursor = link_item n } in
    let at : OnPage (heap_page v (shard_page shard p)) h v w = record
    { here = on.here ∙ followed_is g s n some; others = on.others } in
    let here : page_of w shard p ≡ h = here_at v w shard p acts.aside.same.shape at in record {
      works = works_on layout p shard k k' v w h acts bells at put (set_size p k k' st is) (lists_beside p k k' st is)
          refl (omega arith) (omega arith);
      arm = arm;
      armed = ap (λ (z : SeenPage). z.armed) here;
      more = ap own_slots here ∙ count_more g.mine s 48 small none;
      steps = slots_gained _ _ _ _ acts.steps (ap own_slots here ∙ count_more g.mine s 48 small none);
    }

pub stopped : (layout : Layout) (p s n shard : ℕ) (k : List PageState) (v w : Caller) → OwnerActs Idle [] 1 v w
    → SameBells layout v w → OnPage (heap_page v (shard_page shard p)) (page_followed (page_of v shard p) s n) v w
    → NonePut v w → NoneArmed v w → n ≡ 0
    → CursorStops p (paged_of layout v shard k) (paged_of layout w shard k)
stopped layout p s n shard k v w acts bells on put arm none =
    let g : SeenPage = page_of v shard p in
    let h : SeenPage = record g { met = g.met + 1 } in
    let at : OnPage (heap_page v (shard_page shard p)) h v w = record
    { here = on.here ∙ met_is g s n none; others = on.others } in
    let here : page_of w shard p ≡ h = here_at v w shard p acts.aside.same.shape at in record {
      works = works_on layout p shard k k v w h acts bells at put refl (λ q ne. same_none (state_at k q).lists) refl
          (omega arith) (omega arith);
      arm = arm;
      armed = ap (λ (z : SeenPage). z.armed) here;
      waits = waits_at (page_of w shard p).cursor g.met (page_of w shard p).met
          (subst (λ (z : SeenPage). g.met < z.met) (sym here) (omega arith));
      steps = slots_same _ _ _ _ 1 acts.steps (ap own_slots here);
    }

-- ---- slots that are used, and a class that is given

pub inserted : (layout : Layout) (p shard s key : ℕ) (k k' : List PageState) (st : PageState) (value : List ℕ)
    (v w : Caller) {m : ℕ} → OwnerActs Idle (Known (entry.Insert v.view.pass key value) ∷ []) m v w
    → SameBells layout v w
    → OnPage (heap_page v (shard_page shard p)) (page_without (page_of v shard p) s) v w → NonePut v w
    → k' ≡ set k p st
    → PageInserts p value key (paged_of layout v shard k) (paged_of layout w shard k')
inserted layout p shard s key k k' st value v w acts bells on put is = record {
  aside = acts.aside;
  put = put;
  bell = bells shard;
  log = acts.log;
  shard = refl;
  count = set_size p k k' st is;
  class = ap (λ (z : SeenPage). z.class) (here_at v w shard p acts.aside.same.shape on);
  others = others_at v w shard p acts.aside.same.shape on;
}

pub gave_class : (layout : Layout) (p shard c : ℕ) (k k' : List PageState) (st : PageState) (v w : Caller)
    → OwnerActs Idle [] 1 v w
    → SameBells layout v w → OnPage (heap_page v (shard_page shard p)) (page_given (page_of v shard p) c) v w
    → NonePut v w → NoneArmed v w → k' ≡ set k p st → p < length k → AllFree c st.lists
    → GivesClass p c (paged_of layout v shard k) (paged_of layout w shard k')
gave_class layout p shard c k k' st v w acts bells on put arm is inside free = record {
  aside = acts.aside;
  put = put;
  arm = arm;
  bell = bells shard;
  log = acts.log ∙ append-nil v.view.own.log;
  shard = refl;
  count = set_size p k k' st is;
  here = here_at v w shard p acts.aside.same.shape on;
  others = others_at v w shard p acts.aside.same.shape on;
  free = subst (AllFree c) (sym (lists_set p k k' st is inside)) free;
  beside = lists_beside p k k' st is;
  steps = acts.steps;
}

-- the key names the first slot of the page
pub used_first : (layout : Layout) (p shard s key : ℕ) (k k' : List PageState) (v w : Caller)
    → UsesNext p s k k' → p < length k
    → IsKeyOfSlot (plan_of layout v.view.shape) (heap_slot v (shard_page shard p) s) key
    → UsesFirst layout (SameSlots (state_at k p).lists) p key (paged_of layout v shard k) (paged_of layout w shard k')
used_first layout p shard s key k k' v w u inside names =
    let st : PageState = with_lists (state_at k p) u.lists in record {
      lists = (state_at k p).lists;
      come = same_none (state_at k p).lists;
      slot = s;
      front = subst (λ (z : Lists). refilled (state_at k p).lists ≡ record z { free = s ∷ z.free })
          (sym (lists_set p k k' st u.left inside)) u.front;
      names = names;
      beside = lists_beside p k k' st u.left;
    }
