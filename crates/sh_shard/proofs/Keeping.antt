-- What is kept of the pages agrees with what is known, step by step.
use Rattle.std.proofs.Common.{◌≡◌, ◌≢◌, ℕ, zero, suc, ◌+◌, ◌-◌, ◌*◌, ◌/◌, ◌<◌, ◌==◌, ⊎_elim, Bool, true, false, cond}
use Rattle.std.proofs.Common.{Option, Some, None, List, [], ◌++◌, length, get_or, set, IfSome, refl, ap, ◌∙◌, sym}
use Rattle.std.proofs.Common.{subst, arith, append-nil, add_left_cancel}
use Rattle.std.specs.Prelude.{nat_lt}
use Rattle.std.proofs.lemmas.List.{get_or-set_same, get_or-set_other, length-set}
use Rattle.std.proofs.lemmas.Bool.{cases_eq}
use Rattle.std.proofs.lemmas.Bool.Decides.{nat_tests}
use Rattle.std.proofs.Math.Nat.{lt-div-mul-add, div-mul-le_self}
use Rattle.sh_history.specs.declared.log.LogEntry.{LogEntry}
use Rattle.sh_key.specs.Layout.{Layout}
use Rattle.sh_lists.specs.Numbers.{Misses}
use Rattle.sh_core.specs.Lists.{slots_under}
use Rattle.sh_shape.specs.Classes.{slots}
use Rattle.sh_shape.specs.Shape.{Numbers}
use Rattle.sh_shape.specs.Places.{pages_of}
use Rattle.sh_slots.specs.declared.hand.Hand.{Hand}
use Rattle.sh_slots.specs.declared.hand.Hand.TheVariants.{Idle}
use Rattle.sh_step.specs.Plans.{Plan, plan_of, shard_of}
use Rattle.sh_step.specs.Rows.{owned_by, own}
use Rattle.sh_stack.specs.Stack.{link_item}
use Rattle.sh_table.specs.Tales.{ViewIsValid}
use Rattle.sh_pass.specs.Passes.{Caller}
use Rattle.sh_pass.specs.Owners.{HasNothing, SeenPage, SeenBell, Aside, OwnerActs, OnPage, SamePages, SameBells}
use Rattle.sh_pass.specs.Owners.{MayTouch, heap_page, own_body, seen_page, seen_bell, page_on_bell, bell_followed}
use Rattle.sh_pass.proofs.SameTales.{later_same}
use Rattle.sh_states.specs.declared.states.PageState.{PageState}
use Rattle.sh_states.specs.States.{blank_state, state_at}
use Rattle.sh_queue.proofs.Numbers.{Misses-from_has}
use Rattle.sh_shard.specs.Pages.{shard_page}
use Rattle.sh_shard.specs.Kept.{KeepsPage, KeepsPages, rings_at}

-- page p of the shard as the owner sees it
abbrev pub page_of : Caller → (shard p : ℕ) → SeenPage
page_of v shard p = seen_page v (heap_page v (shard_page shard p))

pub same_place : (v w : Caller) → w.view.shape ≡ v.view.shape → (shard p : ℕ) → heap_page w (shard_page shard p)
    ≡ heap_page v (shard_page shard p)
same_place v w same shard p = ap (λ (z : Numbers). shard * pages_of z + p) same

pub apart : (v : Caller) (shard p q : ℕ) → q ≢ p → heap_page v (shard_page shard q) ≢ heap_page v (shard_page shard p)
apart v shard p q ne e = ne (add_left_cancel (shard * pages_of v.view.shape) e)

pub here_at : (v w : Caller) (shard p : ℕ) {g : SeenPage} → w.view.shape ≡ v.view.shape
    → OnPage (heap_page v (shard_page shard p)) g v w → page_of w shard p ≡ g
here_at v w shard p same on = ap (seen_page w) (same_place v w same shard p) ∙ on.here

pub others_at : (v w : Caller) (shard p : ℕ) {g : SeenPage} → w.view.shape ≡ v.view.shape
    → OnPage (heap_page v (shard_page shard p)) g v w → (q : ℕ) → q ≢ p → page_of w shard q ≡ page_of v shard q
others_at v w shard p same on q ne = ap (seen_page w) (same_place v w same shard q)
    ∙ on.others (heap_page v (shard_page shard q)) (apart v shard p q ne)

pub all_at : (v w : Caller) (shard : ℕ) → w.view.shape ≡ v.view.shape → SamePages v w → (q : ℕ) → page_of w shard q
    ≡ page_of v shard q
all_at v w shard same on q = ap (seen_page w) (same_place v w same shard q) ∙ on (heap_page v (shard_page shard q))

-- a step on page p, which leaves the states of all others
pub keeps_on : {layout : Layout} {v w : Caller} {shard : ℕ} {rings rings' : Option ℕ} {states after : List PageState}
    {es : List LogEntry} {n : ℕ} {g : SeenPage} (p : ℕ) → KeepsPages layout v shard rings states
    → OwnerActs Idle es n v w → (own_body w).bell_cursor ≡ rings_at w shard rings'
    → OnPage (heap_page v (shard_page shard p)) g v w → ViewIsValid layout w.view → length after ≡ length states
    → KeepsPage (get_or after p blank_state) g → ((q : ℕ) → q ≢ p → get_or after q blank_state
    ≡ get_or states q blank_state) → KeepsPages layout w shard rings' after
keeps_on {layout} {v} {w} {shard} {states = states} {after = after} {g = g} p k acts bells on stands size here others =
    record {
      bell = bells;
      stands = stands;
      idle = acts.hand;
      owned = acts.aside.owned ∙ k.owned;
      few = size ∙ (k.few ∙ ap pages_of (sym acts.aside.same.shape));
      pages = λ q l. ⊎_elim
          (λ (is : q ≡ p). let P : ℕ → Type 0 = λ z. KeepsPage (get_or after z blank_state) (page_of w shard z)
          in subst P (sym is) (subst (KeepsPage (get_or after p blank_state))
          (sym (here_at v w shard p acts.aside.same.shape on)) here))
          (λ (ne : q ≢ p). let P : PageState × SeenPage → Type 0 = λ z. KeepsPage z.0 z.1 in
          let h = others_at v w shard p acts.aside.same.shape on q ne in
          subst P (λ i. (sym (others q ne) i, sym h i)) (k.pages q (subst (λ m. q < m) size l)))
          (cases_eq q p);
    }

pub rings_at_same : (v w : Caller) (shard : ℕ) (rings : Option ℕ) → w.view.shape ≡ v.view.shape → rings_at v shard rings
    ≡ rings_at w shard rings
rings_at_same v w shard None same = refl
rings_at_same v w shard (Some p) same = λ i. Some (shard * pages_of (sym same i) + p)

bell_kept : {layout : Layout} {v w : Caller} {shard : ℕ} {rings : Option ℕ} {states : List PageState}
    → KeepsPages layout v shard rings states → Aside v w → SameBells layout v w → (own_body w).bell_cursor
    ≡ rings_at w shard rings
bell_kept {v = v} {w = w} {shard = shard} {rings = rings} k aside same = ap (λ (b : SeenBell). b.cursor) (same shard)
    ∙ (k.bell ∙ rings_at_same v w shard rings aside.same.shape)

pub keeps_set : {layout : Layout} {v w : Caller} {shard : ℕ} {rings : Option ℕ} {states : List PageState}
    {es : List LogEntry} {n : ℕ} {g : SeenPage} (p : ℕ) (st : PageState) → KeepsPages layout v shard rings states
    → OwnerActs Idle es n v w → SameBells layout v w → OnPage (heap_page v (shard_page shard p)) g v w
    → ViewIsValid layout w.view
    → p < length states → KeepsPage st g → KeepsPages layout w shard rings (set states p st)
keeps_set {states = states} {g = g} p st k acts bells on stands l a =
    keeps_on p k acts (bell_kept k acts.aside bells) on stands (length-set states p st)
    (subst (λ (z : PageState). KeepsPage z g) (sym (get_or-set_same states p st blank_state l)) a)
    (λ q ne. get_or-set_other states p q st blank_state ne)

pub keeps_same : {layout : Layout} {v w : Caller} {shard : ℕ} {rings : Option ℕ} {states : List PageState}
    {es : List LogEntry} {n : ℕ} {g : SeenPage} (p : ℕ) → KeepsPages layout v shard rings states
    → OwnerActs Idle es n v w → SameBells layout v w → OnPage (heap_page v (shard_page shard p)) g v w
    → ViewIsValid layout w.view
    → KeepsPage (get_or states p blank_state) g → KeepsPages layout w shard rings states
keeps_same p k acts bells on stands a = keeps_on p k acts (bell_kept k acts.aside bells) on stands refl a (λ q ne. refl)

pub may_touch : {layout : Layout} {v : Caller} {shard : ℕ} {rings : Option ℕ} {states : List PageState} (p : ℕ)
    → KeepsPages layout v shard rings states → p < length states → MayTouch v (shard_page shard p)
may_touch p k l = record { idle = k.idle; owned = k.owned; page = let f = k.few in omega arith }

-- what holds when the cursor is followed
pub record Ready (st : PageState) (s : ℕ) : Type 0 where
  pub small : s < 48
  pub apart : Misses s (st.lists.free ++ st.lists.local)

pub ready : {layout : Layout} {v : Caller} {shard : ℕ} {rings : Option ℕ} {states : List PageState} (p s : ℕ)
    → KeepsPages layout v shard rings states → p < length states → (page_of v shard p).cursor ≡ Some s
    → Ready (state_at states p) s
ready {v = v} {shard = shard} p s k l cursor =
    let a = k.pages p l in
    let c = k.stands.owner.cursors (heap_page v (shard_page shard p)) s cursor in record {
      small = c.2;
      apart = Misses-from_has s _ (a.mine s ∙ c.3);
    }

-- ---- the bell

-- steps that leave each page as it was
pub keeps_pages : {layout : Layout} {v w : Caller} {shard : ℕ} {rings rings' : Option ℕ} {states : List PageState}
    {es : List LogEntry} {n : ℕ} → KeepsPages layout v shard rings states → OwnerActs Idle es n v w
    → (own_body w).bell_cursor ≡ rings_at w shard rings' → SamePages v w → ViewIsValid layout w.view
    → KeepsPages layout w shard rings' states
keeps_pages {v = v} {w = w} {shard = shard} {states = states} k acts bells pages stands = record {
  stands = stands;
  idle = acts.hand;
  owned = acts.aside.owned ∙ k.owned;
  bell = bells;
  few = k.few ∙ ap pages_of (sym acts.aside.same.shape);
  pages = λ p l. subst (KeepsPage (get_or states p blank_state)) (sym (all_at v w shard acts.aside.same.shape pages p))
      (k.pages p l);
}

-- a word of the bell names a page of the shard by its number there
pub rung_at : (v w : Caller) (shard n : ℕ) (b : ℕ → Option ℕ) (k : ℕ) → w.view.shape ≡ v.view.shape → b n
    ≡ cond (nat_lt n k) None (Some (n - k)) → page_on_bell v shard k n ≡ rings_at w shard (b n)
rung_at v w shard n b k same e = go (nat_lt n k) ∙ ap (rings_at w shard) (sym e) where
  go : (t : Bool) → cond t None (Some (shard * pages_of v.view.shape + (n - k)))
      ≡ rings_at w shard (cond t None (Some (n - k)))
  go true = refl
  go false = λ i. Some (shard * pages_of (sym same i) + (n - k))

home_div : (plan : Plan) (q : ℕ) → shard_of plan q ≡ q / plan.pages
unfolding shard_of
home_div plan q = refl

-- the page at the bell's cursor is armed, and in the shard
pub record AtBell (v : Caller) (shard p : ℕ) (states : List PageState) : Type 0 where
  pub inside : p < length states
  pub armed : (page_of v shard p).armed ≡ true
  pub cursor : (own_body v).bell_cursor ≡ Some (heap_page v (shard_page shard p))

below_pages : (shard p n : ℕ) → (shard * n + p) / n ≡ shard → 0 < n → p < n
below_pages shard p n e some = let d = lt-div-mul-add {a = shard * n + p} {b = n} some
    in let f : (shard * n + p) / n * n ≡ shard * n = ap (λ z. z * n) e in omega arith

within : (p shard n shards k : ℕ) → (shard * n + p) / n ≡ shard → k ≡ n → shard * n + p < shards * n → p < k
within p shard zero shards k e size l = absurd (omega arith)
within p shard (suc n) shards k e size l = let z = below_pages shard p (suc n) e (omega arith) in omega arith

pub at_bell : {layout : Layout} {v : Caller} {shard : ℕ} {rings : Option ℕ} {states : List PageState} (p : ℕ)
    → KeepsPages layout v shard rings states → rings ≡ Some p → AtBell v shard p states
at_bell {layout} {v} {shard} {rings} {states} p k is =
    let cursor : (own_body v).bell_cursor ≡ Some (heap_page v (shard_page shard p)) = k.bell
    ∙ ap (rings_at v shard) is in
    let b = k.stands.owner.bell (heap_page v (shard_page shard p)) cursor in
    let plan = plan_of layout v.view.shape in
    let own_is : (shard == shard_of plan (heap_page v (shard_page shard p)))
    ≡ true = sym (ap (λ (z : Option ℕ). owned_by plan z (heap_page v (shard_page shard p))) k.owned) ∙ b.0 in
    let home_is : shard ≡ shard_of plan (heap_page v (shard_page shard p)) = grind (arith, nat_tests) in
    record {
      inside = within p shard (pages_of v.view.shape) v.view.shape.shards (length states)
          (sym (home_div plan (heap_page v (shard_page shard p))) ∙ sym home_is) k.few b.1;
      armed = b.2;
      cursor = cursor;
    }

-- the page that was read from the bell is no longer armed, and the bell's cursor moves on
pub keeps_bell : {layout : Layout} {v w : Caller} {shard : ℕ} {rings : Option ℕ} {states : List PageState}
    {es : List LogEntry} {m : ℕ} {g : SeenPage} (p n : ℕ) (rings' : Option ℕ) (st : PageState)
    → KeepsPages layout v shard rings states → OwnerActs Idle es m v w
    → seen_bell layout w shard ≡ bell_followed v shard n (seen_bell layout v shard)
    → OnPage (heap_page v (shard_page shard p)) g v w → ViewIsValid layout w.view → p < length states → (n ≡ 0 → ⊥)
    → rings' ≡ link_item n → KeepsPage st g → KeepsPages layout w shard rings' (set states p st)
keeps_bell {layout} {v = v} {w = w} {shard = shard} {states = states} {g = g} p n rings' st k acts bell on stands l some
    next a =
    let e : (n == 0) ≡ false = grind (arith, nat_tests) in
    let b : SeenBell = seen_bell layout v shard in
    let cursor : (bell_followed v shard n b).cursor ≡ page_on_bell v shard 2 n = ap
    (λ t. (cond t (record b { met = b.met + 1 }) (record b { cursor = page_on_bell v shard 2 n })).cursor) e in
    keeps_on p k acts (ap (λ (z : SeenBell). z.cursor) bell ∙
    (cursor ∙ (rung_at v w shard n link_item 2 acts.aside.same.shape refl ∙ ap (rings_at w shard) (sym next)))) on
    stands (length-set states p st) (subst (λ (z : PageState). KeepsPage z g)
    (sym (get_or-set_same states p st blank_state l)) a) (λ q ne. get_or-set_other states p q st blank_state ne)

-- the link at the bell's cursor was not written
pub keeps_bell_waiting : {layout : Layout} {v w : Caller} {shard : ℕ} {rings : Option ℕ} {states : List PageState}
    {es : List LogEntry} {m : ℕ} {g : SeenPage} (p n : ℕ) → KeepsPages layout v shard rings states
    → OwnerActs Idle es m v w
    → seen_bell layout w shard ≡ bell_followed v shard n (seen_bell layout v shard)
    → OnPage (heap_page v (shard_page shard p)) g v w → ViewIsValid layout w.view → n ≡ 0
    → KeepsPage (get_or states p blank_state) g → KeepsPages layout w shard rings states
keeps_bell_waiting {layout} {v = v} {w = w} {shard = shard} {rings = rings} p n k acts bell on stands none a =
    let e : (n == 0) ≡ true = grind (arith, nat_tests) in
    let b : SeenBell = seen_bell layout v shard in
    let cursor : (bell_followed v shard n b).cursor ≡ b.cursor = ap
    (λ t. (cond t (record b { met = b.met + 1 }) (record b { cursor = page_on_bell v shard 2 n })).cursor) e in
    keeps_on p k acts (ap (λ (z : SeenBell). z.cursor) bell ∙
    (cursor ∙ (k.bell ∙ rings_at_same v w shard rings acts.aside.same.shape))) on stands refl a (λ q ne. refl)

-- a cursor that a step left is at a slot of the page
pub cursor_number : {layout : Layout} {v w : Caller} {q : ℕ} {g : SeenPage} (c : Option ℕ) → g.cursor ≡ c
    → OnPage q g v w → ViewIsValid layout w.view → IfSome c (λ s. s < 48)
cursor_number None e on stands = tt
cursor_number {q = q} (Some s) e on stands = let h = stands.owner.cursors q s
    (ap (λ (z : SeenPage). z.cursor) on.here ∙ e) in h.2

slots_below : (c s : ℕ) → (c ≡ 0 → ⊥) → s < slots_under c → s < slots (c - 1)
slots_below c s some l =
    let e : (c == 0) ≡ false = go (c == 0) refl in
    subst (λ b. s < cond b 0 (slots (c - 1))) e l where
      go : (b : Bool) → (c == 0) ≡ b → b ≡ false
      go true e = absurd (some (let z : c ≡ 0 = grind (arith, nat_tests) in z))
      go false e = refl

-- a slot of the owner's is one of the page's class
pub below_class : {layout : Layout} {v : Caller} {shard : ℕ} {rings : Option ℕ} {states : List PageState} (p : ℕ)
    (st : PageState) → KeepsPages layout v shard rings states → KeepsPage st (page_of v shard p)
    → (st.class_word ≡ 0 → ⊥) → (s : ℕ) → (page_of v shard p).mine s ≡ true → s < slots (st.class_word - 1)
below_class {v = v} {shard = shard} p st k a some s h = slots_below st.class_word s some
    (k.stands.owner.mine_below (record { page = heap_page v (shard_page shard p); slot = s }) st.class_word h a.class)

-- ---- a shard in which nothing is left

place_of : {layout : Layout} {v : Caller} {shard : ℕ} {rings : Option ℕ} {states : List PageState}
    → KeepsPages layout v shard rings states → (q : ℕ) → own (plan_of layout v.view.shape) (own_body v) q ≡ true
    → q < v.view.shape.shards * pages_of v.view.shape → (p : ℕ) × (p < length states)
    × (heap_page v (shard_page shard p) ≡ q)
place_of {layout} {v} {shard} {states = states} k q mine l =
    let plan = plan_of layout v.view.shape in
    let own_is : (shard == shard_of plan q) ≡ true = sym (ap (λ (z : Option ℕ). owned_by plan z q) k.owned) ∙ mine in
    let home_is : shard ≡ shard_of plan q = grind (arith, nat_tests) in
    go (pages_of v.view.shape) k.few l (sym (home_div plan q) ∙ sym home_is) where
      go : (n : ℕ) → length states ≡ n → q < v.view.shape.shards * n → q / n ≡ shard → (p : ℕ) × (p < length states)
          × (shard * n + p ≡ q)
      go zero size l e = absurd (omega arith)
      go (suc n) size l e =
          let low = div-mul-le_self q (suc n) in
          let high = lt-div-mul-add {a = q} {b = suc n} (omega arith) in
          let f : q / suc n * suc n ≡ shard * suc n = ap (λ z. z * suc n) e in
          (q - shard * suc n, omega arith, omega arith)

pub nothing_left : {layout : Layout} {v : Caller} {shard : ℕ} {rings : Option ℕ} {states : List PageState}
    → KeepsPages layout v shard rings states → ((p : ℕ) → p < length states → HasNothing (page_of v shard p)) → (q : ℕ)
    → HasNothing (seen_page v q)
nothing_left {layout} {v} {shard} {states = states} k none q = record {
  mine = λ s. mine s ((seen_page v q).mine s) refl;
  cursor = cursor (seen_page v q).cursor refl;
  armed = armed
      (seen_page v q).armed refl;
} where
  at : own (plan_of layout v.view.shape) (own_body v) q ≡ true → q < v.view.shape.shards * pages_of v.view.shape
      → HasNothing (seen_page v q)
  at o l = let x = place_of k q o l in subst (λ z. HasNothing (seen_page v z)) x.2 (none x.0 x.1)

  mine : (s : ℕ) (b : Bool) → (seen_page v q).mine s ≡ b → b ≡ false
  mine s true e = let h = k.stands.owner.mine (record { page = q; slot = s }) e in sym e ∙ (at h.0 h.1).mine s
  mine s false e = refl

  cursor : (c : Option ℕ) → (seen_page v q).cursor ≡ c → c ≡ None
  cursor None e = refl
  cursor (Some s) e = let h = k.stands.owner.cursors q s e in sym e ∙ (at h.0 h.1).cursor

  armed : (b : Bool) → (seen_page v q).armed ≡ b → b ≡ false
  armed true e = let h = k.stands.owner.armed q e in sym e ∙ (at h.0 h.1).armed
  armed false e = refl

-- ---- two steps that put a slot

pub two_acts : {u v w : Caller} {h k : Hand} → OwnerActs h [] 1 u v → OwnerActs k [] 1 v w → k ≡ Idle
    → OwnerActs Idle [] 2 u w
two_acts {u} {v} g h idle = record {
  aside = record {
    heap = h.aside.heap ∙ g.aside.heap;
    same = later_same g.aside.same h.aside.same;
    owned = h.aside.owned ∙ g.aside.owned;
    holds = h.aside.holds ∙ g.aside.holds;
  };
  hand = h.hand ∙ idle;
  log = h.log ∙ (append-nil v.view.own.log ∙ g.log);
  steps = let a = g.steps in let b = h.steps in omega arith;
}

pub page_then : {u v w : Caller} {q : ℕ} {g : SeenPage} → OnPage q g u v → SamePages v w → OnPage q g u w
page_then {q = q} on same = record { here = same q ∙ on.here; others = λ r ne. same r ∙ on.others r ne }

-- the owner has nothing in a blank page
pub blank_nothing : {layout : Layout} {v : Caller} {shard : ℕ} {rings : Option ℕ} {states : List PageState} (p : ℕ)
    → KeepsPages layout v shard rings states → p < length states → (page_of v shard p).class ≡ Some 0
    → HasNothing (page_of v shard p)
blank_nothing {v = v} {shard = shard} {states = states} p k l is =
    let a = k.pages p l in
    let word : (get_or states p blank_state).class_word ≡ 0 =
    (let e : Some (get_or states p blank_state).class_word ≡ Some 0 = sym a.class ∙ is in cc) in
    record {
      mine = λ s. go s ((page_of v shard p).mine s) refl;
      cursor = a.cursor ∙ a.unread word;
      armed = a.armed ∙ a.blank word;
    } where
      go : (s : ℕ) (b : Bool) → (page_of v shard p).mine s ≡ b → (page_of v shard p).mine s ≡ false
      go s true e = absurd (let below = k.stands.owner.mine_below
          (record { page = heap_page v (shard_page shard p); slot = s }) 0 e is in omega arith)
      go s false e = e
