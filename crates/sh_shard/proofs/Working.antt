-- Work on one page, over one piece of work after another.
use Rattle.std.proofs.Common.{◌≡◌, ◌≢◌, ℕ, zero, suc, ◌+◌, ◌*◌, ◌<◌, ◌≤◌, ◌⊎◌, inr, ⊎_elim, true, Option, Some, None}
use Rattle.std.proofs.Common.{MatchOption, List}
use Rattle.std.proofs.Common.{[], ◌∷◌, ◌++◌, refl, ap, ◌∙◌, sym, subst, arith}
use Rattle.sh_history.specs.declared.entry.Entry.TheVariants as entry
use Rattle.sh_history.specs.declared.log.LogEntry.TheVariants.{Known}
use Rattle.sh_key.specs.Layout.{Layout}
use Rattle.sh_queue.specs.Numbers.{has_number}
use Rattle.sh_shape.specs.Places.{pages_of}
use Rattle.sh_shape.specs.Shape.{Numbers}
use Rattle.sh_slots.specs.declared.hand.KeyRef.{KeyRef}
use Rattle.sh_step.specs.Moves.{place_named}
use Rattle.sh_step.specs.Plans.{plan_of, shard_of}
use Rattle.sh_states.specs.declared.states.PageState.{PageState}
use Rattle.sh_lists.specs.Lists.{Lists, refilled, refilled_by}
use Rattle.sh_lists.specs.Numbers.{upward}
use Rattle.sh_shape.specs.Classes.{slots}
use Rattle.sh_pass.specs.Owners.{SeenPage, Aside, NoneArmed, IsKeyOfSlot}
use Rattle.sh_shard.specs.Kept.{KeepsPage}
use Rattle.sh_shard.specs.Pages.{Paged, page_at, own_slots, NothingMine, WorksOn, TakesPage, CursorStops, CollectsPage}
use Rattle.sh_shard.specs.Pages.{ArmsAndFollows, PageDone, PageInserts, NamesSlot, StepsForSlots, UsesFirst, lists_at}
use Rattle.sh_shard.specs.Slots.{SameSlots, AllFree}
use Rattle.sh_shard.proofs.Sides.{aside_none}
use Rattle.sh_shard.proofs.Bounding.{slots_none, slots_then}
use Rattle.sh_shard.proofs.Counts.{own_few}
use Rattle.sh_shard.proofs.Waits.{waits_since}
use Rattle.sh_shard.proofs.Slots.{same_none, same_then}
use Rattle.sh_pass.proofs.OwnRuns.{aside_then}

pub works_none : (p : ℕ) (o : Paged) → WorksOn p o o
works_none p o = record {
  aside = aside_none o.owner;
  put = refl;
  bell = refl;
  log = refl;
  shard = refl;
  count = refl;
  class = refl;
  takes = omega arith;
  met = omega arith;
  others = λ q ne. refl;
  beside = λ q ne. same_none (lists_at o q);
}

pub works_more : (p : ℕ) (o m n : Paged) → WorksOn p o m → WorksOn p m n → WorksOn p o n
works_more p o m n g h = record {
  aside = aside_then g.aside h.aside;
  put = h.put ∙ g.put;
  bell = h.bell ∙ g.bell;
  log = h.log ∙ g.log;
  shard = h.shard ∙ g.shard;
  count = h.count ∙ g.count;
  class = h.class ∙ g.class;
  takes = omega (arith, g.takes, h.takes);
  met = omega (arith, g.met, h.met);
  others = λ q ne. h.others q ne ∙ g.others q ne;
  beside = λ q ne. same_then (lists_at o q) (lists_at m q) (lists_at n q) (g.beside q ne) (h.beside q ne);
}

-- ---- the cursor is followed

pub stops_none : (p : ℕ) (o : Paged) → (page_at o p).cursor ≡ None → CursorStops p o o
stops_none p o e = record {
  works = works_none p o;
  arm = refl;
  armed = refl;
  steps = slots_none 1 p o;
  waits = subst
      (λ (c : Option ℕ). MatchOption c (Unit {0}) (λ _. (page_at o p).met < (page_at o p).met)) (sym e) tt;
}

pub stops_more : (p : ℕ) (o m n : Paged) → WorksOn p o m → NoneArmed o.owner m.owner → (page_at m p).armed
    ≡ (page_at o p).armed → StepsForSlots 0 p o m → CursorStops p m n → CursorStops p o n
stops_more p o m n g arm e t h = record {
  steps = slots_then 0 1 1 p o m n t h.steps (omega arith);
  works = works_more p o m n g h.works;
  arm = h.arm ∙ arm;
  armed = h.armed
      ∙ e;
  waits = waits_since (page_at n p).cursor _ _ _ _ g.met h.waits;
}

pub too_many : {A : Type 0} (p i : ℕ) (v : Paged) → i ≤ own_slots (page_at v p) → 49 ≤ i → A
too_many p i v l m = let f = own_few (page_at v p) in absurd (omega arith)

-- ---- the stack is collected, and the page armed

pub collects : (p : ℕ) (o m n : Paged) → WorksOn p o m → StepsForSlots 1 p o m → CursorStops p m n → CollectsPage p o n
collects p o m n g t h = record {
  steps = slots_then 1 1 2 p o m n t h.steps (omega arith);
  works = works_more p o m n g h.works;
  waits = waits_since (page_at n p).cursor _ _ _ _ g.met
      h.waits;
}

pub collects_after_taking : (p : ℕ) (o m n : Paged) → TakesPage p o m → CursorStops p m n → CollectsPage p o n
collects_after_taking p o m n t h = collects p o m n t.works t.steps h

guard_waits : (c : Option ℕ) (A B : Type 0) (x : ℕ) (y : ℕ) → A → MatchOption c (Unit {0}) (λ _. x < y)
    → MatchOption c A (λ _. B ⊎ (x < y))
guard_waits None A B x y a h = a
guard_waits (Some s) A B x y a h = inr h

pub guards : (p : ℕ) (o m n : Paged) → WorksOn p o m → (page_at m p).armed ≡ true → StepsForSlots 1 p o m
    → CursorStops p m n → ArmsAndFollows p o n
guards p o m n g e t h = record {
  steps = slots_then 1 1 2 p o m n t h.steps (omega arith);
  works = works_more p o m n g h.works;
  waits = guard_waits (page_at n p).cursor _ _ _ _
      (h.armed ∙ e) (waits_since (page_at n p).cursor _ _ _ _ g.met h.waits);
}

done_waits : (p : ℕ) (o m n : Paged) (c : Option ℕ) → (page_at n p).cursor ≡ c → CollectsPage p o m
    → ArmsAndFollows p m n
    → MatchOption c ((page_at n p).armed ≡ true) (λ _. (n ≡ m) ⊎ ((page_at m p).met < (page_at n p).met))
    → MatchOption c ((page_at n p).armed ≡ true) (λ _. (page_at o p).met < (page_at n p).met)
done_waits p o m n None e g h w = w
done_waits p o m n (Some s) e g h w = ⊎_elim
    (λ (same : n ≡ m).
    let P : Option ℕ → Type 0 = λ z. MatchOption z (Unit {0}) (λ _. (page_at o p).met < (page_at m p).met) in
    let at_m : (page_at o p).met < (page_at m p).met = subst P (sym (ap (λ (v : Paged). (page_at v p).cursor) same) ∙ e)
    g.waits in
    subst (λ (v : Paged). (page_at o p).met < (page_at v p).met) (sym same) at_m)
    (λ (l : (page_at m p).met < (page_at n p).met). omega (arith, g.works.met))
    w

pub done_of : (p : ℕ) (o m n : Paged) → CollectsPage p o m → ArmsAndFollows p m n → NothingMine (page_at n p)
    → WorksOn p o n × PageDone o n p
done_of p o m n g h empty = (
  works_more p o m n g.works h.works,
  record
      { mine = empty; waits = done_waits p o m n (page_at n p).cursor refl g h h.waits },
)

-- a page whose lists are empty
pub none_mine : (st : PageState) (g : SeenPage) → KeepsPage st g → st.lists.free ≡ [] → st.lists.local ≡ []
    → NothingMine g
none_mine st g a e f s = sym (a.mine s) ∙ (λ i. has_number s (e i ++ f i))

-- ---- an insert after work

pub inserts_after : (p key : ℕ) (value : List ℕ) (o m n : Paged) → WorksOn p o m → PageInserts p value key m n
    → PageInserts p value key o n
inserts_after p key value o m n g h = record {
  aside = aside_then g.aside h.aside;
  put = h.put ∙ g.put;
  bell = h.bell ∙ g.bell;
  log = h.log ∙ (λ i. g.log i ++ Known (entry.Insert (g.aside.same.pass i) key value) ∷ []);
  shard = h.shard ∙ g.shard;
  count = h.count ∙ g.count;
  class = h.class ∙ g.class;
  others = λ q ne. h.others q ne ∙ g.others q ne;
}

-- what a key names after work on the pages of the shard, it named before
pub names_before : (layout : Layout) (p key : ℕ) (o m : Paged) → Aside o.owner m.owner → m.shard ≡ o.shard
    → NamesSlot layout p key m → NamesSlot layout p key o
names_before layout p key o m aside shard h =
    let S : Numbers × ℕ → Type 0 = λ z. (x : KeyRef) × (place_named (plan_of layout z.0) key ≡ Some x)
    × (shard_of (plan_of layout z.0) x.page ≡ z.1) in
    let P : Numbers × ℕ → Type 0 = λ z. (x : KeyRef) × (place_named (plan_of layout z.0) key ≡ Some x)
    × (x.page ≡ z.1 * pages_of z.0 + p) in record {
      shard = subst S (λ i. (aside.same.shape i, shard i)) h.shard;
      page = subst P (λ i. (aside.same.shape i, shard i)) h.page;
    }

pub names_after : (layout : Layout) (p q key : ℕ) (o m : Paged) → WorksOn q o m → NamesSlot layout p key m
    → NamesSlot layout p key o
names_after layout p q key o m g h = names_before layout p key o m g.aside g.shard h

-- the slot that it names, it named before; and the slots were taken from what the page had before
pub first_since : (layout : Layout) (from from' : Lists → Type 0) (p key : ℕ) (o m n : Paged) → Aside o.owner m.owner
    → m.shard ≡ o.shard → ((l : Lists) → from l → from' l)
    → ((q : ℕ) → q ≢ p → SameSlots (lists_at o q) (lists_at m q)) → UsesFirst layout from p key m n
    → UsesFirst layout from' p key o n
first_since layout from from' p key o m n aside shard came beside u =
    let P : Numbers × ℕ → Type 0 = λ z. IsKeyOfSlot (plan_of layout z.0)
    (record { page = z.1 * pages_of z.0 + p; slot = u.slot }) key in record {
      lists = u.lists;
      come = came u.lists u.come;
      slot = u.slot;
      front = u.front;
      names = subst P (λ i. (aside.same.shape i, shard i)) u.names;
      beside = λ q ne. same_then (lists_at o q) (lists_at m q) (lists_at n q) (beside q ne) (u.beside q ne);
    }

-- the same with less said of the lists
pub first_from : (layout : Layout) (from from' : Lists → Type 0) (p key : ℕ) (o n : Paged)
    → ((l : Lists) → from l → from' l) → UsesFirst layout from p key o n → UsesFirst layout from' p key o n
first_from layout from from' p key o n came u = record {
  lists = u.lists;
  come = came u.lists u.come;
  slot = u.slot;
  front = u.front;
  names = u.names;
  beside = u.beside;
}

-- ---- the first slot of a page that was given a class

first_zero : (k s : ℕ) (l m : Lists) → l.free ≡ upward 0 k → l.local ≡ []
    → refilled l ≡ record m { free = s ∷ m.free } → s ≡ 0
first_zero zero s l m free local front =
    let is : refilled_by [] l ≡ record m { free = s ∷ m.free } = subst
    (λ (f : List ℕ). refilled_by f l ≡ record m { free = s ∷ m.free }) free front in
    let none : [] ≡ s ∷ m.free = sym local ∙ ap (λ (z : Lists). z.free) is in absurd (let z : ⊥ = cc in z)
first_zero (suc k) s l m free local front =
    let is : refilled_by (0 ∷ upward 1 k) l ≡ record m { free = s ∷ m.free } = subst
    (λ (f : List ℕ). refilled_by f l ≡ record m { free = s ∷ m.free }) free front in
    let some : s ∷ m.free ≡ 0 ∷ upward 1 k = sym (ap (λ (z : Lists). z.free) is) ∙ free in cc

-- a page whose slots are all free begins with slot 0
pub begins_first : (layout : Layout) (c p key : ℕ) (o n : Paged) (u : UsesFirst layout (AllFree c) p key o n)
    → u.slot ≡ 0
begins_first layout c p key o n u = first_zero (slots c) u.slot u.lists (lists_at n p) u.come.free u.come.local u.front
