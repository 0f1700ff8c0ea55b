-- Walks, one place after the other.
use Rattle.std.proofs.Common.{◌≡◌, ℕ, zero, suc, ◌+◌, ◌-◌, ◌*◌, ◌<◌, ◌≤◌, ◌⊎◌, inl, inr, List, [], ◌∷◌, ◌++◌, length}
use Rattle.std.proofs.Common.{refl, sym, ◌∙◌, ap, subst, arith, append_assoc, append-nil, Option, Some, None, Result, Ok, Err}
use Rattle.std.specs.Prelude.{min}
use Rattle.std.proofs.Math.Nat.{min-eq_left, min-eq_right, min-le_left, mul-add}
use Rattle.std.proofs.lemmas.List.{map-append}
use Rattle.std.proofs.lemmas.Nat.{mul-le}
use Rattle.sh_key.specs.Layout.{Layout}
use Rattle.sh_shape.specs.Places.{all_pages}
use Rattle.sh_step.specs.declared.footstep.Footstep.{Footstep}
use Rattle.sh_step.specs.Plans.{Plan, plan_of}
use Rattle.sh_history.specs.declared.entry.Entry.TheVariants as entry
use Rattle.sh_history.specs.declared.log.LogEntry.{LogEntry}
use Rattle.sh_history.specs.declared.log.LogEntry.TheVariants.{Known}
use Rattle.sh_table.specs.Views.{Each}
use Rattle.sh_value.specs.declared.refusal.Refusal.{Refusal}
use Rattle.sh_value.specs.declared.refusal.Refusal.TheVariants as refusal
use Rattle.sh_pass.specs.Owners.{IsKeyOfSlot}
use Rattle.sh_pass.specs.Passes.{Caller, CallAdds, holds, plan_for}
use Rattle.sh_pass.specs.Missing.{MissesKeysOf}
use Rattle.sh_pass.specs.Peeks.{slot_at}
use Rattle.sh_pass.proofs.DecidedLaws.{stepped_then}
use Rattle.sh_pass.proofs.SameTales.{later_same, same_now}
use Rattle.sh_table.proofs.Zips.{each_append}
use Rattle.sh_pass.specs.declared.next_key.NextKey.{NextKey}
use Rattle.sh_member.specs.declared.walking.NextHeld.{NextHeld}
use Rattle.sh_member.specs.declared.walking.NextLive.{NextLive}
use Rattle.sh_member.specs.Walks.{IsKeyBetween, Meets, MissesBetween, NextHeldDoes, gone_entries}
use Rattle.sh_member.specs.Walks.{PeeksIfFull, PutsIfLive, PutsLive, Skips, holds_with, live_entry, with_value}
use Rattle.sh_pass.proofs.MissedLaws.{misses_keys_after, misses_keys_from, misses_keys_on}
use Rattle.sh_pass.proofs.PeekLaws.{past_the_heap}

-- ---- one call after the other

pub adds_along : {es fs : List LogEntry} {hs ks : List ℕ} {m n : ℕ} (P Q R : List Footstep → Type 0) (most : ℕ)
    (v a b : Caller) → CallAdds es hs m P v a → CallAdds fs ks n Q a b → m + n ≤ most
    → ((xs ys : List Footstep) → P xs → Q ys → R (xs ++ ys)) → CallAdds (es ++ fs) ks most R v b
adds_along {es} {fs} P Q R most v a b x y fits on = record {
  heap = y.heap ∙ x.heap;
  same = later_same x.same y.same;
  log = y.log ∙ (ap (λ (l : List LogEntry). l ++ fs) x.log ∙ append_assoc v.view.own.log es fs);
  holds = y.holds;
  steps = let first = x.steps in let last = y.steps in omega arith;
  first = stepped_then v.view a.view b.view P Q R x.first y.first on;
  alone = λ f none. y.alone f none ∙ x.alone f none;
}

-- the same for a larger bound, and for less that is known of the steps
pub adds_to : {es : List LogEntry} {hs : List ℕ} {m : ℕ} (P Q : List Footstep → Type 0) (most : ℕ) (v w : Caller)
    → CallAdds es hs m P v w → m ≤ most → ((xs : List Footstep) → P xs → Q xs) → CallAdds es hs most Q v w
adds_to P Q most v w x fits on = record {
  heap = x.heap;
  same = x.same;
  log = x.log;
  holds = x.holds;
  steps = let few = x.steps in omega arith;
  first = (x.first.0, x.first.1, on x.first.0 x.first.2);
  alone = x.alone;
}

-- nothing was done yet
pub adds_none : (P : List Footstep → Type 0) (most : ℕ) (v : Caller) → P [] → CallAdds [] (holds v) most P v v
adds_none P most v so = record {
  heap = refl;
  same = same_now v.view;
  log = sym (append-nil v.view.own.log);
  holds = refl;
  steps = omega arith;
  first = ([], sym (append-nil v.view.own.trail), so);
  alone = λ f none. refl;
}

-- the heap, and so how keys are numbered, is as before
pub same_plan : (layout : Layout) (v a : Caller) → a.heap ≡ v.heap → plan_for layout a ≡ plan_for layout v
same_plan layout v a same = ap (λ h. plan_of layout h.shape) same

-- ---- places

below_or_from : (n mid : ℕ) → (n < mid) ⊎ (mid ≤ n)
below_or_from n zero = inr (omega arith)
below_or_from zero (suc m) = inl (omega arith)
below_or_from (suc n) (suc m) = up (below_or_from n m) where
  up : (n < m) ⊎ (m ≤ n) → (suc n < suc m) ⊎ (suc m ≤ suc n)
  up (inl less) = inl (omega arith)
  up (inr more) = inr (omega arith)

-- the end of a walk: the place before which it was to end, or the end of the heap
pub ends : (before places place : ℕ) → min before places ≤ place → (before ≤ place) ⊎ (places ≤ place)
ends before places place past = by (below_or_from before places) where
  by : (before < places) ⊎ (places ≤ before) → (before ≤ place) ⊎ (places ≤ place)
  by (inl less) = inl (subst (λ n. n ≤ place) (min-eq_left (omega arith)) past)
  by (inr more) = inr (subst (λ n. n ≤ place) (min-eq_right more) past)

pub within : (before places end place : ℕ) → end ≡ min before places → place < end → place < before
within before places end place is less = let low = min-le_left before places in omega arith

pub reaches : (before places end place from : ℕ) → end ≡ min before places → (place ≤ end) ⊎ (place ≡ from)
    → (place ≤ before) ⊎ (place ≡ from)
reaches before places end place from is (inl low) = inl (let most = min-le_left before places in omega arith)
reaches before places end place from is (inr same) = inr same

-- steps for each of some places, and for each of those after them
each_more : (each from mid before last : ℕ) → from ≤ mid → mid ≤ before
    → each * (mid - from) + (each * (before - mid) + last) ≤ each * (before - from) + last
each_more each from mid before last low high =
    let sum : (mid - from) + (before - mid) ≡ before - from = omega arith in
    let times : each * (mid - from) + each * (before - mid) ≡ each * (before - from) =
    sym (mul-add each (mid - from) (before - mid)) ∙ ap (λ n. each * n) sum in
    omega arith

module _ (plan : Plan) where
  between_wider : (from before more : ℕ) (keys : List ℕ) → before ≤ more → Each (IsKeyBetween plan from before) keys
      → Each (IsKeyBetween plan from more) keys
  between_wider from before more [] wider all = tt
  between_wider from before more (k ∷ ks) wider all =
      let low = all.0.2 in
      ((all.0.0, all.0.1, omega arith, all.0.3), between_wider from before more ks wider all.1)

  between_from : (from mid before : ℕ) (keys : List ℕ) → from ≤ mid → Each (IsKeyBetween plan mid before) keys
      → Each (IsKeyBetween plan from before) keys
  between_from from mid before [] low all = tt
  between_from from mid before (k ∷ ks) low all =
      let at = all.0.1 in
      ((all.0.0, omega arith, all.0.2, all.0.3), between_from from mid before ks low all.1)

gone_on : (pass : ℕ) (xs ys : List ℕ) → gone_entries pass (xs ++ ys) ≡ gone_entries pass xs ++ gone_entries pass ys
gone_on pass xs ys = map-append (λ key. Known (entry.Gone pass key)) xs ys

-- ---- walks

-- nothing was passed over yet
pub skips_none : (layout : Layout) (each from : ℕ) (v : Caller) → Skips layout each from from v v
skips_none layout each from v = record {
  gone = [];
  there = tt;
  adds = adds_none (MissesBetween (plan_for layout v) v.view from from) (each * (from - from)) v
      (λ place low high. absurd (omega arith));
}

-- what was missed before a place, and from it on
misses_more : (layout : Layout) (from mid before : ℕ) (v a : Caller) (es : List LogEntry)
    (IsSo : List Footstep → Type 0) {most : ℕ} {kept : List ℕ} → CallAdds es kept most IsSo v a
    → (xs ys : List Footstep) → MissesBetween (plan_for layout v) v.view from mid xs
    → MissesBetween (plan_for layout a) a.view mid before ys
    → MissesBetween (plan_for layout v) v.view from before (xs ++ ys)
misses_more layout from mid before v a es IsSo p xs ys x y n low high = by (below_or_from n mid) where
  by : (n < mid) ⊎ (mid ≤ n) → MissesKeysOf (plan_for layout v) v.view (slot_at n) (xs ++ ys)
  by (inl less) = misses_keys_on (plan_for layout v) v.view (slot_at n) xs ys (x n low less)
  by (inr more) = misses_keys_after (plan_for layout v) v.view (slot_at n) xs ys
      (misses_keys_from (plan_for layout v) v.view a.view es (slot_at n) ys p.same p.log
      (subst (λ (q : Plan). MissesKeysOf q a.view (slot_at n) ys) (same_plan layout v a p.heap) (y n more high)))

-- places, and those after them
pub skips_on : (layout : Layout) (each from mid before : ℕ) (v a w : Caller) → Skips layout each from mid v a
    → from ≤ mid → mid ≤ before → Skips layout each mid before a w → Skips layout each from before v w
skips_on layout each from mid before v a w p low high q =
    let plan : Plan = plan_for layout v in
    let there : Each (IsKeyBetween plan mid before) q.gone = subst
    (λ (z : Plan). Each (IsKeyBetween z mid before) q.gone) (same_plan layout v a p.adds.heap) q.there in
    let last : CallAdds (gone_entries v.view.pass q.gone) (holds v) (each * (before - mid))
    (MissesBetween (plan_for layout a) a.view mid before) a w = subst (λ (z : ℕ × List ℕ). CallAdds
    (gone_entries z.0 q.gone) z.1 (each * (before - mid)) (MissesBetween (plan_for layout a) a.view mid before) a w)
    (λ i. (p.adds.same.pass i, p.adds.holds i)) q.adds in
    record {
      gone = p.gone ++ q.gone;
      there = each_append (IsKeyBetween plan from before) p.gone q.gone
          (between_wider plan from mid before p.gone high p.there) (between_from plan from mid before q.gone low there);
      adds = subst (λ (es : List LogEntry). CallAdds es (holds v) (each * (before - from))
          (MissesBetween plan v.view from before) v w) (sym (gone_on v.view.pass p.gone q.gone))
          (adds_along (MissesBetween plan v.view from mid) (MissesBetween (plan_for layout a) a.view mid before)
          (MissesBetween plan v.view from before) (each * (before - from)) v a w p.adds last
          (let more = each_more each from mid before 0 low high in omega arith)
          (misses_more layout from mid before v a _ _ p.adds));
    }

-- a key is met after places that were passed over
pub meets_on : (layout : Layout) (each from mid before more key behind last : ℕ) (E : ℕ → List LogEntry)
    (K : List ℕ → List ℕ) (v a w : Caller) → Skips layout each from mid v a → from ≤ mid → before ≤ more
    → Meets layout each mid before key behind (E a.view.pass) (K (holds a)) last a w
    → Meets layout each from more key behind (E v.view.pass) (K (holds v)) last v w
meets_on layout each from mid before more key behind last E K v a w p low wider m =
    let plan : Plan = plan_for layout v in
    let same : plan_for layout a ≡ plan = same_plan layout v a p.adds.heap in
    let at : mid ≤ m.place = m.from_there in
    let inside : m.place < before = m.inside in
    let there : Each (IsKeyBetween plan mid m.place) m.gone = subst
    (λ (z : Plan). Each (IsKeyBetween z mid m.place) m.gone) same m.there in
    let Then : List Footstep → Type 0 = MissesBetween (plan_for layout a) a.view mid m.place in
    let next : CallAdds (gone_entries v.view.pass m.gone ++ E v.view.pass) (K (holds v)) (each * (m.place - mid) + last)
    Then a w = subst (λ (z : ℕ × List ℕ). CallAdds (gone_entries z.0 m.gone ++ E z.0) (K z.1)
    (each * (m.place - mid) + last) Then a w) (λ i. (p.adds.same.pass i, p.adds.holds i)) m.adds in
    record {
      place = m.place;
      behind_is = m.behind_is;
      from_there = omega arith;
      inside = omega arith;
      names = subst (λ (z : Plan). IsKeyOfSlot z (slot_at m.place) key) same m.names;
      gone = p.gone ++ m.gone;
      there = each_append (IsKeyBetween plan from m.place) p.gone m.gone
          (between_wider plan from mid m.place p.gone at p.there) (between_from plan from mid m.place m.gone low there);
      adds = subst (λ (es : List LogEntry). CallAdds es (K (holds v)) (each * (m.place - from) + last)
          (MissesBetween plan v.view from m.place) v w)
          (sym (ap (λ (l : List LogEntry). l ++ E v.view.pass) (gone_on v.view.pass p.gone m.gone)
          ∙ append_assoc (gone_entries v.view.pass p.gone) (gone_entries v.view.pass m.gone) (E v.view.pass)))
          (adds_along (MissesBetween plan v.view from mid) Then (MissesBetween plan v.view from m.place)
          (each * (m.place - from) + last) v a w p.adds next (each_more each from mid m.place last low at)
          (misses_more layout from mid m.place v a _ _ p.adds));
    }

-- ---- the end of the heap

-- a walk that came to its end, or to that of the heap, or began behind it
module _ (layout : Layout) (each from place before : ℕ) (v w : Caller)
    (past : (before ≤ place) ⊎ (all_pages v.heap.shape * 48 ≤ place))
    (reached : (place ≤ before) ⊎ (place ≡ from)) where
  abbrev over : Plan
  over = plan_for layout v

  few_places : place - from ≤ before - from
  few_places = by reached where
    by : (place ≤ before) ⊎ (place ≡ from) → place - from ≤ before - from
    by (inl low) = omega arith
    by (inr is) = omega arith

  there_all : (keys : List ℕ) → Each (IsKeyBetween over from place) keys → Each (IsKeyBetween over from before) keys
  there_all [] all = tt
  there_all (k ∷ ks) all = ((all.0.0, all.0.1, below reached, all.0.3), there_all ks all.1) where
    below : (place ≤ before) ⊎ (place ≡ from) → all.0.0 < before
    below (inl low) = let at = all.0.2 in omega arith
    below (inr is) = let low = all.0.1 in let at = all.0.2 in absurd (omega arith)

  misses_all : (xs : List Footstep) → MissesBetween over v.view from place xs → MissesBetween over v.view from before xs
  misses_all xs so n low inside = by (below_or_from n place) past where
    by : (n < place) ⊎ (place ≤ n) → (before ≤ place) ⊎ (all_pages v.heap.shape * 48 ≤ place)
        → MissesKeysOf over v.view (slot_at n) xs
    by (inl less) e = so n low less
    by (inr more) (inl end) = absurd (omega arith)
    by (inr more) (inr end) = λ k name named at.
        absurd (past_the_heap layout v.heap.shape n k name (omega arith) named at)

  pub adds_all : {es : List LogEntry} {kept : List ℕ} (n : ℕ)
      → CallAdds es kept (n * (place - from)) (MissesBetween over v.view from place) v w
      → CallAdds es kept (n * (before - from)) (MissesBetween over v.view from before) v w
  adds_all n adds = adds_to (MissesBetween over v.view from place) (MissesBetween over v.view from before)
      (n * (before - from)) v w adds (mul-le n (place - from) n (before - from) (omega arith) few_places) misses_all

  pub skips_all : Skips layout each from place v w → Skips layout each from before v w
  skips_all p = record { gone = p.gone; there = there_all p.gone p.there; adds = adds_all each p.adds }

-- ---- over the places of a shard

-- a walk that begins behind its end is one that begins there
pub skips_from : (layout : Layout) (each first from count : ℕ) (v w : Caller)
    → Skips layout each (first + min from count) (first + count) v w
    → Skips layout each (first + from) (first + count) v w
skips_from layout each first from count v w p = by (below_or_from from count) where
  S : ℕ → Type 0
  S n = Skips layout each (first + n) (first + count) v w

  none : (past : count ≤ from) (keys : List ℕ)
      → Each (IsKeyBetween (plan_for layout v) (first + count) (first + count)) keys
      → Each (IsKeyBetween (plan_for layout v) (first + from) (first + count)) keys
  none past [] all = tt
  none past (k ∷ ks) all = let low = all.0.1 in let high = all.0.2 in absurd (omega arith)

  behind : count ≤ from → S count → S from
  behind past q = record {
    gone = q.gone;
    there = none past q.gone q.there;
    adds = adds_to (MissesBetween (plan_for layout v) v.view (first + count) (first + count))
        (MissesBetween (plan_for layout v) v.view (first + from) (first + count))
        (each * (first + count - (first + from))) v w q.adds
        (mul-le each (first + count - (first + count)) each (first + count - (first + from)) (omega arith) (omega arith))
        (λ xs so n low high. absurd (omega arith));
  }

  by : (from < count) ⊎ (count ≤ from) → S from
  by (inl less) = subst S (min-eq_left (omega arith)) p
  by (inr more) = behind more (subst S (min-eq_right more) p)

-- ---- into a room

-- what a walk did with the key that it met, another does
pub puts_as : (does others : Option NextLive → Type 0) (before after : List ℕ) (found : Option NextKey)
    → ((met : Option NextLive) → does met → others met) → PutsLive does before found after
    → PutsLive others before found after
puts_as does others before after (Some next) also p = also (Some (with_value next after)) p
puts_as does others before after None also p = (also None p.0, p.1)

pub puts_if_as : (does others : Result (Option NextLive) Refusal → Type 0) (before after : List ℕ)
    (answer : Result (Option NextKey) Refusal) → ((met : Result (Option NextLive) Refusal) → does met → others met)
    → PutsIfLive does before answer after → PutsIfLive others before answer after
puts_if_as does others before after (Ok found) also p =
    puts_as (λ met. does (Ok met)) (λ met. others (Ok met)) before after found (λ met. also (Ok met)) p
puts_if_as does others before after (Err why) also p = (also (Err why) p.0, p.1)

-- it did so with some key, or with none
pub it_met : (does : Option NextLive → Type 0) (before after : List ℕ) (found : Option NextKey)
    → PutsLive does before found after → (met : Option NextLive) × does met
it_met does before after (Some next) p = (Some (with_value next after), p)
it_met does before after None p = (None, p.0)

-- ---- walks with holds

pub full_none : (layout : Layout) (from : ℕ) (v : Caller) → PeeksIfFull layout from from v v
full_none layout from v full = adds_none (MissesBetween (plan_for layout v) v.view from from) (from - from) v
    (λ place low high. absurd (omega arith))

full_then : (layout : Layout) (from mid before most : ℕ) (v a w : Caller) → PeeksIfFull layout from mid v a
    → from ≤ mid → length (holds v) ≡ 16
    → CallAdds [] (holds a) most (MissesBetween (plan_for layout a) a.view mid before) a w
    → CallAdds [] (holds v) (mid - from + most) (MissesBetween (plan_for layout v) v.view from before) v w
full_then layout from mid before most v a w p low full q =
    let first = p full in
    adds_along (MissesBetween (plan_for layout v) v.view from mid) (MissesBetween (plan_for layout a) a.view mid before)
    (MissesBetween (plan_for layout v) v.view from before) (mid - from + most) v a w first
    (subst (λ (hs : List ℕ). CallAdds [] hs most (MissesBetween (plan_for layout a) a.view mid before) a w) first.holds
    q) (omega arith) (misses_more layout from mid before v a _ _ first)

full_on : (layout : Layout) (from mid before : ℕ) (v a w : Caller) → holds a ≡ holds v → PeeksIfFull layout from mid v a
    → from ≤ mid → mid ≤ before → PeeksIfFull layout mid before a w → PeeksIfFull layout from before v w
full_on layout from mid before v a w same p low high q full =
    subst (λ (n : ℕ). CallAdds [] (holds v) n (MissesBetween (plan_for layout v) v.view from before) v w)
    (let e : mid - from + (before - mid) ≡ before - from = omega arith in e)
    (full_then layout from mid before (before - mid) v a w p low full (q (ap length same ∙ full)))

pub held_on : (layout : Layout) (from place : ℕ) (v a w : Caller) → NextHeldDoes layout from place v (Ok None) a
    → from ≤ place → NextHeldDoes layout place (place + 1) a (Ok None) w
    → NextHeldDoes layout from (place + 1) v (Ok None) w
held_on layout from place v a w p low q = (
  skips_on layout 8 from place (place + 1) v a w p.0 low (omega arith) q.0,
  full_on layout from place (place + 1) v a w p.0.adds.holds p.1 low (omega arith) q.1,
)

pub held_found : (layout : Layout) (from place before : ℕ) (next : NextHeld) (v a w : Caller)
    → NextHeldDoes layout from place v (Ok None) a → from ≤ place → place < before
    → NextHeldDoes layout place (place + 1) a (Ok (Some next)) w → NextHeldDoes layout from before v (Ok (Some next)) w
held_found layout from place before next v a w p low inside m = (
  m.0,
  meets_on layout 8 from place (place + 1) before next.key next.behind 8
      (λ pass. live_entry pass next.key next.hold ∷ []) (holds_with next.hold next.key) v a w p.0 low (omega arith) m.1,
)

pub held_refused : (layout : Layout) (from place before : ℕ) (why : Refusal) (v a w : Caller)
    → NextHeldDoes layout from place v (Ok None) a → from ≤ place → place < before
    → NextHeldDoes layout place (place + 1) a (Err why) w → NextHeldDoes layout from before v (Err why) w
held_refused layout from place before refusal.HoldsFull v a w p low inside m =
    let full : length (holds v) ≡ 16 = ap length (sym p.0.adds.holds) ∙ m.0 in
    let at : m.1.0 ≡ place = (let l = m.1.1 in let h = m.1.2 in omega arith) in
    let q : CallAdds [] (holds a) (place + 1 - place) (MissesBetween (plan_for layout a) a.view place place) a w = subst
    (λ (n : ℕ). CallAdds [] (holds a) (n + 1 - place) (MissesBetween (plan_for layout a) a.view place n) a w) at
    m.1.3 in (
      full,
      (
        place,
        low,
        inside,
        subst
            (λ (n : ℕ). CallAdds [] (holds v) n (MissesBetween (plan_for layout v) v.view from place) v w)
            (let e : place - from + (place + 1 - place) ≡ place + 1 - from = omega arith in e)
            (full_then layout from place place (place + 1 - place) v a w p.1 low full q),
      ),
    )
held_refused layout from place before _ v a w p low inside m = absurd m

pub held_all : (layout : Layout) (from place before : ℕ) (v w : Caller) → NextHeldDoes layout from place v (Ok None) w
    → (before ≤ place) ⊎ (all_pages v.heap.shape * 48 ≤ place) → (place ≤ before) ⊎ (place ≡ from)
    → NextHeldDoes layout from before v (Ok None) w
held_all layout from place before v w p past reached = (
  skips_all layout 8 from place before v w past reached p.0,
  λ full. ones (adds_all layout 8 from place before v w past reached 1 (ones_of (p.1 full))),
) where
  over : Plan
  over = plan_for layout v

  ones_of : CallAdds [] (holds v) (place - from) (MissesBetween over v.view from place) v w
      → CallAdds [] (holds v) (1 * (place - from)) (MissesBetween over v.view from place) v w
  ones_of c = subst (λ (n : ℕ). CallAdds [] (holds v) n (MissesBetween over v.view from place) v w)
      (let e : place - from ≡ 1 * (place - from) = omega arith in e) c

  ones : CallAdds [] (holds v) (1 * (before - from)) (MissesBetween over v.view from before) v w
      → CallAdds [] (holds v) (before - from) (MissesBetween over v.view from before) v w
  ones c = subst (λ (n : ℕ). CallAdds [] (holds v) n (MissesBetween over v.view from before) v w)
      (let e : 1 * (before - from) ≡ before - from = omega arith in e) c
