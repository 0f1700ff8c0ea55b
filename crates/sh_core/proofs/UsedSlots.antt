-- Which slots of a quiet heap are used, that is live, marked or retired, follows from what its log says of keys.
use Rattle.std.proofs.Common.{◌≡◌, ◌≢◌, ℕ, zero, suc, ◌+◌, ◌<◌, ◌≤◌, ◌==◌, ◌&&◌, ◌||◌, Bool, true, false, List, []}
use Rattle.std.proofs.Common.{◌∷◌, ◌++◌, refl, ap, sym, ◌∙◌, subst, arith, ⊎_elim, eqb-true, slice_get}
use Rattle.std.proofs.Common.{eq-eqb, ◌⊎◌, Option, Some, None}
use Rattle.std.specs.Prelude.{is_some, not, if◌then◌else◌}
use Rattle.std.proofs.lemmas.Bool.{cases_lt, false≢true}
use Rattle.std.proofs.lemmas.Option.{none-some, same_Some, slice_get_within}
use Rattle.sh_history.specs.declared.entry.Entry.{Entry}
use Rattle.sh_history.specs.declared.entry.Entry.TheVariants.{Insert}
use Rattle.sh_history.specs.History.{Legal, value_of, is_removed, is_got_by, is_release_by, got_count_by}
use Rattle.sh_history.specs.History.{released_count_by}
use Rattle.sh_history.proofs.Laws.{legal_after_parts}
use Rattle.sh_history.proofs.LogLaws.{value_of-append_some, value_of-append_none, count_by-push}
use Rattle.sh_key.specs.Layout.{Layout, IsLayout}
use Rattle.sh_shape.specs.Classes.{slots}
use Rattle.sh_shape.specs.Places.{slot_places}
use Rattle.sh_shape.specs.Shape.{Numbers, IsShape, Fits}
use Rattle.sh_slots.specs.declared.hand.KeyRef.{KeyRef}
use Rattle.sh_slots.specs.declared.hand.SlotRef.{SlotRef}
use Rattle.sh_slots.specs.Slots.{same_slot, slot_ref_of, name_at}
use Rattle.sh_step.specs.declared.action.Event.{Event}
use Rattle.sh_step.specs.declared.body.Body.{Body}
use Rattle.sh_step.specs.Collections.{if1, total}
use Rattle.sh_step.specs.Conditions.{Named}
use Rattle.sh_word.specs.Fields.{Fields}
use Rattle.sh_step.specs.Moves.{place_named}
use Rattle.sh_step.specs.Parts.{newcomer}
use Rattle.sh_step.specs.Plans.{Plan, plan_of, heap_pages}
use Rattle.sh_step.proofs.LookupLaws.{place_is}
use Rattle.sh_step.proofs.Truths.{and2}
use Rattle.sh_core.specs.Lists.{lists_of, state_of, times}
use Rattle.sh_core.specs.Quiet.{Quiet}
use Rattle.sh_core.specs.Refines.{Refines, KeyMatchesLog, live, marked, retired, holds_now}
use Rattle.sh_core.specs.Tallies.{at_slot, current, visits, finishing}
use Rattle.sh_core.specs.Trails.{trail_of, body_by}
use Rattle.sh_core.specs.Worlds.{World, run, value_at}
use Rattle.sh_core.proofs.Clauses.Follows.{kinds_of}
use Rattle.sh_core.proofs.Clauses.LayoutLaws.{plan_lawful}
use Rattle.sh_core.proofs.Clauses.RunTheorem.{theorem}
use Rattle.sh_core.proofs.MapEntries.{or_false, or_true, removed_snoc}
use Rattle.sh_core.proofs.Quiet.{none_of}
use Rattle.sh_core.proofs.Replays.{steps_make_parts}
use Rattle.sh_core.proofs.Slots.Slots.{same_slot-true}
use Rattle.sh_core.proofs.Sums.Tests.{if1_self, if1_some}
use Rattle.sh_core.proofs.Sums.Totals.{some_part, total_at}

-- the slot of this state is live, marked or retired
abbrev pub UsedAs : Fields → Type 0
UsedAs st = live st + marked st + retired st ≡ 1

used_by : (p m : Bool) → if1 (p && not m) + if1 (p && m) + if1 (not p && m) ≡ 1 → (p || m) ≡ true
used_by true m e = refl
used_by false true e = refl
used_by false false e = let none : 0 + 0 + 0 ≡ 1 = e in absurd (omega (arith, none))

uses : (p m : Bool) → (p || m) ≡ true → if1 (p && not m) + if1 (p && m) + if1 (not p && m) ≡ 1
uses true true e = let one : 0 + 1 + 0 ≡ 1 = omega arith in one
uses true false e = let one : 1 + 0 + 0 ≡ 1 = omega arith in one
uses false true e = let one : 0 + 0 + 1 ≡ 1 = omega arith in one
uses false false e = absurd (let z : false ≡ true = e in cc)

-- ---- two logs

-- What the first log says of used slots, the second says too: its keys are issued, no key is removed that was not, and
-- each pass has the same holds.
pub record SaysUsed (before after : List Entry) : Type 0 where
  pub issued : (k : ℕ) (v : List ℕ) → value_of before k ≡ Some v → value_of after k ≢ None
  pub removed : (k : ℕ) → is_removed after k ≡ true → is_removed before k ≡ true
  pub got : (a k : ℕ) → got_count_by after a k ≡ got_count_by before a k
  pub released : (a k : ℕ) → released_count_by after a k ≡ released_count_by before a k

says_itself : (log : List Entry) → SaysUsed log log
says_itself log = record {
  issued = λ k v is none. none-some v (sym none ∙ is);
  removed = λ k is. is;
  got = λ a k. refl;
  released = λ a k. refl;
}

pub says_same : (before after : List Entry) → after ≡ before → SaysUsed before after
says_same before after e = subst (SaysUsed before) (sym e) (says_itself before)

-- one more insert leaves all that
says_insert : (log : List Entry) (a k : ℕ) (v : List ℕ) → SaysUsed log (log ++ Insert a k v ∷ [])
says_insert log a k v = record {
  issued = λ j u is none. none-some u (sym none ∙ value_of-append_some log (Insert a k v ∷ []) j u is);
  removed = λ j is. sym (or_false (is_removed log j)) ∙ (sym (removed_snoc log (Insert a k v) j) ∙ is);
  got = λ b j. let same : got_count_by (log ++ Insert a k v ∷ []) b j ≡ got_count_by log b j + 0 =
      count_by-push (is_got_by b j) log (Insert a k v) in omega (arith, same);
  released = λ b j. let same : released_count_by (log ++ Insert a k v ∷ []) b j ≡ released_count_by log b j + 0 =
      count_by-push (is_release_by b j) log (Insert a k v) in omega (arith, same);
}

-- ---- a slot that is used in the first world

module _ (layout : Layout) (shape : Numbers) (is_layout : IsLayout layout) (is_shape : IsShape shape)
    (fits : Fits layout shape) (es ds : List Event) (quiet : Quiet (run (plan_of layout shape) es))
    (says : SaysUsed (run (plan_of layout shape) es).log (run (plan_of layout shape) ds).log) (x : SlotRef)
    (page : x.page < heap_pages (plan_of layout shape)) (slot : x.slot < slot_places)
    (used : UsedAs (state_of (run (plan_of layout shape) es) x)) where
  abbrev heap : Plan
  heap = plan_of layout shape

  abbrev w : World
  w = run heap es

  abbrev u : World
  u = run heap ds

  abbrev at_w : Fields
  at_w = state_of w x

  abbrev at_u : Fields
  at_u = state_of u x

  all_old : Refines heap w (lists_of heap es)
  all_old = theorem layout shape is_layout is_shape fits es

  all_new : Refines heap u (lists_of heap ds)
  all_new = theorem layout shape is_layout is_shape fits ds

  -- the key of the slot's generation in the first world
  abbrev name : KeyRef
  name = name_at x at_w.generation

  abbrev key : ℕ
  key = heap.keys.pack name

  key_names : heap.keys.unpack key ≡ Some name
  key_names = (plan_lawful layout shape is_layout is_shape fits).names name (all_old.generations x).0
      (all_old.generations x).1 page slot

  is_filled : (at_w.present || at_w.marked) ≡ true
  is_filled = used_by at_w.present at_w.marked used

  told_first : KeyMatchesLog w.log key at_w.generation at_w (value_at w.words x.page x.slot)
  told_first = all_old.keys key name key_names

  told_second : KeyMatchesLog u.log key at_w.generation at_u (value_at u.words x.page x.slot)
  told_second = all_new.keys key name key_names

  still_issued : value_of u.log key ≢ None
  still_issued = says.issued key (value_at w.words x.page x.slot) (told_first.issued refl is_filled)

  -- a pass holds a key of a marked slot
  has_holder : at_w.present ≡ true → at_w.marked ≡ true → (a : ℕ) × (p : Body) × (slice_get w.parts a ≡ Some p)
      × (0 < holds_now heap x at_w p)
  has_holder present mark = go at_w.count refl where
    go : (n : ℕ) → at_w.count ≡ n → (a : ℕ) × (p : Body) × (slice_get w.parts a ≡ Some p)
        × (0 < holds_now heap x at_w p)
    go zero is =
        let due = all_old.finished x present mark is in
        let none : total (finishing x at_w.generation) w.parts ≡ 0 = none_of (finishing x at_w.generation) w.parts
        (λ a p at. rw (quiet a p at) refl) in
        absurd (omega (arith, due, none))
    go (suc n) is =
        let count = all_old.counted x in
        let none : total (visits heap x) w.parts ≡ 0 = none_of (visits heap x) w.parts
        (λ a p at. rw (quiet a p at) refl) in
        some_part (holds_now heap x at_w) w.parts (omega (arith, is, count, none))

  -- a key that the pass holds, of the slot and its generation
  record HeldHere (p : Body) : Type 0 where
    held : ℕ
    named : KeyRef
    unpacks : heap.keys.unpack held ≡ Some named
    some : 0 < times held p.holds
    at_x : x ≡ slot_ref_of named
    now : named.generation ≡ at_w.generation

  held_here : (p : Body) → 0 < holds_now heap x at_w p → HeldHere p
  held_here p more =
      let h = some_part (λ (k : ℕ). if1 (at_slot x (heap.keys.unpack k) && current at_w (heap.keys.unpack k))) p.holds
      more in
      go h.1 h.0 h.2 (heap.keys.unpack h.1) refl h.3
    where
      go : (j i : ℕ) → slice_get p.holds i ≡ Some j → (o : Option KeyRef) → heap.keys.unpack j ≡ o
          → 0 < if1 (at_slot x o && current at_w o) → HeldHere p
      go j i at None is few = let none : 0 < 0 = few in absurd (omega (arith, none))
      go j i at (Some m) is few =
          let both = and2 (same_slot x (slot_ref_of m)) (at_w.present && (m.generation == at_w.generation))
          (if1_some (same_slot x (slot_ref_of m) && (at_w.present && (m.generation == at_w.generation))) few) in
          let its = and2 at_w.present (m.generation == at_w.generation) both.1 in
          let one : if1 (j == j) ≡ 1 = if1_self j in
          let all : if1 (j == j) ≤ times j p.holds = total_at (λ (y : ℕ). if1 (y == j)) p.holds i j at in
          record {
            held = j;
            named = m;
            unpacks = is;
            some = omega (arith, one, all);
            at_x = same_slot-true (slot_ref_of m) x both.0;
            now = eqb-true m.generation at_w.generation its.1;
          }

  -- who holds such a key holds it in the second world, where it is of the slot's generation
  by_holder : (a : ℕ) (p : Body) → slice_get w.parts a ≡ Some p → 0 < holds_now heap x at_w p
      → at_u.generation ≡ at_w.generation
  by_holder a p at more =
      let k = held_here p more in
      let inside = slice_get_within w.parts a p at in
      let all = all_old.passes in
      let lt : a < heap.passes = omega (arith, inside, all) in
      let q : Body = body_by heap newcomer (trail_of heap ds a) in
      let its : slice_get u.parts a ≡ Some q = steps_make_parts heap ds a lt in
      let had = all_old.holds.of_pass a p k.held at in
      let has = all_new.holds.of_pass a q k.held its in
      let got = says.got a k.held in
      let released = says.released a k.held in
      let some = k.some in
      let still : 0 < times k.held q.holds = omega (arith, had, has, got, released, some) in
      let s = all_new.held a q k.held its still in
      let same : s.name ≡ k.named = same_Some s.name k.named (sym s.unpacks ∙ k.unpacks) in
      let named : (state_of u (slot_ref_of k.named)).generation ≡ k.named.generation = subst
      (λ (m : KeyRef). (state_of u (slot_ref_of m)).generation ≡ m.generation) same s.generation in
      subst (λ (y : SlotRef). (state_of u y).generation ≡ k.named.generation) (sym k.at_x) named ∙ k.now

  -- a later generation would say that the key was removed
  if_later : at_w.generation < at_u.generation → at_u.generation ≡ at_w.generation
  if_later lt = by at_w.present refl where
    mark : at_w.marked ≡ true
    mark = sym (told_first.removed refl) ∙ says.removed key (all_new.past key name key_names lt).1

    by : (b : Bool) → at_w.present ≡ b → at_u.generation ≡ at_w.generation
    by true is = let h = has_holder is mark in by_holder h.0 h.1 h.2 h.3
    by false is =
        let last = all_old.retired x is mark in
        let most = (all_new.generations x).1 in
        absurd (omega (arith, last, most, lt))

  -- an earlier one that the key was not issued
  if_not_later : at_u.generation ≤ at_w.generation → at_u.generation ≡ at_w.generation
  if_not_later le = ⊎_elim
      (λ (lt : at_u.generation < at_w.generation). absurd (still_issued (told_second.later lt).0))
      (λ (ge : at_w.generation ≤ at_u.generation). omega (arith, le, ge))
      (cases_lt at_u.generation at_w.generation)

  pub same_generation : at_u.generation ≡ at_w.generation
  same_generation = ⊎_elim if_later if_not_later (cases_lt at_w.generation at_u.generation)

  -- the slot is used in the second world too
  pub used_there : UsedAs at_u
  used_there = go (at_u.present || at_u.marked) refl where
    go : (b : Bool) → (at_u.present || at_u.marked) ≡ b → UsedAs at_u
    go true is = uses at_u.present at_u.marked is
    go false is = absurd (still_issued (told_second.empty (sym same_generation) is))

-- ---- one insert

-- the log of the second run has one insert more than that of the first, of a key that names a slot of the heap
module _ (layout : Layout) (shape : Numbers) (is_layout : IsLayout layout) (is_shape : IsShape shape)
    (fits : Fits layout shape) (es ds : List Event) (quiet : Quiet (run (plan_of layout shape) es)) (a k : ℕ)
    (v : List ℕ) (n : KeyRef)
    (log : (run (plan_of layout shape) ds).log ≡ (run (plan_of layout shape) es).log ++ Insert a k v ∷ [])
    (is_named : place_named (plan_of layout shape) k ≡ Some n) where
  abbrev the_plan : Plan
  the_plan = plan_of layout shape

  place : Named the_plan k n
  place = place_is the_plan k n is_named

  abbrev old : World
  old = run the_plan es

  abbrev new : World
  new = run the_plan ds

  abbrev old_state : Fields
  old_state = state_of old (slot_ref_of n)

  abbrev new_state : Fields
  new_state = state_of new (slot_ref_of n)

  was : Refines the_plan old (lists_of the_plan es)
  was = theorem layout shape is_layout is_shape fits es

  is_now : Refines the_plan new (lists_of the_plan ds)
  is_now = theorem layout shape is_layout is_shape fits ds

  not_issued : value_of old.log k ≡ None
  not_issued = (legal_after_parts the_plan.passes the_plan.keys.guard_max [] old.log (Insert a k v ∷ [])
      (subst (Legal the_plan.passes the_plan.keys.guard_max) log is_now.legal)).1.0

  issued_now : value_of new.log k ≡ Some v
  issued_now = ap (λ (l : List Entry). value_of l k) log
      ∙ (value_of-append_none old.log (Insert a k v ∷ []) k not_issued
      ∙ ap (λ (b : Bool). if b then Some v else None) (eq-eqb k k refl))

  told_old : KeyMatchesLog old.log k n.generation old_state (value_at old.words n.page n.slot)
  told_old = was.keys k n place.unpacks

  told_new : KeyMatchesLog new.log k n.generation new_state (value_at new.words n.page n.slot)
  told_new = is_now.keys k n place.unpacks

  not_past : n.generation < old_state.generation → ⊥
  not_past lt = false≢true (ap is_some (sym not_issued) ∙ (was.past k n place.unpacks lt).0)

  not_to_come : new_state.generation < n.generation → ⊥
  not_to_come lt = none-some v (sym (told_new.later lt).0 ∙ issued_now)

  -- its slot was not used
  pub was_free : UsedAs old_state → ⊥
  was_free used = go (cases_lt n.generation old_state.generation) where
    same : new_state.generation ≡ old_state.generation
    same = same_generation layout shape is_layout is_shape fits es ds quiet
        (subst (SaysUsed old.log) (sym log) (says_insert old.log a k v)) (slot_ref_of n) place.page place.slot used

    go : (n.generation < old_state.generation) ⊎ (old_state.generation ≤ n.generation) → ⊥
    go c = ⊎_elim not_past
        (λ (le : old_state.generation ≤ n.generation). ⊎_elim not_to_come
        (λ (ge : n.generation ≤ new_state.generation).
        let equal : n.generation ≡ old_state.generation = omega (arith, le, ge, same) in
        none-some (value_at old.words n.page n.slot)
        (sym not_issued ∙ told_old.issued equal (used_by old_state.present old_state.marked used)))
        (cases_lt new_state.generation n.generation)) c

  -- the key was not removed before it was issued
  was_not_removed : is_removed old.log k ≡ true → ⊥
  was_not_removed removed = go (cases_lt old_state.generation n.generation) where
    by : old_state.generation ≡ n.generation → (b : Bool) → (old_state.present || old_state.marked) ≡ b → ⊥
    by same true is = none-some (value_at old.words n.page n.slot) (sym not_issued ∙ told_old.issued (sym same) is)
    by same false is =
        let mark : old_state.marked ≡ true = sym (told_old.removed (sym same)) ∙ removed in
        let both : (old_state.present || true) ≡ false =
        ap (λ (b : Bool). old_state.present || b) (sym mark) ∙ is in
        false≢true (sym both ∙ or_true old_state.present)

    go : (old_state.generation < n.generation) ⊎ (n.generation ≤ old_state.generation) → ⊥
    go c = ⊎_elim
        (λ (lt : old_state.generation < n.generation). false≢true (sym (told_old.later lt).1 ∙ removed))
        (λ (ge : n.generation ≤ old_state.generation). ⊎_elim not_past
        (λ (le : old_state.generation ≤ n.generation).
        let same : old_state.generation ≡ n.generation = omega (arith, ge, le) in
        by same (old_state.present || old_state.marked) refl)
        (cases_lt n.generation old_state.generation)) c

  -- its slot is used now
  pub is_used : UsedAs new_state
  is_used = go (new_state.present || new_state.marked) refl where
    reached : n.generation ≡ new_state.generation
    reached = by (cases_lt n.generation new_state.generation) where
      by : (n.generation < new_state.generation) ⊎ (new_state.generation ≤ n.generation)
          → n.generation ≡ new_state.generation
      by c = ⊎_elim
          (λ (lt : n.generation < new_state.generation).
          let gone = (is_now.past k n place.unpacks lt).1 in
          let says = subst (SaysUsed old.log) (sym log) (says_insert old.log a k v) in
          absurd (was_not_removed (says.removed k gone)))
          (λ (ge : new_state.generation ≤ n.generation). ⊎_elim
          (λ (lt : new_state.generation < n.generation). absurd (not_to_come lt))
          (λ (le : n.generation ≤ new_state.generation). omega (arith, ge, le))
          (cases_lt new_state.generation n.generation)) c

    go : (b : Bool) → (new_state.present || new_state.marked) ≡ b → UsedAs new_state
    go true is = uses new_state.present new_state.marked is
    go false is = absurd (none-some v (sym (told_new.empty reached is) ∙ issued_now))

  -- so it is a slot of its page's class
  pub is_of_class : (c : ℕ) → new.words.class_at n.page ≡ c + 1 → n.slot < slots c
  is_of_class c class = ⊎_elim (λ (lt : n.slot < slots c). lt)
      (λ (ge : slots c ≤ n.slot).
      let none = (kinds_of new (lists_of the_plan ds) is_now.one_kind (slot_ref_of n) c class).1 ge in
      let one = is_used in
      absurd (omega (arith, none, one)))
      (cases_lt n.slot (slots c))
