-- If no pass has begun anything, a key at which a get is Crowded has as many holds as the layout allows. So it is as
-- long as one pass alone event_applies on.
use Rattle.std.proofs.Common.{◌≡◌, ◌≢◌, ℕ, ◌+◌, ◌<◌, ◌≤◌, ◌==◌, ◌&&◌, ◌⊎◌, inl, inr, ⊎_elim, Bool, true, false, cond}
use Rattle.std.proofs.Common.{List, [], ◌∷◌, ◌++◌, length, refl, ap, sym, ◌∙◌, subst, arith, eqb-true, append-nil}
use Rattle.std.proofs.Common.{append_assoc, Option, Some, None, slice_get}
use Rattle.std.proofs.lemmas.Bool.{cases_eq}
use Rattle.std.proofs.lemmas.Bool.Decides.{nat_tests}
use Rattle.std.proofs.lemmas.List.{length-append}
use Rattle.std.proofs.lemmas.Option.{none-some, slice_get_within}
use Rattle.sh_key.specs.Layout.{Layout, IsLayout}
use Rattle.sh_shape.specs.Shape.{Numbers, IsShape, Fits}
use Rattle.sh_step.specs.declared.body.Body.{Body}
use Rattle.sh_step.specs.Collections.{total, if1}
use Rattle.sh_step.specs.Conditions.{May}
use Rattle.sh_step.specs.declared.action.Event.{Event}
use Rattle.sh_word.specs.Fields.{Fields, fields_of}
use Rattle.sh_step.specs.Footsteps.{footstep_of}
use Rattle.sh_slots.specs.declared.hand.Hand.TheVariants.{Idle}
use Rattle.sh_slots.specs.declared.hand.KeyRef.{KeyRef}
use Rattle.sh_core.specs.Lists.{lists_of, state_of, times}
use Rattle.sh_step.specs.declared.moves.Move.{Move}
use Rattle.sh_step.specs.declared.moves.Move.TheVariants as move
use Rattle.sh_step.specs.Moves.{row, row_of}
use Rattle.sh_core.specs.Outcomes.{row_of_event}
use Rattle.sh_step.specs.Plans.{Plan, plan_of, keys_of}
use Rattle.sh_core.specs.Quiet.{Quiet}
use Rattle.sh_core.specs.Refines.{Refines, holds_now}
use Rattle.sh_step.specs.Rows.{Row}
use Rattle.sh_slots.specs.declared.hand.SlotRef.{SlotRef}
use Rattle.sh_slots.specs.Slots.{same_slot, slot_ref_of, live_at, past_at, has_room, value_seen}
use Rattle.sh_core.specs.Tallies.{at_slot, current, visits}
use Rattle.sh_core.specs.Trails.{trail_of}
use Rattle.sh_core.specs.Words.{read}
use Rattle.sh_core.specs.Worlds.{World, step, apply, run, run_from, open_world, entry, entry_of, joined, value_at_place}
use Rattle.sh_core.proofs.Clauses.LayoutLaws.{plan_lawful}
use Rattle.sh_core.proofs.Clauses.RunTheorem.{theorem}
use Rattle.sh_step.proofs.ConditionLaws.{move_of_row}
use Rattle.sh_core.proofs.Quiet.{none_of}
use Rattle.sh_core.proofs.Slots.Logs.{live_parts}
use Rattle.sh_core.proofs.Slots.MarkStep.{same_key}
use Rattle.sh_core.proofs.Slots.Slots.{same_slot-true}
use Rattle.sh_core.proofs.Sums.Totals.{total_le, get_set}
use Rattle.sh_core.proofs.WaitFree.{skipped, step_applies}
use Rattle.sh_core.proofs.Words.Stepping.{row_of_past}
use Rattle.sh_core.proofs.Words.Steps.{run_snoc, row_of_at, trail_grows}
use Rattle.sh_core.proofs.Words.Trails.{trails_lengthen}
use Rattle.sh_history.specs.declared.entry.Entry.{Entry}
use Rattle.sh_history.specs.declared.entry.Entry.TheVariants.{Insert, Got, Gone, Crowded, Removed, Released, Seen}
use Rattle.sh_history.specs.History.{holds_on}
use Rattle.sh_slots.specs.declared.reply.Reply.{Reply}
use Rattle.sh_slots.specs.declared.reply.Reply.TheVariants as reply
use Rattle.script_heap.specs.Crowding.{CrowdedIsExact}

-- ---- the reply of a get that is crowded

-- the key that is crowded by this reply
abbrev crowds : Option Reply → Option ℕ
crowds (Some (reply.Crowded k)) = Some k
crowds _ = None

remove_crowds_none : (k : ℕ) (a : Bool) → crowds (cond a None (Some (reply.Gone k))) ≡ None
remove_crowds_none k true = refl
remove_crowds_none k false = refl

mark_crowds_none : (k : ℕ) (a : Bool) → crowds (Some (cond a (reply.Gone k) (reply.Removed k))) ≡ None
mark_crowds_none k true = refl
mark_crowds_none k false = refl

past_crowds_none : (k : ℕ) (a : Bool) → crowds (cond a (Some (reply.Gone k)) None) ≡ None
past_crowds_none k true = refl
past_crowds_none k false = refl

look_crowds_none : (k : ℕ) (v : List ℕ) (a : Bool) → crowds (Some (cond a (reply.Seen k v) (reply.Gone k))) ≡ None
look_crowds_none k v true = refl
look_crowds_none k v false = refl

get_crowds : (k j : ℕ) (a b : Bool) → crowds (Some (cond a (cond b (reply.Got k) (reply.Crowded k)) (reply.Gone k)))
    ≡ Some j → (a ≡ true) × (b ≡ false) × (k ≡ j)
get_crowds k j true false h = (refl, refl, cc)
get_crowds k j true true h = absurd (none-some j h)
get_crowds k j false b h = absurd (none-some j h)

-- it is the reply to a get, whose slot is live in the key's generation and has no room
record CrowdedGet (plan : Plan) (m : Move) (n k : ℕ) : Type 0 where
  name : KeyRef
  is : m ≡ move.EnterGet k name
  live : live_at name.generation n ≡ true
  full : has_room plan.keys.guard_max n ≡ false

module _ (plan : Plan) (p : Body) where
  no_crowd : {A : Type 0} (o : Option ℕ) (k : ℕ) → o ≡ None → o ≡ Some k → A
  no_crowd o k none some = absurd (none-some k (sym none ∙ some))

  crowded_get : (m : Move) (k n : ℕ) → crowds ((row_of plan p m).reply n) ≡ Some k → CrowdedGet plan m n k
  crowded_get (move.EnterGet j x) k n g =
      let is = get_crowds j k (live_at x.generation n) (has_room plan.keys.guard_max n) g in
      record { name = x; is = ap (λ (i : ℕ). move.EnterGet i x) is.2; live = is.0; full = is.1 }
  crowded_get (move.EnterRemove j x) k n g = no_crowd _ k (remove_crowds_none j (live_at x.generation n)) g
  crowded_get (move.Mark j x) k n g = no_crowd _ k (mark_crowds_none j (fields_of n).marked) g
  crowded_get (move.Look j x) k n g = no_crowd _ k (past_crowds_none j (past_at x.generation n)) g
  crowded_get (move.LookAgain j x s) k n g = no_crowd _ k (look_crowds_none j (value_seen s) (live_at x.generation n)) g
  crowded_get m k n g = no_crowd (crowds ((row_of plan p m).reply n)) k refl g

-- the reply that added this entry
crowds_entry : (a : ℕ) (v : List ℕ) (r : Reply) (pass key : ℕ) → entry a v r ≡ Crowded pass key
    → crowds (Some r) ≡ Some key
crowds_entry a v (reply.Crowded k) pass key e = let h : k ≡ key = cc in ap (λ (z : ℕ). Some z) h
crowds_entry a v (reply.Insert k u) pass key e = absurd (let z : Insert a k u ≡ Crowded pass key = e in cc)
crowds_entry a v (reply.Got k) pass key e = absurd (let z : Got a k v ≡ Crowded pass key = e in cc)
crowds_entry a v (reply.Gone k) pass key e = absurd (let z : Gone a k ≡ Crowded pass key = e in cc)
crowds_entry a v (reply.Removed k) pass key e = absurd (let z : Removed a k ≡ Crowded pass key = e in cc)
crowds_entry a v (reply.Released k) pass key e = absurd (let z : Released a k ≡ Crowded pass key = e in cc)
crowds_entry a v (reply.Seen k u) pass key e = absurd (let z : Seen a k u ≡ Crowded pass key = e in cc)

-- ---- one entry more

pub first_of : (x y : Entry) (xs ys : List Entry) → x ∷ xs ≡ y ∷ ys → x ≡ y
first_of x y xs ys e = cc

pub rest_of : (x y : Entry) (xs ys : List Entry) → x ∷ xs ≡ y ∷ ys → xs ≡ ys
rest_of x y xs ys e = cc

nothing_there : (y : Entry) (xs ys : List Entry) → [] ≡ xs ++ y ∷ ys → ⊥
nothing_there y [] ys e = cc
nothing_there y (x ∷ xs) ys e = cc

-- an entry of a longer list is the last one, or one of those before
last_or_before : (xs before after : List Entry) (x y : Entry) → xs ++ x ∷ [] ≡ before ++ y ∷ after
    → ((xs ≡ before) × (x ≡ y)) ⊎ ((left : List Entry) × (xs ≡ before ++ y ∷ left))
last_or_before [] [] after x y e = inl (refl, first_of x y [] after e)
last_or_before [] (b ∷ bs) after x y e = absurd (nothing_there y bs after (rest_of x b [] (bs ++ y ∷ after) e))
last_or_before (z ∷ zs) [] after x y e = inr (zs, λ i. first_of z y (zs ++ x ∷ []) after e i ∷ zs)
last_or_before (z ∷ zs) (b ∷ bs) after x y e =
    let here : z ≡ b = first_of z b (zs ++ x ∷ []) (bs ++ y ∷ after) e in
    ⊎_elim (λ (h : (zs ≡ bs) × (x ≡ y)). inl ((λ i. here i ∷ h.0 i), h.1))
    (λ (h : (left : List Entry) × (zs ≡ bs ++ y ∷ left)). inr (h.0, λ i. here i ∷ h.1 i))
    (last_or_before zs bs after x y (rest_of z b (zs ++ x ∷ []) (bs ++ y ∷ after) e))

module _ (layout : Layout) (shape : Numbers) (la : IsLayout layout) (ls : IsShape shape) (lf : Fits layout shape) where
  abbrev key_plan : Plan
  key_plan = plan_of layout shape

  abbrev CrowdsExactly : List Event → Type 0
  CrowdsExactly es = CrowdedIsExact layout.guard_max (run key_plan es).log

  -- ---- the count of a slot on which no pass is for a moment

  -- a hold that the count of the key's slot counts is one on the key
  held_key : (k : ℕ) (y : KeyRef) (st : Fields) → key_plan.keys.unpack k ≡ Some y → y.generation ≡ st.generation
      → (j : ℕ) → if1 (at_slot (slot_ref_of y) (key_plan.keys.unpack j) && current st (key_plan.keys.unpack j))
      ≤ if1 (j == k)
  held_key k y st name gen j = go (key_plan.keys.unpack j) refl where
    go : (o : Option KeyRef) → key_plan.keys.unpack j ≡ o
        → if1 (at_slot (slot_ref_of y) o && current st o) ≤ if1 (j == k)
    go None e = omega arith
    go (Some z) e = by (same_slot (slot_ref_of y) (slot_ref_of z)) st.present (z.generation == st.generation) refl refl
      where
        by : (b c d : Bool) → same_slot (slot_ref_of y) (slot_ref_of z) ≡ b → (z.generation == st.generation) ≡ d
            → if1 (b && (c && d)) ≤ if1 (j == k)
        by true true true h f =
            let s : slot_ref_of z ≡ slot_ref_of y = sym (same_slot-true (slot_ref_of z) (slot_ref_of y) h) in
            let g : z.generation ≡ y.generation = eqb-true z.generation st.generation f ∙ sym gen in
            let laws = plan_lawful layout shape la ls lf in
            let t = same_key key_plan j k z y laws e name (sym s) (sym g) in omega (arith, t)
        by true true false h f = omega arith
        by true false d h f = omega arith
        by false c d h f = omega arith

  held_if_full : (es : List Event) → Quiet (run key_plan es) → (k : ℕ) (y : KeyRef) → key_plan.keys.unpack k ≡ Some y
      → live_at y.generation ((run key_plan es).words.state_at y.page y.slot) ≡ true
      → has_room key_plan.keys.guard_max ((run key_plan es).words.state_at y.page y.slot) ≡ false
      → holds_on (run key_plan es).log k ≡ layout.guard_max
  unfolding keys_of
  held_if_full es quiet k y name live full =
      let w : World = run key_plan es in
      let x : SlotRef = slot_ref_of y in
      let st : Fields = state_of w x in
      let all : Refines key_plan w (lists_of key_plan es) = theorem layout shape la ls lf es in
      let at = live_parts st.present st.marked st.generation y.generation live in
      let none : total (visits key_plan x) w.parts ≡ 0 = none_of (visits key_plan x) w.parts
      (λ a p h. rw (quiet a p h) refl) in
      let count : st.count ≡ total (holds_now key_plan x st) w.parts + total (visits key_plan x) w.parts =
      all.counted x in
      let few : total (holds_now key_plan x st) w.parts ≤ total (λ (p : Body). times k p.holds) w.parts =
      total_le (holds_now key_plan x st) (λ (p : Body). times k p.holds)
      (λ p. total_le (λ j. if1 (at_slot x (key_plan.keys.unpack j) && current st (key_plan.keys.unpack j)))
      (λ j. if1 (j == k)) (held_key k y st name at.2) p.holds) w.parts in
      let most : total (λ (p : Body). times k p.holds) w.parts ≤ layout.guard_max = all.few_holds k in
      let no : layout.guard_max ≤ st.count = grind (arith, nat_tests, full) in
      let holds = all.holds.together k in
      omega (arith, none, count, few, most, no, holds)

  -- ---- one event of the pass that alone event_applies on

  -- no pass other than this one has begun anything
  abbrev OthersIdle : List Event → ℕ → Type 0
  OthersIdle es a = (b : ℕ) (p : Body) → b ≢ a → slice_get (run key_plan es).parts b ≡ Some p → p.hand ≡ Idle

  module _ (es : List Event) (e : Event) where
    abbrev key_world : World
    key_world = run key_plan es

    next_world : run key_plan (es ++ e ∷ []) ≡ step key_plan key_world e
    next_world = run_snoc key_plan (open_world key_plan) es e

    event_skips : row_of_event key_plan key_world e ≡ None → run key_plan (es ++ e ∷ []) ≡ key_world
    event_skips none = next_world ∙ skipped key_plan key_world e none

    event_applies : (r : Row) → row_of_event key_plan key_world e ≡ Some r
        → run key_plan (es ++ e ∷ []) ≡ apply key_world e.pass r
    event_applies r some = next_world ∙ step_applies key_plan key_world e r some

    others_apply : (a : ℕ) (r : Row) → e.pass ≡ a → OthersIdle es a → (b : ℕ) (p : Body) → b ≢ a
        → slice_get (apply key_world e.pass r).parts b ≡ Some p → p.hand ≡ Idle
    unfolding apply
    others_apply a r own idle b p ne at = ⊎_elim
        (λ h. absurd (ne (h.0 ∙ own)))
        (λ h. idle b p ne h.1)
        (get_set key_world.parts e.pass b (r.part (read key_world.words r.place)) p at)

    -- the entry that joined, if it says that a key is crowded
    joins_exact : (a : ℕ) (r : Row) (p : Body) → e.pass ≡ a → OthersIdle es a
        → slice_get key_world.parts e.pass ≡ Some p → row key_plan p e.action ≡ Some r
        → (pass key : ℕ) (t : Reply) → r.reply (read key_world.words r.place) ≡ Some t
        → entry e.pass (value_at_place key_world.words r.place) t ≡ Crowded pass key
        → holds_on key_world.log key ≡ layout.guard_max
    joins_exact a r p own idle at is pass key t replied same =
        let moved = move_of_row key_plan p e.action r is in
        let m : Move = moved.0 in
        let n : ℕ = read key_world.words r.place in
        let crowded : crowds (r.reply n) ≡ Some key = ap crowds replied
        ∙ crowds_entry e.pass (value_at_place key_world.words r.place) t pass key same in
        let g : CrowdedGet key_plan m n key = crowded_get key_plan p m key n
        (subst (λ (z : Row). crowds (z.reply n) ≡ Some key) moved.4 crowded) in
        let may : May key_plan p (move.EnterGet key g.name) = subst (May key_plan p) g.is moved.2 in
        let quiet : Quiet key_world = λ b q there. ⊎_elim
        (λ (here : b ≡ e.pass). let one : p ≡ q = same_part p q b here at there in
        subst (λ (z : Body). z.hand ≡ Idle) one may.0)
        (λ (ne : b ≢ e.pass). idle b q (λ h. ne (h ∙ sym own)) there) (cases_eq b e.pass) in
        let place : n ≡ key_world.words.state_at g.name.page g.name.slot =
        ap (λ (z : Row). read key_world.words z.place) moved.4
        ∙ ap (λ (z : Move). read key_world.words (row_of key_plan p z).place) g.is in
        held_if_full es quiet key g.name may.1.unpacks
        (subst (λ (z : ℕ). live_at g.name.generation z ≡ true) place g.live)
        (subst (λ (z : ℕ). has_room key_plan.keys.guard_max z ≡ false) place g.full)
      where
        same_part : (p q : Body) (b : ℕ) → b ≡ e.pass → slice_get key_world.parts e.pass ≡ Some p
            → slice_get key_world.parts b ≡ Some q → p ≡ q
        same_part p q b here at there =
            let h : Some p ≡ Some q = sym at ∙ (ap (λ (z : ℕ). slice_get key_world.parts z) (sym here) ∙ there) in cc

    -- the log, if an entry may have joined
    log_exact : (log : List Entry) (o : Option Entry) → CrowdedIsExact layout.guard_max log
        → ((pass key : ℕ) → o ≡ Some (Crowded pass key) → holds_on log key ≡ layout.guard_max)
        → CrowdedIsExact layout.guard_max (joined log o)
    log_exact log None exact new = exact
    log_exact log (Some t) exact new = λ before after pass key is. ⊎_elim
        (λ (h : (log ≡ before) × (t ≡ Crowded pass key)).
        subst (λ (l : List Entry). holds_on l key ≡ layout.guard_max) h.0
        (new pass key (ap (λ (z : Entry). Some z) h.1)))
        (λ (h : (left : List Entry) × (log ≡ before ++ Crowded pass key ∷ left)). exact before h.0 pass key h.1)
        (last_or_before log before after t (Crowded pass key) is)

    by_reply : (a : ℕ) (r : Row) (p : Body) → e.pass ≡ a → OthersIdle es a
        → slice_get key_world.parts e.pass ≡ Some p → row key_plan p e.action ≡ Some r
        → (o : Option Reply) → r.reply (read key_world.words r.place) ≡ o → (pass key : ℕ)
        → entry_of e.pass (value_at_place key_world.words r.place) o ≡ Some (Crowded pass key)
        → holds_on key_world.log key ≡ layout.guard_max
    by_reply a r p own idle at is None none pass key same = absurd (none-some (Crowded pass key) same)
    by_reply a r p own idle at is (Some t) some pass key same =
        joins_exact a r p own idle at is pass key t some
        (let h : Some (entry e.pass (value_at_place key_world.words r.place) t) ≡ Some (Crowded pass key) = same in cc)

    apply_exact : (a : ℕ) (r : Row) (p : Body) → e.pass ≡ a → OthersIdle es a
        → slice_get key_world.parts e.pass ≡ Some p → row key_plan p e.action ≡ Some r → CrowdsExactly es
        → CrowdedIsExact layout.guard_max (apply key_world e.pass r).log
    unfolding apply
    apply_exact a r p own idle at is exact = log_exact key_world.log
        (entry_of e.pass (value_at_place key_world.words r.place) (r.reply (read key_world.words r.place))) exact
        (λ pass key same. by_reply a r p own idle at is (r.reply (read key_world.words r.place)) refl pass key same)

  -- what is kept while one pass alone event_applies on
  record Kept (es : List Event) (a : ℕ) : Type 0 where
    idle : OthersIdle es a
    exact : CrowdsExactly es

  event_keeps : (es : List Event) (e : Event) (a : ℕ) → Kept es a
      → ((b : ℕ) → b < key_plan.passes → b ≢ a
      → length (trail_of key_plan (es ++ e ∷ []) b) ≤ length (trail_of key_plan es b)) → Kept (es ++ e ∷ []) a
  event_keeps es e a kept still = by_part (slice_get (run key_plan es).parts e.pass) refl where
    skips : row_of_event key_plan (run key_plan es) e ≡ None → Kept (es ++ e ∷ []) a
    skips none = let same = event_skips es e none in record {
      idle = λ b p ne at. kept.idle b p ne (ap (λ (w : World). slice_get w.parts b) (sym same) ∙ at);
      exact = subst (λ (w : World). CrowdedIsExact layout.guard_max w.log) (sym same) kept.exact;
    }

    by_part : (o : Option Body) → slice_get (run key_plan es).parts e.pass ≡ o → Kept (es ++ e ∷ []) a
    by_part None at = skips (row_of_past key_plan (run key_plan es) e at)
    by_part (Some p) at = by_row (row key_plan p e.action) refl where
      by_row : (o : Option Row) → row key_plan p e.action ≡ o → Kept (es ++ e ∷ []) a
      by_row None is = skips (row_of_at key_plan (run key_plan es) e p at ∙ is)
      by_row (Some r) is = ⊎_elim done other (cases_eq e.pass a) where
        some : row_of_event key_plan (run key_plan es) e ≡ Some r
        some = row_of_at key_plan (run key_plan es) e p at ∙ is

        done : e.pass ≡ a → Kept (es ++ e ∷ []) a
        done own = let next = event_applies es e r some in record {
          idle = λ b q ne there. others_apply es e a r own kept.idle b q ne
              (ap (λ (w : World). slice_get w.parts b) (sym next) ∙ there);
          exact = subst (λ (w : World). CrowdedIsExact layout.guard_max w.log) (sym next)
              (apply_exact es e a r p own kept.idle at is kept.exact);
        }

        other : e.pass ≢ a → Kept (es ++ e ∷ []) a
        other ne =
            let within = slice_get_within (run key_plan es).parts e.pass p at in
            let all = (theorem layout shape la ls lf es).passes in
            let grown = ap length (trail_grows key_plan es e.pass e.action p r at is) in
            let long = length-append (trail_of key_plan es e.pass)
            (footstep_of e.action r (read (run key_plan es).words r.place) ∷ []) in
            let few = still e.pass (omega (arith, within, all)) ne in
            absurd (omega (arith, grown, long, few))

  -- after all that it did
  goes_on : (early own : List Event) (a : ℕ) → Kept early a
      → ((b : ℕ) → b < key_plan.passes → b ≢ a
      → length (trail_of key_plan (early ++ own) b) ≤ length (trail_of key_plan early b)) → Kept (early ++ own) a
  goes_on early [] a kept still = subst (λ (es : List Event). Kept es a) (sym (append-nil early)) kept
  goes_on early (e ∷ own) a kept still =
      let whole : (early ++ e ∷ []) ++ own ≡ early ++ e ∷ own = append_assoc early (e ∷ []) own in
      let then : (b : ℕ) → b < key_plan.passes → b ≢ a
      → length (trail_of key_plan ((early ++ e ∷ []) ++ own) b) ≤ length (trail_of key_plan early b) = λ b lt ne.
      subst (λ (es : List Event). length (trail_of key_plan es b) ≤ length (trail_of key_plan early b)) (sym whole)
      (still b lt ne) in
      let first : Kept (early ++ e ∷ []) a = event_keeps early e a kept (λ b lt ne.
      let more = trails_lengthen key_plan (early ++ e ∷ []) own b in
      let all = then b lt ne in omega (arith, more, all)) in
      subst (λ (es : List Event). Kept es a) whole (goes_on (early ++ e ∷ []) own a first (λ b lt ne.
      let more = trails_lengthen key_plan early (e ∷ []) b in
      let all = then b lt ne in omega (arith, more, all)))

  pub stays_exact : (early own : List Event) (a : ℕ) → Quiet (run key_plan early)
      → ((b : ℕ) → b < key_plan.passes → b ≢ a
      → length (trail_of key_plan (early ++ own) b) ≤ length (trail_of key_plan early b)) → CrowdsExactly early
      → CrowdsExactly (early ++ own)
  stays_exact early own a quiet still exact =
      (goes_on early own a (record { idle = λ b p ne at. quiet b p at; exact = exact }) still).exact

  -- nothing was decided as the heap opened
  nothing_yet : CrowdedIsExact layout.guard_max []
  nothing_yet before after pass key is = absurd (nothing_there (Crowded pass key) before after is)

  pub opens_exact : CrowdsExactly []
  unfolding run_from
  opens_exact = nothing_yet
