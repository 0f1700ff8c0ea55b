-- The words of a heap are an atomic map.
use Rattle.std.proofs.Common.{◌≡◌, ◌≢◌, ℕ, ◌<◌, ◌==◌, ◌&&◌, ◌||◌, Bool, true, false, cond, List}
use Rattle.std.proofs.Common.{[], ◌∷◌, ◌++◌, refl, ap, sym, ◌∙◌, subst, arith, Option, Some, None, slice_get}
use Rattle.std.proofs.Common.{eqb-true, eq-eqb, ne_eqb}
use Rattle.std.specs.Prelude.{not, nat_lt, IsSome, if◌then◌else◌}
use Rattle.std.proofs.lemmas.Bool.Decides.{nat_tests}
use Rattle.sh_history.specs.declared.entry.Entry.{Entry}
use Rattle.sh_history.specs.declared.entry.Entry.TheVariants.{Insert, Got, Gone, Crowded, Removed, Released, Seen}
use Rattle.sh_history.specs.History.{value_of, is_removed, present_value, Allowed, Legal}
use Rattle.sh_history.proofs.Laws.{legal_after_parts}
use Rattle.sh_slots.specs.declared.hand.KeyRef.{KeyRef}
use Rattle.sh_slots.specs.Slots.{live_at, past_at, has_room, published_name, value_seen}
use Rattle.sh_slots.specs.declared.reply.Reply.{Reply}
use Rattle.sh_slots.specs.declared.reply.Reply.TheVariants as reply
use Rattle.sh_step.specs.declared.body.Body.{Body}
use Rattle.sh_step.specs.declared.moves.Move.{Move}
use Rattle.sh_step.specs.declared.moves.Move.TheVariants as move
use Rattle.sh_step.specs.Conditions.{May, action_of}
use Rattle.sh_step.specs.Moves.{row, row_of}
use Rattle.sh_step.proofs.ConditionLaws.{move_of_row}
use Rattle.sh_step.specs.declared.action.Event.{Event}
use Rattle.sh_step.specs.Plans.{Plan, plan_of}
use Rattle.sh_step.specs.Rows.{Row}
use Rattle.sh_word.specs.Fields.{Fields, fields_of}
use Rattle.sh_core.specs.AtomicMap.{map_of, Finds, made_by, IsOneOperation, EventsAreOperations, OpensEmpty}
use Rattle.sh_core.specs.AtomicMap.{StatesTell}
use Rattle.sh_core.specs.Lists.{PutLists, lists_of}
use Rattle.sh_core.specs.Outcomes.{row_of_event, outcome_of, done}
use Rattle.sh_core.specs.Refines.{Refines, KeyMatchesLog}
use Rattle.sh_core.specs.Looks.{HandSees}
use Rattle.sh_core.specs.Words.{read}
use Rattle.sh_core.specs.Worlds.{World, apply, run, run_from, open_world, entry, entry_of, joined, value_at}
use Rattle.sh_core.specs.Worlds.{value_at_place}
use Rattle.sh_core.proofs.Clauses.RunTheorem.{theorem}
use Rattle.sh_core.proofs.MapEntries.{IsNew, or_true, after_entry, finds}
use Rattle.sh_core.proofs.WaitFree.{skipped, step_applies}
use Rattle.sh_core.proofs.Words.Stepping.{outcome_done, outcome_skipped}
use Rattle.sh_core.proofs.Words.Steps.{run_snoc}

-- ---- the words and the log say the same

-- for the slot's own generation, by its flags
of_now : (p m r : Bool) (v : Option (List ℕ)) (now : List ℕ) → ((p || m) ≡ true → v ≡ Some now)
    → ((p || m) ≡ false → v ≡ None) → r ≡ m
    → cond (p && not m && true) (Some now) None ≡ (if r then None else v)
of_now true true r v now some none is = rw is refl
of_now true false r v now some none is = rw is (sym (some refl))
of_now false true r v now some none is = rw is refl
of_now false false r v now some none is = rw is (sym (none refl))

-- for another generation
of_other : (p m : Bool) (now : List ℕ) → cond (p && not m && false) (Some now) None ≡ None
of_other true true now = refl
of_other true false now = refl
of_other false true now = refl
of_other false false now = refl

module _ (plan : Plan) (w : World) (l : PutLists) (all : Refines plan w l) (k : ℕ) (n : KeyRef)
    (names : plan.keys.unpack k ≡ Some n) where
  abbrev st : Fields
  st = fields_of (w.words.state_at n.page n.slot)

  told : KeyMatchesLog w.log k n.generation st (value_at w.words n.page n.slot)
  told = all.keys k n names

  shown : map_of plan w.words k
      ≡ cond (live_at n.generation (w.words.state_at n.page n.slot)) (Some (value_at w.words n.page n.slot)) None
  shown = ap (λ (o : Option KeyRef). elim o as (λ _. Option (List ℕ)) [
    | Some x ↦ cond (live_at x.generation (w.words.state_at x.page x.slot)) (Some (value_at w.words x.page x.slot)) None
    | None ↦ None
  ]) names

  of_its_generation : st.generation ≡ n.generation → map_of plan w.words k ≡ present_value w.log k
  of_its_generation same =
      let test : (st.generation == n.generation) ≡ true = eq-eqb st.generation n.generation same in
      shown ∙ (ap (λ b. cond (st.present && not st.marked && b) (Some (value_at w.words n.page n.slot)) None) test
      ∙ of_now st.present st.marked (is_removed w.log k) (value_of w.log k) (value_at w.words n.page n.slot)
      (told.issued (sym same)) (told.empty (sym same)) (told.removed (sym same)))

  of_another : (st.generation == n.generation) ≡ false → present_value w.log k ≡ None
      → map_of plan w.words k ≡ present_value w.log k
  of_another test none = shown
      ∙ (ap (λ b. cond (st.present && not st.marked && b) (Some (value_at w.words n.page n.slot)) None) test
      ∙ (of_other st.present st.marked (value_at w.words n.page n.slot) ∙ sym none))

  removed_none : is_removed w.log k ≡ true → present_value w.log k ≡ None
  removed_none is = rw is refl

  present_none : value_of w.log k ≡ None → is_removed w.log k ≡ false → present_value w.log k ≡ None
  present_none none not = rw not none

  pub present_is : map_of plan w.words k ≡ present_value w.log k
  present_is = go (st.generation == n.generation) refl where
    less : (b : Bool) → nat_lt n.generation st.generation ≡ b → (st.generation == n.generation) ≡ false
        → present_value w.log k ≡ None
    less true is other =
        let before : n.generation < st.generation = grind (arith, nat_tests, is) in
        removed_none (all.past k n names before).1
    less false is other =
        let after : st.generation < n.generation = grind (arith, nat_tests, is, other) in
        let neither = told.later after in present_none neither.0 neither.1

    go : (b : Bool) → (st.generation == n.generation) ≡ b → map_of plan w.words k ≡ present_value w.log k
    go true is = of_its_generation (eqb-true st.generation n.generation is)
    go false is = of_another is (less (nat_lt n.generation st.generation) refl is)

  -- the flag of the slot's own generation says whether the key was removed, and a later generation that it was
  pub removal_is_past : is_removed w.log k ≡ past_at n.generation (w.words.state_at n.page n.slot)
  removal_is_past = go (st.generation == n.generation) (nat_lt n.generation st.generation) refl refl where
    go : (b c : Bool) → (st.generation == n.generation) ≡ b → nat_lt n.generation st.generation ≡ c
        → is_removed w.log k ≡ past_at n.generation (w.words.state_at n.page n.slot)
    go b true test less =
        let before : n.generation < st.generation = grind (arith, nat_tests, less) in
        rw less (all.past k n names before).1
    go true false test less = rw (less, test) (told.removed (sym (eqb-true st.generation n.generation test)))
    go false false test less =
        let after : st.generation < n.generation = grind (arith, nat_tests, less, test) in
        rw (less, test) (told.later after).1

  -- a word that is neither live nor past comes before the key was issued
  pub issued_later : live_at n.generation (w.words.state_at n.page n.slot) ≡ false
      → past_at n.generation (w.words.state_at n.page n.slot) ≡ false → value_of w.log k ≡ None
  issued_later off early = go (st.generation == n.generation) (nat_lt n.generation st.generation) refl refl where
    absent : (p m : Bool) → st.present ≡ p → st.marked ≡ m → (st.generation == n.generation) ≡ true
        → nat_lt n.generation st.generation ≡ false → (p || m) ≡ false
    absent p true a b test less = absurd (let z : true ≡ false = rw (less, test, b) at early in cc)
    absent true false a b test less = absurd (let z : true ≡ false = rw (a, b, test) at off in cc)
    absent false false a b test less = refl

    go : (b c : Bool) → (st.generation == n.generation) ≡ b → nat_lt n.generation st.generation ≡ c
        → value_of w.log k ≡ None
    go b true test less = absurd (let z : true ≡ false = rw less at early in cc)
    go true false test less = told.empty (sym (eqb-true st.generation n.generation test))
        (absent st.present st.marked refl refl test less)
    go false false test less =
        let after : st.generation < n.generation = grind (arith, nat_tests, less, test) in (told.later after).0

-- ---- the keys of entries are keys of the heap

reply_key : Reply → ℕ
reply_key (reply.Insert k v) = k
reply_key (reply.Got k) = k
reply_key (reply.Gone k) = k
reply_key (reply.Crowded k) = k
reply_key (reply.Removed k) = k
reply_key (reply.Released k) = k
reply_key (reply.Seen k v) = k

entry_key : Entry → ℕ
entry_key (Insert a k v) = k
entry_key (Got a k v) = k
entry_key (Gone a k) = k
entry_key (Crowded a k) = k
entry_key (Removed a k) = k
entry_key (Released a k) = k
entry_key (Seen a k v) = k

entry_keeps_key : (a : ℕ) (v : List ℕ) (r : Reply) → entry_key (entry a v r) ≡ reply_key r
unfolding reply_key entry_key
entry_keeps_key a v (reply.Insert k u) = refl
entry_keeps_key a v (reply.Got k) = refl
entry_keeps_key a v (reply.Gone k) = refl
entry_keeps_key a v (reply.Crowded k) = refl
entry_keeps_key a v (reply.Removed k) = refl
entry_keeps_key a v (reply.Released k) = refl
entry_keeps_key a v (reply.Seen k u) = refl

IsNamed : Plan → ℕ → Type 0
IsNamed plan k = (x : KeyRef) × (plan.keys.unpack k ≡ Some x)

-- for each move that replies
named_reply : (plan : Plan) (w : World) (l : PutLists) → Refines plan w l → (a : ℕ) (p : Body) (m : Move)
    → slice_get w.parts a ≡ Some p → May plan p m → row plan p (action_of plan m) ≡ Some (row_of plan p m)
    → (r : Reply) → (row_of plan p m).reply (read w.words (row_of plan p m).place) ≡ Some r → IsNamed plan (reply_key r)
unfolding reply_key IsNamed
named_reply plan w l all a p (move.EnterGet k x) at may has r is =
    go (live_at x.generation (w.words.state_at x.page x.slot))
    (has_room plan.keys.guard_max (w.words.state_at x.page x.slot)) is where
      go : (b c : Bool) → Some (cond b (cond c (reply.Got k) (reply.Crowded k)) (reply.Gone k)) ≡ Some r
          → (x : KeyRef) × (plan.keys.unpack (reply_key r) ≡ Some x)
      go true true e = let s : reply.Got k ≡ r = cc in
          (x, subst (λ z. plan.keys.unpack (reply_key z) ≡ Some x) s may.1.unpacks)
      go true false e = let s : reply.Crowded k ≡ r = cc in
          (x, subst (λ z. plan.keys.unpack (reply_key z) ≡ Some x) s may.1.unpacks)
      go false c e = let s : reply.Gone k ≡ r = cc in
          (x, subst (λ z. plan.keys.unpack (reply_key z) ≡ Some x) s may.1.unpacks)
named_reply plan w l all a p (move.EnterRemove k x) at may has r is =
    go (live_at x.generation (w.words.state_at x.page x.slot)) is where
      go : (b : Bool) → cond b None (Some (reply.Gone k)) ≡ Some r
          → (x : KeyRef) × (plan.keys.unpack (reply_key r) ≡ Some x)
      go true e = absurd (let z : None ≡ Some r = e in cc)
      go false e = let s : reply.Gone k ≡ r = cc in
          (x, subst (λ z. plan.keys.unpack (reply_key z) ≡ Some x) s may.1.unpacks)
named_reply plan w l all a p (move.Mark k x) at may has r is =
    go (fields_of (w.words.state_at x.page x.slot)).marked is where
      go : (b : Bool) → Some (cond b (reply.Gone k) (reply.Removed k)) ≡ Some r
          → (x : KeyRef) × (plan.keys.unpack (reply_key r) ≡ Some x)
      go true e = let s : reply.Gone k ≡ r = cc in
          (x, subst (λ z. plan.keys.unpack (reply_key z) ≡ Some x) s may.1.unpacks)
      go false e = let s : reply.Removed k ≡ r = cc in
          (x, subst (λ z. plan.keys.unpack (reply_key z) ≡ Some x) s may.1.unpacks)
named_reply plan w l all a p (move.DropHold k x) at may has r is =
    let s : reply.Released k ≡ r = cc in (x, subst (λ z. plan.keys.unpack (reply_key z) ≡ Some x) s may.1.unpacks)
named_reply plan w l all a p (move.Publish x v) at may has r is =
    let n : ℕ = w.words.state_at x.page x.slot in
    let k : ℕ = plan.keys.pack (published_name x n) in
    let s : reply.Insert k v ≡ r = cc in
    let u = all.issues a p (action_of plan (move.Publish x v)) (row_of plan p (move.Publish x v)) k v x.page x.slot
    at has refl refl in (
      record { page = x.page; slot = x.slot; generation = (fields_of n).generation },
      subst (λ z. plan.keys.unpack (reply_key z) ≡ Some (record {
        page = x.page;
        slot = x.slot;
        generation = (fields_of n).generation;
      })) s u,
    )
named_reply plan w l all a p (move.Look k x) at may has r is =
    go (past_at x.generation (w.words.state_at x.page x.slot)) is where
      go : (b : Bool) → cond b (Some (reply.Gone k)) None ≡ Some r
          → (x : KeyRef) × (plan.keys.unpack (reply_key r) ≡ Some x)
      go true e = let s : reply.Gone k ≡ r = cc in
          (x, subst (λ z. plan.keys.unpack (reply_key z) ≡ Some x) s may.1.unpacks)
      go false e = absurd (let z : None ≡ Some r = e in cc)
named_reply plan w l all a p (move.LookAgain k x u) at may has r is =
    go (live_at x.generation (w.words.state_at x.page x.slot)) is where
      named : plan.keys.unpack k ≡ Some x
      named = (subst (HandSees plan w.words.class_at w.log) may.0 (all.looks a p at)).named.unpacks

      go : (b : Bool) → Some (cond b (reply.Seen k (value_seen u)) (reply.Gone k)) ≡ Some r
          → (x : KeyRef) × (plan.keys.unpack (reply_key r) ≡ Some x)
      go true e = let s : reply.Seen k (value_seen u) ≡ r = cc in
          (x, subst (λ z. plan.keys.unpack (reply_key z) ≡ Some x) s named)
      go false e = let s : reply.Gone k ≡ r = cc in
          (x, subst (λ z. plan.keys.unpack (reply_key z) ≡ Some x) s named)
named_reply plan w l all a p m at may has r is = absurd (let z : None ≡ Some r = is in cc)

-- ---- an event

finds_same : (t : Entry) (m u : ℕ → Option (List ℕ)) → m (entry_key t) ≡ u (entry_key t) → Finds m t → Finds u t
unfolding entry_key
finds_same (Insert a k v) m u same f = sym same ∙ f
finds_same (Got a k v) m u same f = sym same ∙ f
finds_same (Gone a k) m u same f = sym same ∙ f
finds_same (Crowded a k) m u same f = subst (λ (o : Option (List ℕ)). IsSome o) same f
finds_same (Removed a k) m u same f = subst (λ (o : Option (List ℕ)). IsSome o) same f
finds_same (Released a k) m u same f = tt
finds_same (Seen a k v) m u same f = sym same ∙ f

made_same : (t : Entry) (m u : ℕ → Option (List ℕ)) (j : ℕ) → m j ≡ u j → made_by m t j ≡ made_by u t j
made_same (Insert a k v) m u j same = ap (λ o. cond (k == j) (Some v) o) same
made_same (Removed a k) m u j same = ap (λ o. cond (k == j) None o) same
made_same (Got a k v) m u j same = same
made_same (Gone a k) m u j same = same
made_same (Crowded a k) m u j same = same
made_same (Released a k) m u j same = same
made_same (Seen a k v) m u j same = same

made_none : (t : Entry) (m : ℕ → Option (List ℕ)) (j : ℕ) → m j ≡ None → entry_key t ≢ j → made_by m t j ≡ None
unfolding entry_key
made_none (Insert a k v) m j none other = ap (λ b. cond b (Some v) (m j)) (ne_eqb k j other) ∙ none
made_none (Removed a k) m j none other = ap (λ b. cond b None (m j)) (ne_eqb k j other) ∙ none
made_none (Got a k v) m j none other = none
made_none (Gone a k) m j none other = none
made_none (Crowded a k) m j none other = none
made_none (Released a k) m j none other = none
made_none (Seen a k v) m j none other = none

unnamed : (plan : Plan) (w : World) (k : ℕ) → plan.keys.unpack k ≡ None → map_of plan w.words k ≡ None
unnamed plan w k is = ap (λ (o : Option KeyRef). elim o as (λ _. Option (List ℕ)) [
  | Some x ↦ cond (live_at x.generation (w.words.state_at x.page x.slot)) (Some (value_at w.words x.page x.slot)) None
  | None ↦ None
]) is

-- a key that was not issued was not removed
not_removed : (plan : Plan) (w : World) (l : PutLists) → Refines plan w l → (k : ℕ) (n : KeyRef)
    → plan.keys.unpack k ≡ Some n → value_of w.log k ≡ None → is_removed w.log k ≡ false
not_removed plan w l all k n names none =
    go ((fields_of (w.words.state_at n.page n.slot)).generation == n.generation) refl where
      told : KeyMatchesLog w.log k n.generation (fields_of (w.words.state_at n.page n.slot))
          (value_at w.words n.page n.slot)
      told = all.keys k n names

      unissued : {A : Type 0} (v : List ℕ) → value_of w.log k ≡ Some v → A
      unissued v some = absurd (let z : None ≡ Some v = sym none ∙ some in cc)

      marked : (m : Bool) → (fields_of (w.words.state_at n.page n.slot)).marked ≡ m
          → n.generation ≡ (fields_of (w.words.state_at n.page n.slot)).generation → is_removed w.log k ≡ false
      marked false is same = told.removed same ∙ is
      marked true is same = unissued (value_at w.words n.page n.slot) (told.issued same
          (ap (λ b. (fields_of (w.words.state_at n.page n.slot)).present || b) is
          ∙ or_true (fields_of (w.words.state_at n.page n.slot)).present))

      less : (b : Bool) → nat_lt n.generation (fields_of (w.words.state_at n.page n.slot)).generation ≡ b
          → ((fields_of (w.words.state_at n.page n.slot)).generation == n.generation) ≡ false
          → is_removed w.log k ≡ false
      less true is other =
          let before : n.generation < (fields_of (w.words.state_at n.page n.slot)).generation = grind
          (arith, nat_tests, is) in
          let past = (all.past k n names before).0 in
          absurd (let z = subst (λ (o : Option (List ℕ)). IsSome o) none past in cc)
      less false is other =
          let after : (fields_of (w.words.state_at n.page n.slot)).generation < n.generation = grind
          (arith, nat_tests, is, other) in (told.later after).1

      go : (b : Bool) → ((fields_of (w.words.state_at n.page n.slot)).generation == n.generation) ≡ b
          → is_removed w.log k ≡ false
      go true is = marked (fields_of (w.words.state_at n.page n.slot)).marked refl
          (sym (eqb-true (fields_of (w.words.state_at n.page n.slot)).generation n.generation is))
      go false is = less (nat_lt n.generation (fields_of (w.words.state_at n.page n.slot)).generation) refl is

is_new : (plan : Plan) (w : World) (l : PutLists) → Refines plan w l → (t : Entry) → IsNamed plan (entry_key t)
    → Allowed plan.passes plan.keys.guard_max w.log t → IsNew w.log t
unfolding IsNew IsNamed entry_key
is_new plan w l all (Insert a k v) named may = (may, not_removed plan w l all k named.0 named.1 may)
is_new plan w l all (Got a k v) named may = tt
is_new plan w l all (Gone a k) named may = tt
is_new plan w l all (Crowded a k) named may = tt
is_new plan w l all (Removed a k) named may = tt
is_new plan w l all (Released a k) named may = tt
is_new plan w l all (Seen a k v) named may = tt

words_same : (plan : Plan) (w v : World) (l j : PutLists) → Refines plan w l → Refines plan v j → v.log ≡ w.log
    → (k : ℕ) → map_of plan v.words k ≡ map_of plan w.words k
words_same plan w v l j all one same k = go (plan.keys.unpack k) refl where
  go : (o : Option KeyRef) → plan.keys.unpack k ≡ o → map_of plan v.words k ≡ map_of plan w.words k
  go None is = unnamed plan v k is ∙ sym (unnamed plan w k is)
  go (Some n) is = present_is plan v j one k n is ∙ (ap (λ log. present_value log k) same
      ∙ sym (present_is plan w l all k n is))

-- an entry that joined the log
replied : (plan : Plan) (w v : World) (l j : PutLists) → Refines plan w l → Refines plan v j → (t : Entry)
    → IsNamed plan (entry_key t) → v.log ≡ w.log ++ t ∷ []
    → Finds (map_of plan w.words) t × ((k : ℕ) → map_of plan v.words k ≡ made_by (map_of plan w.words) t k)
unfolding IsNamed
replied plan w v l j all one t named log = (
  finds_same t (present_value w.log) (map_of plan w.words)
      (sym (present_is plan w l all (entry_key t) named.0 named.1)) (finds plan.passes plan.keys.guard_max w.log t may),
  λ k. each k (plan.keys.unpack k) refl,
) where
  may : Allowed plan.passes plan.keys.guard_max w.log t
  may = (legal_after_parts plan.passes plan.keys.guard_max [] w.log (t ∷ [])
      (subst (Legal plan.passes plan.keys.guard_max) log one.legal)).1.0

  new : IsNew w.log t
  new = is_new plan w l all t named may

  each : (k : ℕ) (o : Option KeyRef) → plan.keys.unpack k ≡ o
      → map_of plan v.words k ≡ made_by (map_of plan w.words) t k
  each k None is = unnamed plan v k is ∙ sym (made_none t (map_of plan w.words) k (unnamed plan w k is)
      (λ e. let z : None ≡ Some named.0 = sym is ∙ (ap plan.keys.unpack (sym e) ∙ named.1) in cc))
  each k (Some n) is = present_is plan v j one k n is ∙ (ap (λ es. present_value es k) log
      ∙ (after_entry w.log t new k ∙ made_same t (present_value w.log) (map_of plan w.words) k
      (sym (present_is plan w l all k n is))))

keys_named : (plan : Plan) (w : World) (l : PutLists) → Refines plan w l → (e : Event) (r : Row) (rep : Reply)
    → row_of_event plan w e ≡ Some r → r.reply (read w.words r.place) ≡ Some rep → IsNamed plan (reply_key rep)
unfolding row_of_event
keys_named plan w l all e r rep is says = go (slice_get w.parts e.pass) refl is where
  go : (o : Option Body) → slice_get w.parts e.pass ≡ o
      → (elim o as (λ _. Option Row) [ Some p ↦ row plan p e.action | None ↦ None ]) ≡ Some r
      → IsNamed plan (reply_key rep)
  go None at h = absurd (let z : None ≡ Some r = h in cc)
  go (Some p) at h =
      let d = move_of_row plan p e.action r h in
      let m = d.0 in
      let its : row plan p (action_of plan m) ≡ Some (row_of plan p m) = ap (row plan p) d.3 ∙ (h ∙ ap Some d.4) in
      named_reply plan w l all e.pass p m at d.2 its rep
      (subst (λ (u : Row). u.reply (read w.words u.place) ≡ Some rep) d.4 says)

pub events_are_operations : EventsAreOperations
unfolding apply
events_are_operations layout shape b c f es e =
    go (row_of_event (plan_of layout shape) (run (plan_of layout shape) es) e) refl where
      all : Refines (plan_of layout shape) (run (plan_of layout shape) es) (lists_of (plan_of layout shape) es)
      all = theorem layout shape b c f es

      one : Refines (plan_of layout shape) (run (plan_of layout shape) (es ++ e ∷ []))
          (lists_of (plan_of layout shape) (es ++ e ∷ []))
      one = theorem layout shape b c f (es ++ e ∷ [])

      go : (o : Option Row) → row_of_event (plan_of layout shape) (run (plan_of layout shape) es) e ≡ o
          → IsOneOperation (map_of (plan_of layout shape) (run (plan_of layout shape) es).words)
          (map_of (plan_of layout shape) (run (plan_of layout shape) (es ++ e ∷ [])).words)
          (outcome_of (plan_of layout shape) (run (plan_of layout shape) es) e)
      go None is = subst (IsOneOperation (map_of (plan_of layout shape) (run (plan_of layout shape) es).words)
          (map_of (plan_of layout shape) (run (plan_of layout shape) (es ++ e ∷ [])).words))
          (sym (outcome_skipped (plan_of layout shape) (run (plan_of layout shape) es) e is))
          (λ k. ap (λ (v : World). map_of (plan_of layout shape) v.words k)
          (run_snoc (plan_of layout shape) (open_world (plan_of layout shape)) es e
          ∙ skipped (plan_of layout shape) (run (plan_of layout shape) es) e is))
      go (Some r) is = by (r.reply (read (run (plan_of layout shape) es).words r.place)) refl where
        log : (run (plan_of layout shape) (es ++ e ∷ [])).log ≡ joined (run (plan_of layout shape) es).log
            (entry_of e.pass (value_at_place (run (plan_of layout shape) es).words r.place)
            (r.reply (read (run (plan_of layout shape) es).words r.place)))
        log = ap (λ (v : World). v.log) (run_snoc (plan_of layout shape) (open_world (plan_of layout shape)) es e
            ∙ step_applies (plan_of layout shape) (run (plan_of layout shape) es) e r is)

        told : outcome_of (plan_of layout shape) (run (plan_of layout shape) es) e ≡ done
            (entry_of e.pass (value_at_place (run (plan_of layout shape) es).words r.place)
            (r.reply (read (run (plan_of layout shape) es).words r.place)))
        told = outcome_done (plan_of layout shape) (run (plan_of layout shape) es) e r is

        by : (o : Option Reply) → r.reply (read (run (plan_of layout shape) es).words r.place) ≡ o
            → IsOneOperation (map_of (plan_of layout shape) (run (plan_of layout shape) es).words)
            (map_of (plan_of layout shape) (run (plan_of layout shape) (es ++ e ∷ [])).words)
            (outcome_of (plan_of layout shape) (run (plan_of layout shape) es) e)
        by None none = subst (IsOneOperation (map_of (plan_of layout shape) (run (plan_of layout shape) es).words)
            (map_of (plan_of layout shape) (run (plan_of layout shape) (es ++ e ∷ [])).words))
            (sym (told
            ∙ ap (λ o. done (entry_of e.pass (value_at_place (run (plan_of layout shape) es).words r.place) o)) none))
            (λ k. words_same (plan_of layout shape) (run (plan_of layout shape) es)
            (run (plan_of layout shape) (es ++ e ∷ [])) (lists_of (plan_of layout shape) es)
            (lists_of (plan_of layout shape) (es ++ e ∷ [])) all one
            (log ∙ ap (λ o. joined (run (plan_of layout shape) es).log
            (entry_of e.pass (value_at_place (run (plan_of layout shape) es).words r.place) o)) none) k)
        by (Some rep) some =
            let v : List ℕ = value_at_place (run (plan_of layout shape) es).words r.place in
            let t : Entry = entry e.pass v rep in
            let named : IsNamed (plan_of layout shape) (entry_key t) = subst (IsNamed (plan_of layout shape))
            (sym (entry_keeps_key e.pass v rep)) (keys_named (plan_of layout shape) (run (plan_of layout shape) es)
            (lists_of (plan_of layout shape) es) all e r rep is some) in
            subst (IsOneOperation (map_of (plan_of layout shape) (run (plan_of layout shape) es).words)
            (map_of (plan_of layout shape) (run (plan_of layout shape) (es ++ e ∷ [])).words))
            (sym (told ∙ ap (λ o. done (entry_of e.pass v o)) some))
            (replied (plan_of layout shape) (run (plan_of layout shape) es) (run (plan_of layout shape) (es ++ e ∷ []))
            (lists_of (plan_of layout shape) es) (lists_of (plan_of layout shape) (es ++ e ∷ [])) all one t named
            (log ∙ ap (λ o. joined (run (plan_of layout shape) es).log (entry_of e.pass v o)) some))

pub opens_empty : OpensEmpty
unfolding run_from fields_of
opens_empty layout shape k = go ((plan_of layout shape).keys.unpack k) where
  go : (o : Option KeyRef) → (elim o as (λ _. Option (List ℕ)) [
    | Some n ↦ cond (live_at n.generation ((open_world (plan_of layout shape)).words.state_at n.page n.slot))
        (Some (value_at (open_world (plan_of layout shape)).words n.page n.slot)) None
    | None ↦ None
  ]) ≡ None
  go (Some n) = refl
  go None = refl

-- the word of a slot tells what became of its keys
pub states_tell : StatesTell
states_tell layout shape a b c es k x is =
    let plan = plan_of layout shape in
    let w = run plan es in
    let all = theorem layout shape a b c es in record {
      there = sym (present_is plan w (lists_of plan es) all k x is)
          ∙ ap (λ (o : Option KeyRef). elim o as (λ _. Option (List ℕ)) [
            | Some n ↦ cond (live_at n.generation (w.words.state_at n.page n.slot))
                (Some (value_at w.words n.page n.slot)) None
            | None ↦ None
          ]) is;
      removed = removal_is_past plan w (lists_of plan es) all k x is;
      unissued = issued_later plan w (lists_of plan es) all k x is;
    }
