-- What the log says of keys, over one more entry, and that it stays legal.
use Rattle.std.proofs.Common.{◌≡◌, ◌≢◌, ℕ, ◌+◌, ◌<◌, ◌≤◌, ◌==◌, ◌&&◌, ◌||◌, ◌⊎◌, inl, inr, Bool, true, false, cond}
use Rattle.std.proofs.Common.{List, [], ◌∷◌, ◌++◌, length, set, sym, refl, ap, ◌∙◌, subst, arith, Some, slice_get}
use Rattle.std.proofs.Common.{⊎_elim, eq-or-lt_of_le}
use Rattle.std.specs.Prelude.{not}
use Rattle.std.proofs.lemmas.List.{append-nil}
use Rattle.std.proofs.lemmas.Bool.{cases_lt}
use Rattle.std.proofs.lemmas.Bool.Decides.{nat_tests}
use Rattle.sh_history.specs.declared.entry.Entry.{Entry}
use Rattle.sh_history.specs.declared.entry.Entry.TheVariants.{Insert, Got, Gone}
use Rattle.sh_slots.specs.declared.hand.SlotRef.{SlotRef}
use Rattle.sh_slots.specs.declared.hand.KeyRef.{KeyRef}
use Rattle.sh_core.specs.Words.{Words, write}
use Rattle.sh_shape.specs.declared.places.Place.TheVariants.{State}
use Rattle.sh_word.specs.Fields.{Fields, fields_of}
use Rattle.sh_step.specs.Plans.{Plan}
use Rattle.sh_slots.specs.Slots.{same_slot, slot_ref_of, live_at}
use Rattle.sh_step.specs.Collections.{total, if1}
use Rattle.sh_step.specs.declared.body.Body.{Body}
use Rattle.sh_core.specs.Worlds.{value_at}
use Rattle.sh_core.specs.Stories.{values, removals, removed_in, gots_by, releases_by, Story, KeysAgree, HoldsAgree}
use Rattle.sh_core.proofs.Slots.Permits.{Permits}
use Rattle.sh_core.specs.Lists.{times}
use Rattle.sh_core.proofs.Sums.Totals.{total_append, get_set}
use Rattle.sh_core.proofs.Slots.Slots.{same_slot-true}
use Rattle.sh_core.proofs.Sums.Writes.{put2_same, put2_other}

pub values_append : (k : ℕ) (es fs : List Entry) → values k (es ++ fs) ≡ values k es ++ values k fs
unfolding values
values_append k [] fs = refl
values_append k (Insert a j v ∷ es) fs = go (j == k) (values_append k es fs) where
  go : (b : Bool) → values k (es ++ fs) ≡ values k es ++ values k fs
      → cond b (v ∷ values k (es ++ fs)) (values k (es ++ fs)) ≡ cond b (v ∷ values k es) (values k es) ++ values k fs
  go true h = ap (λ x. v ∷ x) h
  go false h = h
values_append k (_ ∷ es) fs = values_append k es fs

pub removals_snoc : (k : ℕ) (es : List Entry) (e : Entry) → removals k (es ++ e ∷ []) ≡ removals k es + removed_in k e
unfolding total
removals_snoc k es e = omega (arith, total_append (removed_in k) es (e ∷ []))

story_gone : (st : Fields) (g : ℕ) (vs : List (List ℕ)) (gone : ℕ) (now : List ℕ) → Story st g vs gone now
    → (st.present && not st.marked && (st.generation == g)) ≡ false → (vs ≡ []) ⊎ (0 < gone)
story_gone st g vs gone now s h = go (cases_lt g st.generation) where
  of_now : (p m : Bool) → st.present ≡ p → st.marked ≡ m → g ≡ st.generation → (vs ≡ []) ⊎ (0 < gone)
  of_now p true a b e = let k = s.mark e in let one : if1 st.marked ≡ 1 = rw b refl in inr (omega arith)
  of_now true false a b e = let k : (st.generation == g) ≡ true = grind (arith, nat_tests)
      in absurd (let z : true ≡ false = rw (a, b, k) at h in cc)
  of_now false false a b e = inl (s.fresh e (rw (a, b) refl))

  go : (g < st.generation) ⊎ (st.generation ≤ g) → (vs ≡ []) ⊎ (0 < gone)
  go (inl c) = let k = (s.before c).1 in inr (omega arith)
  go (inr c) = ⊎_elim (λ d. of_now st.present st.marked refl refl (sym d)) (λ d. inl (s.later d).0) (eq-or-lt_of_le c)

-- Gone: the slot says that k is not Live in it
pub gone_permitted : (plan : Plan) (log : List Entry) (a k : ℕ) (y : KeyRef) (n : ℕ) (now : List ℕ)
    → Story (fields_of n) y.generation (values k log) (removals k log) now → live_at y.generation n ≡ false
    → Permits plan log (Gone a k)
gone_permitted plan log a k y n now s h = story_gone (fields_of n) y.generation (values k log) (removals k log) now s h

pub live_parts : (p m : Bool) (g h : ℕ) → (p && not m && (g == h)) ≡ true → (p ≡ true) × (m ≡ false) × (h ≡ g)
live_parts true true g h e = absurd (let z : false ≡ true = e in cc)
live_parts true false g h e = (refl, refl, grind (arith, nat_tests))
live_parts false m g h e = absurd (let z : false ≡ true = e in cc)

-- Got: the slot is Live with k's generation
pub got_permitted : (plan : Plan) (log : List Entry) (a k : ℕ) (y : KeyRef) (n : ℕ) (now : List ℕ)
    → Story (fields_of n) y.generation (values k log) (removals k log) now → live_at y.generation n ≡ true
    → Permits plan log (Got a k now)
got_permitted plan log a k y n now s h =
    let l = live_parts (fields_of n).present (fields_of n).marked (fields_of n).generation y.generation h in
    let v : values k log ≡ now ∷ [] = s.value l.2 (rw l.0 refl) in
    let r = s.mark l.2 in
    let zero : if1 (fields_of n).marked ≡ 0 = rw l.1 refl in (v, omega arith)

pub story_mark : (st : Fields) (g : ℕ) (vs : List (List ℕ)) (gone e : ℕ) (now : List ℕ) → Story st g vs gone now
    → st.marked ≡ false → st.present ≡ true → (g ≡ st.generation → e ≡ 1) → (g ≢ st.generation → e ≡ 0)
    → Story (record st { marked = true }) g vs (gone + e) now
story_mark st g vs gone e now s m p one none =
    let zero : if1 st.marked ≡ 0 = rw m refl in record {
      before = λ h. let b = s.before h in let i : e ≡ 0 = none (omega arith) in (b.0, omega arith);
      value = λ h c. s.value h (rw p refl);
      fresh = λ h c. absurd (let z : (true || true) ≡ false = rw p at c in cc);
      mark = λ h. let b = s.mark h in let i = one h in omega arith;
      later = λ h. let b = s.later h in let i : e ≡ 0 = none (omega arith) in (b.0, omega arith);
    }

pub story_publish : (st : Fields) (g : ℕ) (vs new : List (List ℕ)) (gone : ℕ) (now : List ℕ) → Story st g vs gone now
    → st.marked ≡ false → st.present ≡ false → (g ≡ st.generation → new ≡ now ∷ []) → (g ≢ st.generation → new ≡ [])
    → Story (record st { present = true }) g (vs ++ new) gone now
story_publish st g vs new gone now s m p one none = record {
  before = λ h. let b = s.before h in let i : new ≡ [] = none (omega arith) in (rw (i, append-nil) b.0, b.1);
  value = λ h c. rw (s.fresh h (rw (p, m) refl), one h) refl;
  fresh = λ h c. cc;
  mark = s.mark;
  later = λ h. let b = s.later h in let i : new ≡ [] = none (omega arith) in (rw (b.0, i) refl, b.1);
}

pub story_finish : (st : Fields) (g : ℕ) (vs : List (List ℕ)) (gone : ℕ) (now now' : List ℕ) → Story st g vs gone now
    → st.marked ≡ true → st.present ≡ true → Story (record {
      generation = st.generation + 1;
      marked = false;
      present =
          false;
      count = 0;
    }) g vs gone now'
story_finish st g vs gone now now' s m p =
    let one : if1 st.marked ≡ 1 = rw m refl in record {
      before = λ h. ⊎_elim (λ d. s.before d) (λ d. let e : g ≡ st.generation = omega arith in let b = s.mark e
          in (ap length (s.value e (rw p refl)), omega arith)) (cases_lt g st.generation);
      value = λ h c. cc;
      fresh = λ h c. let b = s.later (omega arith) in b.0;
      mark = λ h. let b = s.later (omega arith) in b.1;
      later = λ h. s.later (omega arith);
    }

pub story_retire : (st : Fields) (g : ℕ) (vs : List (List ℕ)) (gone : ℕ) (now : List ℕ) → Story st g vs gone now
    → st.marked ≡ true → st.present ≡ true → Story (record {
      generation = st.generation;
      marked = true;
      present = false;
      count = 0;
    }) g vs gone now
story_retire st g vs gone now s m p = record {
  before = s.before;
  value = λ h c. s.value h (rw p refl);
  fresh = λ h c. cc;
  mark = λ h. s.mark h ∙ rw m refl;
  later = s.later;
}

pub story_fill : (st : Fields) (g : ℕ) (vs : List (List ℕ)) (gone : ℕ) (now now' : List ℕ) → Story st g vs gone now
    → st.marked ≡ false → st.present ≡ false → Story st g vs gone now'
story_fill st g vs gone now now' s m p = record {
  before = s.before;
  value = λ h c. absurd (let z : (false || false) ≡ true = rw (p, m) at c in cc);
  fresh = s.fresh;
  mark = s.mark;
  later = s.later;
}

pub story_count : (st : Fields) (c g : ℕ) (vs : List (List ℕ)) (gone : ℕ) (now : List ℕ) → Story st g vs gone now
    → Story (record st { count = c }) g vs gone now
story_count st c g vs gone now s = record {
  before = s.before;
  value = s.value;
  fresh = s.fresh;
  mark = s.mark;
  later =
      s.later;
}

pub values_none : (k : ℕ) (es : List Entry) (e : Entry) → values k (e ∷ []) ≡ [] → values k (es ++ e ∷ []) ≡ values k es
values_none k es e h = values_append k es (e ∷ []) ∙ rw h (append-nil (values k es))

-- a step on the state word of x
pub keys_state : (plan : Plan) (w : Words) (log log' : List Entry) (x : SlotRef) (n : ℕ) → KeysAgree plan w log
    → ((k : ℕ) (z : KeyRef) → plan.keys.unpack k ≡ Some z → same_slot (slot_ref_of z) x ≡ false
    → (values k log' ≡ values k log) × (removals k log' ≡ removals k log))
    → ((k : ℕ) (z : KeyRef) → plan.keys.unpack k ≡ Some z → slot_ref_of z ≡ x
    → Story (fields_of n) z.generation (values k log') (removals k log') (value_at w x.page x.slot))
    → KeysAgree plan (write w (State x.page x.slot) n) log'
unfolding value_at
keys_state plan w log log' x n old others this k z name = go (same_slot (slot_ref_of z) x) refl where
  go : (b : Bool) → same_slot (slot_ref_of z) x ≡ b → Story (fields_of
      ((write w (State x.page x.slot) n).state_at z.page z.slot)) z.generation (values k log') (removals k log')
      (value_at (write w (State x.page x.slot) n) z.page z.slot)
  go true h =
      let e : slot_ref_of z ≡ x = same_slot-true x (slot_ref_of z) h in
      let P : SlotRef → Type 0 = λ y. Story (fields_of ((write w (State x.page x.slot) n).state_at y.page y.slot))
      z.generation (values k log') (removals k log') (value_at w y.page y.slot) in
      subst P (sym e) (rw put2_same (this k z name e))
  go false h = let o = others k z name h in rw (put2_other w.state_at x.page x.slot n z.page z.slot h, o.0, o.1)
      (old k z name)

-- one pass steps, and its entry says what changes in its holds
pub holds_step : (ps : List Body) (log log' : List Entry) (a : ℕ) (p p' : Body) → HoldsAgree ps log → slice_get ps a
    ≡ Some p
    → ((k : ℕ) → gots_by a k log' + releases_by a k log + times k p.holds
    ≡ releases_by a k log' + times k p'.holds + gots_by a k log)
    → ((b k : ℕ) → b ≢ a → (gots_by b k log' ≡ gots_by b k log) × (releases_by b k log' ≡ releases_by b k log))
    → HoldsAgree (set ps a p') log'
holds_step ps log log' a p p' old at mine others b u e k = ⊎_elim
    (λ h. let P : ℕ → Body → Type 0 = λ c q. gots_by c k log' ≡ releases_by c k log' + times k q.holds in
    let o = old a p at k in
    let m = mine k in
    let g : P a p' = omega arith in subst (λ (c : ℕ × Body). P c.0 c.1) (λ i. (sym h.0 i, h.1 i)) g)
    (λ h. let o = others b k h.0 in let f = old b u h.1 k in omega arith) (get_set ps a b p' u e)

pub story_same : (st st' : Fields) (g : ℕ) (vs : List (List ℕ)) (gone : ℕ) (now : List ℕ) → st'.generation
    ≡ st.generation → st'.marked ≡ st.marked → st'.present ≡ st.present → Story st g vs gone now
    → Story st' g vs gone now
story_same st st' g vs gone now a b c s =
    let e : record st { count = st'.count } ≡ st' = λ i. record
    { generation = sym a i; marked = sym b i; present = sym c i; count = st'.count } in
    let P : Fields → Type 0 = λ t. Story t g vs gone now in
    subst P e (story_count st st'.count g vs gone now s)

-- an entry that neither inserts nor removes, at a step that leaves generation, M and P
pub keys_quiet : (plan : Plan) (w : Words) (log : List Entry) (e : Entry) (x : SlotRef) (n : ℕ) → KeysAgree plan w log
    → ((k : ℕ) → (values k (e ∷ []) ≡ []) × (removed_in k e ≡ 0))
    → (fields_of n).generation ≡ (fields_of (w.state_at x.page x.slot)).generation → (fields_of n).marked
    ≡ (fields_of (w.state_at x.page x.slot)).marked → (fields_of n).present
    ≡ (fields_of (w.state_at x.page x.slot)).present
    → KeysAgree plan (write w (State x.page x.slot) n) (log ++ e ∷ [])
keys_quiet plan w log e x n old quiet a b c =
    let vs : (k : ℕ) → values k (log ++ e ∷ []) ≡ values k log = λ k. values_none k log e (quiet k).0 in
    let rs : (k : ℕ) → removals k (log ++ e ∷ []) ≡ removals k log = λ k. let q = (quiet k).1
    in omega (arith, removals_snoc k log e) in
    keys_state plan w log (log ++ e ∷ []) x n old (λ k z name h. (vs k, rs k)) (λ k z name h.
    let P : SlotRef → Type 0 = λ y. Story (fields_of (w.state_at y.page y.slot)) z.generation (values k log)
    (removals k log) (value_at w y.page y.slot) in
    rw (vs k, rs k) (story_same (fields_of (w.state_at x.page x.slot)) (fields_of n) z.generation (values k log)
    (removals k log) (value_at w x.page x.slot) a b c (subst P h (old k z name))))
