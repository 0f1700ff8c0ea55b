-- Steps that miss keys: those of a peek, and of a look or a get of the key that it found.
use Rattle.std.proofs.Common.{◌≡◌, ◌≢◌, ℕ, ◌==◌, ◌&&◌, ◌⊎◌, inl, inr, Bool, true, false, List, [], ◌∷◌, ◌++◌, Option, Some}
use Rattle.std.proofs.Common.{None, refl, ap, subst, sym, ◌∙◌, append_assoc, eqb-true, eq-eqb, arith, map}
use Rattle.std.specs.Prelude.{cond, not}
use Rattle.std.specs.List.{Contains}
use Rattle.std.proofs.lemmas.List.Elements.{Contains-append_left, Contains-append_right, Contains-append_cases}
use Rattle.std.proofs.lemmas.List.Elements.{Contains-push, Contains-push_cases}
use Rattle.sh_word.specs.Fields.{fields_of}
use Rattle.sh_shape.specs.declared.places.Place.{Place}
use Rattle.sh_shape.specs.declared.places.Place.TheVariants.{State}
use Rattle.sh_slots.specs.declared.enter.GetAnswer.TheVariants.{Got, Crowded, Gone}
use Rattle.sh_slots.specs.declared.hand.KeyRef.{KeyRef}
use Rattle.sh_slots.specs.declared.hand.SlotRef.{SlotRef}
use Rattle.sh_slots.specs.Slots.{has_room, live_at, past_at, slot_ref_of}
use Rattle.sh_step.specs.Conditions.{slot_name}
use Rattle.sh_step.specs.declared.action.Action.TheVariants as action
use Rattle.sh_step.specs.declared.footstep.Footstep.{Footstep}
use Rattle.sh_step.specs.Moves.{place_named}
use Rattle.sh_step.proofs.LookupLaws.{place_is}
use Rattle.sh_step.proofs.WordLaws.{live_not_past}
use Rattle.sh_step.specs.Plans.{Plan, plan_of}
use Rattle.sh_key.specs.Layout.{Layout}
use Rattle.sh_shape.specs.Shape.{Numbers}
use Rattle.sh_pass.proofs.PeekLaws.{one_key}
use Rattle.sh_history.specs.declared.log.LogEntry.{LogEntry}
use Rattle.sh_history.specs.declared.log.LogEntry.TheVariants.{Known}
use Rattle.sh_history.specs.declared.entry.Entry.TheVariants as entry
use Rattle.sh_table.specs.declared.view.Heard.{Heard}
use Rattle.sh_table.specs.declared.view.Order.{Order}
use Rattle.sh_table.specs.declared.view.Told.{Told}
use Rattle.sh_table.specs.declared.view.View.{View}
use Rattle.sh_table.specs.Views.{HeardOfInsert, done_by, heard_in}
use Rattle.sh_pass.specs.declared.looking.Glance.TheVariants as glance
use Rattle.sh_pass.specs.Deciding.{DecidedByEntry, EntryDecides, FirstFinds, LastFinds, LookDecided, LooksDecide}
use Rattle.sh_pass.specs.Deciding.{IsEarly, IsPast, step_at_slot}
use Rattle.sh_pass.specs.Growing.{SameTale}
use Rattle.sh_pass.specs.Peeks.{Peeked}
use Rattle.sh_pass.specs.Missing.{StepMisses, MissesKeysOf}

-- ---- what was heard of stays heard of

pub still_heard : (v w : View) (es : List LogEntry) (k : ℕ) → SameTale v w → w.own.log ≡ v.own.log ++ es
    → HeardOfInsert v k → HeardOfInsert w k
still_heard v w es k same log (h, p, value, among, insert) = go among where
  others : View → List Heard
  others u = map (λ (t : Told). done_by t.pass t.own) u.told ++ map (λ (o : Order). o.heard) u.orders

  as_others : others w ≡ others v
  as_others = λ i. map (λ (t : Told). done_by t.pass t.own) (same.told i)
      ++ map (λ (o : Order). o.heard) (same.orders i)

  go : Contains (heard_in v) h → HeardOfInsert w k
  go at = by (Contains-append_cases (done_by v.pass v.own ∷ []) (others v) h at) where
    its : Contains (done_by v.pass v.own ∷ []) h → done_by v.pass v.own ≡ h
    its one = of (Contains-push_cases [] (done_by v.pass v.own) h one) where
      of : Contains [] h ⊎ (done_by v.pass v.own ≡ h) → done_by v.pass v.own ≡ h
      of (inl none) = absurd (let below = none.1 in omega arith)
      of (inr is) = is

    by : Contains (done_by v.pass v.own ∷ []) h ⊎ Contains (others v) h → HeardOfInsert w k
    by (inl one) = (
      done_by w.pass w.own,
      p,
      value,
      Contains-append_left (done_by w.pass w.own ∷ []) (others w) (done_by w.pass w.own) (Contains-push [] _),
      subst (λ (l : List LogEntry). Contains l (Known (entry.Insert p k value))) (sym log)
          (Contains-append_left v.own.log es _ (subst (λ (g : Heard). Contains g.log (Known (entry.Insert p k value)))
          (sym (its one)) insert)),
    )
    by (inr more) = (
      h,
      p,
      value,
      Contains-append_right (done_by w.pass w.own ∷ []) (others w) h
          (subst (λ (l : List Heard). Contains l h) (sym as_others) more),
      insert,
    )

-- ---- more steps before and after

misses_on : (v : View) (k : ℕ) (x : KeyRef) (xs ys : List Footstep) → StepMisses v k x xs → StepMisses v k x (xs ++ ys)
misses_on v k x xs ys m = record {
  action = m.action;
  found = m.found;
  earlier = m.earlier;
  later = m.later ++ ys;
  steps = ap (λ (l : List Footstep). l ++ ys) m.steps
      ∙ append_assoc m.earlier (step_at_slot m.action x m.found ∷ m.later) ys;
  absent = m.absent;
  removed = m.removed;
}

misses_after : (v : View) (k : ℕ) (x : KeyRef) (xs ys : List Footstep) → StepMisses v k x ys
    → StepMisses v k x (xs ++ ys)
misses_after v k x xs ys m = record {
  action = m.action;
  found = m.found;
  earlier = xs ++ m.earlier;
  later = m.later;
  steps = ap (λ (l : List Footstep). xs ++ l) m.steps
      ∙ sym (append_assoc xs m.earlier (step_at_slot m.action x m.found ∷ m.later));
  absent = m.absent;
  removed = m.removed;
}

-- and what was missed by steps after which more was heard
misses_from : (v w : View) (es : List LogEntry) (k : ℕ) (x : KeyRef) (xs : List Footstep) → SameTale v w
    → w.own.log ≡ v.own.log ++ es → StepMisses w k x xs → StepMisses v k x xs
misses_from v w es k x xs same log m = record {
  action = m.action;
  found = m.found;
  earlier = m.earlier;
  later = m.later;
  steps = m.steps;
  absent = m.absent;
  removed = λ heard. m.removed (still_heard v w es k same log heard);
}

pub misses_keys_on : (plan : Plan) (v : View) (x : SlotRef) (xs ys : List Footstep) → MissesKeysOf plan v x xs
    → MissesKeysOf plan v x (xs ++ ys)
misses_keys_on plan v x xs ys m k n named at = misses_on v k n xs ys (m k n named at)

pub misses_keys_after : (plan : Plan) (v : View) (x : SlotRef) (xs ys : List Footstep) → MissesKeysOf plan v x ys
    → MissesKeysOf plan v x (xs ++ ys)
misses_keys_after plan v x xs ys m k n named at = misses_after v k n xs ys (m k n named at)

pub misses_keys_from : (plan : Plan) (v w : View) (es : List LogEntry) (x : SlotRef) (xs : List Footstep)
    → SameTale v w → w.own.log ≡ v.own.log ++ es → MissesKeysOf plan w x xs → MissesKeysOf plan v x xs
misses_keys_from plan v w es x xs same log m k n named at = misses_from v w es k n xs same log (m k n named at)

-- ---- a get or a look that found the key gone

past_not_live : (g n : ℕ) → past_at g n ≡ true → live_at g n ≡ false
past_not_live g n past = go (live_at g n) refl where
  go : (b : Bool) → live_at g n ≡ b → b ≡ false
  go false is = refl
  go true is = absurd (let z : true ≡ false = sym past ∙ live_not_past g n is in let no : ⊥ = cc in no)

gone_means : (l r : Bool) → cond l (cond r Got Crowded) Gone ≡ Gone → l ≡ false
gone_means false r e = refl
gone_means true true e = absurd (let no : ⊥ = cc in no)
gone_means true false e = absurd (let no : ⊥ = cc in no)

get_misses : (plan : Plan) (v : View) (k : ℕ) (x : KeyRef) (new : List Footstep) → EntryDecides plan k x Gone new
    → StepMisses v k x new
get_misses plan v k x new d = record {
  action = action.EnterGet k;
  found = d.0.found;
  earlier = [];
  later = d.0.rest;
  steps = d.0.steps;
  absent = gone_means (live_at x.generation d.0.found) (has_room plan.keys.guard_max d.0.found) d.1;
  removed = λ heard. inr refl;
}

first_misses : (v : View) (k : ℕ) (x : KeyRef) (IsSo : ℕ → Type 0) (new : List Footstep) → (f : FirstFinds k x IsSo new)
    → live_at x.generation f.0.found ≡ false → (HeardOfInsert v k → past_at x.generation f.0.found ≡ true)
    → StepMisses v k x new
first_misses v k x IsSo new f off past = record {
  action = action.Look k;
  found = f.0.found;
  earlier = [];
  later = f.0.rest;
  steps = f.0.steps;
  absent = off;
  removed = λ heard. inl (past heard);
}

last_misses : (v : View) (k : ℕ) (x : KeyRef) (new : List Footstep) → LastFinds x (IsPast x) new → StepMisses v k x new
last_misses v k x new (front, n, steps, past) = record {
  action = action.LookAgain;
  found = n;
  earlier = front;
  later = [];
  steps = steps;
  absent = past_not_live x.generation n past;
  removed = λ heard. inl past;
}

-- a look that saw no value missed the key
gone_misses : (v : View) (k : ℕ) (x : KeyRef) (new : List Footstep) → LooksDecide k x glance.Gone new
    → StepMisses v k x new
gone_misses v k x new (inl f) = first_misses v k x (IsPast x) new f (past_not_live x.generation f.0.found f.1)
    (λ heard. f.1)
gone_misses v k x new (inr (f, l)) = last_misses v k x new l

early_misses : (v : View) (k : ℕ) (x : KeyRef) (new : List Footstep) → ¬ HeardOfInsert v k
    → LooksDecide k x glance.Early new → StepMisses v k x new
early_misses v k x new unheard f = first_misses v k x (IsEarly x) new f f.1.0 (λ heard. absurd (unheard heard))

-- the key was missed by these steps
abbrev pub Misses : Plan → View → (key : ℕ) → List Footstep → Type 0
Misses plan v key new = (name : KeyRef) × (place_named plan key ≡ Some name) × StepMisses v key name new

pub gone_by_get : (plan : Plan) (v : View) (key : ℕ) (new : List Footstep) → DecidedByEntry plan key Gone new
    → Misses plan v key new
gone_by_get plan v key new d = (d.0, d.1, get_misses plan v key d.0 new d.2)

pub gone_by_look : (plan : Plan) (v : View) (key : ℕ) (new : List Footstep) → LookDecided plan key glance.Gone new
    → Misses plan v key new
gone_by_look plan v key new d = (d.0, d.1, gone_misses v key d.0 new d.2)

pub early_by_look : (plan : Plan) (v : View) (key : ℕ) (new : List Footstep) → ¬ HeardOfInsert v key
    → LookDecided plan key glance.Early new → Misses plan v key new
early_by_look plan v key new unheard d = (d.0, d.1, early_misses v key d.0 new unheard d.2)

-- ---- a peek

-- a word that says that one generation is live says that no other is
other_off : (a b g : ℕ) (p m : Bool) → (p && not m && (g == a)) ≡ true → a ≢ b → (p && not m && (g == b)) ≡ false
other_off a b g true false on ne = go (g == b) refl where
  go : (c : Bool) → (g == b) ≡ c → c ≡ false
  go false is = refl
  go true is = absurd (ne (sym (eqb-true g a on) ∙ eqb-true g b is))
other_off a b g true true on ne = refl
other_off a b g false m on ne = refl

module _ (layout : Layout) (shape : Numbers) (v : View) (x : SlotRef) where
  abbrev numbered : Plan
  numbered = plan_of layout shape

  abbrev place : SlotRef → Place
  place y = State y.page y.slot

  -- the step of a peek missed the key of this name
  peek_misses : (key : Option ℕ) (new : List Footstep) (p : Peeked numbered v x key new) (k : ℕ) (n : KeyRef)
      → place_named numbered k ≡ Some n → slot_ref_of n ≡ x → live_at n.generation p.word ≡ false → StepMisses v k n new
  peek_misses key new p k n named at off = record {
    action = action.Peek (slot_name numbered x);
    found = p.word;
    earlier = [];
    later = [];
    steps = p.steps ∙ ap (λ (q : Place). record {
      action = action.Peek (slot_name numbered x);
      place = q;
      answer = Some p.word;
    } ∷ []) (ap place (sym at));
    absent = off;
    removed = λ heard. inl (p.heard k n (place_is numbered k n named).unpacks (ap place (sym at)) heard off);
  }

  -- no key is live: each key of the slot was missed
  pub none_live : (new : List Footstep) → Peeked numbered v x None new → MissesKeysOf numbered v x new
  none_live new p k n named at = peek_misses None new p k n named at (p.says k n named at)

  -- a key is live, and the next steps missed it: each key of the slot was missed
  pub live_missed : (key : ℕ) (xs ys : List Footstep) → Peeked numbered v x (Some key) xs → Misses numbered v key ys
      → MissesKeysOf numbered v x (xs ++ ys)
  live_missed key xs ys p (m, its, missed) k n named at = go (n.generation == m.generation) refl where
    same : p.says.0 ≡ m
    same = let both : Some p.says.0 ≡ Some m = sym p.says.1 ∙ its in cc

    here : slot_ref_of m ≡ x
    here = ap slot_ref_of (sym same) ∙ p.says.2

    same_test : m.generation ≡ n.generation → (n.generation == m.generation) ≡ true
    same_test h = eq-eqb n.generation m.generation (sym h)

    go : (b : Bool) → (n.generation == m.generation) ≡ b → StepMisses v k n (xs ++ ys)
    go true e =
        let one : m ≡ n = λ i. record {
          page = ap (λ (y : SlotRef). y.page) (here ∙ sym at) i;
          slot = ap (λ (y : SlotRef). y.slot) (here ∙ sym at) i;
          generation = sym (eqb-true n.generation m.generation e) i;
        } in
        let key_is : key ≡ k = one_key layout shape key k m its (named ∙ ap (λ (y : KeyRef). Some y) (sym one)) in
        subst (λ (y : KeyRef). StepMisses v k y (xs ++ ys)) one
        (subst (λ (j : ℕ). StepMisses v j m (xs ++ ys)) key_is (misses_after v key m xs ys missed))
    go false e =
        let live : live_at m.generation p.word ≡ true = subst (λ (y : KeyRef). live_at y.generation p.word ≡ true) same
        p.says.3 in
        let apart : m.generation ≢ n.generation = λ h. let z : true ≡ false = sym (same_test h) ∙ e in cc in
        let off : live_at n.generation p.word ≡ false = other_off m.generation n.generation
        (fields_of p.word).generation (fields_of p.word).present (fields_of p.word).marked live apart in
        misses_on v k n xs ys (peek_misses (Some key) xs p k n named at off)
