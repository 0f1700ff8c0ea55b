-- Each event is at most one operation of the whole object, and a held value stays.
use Rattle.std.proofs.Common.{◌≡◌, ℕ, ◌+◌, ◌<◌, ◌==◌, ◌&&◌, ◌||◌, Bool, true, false, cond, List, [], ◌∷◌, ◌++◌}
use Rattle.std.proofs.Common.{refl, arith, ap, sym, ◌∙◌, subst, Option, Some, None, slice_get, eqb-true}
use Rattle.std.specs.Prelude.{is_some, nat_lt, if◌then◌else◌}
use Rattle.std.proofs.lemmas.Bool.Decides.{nat_tests}
use Rattle.sh_history.specs.History.{value_of, is_removed, is_got_by, is_release_by, got_count_by}
use Rattle.sh_history.specs.History.{released_count_by, Allowed, Legal}
use Rattle.sh_history.proofs.Laws.{legal_after_parts, some_value}
use Rattle.sh_history.proofs.LogLaws.{value_of-append_some, value_of-append_none, count_by-push}
use Rattle.sh_core.specs.AtomicMap.{map_of, made_by, Finds, IsOneOperation}
use Rattle.sh_step.specs.declared.body.Body.{Body}
use Rattle.sh_step.specs.Collections.{if1}
use Rattle.sh_history.specs.declared.entry.Entry.{Entry}
use Rattle.sh_history.specs.declared.entry.Entry.TheVariants.{Insert, Got, Gone, Crowded, Removed, Released, Seen}
use Rattle.sh_step.specs.declared.action.Event.{Event}
use Rattle.sh_word.specs.Fields.{fields_of}
use Rattle.sh_slots.specs.declared.hand.KeyRef.{KeyRef}
use Rattle.sh_core.specs.Lists.{PutLists, lists_of}
use Rattle.sh_step.specs.Plans.{Plan, plan_of}
use Rattle.sh_core.specs.Refines.{Refines}
use Rattle.sh_slots.specs.Slots.{live_at, past_at}
use Rattle.sh_core.specs.Worlds.{World, run, run_from, open_world, value_at}
use Rattle.sh_core.specs.declared.outcome.Outcome.{Outcome}
use Rattle.sh_core.specs.declared.outcome.Outcome.TheVariants.{Replied, Moved, Skipped}
use Rattle.sh_core.specs.Outcomes.{outcome_of}
use Rattle.sh_core.proofs.AtomicMap.{events_are_operations, opens_empty, present_is, issued_later}
use Rattle.sh_core.proofs.Clauses.RunTheorem.{theorem}
use Rattle.sh_core.proofs.Entries.{log_goes_on}
use Rattle.sh_core.proofs.MapEntries.{or_false, or_true}
use Rattle.sh_core.proofs.Words.Steps.{run_snoc}
use Rattle.sh_laws.specs.Objects.{Object, MayDo, issued_after, holds_after, IsDone, IsSame, IsObjectOperation}
use Rattle.sh_laws.specs.Objects.{is_issued, holds_of, object_of, value_in, ObjectIsAtomic, OpensAsEmpty}
use Rattle.sh_laws.specs.Objects.{HeldValuesStay}
use Rattle.sh_laws.proofs.HoldCounts.{counted, held_together, holds_at, no_holds_at}
use Rattle.sh_laws.proofs.StrongOrders.{Logs, adds, moves, skips, logs}

-- ---- keys that were issued

module _ (plan : Plan) (w : World) (l : PutLists) (all : Refines plan w l) (k : ℕ) (n : KeyRef)
    (names : plan.keys.unpack k ≡ Some n) where
  abbrev word : ℕ
  word = w.words.state_at n.page n.slot

  past_issued : past_at n.generation word ≡ true → is_some (value_of w.log k) ≡ true
  past_issued past = go (nat_lt n.generation (fields_of word).generation) ((fields_of word).generation == n.generation)
      (fields_of word).marked refl refl refl past where
        go : (a b c : Bool) → nat_lt n.generation (fields_of word).generation ≡ a
            → ((fields_of word).generation == n.generation) ≡ b → (fields_of word).marked ≡ c → (a || (b && c)) ≡ true
            → is_some (value_of w.log k) ≡ true
        go true b c less same marked is =
            let before : n.generation < (fields_of word).generation = grind (arith, nat_tests, less) in
            ap is_some (some_value (value_of w.log k) (all.past k n names before).0).1
        go false true true less same marked is = ap is_some ((all.keys k n names).issued
            (sym (eqb-true (fields_of word).generation n.generation same))
            (ap (λ b. (fields_of word).present || b) marked ∙ or_true (fields_of word).present))
        go false true false less same marked is = absurd (let z : false ≡ true = is in cc)
        go false false c less same marked is = absurd (let z : false ≡ true = is in cc)

  live_issued : live_at n.generation word ≡ true → is_some (value_of w.log k) ≡ true
  live_issued live = go (is_removed w.log k) (sym (present_is plan w l all k n names) ∙ shown) where
    shown : map_of plan w.words k ≡ Some (value_at w.words n.page n.slot)
    shown = ap (λ (o : Option KeyRef). elim o as (λ _. Option (List ℕ)) [
      | Some x ↦ cond (live_at x.generation (w.words.state_at x.page x.slot)) (Some (value_at w.words x.page x.slot))
          None
      | None ↦ None
    ]) names ∙ ap (λ (b : Bool). cond b (Some (value_at w.words n.page n.slot)) None) live

    go : (b : Bool) → (if b then None else value_of w.log k) ≡ Some (value_at w.words n.page n.slot)
        → is_some (value_of w.log k) ≡ true
    go true is = absurd (let z : None ≡ Some (value_at w.words n.page n.slot) = is in cc)
    go false is = ap is_some is

  issued_word : (live_at n.generation word || past_at n.generation word) ≡ is_some (value_of w.log k)
  issued_word = go (live_at n.generation word) (past_at n.generation word) refl refl where
    go : (a b : Bool) → live_at n.generation word ≡ a → past_at n.generation word ≡ b
        → (a || b) ≡ is_some (value_of w.log k)
    go true b live past = sym (live_issued live)
    go false true live past = sym (past_issued past)
    go false false live past = sym (ap is_some (issued_later plan w l all k n names live past))

  pub issued_named : is_issued plan w k ≡ is_some (value_of w.log k)
  issued_named = ap (λ (o : Option KeyRef). elim o as (λ _. Bool) [
    | Some x ↦ live_at x.generation (w.words.state_at x.page x.slot) ||
        past_at x.generation (w.words.state_at x.page x.slot)
    | None ↦ false
  ]) names ∙ issued_word

issued_unnamed : (plan : Plan) (w : World) (k : ℕ) → plan.keys.unpack k ≡ None → is_issued plan w k ≡ false
issued_unnamed plan w k is = ap (λ (o : Option KeyRef). elim o as (λ _. Bool) [
  | Some x ↦ live_at x.generation (w.words.state_at x.page x.slot) ||
      past_at x.generation (w.words.state_at x.page x.slot)
  | None ↦ false
]) is

-- a key that is in the map names a slot
named_in_map : (plan : Plan) (w : World) (k : ℕ) (u : List ℕ) → map_of plan w.words k ≡ Some u
    → (n : KeyRef) × (plan.keys.unpack k ≡ Some n)
named_in_map plan w k u there = go (plan.keys.unpack k) refl there where
  go : (o : Option KeyRef) → plan.keys.unpack k ≡ o → (elim o as (λ _. Option (List ℕ)) [
    | Some x ↦ cond (live_at x.generation (w.words.state_at x.page x.slot)) (Some (value_at w.words x.page x.slot)) None
    | None ↦ None
  ]) ≡ Some u → (n : KeyRef) × (plan.keys.unpack k ≡ Some n)
  go (Some n) is there = (n, is)
  go None is there = absurd (let z : None ≡ Some u = there in cc)

-- whether the entry inserts the key
inserts : Entry → ℕ → Bool
inserts (Insert a j v) k = j == k
inserts _ k = false

issued_or : (o : Object) (t : Entry) (k : ℕ) → issued_after o t k ≡ (inserts t k || o.issued k)
unfolding inserts
issued_or o (Insert a j v) k = refl
issued_or o _ k = refl

some_after : (log : List Entry) (t : Entry) (k : ℕ)
    → is_some (value_of (log ++ t ∷ []) k) ≡ (inserts t k || is_some (value_of log k))
unfolding inserts
some_after log t k = go (value_of log k) refl where
  alone : (t : Entry) → is_some (value_of (t ∷ []) k) ≡ (inserts t k || false)
  alone (Insert a j v) = by (j == k) where
    by : (b : Bool) → is_some (if b then Some v else None) ≡ (b || false)
    by true = refl
    by false = refl
  alone _ = refl

  go : (o : Option (List ℕ)) → value_of log k ≡ o
      → is_some (value_of (log ++ t ∷ []) k) ≡ (inserts t k || is_some (value_of log k))
  go (Some v) is = ap is_some (value_of-append_some log (t ∷ []) k v is)
      ∙ sym (ap (λ (o : Option (List ℕ)). inserts t k || is_some o) is ∙ or_true (inserts t k))
  go None is = ap is_some (value_of-append_none log (t ∷ []) k is) ∙ (alone t
      ∙ sym (ap (λ (o : Option (List ℕ)). inserts t k || is_some o) is))

-- ---- one event

module _ (plan : Plan) (w v : World) (l m : PutLists) (all : Refines plan w l) (one : Refines plan v m) where
  -- an entry that joined the log
  module _ (t : Entry) (log : v.log ≡ w.log ++ t ∷ []) (finds : Finds (map_of plan w.words) t)
      (made : (k : ℕ) → map_of plan v.words k ≡ made_by (map_of plan w.words) t k) where
    none_inserted : (k : ℕ) → plan.keys.unpack k ≡ None → inserts t k ≡ false
    unfolding inserts
    none_inserted k unnamed = go t made where
      go : (t : Entry) → ((k : ℕ) → map_of plan v.words k ≡ made_by (map_of plan w.words) t k) → inserts t k ≡ false
      go (Insert a j u) made = by (j == k) refl where
        by : (b : Bool) → (j == k) ≡ b → b ≡ false
        by true is =
            let there = made k ∙ ap (λ (b : Bool). cond b (Some u) (map_of plan w.words k)) is in
            let named = named_in_map plan v k u there in
            absurd (let z : None ≡ Some named.0 = sym unnamed ∙ named.1 in cc)
        by false is = refl
      go _ made = refl

    issued_done : (k : ℕ) → is_issued plan v k ≡ issued_after (object_of plan w) t k
    issued_done k = go (plan.keys.unpack k) refl ∙ sym (issued_or (object_of plan w) t k) where
      go : (o : Option KeyRef) → plan.keys.unpack k ≡ o → is_issued plan v k ≡ (inserts t k || is_issued plan w k)
      go (Some n) names = issued_named plan v m one k n names
          ∙ (ap (λ (es : List Entry). is_some (value_of es k)) log
          ∙ (some_after w.log t k ∙ ap (λ (b : Bool). inserts t k || b) (sym (issued_named plan w l all k n names))))
      go None unnamed = issued_unnamed plan v k unnamed
          ∙ sym (ap (λ (b : Bool). inserts t k || b) (issued_unnamed plan w k unnamed)
          ∙ (or_false (inserts t k) ∙ none_inserted k unnamed))

    holds_done : (a k : ℕ) → holds_of v a k ≡ holds_after (object_of plan w) t a k
    holds_done a k =
        let before = counted plan w l all a k in
        let after = counted plan v m one a k in
        let got : got_count_by v.log a k ≡ got_count_by w.log a k + if1 (is_got_by a k t) =
        ap (λ (es : List Entry). got_count_by es a k) log ∙ count_by-push (is_got_by a k) w.log t in
        let released : released_count_by v.log a k ≡ released_count_by w.log a k + if1 (is_release_by a k t) =
        ap (λ (es : List Entry). released_count_by es a k) log ∙ count_by-push (is_release_by a k) w.log t in
        go t (omega (arith, before, after, got, released)) where
          go : (t : Entry) → holds_of v a k + if1 (is_release_by a k t) ≡ holds_of w a k + if1 (is_got_by a k t)
              → holds_of v a k ≡ holds_after (object_of plan w) t a k
          go (Got b j u) moved = omega (arith, moved)
          go (Released b j) moved = omega (arith, moved)
          go (Insert b j u) moved = omega (arith, moved)
          go (Gone b j) moved = omega (arith, moved)
          go (Crowded b j) moved = omega (arith, moved)
          go (Removed b j) moved = omega (arith, moved)
          go (Seen b j u) moved = omega (arith, moved)

    allowed : Allowed plan.passes plan.keys.guard_max w.log t
    allowed = (legal_after_parts plan.passes plan.keys.guard_max [] w.log (t ∷ [])
        (subst (Legal plan.passes plan.keys.guard_max) log one.legal)).1.0

    not_issued : (k : ℕ) → value_of w.log k ≡ None → is_issued plan w k ≡ false
    not_issued k none = go (plan.keys.unpack k) refl where
      go : (o : Option KeyRef) → plan.keys.unpack k ≡ o → is_issued plan w k ≡ false
      go (Some n) names = issued_named plan w l all k n names ∙ ap is_some none
      go None unnamed = issued_unnamed plan w k unnamed

    may_do : MayDo plan.passes plan.keys.guard_max (object_of plan w) t
    may_do = go t finds allowed where
      go : (t : Entry) → Finds (map_of plan w.words) t → Allowed plan.passes plan.keys.guard_max w.log t
          → MayDo plan.passes plan.keys.guard_max (object_of plan w) t
      go (Insert a k u) found may = not_issued k may
      go (Got a k u) found may = found
      go (Gone a k) found may = found
      go (Crowded a k) found may =
          (found, let more = may.2 in let same = held_together plan w l all k in omega (arith, more, same))
      go (Removed a k) found may = found
      go (Released a k) found may = let same = counted plan w l all a k in omega (arith, may, same)
      go (Seen a k u) found may = found

    is_done : IsDone (object_of plan w) (object_of plan v) t
    is_done = record { map = made; issued = issued_done; holds = holds_done }

  -- a log that is as it was
  same_object : v.log ≡ w.log → ((k : ℕ) → map_of plan v.words k ≡ map_of plan w.words k)
      → IsSame (object_of plan w) (object_of plan v)
  same_object log map = record {
    map = map;
    issued = λ k. go k (plan.keys.unpack k) refl;
    holds = λ a k.
        let before = counted plan w l all a k in
        let after = counted plan v m one a k in
        let got : got_count_by v.log a k ≡ got_count_by w.log a k = ap (λ (es : List Entry). got_count_by es a k) log in
        let released : released_count_by v.log a k ≡ released_count_by w.log a k =
        ap (λ (es : List Entry). released_count_by es a k) log in omega (arith, before, after, got, released);
  } where
    go : (k : ℕ) (o : Option KeyRef) → plan.keys.unpack k ≡ o → is_issued plan v k ≡ is_issued plan w k
    go k (Some n) names = issued_named plan v m one k n names
        ∙ (ap (λ (es : List Entry). is_some (value_of es k)) log ∙ sym (issued_named plan w l all k n names))
    go k None unnamed = issued_unnamed plan v k unnamed ∙ sym (issued_unnamed plan w k unnamed)

  object_operation : (o : Outcome) → Logs w v o → IsOneOperation (map_of plan w.words) (map_of plan v.words) o
      → IsObjectOperation plan.passes plan.keys.guard_max (object_of plan w) (object_of plan v) o
  object_operation (Replied t) (adds u is log) op =
      let same : t ≡ u = cc in
      let its : v.log ≡ w.log ++ t ∷ [] = subst (λ (z : Entry). v.log ≡ w.log ++ z ∷ []) (sym same) log in
      (may_do t its op.0 op.1, is_done t its op.0 op.1)
  object_operation (Replied t) (moves is log) op = absurd (let z : Replied t ≡ Moved = is in cc)
  object_operation (Replied t) (skips is log) op = absurd (let z : Replied t ≡ Skipped = is in cc)
  object_operation Moved (adds u is log) op = absurd (let z : Moved ≡ Replied u = is in cc)
  object_operation Moved (moves is log) op = same_object log op
  object_operation Moved (skips is log) op = same_object log op
  object_operation Skipped (adds u is log) op = absurd (let z : Skipped ≡ Replied u = is in cc)
  object_operation Skipped (moves is log) op = same_object log op
  object_operation Skipped (skips is log) op = same_object log op

pub object_is_atomic : ObjectIsAtomic
object_is_atomic layout shape a b f es e =
    let plan : Plan = plan_of layout shape in
    let w : World = run plan es in
    let more : List Event = es ++ e ∷ [] in
    object_operation plan w (run plan more) (lists_of plan es) (lists_of plan more) (theorem layout shape a b f es)
    (theorem layout shape a b f more) (outcome_of plan w e)
    (subst (λ (v : World). Logs w v (outcome_of plan w e)) (sym (run_snoc plan (open_world plan) es e)) (logs plan w e))
    (events_are_operations layout shape a b f es e)

-- ---- the first moment, and the values of held keys

pub opens_as_empty : OpensAsEmpty
unfolding run_from
opens_as_empty layout shape a b f =
    let plan : Plan = plan_of layout shape in
    let all = theorem layout shape a b f [] in record {
      map = opens_empty layout shape;
      issued = λ k. go plan all k (plan.keys.unpack k) refl;
      holds = λ c k. let none = counted plan (run plan []) (lists_of plan []) all c k in omega (arith, none);
    } where
      go : (plan : Plan) → Refines plan (run plan []) (lists_of plan []) → (k : ℕ) (o : Option KeyRef)
          → plan.keys.unpack k ≡ o → is_issued plan (run plan []) k ≡ false
      go plan all k (Some n) names = issued_named plan (run plan []) (lists_of plan []) all k n names
      go plan all k None unnamed = issued_unnamed plan (run plan []) k unnamed

held_value : (plan : Plan) (w : World) (l : PutLists) → Refines plan w l → (a k : ℕ) → 0 < holds_of w a k
    → value_of w.log k ≡ Some (value_in plan w k)
held_value plan w l all a k some = go (slice_get w.parts a) refl where
  go : (o : Option Body) → slice_get w.parts a ≡ o → value_of w.log k ≡ Some (value_in plan w k)
  go (Some p) at =
      let its = holds_at w a k p at in
      let valid = all.held a p k at (omega (arith, some, its)) in
      valid.value ∙ ap Some (sym (ap (λ (o : Option KeyRef). elim o as (λ _. List ℕ)
      [ Some n ↦ value_at w.words n.page n.slot | None ↦ [] ]) valid.unpacks))
  go None at = let none = no_holds_at w a k at in absurd (omega (arith, some, none))

pub held_values_stay : HeldValuesStay
held_values_stay layout shape a b f es more c d k early late =
    let plan : Plan = plan_of layout shape in
    let w : World = run plan es in
    let v : World = run plan (es ++ more) in
    let first = held_value plan w (lists_of plan es) (theorem layout shape a b f es) c k early in
    let last = held_value plan v (lists_of plan (es ++ more)) (theorem layout shape a b f (es ++ more)) d k late in
    let on = log_goes_on plan es more in
    let kept : value_of v.log k ≡ Some (value_in plan w k) = ap (λ (log : List Entry). value_of log k) on.1
    ∙ value_of-append_some w.log on.0 k (value_in plan w k) first in
    let same : Some (value_in plan v k) ≡ Some (value_in plan w k) = sym last ∙ kept in cc
