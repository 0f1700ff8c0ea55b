-- What a get, a remove, a release and a read by a pass of the running heap are in a run of calls.
use Rattle.std.proofs.Common.{◌≡◌, ℕ, ◌<◌, ◌==◌, Bool, true, false, List, [], ◌∷◌, ◌++◌, map, length, refl, sym, ap}
use Rattle.std.proofs.Common.{subst, ◌∙◌, arith, Option, Some, None, Result, Ok, Err}
use Rattle.std.specs.Prelude.{nat_lt, nat_le, IsSome}
use Rattle.std.proofs.lemmas.Bool.Decides.{nat_tests}
use Rattle.sh_value.specs.declared.hold.Hold.{Hold}
use Rattle.sh_value.specs.declared.refusal.Refusal.{Refusal}
use Rattle.sh_value.specs.declared.refusal.Refusal.TheVariants as refusal
use Rattle.sh_key.specs.Layout.{Layout}
use Rattle.sh_shape.specs.Shape.{Numbers}
use Rattle.sh_history.specs.declared.entry.Entry.TheVariants as entry
use Rattle.sh_history.specs.declared.log.LogEntry.{LogEntry}
use Rattle.sh_history.specs.declared.log.LogEntry.TheVariants.{Known, Unread}
use Rattle.sh_history.specs.Log.{filled, logged_holds_by, logged_hold_count}
use Rattle.sh_step.specs.Moves.{place_named}
use Rattle.sh_step.specs.Collections.{has}
use Rattle.sh_step.specs.Plans.{plan_of}
use Rattle.sh_core.specs.Lists.{times}
use Rattle.sh_core.proofs.Sums.ListCounts.{has_some, some_has}
use Rattle.sh_table.specs.Tales.{ViewIsValid}
use Rattle.sh_pass.proofs.SameTales.{same_now}
use Rattle.sh_pass.specs.Growing.{SameTale}
use Rattle.sh_pass.specs.Passes.{Caller, IsKeyOfHeap, GetDoes, ReadDoes, RemoveDoes, ReleaseDoes, holds}
use Rattle.sh_member.specs.Sides.{SeenSide, SideDoes}
use Rattle.script_calls.specs.Parts.{SeenPass, SamePass, Becomes, is_placed_key, heap_terms, shard_owned, with_entry}
use Rattle.script_calls.specs.Calls.{UnlessRefused, GetAnswers, HoldGot, get_refusal, ReadAnswers, ValueRead}
use Rattle.script_calls.specs.Calls.{hold_refusal}
use Rattle.script_calls.specs.Calls.{RemoveAnswers, KeyRemoved, remove_refusal, ReleaseAnswers, HoldReleased}
use Rattle.script_calls.specs.Running.{part_of_caller, seen_standing, log_told}
use Rattle.script_calls.proofs.PlacedKeys.{placed, not_placed}

-- what is seen of the pass stays the same except for its part
pub same_of : (layout : Layout) (v w : Caller) (s t : SeenSide) → w.heap ≡ v.heap → SameTale v.view w.view
    → SamePass (seen_standing layout v s) (seen_standing layout w t)
same_of layout v w s t heap same = λ i. record {
  heap = Some (heap i);
  terms = heap_terms layout (same.shape i);
  pass = same.pass i;
  part = part_of_caller w t;
  told = map log_told (same.told i);
  orders = same.orders i;
}

-- so it does if the pass is as it was
pub same_unchanged : (layout : Layout) (v w : Caller) (s t : SeenSide) → w ≡ v
    → SamePass (seen_standing layout v s) (seen_standing layout w t)
same_unchanged layout v w s t e =
    same_of layout v w s t (ap (λ (c : Caller). c.heap) e)
    (subst (λ (c : Caller). SameTale v.view c.view) (sym e) (same_now v.view))

module _ (layout : Layout) (v w : Caller) (stands : ViewIsValid layout v.view) (shape_is : v.view.shape ≡ v.heap.shape)
    (s t : SeenSide) (owned : shard_owned t ≡ shard_owned s) where
  abbrev seen_before : SeenPass
  seen_before = seen_standing layout v s

  abbrev seen_after : SeenPass
  seen_after = seen_standing layout w t

  same_seen : w.heap ≡ v.heap → SameTale v.view w.view → SamePass seen_before seen_after
  same_seen heap same = same_of layout v w s t heap same

  adds : (e : LogEntry) → w.view.own.log ≡ v.view.own.log ++ e ∷ []
      → Becomes (with_entry (part_of_caller v s) e) (part_of_caller w t)
  adds e log = λ i. record { log = log i; shard = owned i; stands = t }

  nothing : w ≡ v → Becomes (part_of_caller v s) (part_of_caller w t)
  nothing e = λ i. record { log = (e i).view.own.log; shard = owned i; stands = t }

  unseen : w ≡ v → SamePass seen_before seen_after
  unseen e = same_unchanged layout v w s t e

  a_key : (key : ℕ) → IsKeyOfHeap layout v key → is_placed_key layout v.view.shape key ≡ true
  a_key key k = placed layout v.view.shape key (subst (λ (s : Numbers). IsSome (place_named (plan_of layout s) key))
      (sym shape_is) k)

  no_such_key : (key : ℕ) → place_named (plan_of layout v.heap.shape) key ≡ None → is_placed_key layout v.view.shape key
      ≡ false
  no_such_key key k = not_placed layout v.view.shape key (subst
      (λ (s : Numbers). place_named (plan_of layout s) key ≡ None) (sym shape_is) k)

  full : length (holds v) ≡ 16 → nat_le 16 (logged_hold_count v.view.own.log v.view.pass) ≡ true
  full e = let c = stands.hold_count in grind (arith, nat_tests)

  room : length (holds v) < 16 → nat_le 16 (logged_hold_count v.view.own.log v.view.pass) ≡ false
  room e = let c = stands.hold_count in grind (arith, nat_tests)

  bad : (key : ℕ) → place_named (plan_of layout v.heap.shape) key ≡ None
      → get_refusal seen_before.terms seen_before.pass seen_before.part key ≡ Some refusal.BadKey
  bad key k = rw (no_such_key key k) refl

  holds_full : (key : ℕ) → IsKeyOfHeap layout v key → length (holds v) ≡ 16
      → get_refusal seen_before.terms seen_before.pass seen_before.part key ≡ Some refusal.HoldsFull
  holds_full key k f = rw (a_key key k, full f) refl

  none_first : (key : ℕ) → IsKeyOfHeap layout v key → length (holds v) < 16
      → get_refusal seen_before.terms seen_before.pass seen_before.part key ≡ None
  none_first key k f = rw (a_key key k, room f) refl

  abbrev GetIs : ℕ → Result Hold Refusal → Option Refusal → Type 0
  GetIs key r first = UnlessRefused first r (Becomes seen_before.part seen_after.part)
      (HoldGot seen_before.pass seen_before.part key r seen_after.part)

  get_parts : (key : ℕ) (r : Result Hold Refusal) → GetDoes layout key v r w
      → GetIs key r (get_refusal seen_before.terms seen_before.pass seen_before.part key)
      × SamePass seen_before seen_after
  get_parts key (Ok hold) h = (
    subst (GetIs key (Ok hold)) (sym (none_first key h.1 h.2))
        (h.0, (Unread v.view.pass key, (refl, refl), adds (Unread v.view.pass key) h.3.log)),
    same_seen h.3.heap h.3.same,
  )
  get_parts key (Err refusal.BadKey) h = (
    subst (GetIs key (Err refusal.BadKey)) (sym (bad key h.0))
        (refl, nothing h.1),
    unseen h.1,
  )
  get_parts key (Err refusal.HoldsFull) h = (
    subst (GetIs key (Err refusal.HoldsFull)) (sym (holds_full key h.0 h.1))
        (refl, nothing h.2),
    unseen h.2,
  )
  get_parts key (Err refusal.Gone) h = (
    subst (GetIs key (Err refusal.Gone)) (sym (none_first key h.0 h.1))
        (adds (Known (entry.Gone v.view.pass key)) h.2.log),
    same_seen h.2.heap h.2.same,
  )
  get_parts key (Err refusal.Crowded) h = (
    subst (GetIs key (Err refusal.Crowded)) (sym (none_first key h.0 h.1))
        (adds (Known (entry.Crowded v.view.pass key)) h.2.log),
    same_seen h.2.heap h.2.same,
  )
  get_parts key (Err _) h = absurd h

  pub get_answers : (key : ℕ) (r : Result Hold Refusal) → GetDoes layout key v r w
      → SideDoes layout (GetDoes layout key) s r t
      → GetAnswers seen_before.terms seen_before.pass seen_before.part key r seen_after.part
      × SamePass seen_before seen_after
  get_answers key r h served = let p = get_parts key r h in ((p.0, served), p.1)

  -- ---- remove

  abbrev RemoveIs : ℕ → Result (Unit {0}) Refusal → Option Refusal → Type 0
  RemoveIs key r first = UnlessRefused first r (Becomes seen_before.part seen_after.part)
      (KeyRemoved seen_before.pass seen_before.part key r seen_after.part)

  removes_key : (key : ℕ) → IsKeyOfHeap layout v key → remove_refusal seen_before.terms key ≡ None
  removes_key key k = rw (a_key key k) refl

  removes_none : (key : ℕ) → place_named (plan_of layout v.heap.shape) key ≡ None → remove_refusal seen_before.terms key
      ≡ Some refusal.BadKey
  removes_none key k = rw (no_such_key key k) refl

  remove_parts : (key : ℕ) (r : Result (Unit {0}) Refusal) → RemoveDoes layout key v r w
      → RemoveIs key r (remove_refusal seen_before.terms key) × SamePass seen_before seen_after
  remove_parts key (Ok u) h = (
    subst (RemoveIs key (Ok u)) (sym (removes_key key h.0))
        (adds (Known (entry.Removed v.view.pass key)) h.1.log),
    same_seen h.1.heap h.1.same,
  )
  remove_parts key (Err refusal.BadKey) h = (
    subst (RemoveIs key (Err refusal.BadKey)) (sym (removes_none key h.0))
        (refl, nothing h.1),
    unseen h.1,
  )
  remove_parts key (Err refusal.Gone) h = (
    subst (RemoveIs key (Err refusal.Gone)) (sym (removes_key key h.0))
        (adds (Known (entry.Gone v.view.pass key)) h.1.log),
    same_seen h.1.heap h.1.same,
  )
  remove_parts key (Err _) h = absurd h

  pub remove_answers : (key : ℕ) (r : Result (Unit {0}) Refusal) → RemoveDoes layout key v r w
      → SideDoes layout (RemoveDoes layout key) s r t
      → RemoveAnswers seen_before.terms seen_before.pass seen_before.part key r seen_after.part
      × SamePass seen_before seen_after
  remove_answers key r h served = let p = remove_parts key r h in ((p.0, served), p.1)

  -- ---- holds

  held : (key : ℕ) → has (λ k. k == key) (holds v) ≡ true → nat_lt 0 (logged_holds_by v.view.own.log v.view.pass key)
      ≡ true
  held key e = let some : 0 < times key (holds v) = has_some (λ k. k == key) (holds v) e in let c = stands.holds key
      in grind (arith, nat_tests)

  none_held : (key : ℕ) → has (λ k. k == key) (holds v) ≡ false → nat_lt 0
      (logged_holds_by v.view.own.log v.view.pass key) ≡ false
  none_held key e = go (nat_lt 0 (times key (holds v))) refl
    where
      go : (b : Bool) → nat_lt 0 (times key (holds v)) ≡ b → nat_lt 0 (logged_holds_by v.view.own.log v.view.pass key)
          ≡ false
      go true f = let some : 0 < times key (holds v) = grind (arith, nat_tests)
          in absurd (let z : true ≡ false = sym (some_has key (holds v) some) ∙ e in cc)
      go false f = ap (λ n. nat_lt 0 n) (sym (stands.holds key)) ∙ f

  holds_it : (key : ℕ) → has (λ k. k == key) (holds v) ≡ true → hold_refusal seen_before.pass seen_before.part key
      ≡ None
  holds_it key e = rw (held key e) refl

  holds_not : (key : ℕ) → has (λ k. k == key) (holds v) ≡ false → hold_refusal seen_before.pass seen_before.part key
      ≡ Some refusal.NotHeld
  holds_not key e = rw (none_held key e) refl

  abbrev ReleaseIs : ℕ → Result (Unit {0}) Refusal → Option Refusal → Type 0
  ReleaseIs key r first = UnlessRefused first r (Becomes seen_before.part seen_after.part)
      (HoldReleased seen_before.pass seen_before.part key r seen_after.part)

  release_parts : (key : ℕ) (r : Result (Unit {0}) Refusal) → ReleaseDoes layout key v r w
      → ReleaseIs key r (hold_refusal seen_before.pass seen_before.part key) × SamePass seen_before seen_after
  release_parts key (Ok u) h = (
    subst (ReleaseIs key (Ok u)) (sym (holds_it key h.0))
        (adds (Known (entry.Released v.view.pass key)) h.1.log),
    same_seen h.1.heap h.1.same,
  )
  release_parts key (Err refusal.NotHeld) h = (
    subst (ReleaseIs key (Err refusal.NotHeld)) (sym (holds_not key h.0))
        (refl, nothing h.1),
    unseen h.1,
  )
  release_parts key (Err _) h = absurd h

  pub release_answers : (key : ℕ) (r : Result (Unit {0}) Refusal) → ReleaseDoes layout key v r w
      → SideDoes layout (ReleaseDoes layout key) s r t
      → ReleaseAnswers seen_before.terms seen_before.pass seen_before.part key r seen_after.part
      × SamePass seen_before seen_after
  release_answers key r h served = let p = release_parts key r h in ((p.0, served), p.1)

  abbrev ReadIs : ℕ → Result (List ℕ) Refusal → Option Refusal → Type 0
  ReadIs key r first = UnlessRefused first r (Becomes seen_before.part seen_after.part)
      (ValueRead seen_before.part key r seen_after.part)

  reads_log : (key : ℕ) (value : List ℕ) → w.view.own.log ≡ map (filled key value) v.view.own.log
      → Becomes (record (part_of_caller v s) { log = map (filled key value) v.view.own.log }) (part_of_caller w t)
  reads_log key value log = λ i. record { log = log i; shard = owned i; stands = t }

  read_parts : (key : ℕ) (r : Result (List ℕ) Refusal) → ReadDoes key v r w
      → ReadIs key r (hold_refusal seen_before.pass seen_before.part key) × SamePass seen_before seen_after
  read_parts key (Ok value) h = (
    subst (ReadIs key (Ok value)) (sym (holds_it key h.0))
        (reads_log key value h.1.log, h.1.value_is),
    same_seen h.1.heap h.1.same,
  )
  read_parts key (Err refusal.NotHeld) h = (
    subst (ReadIs key (Err refusal.NotHeld)) (sym (holds_not key h.0))
        (refl, nothing h.1),
    unseen h.1,
  )
  read_parts key (Err _) h = absurd h

  pub read_answers : (key : ℕ) (r : Result (List ℕ) Refusal) → ReadDoes key v r w
      → SideDoes layout (ReadDoes key) s r t
      → ReadAnswers seen_before.terms seen_before.pass seen_before.part key r seen_after.part
      × SamePass seen_before seen_after
  read_answers key r h served = let p = read_parts key r h in ((p.0, served), p.1)
