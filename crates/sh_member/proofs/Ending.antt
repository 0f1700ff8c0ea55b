-- What is left after a get, a removal, a read and a release in a row.
use Rattle.std.proofs.Common.{◌≡◌, ℕ, ◌+◌, true, List, [], ◌∷◌, ◌++◌, map, length, sym, ◌∙◌, ap}
use Rattle.std.proofs.Common.{subst, arith, append_assoc, ◌⊎◌, inl, inr, Option, None, IsSome}
use Rattle.std.specs.Prelude.{◌==◌, Ok, Err, false}
use Rattle.std.proofs.lemmas.List.{map-append}
use Rattle.sh_history.specs.declared.entry.Entry.TheVariants as entry
use Rattle.sh_history.specs.declared.entry.Entry.{Entry}
use Rattle.sh_history.specs.declared.log.LogEntry.{LogEntry}
use Rattle.sh_key.specs.Layout.{Layout}
use Rattle.sh_step.specs.Moves.{place_named}
use Rattle.sh_step.specs.Plans.{plan_of}
use Rattle.sh_value.specs.declared.hold.Hold.{Hold}
use Rattle.sh_value.specs.declared.refusal.Refusal.{Refusal}
use Rattle.sh_value.specs.declared.refusal.Refusal.TheVariants as refusal
use Rattle.sh_history.specs.declared.log.LogEntry.TheVariants.{Known, Unread}
use Rattle.sh_history.specs.Log.{filled, AllHaveValue}
use Rattle.sh_step.specs.declared.footstep.Footstep.{Footstep}
use Rattle.sh_step.specs.Collections.{without}
use Rattle.sh_pass.proofs.SameTales.{later_same}
use Rattle.sh_pass.specs.Deciding.{InOneStep, DropsHold, RemovalDecided}
use Rattle.sh_pass.specs.Passes.{Caller, holds, CallAdds, CallReads, GetDoes, ReadDoes, ReleaseDoes, RemoveDoes}
use Rattle.sh_pass.specs.Passes.{plan_for}
use Rattle.sh_pass.specs.Remaining.{Remains}
use Rattle.sh_pass.specs.Fetching.{ReadsAndAdds}
use Rattle.sh_member.specs.Readers.{TakeDoes}
use Rattle.sh_pass.proofs.Fetched.{got_read, has_behind}
use Rattle.sh_pass.proofs.FirstHold.{without_first}

pub remains_along : (layout : Layout) (u v w : Caller) → Remains layout u v → Remains layout v w → Remains layout u w
remains_along layout u v w before last = record {
  heap = last.heap ∙ before.heap;
  shard = last.shard ∙ before.shard;
  idle = last.idle;
  shape = before.shape;
  stood = before.stood;
  stands = last.stands;
}

-- what is left after some calls or none, one call, and another one or none
pub remains_after : (layout : Layout) (u v w x : Caller) → (Remains layout u v) ⊎ (v ≡ u) → Remains layout v w
    → (Remains layout w x) ⊎ (x ≡ w) → Remains layout u x
remains_after layout u v w x before call after = last after where
  first : (Remains layout u v) ⊎ (v ≡ u) → Remains layout u w
  first (inl some) = remains_along layout u v w some call
  first (inr none) = subst (λ (c : Caller). Remains layout c w) none call

  last : (Remains layout w x) ⊎ (x ≡ w) → Remains layout u x
  last (inl some) = remains_along layout u w x (first before) some
  last (inr none) = subst (λ (c : Caller). Remains layout u c) (sym none) (first before)

-- a get, a removal that was lost or won, a read and a release
takes : (k : ℕ) (value : List ℕ) (E : ℕ → Entry) (First Mid Last : List Footstep → Type 0) (v a b c d : Caller)
    → CallAdds (Unread v.view.pass k ∷ []) (k ∷ holds v) 1 First v a
    → CallAdds (Known (E a.view.pass) ∷ []) (holds a) 8 Mid a b → CallReads k value b c
    → CallAdds (Known (entry.Released c.view.pass k) ∷ []) (without (λ n. n == k) (holds c)) 6 Last c d
    → ReadsAndAdds k value
    (Known (entry.Got v.view.pass k value) ∷ Known (E v.view.pass) ∷ Known (entry.Released v.view.pass k) ∷ [])
    (length value + 17) v d
takes k value E First Mid Last v a b c d got removed read released =
    let M = map (filled k value) v.view.own.log in
    let g = Known (entry.Got v.view.pass k value) in
    let pass : c.view.pass ≡ v.view.pass = read.same.pass ∙ (removed.same.pass ∙ got.same.pass) in
    let log : c.view.own.log ≡ (M ++ g ∷ []) ++ Known (E v.view.pass) ∷ [] =
    read.log
    ∙ (ap (map (filled k value)) removed.log
    ∙ (map-append (filled k value) a.view.own.log (Known (E a.view.pass) ∷ [])
    ∙ (ap (λ l. l ++ Known (E a.view.pass) ∷ []) (ap (map (filled k value)) got.log
    ∙ got_read v.view.pass k value v.view.own.log)
    ∙ ap (λ p. (M ++ g ∷ []) ++ Known (E p) ∷ []) got.same.pass))) in
    let P : List LogEntry → Type 0 = λ l. AllHaveValue k value l in
    let first = got.steps in
    let mid = removed.steps in
    let then = read.steps in
    let last = released.steps in
    record {
      heap = released.heap ∙ (read.heap ∙ (removed.heap ∙ got.heap));
      same = later_same got.same (later_same removed.same
          (later_same read.same released.same));
      log = released.log
          ∙ (ap (λ l. l ++ Known (entry.Released c.view.pass k) ∷ []) log
          ∙ (ap (λ p. ((M ++ g ∷ []) ++ Known (E v.view.pass) ∷ []) ++ Known (entry.Released p k) ∷ []) pass
          ∙ (append_assoc (M ++ g ∷ []) (Known (E v.view.pass) ∷ []) (Known (entry.Released v.view.pass k) ∷ [])
          ∙ append_assoc M (g ∷ []) (Known (E v.view.pass) ∷ Known (entry.Released v.view.pass k) ∷ []))));
      value_is = subst P (sym released.log)
          (has_behind k value c.view.own.log (Known (entry.Released c.view.pass k)) read.value_is (tt, tt));
      holds = released.holds
          ∙ (ap (without (λ n. n == k)) (read.holds ∙ (removed.holds ∙ got.holds)) ∙ without_first k (holds v));
      steps = omega arith;
      alone = λ is_such other.
          released.alone is_such other
          ∙ (read.alone is_such other ∙ (removed.alone is_such other ∙ got.alone is_such other));
    }

pub take_does : (layout : Layout) (k : ℕ) (hold : Hold) (value : List ℕ) (v a b c d : Caller)
    → GetDoes layout k v (Ok hold) a → RemoveDoes layout k a (Ok tt) b → ReadDoes hold.key b (Ok value) c
    → ReleaseDoes layout hold.key c (Ok tt) d → TakeDoes layout k v (Ok value) d
take_does layout k hold value v a b c d got removed read released =
    let R : ℕ → Type 0 = λ n. ReadDoes n b (Ok value) c in
    let S : ℕ → Type 0 = λ n. ReleaseDoes layout n c (Ok tt) d in
    let reads : ReadDoes k b (Ok value) c = subst R got.0 read in
    let releases : ReleaseDoes layout k c (Ok tt) d = subst S got.0 released in (
      (got.1, got.2),
      takes k value (λ p. entry.Removed p k) (InOneStep (plan_for layout v) k)
          (RemovalDecided (plan_for layout a) k true) (DropsHold (plan_for layout c) k) v a b c d got.3 removed.1
          reads.1 releases.1,
    )

pub no_key : {A : Type 0} (o : Option A) → IsSome o → o ≡ None → ⊥
no_key {A} o some none = let z : IsSome {T = A} None = subst (λ z. IsSome z) none some in cc

pub comes_late : (layout : Layout) (k : ℕ) (hold : Hold) (value : List ℕ) (why : Refusal) (v a b c d : Caller)
    → GetDoes layout k v (Ok hold) a → RemoveDoes layout k a (Err why) b → ReadDoes hold.key b (Ok value) c
    → ReleaseDoes layout hold.key c (Ok tt) d → TakeDoes layout k v (Err why) d
comes_late layout k hold value refusal.Gone v a b c d got removed read released =
    let R : ℕ → Type 0 = λ n. ReadDoes n b (Ok value) c in
    let S : ℕ → Type 0 = λ n. ReleaseDoes layout n c (Ok tt) d in
    let reads : ReadDoes k b (Ok value) c = subst R got.0 read in
    let releases : ReleaseDoes layout k c (Ok tt) d = subst S got.0 released in
    inr (
      (got.1, got.2),
      (
        value,
        takes k value (λ p. entry.Gone p k) (InOneStep (plan_for layout v) k)
            (RemovalDecided (plan_for layout a) k false) (DropsHold (plan_for layout c) k) v a b c d got.3 removed.1
            reads.1 releases.1,
      ),
    )
comes_late layout k hold value refusal.BadKey v a b c d got removed read released =
    let none : place_named (plan_of layout v.heap.shape) k ≡ None =
    ap (λ h. place_named (plan_of layout h.shape) k) (sym got.3.heap) ∙ removed.0 in
    absurd (no_key (place_named (plan_of layout v.heap.shape) k) got.1 none)
comes_late layout k hold value _ v a b c d got removed read released = absurd removed
