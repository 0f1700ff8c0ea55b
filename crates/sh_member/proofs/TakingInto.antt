-- What is left after a get, a read, a removal and a release in a row.
use Rattle.std.proofs.Common.{◌≡◌, ℕ, ◌+◌, ◌≤◌, true, false, List, [], ◌∷◌, ◌++◌, map, length, sym, ◌∙◌, ap}
use Rattle.std.proofs.Common.{subst, arith, append_assoc, inl, inr, None}
use Rattle.std.specs.Prelude.{◌==◌, Result, Ok, Err}
use Rattle.sh_history.specs.declared.entry.Entry.TheVariants as entry
use Rattle.sh_history.specs.declared.entry.Entry.{Entry}
use Rattle.sh_history.specs.declared.log.LogEntry.{LogEntry}
use Rattle.sh_history.specs.declared.log.LogEntry.TheVariants.{Known, Unread}
use Rattle.sh_history.specs.Log.{filled, AllHaveValue}
use Rattle.sh_key.specs.Layout.{Layout}
use Rattle.sh_step.specs.Collections.{without}
use Rattle.sh_step.specs.Moves.{place_named}
use Rattle.sh_step.specs.Plans.{plan_of}
use Rattle.sh_step.specs.declared.footstep.Footstep.{Footstep}
use Rattle.sh_value.specs.declared.hold.Hold.{Hold}
use Rattle.sh_value.specs.declared.refusal.Refusal.{Refusal}
use Rattle.sh_value.specs.declared.refusal.Refusal.TheVariants as refusal
use Rattle.sh_pass.specs.Deciding.{InOneStep, DropsHold, RemovalDecided}
use Rattle.sh_pass.specs.Passes.{Caller, holds, CallAdds, CallReads, GetDoes, ReadDoes, ReleaseDoes, RemoveDoes}
use Rattle.sh_pass.specs.Passes.{plan_for}
use Rattle.sh_pass.specs.Fetching.{ReadsAndAdds}
use Rattle.sh_member.specs.Readers.{TakeDoes, TakeFitsDoes, TakeIntoDoes}
use Rattle.sh_pass.proofs.Fetched.{got_read, has_behind}
use Rattle.sh_pass.proofs.FirstHold.{without_first}
use Rattle.sh_member.proofs.Ending.{no_key}
use Rattle.sh_pass.proofs.SameTales.{later_same}

-- a get, a read, a removal that was lost or won, and a release
reads_first : (k : ℕ) (value : List ℕ) (E : ℕ → Entry) (First Mid Last : List Footstep → Type 0) (v a b c d : Caller)
    → ((p : ℕ) → AllHaveValue k value (Known (E p) ∷ []))
    → CallAdds (Unread v.view.pass k ∷ []) (k ∷ holds v) 1 First v a → CallReads k value a b
    → CallAdds (Known (E b.view.pass) ∷ []) (holds b) 8 Mid b c
    → CallAdds (Known (entry.Released c.view.pass k) ∷ []) (without (λ n. n == k) (holds c)) 6 Last c d
    → ReadsAndAdds k value
    (Known (entry.Got v.view.pass k value) ∷ Known (E v.view.pass) ∷ Known (entry.Released v.view.pass k) ∷ [])
    (length value + 17) v d
reads_first k value E First Mid Last v a b c d plain got read removed released =
    let M = map (filled k value) v.view.own.log in
    let g = Known (entry.Got v.view.pass k value) in
    let first : b.view.pass ≡ v.view.pass = read.same.pass ∙ got.same.pass in
    let pass : c.view.pass ≡ v.view.pass = removed.same.pass ∙ first in
    let log : b.view.own.log ≡ M ++ g ∷ [] =
    read.log ∙ (ap (map (filled k value)) got.log ∙ got_read v.view.pass k value v.view.own.log) in
    let then : c.view.own.log ≡ (M ++ g ∷ []) ++ Known (E v.view.pass) ∷ [] =
    removed.log
    ∙ (ap (λ l. l ++ Known (E b.view.pass) ∷ []) log ∙ ap (λ p. (M ++ g ∷ []) ++ Known (E p) ∷ []) first) in
    let P : List LogEntry → Type 0 = λ l. AllHaveValue k value l in
    let one = got.steps in
    let two = read.steps in
    let three = removed.steps in
    let four = released.steps in
    record {
      heap = released.heap ∙ (removed.heap ∙ (read.heap ∙ got.heap));
      same = later_same got.same (later_same read.same
          (later_same removed.same released.same));
      log = released.log
          ∙ (ap (λ l. l ++ Known (entry.Released c.view.pass k) ∷ []) then
          ∙ (ap (λ p. ((M ++ g ∷ []) ++ Known (E v.view.pass) ∷ []) ++ Known (entry.Released p k) ∷ []) pass
          ∙ (append_assoc (M ++ g ∷ []) (Known (E v.view.pass) ∷ []) (Known (entry.Released v.view.pass k) ∷ [])
          ∙ append_assoc M (g ∷ []) (Known (E v.view.pass) ∷ Known (entry.Released v.view.pass k) ∷ []))));
      value_is = subst P (sym released.log)
          (has_behind k value c.view.own.log (Known (entry.Released c.view.pass k)) (subst P (sym removed.log)
          (has_behind k value b.view.own.log (Known (E b.view.pass)) read.value_is (plain b.view.pass))) (tt, tt));
      holds = released.holds
          ∙ (ap (without (λ n. n == k)) (removed.holds ∙ (read.holds ∙ got.holds)) ∙ without_first k (holds v));
      steps = omega arith;
      alone = λ is_such other.
          released.alone is_such other
          ∙ (removed.alone is_such other ∙ (read.alone is_such other ∙ got.alone is_such other));
    }

-- it fits, and was removed
take_fits : (layout : Layout) (k most : ℕ) (hold : Hold) (value : List ℕ) (v a b c d : Caller)
    → length value ≤ most → GetDoes layout k v (Ok hold) a → ReadDoes hold.key a (Ok value) b
    → RemoveDoes layout k b (Ok tt) c → ReleaseDoes layout hold.key c (Ok tt) d
    → TakeFitsDoes layout k most v (Ok value) d
take_fits layout k most hold value v a b c d few got read removed released =
    let R : ℕ → Type 0 = λ n. ReadDoes n a (Ok value) b in
    let S : ℕ → Type 0 = λ n. ReleaseDoes layout n c (Ok tt) d in
    let reads : ReadDoes k a (Ok value) b = subst R got.0 read in
    let releases : ReleaseDoes layout k c (Ok tt) d = subst S got.0 released in
    inl (
      few,
      (
        (got.1, got.2),
        reads_first k value (λ p. entry.Removed p k) (InOneStep (plan_for layout v) k)
            (RemovalDecided (plan_for layout b) k true) (DropsHold (plan_for layout c) k) v a b c d (λ p. (tt, tt))
            got.3 reads.1 removed.1 releases.1,
      ),
    )

-- another removed it after it was got
ends_late : (layout : Layout) (k : ℕ) (hold : Hold) (value : List ℕ) (why : Refusal) (v a b c d : Caller)
    → GetDoes layout k v (Ok hold) a → ReadDoes hold.key a (Ok value) b → RemoveDoes layout k b (Err why) c
    → ReleaseDoes layout hold.key c (Ok tt) d → TakeDoes layout k v (Err why) d
ends_late layout k hold value refusal.Gone v a b c d got read removed released =
    let R : ℕ → Type 0 = λ n. ReadDoes n a (Ok value) b in
    let S : ℕ → Type 0 = λ n. ReleaseDoes layout n c (Ok tt) d in
    let reads : ReadDoes k a (Ok value) b = subst R got.0 read in
    let releases : ReleaseDoes layout k c (Ok tt) d = subst S got.0 released in
    inr (
      (got.1, got.2),
      (
        value,
        reads_first k value (λ p. entry.Gone p k) (InOneStep (plan_for layout v) k)
            (RemovalDecided (plan_for layout b) k false) (DropsHold (plan_for layout c) k) v a b c d (λ p. (tt, tt))
            got.3 reads.1 removed.1 releases.1,
      ),
    )
ends_late layout k hold value refusal.BadKey v a b c d got read removed released =
    let reads = read.1 in
    let none : place_named (plan_of layout v.heap.shape) k ≡ None =
    ap (λ h. place_named (plan_of layout h.shape) k) (sym (reads.heap ∙ got.3.heap)) ∙ removed.0 in
    absurd (no_key (place_named (plan_of layout v.heap.shape) k) got.1 none)
ends_late layout k hold value _ v a b c d got read removed released = absurd removed

-- so ends a take of a value that fits, for each result of the removal
pub take_ends : (layout : Layout) (k most : ℕ) (hold : Hold) (value : List ℕ) (removal : Result (Unit {0}) Refusal)
    (v a b c d : Caller) → length value ≤ most → GetDoes layout k v (Ok hold) a → ReadDoes hold.key a (Ok value) b
    → RemoveDoes layout k b removal c → ReleaseDoes layout hold.key c (Ok tt) d
    → TakeIntoDoes layout k most v removal value d
take_ends layout k most hold value (Ok u) v a b c d few got read removed released =
    take_fits layout k most hold value v a b c d few got read removed released
take_ends layout k most hold value (Err why) v a b c d few got read removed released =
    ends_late layout k hold value why v a b c d got read removed released
