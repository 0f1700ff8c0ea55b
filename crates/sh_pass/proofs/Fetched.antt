-- What is left after a get, a read and a release in a row, and after a look and these.
use Rattle.std.proofs.lemmas.Bool.{false≢true}
use Rattle.std.proofs.Common.{◌≡◌, ℕ, ◌+◌, true, cond, List, [], ◌∷◌, ◌++◌, map, length, refl, sym, ◌∙◌, ap}
use Rattle.std.proofs.Common.{subst, arith, eq-eqb, append_assoc, inl, inr}
use Rattle.std.specs.Prelude.{◌==◌, Ok, Err, Result}
use Rattle.std.proofs.lemmas.List.{map-append}
use Rattle.sh_history.specs.declared.entry.Entry.TheVariants as entry
use Rattle.sh_history.specs.declared.log.LogEntry.{LogEntry}
use Rattle.sh_history.specs.declared.log.LogEntry.TheVariants.{Known, Unread}
use Rattle.sh_history.specs.Log.{filled, AllHaveValue}
use Rattle.sh_key.specs.Layout.{Layout}
use Rattle.sh_value.specs.declared.hold.Hold.{Hold}
use Rattle.sh_value.specs.declared.refusal.Refusal.{Refusal}
use Rattle.sh_value.specs.declared.refusal.Refusal.TheVariants as refusal
use Rattle.sh_step.specs.declared.footstep.Footstep.{Footstep}
use Rattle.sh_step.specs.Collections.{has, without}
use Rattle.sh_pass.specs.declared.looking.Glance.TheVariants as glance
use Rattle.sh_pass.specs.Deciding.{InOneStep, DropsHold}
use Rattle.sh_pass.specs.Fetching.{ReadsAndAdds, GetsAndReads, FetchDoes}
use Rattle.sh_pass.specs.Passes.{Caller, holds, CallAdds, CallReads, GetDoes, ReadDoes, ReadIntoDoes, ReleaseDoes}
use Rattle.sh_pass.specs.Passes.{GlanceDoes}
use Rattle.sh_pass.specs.Passes.{plan_for}
use Rattle.sh_pass.specs.Rooms.{FillsRoom, becomes}
use Rattle.sh_pass.proofs.FirstHold.{has_first, without_first}
use Rattle.sh_pass.proofs.SameTales.{later_same}

-- entries that have the value, and one more after them that has it
pub has_behind : (k : ℕ) (value : List ℕ) (es : List LogEntry) (e : LogEntry) → AllHaveValue k value es
    → AllHaveValue k value (e ∷ []) → AllHaveValue k value (es ++ e ∷ [])
has_behind k value [] e h last = last
has_behind k value (x ∷ es) e h last = (h.0, has_behind k value es e h.1 last)

-- the get that is read, and known entries after it
filled_first : (a k : ℕ) (value : List ℕ) → filled k value (Unread a k) ≡ Known (entry.Got a k value)
filled_first a k value = ap (λ b. cond b (Known (entry.Got a k value)) (Unread a k)) (eq-eqb k k refl)

-- the log once the get's value is read
pub got_read : (a k : ℕ) (value : List ℕ) (es : List LogEntry) → map (filled k value) (es ++ Unread a k ∷ [])
    ≡ map (filled k value) es ++ Known (entry.Got a k value) ∷ []
got_read a k value es =
    map-append (filled k value) es (Unread a k ∷ [])
    ∙ ap (λ e. map (filled k value) es ++ e ∷ []) (filled_first a k value)

-- a get, a read and a release
pub fetches : (k : ℕ) (value : List ℕ) (First Last : List Footstep → Type 0) (v a b c : Caller)
    → CallAdds (Unread v.view.pass k ∷ []) (k ∷ holds v) 1 First v a → CallReads k value a b
    → CallAdds (Known (entry.Released b.view.pass k) ∷ []) (without (λ n. n == k) (holds b)) 6 Last b c
    → ReadsAndAdds k value (Known (entry.Got v.view.pass k value) ∷ Known (entry.Released v.view.pass k) ∷ [])
    (length value + 9) v c
fetches k value First Last v a b c got read released =
    let pass : b.view.pass ≡ v.view.pass = read.same.pass ∙ got.same.pass in
    let log : b.view.own.log ≡ map (filled k value) v.view.own.log ++ Known (entry.Got v.view.pass k value) ∷ [] =
    read.log ∙ (ap (map (filled k value)) got.log ∙ got_read v.view.pass k value v.view.own.log) in
    let P : List LogEntry → Type 0 = λ l. AllHaveValue k value l in
    let first = got.steps in
    let then = read.steps in
    let last = released.steps in
    record {
      heap = released.heap ∙ (read.heap ∙ got.heap);
      same = later_same got.same (later_same read.same released.same);
      log = released.log
          ∙ (ap (λ l. l ++ Known (entry.Released b.view.pass k) ∷ []) log
          ∙ (ap (λ p. (map (filled k value) v.view.own.log ++ Known (entry.Got v.view.pass k value) ∷ [])
          ++ Known (entry.Released p k) ∷ []) pass
          ∙ append_assoc (map (filled k value) v.view.own.log) (Known (entry.Got v.view.pass k value) ∷ [])
          (Known (entry.Released v.view.pass k) ∷ [])));
      value_is = subst P (sym released.log)
          (has_behind k value b.view.own.log (Known (entry.Released b.view.pass k)) read.value_is (tt, tt));
      holds = released.holds
          ∙ (ap (without (λ n. n == k)) (read.holds ∙ got.holds) ∙ without_first k (holds v));
      steps = omega arith;
      alone = λ is_such other.
          released.alone is_such other ∙ (read.alone is_such other ∙ got.alone is_such other);
    }

pub fetch_does : (layout : Layout) (k : ℕ) (hold : Hold) (value : List ℕ) (v a b c : Caller)
    → GetDoes layout k v (Ok hold) a → ReadDoes hold.key a (Ok value) b → ReleaseDoes layout hold.key b (Ok tt) c
    → GetsAndReads layout k v (Ok value) c
fetch_does layout k hold value v a b c got read released =
    let R : ℕ → Type 0 = λ n. ReadDoes n a (Ok value) b in
    let S : ℕ → Type 0 = λ n. ReleaseDoes layout n b (Ok tt) c in
    let reads : ReadDoes k a (Ok value) b = subst R got.0 read in
    let releases : ReleaseDoes layout k b (Ok tt) c = subst S got.0 released in (
      (got.1, got.2),
      fetches k value (InOneStep (plan_for layout v) k) (DropsHold (plan_for layout b) k) v a b c got.3 reads.1
          releases.1,
    )

-- what was got is held, so its read and its release are not refused
pub held_after : (layout : Layout) (k : ℕ) (hold : Hold) (v a : Caller) → GetDoes layout k v (Ok hold) a
    → has (λ n. n == hold.key) (holds a) ≡ true
held_after layout k hold v a got =
    let first : has (λ n. n == k) (holds a) ≡ true = subst (λ (xs : List ℕ). has (λ n. n == k) xs ≡ true)
    (sym got.3.holds) (has_first k (holds v)) in
    subst (λ (m : ℕ). has (λ n. n == m) (holds a) ≡ true) (sym got.0) first

pub read_not_refused : (k : ℕ) (before after : List ℕ) (why : Refusal) (a b : Caller)
    → ReadIntoDoes k a before (Err why) after b → has (λ n. n == k) (holds a) ≡ true → ⊥
read_not_refused k before after refusal.NotHeld a b d held = false≢true (sym d.0.0 ∙ held)
read_not_refused k before after _ a b d held = d.0

pub release_not_refused : (layout : Layout) (k : ℕ) (why : Refusal) (b c : Caller)
    → ReleaseDoes layout k b (Err why) c → has (λ n. n == k) (holds b) ≡ true → ⊥
release_not_refused layout k refusal.NotHeld b c d held = false≢true (sym d.0 ∙ held)
release_not_refused layout k _ b c d held = d

-- ---- what the room took

-- a room that is a value
pub value_filled : (does : Result (List ℕ) Refusal → Type 0) (before after : List ℕ)
    → FillsRoom becomes does before (Ok tt) after → does (Ok after)
value_filled does before after f = subst (λ value. does (Ok value)) (sym f.2) f.1

-- what a call does with the value, another does
pub fills_as : {M : Type 0} (takes : M → List ℕ → M → Type 0) (does others : Result (List ℕ) Refusal → Type 0)
    (before after : M) (answer : Result (Unit {0}) Refusal)
    → ((value : Result (List ℕ) Refusal) → does value → others value)
    → FillsRoom takes does before answer after → FillsRoom takes others before answer after
fills_as takes does others before after (Ok _) also f = (f.0, also (Ok f.0) f.1, f.2)
fills_as takes does others before after (Err why) also f = (also (Err why) f.0, f.1)

-- it did so with some answer
pub it_did : {M : Type 0} (takes : M → List ℕ → M → Type 0) (does : Result (List ℕ) Refusal → Type 0)
    (before after : M) (answer : Result (Unit {0}) Refusal) → FillsRoom takes does before answer after
    → (value : Result (List ℕ) Refusal) × does value
it_did takes does before after (Ok _) f = (Ok f.0, f.1)
it_did takes does before after (Err why) f = (Err why, f.0)

-- ---- after a look

module _ {M : Type 0} (takes : M → List ℕ → M → Type 0) (layout : Layout) (k : ℕ) (v : Caller) (before : M) where
  abbrev Fills : Result (Unit {0}) Refusal → M → Caller → Type 0
  Fills answer after w = FillsRoom takes (λ value. FetchDoes layout k v value w) before answer after

  pub seen_fills : (after : M) (w : Caller) → GlanceDoes takes layout k v before (Ok glance.Seen) after w
      → Fills (Ok tt) after w
  seen_fills after w d = (d.0, inl d.1, d.2)

  pub gone_fills : (after : M) (w : Caller) → GlanceDoes takes layout k v before (Ok glance.Gone) after w
      → Fills (Err refusal.Gone) after w
  gone_fills after w d = (inl d.0, d.1)

  pub bad_fills : (why : Refusal) (after : M) (w : Caller) → GlanceDoes takes layout k v before (Err why) after w
      → Fills (Err why) after w
  bad_fills refusal.BadKey after w d = (inl (d.0, d.1), d.2)
  bad_fills _ after w d = absurd d

  -- then it gets, reads and releases the key
  pub early_fills : (mid after : M) (e w : Caller) (answer : Result (Unit {0}) Refusal)
      → GlanceDoes takes layout k v before (Ok glance.Early) mid e
      → FillsRoom takes (λ value. GetsAndReads layout k e value w) mid answer after → Fills answer after w
  early_fills mid after e w (Ok _) d f =
      (f.0, inr (e, d.0, d.1, f.1), subst (λ room. takes room f.0 after) d.2 f.2)
  early_fills mid after e w (Err why) d f = (inr (e, d.0, d.1, f.0), f.1 ∙ d.2)
