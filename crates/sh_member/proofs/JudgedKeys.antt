-- One key more after those that were judged.
use Rattle.std.proofs.Common.{◌≡◌, ℕ, ◌+◌, Bool, List, [], ◌∷◌, ◌++◌, Option, Some, None, Result, Ok, Err}
use Rattle.std.proofs.Common.{refl, sym, subst, arith}
use Rattle.sh_key.specs.Layout.{Layout}
use Rattle.sh_step.specs.Collections.{if1}
use Rattle.sh_pass.specs.Growing.{SameTale}
use Rattle.sh_pass.specs.Passes.{Caller, RemoveDoes}
use Rattle.sh_value.specs.declared.refusal.Refusal.{Refusal}
use Rattle.sh_value.specs.declared.refusal.Refusal.TheVariants as refusal
use Rattle.sh_member.specs.declared.walking.NextLive.{NextLive}
use Rattle.sh_member.specs.Removing.{Judged, Judges, JudgesEach, Removal, RemovesIf, is_removed, removed_count}
use Rattle.sh_member.specs.Removing.{walk_end}
use Rattle.sh_member.specs.Walks.{NextLiveDoes}
use Rattle.sh_pass.proofs.SameTales.{later_same, same_now}

pub one_more_counted : (ks : List Judged) (k : Judged)
    → removed_count (ks ++ k ∷ []) ≡ removed_count ks + if1 (is_removed k.removal)
one_more_counted [] k = omega arith
one_more_counted (j ∷ js) k = let rest = one_more_counted js k in omega arith

module _ {S : Type 0} (says : (key : ℕ) → (value : List ℕ) → Bool → Type 0)
    (walks : (from : ℕ) → S → Option NextLive → S → Type 0)
    (removes : (key : ℕ) → S → Result (Unit {0}) Refusal → S → Type 0) where
  pub judged_more : (from mid : ℕ) (ks : List Judged) (met : NextLive) (removal : Removal) (v a b c : S)
      → JudgesEach says walks removes from ks mid v a → walks mid a (Some met) b
      → Judges says removes met.key met.value removal b c
      → JudgesEach says walks removes from (ks ++ record { met = met; removal = removal } ∷ []) met.behind v c
  judged_more from mid [] met removal v a b c each walk judge = (
    b,
    c,
    subst (λ (n : ℕ). walks n v (Some met) b) each.0 (subst (λ (x : S). walks mid x (Some met) b) each.1 walk),
    judge,
    (refl, refl),
  )
  judged_more from mid (k ∷ ks) met removal v a b c each walk judge = (
    each.0,
    each.1,
    each.2,
    each.3,
    judged_more k.met.behind mid ks met removal each.1 a b c each.4 walk judge,
  )

-- ---- what a reader knows of others stays

walk_same : (layout : Layout) (from before : ℕ) (v w : Caller) (met : Option NextLive)
    → NextLiveDoes layout from before v met w → SameTale v.view w.view
walk_same layout from before v w (Some next) walk = walk.adds.same
walk_same layout from before v w None walk = walk.adds.same

unchanged_same : (v w : Caller) → w ≡ v → SameTale v.view w.view
unchanged_same v w is = subst (λ (c : Caller). SameTale v.view c.view) (sym is) (same_now v.view)

remove_same : (layout : Layout) (key : ℕ) (v w : Caller) (answer : Result (Unit {0}) Refusal)
    → RemoveDoes layout key v answer w → SameTale v.view w.view
remove_same layout key v w (Ok _) did = did.1.same
remove_same layout key v w (Err refusal.Gone) did = did.1.same
remove_same layout key v w (Err refusal.BadKey) did = unchanged_same v w did.1
remove_same layout key v w (Err _) did = absurd did

module _ (layout : Layout) (says : (key : ℕ) → (value : List ℕ) → Bool → Type 0) where
  judge_same : (key : ℕ) (value : List ℕ) (removal : Removal) (v w : Caller)
      → Judges says (RemoveDoes layout) key value removal v w → SameTale v.view w.view
  judge_same key value (Some answer) v w judge = remove_same layout key v w answer judge.1
  judge_same key value None v w judge = unchanged_same v w judge.1

  each_same : (from : ℕ) (ks : List Judged) (next : ℕ) (v w : Caller)
      → JudgesEach says (λ n. NextLiveDoes layout n walk_end) (RemoveDoes layout) from ks next v w
      → SameTale v.view w.view
  each_same from [] next v w each = unchanged_same v w each.1
  each_same from (k ∷ ks) next v w each =
      later_same (walk_same layout from walk_end v each.0 (Some k.met) each.2)
      (later_same (judge_same k.met.key k.met.value k.removal each.0 each.1 each.3)
      (each_same k.met.behind ks next each.1 w each.4))

  pub removed_same : (v w : Caller) (count : ℕ)
      → RemovesIf says (λ n. NextLiveDoes layout n walk_end) (RemoveDoes layout) v count w → SameTale v.view w.view
  removed_same v w count removes = later_same (each_same 0 removes.judged removes.next v removes.last removes.each)
      (walk_same layout removes.next walk_end removes.last w None removes.ends)
