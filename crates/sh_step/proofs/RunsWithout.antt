-- Runs of own slots without one of their slots.
use Rattle.std.proofs.Common.{◌≡◌, ℕ, zero, suc, ◌+◌, Bool, true, false, cond, not, List, [], ◌∷◌, ◌++◌, Some, None}
use Rattle.std.proofs.Common.{refl, sym, ap, ◌∙◌, subst, arith}
use Rattle.std.specs.Prelude.{nat_lt, length, slice_index_or, slice_set}
use Rattle.std.specs.List.{position, position_or_len, remove}
use Rattle.std.proofs.lemmas.Bool.Decides.{nat_tests}
use Rattle.sh_slots.specs.declared.hand.SlotRef.{SlotRef}
use Rattle.sh_slots.specs.Slots.{same_slot}
use Rattle.sh_step.specs.declared.part.run.Run.{Run}
use Rattle.sh_step.specs.Collections.{has, without}
use Rattle.sh_step.specs.Runs.{slots_of, slots_in}
use Rattle.sh_step.proofs.ListLaws.{without_in_first, without_behind}

-- the slot is in the run of this number, and in none before it
InRun : (x : SlotRef) → List Run → ℕ → Type 0
InRun x [] i = ⊥
InRun x (s ∷ rs) zero = has (same_slot x) (slots_of s) ≡ true
InRun x (s ∷ rs) (suc i) = (has (same_slot x) (slots_of s) ≡ false) × InRun x rs i

run_of : SlotRef → Run → Bool
run_of x s = has (same_slot x) (slots_of s)

in_run : (x : SlotRef) (rs : List Run) (i : ℕ) → position (run_of x) rs ≡ Some i → InRun x rs i
unfolding InRun run_of
in_run x [] i at = absurd (let no : ⊥ = cc in no)
in_run x (s ∷ rs) i at = go (run_of x s) refl (λ k h. in_run x rs k h) at where
  behind : ℕ
  behind = position_or_len (run_of x) rs

  Rest : Type 0
  Rest = (k : ℕ) → position (run_of x) rs ≡ Some k → InRun x rs k

  go : (b : Bool) → run_of x s ≡ b → Rest → cond (nat_lt (cond (not b) (1 + behind) 0) (length (s ∷ rs)))
      (Some (cond (not b) (1 + behind) 0)) None ≡ Some i → InRun x (s ∷ rs) i
  go true is rest at = let some : nat_lt 0 (length (s ∷ rs)) ≡ true = grind (arith, nat_tests) in
      let z : i ≡ 0 = cc in subst (λ k. InRun x (s ∷ rs) k) (sym z) is
  go false is rest at = step (nat_lt (1 + behind) (length (s ∷ rs))) refl at where
    step : (c : Bool) → nat_lt (1 + behind) (length (s ∷ rs)) ≡ c → cond c (Some (1 + behind)) None ≡ Some i
        → InRun x (s ∷ rs) i
    step true less at =
        let n : i ≡ suc behind = let e : i ≡ 1 + behind = cc in omega arith in
        let few : nat_lt behind (length rs) ≡ true = grind (arith, nat_tests) in
        let there : position (run_of x) rs ≡ Some behind = ap (λ c. cond c (Some behind) None) few in
        subst (λ k. InRun x (s ∷ rs) k) (sym n) (is, rest behind there)
    step false less at = absurd (let no : ⊥ = cc in no)

-- the run that has the slot first is without it, and the others stay
set_run : (x : SlotRef) (rs : List Run) (i : ℕ) (r left : Run) → InRun x rs i → slice_index_or rs i r ≡ r
    → slots_of left ≡ without (same_slot x) (slots_of r)
    → slots_in (slice_set rs i left) ≡ without (same_slot x) (slots_in rs)
unfolding InRun slots_in
set_run x [] i r left at is less = absurd at
set_run x (s ∷ rs) zero r left at is less =
    let p : slots_of s ≡ slots_of r = ap (λ (t : Run). slots_of t) is in
    sym (without_in_first (same_slot x) (slots_of s) (slots_in rs) at
    ∙ ap (λ xs. xs ++ slots_in rs) (ap (without (same_slot x)) p ∙ sym less))
set_run x (s ∷ rs) (suc i) r left at is less =
    ap (λ xs. slots_of s ++ xs) (set_run x rs i r left at.1 is less)
    ∙ sym (without_behind (same_slot x) (slots_of s) (slots_in rs) at.0)

-- a run with only this slot is removed
gone_run : (x : SlotRef) (rs : List Run) (i : ℕ) (r : Run) → InRun x rs i → slice_index_or rs i r ≡ r
    → without (same_slot x) (slots_of r) ≡ [] → slots_in (remove rs i) ≡ without (same_slot x) (slots_in rs)
unfolding InRun slots_in
gone_run x [] i r at is none = absurd at
gone_run x (s ∷ rs) zero r at is none =
    let p : slots_of s ≡ slots_of r = ap (λ (t : Run). slots_of t) is in
    sym (without_in_first (same_slot x) (slots_of s) (slots_in rs) at
    ∙ ap (λ xs. xs ++ slots_in rs) (ap (without (same_slot x)) p ∙ none))
gone_run x (s ∷ rs) (suc i) r at is none =
    ap (λ xs. slots_of s ++ xs) (gone_run x rs i r at.1 is none)
    ∙ sym (without_behind (same_slot x) (slots_of s) (slots_in rs) at.0)

pub without_in_run : (x : SlotRef) (rs : List Run) (i : ℕ) (r left : Run)
    → position (λ s. has (same_slot x) (slots_of s)) rs ≡ Some i → slice_index_or rs i r ≡ r
    → slots_of left ≡ without (same_slot x) (slots_of r)
    → slots_in (slice_set rs i left) ≡ without (same_slot x) (slots_in rs)
unfolding run_of
without_in_run x rs i r left at is less = set_run x rs i r left (in_run x rs i at) is less

pub without_a_run : (x : SlotRef) (rs : List Run) (i : ℕ) (r : Run)
    → position (λ s. has (same_slot x) (slots_of s)) rs ≡ Some i → slice_index_or rs i r ≡ r
    → without (same_slot x) (slots_of r) ≡ [] → slots_in (remove rs i) ≡ without (same_slot x) (slots_in rs)
unfolding run_of
without_a_run x rs i r at is none = gone_run x rs i r (in_run x rs i at) is none

-- the run that is found has the slot
pub found_has : (x : SlotRef) (rs : List Run) (i : ℕ) (r : Run)
    → position (λ s. has (same_slot x) (slots_of s)) rs ≡ Some i → slice_index_or rs i r ≡ r
    → has (same_slot x) (slots_of r) ≡ true
unfolding run_of InRun
found_has x rs i r at is = go rs i (in_run x rs i at) is where
  go : (rs : List Run) (i : ℕ) → InRun x rs i → slice_index_or rs i r ≡ r → has (same_slot x) (slots_of r) ≡ true
  go [] i at is = absurd at
  go (s ∷ rs) zero at is = sym (ap (λ (t : Run). has (same_slot x) (slots_of t)) is) ∙ at
  go (s ∷ rs) (suc i) at is = go rs i at.1 is

pub none_without : (x : SlotRef) (rs : List Run) → position (λ s. has (same_slot x) (slots_of s)) rs ≡ None
    → slots_in rs ≡ without (same_slot x) (slots_in rs)
unfolding slots_in run_of without
none_without x [] none = refl
none_without x (s ∷ rs) none = go (run_of x s) refl (λ h. none_without x rs h) none where
  behind : ℕ
  behind = position_or_len (run_of x) rs

  Rest : Type 0
  Rest = position (run_of x) rs ≡ None → slots_in rs ≡ without (same_slot x) (slots_in rs)

  go : (b : Bool) → run_of x s ≡ b → Rest → cond (nat_lt (cond (not b) (1 + behind) 0) (length (s ∷ rs)))
      (Some (cond (not b) (1 + behind) 0)) None ≡ None → slots_of s ++ slots_in rs
      ≡ without (same_slot x) (slots_of s ++ slots_in rs)
  go true is rest none = let some : nat_lt 0 (length (s ∷ rs)) ≡ true = grind (arith, nat_tests) in
      absurd (let no : ⊥ = cc in no)
  go false is rest none = step (nat_lt (1 + behind) (length (s ∷ rs))) refl none where
    step : (c : Bool) → nat_lt (1 + behind) (length (s ∷ rs)) ≡ c → cond c (Some (1 + behind)) None ≡ None
        → slots_of s ++ slots_in rs ≡ without (same_slot x) (slots_of s ++ slots_in rs)
    step true less none = absurd (let no : ⊥ = cc in no)
    step false less none =
        let many : nat_lt behind (length rs) ≡ false = grind (arith, nat_tests) in
        let stays = rest (ap (λ c. cond c (Some behind) None) many) in
        ap (λ xs. slots_of s ++ xs) stays ∙ sym (without_behind (same_slot x) (slots_of s) (slots_in rs) is)
