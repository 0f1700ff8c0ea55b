-- What remove_if does: which keys its walk met, what the predicate said of each, and which of them it removed.
use Rattle.std.specs.Prelude.{◌≡◌, ℕ, ◌+◌, ◌-◌, ◌^◌, Bool, true, false, List, [], ◌∷◌}
use Rattle.std.specs.Prelude.{Option, Some, None, Result, is_ok}
use Rattle.std.specs.Fn.{FnReturns, Shared}
use Rattle.std.specs.Borrow.{Bor}
use Rattle.sh_value.specs.declared.refusal.Refusal.{Refusal}
use Rattle.sh_step.specs.Collections.{if1}
use Rattle.sh_member.specs.declared.walking.NextLive.{NextLive}

-- the predicate returned this for the key and its value
pub record SaysOf {F : Type 0} (g : Shared F (ℕ × (Bor (List ℕ) × Unit {0})) Bool) (predicate : F) (key : ℕ)
    (value : List ℕ) (said : Bool) : Type 0 where
  pub shown : Bor (List ℕ)
  pub shows : shown.now ≡ value
  pub says : FnReturns g predicate (key, (shown, tt)) said

-- the place at which a walk over all places ends
abbrev pub walk_end : ℕ
walk_end = 2 ^ 64 - 1

-- what a removal returned, if there was one
abbrev pub Removal : Type 0
Removal = Option (Result (Unit {0}) Refusal)

-- it removed the key
abbrev pub is_removed : Removal → Bool
is_removed (Some answer) = is_ok answer
is_removed None = false

-- a key that the walk met, and its removal
pub record Judged : Type 0 where
  pub met : NextLive
  pub removal : Removal

-- how many of these keys were removed
abbrev pub removed_count : List Judged → ℕ
removed_count [] = 0
removed_count (k ∷ ks) = if1 (is_removed k.removal) + removed_count ks

-- the predicate was true, and the removal of the key returned this; or it was false, and nothing was done
abbrev pub Judges : {S : Type 0} → (says : (key : ℕ) → (value : List ℕ) → Bool → Type 0)
    → (removes : (key : ℕ) → S → Result (Unit {0}) Refusal → S → Type 0) → (key : ℕ) → (value : List ℕ) → Removal
    → S → S → Type 0
Judges says removes key value (Some answer) v w = says key value true × removes key v answer w
Judges says removes key value None v w = says key value false × (w ≡ v)

module _ {S : Type 0} (says : (key : ℕ) → (value : List ℕ) → Bool → Type 0)
    (walks : (from : ℕ) → S → Option NextLive → S → Type 0)
    (removes : (key : ℕ) → S → Result (Unit {0}) Refusal → S → Type 0) where
  -- a walk from this place on met these keys, one after the other, and each was judged before the next; it goes on from
  -- that place
  abbrev pub JudgesEach : (from : ℕ) → List Judged → (next : ℕ) → S → S → Type 0
  JudgesEach from [] next v w = (next ≡ from) × (w ≡ v)
  JudgesEach from (k ∷ ks) next v w = (a : S) × (b : S) × walks from v (Some k.met) a
      × Judges says removes k.met.key k.met.value k.removal a b × JudgesEach k.met.behind ks next b w

  -- keys were judged until the walk met no more; so many of them were removed
  pub record RemovesIf (v : S) (count : ℕ) (w : S) : Type 0 where
    pub judged : List Judged
    pub next : ℕ
    pub last : S
    pub each : JudgesEach 0 judged next v last
    pub ends : walks next last None w
    pub count_is : count ≡ removed_count judged
