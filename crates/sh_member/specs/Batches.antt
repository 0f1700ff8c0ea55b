-- What batches do: a call for each of several keys, in order.
use Rattle.std.specs.Prelude.{◌≡◌, ℕ, List, [], ◌∷◌, Result}
use Rattle.sh_key.specs.Layout.{Layout}
use Rattle.sh_value.specs.declared.hold.Hold.{Hold}
use Rattle.sh_value.specs.declared.refusal.Refusal.{Refusal}
use Rattle.sh_pass.specs.Passes.{Caller, GetDoes}
use Rattle.sh_pass.specs.Remaining.{Remains}
use Rattle.sh_pass.specs.Fetching.{FetchDoes}

-- a call for each key, in order, whatever the calls before it returned; there is one result for each key
abbrev pub DoesEach : {K S A : Type 0} → (K → S → A → S → Type 0) → List K → S → List A → S → Type 0
DoesEach does [] v [] w = w ≡ v
DoesEach does [] v (result ∷ results) w = ⊥
DoesEach does (key ∷ keys) v [] w = ⊥
DoesEach {K} {S} does (key ∷ keys) v (result ∷ results) w =
    (next : S) × does key v result next × DoesEach does keys next results w

-- each key was got
abbrev pub GetsEach : Layout → List ℕ → Caller → List (Result Hold Refusal) → Caller → Type 0
GetsEach layout = DoesEach (GetDoes layout)

-- each key was fetched
abbrev pub FetchesEach : Layout → List ℕ → Caller → List (Result (List ℕ) Refusal) → Caller → Type 0
FetchesEach layout = DoesEach (FetchDoes layout)

-- what remains after calls for these keys: without a key all is as it was
abbrev pub RemainsAfter : Layout → List ℕ → Caller → Caller → Type 0
RemainsAfter layout [] v w = w ≡ v
RemainsAfter layout (key ∷ keys) v w = Remains layout v w
