-- What the tasks of a list give, from what holds at each place.
use Rattle.std.proofs.Common.{◌≡◌, ℕ, suc, ◌<◌, ◌+◌, List, [], ◌∷◌, length, get_or, IfOk, Result, Ok, Err, refl, sym}
use Rattle.std.proofs.Common.{subst, arith}
use Rattle.gearlongan.specs.Tasks.{AllGive}

-- two facts of a result that is Ok give a third
pub if_ok : {T E : Type 0} {P Q R : T → Type 0} (r : Result T E) → ((v : T) → P v → Q v → R v) → IfOk r P → IfOk r Q
    → IfOk r R
if_ok (Ok v) f p q = f v p q
if_ok (Err e) f p q = tt

-- each place has a task that gave the output there
abbrev GivesByPlace : {T A : Type 0} → (T → A → Type 0) → List T → List A → Type 0
GivesByPlace {T} {A} gives ts bs = (i : ℕ) (d : A) → i < length ts
    → (t : T) × ((e : T) → get_or ts i e ≡ t) × gives t (get_or bs i d)

pub giving : {T A : Type 0} (gives : T → A → Type 0) (ts : List T) (bs : List A) → length bs ≡ length ts
    → GivesByPlace gives ts bs → AllGive gives ts bs
giving gives [] [] same each = tt
giving gives (t ∷ ts) (b ∷ bs) same each =
    let first = each 0 b (omega arith) in (
      subst (λ x. gives x b) (sym (first.1 t)) first.2,
      giving gives ts bs (omega arith) (λ i d l. each (suc i) d (omega arith)),
    )
giving gives [] (b ∷ bs) same each = absurd (omega arith)
giving gives (t ∷ ts) [] same each = absurd (omega arith)
