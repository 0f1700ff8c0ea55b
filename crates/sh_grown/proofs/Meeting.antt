-- What a caller has in its chunks after a meeting.
use Rattle.std.proofs.Common.{◌≡◌, ◌≢◌, ℕ, zero, suc, ◌+◌, ◌<◌, ◌≤◌, List, [], ◌∷◌, ◌++◌, length, get_or, refl, arith}
use Rattle.std.proofs.Common.{ap}
use Rattle.std.proofs.Common.{Option, Some, None, subst, sym, ◌∙◌}
use Rattle.std.specs.Prelude.{IsSome, slice_set}
use Rattle.sh_grown.specs.declared.chunk_member.ChunkMember.{ChunkMember}
use Rattle.sh_grown.specs.Callers.{met_in}
use Rattle.sh_grown.specs.Keeping.{KeepsMember, KeepsMembers}
use Rattle.sh_grown.proofs.Full.{met_within}
use Rattle.sh_grown.proofs.Keeping.{place_stays}

-- there is what was met, and every other place is as it was
pub met_here : (i : ℕ) (m : ChunkMember) (xs : List (Option ChunkMember)) → get_or (met_in i m xs) i None ≡ Some m
met_here zero m [] = refl
met_here zero m (x ∷ xs) = refl
met_here (suc i) m [] = met_here i m []
met_here (suc i) m (x ∷ xs) = met_here i m xs

pub met_other : (i j : ℕ) (m : ChunkMember) (xs : List (Option ChunkMember)) → j ≢ i
    → get_or (met_in i m xs) j None ≡ get_or xs j None
met_other zero zero m xs other = absurd (other refl)
met_other zero (suc j) m [] other = refl
met_other zero (suc j) m (x ∷ xs) other = refl
met_other (suc i) zero m [] other = refl
met_other (suc i) zero m (x ∷ xs) other = refl
met_other (suc i) (suc j) m [] other = met_other i j m [] (λ e. other (ap (λ n. suc n) e))
met_other (suc i) (suc j) m (x ∷ xs) other = met_other i j m xs (λ e. other (ap (λ n. suc n) e))

-- ---- how it is put there

-- empty places before it
pub met_past : (i : ℕ) (m : ChunkMember) (xs : List (Option ChunkMember)) → length xs < i
    → met_in i m (xs ++ None ∷ []) ≡ met_in i m xs
met_past zero m xs less = absurd (omega (arith, less))
met_past (suc i) m [] less = refl
met_past (suc i) m (x ∷ xs) less = ap (λ ys. x ∷ ys) (met_past i m xs (omega (arith, less)))

-- at the end, and inside
pub met_last : (i : ℕ) (m : ChunkMember) (xs : List (Option ChunkMember)) → length xs ≡ i
    → xs ++ Some m ∷ [] ≡ met_in i m xs
met_last zero m [] is = refl
met_last zero m (x ∷ xs) is = absurd (omega (arith, is))
met_last (suc i) m [] is = absurd (omega (arith, is))
met_last (suc i) m (x ∷ xs) is = ap (λ ys. x ∷ ys) (met_last i m xs (omega (arith, is)))

pub met_inside : (i : ℕ) (m : ChunkMember) (xs : List (Option ChunkMember)) → i < length xs
    → slice_set xs i (Some m) ≡ met_in i m xs
met_inside i m [] less = absurd (omega (arith, less))
met_inside zero m (x ∷ xs) less = refl
met_inside (suc i) m (x ∷ xs) less = ap (λ ys. x ∷ ys) (met_inside i m xs (omega (arith, less)))

-- ---- what follows

-- the member is there
pub met_there : (i : ℕ) (m : ChunkMember) (xs ys : List (Option ChunkMember)) → ys ≡ met_in i m xs
    → (i < length ys) × IsSome (get_or ys i None)
met_there i m xs ys is =
    let some : IsSome (get_or ys i None) =
    subst (λ (o : Option ChunkMember). IsSome o) (sym (ap (λ zs. get_or zs i None) is ∙ met_here i m xs)) refl in
    (met_within ys i some, some)

-- the others are kept
met_keeps : (i : ℕ) (m : ChunkMember) (xs : List (Option ChunkMember)) → get_or xs i None ≡ None
    → KeepsMembers xs (met_in i m xs)
met_keeps zero m [] none zero = tt
met_keeps zero m [] none (suc k) = tt
met_keeps zero m (x ∷ xs) none zero = subst (λ (o : Option ChunkMember). KeepsMember o (Some m)) (sym none) tt
met_keeps zero m (x ∷ xs) none (suc k) = place_stays (get_or xs k None)
met_keeps (suc i) m [] none k = tt
met_keeps (suc i) m (x ∷ xs) none zero = place_stays x
met_keeps (suc i) m (x ∷ xs) none (suc k) = met_keeps i m xs none k

pub met_kept : (i : ℕ) (m : ChunkMember) (xs ys : List (Option ChunkMember)) → ys ≡ met_in i m xs
    → get_or xs i None ≡ None → KeepsMembers xs ys
met_kept i m xs ys is none =
    subst (λ (zs : List (Option ChunkMember)). KeepsMembers xs zs) (sym is) (met_keeps i m xs none)

-- ---- before any meeting

-- a list of chunks that are yet to be met stays one
pub none_more : (xs : List (Option ChunkMember)) → ((k : ℕ) → get_or xs k None ≡ None) → (k : ℕ)
    → get_or (xs ++ None ∷ []) k None ≡ None
none_more [] all zero = refl
none_more [] all (suc k) = refl
none_more (x ∷ xs) all zero = all 0
none_more (x ∷ xs) all (suc k) = none_more xs (λ j. all (suc j)) k

-- nobody is behind the last place
pub none_behind : (xs : List (Option ChunkMember)) (k : ℕ) → length xs ≤ k → get_or xs k None ≡ None
none_behind [] k past = refl
none_behind (x ∷ xs) zero past = absurd (omega (arith, past))
none_behind (x ∷ xs) (suc k) past = none_behind xs k (omega (arith, past))
