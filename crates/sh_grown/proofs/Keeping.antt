-- What is kept in one place is kept in all, and over several calls.
use Rattle.std.proofs.Common.{◌≡◌, ℕ, zero, suc, ◌||◌, ⊎_elim, List, [], ◌∷◌, get_or, refl, ◌∙◌, subst, sym}
use Rattle.std.proofs.Common.{Bool, true, Option, Some, None}
use Rattle.std.proofs.lemmas.Bool.{or_cases}
use Rattle.std.specs.Prelude.{Result, Ok, Err, slice_set}
use Rattle.sh_value.specs.declared.refusal.Refusal.{Refusal}
use Rattle.sh_value.specs.declared.refusal.Refusal.TheVariants as refusal
use Rattle.sh_grown.specs.declared.chunk_member.ChunkMember.{ChunkMember}
use Rattle.sh_member.specs.Sides.{SeenSide}
use Rattle.sh_grown.specs.declared.caller.Caller.{Caller as SeenCaller}
use Rattle.sh_grown.specs.declared.tried.Tried.{Tried}
use Rattle.sh_grown.specs.declared.tried.Tried.TheVariants.{Stored, Refused}
use Rattle.sh_grown.specs.Callers.{Stays}
use Rattle.sh_grown.specs.Inserts.{EndsWithInsert, TriesInsert, tried_after}
use Rattle.sh_grown.specs.Keeping.{KeepsMember, KeepsMembers}
use Rattle.sh_grown.specs.Refusals.{Did, LackedMemory, LacksMemory, OwnedFull, OwnsFull}

-- a place that nothing is done in
pub place_stays : (a : Option ChunkMember) → KeepsMember a a
place_stays None = tt
place_stays (Some m) = (refl, (refl, refl, refl))

-- two calls, one after the other
pub place_then : (a b c : Option ChunkMember) → KeepsMember a b → KeepsMember b c → KeepsMember a c
place_then None b c p q = tt
place_then (Some x) None c p q = absurd p
place_then (Some x) (Some y) None p q = absurd q
place_then (Some x) (Some y) (Some z) p q = (q.0 ∙ p.0, (q.1.0 ∙ p.1.0, q.1.1 ∙ p.1.1, q.1.2 ∙ p.1.2))

-- the same in each chunk
pub keeps_then : (xs ys zs : List (Option ChunkMember)) → KeepsMembers xs ys → KeepsMembers ys zs → KeepsMembers xs zs
keeps_then xs ys zs p q =
    λ chunk. place_then (get_or xs chunk None) (get_or ys chunk None) (get_or zs chunk None) (p chunk) (q chunk)

first_kept : (x : Option ChunkMember) (xs : List (Option ChunkMember)) (place : Option ChunkMember)
    → KeepsMember x place → (chunk : ℕ)
    → KeepsMember (get_or (x ∷ xs) chunk None) (get_or (place ∷ xs) chunk None)
first_kept x xs place kept zero = kept
first_kept x xs place kept (suc k) = place_stays (get_or xs k None)

later_kept : (x : Option ChunkMember) (xs : List (Option ChunkMember)) (i : ℕ) (place : Option ChunkMember)
    → KeepsMembers xs (slice_set xs i place) → (chunk : ℕ)
    → KeepsMember (get_or (x ∷ xs) chunk None) (get_or (x ∷ slice_set xs i place) chunk None)
later_kept x xs i place kept zero = place_stays x
later_kept x xs i place kept (suc k) = kept k

-- if one place alone is written, and it keeps its member, all keep theirs
pub one_kept : (xs : List (Option ChunkMember)) (i : ℕ) (place : Option ChunkMember)
    → KeepsMember (get_or xs i None) place
    → KeepsMembers xs (slice_set xs i place)
one_kept [] i place kept = λ chunk. tt
one_kept (x ∷ xs) zero place kept = first_kept x xs place kept
one_kept (x ∷ xs) (suc i) place kept = later_kept x xs i place (one_kept xs i place kept)

-- what was found at a place is what is there, or it is past the end
pub place_found : (xs : List (Option ChunkMember)) (i : ℕ) (found place : Option ChunkMember) → found
    ≡ get_or xs i found
    → KeepsMember found place → KeepsMember (get_or xs i None) place
place_found [] i found place is kept = tt
place_found (x ∷ xs) zero found place is kept = subst (λ o. KeepsMember o place) is kept
place_found (x ∷ xs) (suc i) found place is kept = place_found xs i found place is kept

-- one more place is written, which keeps the member that was found there
pub keeps_more : (old now : List (Option ChunkMember)) (i : ℕ) (found place : Option ChunkMember) → KeepsMembers old now
    → found ≡ get_or now i found → KeepsMember found place → KeepsMembers old (slice_set now i place)
keeps_more old now i found place before is kept =
    keeps_then old now (slice_set now i place) before (one_kept now i place (place_found now i found place is kept))

-- what was kept before an insert is kept in it
pub kept_then_ends : (value : List ℕ) (key : ℕ) (xs ys zs : List (Option ChunkMember)) → KeepsMembers xs ys
    → EndsWithInsert value key ys zs → EndsWithInsert value key xs zs
kept_then_ends value key xs ys zs p q = (q.0, keeps_then xs ys q.0 p q.1, q.2)

-- a try that is refused is refused as Memory
pub try_refused : (value : List ℕ) (ys zs : List (Option ChunkMember)) (why : Refusal)
    → TriesInsert value ys (Err why) zs
    → (why ≡ refusal.Memory) × KeepsMembers ys zs × LackedMemory value ys zs
try_refused value ys zs refusal.Memory q = (refl, q.0, q.1)
try_refused value ys zs refusal.BadKey q = absurd q
try_refused value ys zs refusal.Gone q = absurd q
try_refused value ys zs refusal.Crowded q = absurd q
try_refused value ys zs refusal.HoldsFull q = absurd q
try_refused value ys zs refusal.NotHeld q = absurd q
try_refused value ys zs refusal.TooLong q = absurd q
try_refused value ys zs refusal.Full q = absurd q
try_refused value ys zs refusal.Taken q = absurd q
try_refused value ys zs refusal.NoShard q = absurd q
try_refused value ys zs refusal.Waiting q = absurd q
try_refused value ys zs refusal.BadShape q = absurd q
try_refused value ys zs refusal.WrongKind q = absurd q

-- what was kept before is kept in the course of the call
pub then_did : (does : SeenSide → SeenSide → Type 0) (a b c : Option ChunkMember) → KeepsMember a b → Did does b c
    → Did does a c
then_did does a b c kept r = record {
  before = r.before;
  after = r.after;
  begins = place_then a b (Some r.before) kept r.begins;
  step = r.step;
  ends = r.ends;
}

-- and what is kept after it
pub did_then : (does : SeenSide → SeenSide → Type 0) (a b c : Option ChunkMember) → Did does a b → KeepsMember b c
    → Did does a c
did_then does a b c r kept = record {
  before = r.before;
  after = r.after;
  begins = r.begins;
  step = r.step;
  ends = place_then (Some r.after) b c r.ends kept;
}

pub then_owned : (value : List ℕ) (xs ys zs : List (Option ChunkMember)) → KeepsMembers xs ys → OwnedFull value ys zs
    → OwnedFull value xs zs
then_owned value xs ys zs p q = (
  q.0,
  then_did (OwnsFull value) (get_or xs q.0 None) (get_or ys q.0 None) (get_or zs q.0 None) (p q.0) q.1,
)

pub owned_then : (value : List ℕ) (xs ys zs : List (Option ChunkMember)) → OwnedFull value xs ys → KeepsMembers ys zs
    → OwnedFull value xs zs
owned_then value xs ys zs p q = (
  p.0,
  did_then (OwnsFull value) (get_or xs p.0 None) (get_or ys p.0 None) (get_or zs p.0 None) p.1 (q p.0),
)

-- the same of a member to which memory was refused
pub then_lacked : (value : List ℕ) (xs ys zs : List (Option ChunkMember)) → KeepsMembers xs ys
    → LackedMemory value ys zs → LackedMemory value xs zs
then_lacked value xs ys zs p q = (
  q.0,
  then_did (LacksMemory value) (get_or xs q.0 None) (get_or ys q.0 None) (get_or zs q.0 None) (p q.0) q.1,
)

pub tries_then : (value : List ℕ) (xs ys zs : List (Option ChunkMember)) (answer : Result Tried Refusal)
    → KeepsMembers xs ys → TriesInsert value ys answer zs → TriesInsert value xs answer zs
tries_then value xs ys zs (Ok (Refused owned)) p q =
    (keeps_then xs ys zs p q.0, λ own. then_owned value xs ys zs p (q.1 own))
tries_then value xs ys zs (Ok (Stored key)) p q = kept_then_ends value key xs ys zs p q
tries_then value xs ys zs (Err why) p q =
    let r : (why ≡ refusal.Memory) × KeepsMembers ys zs × LackedMemory value ys zs = try_refused value ys zs why q in
    subst (λ w. TriesInsert value xs (Err w) zs) (sym r.0)
    (keeps_then xs ys zs p r.1, then_lacked value xs ys zs p r.2)

-- an or of which one side is known to come from what holds
or_owned : (P : Type 0) (a b : Bool) → (a ≡ true → P) → (b ≡ true → P) → (a || b) ≡ true → P
or_owned P a b first second own =
    ⊎_elim first second (or_cases a b own)

-- a try after others, of which it is known what they kept and whether the caller owned a shard
pub tries_after : (value : List ℕ) (xs ys zs : List (Option ChunkMember)) (owned : Bool) (answer : Result Tried Refusal)
    → KeepsMembers xs ys → (owned ≡ true → OwnedFull value xs ys) → TriesInsert value ys answer zs
    → TriesInsert value xs (tried_after owned answer) zs
tries_after value xs ys zs owned (Ok (Refused here)) p own q = (
  keeps_then xs ys zs p q.0,
  or_owned (OwnedFull value xs zs) owned here (λ e. owned_then value xs ys zs (own e) q.0)
      (λ e. then_owned value xs ys zs p (q.1 e)),
)
tries_after value xs ys zs owned (Ok (Stored key)) p own q = kept_then_ends value key xs ys zs p q
tries_after value xs ys zs owned (Err why) p own q = tries_then value xs ys zs (Err why) p q

-- the caller has its number and its growing heap over two calls
pub stays_then : (a b c : SeenCaller) → Stays a b → Stays b c → Stays a c
stays_then a b c p q = record { growing = q.growing ∙ p.growing; number = q.number ∙ p.number }
