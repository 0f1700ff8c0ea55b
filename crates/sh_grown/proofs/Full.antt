-- An insert that finds no room in a shard, and a move to a shard that is refused.
use Rattle.std.proofs.Common.{◌≡◌, ◌≢◌, ℕ, zero, suc, ◌<◌, ◌⊎◌, Bool, true, false, List, [], ◌∷◌, Option, Some, None}
use Rattle.std.proofs.Common.{length, refl, inl, inr, ⊎_elim, ap, arith, get_or, subst, sym, ◌∙◌}
use Rattle.std.specs.Prelude.{Result, Ok, Err, IfErr, IsSome, OnOk, is_err, slice_set}
use Rattle.std.proofs.lemmas.List.{get_or-set_same}
use Rattle.sh_value.specs.declared.refusal.Refusal.{Refusal}
use Rattle.sh_value.specs.declared.refusal.Refusal.TheVariants as refusal
use Rattle.sh_member.specs.declared.member.Side.TheVariants.{Pass, Shard}
use Rattle.sh_chunk.specs.Chunks.{chunked}
use Rattle.sh_shard.specs.Shards.{NoRoom, Sharded, value_class}
use Rattle.sh_member.specs.Sides.{SeenSide, SideCollects, IsPass}
use Rattle.sh_grown.specs.declared.chunk_member.ChunkMember.{ChunkMember}
use Rattle.sh_grown.specs.declared.tried.Tried.{Tried}
use Rattle.sh_grown.specs.declared.tried.Tried.TheVariants.{Stored, Refused}
use Rattle.sh_grown.specs.Callers.{MemberDoes}
use Rattle.sh_grown.specs.Inserts.{CollectsInChunk, InsertRefused, InsertsIn, InsertsInChunk, LeavesNone, MoveRefused}
use Rattle.sh_grown.specs.Inserts.{OnRefused, OwnsNone, TriesInsert, tried_by}
use Rattle.sh_grown.specs.Keeping.{KeepsMember, KeepsMembers}
use Rattle.sh_grown.specs.Refusals.{Did, LackedMemory, LacksMemory, OwnedFull, OwnsFull, OwnsShard, OwnsThere}
use Rattle.sh_grown.specs.Refusals.{RefusedIn, RefusesShard, WasRefused}
use Rattle.sh_grown.proofs.Places.{inside}
use Rattle.sh_grown.proofs.Refusals.{did_now}

-- ---- why a try is refused

-- a refused insert or move keeps each member
pub tries_by : (value : List ℕ) (xs ys : List (Option ChunkMember)) (why : Refusal) → KeepsMembers xs ys
    → OnRefused (tried_by why) (λ owned. owned ≡ true → OwnedFull value xs ys)
    → (why ≡ refusal.Memory → LackedMemory value xs ys) → TriesInsert value xs (tried_by why) ys
tries_by value xs ys refusal.Memory kept own lacks = (kept, lacks refl)
tries_by value xs ys _ kept own lacks = (kept, own)

-- ---- an insert of the owner

-- the owner of a shard is refused for want of memory, or has no room
owner_refused_by : (value : List ℕ) (o n : Sharded) (why : Refusal) → InsertsIn value (Shard o) (Err why) (Shard n)
    → ((why ≡ refusal.Memory) × LacksMemory value (Shard o) (Shard n))
    ⊎ ((why ≡ refusal.Full) × NoRoom (value_class value) o n)
owner_refused_by value o n refusal.Full h = inr (refl, h.0)
owner_refused_by value o n refusal.Memory h = inl (refl, h.0)
owner_refused_by value o n _ h = absurd h.0

owner_full : (value : List ℕ) (o n : Sharded) (why : Refusal) → why ≢ refusal.Memory
    → InsertsIn value (Shard o) (Err why) (Shard n) → NoRoom (value_class value) o n
owner_full value o n why ne h =
    ⊎_elim (λ (lacks : (why ≡ refusal.Memory) × LacksMemory value (Shard o) (Shard n)). absurd (ne lacks.0))
    (λ (full : (why ≡ refusal.Full) × NoRoom (value_class value) o n). full.1) (owner_refused_by value o n why h)

-- Why an insert was refused in a chunk: for want of memory, or since the shard there had no room, or since the caller
-- owned none there.
abbrev RefusedBy : List ℕ → Refusal → Option ChunkMember → Option ChunkMember → Type 0
RefusedBy value why a b = ((why ≡ refusal.Memory) × Did (LacksMemory value) a b)
    ⊎ (((why ≡ refusal.Full) × Did (OwnsFull value) a b) ⊎ ((why ≡ refusal.NoShard) × OwnsNone a))

abbrev why_of : Result ℕ Refusal → Refusal
why_of (Err why) = why
why_of (Ok key) = refusal.Memory

side_refused_by : (value : List ℕ) (m n : SeenSide) (why : Refusal) → InsertsIn value m (Err why) n
    → ((why ≡ refusal.Memory) × LacksMemory value m n)
    ⊎ (((why ≡ refusal.Full) × OwnsFull value m n) ⊎ ((why ≡ refusal.NoShard) × IsPass m))
side_refused_by value (Pass v) n why h = inr (inr (ap why_of h.0, tt))
side_refused_by value (Shard o) (Shard n) why h =
    ⊎_elim (λ (lacks : (why ≡ refusal.Memory) × LacksMemory value (Shard o) (Shard n)). inl lacks)
    (λ (full : (why ≡ refusal.Full) × NoRoom (value_class value) o n). inr (inl (full.0, inl full.1)))
    (owner_refused_by value o n why h)
side_refused_by value (Shard o) (Pass w) why h = absurd h

place_refused_by : (value : List ℕ) (a b : Option ChunkMember) (why : Refusal)
    → MemberDoes (InsertsIn value) a (Err why) b → RefusedBy value why a b
place_refused_by value (Some m) (Some n) why does =
    ⊎_elim
    (λ (lacks : (why ≡ refusal.Memory) × LacksMemory value m.member n.member). inl
    (lacks.0, did_now (LacksMemory value) m n lacks.1))
    (λ (rest : ((why ≡ refusal.Full) × OwnsFull value m.member n.member)
    ⊎ ((why ≡ refusal.NoShard) × IsPass m.member)). inr (⊎_elim
    (λ (full : (why ≡ refusal.Full) × OwnsFull value m.member n.member). inl
    (full.0, did_now (OwnsFull value) m n full.1)) inr rest))
    (side_refused_by value m.member n.member why does.0)
place_refused_by value (Some m) None why does = absurd does
place_refused_by value None b why does = absurd does

-- a member is inside the list
pub met_within : (xs : List (Option ChunkMember)) (i : ℕ) → IsSome (get_or xs i None) → i < length xs
met_within [] i some = absurd (cc)
met_within (x ∷ xs) zero some = omega arith
met_within (x ∷ xs) (suc i) some = let less : i < length xs = met_within xs i some in omega arith

-- what is written at the place of a member is there
set_here : (xs : List (Option ChunkMember)) (i : ℕ) (place : Option ChunkMember) → IsSome (get_or xs i None)
    → get_or (slice_set xs i place) i None ≡ place
set_here xs i place some = get_or-set_same xs i place None (met_within xs i some)

somebody : (a : Option ChunkMember) → IsSome a → a ≡ None → ⊥
somebody (Some m) some none = cc
somebody None some none = cc

inserted_here : (value : List ℕ) (chunk : ℕ) (old new : List (Option ChunkMember)) (why : Refusal)
    → IsSome (get_or old chunk None) → InsertsInChunk value chunk old (Err why) new
    → MemberDoes (InsertsIn value) (get_or old chunk None) (Err why) (get_or new chunk None)
inserted_here value chunk old new why some (inl h) =
    subst (λ (o : Option ChunkMember). MemberDoes (InsertsIn value) (get_or old chunk None) (Err why) o)
    (sym (ap (λ (xs : List (Option ChunkMember)). get_or xs chunk None) h.2 ∙ set_here old chunk h.0 some)) h.1
inserted_here value chunk old new why some (inr h) = absurd (somebody (get_or old chunk None) some h.1)

inserter_is_there : (value : List ℕ) (a b : Option ChunkMember) (answer : Result ℕ Refusal)
    → MemberDoes (InsertsIn value) a answer b → IsSome a
inserter_is_there value (Some m) b answer does = refl
inserter_is_there value None b answer does = absurd does

-- the same over the chunks
insert_refused_by : (value : List ℕ) (chunk : ℕ) (old new : List (Option ChunkMember)) (why : Refusal)
    → InsertsInChunk value chunk old (Err why) new → RefusedBy value why (get_or old chunk None) (get_or new chunk None)
insert_refused_by value chunk old new why (inl h) =
    place_refused_by value (get_or old chunk None) (get_or new chunk None) why
    (inserted_here value chunk old new why (inserter_is_there value (get_or old chunk None) h.0 (Err why) h.1) (inl h))
insert_refused_by value chunk old new why (inr h) =
    inr (inr (ap why_of h.0, subst OwnsNone (sym h.1) tt))

-- what holds of why an insert was refused
by_cause : (P : Refusal → Type 0) (value : List ℕ) (a b : Option ChunkMember) (why : Refusal)
    → (Did (LacksMemory value) a b → P refusal.Memory) → (Did (OwnsFull value) a b → P refusal.Full)
    → (OwnsNone a → P refusal.NoShard) → RefusedBy value why a b → P why
by_cause P value a b why memory full none cause =
    ⊎_elim
    (λ (h : (why ≡ refusal.Memory) × Did (LacksMemory value) a b). subst P (sym h.0) (memory h.1))
    (λ (rest : ((why ≡ refusal.Full) × Did (OwnsFull value) a b) ⊎ ((why ≡ refusal.NoShard) × OwnsNone a)). ⊎_elim
    (λ (h : (why ≡ refusal.Full) × Did (OwnsFull value) a b). subst P (sym h.0) (full h.1))
    (λ (h : (why ≡ refusal.NoShard) × OwnsNone a). subst P (sym h.0) (none h.1)) rest) cause

-- a try whose insert was refused
pub insert_tries : (value : List ℕ) (chunk : ℕ) (old new : List (Option ChunkMember)) (why : Refusal)
    → KeepsMembers old new → InsertsInChunk value chunk old (Err why) new → TriesInsert value old (tried_by why) new
insert_tries value chunk old new why kept h =
    by_cause (λ (w : Refusal). TriesInsert value old (tried_by w) new) value (get_or old chunk None)
    (get_or new chunk None) why (λ lacks. (kept, (chunk, lacks))) (λ own. (kept, λ e. (chunk, own)))
    (λ none. (kept, λ e. absurd (cc)))
    (insert_refused_by value chunk old new why h)

refused_other : (P : Type 0) (why : Refusal) → (why ≢ refusal.Memory → P) → OnRefused (tried_by why) (λ owned. P)
refused_other P refusal.Memory holds = tt
refused_other P _ holds = holds (λ e. cc)

pub insert_refused : (value : List ℕ) (chunk : ℕ) (old new : List (Option ChunkMember)) (why : Refusal)
    → InsertsInChunk value chunk old (Err why) new
    → OnRefused (tried_by why) (λ owned. InsertRefused value chunk old new)
insert_refused value chunk old new why h =
    refused_other (InsertRefused value chunk old new) why (λ ne. (why, ne, h))

pub insert_none : (value : List ℕ) (chunk : ℕ) (old new : List (Option ChunkMember)) (why : Refusal)
    → InsertsInChunk value chunk old (Err why) new
    → OnRefused (tried_by why) (λ owned. owned ≡ false → OwnsNone (get_or old chunk None))
insert_none value chunk old new why h =
    by_cause (λ (w : Refusal). OnRefused (tried_by w) (λ owned. owned ≡ false → OwnsNone (get_or old chunk None))) value
    (get_or old chunk None) (get_or new chunk None) why (λ lacks. tt) (λ own e. absurd (cc)) (λ none e. none)
    (insert_refused_by value chunk old new why h)

-- an insert leaves no shard
insert_side_leaves : (value : List ℕ) (m n : SeenSide) (answer : Result ℕ Refusal) → InsertsIn value m answer n → IsPass n
    → IsPass m
insert_side_leaves value (Pass v) n answer h pass = tt
insert_side_leaves value (Shard o) (Shard n) answer h pass = absurd pass
insert_side_leaves value (Shard o) (Pass w) (Ok key) h pass = absurd h
insert_side_leaves value (Shard o) (Pass w) (Err why) h pass = absurd h

insert_place_leaves : (value : List ℕ) (a b : Option ChunkMember) (answer : Result ℕ Refusal)
    → MemberDoes (InsertsIn value) a answer b → OwnsNone b → OwnsNone a
insert_place_leaves value (Some m) (Some n) answer does none = insert_side_leaves value m.member n.member answer does.0 none
insert_place_leaves value (Some m) None answer does none = absurd does
insert_place_leaves value None b answer does none = tt

pub none_left : (xs : List (Option ChunkMember)) → LeavesNone xs xs
none_left xs = λ chunk none. none

pub left_then : (xs ys zs : List (Option ChunkMember)) → LeavesNone xs ys → LeavesNone ys zs → LeavesNone xs zs
left_then xs ys zs p q = λ chunk none. p chunk (q chunk none)

first_left : (x : Option ChunkMember) (xs : List (Option ChunkMember)) (place : Option ChunkMember)
    → (OwnsNone place → OwnsNone x) → (chunk : ℕ) → OwnsNone (get_or (place ∷ xs) chunk None)
    → OwnsNone (get_or (x ∷ xs) chunk None)
first_left x xs place left zero none = left none
first_left x xs place left (suc k) none = none

later_left : (x : Option ChunkMember) (xs ys : List (Option ChunkMember)) → LeavesNone xs ys → (chunk : ℕ)
    → OwnsNone (get_or (x ∷ ys) chunk None) → OwnsNone (get_or (x ∷ xs) chunk None)
later_left x xs ys left zero none = none
later_left x xs ys left (suc k) none = left k none

one_leaves : (xs : List (Option ChunkMember)) (i : ℕ) (found place : Option ChunkMember) → found ≡ get_or xs i found
    → (OwnsNone place → OwnsNone found) → LeavesNone xs (slice_set xs i place)
one_leaves [] i found place is left = λ chunk none. none
one_leaves (x ∷ xs) zero found place is left =
    first_left x xs place (λ none. subst OwnsNone is (left none))
one_leaves (x ∷ xs) (suc i) found place is left =
    later_left x xs (slice_set xs i place) (one_leaves xs i found place is left)

-- the same of the insert at one place
pub insert_leaves : (value : List ℕ) (xs : List (Option ChunkMember)) (i : ℕ) (found place : Option ChunkMember)
    (answer : Result ℕ Refusal) → found ≡ get_or xs i found → MemberDoes (InsertsIn value) found answer place
    → LeavesNone xs (slice_set xs i place)
insert_leaves value xs i found place answer is does =
    one_leaves xs i found place is (insert_place_leaves value found place answer does)

-- a collect of the owner, and then an insert that finds no room
side_full : (value : List ℕ) (shard : ℕ) (a b c : SeenSide) (answer : Result (Unit {0}) Refusal) (why : Refusal)
    → why ≢ refusal.Memory → OwnsShard shard a → SideCollects chunked a answer b → InsertsIn value b (Err why) c
    → RefusesShard true value shard a c
side_full value shard (Shard o) (Shard m) (Shard n) answer why ne owns collects h = (
  refl,
  inl (owns, record { collected = m; collects = collects.1; full = owner_full value m n why ne h }),
)
side_full value shard (Shard o) (Shard m) (Pass w) answer why ne owns collects h = absurd h
side_full value shard (Shard o) (Pass w) c answer why ne owns collects h = absurd collects
side_full value shard (Pass v) b c answer why ne owns collects h = absurd owns

place_full : (value : List ℕ) (shard : ℕ) (a b c : Option ChunkMember) (answer : Result (Unit {0}) Refusal)
    (why : Refusal) → why ≢ refusal.Memory → OwnsThere shard a → MemberDoes (SideCollects chunked) a answer b
    → MemberDoes (InsertsIn value) b (Err why) c → WasRefused true value shard a c
place_full value shard (Some m) (Some n) (Some o) answer why ne owns collects does =
    did_now (RefusesShard true value shard) m o
    (side_full value shard m.member n.member o.member answer why ne owns collects.0 does.0)
place_full value shard (Some m) (Some n) None answer why ne owns collects does = absurd does
place_full value shard (Some m) None c answer why ne owns collects does = absurd collects
place_full value shard None b c answer why ne owns collects does = absurd owns

owner_is_there : (shard : ℕ) (a : Option ChunkMember) → OwnsThere shard a → IsSome a
owner_is_there shard (Some m) owns = refl
owner_is_there shard None owns = absurd owns

collects_as_owner : (shard : ℕ) (a b : SeenSide) (answer : Result (Unit {0}) Refusal) → OwnsShard shard a
    → SideCollects chunked a answer b → answer ≡ Ok tt
collects_as_owner shard (Shard o) (Shard n) answer owns h = h.0
collects_as_owner shard (Shard o) (Pass w) answer owns h = absurd h
collects_as_owner shard (Pass v) b answer owns h = absurd owns

owner_stays : (shard : ℕ) (a b : SeenSide) (answer : Result (Unit {0}) Refusal) → OwnsShard shard a
    → SideCollects chunked a answer b → IsPass b → ⊥
owner_stays shard (Shard o) (Shard n) answer owns h pass = pass
owner_stays shard (Shard o) (Pass w) answer owns h pass = h
owner_stays shard (Pass v) b answer owns h pass = owns

-- an owner's collect is not refused
owner_collects : (shard : ℕ) (a b : Option ChunkMember) (answer : Result (Unit {0}) Refusal) → OwnsThere shard a
    → MemberDoes (SideCollects chunked) a answer b → answer ≡ Ok tt
owner_collects shard (Some m) (Some n) answer owns h = collects_as_owner shard m.member n.member answer owns h.0
owner_collects shard (Some m) None answer owns h = absurd h
owner_collects shard None b answer owns h = absurd owns

collected_there : (a b : Option ChunkMember) (answer : Result (Unit {0}) Refusal)
    → MemberDoes (SideCollects chunked) a answer b → IsSome b
collected_there (Some m) (Some n) answer h = refl
collected_there (Some m) None answer h = absurd h
collected_there None b answer h = absurd h

-- what was collected is there, unless nobody was there
collected_here : (chunk shard : ℕ) (old mid : List (Option ChunkMember)) (answer : Result (Unit {0}) Refusal)
    → OwnsThere shard (get_or old chunk None) → CollectsInChunk chunk old answer mid
    → MemberDoes (SideCollects chunked) (get_or old chunk None) answer (get_or mid chunk None)
    × (answer ≡ Ok tt)
collected_here chunk shard old mid answer owns (inl h) =
    let there : get_or mid chunk None ≡ h.0 =
    ap (λ (xs : List (Option ChunkMember)). get_or xs chunk None) h.2
    ∙ set_here old chunk h.0 (owner_is_there shard (get_or old chunk None) owns) in (
      subst (λ (o : Option ChunkMember). MemberDoes (SideCollects chunked) (get_or old chunk None) answer o)
          (sym there) h.1,
      owner_collects shard (get_or old chunk None) h.0 answer owns h.1,
    )
collected_here chunk shard old mid answer owns (inr h) =
    absurd (subst (λ (o : Option ChunkMember). OwnsThere shard o) h.1 owns)

not_both : (answer : Result (Unit {0}) Refusal) → is_err answer ≡ true → answer ≡ Ok tt → ⊥
not_both (Ok x) err ok = cc
not_both (Err why) err ok = cc

-- a collect is refused only if the caller owns no shard there
pub collect_refused : (owned : Bool) (value : List ℕ) (chunk : ℕ) (old mid : List (Option ChunkMember))
    (answer : Result (Unit {0}) Refusal) → is_err answer ≡ true → CollectsInChunk chunk old answer mid
    → (shard : ℕ) → OwnsThere shard (get_or old chunk None) → RefusedIn owned value chunk shard old mid
collect_refused owned value chunk old mid answer err collects shard owns =
    absurd (not_both answer err (collected_here chunk shard old mid answer owns collects).1)

-- the owner of a shard in the chunk owns one
somewhere : (shard : ℕ) (a b : Option ChunkMember) (answer : Result (Unit {0}) Refusal) → OwnsThere shard a
    → MemberDoes (SideCollects chunked) a answer b → OwnsNone b → ⊥
somewhere shard (Some m) (Some n) answer owns h none = owner_stays shard m.member n.member answer owns h.0 none
somewhere shard (Some m) None answer owns h none = absurd h
somewhere shard None b answer owns h none = absurd owns

-- a collect, and then an insert that finds no room: the shard that the caller owns there is refused
collected_owned : (owned : Bool) (value : List ℕ) (chunk : ℕ) (old mid new : List (Option ChunkMember))
    (answer : Result (Unit {0}) Refusal) → CollectsInChunk chunk old answer mid
    → InsertRefused value chunk mid new → (owned ≡ false → OwnsNone (get_or mid chunk None)) → (shard : ℕ)
    → OwnsThere shard (get_or old chunk None) → RefusedIn owned value chunk shard old new
collected_owned true value chunk old mid new answer collects refused none shard owns =
    let here = collected_here chunk shard old mid answer owns collects in
    place_full value shard (get_or old chunk None) (get_or mid chunk None) (get_or new chunk None) answer refused.0
    refused.1 owns here.0
    (inserted_here value chunk mid new refused.0
    (collected_there (get_or old chunk None) (get_or mid chunk None) answer here.0) refused.2)
collected_owned false value chunk old mid new answer collects refused none shard owns =
    absurd (somewhere shard (get_or old chunk None) (get_or mid chunk None) answer owns
    (collected_here chunk shard old mid answer owns collects).0 (none refl))

pub collected_full : (value : List ℕ) (chunk : ℕ) (old mid new : List (Option ChunkMember))
    (answer : Result (Unit {0}) Refusal) (tried : Result Tried Refusal) → CollectsInChunk chunk old answer mid
    → OnRefused tried (λ owned. InsertRefused value chunk mid new)
    → OnRefused tried (λ owned. owned ≡ false → OwnsNone (get_or mid chunk None))
    → OnRefused tried (λ owned. (shard : ℕ) → OwnsThere shard (get_or old chunk None)
    → RefusedIn owned value chunk shard old new)
collected_full value chunk old mid new answer (Ok (Refused owned)) collects refused none =
    collected_owned owned value chunk old mid new answer collects refused none
collected_full value chunk old mid new answer (Ok (Stored key)) collects refused none = tt
collected_full value chunk old mid new answer (Err why) collects refused none = tt

-- ---- a move in one place

-- a member is there
pub place_is_met : (xs : List (Option ChunkMember)) (i : ℕ) (found : Option ChunkMember) → IsSome (get_or xs i None)
    → found ≡ get_or xs i found → IsSome found
place_is_met xs i found some is =
    subst (λ (o : Option ChunkMember). IsSome o) (sym (is ∙ inside xs i found None (met_within xs i some))) some

-- what is owned in the place is owned in the chunk
owns_in : (shard : ℕ) (xs : List (Option ChunkMember)) (i : ℕ) (place : Option ChunkMember) → IsSome (get_or xs i None)
    → OwnsThere shard place → OwnsThere shard (get_or (slice_set xs i place) i None)
owns_in shard xs i place some owns =
    subst (λ (o : Option ChunkMember). OwnsThere shard o) (sym (set_here xs i place some)) owns

-- what was refused in the place was refused in the chunk
move_refused : (shard : ℕ) (xs : List (Option ChunkMember)) (i : ℕ) (found place : Option ChunkMember) (why : Refusal)
    → IsSome (get_or xs i None) → found ≡ get_or xs i found → MoveRefused shard why found place
    → MoveRefused shard why (get_or xs i None) (get_or (slice_set xs i place) i None)
move_refused shard xs i found place why some is holds =
    let at : found ≡ get_or xs i None = is ∙ inside xs i found None (met_within xs i some) in
    subst (λ (o : Option ChunkMember). MoveRefused shard why (get_or xs i None) o) (sym (set_here xs i place some))
    (subst (λ (o : Option ChunkMember). MoveRefused shard why o place) at holds)

-- the same of any answer of a move
pub owns_after : (shard : ℕ) (xs : List (Option ChunkMember)) (i : ℕ) (place : Option ChunkMember)
    (answer : Result (Unit {0}) Refusal)
    → IsSome (get_or xs i None) → OnOk answer (OwnsThere shard place)
    → OnOk answer (OwnsThere shard (get_or (slice_set xs i place) i None))
owns_after shard xs i place (Ok x) some owns = owns_in shard xs i place some owns
owns_after shard xs i place (Err why) some owns = tt

pub refused_in : (shard : ℕ) (xs : List (Option ChunkMember)) (i : ℕ) (found place : Option ChunkMember)
    (answer : Result (Unit {0}) Refusal) → IsSome (get_or xs i None) → found ≡ get_or xs i found
    → IfErr answer (λ why. MoveRefused shard why found place)
    → IfErr answer (λ why. MoveRefused shard why (get_or xs i None) (get_or (slice_set xs i place) i None))
refused_in shard xs i found place (Ok x) some is holds = tt
refused_in shard xs i found place (Err why) some is holds = move_refused shard xs i found place why some is holds
