-- How many steps a call of a member takes at most, by the number of pages of its heap's shape.
use Rattle.std.proofs.Common.{◌≡◌, ◌≢◌, ℕ, zero, suc, ◌+◌, ◌-◌, ◌*◌, ◌≤◌, ◌⊎◌, List, [], ◌∷◌, Option, Some, None, length}
use Rattle.std.proofs.Common.{refl, inl, inr, ⊎_elim, ap, arith, get_or, subst, sym, ◌∙◌}
use Rattle.std.specs.Prelude.{◌==◌, if◌then◌else◌, IsSome, Result, Ok, Err, slice_set}
use Rattle.std.specs.Option.{ForSome}
use Rattle.std.proofs.lemmas.Bool.{cases_eq, eq-eqb}
use Rattle.std.proofs.lemmas.List.{get_or-set_other}
use Rattle.sh_shape.specs.Places.{pages_of}
use Rattle.sh_shape.specs.Shape.{Numbers, segment_pages}
use Rattle.sh_chunk.specs.Chunks.{chunked}
use Rattle.sh_value.specs.declared.refusal.Refusal.{Refusal}
use Rattle.sh_value.specs.declared.refusal.Refusal.TheVariants as refusal
use Rattle.sh_table.specs.Seats.{Heap}
use Rattle.sh_shard.specs.Bounds.{adopt_steps, insert_steps, leave_steps}
use Rattle.sh_shard.specs.RemoteFrees.{collect_steps}
use Rattle.sh_shard.specs.Shards.{HoldsShard, Sharded, StaysOwner}
use Rattle.sh_member.specs.SideBounds.{AdoptTakes, InsertTakes, LeaveTakes}
use Rattle.sh_shard.specs.Steps.{StepsAtMost}
use Rattle.sh_member.specs.declared.member.Side.TheVariants.{Pass, Shard}
use Rattle.sh_member.specs.Sides.{SeenSide, SideCollects, SideIsValid}
use Rattle.sh_grown.specs.declared.chunk_member.ChunkMember.{ChunkMember}
use Rattle.sh_grown.specs.declared.growing.Growing.{Growing}
use Rattle.sh_grown.specs.Callers.{IsNewcomer, MemberDoes, MemberTakes}
use Rattle.sh_grown.specs.ChunkShapes.{IsShaped}
use Rattle.sh_grown.specs.Growing.{shape_in}
use Rattle.sh_grown.specs.Inserts.{InsertsIn}
use Rattle.sh_grown.specs.Keeping.{KeepsMember}
use Rattle.sh_grown.specs.OfChunks.{AreOfChunks, IsOfChunk, heap_by, heap_of}
use Rattle.sh_grown.specs.Steps.{LeavesThere, RestsThere, SideTakes, StepsThere, Took, pages_in, steps_by, steps_of}
use Rattle.sh_grown.proofs.Stepping.{chosen_most, less_by, less_then, no_steps, none_least}

-- ---- the pages of a shard

-- as many as the heap's shape says, by what the owner holds
held_pages : (o : Sharded) → HoldsShard chunked o → o.pages.count ≡ pages_of o.pages.owner.heap.shape
held_pages o h = h.known.count ∙ ap pages_of h.shape

-- the same by what it holds after a call
owned_pages : (o n : Sharded) → StaysOwner chunked o n → n.pages.count ≡ o.pages.count
    → o.pages.count ≡ pages_of o.pages.owner.heap.shape
owned_pages o n stays count =
    sym count ∙ (held_pages n stays.holds ∙ ap (λ (h : Heap). pages_of h.shape) stays.remains.heap)

-- an insert, whatever it returns, keeps the number
insert_count : (value : List ℕ) (o n : Sharded) (answer : Result ℕ Refusal)
    → InsertsIn value (Shard o) answer (Shard n) → n.pages.count ≡ o.pages.count
insert_count value o n (Ok key) h = h.0.0.count
insert_count value o n (Err refusal.Full) h = h.0.left.through.count
insert_count value o n (Err refusal.Memory) h = h.0.0.count
insert_count value o n (Err refusal.BadKey) h = absurd h.0
insert_count value o n (Err refusal.Gone) h = absurd h.0
insert_count value o n (Err refusal.Crowded) h = absurd h.0
insert_count value o n (Err refusal.HoldsFull) h = absurd h.0
insert_count value o n (Err refusal.NotHeld) h = absurd h.0
insert_count value o n (Err refusal.TooLong) h = absurd h.0
insert_count value o n (Err refusal.Taken) h = absurd h.0
insert_count value o n (Err refusal.NoShard) h = absurd h.0
insert_count value o n (Err refusal.Waiting) h = absurd h.0
insert_count value o n (Err refusal.BadShape) h = absurd h.0
insert_count value o n (Err refusal.WrongKind) h = absurd h.0

insert_stays : (value : List ℕ) (o n : Sharded) (answer : Result ℕ Refusal)
    → InsertsIn value (Shard o) answer (Shard n) → StaysOwner chunked o n
insert_stays value o n (Ok key) h = h.1
insert_stays value o n (Err why) h = h.1

-- ---- of a member

more_none : (a b k : ℕ) → b ≡ a → b ≤ a + k
more_none a b k same = omega arith

as_it_was : (most : ℕ → ℕ) (a b : SeenSide) → b ≡ a → SideTakes most a b
as_it_was most a b same = more_none (steps_by a) (steps_by b) (most (pages_in (heap_by a))) (ap steps_by same)

side_inserts : (value : List ℕ) (a b : SeenSide) (answer : Result ℕ Refusal) → InsertsIn value a answer b
    → InsertTakes (length value) a b → SideTakes (λ pages. insert_steps pages (length value)) a b
side_inserts value (Pass v) b answer h takes =
    as_it_was (λ pages. insert_steps pages (length value)) (Pass v) b takes
side_inserts value (Shard o) (Shard n) answer h takes =
    subst (λ (k : ℕ). StepsAtMost (insert_steps k (length value)) o.pages.owner n.pages.owner)
    (owned_pages o n (insert_stays value o n answer h) (insert_count value o n answer h)) takes
side_inserts value (Shard o) (Pass w) answer h takes = absurd takes

side_collects : (a b : SeenSide) (answer : Result (Unit {0}) Refusal) → SideCollects chunked a answer b
    → SideTakes collect_steps a b
side_collects (Pass v) b answer h = as_it_was collect_steps (Pass v) b h.1
side_collects (Shard o) (Shard n) answer h =
    subst (λ (k : ℕ). StepsAtMost (collect_steps k) o.pages.owner n.pages.owner)
    (owned_pages o n h.2 h.1.collects.through.count) h.1.steps
side_collects (Shard o) (Pass w) answer h = absurd h

side_leaves : (a b : SeenSide) → SideIsValid chunked a → LeaveTakes a b
    → SideTakes leave_steps a b
side_leaves (Pass v) b rests takes = as_it_was leave_steps (Pass v) b takes
side_leaves (Shard o) (Pass w) rests takes =
    subst (λ (k : ℕ). StepsAtMost (leave_steps k) o.pages.owner w) (held_pages o rests) takes
side_leaves (Shard o) (Shard n) rests takes =
    subst (λ (k : ℕ). StepsAtMost (leave_steps k) o.pages.owner n.pages.owner) (held_pages o rests) takes

side_adopts_in : (a b : SeenSide) → SideIsValid chunked a → AdoptTakes a b
    → SideTakes adopt_steps a b
side_adopts_in (Pass v) (Shard n) rests takes =
    subst (λ (s : Numbers). StepsAtMost (adopt_steps (pages_of s)) v n.pages.owner) rests.0.shape takes
side_adopts_in (Pass v) (Pass w) rests takes =
    subst (λ (s : Numbers). StepsAtMost (adopt_steps (pages_of s)) v w) rests.0.shape takes
side_adopts_in (Shard o) b rests takes = as_it_was adopt_steps (Shard o) b takes

-- ---- of what a caller has in a chunk

insert_weighs : (a b i c m : ℕ) → b ≤ a + i → b ≤ a + (1 * i + 0 * c + 0 * m)
insert_weighs a b i c m few = omega arith

collect_weighs : (a b i c m : ℕ) → b ≤ a + c → b ≤ a + (0 * i + 1 * c + 0 * m)
collect_weighs a b i c m few = omega arith

-- a leave, and an adoption that may not come to be
move_weighs : (a b d i c l m : ℕ) → b ≤ a + l → d ≤ b + m → d ≤ a + (0 * i + 0 * c + 1 * (l + m))
move_weighs a b d i c l m few more = omega arith

-- an insert
pub insert_took : (value : List ℕ) (a b : Option ChunkMember) (answer : Result ℕ Refusal)
    → MemberDoes (InsertsIn value) a answer b
    → MemberTakes (InsertTakes (length value)) a b → MemberTakes (SideTakes (steps_of 1 0 0 (length value))) a b
insert_took value (Some m) (Some n) answer does takes =
    let pages = pages_in (heap_by m.member) in
    insert_weighs (steps_by m.member) (steps_by n.member) (insert_steps pages (length value)) (collect_steps pages)
    (leave_steps pages + adopt_steps pages) (side_inserts value m.member n.member answer does.0 takes)
insert_took value (Some m) None answer does takes = absurd does
insert_took value None b answer does takes = absurd does

-- a collect
pub collect_took : (a b : Option ChunkMember) (answer : Result (Unit {0}) Refusal)
    → MemberDoes (SideCollects chunked) a answer b → MemberTakes (SideTakes (steps_of 0 1 0 0)) a b
collect_took (Some m) (Some n) answer does =
    let pages = pages_in (heap_by m.member) in
    collect_weighs (steps_by m.member) (steps_by n.member) (insert_steps pages 0) (collect_steps pages)
    (leave_steps pages + adopt_steps pages) (side_collects m.member n.member answer does.0)
collect_took (Some m) None answer does = absurd does
collect_took None b answer does = absurd does

left_by : (a b : SeenSide) → SideIsValid chunked a → (b ≡ a) ⊎ LeaveTakes a b → SideTakes leave_steps a b
left_by a b rests (inl same) = as_it_was leave_steps a b same
left_by a b rests (inr takes) = side_leaves a b rests takes

-- a move that ends with the leave
pub left_took : (a b : Option ChunkMember) → IsSome a → RestsThere a → LeavesThere a b
    → MemberTakes (SideTakes (steps_of 0 0 1 0)) a b
left_took (Some m) (Some n) some rests leaves =
    let pages = pages_in (heap_by m.member) in
    let b = steps_by n.member in
    move_weighs (steps_by m.member) b b (insert_steps pages 0) (collect_steps pages) (leave_steps pages)
    (adopt_steps pages) (left_by m.member n.member rests leaves) (more_none b b (adopt_steps pages) refl)
left_took (Some m) None some rests leaves = absurd leaves
left_took None b some rests leaves = absurd (cc)

-- a leave and an adoption
pub move_took : (a b c : Option ChunkMember) → RestsThere a → LeavesThere a b → KeepsMember a b → RestsThere b
    → MemberTakes AdoptTakes b c → MemberTakes (SideTakes (steps_of 0 0 1 0)) a c
move_took (Some m) (Some n) (Some o) rests leaves kept rests_then takes =
    let pages = pages_in (heap_by m.member) in
    let adopted : steps_by o.member ≤ steps_by n.member + adopt_steps pages =
    subst (λ (h : Option Heap). steps_by o.member ≤ steps_by n.member + adopt_steps (pages_in h)) (ap heap_of kept.0)
    (side_adopts_in n.member o.member rests_then takes) in
    move_weighs (steps_by m.member) (steps_by n.member) (steps_by o.member) (insert_steps pages 0)
    (collect_steps pages) (leave_steps pages) (adopt_steps pages) (left_by m.member n.member rests leaves) adopted
move_took (Some m) (Some n) None rests leaves kept rests_then takes = absurd takes
move_took (Some m) None c rests leaves kept rests_then takes = absurd leaves
move_took None (Some n) c rests leaves kept rests_then takes = absurd (cc)
move_took None None c rests leaves kept rests_then takes = absurd takes

-- ---- in the list of what a caller has

-- a heap that has the shape of a chunk has as many pages
shaped_pages : (growing : Growing) (chunk : ℕ) (known : Option Heap) → IsSome known
    → ForSome known (λ h. IsShaped h.shape (shape_in growing chunk))
    → pages_in known ≡ pages_of (shape_in growing chunk)
shaped_pages growing chunk (Some h) some shape =
    let is : IsShaped h.shape (shape_in growing chunk) = shape h refl in ap (λ (k : ℕ). segment_pages * k) is.segments
shaped_pages growing chunk None some shape = absurd (cc)

chunk_pages : (growing : Growing) (chunk : ℕ) (m : ChunkMember) → IsOfChunk growing chunk m
    → pages_in (heap_by m.member) ≡ pages_of (shape_in growing chunk)
chunk_pages growing chunk m is =
    ap pages_in (sym is.heap) ∙ shaped_pages growing chunk m.note.known is.known is.shape

-- the member did it that the caller has in this chunk
steps_here : (new : ChunkMember → Type 0) (growing : Growing) (chunk : ℕ) (most : ℕ → ℕ) (a b : Option ChunkMember)
    → ForSome a (λ m. IsOfChunk growing chunk m) → MemberTakes (SideTakes most) a b
    → (steps : ℕ) × StepsThere new steps a b × (steps ≤ most (pages_of (shape_in growing chunk)))
steps_here new growing chunk most (Some m) (Some n) of p = (
  steps_by n.member - steps_by m.member,
  refl,
  less_by (steps_by m.member) (steps_by n.member) (most (pages_of (shape_in growing chunk)))
      (subst (λ (k : ℕ). steps_by n.member ≤ steps_by m.member + most k) (chunk_pages growing chunk m (of m refl)) p),
)
steps_here new growing chunk most (Some m) None of p = absurd p
steps_here new growing chunk most None b of p = absurd p

here_set : (new : ChunkMember → Type 0) (growing : Growing) (chunk : ℕ) (most : ℕ → ℕ)
    (xs : List (Option ChunkMember)) (i : ℕ) (found place : Option ChunkMember)
    → ForSome (get_or xs i None) (λ m. IsOfChunk growing chunk m) → found ≡ get_or xs i found
    → MemberTakes (SideTakes most) found place
    → (steps : ℕ) × StepsThere new steps (get_or xs i None) (get_or (slice_set xs i place) i None)
    × (steps ≤ most (pages_of (shape_in growing chunk)))
here_set new growing chunk most [] i found place of is p =
    (0, refl, none_least (most (pages_of (shape_in growing chunk))))
here_set new growing chunk most (x ∷ xs) zero found place of is p =
    steps_here new growing chunk most x place of
    (subst (λ (o : Option ChunkMember). MemberTakes (SideTakes most) o place) is p)
here_set new growing chunk most (x ∷ xs) (suc i) found place of is p =
    here_set new growing chunk most xs i found place of is p

others_set : (new : ChunkMember → Type 0) (xs : List (Option ChunkMember)) (i other : ℕ) (place : Option ChunkMember)
    → other ≢ i → StepsThere new 0 (get_or xs other None) (get_or (slice_set xs i place) other None)
others_set new xs i other place apart =
    subst (λ (o : Option ChunkMember). StepsThere new 0 (get_or xs other None) o)
    (sym (get_or-set_other xs i other place None apart)) (no_steps new (get_or xs other None))

-- the member that was found at a place did it
pub one_set : (growing : Growing) (number : ℕ) (most : ℕ → ℕ) (xs : List (Option ChunkMember)) (i : ℕ)
    (found place : Option ChunkMember) → AreOfChunks growing xs → found ≡ get_or xs i found
    → MemberTakes (SideTakes most) found place
    → Took growing number (λ other. other == i) (λ shards. most) xs (slice_set xs i place)
one_set growing number most xs i found place of is p =
    λ other.
    let bound = most (pages_of (shape_in growing other)) in
    ⊎_elim
    (λ (e : other ≡ i).
    let same : found ≡ get_or xs other found = subst (λ (k : ℕ). found ≡ get_or xs k found) (sym e) is in
    let took = here_set (IsNewcomer growing number other) growing other most xs other found place (of other) same p in (
      took.0,
      subst (λ (k : ℕ). StepsThere (IsNewcomer growing number other) took.0 (get_or xs other None)
          (get_or (slice_set xs k place) other None)) e took.1,
      less_then took.0 bound (if other == i then bound else 0) took.2
          (chosen_most (other == i) bound (eq-eqb other i e)),
    ))
    (λ (ne : other ≢ i). (
      0,
      others_set (IsNewcomer growing number other) xs i other place ne,
      none_least (if other == i then bound else 0),
    ))
    (cases_eq other i)
