-- A walk over shards and chunks that finds no room: each shard was refused.
use Rattle.std.proofs.Common.{◌≡◌, ℕ, zero, suc, ◌+◌, ◌<◌, ◌≤◌, ◌⊎◌, Bool, true, false, ◌||◌, List, Option, Some, None}
use Rattle.std.proofs.Common.{refl, inl, inr, ⊎_elim, arith, below_more, get_or, length, subst, sym, ◌∙◌}
use Rattle.std.specs.Prelude.{Result, Ok, Err, IfErr, IfOk, IfSome, IsSome}
use Rattle.std.proofs.lemmas.Bool.{or_left, or_right}
use Rattle.sh_value.specs.declared.refusal.Refusal.{Refusal}
use Rattle.sh_value.specs.declared.refusal.Refusal.TheVariants as refusal
use Rattle.sh_member.specs.declared.member.Side.TheVariants.{Pass, Shard}
use Rattle.sh_member.specs.Sides.{SeenSide}
use Rattle.sh_grown.specs.declared.chunk_member.ChunkMember.{ChunkMember}
use Rattle.sh_grown.specs.declared.growing.Growing.{Growing}
use Rattle.sh_grown.specs.declared.tried.Tried.{Tried}
use Rattle.sh_grown.specs.declared.tried.Tried.TheVariants.{Stored, Refused}
use Rattle.sh_grown.specs.Callers.{WhyWithout}
use Rattle.sh_grown.specs.Inserts.{AllBelowRefused, AllRefused, HasMet, Inserts, LeavesNone, MoveRefused, OnRefused}
use Rattle.sh_grown.specs.Inserts.{OwnsNone, OwnsNowhere, TriesInsert, WantsChunk, tried_after, tried_by}
use Rattle.sh_grown.specs.Keeping.{KeepsMember, KeepsMembers}
use Rattle.sh_grown.specs.Refusals.{ChunkRefused, Did, LackedMemory, OwnedFull, OwnsFull, OwnsThere, RangeRefused}
use Rattle.sh_grown.specs.Refusals.{RefusedIn, RefusesShard, WasRefused}
use Rattle.sh_grown.proofs.Full.{tries_by}
use Rattle.sh_grown.proofs.Keeping.{did_then, keeps_then, kept_then_ends, owned_then, then_did, then_lacked, then_owned}
use Rattle.sh_grown.proofs.Keeping.{try_refused}
use Rattle.sh_grown.proofs.Refusals.{on_refused}

-- ---- over the chunks

-- what no shard was owned for may be said of a walk in which one was
wide : (a b : Bool) (value : List ℕ) (shard : ℕ) (m n : SeenSide) → (a ≡ true → b ≡ true)
    → RefusesShard a value shard m n → RefusesShard b value shard m n
wide a b value shard (Pass v) (Pass w) follows h = h
wide a b value shard (Pass v) (Shard n) follows h = h
wide a b value shard (Shard o) (Shard n) follows h = (follows h.0, h.1)
wide a b value shard (Shard o) (Pass w) follows h = h

pub in_wide : (a b : Bool) (value : List ℕ) (chunk shard : ℕ) (xs ys : List (Option ChunkMember))
    → (a ≡ true → b ≡ true) → RefusedIn a value chunk shard xs ys → RefusedIn b value chunk shard xs ys
in_wide a b value chunk shard xs ys follows r = record {
  before = r.before;
  after = r.after;
  begins = r.begins;
  step = wide a b value shard r.before.member r.after.member follows r.step;
  ends = r.ends;
}

chunk_wide : (a b : Bool) (value : List ℕ) (chunk : ℕ) (xs ys : List (Option ChunkMember)) → (a ≡ true → b ≡ true)
    → ChunkRefused a value chunk xs ys → ChunkRefused b value chunk xs ys
chunk_wide a b value chunk xs ys follows r = record {
  met = r.met;
  there = r.there;
  each = λ shard less. in_wide a b value chunk shard xs ys follows (r.each shard less);
}

pub in_then : (owned : Bool) (value : List ℕ) (chunk shard : ℕ) (xs ys zs : List (Option ChunkMember))
    → RefusedIn owned value chunk shard xs ys → KeepsMembers ys zs → RefusedIn owned value chunk shard xs zs
in_then owned value chunk shard xs ys zs r kept =
    did_then (RefusesShard owned value shard) (get_or xs chunk None) (get_or ys chunk None) (get_or zs chunk None) r
    (kept chunk)

pub then_in : (owned : Bool) (value : List ℕ) (chunk shard : ℕ) (xs ys zs : List (Option ChunkMember))
    → KeepsMembers xs ys → RefusedIn owned value chunk shard ys zs → RefusedIn owned value chunk shard xs zs
then_in owned value chunk shard xs ys zs kept r =
    then_did (RefusesShard owned value shard) (get_or xs chunk None) (get_or ys chunk None) (get_or zs chunk None)
    (kept chunk) r

kept_some : (m : ChunkMember) (b : Option ChunkMember) → KeepsMember (Some m) b → (n : ChunkMember) × (b ≡ Some n)
    × (n.shards ≡ m.shards)
kept_some m (Some n) kept = (n, refl, kept.1.2)
kept_some m None kept = absurd kept

-- a member that is kept is still there, in a chunk of as many shards
pub kept_met : (a b : Option ChunkMember) (m : ChunkMember) → a ≡ Some m → KeepsMember a b
    → (n : ChunkMember) × (b ≡ Some n) × (n.shards ≡ m.shards)
kept_met a b m is kept = kept_some m b (subst (λ (o : Option ChunkMember). KeepsMember o b) is kept)

some_met : (a : Option ChunkMember) → IsSome a → (m : ChunkMember) × (a ≡ Some m)
some_met (Some m) some = (m, refl)
some_met None some = absurd (cc)

still_met : (a b : Option ChunkMember) → KeepsMember a b → IsSome a → IsSome b
still_met (Some m) (Some n) kept some = refl
still_met (Some m) None kept some = absurd kept
still_met None b kept some = absurd (cc)

-- a chunk that was met stays met
pub has_met_then : (xs ys : List (Option ChunkMember)) (chunk : ℕ) → KeepsMembers xs ys → HasMet xs chunk
    → HasMet ys chunk
has_met_then xs ys chunk kept has = still_met (get_or xs chunk None) (get_or ys chunk None) (kept chunk) has

chunk_then : (owned : Bool) (value : List ℕ) (chunk : ℕ) (xs ys zs : List (Option ChunkMember))
    → ChunkRefused owned value chunk xs ys → KeepsMembers ys zs → ChunkRefused owned value chunk xs zs
chunk_then owned value chunk xs ys zs r kept =
    let n : (o : ChunkMember) × (get_or zs chunk None ≡ Some o) × (o.shards ≡ r.met.shards) =
    kept_met (get_or ys chunk None) (get_or zs chunk None) r.met r.there (kept chunk) in
    record {
      met = n.0;
      there = n.1;
      each = λ shard less.
          in_then owned value chunk shard xs ys zs (r.each shard (subst (λ (k : ℕ). shard < k) n.2 less)) kept;
    }

then_chunk : (owned : Bool) (value : List ℕ) (chunk : ℕ) (xs ys zs : List (Option ChunkMember)) → KeepsMembers xs ys
    → ChunkRefused owned value chunk ys zs → ChunkRefused owned value chunk xs zs
then_chunk owned value chunk xs ys zs kept r = record {
  met = r.met;
  there = r.there;
  each = λ shard less. then_in owned value chunk shard xs ys zs kept (r.each shard less);
}

-- ---- the loops

-- after a move the shard is owned, and an insert that finds no room there is its refusal
pub owner_refused : (value : List ℕ) (chunk shard : ℕ) (xs ys zs : List (Option ChunkMember))
    (answer : Result Tried Refusal) → KeepsMembers xs ys → OwnsThere shard (get_or ys chunk None)
    → OnRefused answer (λ owned. (shard : ℕ) → OwnsThere shard (get_or ys chunk None)
    → RefusedIn owned value chunk shard ys zs)
    → OnRefused answer (λ owned. RefusedIn owned value chunk shard xs zs)
owner_refused value chunk shard xs ys zs (Ok (Refused owned)) kept owns refused =
    then_in owned value chunk shard xs ys zs kept (refused shard owns)
owner_refused value chunk shard xs ys zs (Ok (Stored key)) kept owns refused = tt
owner_refused value chunk shard xs ys zs (Err why) kept owns refused = tt

-- a try in a shard whose move was refused
pub move_tries : (value : List ℕ) (chunk shard : ℕ) (xs ys : List (Option ChunkMember)) (why : Refusal)
    → KeepsMembers xs ys → MoveRefused shard why (get_or xs chunk None) (get_or ys chunk None)
    → TriesInsert value xs (tried_by why) ys
move_tries value chunk shard xs ys why kept refused =
    tries_by value xs ys why kept
    (on_refused (tried_by why)
    (λ owned. (value : List ℕ) → WasRefused owned value shard (get_or xs chunk None) (get_or ys chunk None)
    × (owned ≡ true → Did (OwnsFull value) (get_or xs chunk None) (get_or ys chunk None)))
    (λ owned. owned ≡ true → OwnedFull value xs ys) (λ owned r own. (chunk, (r value).1 own)) refused.0)
    (λ e. (chunk, refused.1 e value))

pub move_refused_in : (value : List ℕ) (chunk shard : ℕ) (xs ys : List (Option ChunkMember)) (why : Refusal)
    → MoveRefused shard why (get_or xs chunk None) (get_or ys chunk None)
    → OnRefused (tried_by why) (λ owned. RefusedIn owned value chunk shard xs ys)
move_refused_in value chunk shard xs ys why refused =
    on_refused (tried_by why)
    (λ owned. (value : List ℕ) → WasRefused owned value shard (get_or xs chunk None) (get_or ys chunk None)
    × (owned ≡ true → Did (OwnsFull value) (get_or xs chunk None) (get_or ys chunk None)))
    (λ owned. RefusedIn owned value chunk shard xs ys) (λ owned r. (r value).0) refused.0

-- no shard was tried yet
pub range_none : (owned : Bool) (value : List ℕ) (chunk from : ℕ) (xs : List (Option ChunkMember))
    → RangeRefused owned value chunk from from xs xs
range_none owned value chunk from xs = λ shard low less. absurd (omega (arith, low, less))

-- one shard more was refused
range_more : (a b : Bool) (value : List ℕ) (chunk from i : ℕ) (xs ys zs : List (Option ChunkMember))
    → RangeRefused a value chunk from i xs ys → KeepsMembers xs ys → KeepsMembers ys zs
    → RefusedIn b value chunk i ys zs → RangeRefused (a || b) value chunk from (i + 1) xs zs
range_more a b value chunk from i xs ys zs below before kept here =
    λ shard low less. below_more (λ (k : ℕ). from ≤ k → RefusedIn (a || b) value chunk k xs zs) i
    (λ k lt at. in_wide a (a || b) value chunk k xs zs (or_left a b)
    (in_then a value chunk k xs ys zs (below k at lt) kept))
    (λ at. in_wide b (a || b) value chunk i xs zs (or_right a b) (then_in b value chunk i xs ys zs before here)) shard
    less low

pub range_after : (owned : Bool) (value : List ℕ) (chunk from i : ℕ) (xs ys zs : List (Option ChunkMember))
    (answer : Result Tried Refusal) → RangeRefused owned value chunk from i xs ys → KeepsMembers xs ys
    → TriesInsert value ys answer zs → OnRefused answer (λ here. RefusedIn here value chunk i ys zs)
    → OnRefused (tried_after owned answer) (λ all. RangeRefused all value chunk from (i + 1) xs zs)
range_after owned value chunk from i xs ys zs (Ok (Refused here)) below before tries refused =
    range_more owned here value chunk from i xs ys zs below before tries.0 refused
range_after owned value chunk from i xs ys zs (Ok (Stored key)) below before tries refused = tt
range_after owned value chunk from i xs ys zs (Err why) below before tries refused = tt

-- those from the first one on were refused, and then those below it: so all were
from_or_below : (a b : ℕ) → (a ≤ b) ⊎ (b < a)
from_or_below zero b = inl (omega arith)
from_or_below (suc a) zero = inr (omega arith)
from_or_below (suc a) (suc b) =
    ⊎_elim (λ (low : a ≤ b). inl (omega (arith, low))) (λ (less : b < a). inr (omega (arith, less)))
    (from_or_below a b)

both_refused : (a b : Bool) (value : List ℕ) (chunk first shards : ℕ) (xs ys zs : List (Option ChunkMember))
    → HasMet xs chunk
    → IfSome (get_or xs chunk None) (λ m. shards ≡ m.shards) → KeepsMembers xs ys → KeepsMembers ys zs
    → RangeRefused a value chunk first shards xs ys → RangeRefused b value chunk 0 first ys zs
    → ChunkRefused (a || b) value chunk xs zs
both_refused a b value chunk first shards xs ys zs has count kept later behind before =
    let m : (o : ChunkMember) × (get_or xs chunk None ≡ Some o) = some_met (get_or xs chunk None) has in
    let l : (o : ChunkMember) × (get_or ys chunk None ≡ Some o) × (o.shards ≡ m.0.shards) =
    kept_met (get_or xs chunk None) (get_or ys chunk None) m.0 m.1 (kept chunk) in
    let n : (o : ChunkMember) × (get_or zs chunk None ≡ Some o) × (o.shards ≡ l.0.shards) =
    kept_met (get_or ys chunk None) (get_or zs chunk None) l.0 l.1 (later chunk) in
    let counted : shards ≡ m.0.shards =
    subst (λ (o : Option ChunkMember). IfSome o (λ (x : ChunkMember). shards ≡ x.shards)) m.1 count in
    let all : n.0.shards ≡ shards = n.2 ∙ (l.2 ∙ sym counted) in
    record {
      met = n.0;
      there = n.1;
      each = λ shard less.
          ⊎_elim
          (λ (low : first ≤ shard). in_wide a (a || b) value chunk shard xs zs (or_left a b)
          (in_then a value chunk shard xs ys zs (behind shard low (subst (λ (k : ℕ). shard < k) all less)) later))
          (λ (below : shard < first). in_wide b (a || b) value chunk shard xs zs (or_right a b)
          (then_in b value chunk shard xs ys zs kept (before shard (omega arith) below)))
          (from_or_below first shard);
    }

pub both_tried : (owned : Bool) (value : List ℕ) (chunk first shards : ℕ) (xs ys zs : List (Option ChunkMember))
    (answer : Result Tried Refusal) → HasMet xs chunk
    → IfSome (get_or xs chunk None) (λ m. shards ≡ m.shards) → KeepsMembers xs ys → TriesInsert value ys answer zs
    → RangeRefused owned value chunk first shards xs ys
    → OnRefused answer (λ here. RangeRefused here value chunk 0 first ys zs)
    → OnRefused (tried_after owned answer) (λ all. ChunkRefused all value chunk xs zs)
both_tried owned value chunk first shards xs ys zs (Ok (Refused here)) has count kept tries behind before =
    both_refused owned here value chunk first shards xs ys zs has count kept tries.0 behind before
both_tried owned value chunk first shards xs ys zs (Ok (Stored key)) has count kept tries behind before = tt
both_tried owned value chunk first shards xs ys zs (Err why) has count kept tries behind before = tt

-- one chunk more was refused, after it was met
chunks_more : (a b : Bool) (value : List ℕ) (n : ℕ) (xs ys met zs : List (Option ChunkMember))
    → AllRefused a n value xs ys → KeepsMembers xs ys → KeepsMembers ys met
    → KeepsMembers met zs → ChunkRefused b value n met zs → AllRefused (a || b) (n + 1) value xs zs
chunks_more a b value n xs ys met zs each before kept later here =
    below_more (λ (k : ℕ). ChunkRefused (a || b) value k xs zs) n
    (λ k less. chunk_wide a (a || b) value k xs zs (or_left a b)
    (chunk_then a value k xs ys zs (each k less) (keeps_then ys met zs kept later)))
    (chunk_wide b (a || b) value n xs zs (or_right a b)
    (then_chunk b value n xs met zs (keeps_then xs ys met before kept) here))

pub chunks_after : (owned : Bool) (value : List ℕ) (n : ℕ) (xs ys met zs : List (Option ChunkMember))
    (answer : Result Tried Refusal) → AllRefused owned n value xs ys → KeepsMembers xs ys → KeepsMembers ys met
    → TriesInsert value met answer zs → OnRefused answer (λ here. ChunkRefused here value n met zs)
    → OnRefused (tried_after owned answer) (λ all. AllRefused all (n + 1) value xs zs)
chunks_after owned value n xs ys met zs (Ok (Refused here)) each before kept tries refused =
    chunks_more owned here value n xs ys met zs each before kept tries.0 refused
chunks_after owned value n xs ys met zs (Ok (Stored key)) each before kept tries refused = tt
chunks_after owned value n xs ys met zs (Err why) each before kept tries refused = tt

-- what holds of all tries together holds of what they returned
pub returned : (P : Result Tried Refusal → Type 0) (answer : Result Tried Refusal) (tried : Tried) → Ok tried ≡ answer
    → P answer → P (Ok tried)
returned P answer tried ok holds = subst P (sym ok) holds

pub refused : (P : Result Tried Refusal → Type 0) (answer : Result Tried Refusal) (tried : Tried) (owned : Bool)
    → Ok tried ≡ answer → tried ≡ Refused owned → P answer → P (Ok (Refused owned))
refused P answer tried owned ok is holds = subst (λ t. P (Ok t)) is (returned P answer tried ok holds)

-- ---- what the caller owned before

nowhere_more : (n : ℕ) (xs ys : List (Option ChunkMember)) → OwnsNowhere n xs → LeavesNone xs ys
    → OwnsNone (get_or ys n None) → OwnsNowhere (n + 1) xs
nowhere_more n xs ys below left here = below_more (λ (k : ℕ). OwnsNone (get_or xs k None)) n below (left n here)

-- it owned none in one chunk more
pub nowhere_after : (owned : Bool) (n : ℕ) (xs ys : List (Option ChunkMember)) (answer : Result Tried Refusal)
    → (owned ≡ false → OwnsNowhere n xs) → LeavesNone xs ys
    → OnRefused answer (λ here. here ≡ false → OwnsNone (get_or ys n None))
    → OnRefused (tried_after owned answer) (λ all. all ≡ false → OwnsNowhere (n + 1) xs)
nowhere_after true n xs ys (Ok (Refused here)) below left none = λ e. absurd (cc)
nowhere_after false n xs ys (Ok (Refused here)) below left none = λ e. nowhere_more n xs ys (below refl) left (none e)
nowhere_after owned n xs ys (Ok (Stored key)) below left none = tt
nowhere_after owned n xs ys (Err why) below left none = tt

-- so it owned none in any chunk, if it has nobody in the others
pub nowhere_else : (n reach chunks : ℕ) (xs : List (Option ChunkMember)) → OwnsNowhere n xs → reach ≤ n
    → ((chunk : ℕ) → chunk < chunks → reach ≤ chunk → get_or xs chunk None ≡ None) → OwnsNowhere chunks xs
nowhere_else n reach chunks xs below past none =
    λ chunk less.
    ⊎_elim (λ (low : reach ≤ chunk). subst (λ (o : Option ChunkMember). OwnsNone o) (sym (none chunk less low)) tt)
    (λ (lt : chunk < reach). below chunk (omega (arith, past, lt))) (from_or_below reach chunk)

-- what is known if it owned none in a try before, or in this one
pub nowhere_before : (P : Type 0) (owned : Bool) (answer : Result Tried Refusal) → (owned ≡ false → P)
    → OnRefused (tried_after owned answer) (λ all. all ≡ false → P)
nowhere_before P true (Ok (Refused here)) none = λ e. absurd (cc)
nowhere_before P false (Ok (Refused here)) none = λ e. none refl
nowhere_before P owned (Ok (Stored key)) none = tt
nowhere_before P owned (Err why) none = tt

pub nowhere_here : (P Q : Type 0) (owned : Bool) (answer : Result Tried Refusal) → (P → Q)
    → OnRefused answer (λ here. here ≡ false → P) → OnRefused (tried_after owned answer) (λ all. all ≡ false → Q)
nowhere_here P Q true (Ok (Refused here)) follows none = λ e. absurd (cc)
nowhere_here P Q false (Ok (Refused here)) follows none = λ e. follows (none e)
nowhere_here P Q owned (Ok (Stored key)) follows none = tt
nowhere_here P Q owned (Err why) follows none = tt

-- ---- the whole insert

-- what an insert returns, by what its tries came to
abbrev pub Comes : (chunks : ℕ) → List ℕ → List (Option ChunkMember) → Result Tried Refusal
    → List (Option ChunkMember) → Type 0
Comes chunks value old (Ok (Stored key)) new = Inserts chunks value old (Ok key) new
Comes chunks value old (Ok (Refused true)) new = Inserts chunks value old (Err refusal.Full) new
Comes chunks value old (Ok (Refused false)) new = Inserts chunks value old (Err refusal.NoShard) new
Comes chunks value old (Err why) new = Inserts chunks value old (Err why) new

-- all were refused after others
comes_refused : (a b : Bool) (chunks : ℕ) (value : List ℕ) (xs ys zs : List (Option ChunkMember)) → KeepsMembers xs ys
    → (a ≡ true → OwnedFull value xs ys) → (a ≡ false → OwnsNowhere chunks xs) → KeepsMembers ys zs
    → (b ≡ true → OwnedFull value ys zs) → AllRefused b chunks value ys zs
    → Comes chunks value xs (Ok (Refused (a || b))) zs
comes_refused true b chunks value xs ys zs kept own none later here all = (
  keeps_then xs ys zs kept later,
  λ chunk less. then_chunk true value chunk xs ys zs kept
      (chunk_wide b true value chunk ys zs (λ e. refl) (all chunk less)),
  owned_then value xs ys zs (own refl) later,
)
comes_refused false true chunks value xs ys zs kept own none later here all = (
  keeps_then xs ys zs kept later,
  λ chunk less. then_chunk true value chunk xs ys zs kept (all chunk less),
  then_owned value xs ys zs kept (here refl),
)
comes_refused false false chunks value xs ys zs kept own none later here all = (
  keeps_then xs ys zs kept later,
  λ chunk less. then_chunk false value chunk xs ys zs kept (all chunk less),
  none refl,
)

then_wants : (chunks : ℕ) (value : List ℕ) (xs ys zs : List (Option ChunkMember)) → KeepsMembers xs ys
    → WantsChunk chunks value ys zs → WantsChunk chunks value xs zs
then_wants chunks value xs ys zs kept r = record {
  chunk = r.chunk;
  few = r.few;
  unmet = r.unmet;
  below = λ k less. then_chunk true value k xs ys zs kept (r.below k less);
}

comes_err : (chunks : ℕ) (value : List ℕ) (xs ys zs : List (Option ChunkMember)) (why : Refusal) → KeepsMembers xs ys
    → WhyWithout why → Inserts chunks value ys (Err why) zs → Inserts chunks value xs (Err why) zs
comes_err chunks value xs ys zs refusal.Memory kept is later = (
  keeps_then xs ys zs kept later.0,
  ⊎_elim (λ (l : LackedMemory value ys zs). inl (then_lacked value xs ys zs kept l))
      (λ (w : WantsChunk chunks value ys zs). inr (then_wants chunks value xs ys zs kept w)) later.1,
)
comes_err chunks value xs ys zs refusal.Taken kept is later =
    (keeps_then xs ys zs kept later.0, then_wants chunks value xs ys zs kept later.1)
comes_err chunks value xs ys zs _ kept is later = absurd is

pub comes_after : (owned : Bool) (g h : Growing) (value : List ℕ) (xs ys zs : List (Option ChunkMember))
    (answer : Result Tried Refusal) → h ≡ g → TriesInsert value xs (Ok (Refused owned)) ys
    → (owned ≡ false → OwnsNowhere (length g.cells.items) xs)
    → IfOk answer (λ tried. TriesInsert value ys (Ok tried) zs)
    → IfErr answer (λ why. WhyWithout why × Inserts (length h.cells.items) value ys (Err why) zs)
    → OnRefused answer (λ here. AllRefused here (length h.cells.items) value ys zs)
    → Comes (length g.cells.items) value xs (tried_after owned answer) zs
comes_after owned g h value xs ys zs (Ok (Stored key)) same before none tries err all =
    kept_then_ends value key xs ys zs before.0 tries
comes_after owned g h value xs ys zs (Ok (Refused here)) same before none tries err all =
    comes_refused owned here (length g.cells.items) value xs ys zs before.0 before.1 none tries.0 tries.1
    (subst (λ (k : Growing). AllRefused here (length k.cells.items) value ys zs) same all)
comes_after owned g h value xs ys zs (Err why) same before none tries err all =
    comes_err (length g.cells.items) value xs ys zs why before.0 err.0
    (subst (λ (k : Growing). Inserts (length k.cells.items) value ys (Err why) zs) same err.1)

-- a try that is refused ends the insert
pub err_comes : (chunks : ℕ) (value : List ℕ) (xs ys : List (Option ChunkMember)) (why : Refusal)
    → TriesInsert value xs (Err why) ys → Inserts chunks value xs (Err why) ys
err_comes chunks value xs ys why q =
    let r : (why ≡ refusal.Memory) × KeepsMembers xs ys × LackedMemory value xs ys = try_refused value xs ys why q in
    subst (λ (w : Refusal). Inserts chunks value xs (Err w) ys) (sym r.0) (r.1, inl r.2)

pub tried_without : (value : List ℕ) (xs ys : List (Option ChunkMember)) (why : Refusal)
    → TriesInsert value xs (Err why) ys → WhyWithout why
tried_without value xs ys why q =
    subst (λ (w : Refusal). WhyWithout w) (sym (try_refused value xs ys why q).0) tt

-- ---- the next chunk

-- what was refused in this call, as it is told where the next chunk is opened
pub all_below : (owned : Bool) (chunk : ℕ) (value : List ℕ) (xs ys : List (Option ChunkMember))
    → AllRefused owned chunk value xs ys → AllBelowRefused chunk ys
all_below owned chunk value xs ys each = record {
  before = xs;
  value = value;
  each = λ k less. chunk_wide owned true value k xs ys (λ e. refl) (each k less);
}

without : (chunks : ℕ) (value : List ℕ) (xs ys : List (Option ChunkMember)) (why : Refusal) → KeepsMembers xs ys
    → WantsChunk chunks value xs ys → WhyWithout why → Inserts chunks value xs (Err why) ys
without chunks value xs ys refusal.Memory kept wanted is = (kept, inr wanted)
without chunks value xs ys refusal.Taken kept wanted is = (kept, wanted)
without chunks value xs ys _ kept wanted is = absurd is

-- it could not be met
pub next_refused : (owned : Bool) (chunks chunk : ℕ) (value : List ℕ) (xs ys zs : List (Option ChunkMember))
    (why : Refusal) → KeepsMembers xs ys → AllRefused owned chunk value xs ys → chunk < chunks
    → get_or ys chunk None ≡ None → zs ≡ ys → WhyWithout why → Inserts chunks value xs (Err why) zs
next_refused owned chunks chunk value xs ys zs why kept each few unmet same is =
    let wanted : WantsChunk chunks value xs ys = record {
      chunk = chunk;
      few = few;
      unmet = unmet;
      below = λ k less. chunk_wide owned true value k xs ys (λ e. refl) (each k less);
    } in subst (λ (items : List (Option ChunkMember)). Inserts chunks value xs (Err why) items) (sym same)
    (without chunks value xs ys why kept wanted is)
