-- What a refused adoption and a refused leave say.
use Rattle.std.proofs.Common.{◌≡◌, ℕ, Bool, true, List, Option, Some, None, refl, inl, inr, subst, sym}
use Rattle.std.specs.Prelude.{Result, Ok, Err, IfErr, OnOk}
use Rattle.sh_value.specs.declared.refusal.Refusal.{Refusal}
use Rattle.sh_value.specs.declared.refusal.Refusal.TheVariants as refusal
use Rattle.sh_member.specs.declared.member.Side.TheVariants.{Pass, Shard}
use Rattle.sh_member.specs.Sides.{SeenSide, SideAdopts, IsPass}
use Rattle.sh_grown.specs.declared.chunk_member.ChunkMember.{ChunkMember}
use Rattle.sh_grown.specs.Callers.{MemberDoes}
use Rattle.sh_grown.specs.declared.tried.Tried.{Tried}
use Rattle.sh_grown.specs.declared.tried.Tried.TheVariants.{Stored, Refused}
use Rattle.sh_grown.specs.Inserts.{MoveRefused, OnRefused, OwnsNone, tried_by}
use Rattle.sh_grown.specs.Keeping.{KeepsMember}
use Rattle.sh_grown.specs.Refusals.{Did, LacksMemory, OwnsFull, OwnsShard, RefusesShard, Waits, WaitsThere}
use Rattle.sh_grown.specs.Refusals.{WasRefused}
use Rattle.sh_grown.proofs.Keeping.{then_did}

-- what holds of a refused try, and what follows from it
pub on_refused : (answer : Result Tried Refusal) (P Q : Bool → Type 0) → ((owned : Bool) → P owned → Q owned)
    → OnRefused answer P → OnRefused answer Q
on_refused (Ok (Refused owned)) P Q follows holds = follows owned holds
on_refused (Ok (Stored key)) P Q follows holds = tt
on_refused (Err why) P Q follows holds = tt

-- ---- of a member

-- an adopted shard is owned
pub side_owns : (shard : ℕ) (a b : SeenSide) (answer : Result (Unit {0}) Refusal) → IsPass a
    → SideAdopts shard a answer b → OnOk answer (OwnsShard shard b)
side_owns shard (Pass v) (Shard n) (Ok x) pass h = h.1.shard
side_owns shard (Pass v) (Pass w) (Ok x) pass h = absurd h
side_owns shard (Pass v) b (Err why) pass h = tt
side_owns shard (Shard o) b answer pass h = absurd pass

-- a move to a shard of a member is refused for want of memory, or the shard is refused to each value
abbrev SideRefused : (shard : ℕ) → Refusal → SeenSide → SeenSide → Type 0
SideRefused shard why a b =
    OnRefused (tried_by why) (λ owned. (value : List ℕ)
    → RefusesShard owned value shard a b × (owned ≡ true → OwnsFull value a b))
    × (why ≡ refusal.Memory → (value : List ℕ) → LacksMemory value a b)

-- so is an adoption
side_adopts : (shard : ℕ) (a b : SeenSide) (why : Refusal) → IsPass a → SideAdopts shard a (Err why) b
    → SideRefused shard why a b
side_adopts shard (Pass v) (Pass w) refusal.Memory pass h = (tt, λ e value. (shard, h))
side_adopts shard (Pass v) (Pass w) refusal.Taken pass h =
    (λ value. (inl h, λ owned. absurd (cc)), λ e. absurd (cc))
side_adopts shard (Pass v) (Pass w) refusal.NoShard pass h =
    (λ value. (inr h, λ owned. absurd (cc)), λ e. absurd (cc))
side_adopts shard (Pass v) (Pass w) refusal.BadKey pass h = absurd h
side_adopts shard (Pass v) (Pass w) refusal.Gone pass h = absurd h
side_adopts shard (Pass v) (Pass w) refusal.Crowded pass h = absurd h
side_adopts shard (Pass v) (Pass w) refusal.HoldsFull pass h = absurd h
side_adopts shard (Pass v) (Pass w) refusal.NotHeld pass h = absurd h
side_adopts shard (Pass v) (Pass w) refusal.TooLong pass h = absurd h
side_adopts shard (Pass v) (Pass w) refusal.Full pass h = absurd h
side_adopts shard (Pass v) (Pass w) refusal.Waiting pass h = absurd h
side_adopts shard (Pass v) (Pass w) refusal.BadShape pass h = absurd h
side_adopts shard (Pass v) (Pass w) refusal.WrongKind pass h = absurd h
side_adopts shard (Pass v) (Shard n) why pass h = absurd h
side_adopts shard (Shard o) b why pass h = absurd pass

-- a member that has to wait refuses each shard
side_waits : (shard : ℕ) (a b : SeenSide) → Waits a b → SideRefused shard refusal.Waiting a b
side_waits shard (Shard o) (Shard n) waits = (λ value. ((refl, inr waits), λ owned. inr waits), λ e. absurd (cc))
side_waits shard (Shard o) (Pass w) waits = absurd waits
side_waits shard (Pass v) b waits = absurd waits

-- ---- of what a caller has in a chunk

pub did_now : (does : SeenSide → SeenSide → Type 0) (m n : ChunkMember) → does m.member n.member
    → Did does (Some m) (Some n)
did_now does m n step = record {
  before = m;
  after = n;
  begins = (refl, (refl, refl, refl));
  step = step;
  ends = (refl, (refl, refl, refl));
}

-- what is refused to the member now, behind what was kept before
member_refused : (shard : ℕ) (a : Option ChunkMember) (m n : ChunkMember) (why : Refusal) → KeepsMember a (Some m)
    → SideRefused shard why m.member n.member → MoveRefused shard why a (Some n)
member_refused shard a m n why kept refused = (
  on_refused (tried_by why)
      (λ owned. (value : List ℕ)
      → RefusesShard owned value shard m.member n.member × (owned ≡ true → OwnsFull value m.member n.member))
      (λ owned. (value : List ℕ)
      → WasRefused owned value shard a (Some n) × (owned ≡ true → Did (OwnsFull value) a (Some n)))
      (λ owned r value. (
        then_did (RefusesShard owned value shard) a (Some m) (Some n) kept
            (did_now (RefusesShard owned value shard) m n (r value).0),
        λ own. then_did (OwnsFull value) a (Some m) (Some n) kept (did_now (OwnsFull value) m n ((r value).1 own)),
      )) refused.0,
  λ e value. then_did (LacksMemory value) a (Some m) (Some n) kept
      (did_now (LacksMemory value) m n (refused.1 e value)),
)

place_waits : (shard : ℕ) (a b : Option ChunkMember) → WaitsThere a b → MoveRefused shard refusal.Waiting a b
place_waits shard (Some m) (Some n) waits =
    member_refused shard (Some m) m n refusal.Waiting (refl, (refl, refl, refl))
    (side_waits shard m.member n.member waits)
place_waits shard (Some m) None waits = absurd waits
place_waits shard None b waits = absurd waits

-- a caller that has to wait is refused each shard
pub place_stuck : (shard : ℕ) (a b : Option ChunkMember) (answer : Result (Unit {0}) Refusal) → WaitsThere a b
    → IfErr answer (λ why. why ≡ refusal.Waiting) → IfErr answer (λ why. MoveRefused shard why a b)
place_stuck shard a b (Ok x) waits is = tt
place_stuck shard a b (Err why) waits is =
    subst (λ (w : Refusal). MoveRefused shard w a b) (sym is) (place_waits shard a b waits)

place_refused : (shard : ℕ) (a b c : Option ChunkMember) (why : Refusal) → KeepsMember a b → OwnsNone b
    → MemberDoes (SideAdopts shard) b (Err why) c → MoveRefused shard why a c
place_refused shard a (Some m) (Some n) why kept none does =
    member_refused shard a m n why kept (side_adopts shard m.member n.member why none does.0)
place_refused shard a (Some m) None why kept none does = absurd does
place_refused shard a None c why kept none does = absurd does

-- the same of any answer of an adoption
pub place_adopts : (shard : ℕ) (a b c : Option ChunkMember) (answer : Result (Unit {0}) Refusal) → KeepsMember a b
    → OwnsNone b
    → MemberDoes (SideAdopts shard) b answer c → IfErr answer (λ why. MoveRefused shard why a c)
place_adopts shard a b c (Ok x) kept none does = tt
place_adopts shard a b c (Err why) kept none does = place_refused shard a b c why kept none does
