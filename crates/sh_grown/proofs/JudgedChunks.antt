-- A key that a caller's walk found has its place behind that from which the walk went on.
use Rattle.std.proofs.Common.{◌≡◌, ℕ, ◌+◌, ◌-◌, ◌*◌, ◌/◌, ◌%◌, ◌<◌, ◌≤◌, ◌⊎◌, inl, inr, Option, Some, None, arith, refl}
use Rattle.std.proofs.Common.{sym, subst, ◌∙◌}
use Rattle.std.specs.Prelude.{◌^◌, Result, Ok, length, min}
use Rattle.std.proofs.Math.Nat.{min-eq_left, min-le_left, min-le_right, div-add-mod}
use Rattle.sh_chunk.specs.Chunks.{chunked, chunk_of, key_within}
use Rattle.sh_value.specs.declared.refusal.Refusal.{Refusal}
use Rattle.sh_pass.specs.Passes.{Caller}
use Rattle.sh_member.specs.Removing.{walk_end}
use Rattle.sh_member.specs.Sides.{SideDoes}
use Rattle.sh_member.specs.declared.walking.NextLive.{NextLive}
use Rattle.sh_grown.specs.declared.chunk_member.ChunkMember.{ChunkMember}
use Rattle.sh_grown.specs.declared.caller.Caller.{Caller as SeenCaller}
use Rattle.sh_grown.specs.Callers.{ChunkDoes, MemberDoes}
use Rattle.sh_grown.specs.Removing.{CallerMeets}
use Rattle.sh_grown.specs.Walks.{LiveIn, LooksIn, chunks_up_to, place_in}
use Rattle.sh_grown.proofs.ChunkWalks.{side_gives}

-- what a member does in a chunk gives
member_gives : {A : Type 0} (does : Caller → Result A Refusal → Caller → Type 0) (P : Type 0) (a b : Option ChunkMember)
    (answer : Result A Refusal) → ((v w : Caller) → does v answer w → P) → MemberDoes (SideDoes chunked does) a answer b
    → P
member_gives does P (Some m) (Some n) answer gives h = side_gives does P m.member n.member answer gives h.0
member_gives does P (Some m) None answer gives h = absurd h
member_gives does P None b answer gives h = absurd h

-- the place is behind the first one, and before the end
abbrev pub IsAhead : (from behind : ℕ) → Type 0
IsAhead from behind = (from < behind) × (behind ≤ walk_end)

-- a place in no later chunk is at most the last of this one
place_below : (from chunk : ℕ) → chunk_of from ≤ chunk → from ≤ chunk * 2 ^ 56 + place_in from chunk
place_below from chunk low =
    let parts = div-add-mod from (2 ^ 56) in
    let rest : from % 2 ^ 56 < 2 ^ 56 = omega arith in
    let few : from - chunk * 2 ^ 56 ≤ 2 ^ 56 - 1 = omega (arith, low, parts, rest) in
    let is = min-eq_left few in
    omega (arith, is)

live_ahead : (from chunk : ℕ) (next : NextLive) (v w : Caller) → chunk_of from ≤ chunk → chunk < 256
    → LiveIn from walk_end chunk v (Ok (Some next)) w → IsAhead from next.behind
live_ahead from chunk next v w low few h =
    let m = h.2 in
    let at = h.1 in
    let is = m.behind_is in
    let after = m.from_there in
    let inside = m.inside in
    let last = min-le_right (walk_end - chunk * 2 ^ 56) (2 ^ 56 - 1) in
    let parts = div-add-mod next.behind (2 ^ 56) in
    let below = place_below from chunk low in
    (omega (arith, at, is, after, parts, below), omega (arith, at, is, inside, last, parts, few))

pub meets_ahead : (from : ℕ) (next : NextLive) (c d : SeenCaller) → CallerMeets from c (Some next) d
    → IsAhead from next.behind
meets_ahead from next c d h = by h.0.4 where
  chunk : ℕ
  chunk = chunk_of from + h.0.0

  few : chunk < 256
  few =
      let less = h.0.1 in
      let most = min-le_left (chunk_of walk_end + 1) (length c.growing.cells.items) in
      let all : chunk_of walk_end + 1 ≡ 256 = refl in
      omega (arith, less, most, all)

  by : LooksIn (LiveIn from walk_end) c.growing c.number chunk h.0.2 (Ok (Some next)) d.met.items
      → IsAhead from next.behind
  by (inl there) = member_gives (LiveIn from walk_end chunk) (IsAhead from next.behind) _ there.after (Ok (Some next))
      (λ v w live. live_ahead from chunk next v w (omega arith) few live) there.does_it
  by (inr none) = absurd none.0
