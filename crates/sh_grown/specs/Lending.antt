-- A caller can read what it got, and release it: its pass in the key's chunk has the hold. (It is the law of a store
-- without a book, so the proof is here.)
use Rattle.std.proofs.Common.{◌≡◌, ℕ, zero, suc, ◌<◌, [], ◌∷◌, List, Option, Some, None, true, false, ap, arith}
use Rattle.std.proofs.Common.{get_or, inl, inr, length, refl, sym, ◌∙◌, subst}
use Rattle.std.specs.Prelude.{◌==◌, Result, Ok, Err}
use Rattle.std.proofs.lemmas.List.{get_or-set_same}
use Rattle.sh_chunk.specs.Chunks.{chunked, chunk_of, key_within}
use Rattle.sh_plain.specs.Store.{Lends}
use Rattle.sh_step.specs.Collections.{has}
use Rattle.sh_value.specs.declared.hold.Hold.{Hold}
use Rattle.sh_value.specs.declared.refusal.Refusal.{Refusal}
use Rattle.sh_value.specs.declared.refusal.Refusal.TheVariants.{NotHeld, Memory, WrongKind}
use Rattle.sh_pass.specs.Passes.{Caller as Pass, ReadDoes, ReleaseDoes, holds}
use Rattle.sh_pass.specs.Fetching.{FetchDoes}
use Rattle.sh_pass.proofs.FirstHold.{has_first}
use Rattle.sh_member.specs.Sides.{SideDoes, caller_by}
use Rattle.sh_member.proofs.CallersOf.{caller_did}
use Rattle.sh_grown.specs.declared.growing.Growing.{Growing}
use Rattle.sh_grown.specs.declared.chunk_member.ChunkMember.{ChunkMember}
use Rattle.sh_grown.specs.declared.caller.Caller.{Caller}
use Rattle.sh_grown.specs.Callers.{ChunkDoes, GetsIn, GrownDoes, Meets, MemberDoes, WhyUnmet}
use Rattle.sh_grown.specs.Stores.{CallerGets, CallerLooks, CallerReads, CallerReleases}

-- ---- the pass of a member

-- after the call the caller has a member in the chunk, whose pass did it from there
record PassDid {A : Type 0} (does : Pass → Result A Refusal → Pass → Type 0) (chunk : ℕ) (answer : Result A Refusal)
    (new : List (Option ChunkMember)) (v : Pass) : Type 0 where
  member : ChunkMember
  there : get_or new chunk None ≡ Some member
  did : does v answer (caller_by member.member)

-- a member is inside the list
within : (xs : List (Option ChunkMember)) (i : ℕ) (m : ChunkMember) → get_or xs i None ≡ Some m → i < length xs
within [] i m is = absurd (let n : ⊥ = cc in n)
within (x ∷ xs) zero m is = omega arith
within (x ∷ xs) (suc i) m is = let less : i < length xs = within xs i m is in omega arith

stays_met : (growing : Growing) (number chunk : ℕ) (old met : List (Option ChunkMember)) (m : ChunkMember)
    → Meets growing number chunk old met → get_or old chunk None ≡ Some m → get_or met chunk None ≡ Some m
stays_met growing number chunk old met m (inl h) there = ap (λ xs. get_or xs chunk None) h.1 ∙ there
stays_met growing number chunk old met m (inr h) there =
    absurd (let e : None ≡ Some m = sym h.0 ∙ there in let n : ⊥ = cc in n)

module _ {A : Type 0} (does : Pass → Result A Refusal → Pass → Type 0) (chunk : ℕ) (answer : Result A Refusal)
    (new : List (Option ChunkMember)) where
  place_did : (a b : Option ChunkMember) → MemberDoes (SideDoes chunked does) a answer b
      → ((m : ChunkMember) → a ≡ Some m → get_or new chunk None ≡ b)
      → (m : ChunkMember) × (a ≡ Some m) × PassDid does chunk answer new (caller_by m.member)
  place_did (Some m) (Some n) h at = (
    m,
    refl,
    record { member = n; there = at m refl; did = caller_did chunked does answer m.member n.member h.0 },
  )
  place_did (Some m) None h at = absurd h
  place_did None b h at = absurd h

  chunk_did : (growing : Growing) (number : ℕ) (old : List (Option ChunkMember))
      → (h : ChunkDoes (SideDoes chunked does) growing number chunk old answer new)
      → (m : ChunkMember) × (get_or h.met chunk None ≡ Some m) × PassDid does chunk answer new (caller_by m.member)
  chunk_did growing number old h =
      place_did (get_or h.met chunk None) h.after h.does_it
      (λ m is. ap (λ xs. get_or xs chunk None) h.others
      ∙ get_or-set_same h.met chunk h.after None (within h.met chunk m is))

  -- the member that the caller had there did it
  next_did : (growing : Growing) (number : ℕ) (old : List (Option ChunkMember)) (m : ChunkMember)
      → get_or old chunk None ≡ Some m → GrownDoes (SideDoes chunked does) growing number chunk old answer new
      → PassDid does chunk answer new (caller_by m.member)
  next_did growing number old m there (inl h) =
      let (n, is, did) = chunk_did growing number old h in
      let both : Some n ≡ Some m = sym is ∙ stays_met growing number chunk old h.met m h.meets there in
      let same : n ≡ m = cc in
      subst (λ (k : ChunkMember). PassDid does chunk answer new (caller_by k.member)) same did
  next_did growing number old m there (inr h) =
      absurd (let e : None ≡ Some m = sym h.1 ∙ there in let n : ⊥ = cc in n)

-- some member did what was not refused
first_did : {A : Type 0} (does : Pass → Result A Refusal → Pass → Type 0) (chunk : ℕ) (x : A)
    (old new : List (Option ChunkMember)) (growing : Growing) (number : ℕ)
    → GrownDoes (SideDoes chunked does) growing number chunk old (Ok x) new
    → (v : Pass) × PassDid does chunk (Ok x) new v
first_did does chunk x old new growing number (inl h) =
    let (m, is, did) = chunk_did does chunk (Ok x) new growing number old h in (caller_by m.member, did)
first_did does chunk x old new growing number (inr h) = absurd h.0

-- ---- refusals that never come

-- a refusal that no pass has, and no chunk that cannot be met
never : {A : Type 0} (does : Pass → Result A Refusal → Pass → Type 0) (chunk : ℕ) (why : Refusal)
    (old new : List (Option ChunkMember)) (growing : Growing) (number : ℕ)
    → ((v w : Pass) → does v (Err why) w → ⊥) → (WhyUnmet why → ⊥)
    → GrownDoes (SideDoes chunked does) growing number chunk old (Err why) new → ⊥
never does chunk why old new growing number none met (inl h) =
    let (m, is, did) = chunk_did does chunk (Err why) new growing number old h in
    none (caller_by m.member) (caller_by did.member.member) did.did
never does chunk why old new growing number none met (inr h) = met h.0

fetch_kind : (k : ℕ) (v w : Pass) → FetchDoes chunked k v (Err WrongKind) w → ⊥
fetch_kind k v w (inl h) = h
fetch_kind k v w (inr (early, look, unheard, got)) = got

-- the key is among the holds
not_held : (k : ℕ) (hs ks : List ℕ) → hs ≡ k ∷ ks → has (λ j. j == k) hs ≡ false → ⊥
not_held k hs ks is none =
    let e : true ≡ false = sym (has_first k ks) ∙ (ap (λ (l : List ℕ). has (λ j. j == k) l) (sym is) ∙ none) in
    let n : ⊥ = cc in n

got_is_read : (key : ℕ) (hold : Hold) (why : Refusal) (v w x : Pass) → GetsIn key v (Ok hold) w
    → ReadDoes (key_within key) w (Err why) x → ⊥
got_is_read key hold NotHeld v w x got read = not_held (key_within key) (holds w) (holds v) got.3.holds read.0
got_is_read key hold _ v w x got read = read

read_is_released : (key : ℕ) (hold : Hold) (value : List ℕ) (why : Refusal) (v w x y : Pass)
    → GetsIn key v (Ok hold) w → ReadDoes (key_within key) w (Ok value) x
    → ReleaseDoes chunked (key_within key) x (Err why) y → ⊥
read_is_released key hold value NotHeld v w x y got read released =
    not_held (key_within key) (holds x) (holds v) (read.1.holds ∙ got.3.holds) released.0
read_is_released key hold value _ v w x y got read released = released

-- ---- of a caller

reads : (key : ℕ) (hold : Hold) (c got d : Caller) (answer : Result (List ℕ) Refusal) → CallerGets key c (Ok hold) got
    → CallerReads hold.key got answer d
    → (v : Pass) × (m : ChunkMember) × (get_or got.met.items (chunk_of key) None ≡ Some m)
    × GetsIn key v (Ok hold) (caller_by m.member)
    × PassDid (ReadDoes (key_within key)) (chunk_of key) answer d.met.items (caller_by m.member)
reads key hold c got d answer gets read =
    let (v, first) = first_did (GetsIn key) (chunk_of key) hold c.met.items got.met.items c.growing c.number gets.0.0 in
    let at : GrownDoes (SideDoes chunked (ReadDoes (key_within key))) got.growing got.number (chunk_of key)
    got.met.items answer d.met.items =
    subst (λ (k : ℕ). GrownDoes (SideDoes chunked (ReadDoes (key_within k))) got.growing got.number (chunk_of k)
    got.met.items answer d.met.items) gets.1 read.0 in (
      v,
      first.member,
      first.there,
      first.did,
      next_did (ReadDoes (key_within key)) (chunk_of key) answer d.met.items got.growing got.number got.met.items
          first.member first.there at,
    )

pub caller_lends : (c : Caller) → Lends (λ old key answer new. CallerGets key old answer new)
    (λ old key answer new. CallerReads key old answer new) (λ old key answer new. CallerLooks key old answer new)
    (λ old key answer new. CallerReleases key old answer new) c
caller_lends c = record {
  gets_kind = λ key d got. never (GetsIn key) (chunk_of key) WrongKind c.met.items d.met.items c.growing c.number
      (λ v w did. did) (λ met. met) got.0.0;
  looks_kind = λ key d looked. never (FetchDoes chunked (key_within key)) (chunk_of key) WrongKind c.met.items
      d.met.items c.growing c.number (fetch_kind (key_within key)) (λ met. met) looked.0;
  reads_got = λ key hold got d why gets read.
      let (v, m, there, did, next) = reads key hold c got d (Err why) gets read in
      got_is_read key hold why v (caller_by m.member) (caller_by next.member.member) did next.did;
  releases_got = λ key hold value got d e why gets read released.
      let (v, m, there, did, next) = reads key hold c got d (Ok value) gets read in
      let at : GrownDoes (SideDoes chunked (ReleaseDoes chunked (key_within key))) d.growing d.number (chunk_of key)
      d.met.items (Err why) e.met.items =
      subst (λ (k : ℕ). GrownDoes (SideDoes chunked (ReleaseDoes chunked (key_within k))) d.growing d.number
      (chunk_of k) d.met.items (Err why) e.met.items) gets.1 released.0 in
      let last = next_did (ReleaseDoes chunked (key_within key)) (chunk_of key) (Err why) e.met.items d.growing d.number
      d.met.items next.member next.there at in
      absurd (read_is_released key hold value why v (caller_by m.member) (caller_by next.member.member)
      (caller_by last.member.member) did next.did last.did);
}
