-- What a walk finds in a chunk has room for the number of the chunk, and walks over one chunk more.
use Rattle.std.proofs.Common.{◌≡◌, ℕ, suc, ◌+◌, ◌-◌, ◌<◌, ◌≤◌, ◌⊎◌, List, Option, Some, None, arith, refl}
use Rattle.std.proofs.Common.{⊎_elim, subst}
use Rattle.std.specs.Prelude.{◌^◌, IsSome, Result, Ok}
use Rattle.sh_chunk.specs.Chunks.{chunked}
use Rattle.sh_key.specs.Layout.{unpacked}
use Rattle.sh_value.specs.declared.refusal.Refusal.{Refusal}
use Rattle.sh_history.specs.declared.log.LogEntry.{LogEntry}
use Rattle.sh_pass.specs.Passes.{Caller}
use Rattle.sh_member.specs.declared.member.Side.TheVariants.{Pass, Shard}
use Rattle.sh_member.specs.Sides.{SeenSide, SideDoes}
use Rattle.sh_member.specs.Walks.{Meets, NextHeldDoes, NextLiveDoes}
use Rattle.sh_member.specs.declared.walking.NextHeld.{NextHeld}
use Rattle.sh_member.specs.declared.walking.NextLive.{NextLive}
use Rattle.sh_grown.specs.declared.growing.Growing.{Growing}
use Rattle.sh_grown.specs.declared.chunk_member.ChunkMember.{ChunkMember}
use Rattle.sh_grown.specs.declared.caller.Caller.{Caller as SeenCaller}
use Rattle.sh_grown.specs.Callers.{Stays}
use Rattle.sh_grown.specs.Walks.{EndsIn, LooksIn, SkipsChunks}
use Rattle.sh_grown.proofs.Places.{is_key}

-- ---- in one chunk

-- key and place leave room for the number of the chunk
abbrev pub BothFit : (key behind : ℕ) → Type 0
BothFit key behind = (key < 2 ^ 56) × (behind < 2 ^ 56)

both_fit : (each from before key behind : ℕ) (es : List LogEntry) (kept : List ℕ) (last : ℕ) (v w : Caller)
    → ((k : ℕ) → IsSome (unpacked chunked k) → k < 2 ^ 56) → before < 2 ^ 56
    → Meets chunked each from before key behind es kept last v w → BothFit key behind
both_fit each from before key behind es kept last v w fits few m =
    let is = m.behind_is in
    let inside = m.inside in (
      fits key (is_key chunked v.heap.shape key m.names.0 _ refl m.names.1),
      omega (arith, is, inside, few),
    )

-- so does what a member does, whichever kind it is
pub side_gives : {A : Type 0} (does : Caller → A → Caller → Type 0) (P : Type 0) (a b : SeenSide) (answer : A)
    → ((v w : Caller) → does v answer w → P) → SideDoes chunked does a answer b → P
side_gives does P (Pass v) (Pass w) answer gives h = gives v w h.0
side_gives does P (Pass v) (Shard n) answer gives h = absurd h
side_gives does P (Shard o) (Shard n) answer gives h = gives o.pages.owner n.pages.owner h.0
side_gives does P (Shard o) (Pass w) answer gives h = absurd h

pub live_fits : (from before : ℕ) (next : NextLive) (a b : SeenSide)
    → ((k : ℕ) → IsSome (unpacked chunked k) → k < 2 ^ 56) → before < 2 ^ 56
    → SideDoes chunked (NextLiveDoes chunked from before) a (Some next) b → BothFit next.key next.behind
live_fits from before next a b fits few h =
    side_gives (NextLiveDoes chunked from before) (BothFit next.key next.behind) a b (Some next)
    (λ v w did. both_fit _ _ _ _ _ _ _ _ v w fits few did) h

pub held_fits : (from before : ℕ) (next : NextHeld) (a b : SeenSide)
    → ((k : ℕ) → IsSome (unpacked chunked k) → k < 2 ^ 56) → before < 2 ^ 56
    → SideDoes chunked (NextHeldDoes chunked from before) a (Ok (Some next)) b → BothFit next.key next.behind
held_fits from before next a b fits few h =
    side_gives (NextHeldDoes chunked from before) (BothFit next.key next.behind) a b (Ok (Some next))
    (λ v w did. both_fit _ _ _ _ _ _ _ _ v w fits few did.1) h

-- ---- over the chunks

-- nothing was passed yet
pub passes_none : {X : Type 0} (does : (chunk : ℕ) → Caller → Result (Option X) Refusal → Caller → Type 0)
    (growing : Growing) (number first k : ℕ) (xs : List (Option ChunkMember)) → k ≡ first
    → SkipsChunks does growing number first (k - first) xs xs
passes_none does growing number first k xs is =
    let none : 0 ≡ k - first = omega (arith, is) in
    subst (λ (n : ℕ). SkipsChunks does growing number first n xs xs) none refl

-- one chunk more was passed
pub passes_more : {X : Type 0} (does : (chunk : ℕ) → Caller → Result (Option X) Refusal → Caller → Type 0)
    (growing : Growing) (number first k : ℕ) (old mid new : List (Option ChunkMember)) → first ≤ k
    → SkipsChunks does growing number first (k - first) old mid → LooksIn does growing number k mid (Ok None) new
    → SkipsChunks does growing number first (k + 1 - first) old new
passes_more does growing number first k old mid new low passed here =
    let count : suc (k - first) ≡ k + 1 - first = omega (arith, low) in
    let at : k ≡ first + (k - first) = omega (arith, low) in
    subst (λ (n : ℕ). SkipsChunks does growing number first n old new) count
    (mid, passed, subst (λ (j : ℕ). LooksIn does growing number j mid (Ok None) new) at here)

-- all were passed
pub passes_all : {X : Type 0} (does : (chunk : ℕ) → Caller → Result (Option X) Refusal → Caller → Type 0)
    (growing : Growing) (number first k end below : ℕ) (old new : List (Option ChunkMember)) → end ≡ below
    → (k ≤ end) ⊎ (k ≡ first) → end ≤ k → SkipsChunks does growing number first (k - first) old new
    → SkipsChunks does growing number first (below - first) old new
passes_all does growing number first k end below old new is reached past passed =
    let all : k - first ≡ below - first =
    ⊎_elim (λ (few : k ≤ end). omega (arith, is, few, past)) (λ (none : k ≡ first). omega (arith, is, none, past))
    reached in
    subst (λ (n : ℕ). SkipsChunks does growing number first n old new) all passed

-- the caller is the same in the look as before the walk
pub looks_as : {X : Type 0} (does : (chunk : ℕ) → Caller → Result (Option X) Refusal → Caller → Type 0)
    (a b : SeenCaller) (chunk : ℕ) (mid new : List (Option ChunkMember)) (answer : Result (Option X) Refusal)
    → Stays a b → LooksIn does b.growing b.number chunk mid answer new
    → LooksIn does a.growing a.number chunk mid answer new
looks_as does a b chunk mid new answer stays here =
    subst (λ (g : Growing). LooksIn does g a.number chunk mid answer new) stays.growing
    (subst (λ (n : ℕ). LooksIn does b.growing n chunk mid answer new) stays.number here)

-- the walk ended in the chunk behind those that were passed
pub ends_there : {X : Type 0} (does : (chunk : ℕ) → Caller → Result (Option X) Refusal → Caller → Type 0)
    (a b : SeenCaller) (first k end below : ℕ) (new : List (Option ChunkMember)) (answer : Result (Option X) Refusal)
    → end ≡ below → first ≤ k → k < end → Stays a b
    → SkipsChunks does a.growing a.number first (k - first) a.met.items b.met.items
    → LooksIn does b.growing b.number k b.met.items answer new
    → EndsIn does a.growing a.number first below a.met.items answer new
ends_there does a b first k end below new answer is low less stays passed here =
    let at : k ≡ first + (k - first) = omega (arith, low) in
    let inside : first + (k - first) < below = omega (arith, is, low, less) in (
      k - first,
      inside,
      b.met.items,
      passed,
      subst (λ (j : ℕ). LooksIn does a.growing a.number j b.met.items answer new) at
          (looks_as does a b k b.met.items new answer stays here),
    )
