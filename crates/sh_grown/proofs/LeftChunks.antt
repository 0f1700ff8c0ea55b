-- What a leave does in a chunk, and in one chunk more of those that it goes over.
use Rattle.std.proofs.Common.{◌≡◌, ◌≢◌, ℕ, ◌+◌, ◌<◌, ◌≤◌, List, Option, None, arith, below_more, get_or, inl, inr}
use Rattle.std.proofs.Common.{length, refl, subst, sym, ◌∙◌}
use Rattle.std.specs.Prelude.{Result, Ok, Err, IfErr, OnErr, OnOk, slice_set}
use Rattle.std.specs.Result.{result_and}
use Rattle.std.proofs.lemmas.List.{get_or-set_same}
use Rattle.sh_value.specs.declared.refusal.Refusal.{Refusal}
use Rattle.sh_value.specs.declared.refusal.Refusal.TheVariants as refusal
use Rattle.sh_grown.specs.declared.chunk_member.ChunkMember.{ChunkMember}
use Rattle.sh_grown.specs.Inserts.{OwnsNone}
use Rattle.sh_grown.specs.Leaving.{LeavesIdle, LeftOrWaits}
use Rattle.sh_grown.specs.Refusals.{WaitsThere}
use Rattle.sh_grown.proofs.Places.{inside}

-- ---- in one chunk

-- it was left, and that is what is there then
pub left_here : (xs : List (Option ChunkMember)) (i : ℕ) (place : Option ChunkMember)
    (answer : Result (Unit {0}) Refusal) → i < length xs → OnOk answer (OwnsNone place)
    → OnOk answer (OwnsNone (get_or (slice_set xs i place) i None))
left_here xs i place (Ok u) less left = subst OwnsNone (sym (get_or-set_same xs i place None less)) left
left_here xs i place (Err why) less left = tt

-- or the caller has to keep what it found there
pub waits_here : (xs : List (Option ChunkMember)) (i : ℕ) (found place : Option ChunkMember)
    (answer : Result (Unit {0}) Refusal) → i < length xs → found ≡ get_or xs i found
    → OnErr answer (WaitsThere found place)
    → OnErr answer (WaitsThere (get_or xs i None) (get_or (slice_set xs i place) i None))
waits_here xs i found place (Ok u) less is waits = tt
waits_here xs i found place (Err why) less is waits =
    subst (λ o. WaitsThere (get_or xs i None) o) (sym (get_or-set_same xs i place None less))
    (subst (λ o. WaitsThere o place) (is ∙ inside xs i found None less) waits)

-- what holds whatever is returned holds if the call is refused
pub on_err : (answer : Result (Unit {0}) Refusal) (P : Type 0) → P → OnErr answer P
on_err (Ok u) P holds = tt
on_err (Err why) P holds = holds

-- ---- in each chunk

-- what a leave that goes over all chunks has done at this one: those from it on are as they were
pub record LeftSoFar (k : ℕ) (old : List (Option ChunkMember)) (answer : Result (Unit {0}) Refusal)
    (now : List (Option ChunkMember)) : Type 0 where
  pub done : LeavesIdle k old answer now
  pub rest : (chunk : ℕ) → k ≤ chunk → get_or now chunk None ≡ get_or old chunk None

-- nothing is left yet
pub left_none : (xs : List (Option ChunkMember)) → LeftSoFar 0 xs (Ok tt) xs
left_none xs = record {
  done = record {
    each = λ chunk less. absurd (omega (arith, less));
    left = λ chunk less. absurd (omega (arith, less));
    err = tt;
    waits = tt;
  };
  rest = λ chunk past. refl;
}

module _ (k : ℕ) (old now new : List (Option ChunkMember))
    (apart : (j : ℕ) → j ≢ k → get_or new j None ≡ get_or now j None) where
  before : (P : Option ChunkMember → Type 0) (j : ℕ) → j < k → P (get_or now j None) → P (get_or new j None)
  before P j less so = subst P (sym (apart j (λ e. omega (arith, less, e)))) so

  each_left : (answer : Result (Unit {0}) Refusal) → LeavesIdle k old answer now
      → LeftOrWaits (get_or old k None) (get_or new k None) → (chunk : ℕ) → chunk < k + 1
      → LeftOrWaits (get_or old chunk None) (get_or new chunk None)
  each_left answer done here =
      below_more (λ j. LeftOrWaits (get_or old j None) (get_or new j None)) k
      (λ j less. before (LeftOrWaits (get_or old j None)) j less (done.each j less)) here

  rest_more : ((chunk : ℕ) → k ≤ chunk → get_or now chunk None ≡ get_or old chunk None) → (chunk : ℕ) → k + 1 ≤ chunk
      → get_or new chunk None ≡ get_or old chunk None
  rest_more rest j past = apart j (λ e. omega (arith, past, e)) ∙ rest j (omega (arith, past))

  -- an earlier one is still kept
  still : ((chunk : ℕ) × (chunk < k) × WaitsThere (get_or old chunk None) (get_or now chunk None))
      → (chunk : ℕ) × (chunk < k + 1) × WaitsThere (get_or old chunk None) (get_or new chunk None)
  still h = (
    h.0,
    omega (arith, h.1),
    before (WaitsThere (get_or old h.0 None)) h.0 h.1 h.2,
  )

  -- this one was left
  one_left : (answer : Result (Unit {0}) Refusal) → LeftSoFar k old answer now → OwnsNone (get_or new k None)
      → LeftSoFar (k + 1) old answer new
  one_left (Ok u) so here = record {
    done = record {
      each = each_left (Ok u) so.done (inl here);
      left = below_more (λ j. OwnsNone (get_or new j None)) k
          (λ j less. before OwnsNone j less (so.done.left j less)) here;
      err = tt;
      waits = tt;
    };
    rest = rest_more so.rest;
  }
  one_left (Err why) so here = record {
    done = record {
      each = each_left (Err why) so.done (inl here);
      left = tt;
      err = so.done.err;
      waits = still so.done.waits;
    };
    rest = rest_more so.rest;
  }

  -- this one has to be kept
  one_waits : (answer : Result (Unit {0}) Refusal) (why : Refusal) → LeftSoFar k old answer now
      → why ≡ refusal.Waiting → WaitsThere (get_or now k None) (get_or new k None)
      → LeftSoFar (k + 1) old (Err why) new
  one_waits answer why so is here =
      let kept : WaitsThere (get_or old k None) (get_or new k None) =
      subst (λ o. WaitsThere o (get_or new k None)) (so.rest k (omega arith)) here in
      record {
        done = record {
          each = each_left answer so.done (inr kept);
          left = tt;
          err = is;
          waits = (k, omega arith, kept);
        };
        rest = rest_more so.rest;
      }

  -- either of both
  pub left_more : (one answer : Result (Unit {0}) Refusal) → LeftSoFar k old answer now
      → OnOk one (OwnsNone (get_or new k None)) → IfErr one (λ why. why ≡ refusal.Waiting)
      → OnErr one (WaitsThere (get_or now k None) (get_or new k None))
      → LeftSoFar (k + 1) old (result_and one answer) new
  left_more (Ok u) answer so left err waits = one_left answer so left
  left_more (Err why) answer so left err waits = one_waits answer why so err waits
