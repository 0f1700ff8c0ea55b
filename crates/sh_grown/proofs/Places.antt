-- Places of a list, and what the members there do.
use Rattle.std.proofs.Common.{◌≡◌, ℕ, zero, suc, ◌<◌, List, [], ◌∷◌, length, get_or, refl, arith, sym, ◌∙◌, ap}
use Rattle.std.proofs.Common.{subst, rules, Option, Some, None}
use Rattle.std.specs.Prelude.{◌^◌, IsSome, Ok, Result, slice_set}
use Rattle.sh_key.specs.declared.parts.Parts.{Parts}
use Rattle.sh_key.specs.Layout.{Layout, unpacked}
use Rattle.sh_shape.specs.Shape.{Numbers}
use Rattle.sh_step.specs.Plans.{plan_of}
use Rattle.sh_step.specs.Moves.{place_named}
use Rattle.sh_step.proofs.NameLaws.{no_key}
use Rattle.sh_value.specs.declared.refusal.Refusal.{Refusal}
use Rattle.sh_pass.specs.Passes.{Caller}
use Rattle.sh_pass.specs.Owners.{IsKeyIn}
use Rattle.sh_slots.specs.declared.hand.KeyRef.{KeyRef}
use Rattle.sh_chunk.specs.Chunks.{chunked}
use Rattle.sh_member.specs.declared.member.Side.TheVariants.{Pass, Shard}
use Rattle.sh_member.specs.Sides.{SeenSide, SideInserts}
use Rattle.sh_grown.specs.declared.growing.Growing.{Growing}
use Rattle.sh_grown.specs.declared.chunk_member.ChunkMember.{ChunkMember}
use Rattle.sh_grown.specs.Callers.{ChunkDoes, Meets, MemberDoes}

-- inside, no other value is returned for what is missing
pub inside : {X : Type 0} (xs : List X) (i : ℕ) (d e : X) → i < length xs → get_or xs i d ≡ get_or xs i e
inside [] i d e lt = absurd (omega arith)
inside (x ∷ xs) zero d e lt = refl
inside (x ∷ xs) (suc i) d e lt = inside xs i d e (omega arith)

-- the member at place n did it, and n is the number of the chunk
pub chunk_does : {A : Type 0} (does : SeenSide → Result A Refusal → SeenSide → Type 0) (growing : Growing)
    (number n chunk : ℕ) (old met new : List (Option ChunkMember)) (place after d : Option ChunkMember)
    (answer : Result A Refusal)
    → n ≡ chunk → n < length met → Meets growing number n old met → place ≡ get_or met n d
    → MemberDoes does place answer after → new ≡ slice_set met n after
    → ChunkDoes does growing number chunk old answer new
chunk_does does growing number n chunk old met new place after d answer is lt meets found does_it set =
    let at : place ≡ get_or met n None = found ∙ inside met n d None lt in
    record {
      met = met;
      meets = subst (λ i. Meets growing number i old met) is meets;
      after = after;
      does_it = subst (λ i. MemberDoes does (get_or met i None) answer after) is
          (subst (λ o. MemberDoes does o answer after) at does_it);
      others = set ∙ ap (λ i. slice_set met i after) is;
    }

-- a number that names a place of a heap is a key of its layout
pub is_key : (layout : Layout) (n : Numbers) (k : ℕ) (x : KeyRef) (o : Option Parts) → unpacked layout k ≡ o
    → place_named (plan_of layout n) k ≡ Some x → IsSome o
is_key layout n k x None is named = absurd (let e = sym (no_key layout n k is) ∙ named in cc)
is_key layout n k x (Some p) is named = search rules

key_fits : (v : Caller) (n k : ℕ) → ((k : ℕ) → IsSome (unpacked chunked k) → k < 2 ^ 56)
    → IsKeyIn chunked v n k → k < 2 ^ 56
key_fits v n k fits h = fits k (is_key chunked v.view.shape k h.0 _ refl h.1)

-- the key of an insert leaves room for the number of the chunk
pub inserted_fits : (value : List ℕ) (m n : SeenSide) (k : ℕ) → ((k : ℕ) → IsSome (unpacked chunked k) → k < 2 ^ 56)
    → SideInserts chunked value m (Ok k) n → k < 2 ^ 56
inserted_fits value (Pass v) n k fits h = absurd (let e = h.0 in cc)
inserted_fits value (Shard o) (Pass w) k fits h = absurd h
inserted_fits value (Shard o) (Shard n) k fits h = key_fits o.pages.owner o.pages.shard k fits h.0.1
