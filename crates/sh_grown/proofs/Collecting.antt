-- A collect in one chunk more of those that it goes over.
use Rattle.std.proofs.Common.{◌≡◌, ◌≢◌, ℕ, ◌+◌, List, Option, Some, None, arith, below_more, get_or, inl, inr, refl}
use Rattle.std.proofs.Common.{ap, subst, sym, ◌∙◌}
use Rattle.std.specs.Prelude.{Result}
use Rattle.std.proofs.lemmas.List.{get_or-set_other, get_or-set_same}
use Rattle.sh_chunk.specs.Chunks.{chunked}
use Rattle.sh_value.specs.declared.refusal.Refusal.{Refusal}
use Rattle.sh_member.specs.Sides.{SideCollects}
use Rattle.sh_grown.specs.declared.chunk_member.ChunkMember.{ChunkMember}
use Rattle.sh_grown.specs.Callers.{MemberDoes}
use Rattle.sh_grown.specs.Collecting.{CollectsBelow, CollectsThere}
use Rattle.sh_grown.specs.Inserts.{CollectsInChunk}
use Rattle.sh_grown.proofs.Full.{met_within}
use Rattle.sh_grown.proofs.OfChunks.{member_there}

-- nothing is collected yet
pub collects_none : (xs : List (Option ChunkMember)) → CollectsBelow 0 xs xs
collects_none xs = record { each = λ chunk less. absurd (omega (arith, less)); others = λ chunk past. refl }

there : (a b : Option ChunkMember) (answer : Result (Unit {0}) Refusal) → MemberDoes (SideCollects chunked) a answer b
    → CollectsThere a b
there (Some m) b answer does = (answer, does)
there None b answer does = absurd does

unmet : (a b : Option ChunkMember) → a ≡ None → b ≡ a → CollectsThere a b
unmet a b none same = subst (λ o. CollectsThere o b) (sym none) (same ∙ none)

one_collected : (k : ℕ) (old now new : List (Option ChunkMember)) → CollectsBelow k old now
    → CollectsThere (get_or now k None) (get_or new k None) → ((j : ℕ) → j ≢ k → get_or new j None ≡ get_or now j None)
    → CollectsBelow (k + 1) old new
one_collected k old now new before here apart = record {
  each = below_more (λ j. CollectsThere (get_or old j None) (get_or new j None)) k
      (λ j less. subst (λ o. CollectsThere (get_or old j None) o) (sym (apart j (λ e. omega (arith, less, e))))
      (before.each j less))
      (subst (λ o. CollectsThere o (get_or new k None)) (before.others k (omega arith)) here);
  others = λ j past. apart j (λ e. omega (arith, past, e)) ∙ before.others j (omega (arith, past));
}

-- one chunk more
pub collects_more : (k : ℕ) (old now new : List (Option ChunkMember)) (answer : Result (Unit {0}) Refusal)
    → CollectsBelow k old now → CollectsInChunk k now answer new → CollectsBelow (k + 1) old new
collects_more k old now new answer before (inl h) =
    let some = member_there (SideCollects chunked) (get_or now k None) h.0 answer h.1 in
    let here : get_or new k None ≡ h.0 =
    ap (λ xs. get_or xs k None) h.2 ∙ get_or-set_same now k h.0 None (met_within now k some) in
    one_collected k old now new before
    (subst (λ o. CollectsThere (get_or now k None) o) (sym here) (there (get_or now k None) h.0 answer h.1))
    (λ j other. ap (λ xs. get_or xs j None) h.2 ∙ get_or-set_other now k j h.0 None other)
collects_more k old now new answer before (inr h) =
    one_collected k old now new before
    (unmet (get_or now k None) (get_or new k None) h.1 (ap (λ xs. get_or xs k None) h.2))
    (λ j other. ap (λ xs. get_or xs j None) h.2)
