-- What a caller has that was just claimed.
use Rattle.std.proofs.Common.{◌≡◌, ℕ, ◌<◌, List, Option, Some, None, length, get_or, sym, ap, ◌∙◌, subst, arith}
use Rattle.std.specs.Prelude.{slice_set}
use Rattle.std.proofs.lemmas.List.{get_or-set_same, get_or-set_other}
use Rattle.sh_grown.specs.declared.growing.Growing.{Growing}
use Rattle.sh_grown.specs.declared.chunk_member.ChunkMember.{ChunkMember}
use Rattle.sh_grown.specs.Callers.{IsNewcomer, IsClaimed}

-- the first member goes to the first place of a list that has none
pub first_goes : (growing : Growing) (number slot : ℕ) (first : ChunkMember) (empty new : List (Option ChunkMember))
    → number ≡ slot → IsNewcomer growing slot 0 first → 0 < length empty
    → ((chunk : ℕ) → get_or empty chunk None ≡ None) → new ≡ slice_set empty 0 (Some first)
    → IsClaimed growing number new
first_goes growing number slot first empty new same is some none put =
    record {
      first = first;
      newcomer = subst (λ n. IsNewcomer growing n 0 first) (sym same) is;
      met = ap (λ xs. get_or xs 0 None) put ∙ get_or-set_same empty 0 (Some first) None some;
      others = λ chunk later.
          ap (λ xs. get_or xs chunk None) put
          ∙ (get_or-set_other empty 0 chunk (Some first) None (λ e. omega arith) ∙ none chunk);
    }

-- what was claimed of a growing heap was claimed of the same one by another name
pub claimed_alike : (g h : Growing) (number : ℕ) (members : List (Option ChunkMember)) → IsClaimed g number members → g
    ≡ h
    → IsClaimed h number members
claimed_alike g h number members is same = subst (λ (x : Growing). IsClaimed x number members) same is
