-- The pages of a shard by their numbers over the whole heap.
use Rattle.std.proofs.Common.{◌≡◌, ℕ, ◌<◌}
use Rattle.std.proofs.lemmas.Nat.{div-mul-add}
use Rattle.sh_step.specs.Plans.{Plan, shard_of, page_number}

-- page p of shard k is of shard k
pub home_number : (plan : Plan) (k p : ℕ) → p < plan.pages → shard_of plan (page_number plan k p) ≡ k
unfolding page_number shard_of
home_number plan k p lt = div-mul-add k plan.pages p lt
