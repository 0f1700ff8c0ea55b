-- With fewer segments a shape is still one.
use Rattle.std.proofs.Common.{◌≡◌, ℕ, ◌*◌, ◌^◌, ◌≤◌, subst, arith}
use Rattle.std.proofs.Math.Nat.{mul-le-mul_left}
use Rattle.sh_shape.specs.Shape.{Numbers, IsShape}

pub shape_below : (owners segments passes : ℕ) (n : Numbers) → n.shards ≡ owners → n.passes ≡ passes → IsShape n
    → 1 ≤ segments → segments ≤ n.segments
    → IsShape (record { shards = owners; segments = segments; passes = passes })
shape_below owners segments passes n shards_are passes_are is some below =
    let fewer : n.shards * segments ≤ n.shards * n.segments = mul-le-mul_left n.shards below in
    let few = is.few_segments in
    record {
      some_shard = subst (λ k. 1 ≤ k) shards_are is.some_shard;
      some_segment = some;
      few_segments = subst (λ k. k * segments ≤ 2 ^ 21) shards_are (omega arith);
      some_pass = subst (λ k. 1 ≤ k) passes_are is.some_pass;
      few_passes = subst (λ k. k ≤ 64) passes_are is.few_passes;
    }
