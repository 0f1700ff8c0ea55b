-- Shapes of chunks are within the limits.
use Rattle.std.proofs.Common.{◌≡◌, ℕ, ◌-◌, ◌/◌, ◌≤◌, Bool, true, false, arith, subst, sym}
use Rattle.std.specs.Prelude.{◌^◌, ◌==◌, min, if◌then◌else◌}
use Rattle.std.proofs.Math.Nat.{min-le_right}
use Rattle.std.proofs.Math.Pow.{pow_mono}
use Rattle.sh_shape.specs.Rooms.{IsLeastRoomy}
use Rattle.sh_shape.specs.Shape.{Fits, Numbers}
use Rattle.sh_table.specs.Seats.{Heap}
use Rattle.sh_chunk.specs.Chunks.{chunked}
use Rattle.sh_grown.specs.ChunkShapes.{IsShaped, doublings, shards_of, segments_of, shape_of}

pub power_fits : (d m : ℕ) → d ≤ m → 2 ^ d ≤ 2 ^ m
power_fits d m few = pow_mono few

either_fits : (b : Bool) (x y m : ℕ) → x ≤ m → y ≤ m → (if b then x else y) ≤ m
either_fits true x y m p q = p
either_fits false x y m p q = q

few_shards : (number : ℕ) → shards_of number ≤ 2 ^ 6
few_shards number =
    either_fits (number == 0) 2 (2 ^ min (doublings number) 6) (2 ^ 6) (omega arith)
    (power_fits (min (doublings number) 6) 6 (min-le_right (doublings number) 6))

few_doublings : (number : ℕ) → doublings number ≤ 15
few_doublings number = min-le_right ((number - 1) / 2) 15

few_segments : (number : ℕ) → segments_of number ≤ 2 ^ 9
few_segments number = power_fits (doublings number - 6) 9 (omega (arith, few_doublings number))

-- each shape of a chunk fits the layout of chunks
pub shape_fits : (n : Numbers) (number passes : ℕ) → n ≡ shape_of number passes → Fits chunked n
shape_fits n number passes is = subst (λ n. Fits chunked n) (sym is) (record {
  shards_fit = few_shards number;
  pages_fit = omega (arith, few_segments number);
})

-- what is said of a heap and a shape is said of them by other names
pub shaped_alike : (a b : Heap) (m n : Numbers) → IsShaped a.shape m → a ≡ b → m ≡ n → IsShaped b.shape n
shaped_alike a b m n is same alike =
    subst (λ (z : Numbers). IsShaped b.shape z) alike (subst (λ (h : Heap). IsShaped h.shape m) same is)

pub roomy_alike : (owners values words passes : ℕ) (a b : Numbers)
    → IsLeastRoomy chunked owners values words passes a → a ≡ b → IsLeastRoomy chunked owners values words passes b
roomy_alike owners values words passes a b is same =
    subst (λ (z : Numbers). IsLeastRoomy chunked owners values words passes z) same is
