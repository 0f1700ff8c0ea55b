-- The laws of packing, for every layout.
use Rattle.std.proofs.Common.{◌≡◌, ℕ, ◌+◌, ◌*◌, ◌^◌, ◌<◌, ◌≤◌, ◌/◌, ◌∙◌, ap, sym, arith, refl, Some, None, true, false}
use Rattle.std.proofs.Common.{Bool, cond, subst, le-leb, leb-true}
use Rattle.std.specs.Prelude.{◌&&◌, nat_le, IsSome}
use Rattle.std.proofs.lemmas.Bool.{and_parts}
use Rattle.std.proofs.lemmas.Option.{cond_some}
use Rattle.std.proofs.lemmas.Nat.{mul-add-lt, div-mul-add, mod-mul-add, div-add-mod', pow-add, pow_pos, shr-shr}
use Rattle.std.proofs.Math.Nat.{pow-le-pow_right, mod-lt, le-div_iff_mul-le, div-lt_iff_lt-mul}
use Rattle.sh_key.specs.declared.parts.Parts.{Parts}
use Rattle.sh_key.specs.Layout.{Layout, IsLayout, IsInRange, IsKeyOf, packed, unpacked, if_good, digits_of, first_key}
use Rattle.sh_key.specs.Laws.{KeysAreConsecutive}

-- a key fits 64 bits, if m and n are powers of two
pub digits-fit : (a b m n g s p t : ℕ) → m ≡ 2 ^ a → n ≡ 2 ^ b → a + b ≤ 26
    → g < 2 ^ 32 → s < 2 ^ a → p < 2 ^ b → t < 64 → ((g * m + s) * n + p) * 64 + t < 2 ^ 64
digits-fit a b m n g s p t em en few hg hs hp ht =
    let e1 : g * m + s < m * 2 ^ 32 = mul-add-lt g m s (2 ^ 32) hg (rw em hs) in
    let e2 : (g * m + s) * n + p < n * (m * 2 ^ 32) = mul-add-lt (g * m + s) n p (m * 2 ^ 32) e1 (rw en hp) in
    let e3 : m * n ≤ 2 ^ 26 = rw (em, en, ← pow-add 2 a b) (pow-le-pow_right (let two : 0 < 2 = omega arith in two) few)
    in
    omega (arith, e2, e3)

-- the digits of what parts in range are packed into are the parts
pub digits_of-packed : (layout : Layout) (p : Parts) → IsInRange layout p → digits_of layout (packed layout p) ≡ p
digits_of-packed layout p r =
    let pages = (p.generation * 2 ^ layout.shard_bits + p.shard) * 2 ^ layout.page_bits + p.page in
    let shards = p.generation * 2 ^ layout.shard_bits + p.shard in
    let page_digit = div-mul-add pages 64 p.slot r.slot_fits in
    let shard_digit = div-mul-add shards (2 ^ layout.page_bits) p.page r.page_fits in
    rw (
      page_digit,
      shard_digit,
      div-mul-add p.generation (2 ^ layout.shard_bits) p.shard r.shard_fits,
      mod-mul-add p.generation (2 ^ layout.shard_bits) p.shard r.shard_fits,
      mod-mul-add shards (2 ^ layout.page_bits) p.page r.page_fits,
      mod-mul-add pages 64 p.slot r.slot_fits,
    ) refl

tests_true : (g m : ℕ) → 1 ≤ g → g ≤ m → (nat_le 1 g && nat_le g m) ≡ true
tests_true g m low high = rw (le-leb _ _ low, le-leb _ _ high) refl

-- what parts in range are packed into is unpacked to them
pub unpacked-packed : (layout : Layout) (p : Parts) → IsInRange layout p → unpacked layout (packed layout p) ≡ Some p
unpacked-packed layout p r =
    let test = tests_true p.generation layout.gen_max r.some_generation r.generation_fits in
    ap (if_good layout) (digits_of-packed layout p r) ∙ rw test refl

pub unpacked_only : (layout : Layout) (p : Parts) (k : ℕ) → IsKeyOf layout p k → unpacked layout k ≡ Some p
unpacked_only layout p k h = ap (unpacked layout) (sym h.is) ∙ unpacked-packed layout p h.in_range

-- the digits of a number, packed again
pub packed-digits_of : (layout : Layout) (k : ℕ) → packed layout (digits_of layout k) ≡ k
packed-digits_of layout k =
    rw (
      div-add-mod' (k / 64 / 2 ^ layout.page_bits) (2 ^ layout.shard_bits),
      div-add-mod' (k / 64)
          (2 ^ layout.page_bits),
      div-add-mod' k 64,
    ) refl

-- digits with a good generation are in range
pub digits_in_range : (layout : Layout) (k : ℕ) → 1 ≤ (digits_of layout k).generation
    → (digits_of layout k).generation ≤ layout.gen_max → IsInRange layout (digits_of layout k)
digits_in_range layout k low high = record {
  some_generation = low;
  generation_fits = high;
  shard_fits = mod-lt (k / 64 / 2 ^ layout.page_bits) (pow_pos layout.shard_bits);
  page_fits = mod-lt (k / 64) (pow_pos layout.page_bits);
  slot_fits = mod-lt k (let some : 0 < 64 = omega arith in some);
}

-- a number is unpacked only to parts in range that are packed into it
pub unpacked_is : (layout : Layout) (k : ℕ) (p : Parts) → unpacked layout k ≡ Some p → IsKeyOf layout p k
unpacked_is layout k p e =
    let d = digits_of layout k in
    let c = cond_some (nat_le 1 d.generation && nat_le d.generation layout.gen_max) d p e in
    let b = and_parts (nat_le 1 d.generation) (nat_le d.generation layout.gen_max) c.0 in
    let found : IsKeyOf layout d k = record {
      in_range = digits_in_range layout k (leb-true _ _ b.0) (leb-true _ _ b.1);
      is = packed-digits_of layout k;
    } in
    let P : Parts → Type 0 = λ p. IsKeyOf layout p k in subst P c.1 found

-- a key fits 64 bits
pub packed_fits : (layout : Layout) → IsLayout layout → (p : Parts) → IsInRange layout p → packed layout p < 2 ^ 64
packed_fits layout lawful p r =
    let few : p.generation < 2 ^ 32 = let a = r.generation_fits in let b = lawful.generations_fit in omega arith in
    digits-fit layout.shard_bits layout.page_bits (2 ^ layout.shard_bits) (2 ^ layout.page_bits)
    p.generation p.shard p.page p.slot refl refl lawful.few_bits few r.shard_fits r.page_fits r.slot_fits

-- the generation of a number says how often the first key goes into it
generation_is : (layout : Layout) (k : ℕ) → (digits_of layout k).generation ≡ k / first_key layout
generation_is layout k =
    let bits : 6 + layout.page_bits + layout.shard_bits ≡ layout.shard_bits + layout.page_bits + 6 = omega arith in
    ap (λ n. n / 2 ^ layout.shard_bits) (shr-shr k 6 layout.page_bits)
    ∙ shr-shr k (6 + layout.page_bits) layout.shard_bits
    ∙ ap (λ n. k / 2 ^ n) bits

some_test : (b : Bool) (p : Parts) → IsSome (cond b (Some p) None) → b ≡ true
some_test true p h = refl
some_test false p h = h

test_some : (b : Bool) (p : Parts) → b ≡ true → IsSome (cond b (Some p) None)
test_some true p h = refl
test_some false p h = h

-- the keys are the numbers from the first one on
pub keys_are_consecutive : (layout : Layout) → KeysAreConsecutive layout
keys_are_consecutive layout k =
    let d = digits_of layout k in
    let some : 0 < first_key layout = pow_pos (layout.shard_bits + layout.page_bits + 6) in
    let is = generation_is layout k in
    let low = le-div_iff_mul-le {k = first_key layout} {x = 1} {y = k} some in
    let high = div-lt_iff_lt-mul {k = first_key layout} {x = k} {y = layout.gen_max + 1} some in (
      λ h.
          let b = and_parts (nat_le 1 d.generation) (nat_le d.generation layout.gen_max) (some_test _ d h) in
          let first : 1 ≤ k / first_key layout = rw (← is) (leb-true _ _ b.0) in
          let last : k / first_key layout ≤ layout.gen_max = rw (← is) (leb-true _ _ b.1) in
          (omega (arith, low.0 first), omega (arith, high.0 (omega (arith, last)))),
      λ h.
          let first : 1 ≤ d.generation = rw is (low.1 (omega (arith, h.0))) in
          let last : d.generation ≤ layout.gen_max = rw is (omega (arith, high.1 (omega (arith, h.1)))) in
          test_some _ d (tests_true d.generation layout.gen_max first last),
    )
