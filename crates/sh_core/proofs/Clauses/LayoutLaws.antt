-- Each layout keeps the laws on which the core rests, over each shape that fits it.
use Rattle.std.proofs.Common.{◌≡◌, ℕ, ◌+◌, ◌*◌, ◌/◌, ◌%◌, ◌^◌, ◌<◌, ◌≤◌, Bool, true, false, cond, sym, ap, ◌∙◌, refl}
use Rattle.std.proofs.Common.{arith, Option, Some, None, lt-ltb, ltb-true}
use Rattle.std.specs.Prelude.{nat_lt, ◌&&◌}
use Rattle.std.proofs.lemmas.Nat.{div-mul-add, mod-mul-add, div-add-mod'}
use Rattle.std.proofs.Math.Nat.{mod-lt, div-lt_iff_lt-mul}
use Rattle.sh_key.specs.declared.parts.Parts.{Parts}
use Rattle.sh_key.specs.Layout.{Layout, IsLayout, IsInRange, IsKeyOf, unpacked}
use Rattle.sh_key.proofs.Packing.{unpacked-packed, unpacked_is}
use Rattle.sh_shape.specs.Shape.{Numbers, IsShape, Fits, segment_pages}
use Rattle.sh_shape.proofs.PlaceLaws.{few_pages}
use Rattle.sh_slots.specs.declared.hand.KeyRef.{KeyRef}
use Rattle.sh_step.specs.Plans.{name_in, keys_of, plan_of, Lawful}

name_is : (m n : KeyRef) → m.page ≡ n.page → m.slot ≡ n.slot → m.generation ≡ n.generation → m ≡ n
name_is m n a b c = λ i. record { page = a i; slot = b i; generation = c i }

-- what parts within the heap name
record Names (shards pages : ℕ) (p : Parts) (n : KeyRef) : Type 0 where
  pub shard : p.shard < shards
  pub page : p.page < pages
  pub is : n ≡ record { page = p.shard * pages + p.page; slot = p.slot; generation = p.generation }

names : (shards pages : ℕ) (p : Parts) (n : KeyRef) → name_in shards pages p ≡ Some n → Names shards pages p n
names shards pages p n h = go (nat_lt p.shard shards) (nat_lt p.page pages) refl refl h where
  go : (a b : Bool) → nat_lt p.shard shards ≡ a → nat_lt p.page pages ≡ b
      → cond (a && b) (Some (record { page = p.shard * pages + p.page; slot = p.slot; generation = p.generation })) None
      ≡ Some n → Names shards pages p n
  go true true i j h = record { shard = ltb-true p.shard shards i; page = ltb-true p.page pages j; is = cc }
  go true false i j h = absurd (let z : None ≡ Some n = h in cc)
  go false b i j h = absurd (let z : None ≡ Some n = h in cc)

-- a key of the heap: its parts
record IsKey (layout : Layout) (shards pages k : ℕ) (n : KeyRef) : Type 0 where
  pub parts : Parts
  pub is_key : IsKeyOf layout parts k
  pub named : Names shards pages parts n

is_key : (layout : Layout) (shards pages k : ℕ) (n : KeyRef) → (keys_of layout shards pages).unpack k ≡ Some n
    → IsKey layout shards pages k n
unfolding keys_of
is_key layout shards pages k n h = go (unpacked layout k) refl h where
  go : (o : Option Parts) → unpacked layout k ≡ o → (elim o as (λ _. Option KeyRef)
      [ Some p ↦ name_in shards pages p | None ↦ None ]) ≡ Some n → IsKey layout shards pages k n
  go (Some p) e h = record { parts = p; is_key = unpacked_is layout k p e; named = names shards pages p n h }
  go None e h = absurd (let z : None ≡ Some n = h in cc)

packs : (layout : Layout) (shards pages k : ℕ) (n : KeyRef) → IsKey layout shards pages k n → k
    ≡ (keys_of layout shards pages).pack n
unfolding keys_of
packs layout shards pages k n h =
    let p = h.parts in
    let s : n.page / pages ≡ p.shard = ap (λ (m : KeyRef). m.page / pages) h.named.is
    ∙ div-mul-add p.shard pages p.page h.named.page in
    let q : n.page % pages ≡ p.page = ap (λ (m : KeyRef). m.page % pages) h.named.is
    ∙ mod-mul-add p.shard pages p.page h.named.page in
    let g : n.generation ≡ p.generation = ap (λ (m : KeyRef). m.generation) h.named.is in
    let t : n.slot ≡ p.slot = ap (λ (m : KeyRef). m.slot) h.named.is in
    rw (s, q, g, t) (sym h.is_key.is)

unpacks : (layout : Layout) (shards pages : ℕ) (n : KeyRef) → 0 < pages → shards ≤ 2 ^ layout.shard_bits
    → pages ≤ 2 ^ layout.page_bits → 0 < n.generation → n.generation ≤ layout.gen_max → n.page < shards * pages
    → n.slot < 48
    → (keys_of layout shards pages).unpack ((keys_of layout shards pages).pack n) ≡ Some n
unfolding keys_of
unpacks layout shards pages n some few_shards few_pages low high page slot =
    let s : n.page / pages < shards = (div-lt_iff_lt-mul {k = pages} {x = n.page} {y = shards} some).1 page in
    let q : n.page % pages < pages = mod-lt n.page some in
    let p : Parts = record { generation = n.generation; shard = n.page / pages; page = n.page % pages; slot = n.slot }
    in
    let r : IsInRange layout p = record {
      some_generation = omega arith;
      generation_fits = high;
      shard_fits = omega
          arith;
      page_fits = omega arith;
      slot_fits = omega arith;
    } in
    ap (λ (o : Option Parts). elim o as (λ _. Option KeyRef) [ Some p ↦ name_in shards pages p | None ↦ None ])
    (unpacked-packed layout p r)
    ∙ rw (lt-ltb (n.page / pages) shards s, lt-ltb (n.page % pages) pages q, div-add-mod' n.page pages) refl

pub plan_lawful : (layout : Layout) (n : Numbers) → IsLayout layout → IsShape n → Fits layout n
    → Lawful (plan_of layout n)
unfolding keys_of
plan_lawful layout n l s f =
    let some : 0 < segment_pages * n.segments = let a = s.some_segment in omega arith in
    record {
      names = λ m a b c d. unpacks layout n.shards (segment_pages * n.segments) m some f.shards_fit f.pages_fit a
          (gen_le m b) c d;
      keys = λ k m h. packs layout n.shards (segment_pages * n.segments) k m
          (is_key layout n.shards (segment_pages * n.segments) k m h);
      begins = λ k m h. begins k m (is_key layout n.shards (segment_pages * n.segments) k m h);
      passes = s.few_passes;
      generations = gens;
      guards = guards;
      last_generation = last;
      few_pages = few_pages n s;
    } where
      gen_le : (m : KeyRef) → m.generation ≤ (keys_of layout n.shards (segment_pages * n.segments)).gen_max
          → m.generation ≤ layout.gen_max
      gen_le m h = h

      begins : (k : ℕ) (m : KeyRef) → IsKey layout n.shards (segment_pages * n.segments) k m → 0 < m.generation
      begins k m h = let g : m.generation ≡ h.parts.generation = ap (λ (u : KeyRef). u.generation) h.named.is
          in let r = h.is_key.in_range.some_generation in omega arith

      gens : 0 < (keys_of layout n.shards (segment_pages * n.segments)).gen_max
      gens = l.some_generation

      guards : (keys_of layout n.shards (segment_pages * n.segments)).guard_max + 64 < 2 ^ 30
      guards = l.guards_fit

      last : (keys_of layout n.shards (segment_pages * n.segments)).gen_max < 2 ^ 32
      last = l.generations_fit
