-- Each key of a page is listed once among the page's keys, and no other key is.
use Rattle.std.proofs.Common.{◌≡◌, ℕ, zero, suc, ◌+◌, ◌*◌, ◌<◌, ◌≤◌, ◌==◌, ◌&&◌, Bool, true, false, cond, sym, refl, ap}
use Rattle.std.proofs.Common.{◌∙◌, subst, arith, Option, Some, None, eqb-true}
use Rattle.std.specs.Prelude.{nat_lt, not}
use Rattle.std.proofs.lemmas.Bool.Decides.{nat_tests}
use Rattle.sh_key.specs.declared.parts.Parts.{Parts}
use Rattle.sh_key.specs.Layout.{Layout, unpacked}
use Rattle.sh_key.proofs.Packing.{unpacked_is}
use Rattle.sh_slots.specs.declared.hand.KeyRef.{KeyRef}
use Rattle.sh_slots.specs.declared.hand.SlotRef.{SlotRef}
use Rattle.sh_slots.specs.Slots.{same_slot, slot_ref_of, name_at, slot_refs}
use Rattle.sh_step.specs.Collections.{total, if1}
use Rattle.sh_step.specs.Plans.{Plan, Lawful, heap_pages, plan_of, keys_of, name_in}
use Rattle.sh_core.specs.Lists.{times}
use Rattle.sh_core.specs.Stacks.{slot_ref}
use Rattle.sh_core.proofs.Slots.CrowdedAndClass.{slots_total}
use Rattle.sh_core.proofs.Slots.Slots.{same_slot-true, same_slot-refl}
use Rattle.sh_core.proofs.Sums.Totals.{total_append}
use Rattle.sh_table.specs.Reached.{PlansAreLawful}
use Rattle.sh_gather.specs.PageKeys.{keys_of_slot, keys_of_slots, page_keys, PageKeysAreAll}
use Rattle.sh_gather.proofs.PageKeys.{up_to}
use Rattle.sh_gather.proofs.PageNumbers.{keys_total}

-- a key's generation is one of the layout
named_generation : (shards pages : ℕ) (p : Parts) (n : KeyRef) → name_in shards pages p ≡ Some n → n.generation
    ≡ p.generation
named_generation shards pages p n h = go (nat_lt p.shard shards && nat_lt p.page pages) h where
  go : (b : Bool) → cond b (Some (record { page = p.shard * pages + p.page; slot = p.slot; generation = p.generation }))
      None ≡ Some n → n.generation ≡ p.generation
  go true e = let z : record { page = p.shard * pages + p.page; slot = p.slot; generation = p.generation } ≡ n = cc
      in ap (λ (x : KeyRef). x.generation) (sym z)
  go false e = absurd (let z : None ≡ Some n = e in cc)

pub last_generation : (layout : Layout) (shards pages k : ℕ) (n : KeyRef) → (keys_of layout shards pages).unpack k
    ≡ Some n
    → n.generation ≤ (keys_of layout shards pages).gen_max
unfolding keys_of
last_generation layout shards pages k n h = go (unpacked layout k) refl h where
  go : (o : Option Parts) → unpacked layout k ≡ o → (elim o as (λ _. Option KeyRef)
      [ Some p ↦ name_in shards pages p | None ↦ None ]) ≡ Some n → n.generation ≤ layout.gen_max
  go (Some p) e h = let r = (unpacked_is layout k p e).in_range.generation_fits
      in let s = named_generation shards pages p n h in omega arith
  go None e h = absurd (let z : None ≡ Some n = h in cc)

module _ (plan : Plan) (laws : Lawful plan) (ranges : (k : ℕ) (n : KeyRef) → plan.keys.unpack k ≡ Some n
    → n.generation ≤ plan.keys.gen_max) (q : ℕ) (page : q < heap_pages plan) (k : ℕ) where
  -- what any listed key names
  in_slot : (t m : ℕ) → t < 48 → m ≤ plan.keys.gen_max → 0 < times k (keys_of_slot plan (slot_ref q t) m) → (n : KeyRef)
      × (plan.keys.unpack k ≡ Some n) × (n.page ≡ q) × (n.slot < 48)
  unfolding total keys_of_slot
  in_slot t zero low le some = absurd (omega arith)
  in_slot t (suc m) low le some = go (plan.keys.pack (name_at (slot_ref q t) (suc m)) == k) refl some
      (λ more. in_slot t m low (omega arith) more) where
        go : (b : Bool) → (plan.keys.pack (name_at (slot_ref q t) (suc m)) == k) ≡ b
            → 0 < if1 b + times k (keys_of_slot plan (slot_ref q t) m) →
            (0 < times k (keys_of_slot plan (slot_ref q t) m)
            → (n : KeyRef) × (plan.keys.unpack k ≡ Some n) × (n.page ≡ q)
            × (n.slot < 48)) → (n : KeyRef) × (plan.keys.unpack k ≡ Some n) × (n.page ≡ q) × (n.slot < 48)
        go true e s rest = let i = eqb-true (plan.keys.pack (name_at (slot_ref q t) (suc m))) k e
            in (
              name_at (slot_ref q t) (suc m),
              subst (λ (j : ℕ). plan.keys.unpack j ≡ Some (name_at (slot_ref q t) (suc m))) i
                  (laws.names (name_at (slot_ref q t) (suc m)) (omega arith) le page low),
              refl,
              low,
            )
        go false e s rest = rest (omega arith)

  in_slots : (s n : ℕ) → s + n ≤ 48 → 0 < times k (keys_of_slots plan (slot_refs q s n)) → (n : KeyRef)
      × (plan.keys.unpack k ≡ Some n) × (n.page ≡ q) × (n.slot < 48)
  unfolding total keys_of_slots slot_refs
  in_slots s zero le some = absurd (omega arith)
  in_slots s (suc n) le some =
      let both = total_append (λ (y : ℕ). if1 (y == k)) (keys_of_slot plan (slot_ref q s) plan.keys.gen_max)
      (keys_of_slots plan (slot_refs q (s + 1) n)) in
      go (nat_lt 0 (times k (keys_of_slot plan (slot_ref q s) plan.keys.gen_max))) refl (omega arith)
      (λ more. in_slots (s + 1) n (omega arith) more) where
        go : (b : Bool) → nat_lt 0 (times k (keys_of_slot plan (slot_ref q s) plan.keys.gen_max)) ≡ b
            → 0 < times k (keys_of_slot plan (slot_ref q s) plan.keys.gen_max) + times k
            (keys_of_slots plan (slot_refs q (s + 1) n)) → (0 < times k (keys_of_slots plan (slot_refs q (s + 1) n))
            → (n : KeyRef) × (plan.keys.unpack k ≡ Some n) × (n.page ≡ q) × (n.slot < 48)) → (n : KeyRef)
            × (plan.keys.unpack k ≡ Some n) × (n.page ≡ q) × (n.slot < 48)
        go true e h rest = in_slot s plan.keys.gen_max (omega arith) (omega arith)
            (let z : 0 < times k (keys_of_slot plan (slot_ref q s) plan.keys.gen_max) = grind (arith, nat_tests) in z)
        go false e h rest = let z : times k (keys_of_slot plan (slot_ref q s) plan.keys.gen_max)
            ≡ 0 = grind (arith, nat_tests) in rest (omega arith)

  -- a key of the page
  module _ (n : KeyRef) (unpacks : plan.keys.unpack k ≡ Some n) (here : n.page ≡ q) (low : n.slot < 48) where
    -- another name is packed as another key
    other : (t g : ℕ) → t < 48 → 0 < g → g ≤ plan.keys.gen_max → (name_at (slot_ref q t) g ≡ n → ⊥)
        → if1 (plan.keys.pack (name_at (slot_ref q t) g) == k) ≡ 0
    other t g small some le ne = go (plan.keys.pack (name_at (slot_ref q t) g) == k) refl where
      go : (b : Bool) → (plan.keys.pack (name_at (slot_ref q t) g) == k) ≡ b → if1 b ≡ 0
      go false e = refl
      go true e =
          let i = eqb-true (plan.keys.pack (name_at (slot_ref q t) g)) k e in
          let j : Some (name_at (slot_ref q t) g) ≡ Some n
          = sym (laws.names (name_at (slot_ref q t) g) some le page small) ∙ (ap plan.keys.unpack i ∙ unpacks) in
          absurd (ne (let z : name_at (slot_ref q t) g ≡ n = cc in z))

    one_slot : (t : ℕ) → t < 48 → times k (keys_of_slot plan (slot_ref q t) plan.keys.gen_max)
        ≡ if1 (same_slot (slot_ref_of n) (slot_ref q t))
    one_slot t small = go (same_slot (slot_ref_of n) (slot_ref q t)) refl where
      top : n.generation ≤ plan.keys.gen_max
      top = ranges k n unpacks

      go : (b : Bool) → same_slot (slot_ref_of n) (slot_ref q t) ≡ b
          → times k (keys_of_slot plan (slot_ref q t) plan.keys.gen_max) ≡ if1 b
      go true e =
          let s : slot_ref_of n ≡ slot_ref q t = same_slot-true (slot_ref q t) (slot_ref_of n) e in
          let i : name_at (slot_ref q t) n.generation ≡ n = ap (λ (x : SlotRef). name_at x n.generation) (sym s) in
          let y : plan.keys.pack (name_at (slot_ref q t) n.generation) ≡ k = ap plan.keys.pack i
          ∙ sym (laws.keys k n unpacks) in
          let z : (plan.keys.pack (name_at (slot_ref q t) n.generation) == k) ≡ true = grind (arith, nat_tests) in
          up_to plan (slot_ref q t) (λ j. if1 (j == k)) n.generation 1 (ap if1 z)
          (λ g some le ne. other t g small some le (λ a. ne (ap (λ (x : KeyRef). x.generation) a))) plan.keys.gen_max
          (omega arith) (laws.begins k n unpacks) top
      go false e =
          let apart : (g : ℕ) → name_at (slot_ref q t) g ≡ n → ⊥ = λ g a.
          (let c : slot_ref_of n ≡ slot_ref q t = ap slot_ref_of (sym a) in
          let d : same_slot (slot_ref_of n) (slot_ref q t) ≡ true
          = ap (λ (x : SlotRef). same_slot x (slot_ref q t)) c ∙ same_slot-refl (slot_ref q t) in
          let z : true ≡ false = sym d ∙ e in cc) in
          up_to plan (slot_ref q t) (λ j. if1 (j == k)) n.generation 0
          (other t n.generation small (laws.begins k n unpacks) top (apart n.generation))
          (λ g some le ne. other t g small some le (apart g)) plan.keys.gen_max (omega arith)
          (laws.begins k n unpacks) top

    stands_once : times k (page_keys plan q) ≡ 1
    stands_once =
        let all = keys_total plan (λ j. if1 (j == k)) (λ x. if1 (same_slot (slot_ref_of n) x)) q 0 48
        (λ t a b. one_slot t (omega arith)) in
        let sum = slots_total (slot_ref_of n) q 0 48 in
        let inside : if1 ((n.page == q) && not (nat_lt n.slot 0) && nat_lt n.slot (0 + 48))
        ≡ 1 = grind (arith, nat_tests) in omega arith

pub page_keys_once : PlansAreLawful → PageKeysAreAll
page_keys_once lawful layout shape a b c q k page =
    let plan : Plan = plan_of layout shape in
    let laws : Lawful plan = lawful layout shape a b c in
    let ranges = last_generation layout shape.shards (8 * shape.segments) in (
      (λ n e here low. stands_once plan laws ranges q page k n e here low),
      λ some. in_slots plan laws ranges q page k 0
          48 (omega arith) some,
    )
