-- A key that a layout unpacks to a name is packed from parts in range.
use Rattle.std.proofs.Common.{◌≡◌, refl, ℕ, ◌+◌, ◌*◌, Bool, true, false, cond, ap, ◌∙◌, sym, subst, ltb-true, Option}
use Rattle.std.proofs.Common.{Some, None}
use Rattle.std.specs.Prelude.{nat_lt, ◌&&◌}
use Rattle.std.proofs.lemmas.Nat.{div-mul-add, mod-mul-add}
use Rattle.sh_key.specs.declared.parts.Parts.{Parts}
use Rattle.sh_key.specs.Layout.{Layout, IsInRange, unpacked}
use Rattle.sh_key.proofs.Packing.{unpacked_is}
use Rattle.sh_slots.specs.declared.hand.KeyRef.{KeyRef}
use Rattle.sh_step.specs.Plans.{name_in, keys_of, parts_of}

-- what parts name within the heap are the parts of that name
named_parts : (shards pages : ℕ) (p : Parts) (n : KeyRef) → name_in shards pages p ≡ Some n → p ≡ parts_of pages n
named_parts shards pages p n h = go (nat_lt p.shard shards) (nat_lt p.page pages) refl h where
  name : KeyRef
  name = record { page = p.shard * pages + p.page; slot = p.slot; generation = p.generation }

  go : (a b : Bool) → nat_lt p.page pages ≡ b → cond (a && b) (Some name) None ≡ Some n → p ≡ parts_of pages n
  go true true below h =
      let is : name ≡ n = cc in
      let page = ltb-true p.page pages below in
      let shard = div-mul-add p.shard pages p.page page in
      let local = mod-mul-add p.shard pages p.page page in
      let same : p ≡ parts_of pages name = λ i. record {
        generation = p.generation;
        shard = sym shard i;
        page = sym
            local i;
        slot = p.slot;
      } in
      same ∙ ap (parts_of pages) is
  go true false below h = absurd (let no : ⊥ = cc in no)
  go false b below h = absurd (let no : ⊥ = cc in no)

pub parts_in_range : (layout : Layout) (shards pages k : ℕ) (n : KeyRef)
    → (keys_of layout shards pages).unpack k ≡ Some n
    → IsInRange layout (parts_of pages n)
unfolding keys_of
parts_in_range layout shards pages k n h = go (unpacked layout k) refl h where
  go : (o : Option Parts) → unpacked layout k ≡ o → (elim o as (λ _. Option KeyRef)
      [ Some p ↦ name_in shards pages p | None ↦ None ]) ≡ Some n → IsInRange layout (parts_of pages n)
  go (Some p) e h = subst (IsInRange layout) (named_parts shards pages p n h) (unpacked_is layout k p e).in_range
  go None e h = absurd (let no : ⊥ = cc in no)
