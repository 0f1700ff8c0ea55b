-- The parts of a key whose place a shape has.
use Rattle.std.proofs.Common.{◌≡◌, ◌≢◌, ℕ, ◌+◌, ◌*◌, ◌<◌, ◌∙◌, Bool, true, false, Option, None, Some, refl, ap, sym}
use Rattle.std.proofs.Common.{ltb-true}
use Rattle.sh_key.specs.declared.parts.Parts.{Parts}
use Rattle.sh_key.specs.Layout.{Layout, unpacked}
use Rattle.sh_shape.specs.Places.{pages_of}
use Rattle.sh_shape.specs.Shape.{Numbers}
use Rattle.sh_step.specs.Moves.{has_place, place_named}
use Rattle.sh_step.specs.Plans.{plan_of}
use Rattle.sh_slots.specs.declared.hand.KeyRef.{KeyRef}
use Rattle.sh_step.proofs.NameLaws.{no_key, no_place, a_place}
use Rattle.sh_pass.specs.Placing.{IsPlacedBy}
use Rattle.sh_step.proofs.Truths.{and3}

pub parts_have_place : (layout : Layout) (s : Numbers) (k : ℕ) (p : Parts) → place_named (plan_of layout s) k ≢ None
    → unpacked layout k ≡ Some p → has_place s p ≡ true
parts_have_place layout s k p named is = go (has_place s p) refl where
  go : (b : Bool) → has_place s p ≡ b → b ≡ true
  go true e = refl
  go false e = absurd (named (no_place layout s k p is e))

pub parts_are_below : (layout : Layout) (s : Numbers) (k : ℕ) (p : Parts) → place_named (plan_of layout s) k ≢ None
    → unpacked layout k ≡ Some p → (p.shard < s.shards) × (p.page < pages_of s)
parts_are_below layout s k p named is =
    let all = and3 _ _ _ (parts_have_place layout s k p named is) in
    (ltb-true p.shard s.shards all.0, ltb-true p.page (pages_of s) all.1)

-- the place of a key depends on the number of pages of a shard
pub placed_by_pages : (layout : Layout) (s : Numbers) (k : ℕ) (x : KeyRef) → place_named (plan_of layout s) k ≡ Some x
    → IsPlacedBy layout (pages_of s) k x
placed_by_pages layout s k x at other pages there = go (unpacked layout k) refl where
  go : (o : Option Parts) → unpacked layout k ≡ o → place_named (plan_of layout other) k ≡ Some x
  go None e = absurd (there (no_key layout other k e))
  go (Some p) e =
      let here = parts_have_place layout s k p (λ none. let no : ⊥ = cc in no) e in
      let N : ℕ → Option KeyRef = λ n. Some (record {
        page = p.shard * n + p.page;
        slot = p.slot;
        generation = p.generation;
      }) in
      a_place layout other k p e (parts_have_place layout other k p there e)
      ∙ (ap N pages ∙ (sym (a_place layout s k p e here) ∙ at))
