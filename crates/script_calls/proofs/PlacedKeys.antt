-- Which numbers are keys, and which shard a key is of.
use Rattle.std.proofs.Common.{◌≡◌, ℕ, ◌<◌, ◌==◌, ◌&&◌, Bool, true, false, refl, sym, ap, subst, ◌∙◌, Option, Some, None}
use Rattle.std.proofs.Common.{ltb-true, eq-eqb}
use Rattle.std.specs.Prelude.{nat_lt, IsSome}
use Rattle.std.proofs.lemmas.Option.{same_Some}
use Rattle.sh_key.specs.declared.parts.Parts.{Parts}
use Rattle.sh_key.specs.Layout.{Layout, unpacked}
use Rattle.sh_shape.specs.Shape.{Numbers}
use Rattle.sh_shape.specs.Places.{pages_of, page_number}
use Rattle.sh_slots.specs.declared.hand.KeyRef.{KeyRef}
use Rattle.sh_step.specs.Moves.{has_place, place_named}
use Rattle.sh_step.specs.Plans.{plan_of, shard_of}
use Rattle.sh_step.proofs.NameLaws.{no_key, no_place, a_place}
use Rattle.sh_pass.proofs.OwnMay.{home_is}
use Rattle.script_calls.specs.Parts.{is_placed_key, is_key_of_shard}

placed_by : (layout : Layout) (shape : Numbers) (key : ℕ) (o : Option Parts) → unpacked layout key ≡ o
    → is_placed_key layout shape key ≡ elim o as (λ _. Bool) [ Some p ↦ has_place shape p | None ↦ false ]
placed_by layout shape key o e = ap (λ (z : Option Parts). elim z as (λ _. Bool)
    [ Some p ↦ has_place shape p | None ↦ false ]) e

none_is_some : {A : Type 0} (o : Option A) → o ≡ None → IsSome o → ⊥
none_is_some {A} o e h = let z : IsSome {T = A} None = subst (λ z. IsSome z) e h in cc

pub placed : (layout : Layout) (shape : Numbers) (key : ℕ) → IsSome (place_named (plan_of layout shape) key)
    → is_placed_key layout shape key ≡ true
placed layout shape key some = go (unpacked layout key) refl
  where
    inside : (p : Parts) → unpacked layout key ≡ Some p → (b : Bool) → has_place shape p ≡ b
        → is_placed_key layout shape key ≡ true
    inside p e true f = placed_by layout shape key (Some p) e ∙ f
    inside p e false f = absurd (none_is_some (place_named (plan_of layout shape) key) (no_place layout shape key p e f)
        some)

    go : (o : Option Parts) → unpacked layout key ≡ o → is_placed_key layout shape key ≡ true
    go None e = absurd (none_is_some (place_named (plan_of layout shape) key) (no_key layout shape key e) some)
    go (Some p) e = inside p e (has_place shape p) refl

none_some : {A : Type 0} (o : Option A) (x : A) → o ≡ None → o ≡ Some x → ⊥
none_some o x e f = let z : None ≡ Some x = sym e ∙ f in cc

pub not_placed : (layout : Layout) (shape : Numbers) (key : ℕ) → place_named (plan_of layout shape) key ≡ None
    → is_placed_key layout shape key ≡ false
not_placed layout shape key none = go (unpacked layout key) refl
  where
    inside : (p : Parts) → unpacked layout key ≡ Some p → (b : Bool) → has_place shape p ≡ b
        → is_placed_key layout shape key ≡ false
    inside p e true f = absurd (none_some (place_named (plan_of layout shape) key) _ none
        (a_place layout shape key p e f))
    inside p e false f = placed_by layout shape key (Some p) e ∙ f

    go : (o : Option Parts) → unpacked layout key ≡ o → is_placed_key layout shape key ≡ false
    go None e = placed_by layout shape key None e
    go (Some p) e = inside p e (has_place shape p) refl

-- ---- the shard of a key

pub unpacks : (layout : Layout) (shape : Numbers) (key : ℕ) (x : KeyRef)
    → place_named (plan_of layout shape) key ≡ Some x
    → IsSome (unpacked layout key)
unpacks layout shape key x e = go (unpacked layout key) refl
  where
    go : (o : Option Parts) → unpacked layout key ≡ o → IsSome (unpacked layout key)
    go None f = absurd (none_some (place_named (plan_of layout shape) key) x (no_key layout shape key f) e)
    go (Some p) f = subst (λ (z : Option Parts). IsSome z) (sym f) refl

both_of : (a b c : Bool) → (a && b && c) ≡ true → b ≡ true
both_of true true c e = refl
both_of true false c e = absurd (let z : false ≡ true = e in cc)
both_of false b c e = absurd (let z : false ≡ true = e in cc)

pub of_shard : (layout : Layout) (shape : Numbers) (key n : ℕ) (x : KeyRef)
    → place_named (plan_of layout shape) key ≡ Some x → shard_of (plan_of layout shape) x.page ≡ n
    → is_key_of_shard layout (Some n) key ≡ true
of_shard layout shape key n x e h = go (unpacked layout key) refl
  where
    here : (p : Parts) → unpacked layout key ≡ Some p → has_place shape p ≡ true → p.shard ≡ n
    here p f inside =
        let y : KeyRef = record { page = page_number shape p.shard p.page; slot = p.slot; generation = p.generation } in
        let same : y ≡ x = same_Some y x (sym (a_place layout shape key p f inside) ∙ e) in
        let few : p.page < pages_of shape = ltb-true p.page (pages_of shape)
        (both_of (nat_lt p.shard shape.shards) (nat_lt p.page (pages_of shape)) (nat_lt p.slot 48) inside) in
        sym (home_is (plan_of layout shape) p.shard p.page few) ∙
        (ap (λ (z : KeyRef). shard_of (plan_of layout shape) z.page) same ∙ h)

    inside_or_not : (p : Parts) → unpacked layout key ≡ Some p → (b : Bool) → has_place shape p ≡ b
        → is_key_of_shard layout (Some n) key ≡ true
    inside_or_not p f true i = ap (λ (o : Option Parts). elim o as (λ _. Bool) [ Some p ↦ p.shard == n | None ↦ false ])
        f ∙ eq-eqb p.shard n (here p f i)
    inside_or_not p f false i = absurd (none_some (place_named (plan_of layout shape) key) x
        (no_place layout shape key p f i) e)

    go : (o : Option Parts) → unpacked layout key ≡ o → is_key_of_shard layout (Some n) key ≡ true
    go None f = absurd (none_some (place_named (plan_of layout shape) key) x (no_key layout shape key f) e)
    go (Some p) f = inside_or_not p f (has_place shape p) refl
