-- What the key of a layout names in a shape.
use Rattle.std.proofs.Common.{◌≡◌, ℕ, ◌&&◌, Bool, true, false, cond, Option, Some, None, refl, ap, ◌∙◌, ltb-true}
use Rattle.std.proofs.Common.{lt-ltb}
use Rattle.std.specs.Prelude.{nat_lt}
use Rattle.sh_key.specs.declared.parts.Parts.{Parts}
use Rattle.sh_key.specs.Layout.{Layout, unpacked}
use Rattle.sh_shape.specs.Shape.{Numbers}
use Rattle.sh_shape.specs.Places.{pages_of, all_pages, page_number}
use Rattle.sh_shape.proofs.PlaceLaws.{page_is_below}
use Rattle.sh_slots.specs.declared.hand.KeyRef.{KeyRef}
use Rattle.sh_step.specs.Plans.{plan_of, keys_of, name_in}
use Rattle.sh_step.specs.Moves.{has_place, place_named}
use Rattle.sh_step.proofs.Truths.{and3}

-- the place of a name that the shape may have
placed : Numbers → Option KeyRef → Option KeyRef
placed n o = elim o [ Some x ↦ cond (nat_lt x.page (all_pages n) && nat_lt x.slot 48) (Some x) None | None ↦ None ]

-- what the parts of a key name
of_parts : Numbers → Option Parts → Option KeyRef
of_parts n o = placed n (elim o [ Some p ↦ name_in n.shards (pages_of n) p | None ↦ None ])

name_of_parts : Numbers → Parts → KeyRef
name_of_parts n p = record { page = page_number n p.shard p.page; slot = p.slot; generation = p.generation }

pub no_key : (layout : Layout) (n : Numbers) (k : ℕ) → unpacked layout k ≡ None → place_named (plan_of layout n) k
    ≡ None
unfolding keys_of placed of_parts
no_key layout n k e = ap (of_parts n) e

neither : (d : Bool) (x : KeyRef) → cond (d && false) (Some x) None ≡ None
neither true x = refl
neither false x = refl

out_of_shape : (n : Numbers) (p : Parts) (a b c : Bool) → nat_lt p.shard n.shards ≡ a → nat_lt p.page (pages_of n) ≡ b
    → nat_lt p.slot 48 ≡ c → (a && b && c) ≡ false → of_parts n (Some p) ≡ None
unfolding placed of_parts name_of_parts
out_of_shape n p false b c ea eb ec e = ap (λ t. placed n (cond (t && nat_lt p.page (pages_of n))
    (Some (name_of_parts n p)) None)) ea
out_of_shape n p true false c ea eb ec e = ap (λ t. placed n
    (cond (t && nat_lt p.page (pages_of n)) (Some (name_of_parts n p)) None)) ea
    ∙ ap (λ t. placed n (cond t (Some (name_of_parts n p)) None)) eb
out_of_shape n p true true false ea eb ec e =
    let x = name_of_parts n p in
    ap (λ t. placed n (cond (t && nat_lt p.page (pages_of n)) (Some x) None)) ea
    ∙ (ap (λ t. placed n (cond t (Some x) None)) eb
    ∙ (ap (λ t. cond (nat_lt x.page (all_pages n) && t) (Some x) None) ec
    ∙ neither (nat_lt x.page (all_pages n)) x))
out_of_shape n p true true true ea eb ec e = absurd (let no : ⊥ = cc in no)

pub no_place : (layout : Layout) (n : Numbers) (k : ℕ) (p : Parts) → unpacked layout k ≡ Some p → has_place n p ≡ false
    → place_named (plan_of layout n) k ≡ None
unfolding keys_of placed of_parts
no_place layout n k p e outside = ap (of_parts n) e ∙ out_of_shape n p _ _ _ refl refl refl outside

in_shape : (n : Numbers) (p : Parts) → nat_lt p.shard n.shards ≡ true → nat_lt p.page (pages_of n) ≡ true
    → nat_lt p.slot 48 ≡ true → of_parts n (Some p) ≡ Some (name_of_parts n p)
unfolding placed of_parts name_of_parts
in_shape n p ea eb ec =
    let x = name_of_parts n p in
    let below = page_is_below n p.shard p.page (ltb-true p.shard n.shards ea) (ltb-true p.page (pages_of n) eb) in
    ap (λ t. placed n (cond (t && nat_lt p.page (pages_of n)) (Some x) None)) ea
    ∙ (ap (λ t. placed n (cond t (Some x) None)) eb
    ∙ (ap (λ t. cond (t && nat_lt x.slot 48) (Some x) None) (lt-ltb x.page (all_pages n) below)
    ∙ ap (λ t. cond t (Some x) None) ec))

pub a_place : (layout : Layout) (n : Numbers) (k : ℕ) (p : Parts) → unpacked layout k ≡ Some p → has_place n p ≡ true
    → place_named (plan_of layout n) k ≡ Some (record {
      page = page_number n p.shard p.page;
      slot = p.slot;
      generation =
          p.generation;
    })
unfolding keys_of placed of_parts name_of_parts
a_place layout n k p e inside =
    let all = and3 (nat_lt p.shard n.shards) (nat_lt p.page (pages_of n)) (nat_lt p.slot 48) inside in
    ap (of_parts n) e ∙ in_shape n p all.0 all.1 all.2
