-- What an action names: a key, a page's name or a slot's name names a place exactly if the heap has it.
use Rattle.std.proofs.Common.{◌≡◌, ℕ, ◌<◌, ◌&&◌, Bool, true, false, cond, refl, ap, subst, ◌∙◌, Option, Some, None}
use Rattle.std.specs.Prelude.{nat_lt, option_and_then}
use Rattle.sh_slots.specs.declared.hand.SlotRef.{SlotRef}
use Rattle.sh_slots.specs.declared.hand.KeyRef.{KeyRef}
use Rattle.sh_step.specs.declared.action.PageName.{PageName}
use Rattle.sh_step.specs.declared.action.SlotName.{SlotName}
use Rattle.sh_step.specs.Conditions.{Named, HasPage, its_page}
use Rattle.sh_step.specs.Moves.{place_named, page_named, slot_named, named, paged, slotted}
use Rattle.sh_step.specs.Plans.{Plan, heap_pages, page_of, slot_of}
use Rattle.sh_step.proofs.Truths.{and2, and3, lt_of, lt_true, no_some}

-- what there is under a condition
guarded : {A : Type 0} (b : Bool) (a c : A) → cond b (Some a) None ≡ Some c → (b ≡ true) × (a ≡ c)
guarded true a c h = (refl, cc)
guarded false a c h = no_some c h

-- ---- what is named is a place of the heap

pub place_is : (plan : Plan) (k : ℕ) (x : KeyRef) → place_named plan k ≡ Some x → Named plan k x
place_is plan k x h = go (plan.keys.unpack k) refl h where
  go : (o : Option KeyRef) → plan.keys.unpack k ≡ o → (elim o as (λ _. Option KeyRef) [
    | Some x ↦ cond
        (nat_lt x.page (heap_pages plan) && nat_lt x.slot 48) (Some x) None
    | None ↦ None
  ]) ≡ Some x → Named plan k x
  go None is h = no_some x h
  go (Some y) is h =
      let g = guarded (nat_lt y.page (heap_pages plan) && nat_lt y.slot 48) y x h in
      let d = and2 (nat_lt y.page (heap_pages plan)) (nat_lt y.slot 48) g.0 in
      let names : Named plan k y = record {
        unpacks = is;
        page = lt_of y.page (heap_pages plan) d.0;
        slot = lt_of y.slot 48 d.1;
      } in
      subst (Named plan k) g.1 names

pub page_is : (plan : Plan) (y : PageName) (q : ℕ) → page_named plan y ≡ Some q → HasPage plan y × (page_of plan y ≡ q)
page_is plan y q h =
    let g = guarded (nat_lt y.shard plan.shards && nat_lt y.page plan.pages) (page_of plan y) q h in
    let d = and2 (nat_lt y.shard plan.shards) (nat_lt y.page plan.pages) g.0
    in (record { shard = lt_of y.shard plan.shards d.0; page = lt_of y.page plan.pages d.1 }, g.1)

pub slot_is : (plan : Plan) (y : SlotName) (x : SlotRef) → slot_named plan y ≡ Some x → HasPage plan (its_page y)
    × (y.slot < 48) × (slot_of plan y ≡ x)
slot_is plan y x h =
    let g = guarded (nat_lt y.shard plan.shards && nat_lt y.page plan.pages && nat_lt y.slot 48) (slot_of plan y) x h in
    let d = and3 (nat_lt y.shard plan.shards) (nat_lt y.page plan.pages) (nat_lt y.slot 48) g.0
    in (
      record { shard = lt_of y.shard plan.shards d.0; page = lt_of y.page plan.pages d.1 },
      lt_of y.slot 48 d.2,
      g.1,
    )

-- ---- a place of the heap is named

pub is_place : (plan : Plan) (k : ℕ) (x : KeyRef) → Named plan k x → place_named plan k ≡ Some x
is_place plan k x n =
    ap (λ (o : Option KeyRef). elim o as (λ _. Option KeyRef) [
      | Some x ↦ cond
          (nat_lt x.page (heap_pages plan) && nat_lt x.slot 48) (Some x) None
      | None ↦ None
    ]) n.unpacks
    ∙ (ap (λ b. cond (b && nat_lt x.slot 48) (Some x) None) (lt_true x.page (heap_pages plan) n.page)
    ∙ ap (λ b. cond b (Some x) None) (lt_true x.slot 48 n.slot))

pub is_page : (plan : Plan) (y : PageName) → HasPage plan y → page_named plan y ≡ Some (page_of plan y)
is_page plan y h =
    ap (λ b. cond (b && nat_lt y.page plan.pages) (Some (page_of plan y)) None) (lt_true y.shard plan.shards h.shard)
    ∙ ap (λ b. cond b (Some (page_of plan y)) None) (lt_true y.page plan.pages h.page)

pub is_slot : (plan : Plan) (y : SlotName) → HasPage plan (its_page y) → y.slot < 48 → slot_named plan y
    ≡ Some (slot_of plan y)
is_slot plan y h s =
    ap (λ b. cond (b && nat_lt y.page plan.pages && nat_lt y.slot 48) (Some (slot_of plan y)) None)
    (lt_true y.shard plan.shards h.shard)
    ∙ (ap (λ b. cond (b && nat_lt y.slot 48) (Some (slot_of plan y)) None) (lt_true y.page plan.pages h.page)
    ∙ ap (λ b. cond b (Some (slot_of plan y)) None) (lt_true y.slot 48 s))

-- ---- what a lookup gives

-- what there is behind an option
behind : {A B : Type 0} (f : A → Option B) (o : Option A) (m : B) → option_and_then f o ≡ Some m → (x : A)
    × (o ≡ Some x) × (f x ≡ Some m)
behind f (Some x) m h = (x, refl, h)
behind f None m h = no_some m h

pub named_of : {A : Type 0} (plan : Plan) (k : ℕ) (f : KeyRef → Option A) (m : A) → named plan k f ≡ Some m
    → (x : KeyRef) × Named plan k x × (f x ≡ Some m)
named_of plan k f m h = let b = behind f (place_named plan k) m h in (b.0, place_is plan k b.0 b.1, b.2)

pub paged_of : {A : Type 0} (plan : Plan) (y : PageName) (f : ℕ → Option A) (m : A) → paged plan y f ≡ Some m
    → HasPage plan y × (f (page_of plan y) ≡ Some m)
paged_of plan y f m h =
    let b = behind f (page_named plan y) m h in
    let n = page_is plan y b.0 b.1 in (n.0, ap f n.1 ∙ b.2)

pub slotted_of : {A : Type 0} (plan : Plan) (y : SlotName) (f : SlotRef → Option A) (m : A) → slotted plan y f ≡ Some m
    → HasPage plan (its_page y) × (y.slot < 48) × (f (slot_of plan y) ≡ Some m)
slotted_of plan y f m h =
    let b = behind f (slot_named plan y) m h in
    let n = slot_is plan y b.0 b.1 in (n.0, n.1, ap f n.2 ∙ b.2)

pub is_named : {A : Type 0} (plan : Plan) (k : ℕ) (f : KeyRef → Option A) (x : KeyRef) → Named plan k x → named plan k f
    ≡ f x
is_named plan k f x n = ap (option_and_then f) (is_place plan k x n)

pub is_paged : {A : Type 0} (plan : Plan) (y : PageName) (f : ℕ → Option A) → HasPage plan y → paged plan y f
    ≡ f (page_of plan y)
is_paged plan y f h = ap (option_and_then f) (is_page plan y h)

pub is_slotted : {A : Type 0} (plan : Plan) (y : SlotName) (f : SlotRef → Option A) → HasPage plan (its_page y)
    → y.slot < 48 → slotted plan y f ≡ f (slot_of plan y)
is_slotted plan y f h s = ap (option_and_then f) (is_slot plan y h s)
