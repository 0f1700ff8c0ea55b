-- Pages, the shards that they are of, and their names.
use Rattle.std.proofs.Common.{◌≡◌, ℕ, zero, suc, ◌+◌, ◌*◌, ◌/◌, ◌<◌, ◌≤◌, refl, arith}
use Rattle.std.proofs.lemmas.Nat.{mul-le, div-mul-add, mod-mul-add, div-add-mod', mod_below}
use Rattle.std.proofs.Math.Nat.{div-lt_iff_lt-mul}
use Rattle.sh_step.specs.declared.action.PageName.{PageName}
use Rattle.sh_step.specs.declared.action.SlotName.{SlotName}
use Rattle.sh_slots.specs.declared.hand.SlotRef.{SlotRef}
use Rattle.sh_step.specs.Conditions.{HasPage, its_page, page_name, slot_name}
use Rattle.sh_step.specs.Plans.{Plan, shard_of, local, page_number, heap_pages, page_of, slot_of}

-- the shard of a page is one of the shards
pub home_is_shard : (pages shards page : ℕ) → 0 < pages → page < shards * pages → page / pages < shards
home_is_shard pages shards page some below = (div-lt_iff_lt-mul {k = pages} {x = page} {y = shards} some).1 below

-- a page that the heap has is one of its pages
page_number_lt : (plan : Plan) (n p : ℕ) → n < plan.shards → p < plan.pages → page_number plan n p < heap_pages plan
unfolding page_number
page_number_lt plan n p a b =
    let h : (n + 1) * plan.pages ≤ plan.shards * plan.pages = mul-le (n + 1) plan.pages plan.shards plan.pages
    (omega arith) (omega arith) in
    omega arith

pub page_within : (plan : Plan) (y : PageName) → HasPage plan y → page_of plan y < heap_pages plan
page_within plan y h = page_number_lt plan y.shard y.page h.shard h.page

pub shards_have_pages : (shards pages q : ℕ) → q < shards * pages → 0 < pages
shards_have_pages shards zero q below = absurd (omega arith)
shards_have_pages shards (suc pages) q below = omega arith

pub local_lt : (plan : Plan) (q : ℕ) → q < heap_pages plan → local plan q < plan.pages
unfolding local
local_lt plan q below = mod_below q plan.pages (shards_have_pages plan.shards plan.pages q below)

-- a page of the heap has a name, which names it
pub has_page : (plan : Plan) (q : ℕ) → q < heap_pages plan → HasPage plan (page_name plan q)
unfolding shard_of
has_page plan q below = record {
  shard = home_is_shard plan.pages plan.shards q (shards_have_pages plan.shards plan.pages q below) below;
  page = local_lt plan q below;
}

pub page_of_name : (plan : Plan) (q : ℕ) → page_of plan (page_name plan q) ≡ q
unfolding page_number shard_of local
page_of_name plan q = div-add-mod' q plan.pages

pub slot_of_name : (plan : Plan) (x : SlotRef) → slot_of plan (slot_name plan x) ≡ x
slot_of_name plan x = rw (page_of_name plan x.page) refl

-- what a name names has that name
pub name_of_page : (plan : Plan) (y : PageName) → HasPage plan y → page_name plan (page_of plan y) ≡ y
unfolding page_number shard_of local
name_of_page plan y h =
    rw (div-mul-add y.shard plan.pages y.page h.page, mod-mul-add y.shard plan.pages y.page h.page) refl

pub name_of_slot : (plan : Plan) (y : SlotName) → HasPage plan (its_page y) → slot_name plan (slot_of plan y) ≡ y
unfolding page_number shard_of local
name_of_slot plan y h =
    rw (div-mul-add y.shard plan.pages y.page h.page, mod-mul-add y.shard plan.pages y.page h.page) refl
