-- The pages of a shard are consecutive, from its first one on.
use Rattle.std.proofs.Common.{◌≡◌, ◌≢◌, ℕ, ◌+◌, ◌-◌, ◌*◌, ◌/◌, ◌%◌, ◌^◌, ◌<◌, ◌≤◌, ◌==◌, ◌∙◌, true, false, arith}
use Rattle.std.proofs.Common.{Option, Some, None, refl, ap, sym, subst, ⊎_elim, eq-eqb, ne_eqb}
use Rattle.std.specs.Prelude.{nat_lt, IfSome}
use Rattle.std.proofs.lemmas.Bool.{cases_eq}
use Rattle.std.proofs.lemmas.Bool.Decides.{nat_tests}
use Rattle.std.proofs.lemmas.Nat.{div-add-mod', div-mul-add, mod-mul-add, mod_below, row_fits}
use Rattle.atomic_table.specs.declared.shared.Seat.{Seat}
use Rattle.sh_key.specs.Layout.{Layout, IsInRange, packed}
use Rattle.sh_shape.specs.Shape.{Numbers, IsShape}
use Rattle.sh_shape.specs.Places.{all_pages, page_number, pages_of}
use Rattle.sh_shape.proofs.PlaceLaws.{few_pages}
use Rattle.sh_slots.specs.declared.hand.KeyRef.{KeyRef}
use Rattle.sh_step.specs.Plans.{plan_of, shard_of, keys_of, parts_of}
use Rattle.sh_step.proofs.KeyLaws.{parts_in_range}
use Rattle.sh_step.specs.Rows.{owned_by}
use Rattle.sh_table.specs.declared.view.View.{View}
use Rattle.sh_table.specs.Seats.{Heap, IsSeat}

-- the shard that a pass owns is one of the heap
pub owned_below : {layout : Layout} {heap : Heap} (t : Seat (Unit {0}) View) (o : Option ℕ) → IsSeat layout heap t
    → t.me.0.own.body.owned ≡ o → IfSome o (λ n. n < heap.shape.shards)
owned_below t (Some n) seat is = subst (λ (s : Numbers). n < s.shards) seat.shape (seat.stands.owner.owned n is)
owned_below t None seat is = tt

pub some_pages : (shape : Numbers) → IsShape shape → 0 < pages_of shape
some_pages shape is = let some = is.some_segment in omega arith

-- the distance of a page from the first one, as words of 64 bits subtract
abbrev pub behind : (first page : ℕ) → ℕ
behind first page = (page + (2 ^ 64 - first)) % 2 ^ 64

within : (pages first page rest : ℕ) → first + rest ≡ page → rest < pages → page < 2 ^ 64
    → nat_lt (behind first page) pages ≡ true
within pages first page rest is less wide =
    let e : behind first page ≡ rest = omega arith in
    let t : nat_lt rest pages ≡ true = grind (arith, nat_tests) in
    ap (λ n. nat_lt n pages) e ∙ t

past : (pages first page : ℕ) → first + pages ≤ page → page < 2 ^ 64 → nat_lt (behind first page) pages ≡ false
past pages first page far wide =
    let e : behind first page ≡ page - first = omega arith in
    let t : nat_lt (page - first) pages ≡ false = grind (arith, nat_tests) in
    ap (λ n. nat_lt n pages) e ∙ t

before : (pages first page : ℕ) → page < first → first + pages ≤ 2 ^ 64 → nat_lt (behind first page) pages ≡ false
before pages first page less few =
    let e : behind first page ≡ page + (2 ^ 64 - first) = omega arith in
    let t : nat_lt (page + (2 ^ 64 - first)) pages ≡ false = grind (arith, nat_tests) in
    ap (λ n. nat_lt n pages) e ∙ t

pub in_shard : (pages shard page : ℕ) → 0 < pages → shard * pages + pages ≤ 2 ^ 64 → page < 2 ^ 64
    → nat_lt (behind (shard * pages + 0) page) pages ≡ (shard == page / pages)
in_shard pages shard page some few wide =
    let q : ℕ = page / pages in
    let whole : q * pages + page % pages ≡ page = div-add-mod' page pages in
    let rest : page % pages < pages = mod_below page pages some in
    ⊎_elim
    (λ (e : shard ≡ q).
    let same : shard * pages ≡ q * pages = ap (λ n. n * pages) e in
    within pages (shard * pages + 0) page (page % pages) (omega arith) rest wide ∙ sym (eq-eqb shard q e))
    (λ (ne : shard ≢ q). apart ne whole rest)
    (cases_eq shard q)
  where
    apart : shard ≢ page / pages → page / pages * pages + page % pages ≡ page → page % pages < pages
        → nat_lt (behind (shard * pages + 0) page) pages ≡ (shard == page / pages)
    apart ne whole rest = go (nat_lt shard (page / pages)) refl where
      go : (b : _) → nat_lt shard (page / pages) ≡ b
          → nat_lt (behind (shard * pages + 0) page) pages ≡ (shard == page / pages)
      go true e =
          let less : shard < page / pages = grind (arith, nat_tests) in
          let far : shard * pages + pages ≤ page / pages * pages = row_fits shard pages (page / pages) pages less
          (omega arith) in
          past pages (shard * pages + 0) page (omega arith) wide ∙ sym (ne_eqb shard (page / pages) ne)
      go false e =
          let less : page / pages < shard = grind (arith, nat_tests) in
          let far : page / pages * pages + pages ≤ shard * pages = row_fits (page / pages) pages shard pages less
          (omega arith) in
          before pages (shard * pages + 0) page (omega arith) (omega arith) ∙ sym (ne_eqb shard (page / pages) ne)

-- whether a page is of the owned shard, as the code computes it
pub is_owned : (layout : Layout) (shape : Numbers) (o : Option ℕ) (shard page first pages : ℕ) → IsShape shape
    → o ≡ Some shard → shard < shape.shards → page < 2 ^ 64 → pages ≡ pages_of shape → first ≡ page_number shape shard 0
    → nat_lt (behind first page) pages ≡ owned_by (plan_of layout shape) o page
unfolding shard_of
is_owned layout shape o shard page first pages s owned below wide many start =
    let few : all_pages shape ≤ 2 ^ 24 = few_pages shape s in
    let fits : shard * pages_of shape + pages_of shape ≤ shape.shards * pages_of shape = row_fits shard (pages_of shape)
    shape.shards (pages_of shape) below (omega arith) in
    (λ i. nat_lt (behind (start i) page) (many i))
    ∙ (in_shard (pages_of shape) shard page (some_pages shape s) (omega arith) wide
    ∙ ap (λ p. owned_by (plan_of layout shape) p page) (sym owned))

-- the parts of the key of a slot of a shard's page
pub parts_on : (pages shard page : ℕ) (x : KeyRef) → x.page ≡ shard * pages + page → page < pages
    → parts_of pages x ≡ record { generation = x.generation; shard = shard; page = page; slot = x.slot }
parts_on pages shard page x at below =
    let shard_of : x.page / pages ≡ shard = ap (λ n. n / pages) at ∙ div-mul-add shard pages page below in
    let local : x.page % pages ≡ page = ap (λ n. n % pages) at ∙ mod-mul-add shard pages page below in
    λ i. record { generation = x.generation; shard = shard_of i; page = local i; slot = x.slot }

pub on_page_in_range : (layout : Layout) (shape : Numbers) (shard page : ℕ) (x : KeyRef)
    → x.page ≡ page_number shape shard page → page < pages_of shape
    → (plan_of layout shape).keys.unpack ((plan_of layout shape).keys.pack x) ≡ Some x
    → IsInRange layout (record { generation = x.generation; shard = shard; page = page; slot = x.slot })
on_page_in_range layout shape shard page x at below names =
    subst (IsInRange layout) (parts_on (pages_of shape) shard page x at below)
    (parts_in_range layout shape.shards (pages_of shape) ((plan_of layout shape).keys.pack x) x names)

pub packed_on_page : (layout : Layout) (shape : Numbers) (shard page : ℕ) (x : KeyRef)
    → x.page ≡ page_number shape shard page → page < pages_of shape
    → packed layout (record { generation = x.generation; shard = shard; page = page; slot = x.slot })
    ≡ (plan_of layout shape).keys.pack x
unfolding keys_of
packed_on_page layout shape shard page x at below =
    ap (packed layout) (sym (parts_on (pages_of shape) shard page x at below))
