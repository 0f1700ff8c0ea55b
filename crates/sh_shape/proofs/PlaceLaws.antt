-- No two places of a heap have the same number, and each is one of its words.
use Rattle.std.proofs.Common.{◌≡◌, ℕ, ◌+◌, ◌-◌, ◌*◌, ◌/◌, ◌%◌, ◌^◌, ◌<◌, ◌≤◌, zero, suc, inl, inr, sym, ◌∙◌, ap, arith}
use Rattle.sh_shape.specs.declared.places.Place.{Place}
use Rattle.sh_shape.specs.declared.places.Place.TheVariants.{Class, Head, PageLink, State, Link, Length, Payload, Owner}
use Rattle.sh_shape.specs.declared.places.Place.TheVariants.{Bell}
use Rattle.std.proofs.lemmas.Nat.{mul-add-lt, div-mul-add, mod-mul-add, div_below, mod_below, div-add-mod'}
use Rattle.std.proofs.lemmas.Bool.{cases_lt}
use Rattle.sh_shape.specs.Shape.{Numbers, IsShape}
use Rattle.sh_shape.specs.Places.{pages_of, all_pages, page_number, IsPlace, number, page_words, PagesDiffer}
use Rattle.sh_shape.specs.Places.{PagesHaveShards, PlacesDiffer, PlacesAreWords, WordsHavePlaces}

-- the greatest number of pages of a heap
pub few_pages : (shape : Numbers) → IsShape shape → all_pages shape ≤ 2 ^ 24
few_pages shape is =
    let pages : all_pages shape ≡ 8 * (shape.shards * shape.segments) = omega arith in
    let few = is.few_segments in omega arith

-- a shard's page is one of all pages
pub page_is_below : (shape : Numbers) (shard page : ℕ) → shard < shape.shards → page < pages_of shape
    → page_number shape shard page < all_pages shape
page_is_below shape shard page h k =
    let below = mul-add-lt shard (pages_of shape) page shape.shards h k in omega (arith, below)

-- if the heap has a page, each shard has one
some_page : (shape : Numbers) (n : ℕ) → n < all_pages shape → 0 < pages_of shape
some_page shape n h = elim (cases_lt 0 (pages_of shape)) [
  | inl lt ↦ lt
  | inr past ↦
      let none : pages_of shape ≡ 0 = omega arith in
      let empty : all_pages shape ≡ 0 = ap (λ m. shape.shards * m) none
      ∙ (let z : shape.shards * 0 ≡ 0 = omega arith in z) in absurd (omega arith)
]

pub pages_differ : PagesDiffer
pages_differ shape shard page other_shard other_page h k same =
    let pages = pages_of shape in (
      sym (div-mul-add shard pages page h) ∙ ap (λ n. n / pages) same ∙ div-mul-add other_shard pages other_page k,
      sym (mod-mul-add shard pages page h) ∙ ap (λ n. n % pages) same ∙ mod-mul-add other_shard pages other_page k,
    )

pub pages_have_shards : PagesHaveShards
pages_have_shards shape n h =
    let pages = pages_of shape in
    let some : 0 < pages = some_page shape n h in
    (n / pages, n % pages, div_below n pages shape.shards some h, mod_below n pages some, div-add-mod' n pages)

pub places_are_words : PlacesAreWords
places_are_words shape (Class page) is = omega arith
places_are_words shape (Head page) is = omega arith
places_are_words shape (PageLink page) is = omega arith
places_are_words shape (State page slot) is = omega arith
places_are_words shape (Link page slot) is = omega arith
places_are_words shape (Length page slot) is = omega arith
places_are_words shape (Payload page i) is = omega arith
places_are_words shape (Owner shard) is = omega arith
places_are_words shape (Bell shard) is = omega arith

same_two : (F : ℕ → ℕ → Place) (a b c d : ℕ) → a ≡ b → c ≡ d → F a c ≡ F b d
same_two F a b c d h k = cc

pub places_differ : PlacesDiffer
places_differ shape (Class p) (Class q) ha hb e = ap Class (omega arith)
places_differ shape (Head p) (Head q) ha hb e = ap Head (omega arith)
places_differ shape (PageLink p) (PageLink q) ha hb e = ap PageLink (omega arith)
places_differ shape (State p s) (State q t) ha hb e = same_two State p q s t (omega arith) (omega arith)
places_differ shape (Link p s) (Link q t) ha hb e = same_two Link p q s t (omega arith) (omega arith)
places_differ shape (Length p s) (Length q t) ha hb e = same_two Length p q s t (omega arith) (omega arith)
places_differ shape (Payload p s) (Payload q t) ha hb e = same_two Payload p q s t (omega arith) (omega arith)
places_differ shape (Owner p) (Owner q) ha hb e = ap Owner (omega arith)
places_differ shape (Bell p) (Bell q) ha hb e = ap Bell (omega arith)
places_differ shape _ _ ha hb e = absurd (omega arith)

-- a word of a page is at a place
page_word : (shape : Numbers) (page offset : ℕ) → page < all_pages shape → offset < page_words
    → (a : Place) × IsPlace shape a × (number shape a ≡ page_words * page + offset)
page_word shape page zero h k = (Class page, h, omega arith)
page_word shape page (suc zero) h k = (Head page, h, omega arith)
page_word shape page (suc (suc zero)) h k = (PageLink page, h, omega arith)
page_word shape page (suc (suc (suc s))) h k =
    elim (cases_lt s 48) [
      | inl lt ↦ (State page s, (h, lt), omega arith)
      | inr past ↦ elim (cases_lt s 96) [
        | inl lt ↦ (Link page (s - 48), (h, omega arith), omega arith)
        | inr past2 ↦ elim (cases_lt s 144) [
          | inl lt ↦ (Length page (s - 96), (h, omega arith), omega arith)
          | inr past3 ↦ (Payload page (s - 144), (h, omega arith), omega arith)
        ]
      ]
    ]

-- a word after the pages is at a place
shard_word : (shape : Numbers) (shard odd : ℕ) → shard < shape.shards → odd < 2
    → (a : Place) × IsPlace shape a × (number shape a ≡ page_words * all_pages shape + (2 * shard + odd))
shard_word shape shard zero h k = (Owner shard, h, omega arith)
shard_word shape shard (suc zero) h k = (Bell shard, h, omega arith)
shard_word shape shard (suc (suc odd)) h k = absurd (omega arith)

pub words_have_places : WordsHavePlaces
words_have_places shape n h =
    let pages = page_words * all_pages shape in
    elim (cases_lt n pages) [
      | inl lt ↦
          let parts : n ≡ page_words * (n / page_words) + n % page_words = omega arith in
          let few : n % page_words < page_words = omega arith in
          let found = page_word shape (n / page_words) (n % page_words) (omega arith) few in
          (found.0, found.1, found.2 ∙ sym parts)
      | inr past ↦
          let rest = n - pages in
          let odd : rest % 2 < 2 = omega arith in
          let found = shard_word shape (rest / 2) (rest % 2) (omega arith) odd in
          (found.0, found.1, found.2 ∙ (let parts : pages + (2 * (rest / 2) + rest % 2) ≡ n = omega arith in parts))
    ]
