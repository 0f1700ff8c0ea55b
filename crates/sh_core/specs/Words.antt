-- The words of the heap, one number for each place.
use Rattle.std.specs.Prelude.{ℕ, ◌^◌, ◌==◌, cond}
use Rattle.sh_shape.specs.declared.places.Place.{Place}
use Rattle.sh_shape.specs.declared.places.Place.TheVariants.{Class, Head, PageLink, State, Link, Length, Payload, Owner}
use Rattle.sh_shape.specs.declared.places.Place.TheVariants.{Bell}

-- a function with another value at one number
unfoldable pub put : {A : Type 0} → (ℕ → A) → ℕ → A → ℕ → A
put f i x j = cond (j == i) x (f j)

unfoldable pub put2 : (ℕ → ℕ → ℕ) → ℕ → ℕ → ℕ → ℕ → ℕ → ℕ
unfolding put
put2 f q s n = put f q (put (f q) s n)

-- The words by their meaning: of a page q, of its slot s, of a shard
pub record Words : Type 0 where
  pub class_at : ℕ → ℕ
  pub head_at : ℕ → ℕ
  pub page_link_at : ℕ → ℕ
  pub state_at : ℕ → ℕ → ℕ
  pub link_at : ℕ → ℕ → ℕ
  pub length_at : ℕ → ℕ → ℕ
  pub payload_at : ℕ → ℕ → ℕ
  pub owner_at : ℕ → ℕ
  pub bell_at : ℕ → ℕ

abbrev pub read : Words → Place → ℕ
read w (Class q) = w.class_at q
read w (Head q) = w.head_at q
read w (PageLink q) = w.page_link_at q
read w (State q s) = w.state_at q s
read w (Link q s) = w.link_at q s
read w (Length q s) = w.length_at q s
read w (Payload q i) = w.payload_at q i
read w (Owner n) = w.owner_at n
read w (Bell n) = w.bell_at n

abbrev pub write : Words → Place → ℕ → Words
write w (Class q) n = record w { class_at = put w.class_at q n }
write w (Head q) n = record w { head_at = put w.head_at q n }
write w (PageLink q) n = record w { page_link_at = put w.page_link_at q n }
write w (State q s) n = record w { state_at = put2 w.state_at q s n }
write w (Link q s) n = record w { link_at = put2 w.link_at q s n }
write w (Length q s) n = record w { length_at = put2 w.length_at q s n }
write w (Payload q i) n = record w { payload_at = put2 w.payload_at q i n }
write w (Owner k) n = record w { owner_at = put w.owner_at k n }
write w (Bell k) n = record w { bell_at = put w.bell_at k n }

-- The words as the heap opens
abbrev pub opening : Words
opening = record {
  class_at = λ _. 0;
  head_at = λ _. 0;
  page_link_at = λ _. 0;
  state_at = λ _ _. 2 ^ 32;
  link_at = λ _ _. 0;
  length_at = λ _ _. 0;
  payload_at = λ _ _. 0;
  owner_at = λ _. 0;
  bell_at = λ _. 0;
}
