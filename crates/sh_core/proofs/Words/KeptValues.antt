-- The value in a slot is a range of the list of words.
use Rattle.std.proofs.Common.{◌≡◌, ℕ, zero, suc, ◌+◌, ◌-◌, ◌*◌, ◌<◌, ◌≤◌, List, ◌∷◌, length, take, drop, refl, ap, ◌∙◌}
use Rattle.std.proofs.Common.{arith}
use Rattle.std.specs.List.{slice_range}
use Rattle.std.proofs.Math.Seq.{drop-cons}
use Rattle.sh_shape.specs.declared.places.Place.TheVariants.{Payload}
use Rattle.sh_shape.specs.Classes.{width, slots}
use Rattle.sh_shape.specs.Shape.{Numbers}
use Rattle.sh_shape.specs.Places.{number}
use Rattle.sh_shape.proofs.ClassLaws.{slot_words_fit_page}
use Rattle.sh_core.specs.Worlds.{words_from}
use Rattle.sh_core.specs.Kept.{word_at}

-- the words of a page's payload, from one on
payload_taken : (shape : Numbers) (list : List ℕ) (q i n : ℕ) → number shape (Payload q i) + n ≤ length list
    → take n (drop (number shape (Payload q i)) list) ≡ words_from (λ j. word_at shape list (Payload q j)) i n
payload_taken shape list q i zero h = refl
payload_taken shape list q i (suc n) h =
    let here : suc (number shape (Payload q i)) ≡ number shape (Payload q (i + 1)) = omega arith in
    let first : drop (number shape (Payload q i)) list ≡ word_at shape list (Payload q i) ∷ drop
    (suc (number shape (Payload q i))) list = drop-cons list (number shape (Payload q i)) 0 (omega arith) in
    ap (λ xs. take (suc n) xs) first ∙ ap (λ xs. word_at shape list (Payload q i) ∷ xs)
    (ap (λ k. take n (drop k list)) here ∙ payload_taken shape list q (i + 1) n (let e = here in omega arith))

pub payload_range : (shape : Numbers) (list : List ℕ) (q i n : ℕ) → number shape (Payload q i) + n ≤ length list
    → slice_range list (number shape (Payload q i)) (number shape (Payload q i) + n)
    ≡ words_from (λ j. word_at shape list (Payload q j)) i n
payload_range shape list q i n h =
    let many : number shape (Payload q i) + n - number shape (Payload q i) ≡ n = omega arith in
    ap (λ k. take k (drop (number shape (Payload q i)) list)) many ∙ payload_taken shape list q i n h

width_some : (c : ℕ) → c < 8 → 0 < width c
width_some zero h = omega arith
width_some (suc zero) h = omega arith
width_some (suc (suc zero)) h = omega arith
width_some (suc (suc (suc zero))) h = omega arith
width_some (suc (suc (suc (suc zero)))) h = omega arith
width_some (suc (suc (suc (suc (suc zero))))) h = omega arith
width_some (suc (suc (suc (suc (suc (suc zero)))))) h = omega arith
width_some (suc (suc (suc (suc (suc (suc (suc zero))))))) h = omega arith
width_some (suc (suc (suc (suc (suc (suc (suc (suc c)))))))) h = absurd (omega arith)

-- the first word of a slot is one of the 48 of its page, and so are the others
pub row_begins : (c s : ℕ) → c < 8 → s < slots c → s * width c < 48
row_begins c s h a = let f = slot_words_fit_page c s 0 a (width_some c h) in omega arith

pub row_within : (c s n : ℕ) → c < 8 → s < slots c → n ≤ width c → s * width c + n ≤ 48
row_within c s zero h a b = let f = row_begins c s h a in omega arith
row_within c s (suc n) h a b = let f = slot_words_fit_page c s n a (omega arith) in omega arith

-- how a value is read from the words
pub ruleset value_rows = (payload_range, row_begins, row_within)
