-- The laws of state words: fields and words are one to one, and each operation on a word changes one field.
use Rattle.std.proofs.Common.{◌≡◌, ℕ, zero, suc, ◌+◌, ◌-◌, ◌/◌, ◌%◌, ◌^◌, ◌<◌, ◌≤◌, ◌==◌, ◌≢◌, max, Bool, true, false}
use Rattle.std.proofs.Common.{sym, refl, ap, ◌∙◌, arith}
use Rattle.std.specs.Prelude.{bit_or}
use Rattle.std.specs.Int.{bit_at, from_bool}
use Rattle.std.specs.Int.Bits.{or_zero_r}
use Rattle.std.proofs.lemmas.Nat.{or_lt, or_mod, or_shr}
use Rattle.std.proofs.lemmas.Nat.Bits.{bit_at-lt, bit_at_or, bit_at-pow_same, bit_at-pow_other}
use Rattle.sh_word.specs.Fields.{Fields, FitsWord, fields_of, word_of}

-- ---- a flag as a number

pub from_bool-le_one : (b : Bool) → from_bool b ≤ 1
from_bool-le_one true = omega arith
from_bool-le_one false = omega arith

pub one_test-from_bool : (b : Bool) → (from_bool b == 1) ≡ b
one_test-from_bool true = refl
one_test-from_bool false = refl

pub from_bool-one_test : (n : ℕ) → n < 2 → from_bool (n == 1) ≡ n
from_bool-one_test zero h = refl
from_bool-one_test (suc zero) h = refl
from_bool-one_test (suc (suc n)) h = absurd (omega arith)

-- ---- both ways without loss

-- Fields that are equal one by one are equal.
pub same_fields : (f f' : Fields) → f.generation ≡ f'.generation → f.marked ≡ f'.marked → f.present ≡ f'.present
    → f.count ≡ f'.count → f ≡ f'
same_fields f f' g m p c = λ i. record { generation = g i; marked = m i; present = p i; count = c i }

-- The fields of the word of some fields are those fields, if the count has room.
pub fields_of-word_of : (f : Fields) → f.count < 2 ^ 30 → fields_of (word_of f) ≡ f
unfolding fields_of word_of
fields_of-word_of f room =
    let m1 : from_bool f.marked ≤ 1 = from_bool-le_one f.marked in
    let p1 : from_bool f.present ≤ 1 = from_bool-le_one f.present in
    let g : word_of f / 2 ^ 32 ≡ f.generation = omega arith in
    let m : word_of f / 2 ^ 31 % 2 ≡ from_bool f.marked = omega arith in
    let p : word_of f / 2 ^ 30 % 2 ≡ from_bool f.present = omega arith in
    let c : word_of f % 2 ^ 30 ≡ f.count = omega arith in
    same_fields _ f g (ap (λ (x : ℕ). x == 1) m ∙ one_test-from_bool f.marked)
    (ap (λ (x : ℕ). x == 1) p ∙ one_test-from_bool f.present) c

-- The word of a word's fields is that word, for every number.
pub word_of-fields_of : (w : ℕ) → word_of (fields_of w) ≡ w
unfolding fields_of word_of
word_of-fields_of w =
    let m : from_bool (bit_at w 31 == 1) ≡ bit_at w 31 = from_bool-one_test (bit_at w 31) (bit_at-lt w 31) in
    let p : from_bool (bit_at w 30 == 1) ≡ bit_at w 30 = from_bool-one_test (bit_at w 30) (bit_at-lt w 30) in
    rw (m, p) (omega arith)

-- Words with the same fields are the same.
pub same_word : (w w' : ℕ) → fields_of w ≡ fields_of w' → w ≡ w'
same_word w w' e = sym (word_of-fields_of w) ∙ (ap word_of e ∙ word_of-fields_of w')

-- Fields with the same word are the same, if the counts have room.
pub same_fields_by_word : (f f' : Fields) → f.count < 2 ^ 30 → f'.count < 2 ^ 30 → word_of f ≡ word_of f' → f ≡ f'
same_fields_by_word f f' room room' e = sym (fields_of-word_of f room) ∙ (ap fields_of e ∙ fields_of-word_of f' room')

-- ---- ranges

-- Every count in a word has room.
pub fields_of-count_lt : (w : ℕ) → (fields_of w).count < 2 ^ 30
unfolding fields_of
fields_of-count_lt w = omega arith

-- The fields of a word of 64 bits fit such a word.
pub fields_of-fits : (w : ℕ) → w < 2 ^ 64 → FitsWord (fields_of w)
unfolding fields_of
fields_of-fits w h = (omega arith, omega arith)

-- The word of fields that fit has 64 bits.
pub word_of-lt : (f : Fields) → FitsWord f → word_of f < 2 ^ 64
unfolding word_of
word_of-lt f h =
    let m1 : from_bool f.marked ≤ 1 = from_bool-le_one f.marked in
    let p1 : from_bool f.present ≤ 1 = from_bool-le_one f.present in
    omega arith

-- ---- adding and subtracting 1

-- Adding 1 makes the count one more, if it has room.
pub fields_of-add : (w : ℕ) → (fields_of w).count < 2 ^ 30 - 1 → fields_of (w + 1)
    ≡ record (fields_of w) { count = (fields_of w).count + 1 }
unfolding fields_of
fields_of-add w room =
    let g : (w + 1) / 2 ^ 32 ≡ w / 2 ^ 32 = omega arith in
    let m : bit_at (w + 1) 31 ≡ bit_at w 31 = omega arith in
    let p : bit_at (w + 1) 30 ≡ bit_at w 30 = omega arith in
    let c : (w + 1) % 2 ^ 30 ≡ w % 2 ^ 30 + 1 = omega arith in
    same_fields _ _ g (ap (λ (x : ℕ). x == 1) m) (ap (λ (x : ℕ). x == 1) p) c

-- Subtracting 1 makes the count one less, if it is above 0.
pub fields_of-sub : (w : ℕ) → 0 < (fields_of w).count → fields_of (w - 1)
    ≡ record (fields_of w) { count = (fields_of w).count - 1 }
unfolding fields_of
fields_of-sub w above =
    let g : (w - 1) / 2 ^ 32 ≡ w / 2 ^ 32 = omega arith in
    let m : bit_at (w - 1) 31 ≡ bit_at w 31 = omega arith in
    let p : bit_at (w - 1) 30 ≡ bit_at w 30 = omega arith in
    let c : (w - 1) % 2 ^ 30 ≡ w % 2 ^ 30 - 1 = omega arith in
    same_fields _ _ g (ap (λ (x : ℕ). x == 1) m) (ap (λ (x : ℕ). x == 1) p) c

-- A word of 64 bits whose count has room does not wrap as 1 is added.
pub add_one_fits : (w : ℕ) → w < 2 ^ 64 → (fields_of w).count < 2 ^ 30 - 1 → w + 1 < 2 ^ 64
unfolding fields_of
add_one_fits w h room = omega arith

-- A word whose count is above 0 is itself above 0.
pub count_above-word_above : (w : ℕ) → 0 < (fields_of w).count → 0 < w
unfolding fields_of
count_above-word_above w above = omega arith

-- What `fetch_add(1)` stores in such a word.
pub wrapping_add_one : (w : ℕ) → w < 2 ^ 64 → (fields_of w).count < 2 ^ 30 - 1 → (w + 1) % 2 ^ 64 ≡ w + 1
wrapping_add_one w h room =
    let fits : w + 1 < 2 ^ 64 = add_one_fits w h room in
    omega arith

-- What `fetch_sub(1)` stores in such a word.
pub wrapping_sub_one : (w : ℕ) → w < 2 ^ 64 → 0 < (fields_of w).count → (w + (2 ^ 64 - 1)) % 2 ^ 64 ≡ w - 1
wrapping_sub_one w h above =
    let positive : 0 < w = count_above-word_above w above in
    omega arith

-- The fields of what `fetch_add(1)` stores, if the count has room.
pub fields_of-wrapping_add : (w : ℕ) → w < 2 ^ 64 → (fields_of w).count < 2 ^ 30 - 1 → fields_of ((w + 1) % 2 ^ 64)
    ≡ record (fields_of w) { count = (fields_of w).count + 1 }
fields_of-wrapping_add w h room = ap fields_of (wrapping_add_one w h room) ∙ fields_of-add w room

-- The fields of what `fetch_sub(1)` stores, if the count is above 0.
pub fields_of-wrapping_sub : (w : ℕ) → w < 2 ^ 64 → 0 < (fields_of w).count → fields_of ((w + (2 ^ 64 - 1)) % 2 ^ 64)
    ≡ record (fields_of w) { count = (fields_of w).count - 1 }
fields_of-wrapping_sub w h above = ap fields_of (wrapping_sub_one w h above) ∙ fields_of-sub w above

-- ---- setting a flag

max_one : (n : ℕ) → n < 2 → max n 1 ≡ 1
max_one n h = omega arith

bit_set_same : (w k : ℕ) → bit_at (bit_or w (2 ^ k)) k ≡ 1
bit_set_same w k = bit_at_or w (2 ^ k) k ∙ (ap (λ (x : ℕ). max (bit_at w k) x) (bit_at-pow_same k)
    ∙ max_one (bit_at w k) (bit_at-lt w k))

bit_set_other : (w k i : ℕ) → i ≢ k → bit_at (bit_or w (2 ^ k)) i ≡ bit_at w i
bit_set_other w k i other =
    let e : max (bit_at w i) 0 ≡ bit_at w i = omega arith in
    bit_at_or w (2 ^ k) i ∙ (ap (λ (x : ℕ). max (bit_at w i) x) (bit_at-pow_other k i other) ∙ e)

-- An `or` of a word with 2^31 marks it.
pub fields_of-or_mark : (w : ℕ) → fields_of (bit_or w (2 ^ 31)) ≡ record (fields_of w) { marked = true }
unfolding fields_of
fields_of-or_mark w =
    let g : bit_or w (2 ^ 31) / 2 ^ 32 ≡ w / 2 ^ 32 = or_shr w (2 ^ 31) 32 ∙ or_zero_r (w / 2 ^ 32) in
    let m : bit_at (bit_or w (2 ^ 31)) 31 ≡ 1 = bit_set_same w 31 in
    let p : bit_at (bit_or w (2 ^ 31)) 30 ≡ bit_at w 30 = bit_set_other w 31 30 (λ e. absurd (omega arith)) in
    let c : bit_or w (2 ^ 31) % 2 ^ 30 ≡ w % 2 ^ 30 = or_mod w (2 ^ 31) 30 ∙ or_zero_r (w % 2 ^ 30) in
    same_fields _ _ g (ap (λ (x : ℕ). x == 1) m) (ap (λ (x : ℕ). x == 1) p) c

-- An `or` of a word with 2^30 makes it present.
pub fields_of-or_present : (w : ℕ) → fields_of (bit_or w (2 ^ 30)) ≡ record (fields_of w) { present = true }
unfolding fields_of
fields_of-or_present w =
    let g : bit_or w (2 ^ 30) / 2 ^ 32 ≡ w / 2 ^ 32 = or_shr w (2 ^ 30) 32 ∙ or_zero_r (w / 2 ^ 32) in
    let m : bit_at (bit_or w (2 ^ 30)) 31 ≡ bit_at w 31 = bit_set_other w 30 31 (λ e. absurd (omega arith)) in
    let p : bit_at (bit_or w (2 ^ 30)) 30 ≡ 1 = bit_set_same w 30 in
    let c : bit_or w (2 ^ 30) % 2 ^ 30 ≡ w % 2 ^ 30 = or_mod w (2 ^ 30) 30 ∙ or_zero_r (w % 2 ^ 30) in
    same_fields _ _ g (ap (λ (x : ℕ). x == 1) m) (ap (λ (x : ℕ). x == 1) p) c

-- After either, a word of 64 bits still has 64 bits.
pub or_mark_fits : (w : ℕ) → w < 2 ^ 64 → bit_or w (2 ^ 31) < 2 ^ 64
or_mark_fits w h = or_lt 64 w (2 ^ 31) h (omega arith)

pub or_present_fits : (w : ℕ) → w < 2 ^ 64 → bit_or w (2 ^ 30) < 2 ^ 64
or_present_fits w h = or_lt 64 w (2 ^ 30) h (omega arith)
