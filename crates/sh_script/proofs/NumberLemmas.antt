-- A number's word is its decimal digits.
use Rattle.std.proofs.Common.{◌≡◌, ℕ, ◌+◌, ◌-◌, ◌*◌, ◌^◌, ◌<◌, ◌≤◌, ◌==◌, ◌&&◌, not, true, false, List, [], ◌∷◌}
use Rattle.std.proofs.Common.{length, get_or, Some, refl, sym, ap, subst, ◌∙◌, rules, arith, nat_lt, lt-ltb, ltb-true}
use Rattle.std.proofs.Common.{ne_eqb, zero, suc, lit<}
use Rattle.std.specs.Str.{all_ascii_digits}
use Rattle.std.specs.Char.{is_ascii_digit}
use Rattle.std.specs.Fmt.{decimal}
use Rattle.std.proofs.lemmas.Str.Parse.{IsNumeralModel, numerals_by_fold}
use Rattle.std.proofs.lemmas.Fmt.{decimal-digits_value, digits_decimal, digits_value-decimal, first_decimal}
use Rattle.std.proofs.lemmas.Fmt.{decimal_nonempty, decimal_digit}
use Rattle.std.proofs.lemmas.Bool.{and_parts}
use Rattle.sh_script.specs.Words.{number_from, number_of, is_digit}
use Rattle.sh_script.specs.Meaning.{IsNumber}
use Rattle.sh_script.proofs.Steps.{guarded, unless}

-- the number that digits complete, however large
abbrev pub value_from : ℕ → List ℕ → ℕ
value_from n [] = n
value_from n (b ∷ bs) = value_from (n * 10 + (b - 48)) bs

pub own : IsNumeralModel (λ ds. all_ascii_digits ds ≡ true) (value_from 0)
own = numerals_by_fold _ (search rules) value_from (search rules)

grows : (n : ℕ) (w : List ℕ) → n ≤ value_from n w
grows n [] = omega arith
grows n (b ∷ bs) = omega (arith, grows (n * 10 + (b - 48)) bs)

record AreDigitsRead (n m : ℕ) (w : List ℕ) : Type 0 where
  digits : all_ascii_digits w ≡ true
  value : value_from n w ≡ m
  small : n < 2 ^ 64 → m < 2 ^ 64

read_digits : (w : List ℕ) (n m : ℕ) → number_from n w ≡ Some m → AreDigitsRead n m w
read_digits [] n m e = let same : n ≡ m = cc in record { digits = refl; value = same; small = λ h. omega arith }
read_digits (b ∷ bs) n m e =
    let next = n * 10 + (b - 48) in
    let on = guarded (is_digit b && nat_lt next (2 ^ 64)) (number_from next bs) m e in
    let tests = and_parts (is_digit b) (nat_lt next (2 ^ 64)) on.0 in
    let rest = read_digits bs next m on.1 in
    record { digits = rw tests.0 rest.digits; value = rest.value; small = λ _. rest.small (ltb-true _ _ tests.1) }

digits_read : (w : List ℕ) (n : ℕ) → all_ascii_digits w ≡ true → value_from n w < 2 ^ 64 → number_from n w
    ≡ Some (value_from n w)
digits_read [] n d h = refl
digits_read (b ∷ bs) n d h =
    let next = n * 10 + (b - 48) in
    let tests = and_parts (is_ascii_digit b) (all_ascii_digits bs) d in
    let small : next < 2 ^ 64 = omega (arith, grows next bs) in
    rw (tests.0, lt-ltb _ _ small) (digits_read bs next tests.1 h)

one_alone : (b k : ℕ) → (b == 48 && not (k == 0)) ≡ false → b ≡ 48 → k ≡ 0
one_alone b k e z = grind (arith, e, z)

decimal_of_number : (w : List ℕ) (n : ℕ) → number_of w ≡ Some n → (w ≡ decimal n) × (n < 2 ^ 64)
decimal_of_number [] n e = cc
decimal_of_number (b ∷ bs) n e =
    let first = unless (b == 48 && not (length bs == 0)) (number_from 0 (b ∷ bs)) n e in
    let read = read_digits (b ∷ bs) 0 n first.1 in
    let small : n < 2 ^ 64 = read.small (lit< tt) in
    let fits : value_from 0 (b ∷ bs) < 2 ^ 64 = omega (arith, read.value, small) in (
      sym (decimal-digits_value own (b ∷ bs) read.digits (omega arith)
          (λ z. let k : length bs ≡ 0 = one_alone b (length bs) first.0 z in omega arith) fits)
          ∙ ap decimal read.value,
      small,
    )

no_lead_above : (b k : ℕ) → 48 < b → (b == 48 && not (k == 0)) ≡ false
no_lead_above b k h = let ne : (b == 48) ≡ false = ne_eqb b 48 (λ e. omega arith) in rw ne refl

number_at_cons : (b : ℕ) (bs : List ℕ) (n : ℕ) → (b == 48 && not (length bs == 0)) ≡ false → all_ascii_digits (b ∷ bs)
    ≡ true → value_from 0 (b ∷ bs) ≡ n → n < 2 ^ 64
    → number_of (b ∷ bs) ≡ Some n
number_at_cons b bs n lead digits value small =
    let fits : value_from 0 (b ∷ bs) < 2 ^ 64 = omega (arith, value, small) in
    rw lead (digits_read (b ∷ bs) 0 digits fits ∙ ap (λ (k : ℕ). Some k) value)

number_of_word : (w : List ℕ) (n : ℕ) → 0 < n → n < 2 ^ 64 → decimal n ≡ w → number_of w ≡ Some n
number_of_word [] n above small e = let some : 0 < length (decimal n) = decimal_nonempty n small
    in let none : length (decimal n) ≡ 0 = ap length e in absurd (omega arith)
number_of_word (b ∷ bs) n above small e =
    let P : List ℕ → Type 0 = λ w. all_ascii_digits w ≡ true in
    let first : 48 < get_or (decimal n) 0 0 = first_decimal n above small in
    let same : get_or (decimal n) 0 0 ≡ b = ap (λ w. get_or w 0 0) e in
    number_at_cons b bs n (no_lead_above b (length bs) (omega arith)) (subst P e (digits_decimal own n small))
    (ap (value_from 0) (sym e) ∙ digits_value-decimal own n small) small

pub number_of_decimal : (n : ℕ) → n < 2 ^ 64 → number_of (decimal n) ≡ Some n
number_of_decimal zero small = ap number_of (decimal_digit 0 (lit< tt))
number_of_decimal (suc n) small = number_of_word (decimal (suc n)) (suc n) (omega arith) small refl

pub number_is : (w : List ℕ) (n : ℕ) → number_of w ≡ Some n → IsNumber w n
number_is w n e = let h = decimal_of_number w n e in record { digits = h.0; small = h.1 }

pub number_gives : (w : List ℕ) (n : ℕ) → IsNumber w n → number_of w ≡ Some n
number_gives w n h = ap number_of h.digits ∙ number_of_decimal n h.small
