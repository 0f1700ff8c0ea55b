-- The class of a length is the least that is wide enough, and there is one up to 16 words.
use Rattle.std.proofs.Common.{◌≡◌, ℕ, ◌+◌, ◌*◌, ◌<◌, ◌≤◌, Bool, true, false, Option, Some, None, zero, suc, refl, arith}
use Rattle.std.proofs.Common.{cond, leb-true, leb-false, ltb-false}
use Rattle.std.specs.Prelude.{nat_le, nat_lt, MatchOption}
use Rattle.std.specs.List.{position_or_len}
use Rattle.std.proofs.lemmas.List.Quantifiers.{position-Some}
use Rattle.std.proofs.Math.Nat.{mul_comm}
use Rattle.std.proofs.lemmas.Nat.{mul-add-lt}
use Rattle.std.proofs.lemmas.List.Sums.{fails_before_first}
use Rattle.sh_shape.specs.Classes.{widths, class_of, IsClassOf, SlotsFitPage, SlotWordsFitPage, WidthsAreFew, width}
use Rattle.sh_shape.specs.Classes.{slots}

pub class_of_is : (len class : ℕ) → class_of len ≡ Some class → IsClassOf len class
class_of_is len class is =
    let found = position-Some (λ words. nat_le len words) widths class 0 is in
    record {
      is_class = found.0;
      wide_enough = leb-true _ _ found.1;
      least = λ c below. leb-false _ _ (found.2 c below);
    }

found_none : (n m : ℕ) (b : Bool) → nat_lt n m ≡ b → cond b (Some n) None ≡ None → m ≤ n
found_none n m false is none = ltb-false n m is
found_none n m true is none = absurd (let no_some : ⊥ = cc in no_some)

-- if each class is too narrow, so is the last
pub no_class : (len : ℕ) → class_of len ≡ None → 16 < len
no_class len is =
    let wide_enough = λ (words : ℕ). nat_le len words in
    let first = position_or_len wide_enough widths in
    let past : 8 ≤ first = found_none first 8 (nat_lt first 8) refl is in
    leb-false len 16 (fails_before_first wide_enough widths 7 0 past)

-- what the class of a length says, if it has one and if it has none
pub class_facts : (len : ℕ) (found : Option ℕ) → class_of len ≡ found → MatchOption found (16 < len) (IsClassOf len)
class_facts len None is = no_class len is
class_facts len (Some class) is = class_of_is len class is

pub slots_fit_page : SlotsFitPage
slots_fit_page zero = omega arith
slots_fit_page (suc zero) = omega arith
slots_fit_page (suc (suc zero)) = omega arith
slots_fit_page (suc (suc (suc zero))) = omega arith
slots_fit_page (suc (suc (suc (suc zero)))) = omega arith
slots_fit_page (suc (suc (suc (suc (suc zero))))) = omega arith
slots_fit_page (suc (suc (suc (suc (suc (suc zero)))))) = omega arith
slots_fit_page (suc (suc (suc (suc (suc (suc (suc zero))))))) = omega arith
slots_fit_page (suc (suc (suc (suc (suc (suc (suc (suc n)))))))) = omega arith

pub slot_words_fit_page : SlotWordsFitPage
slot_words_fit_page class slot i few inside =
    let below : slot * width class + i < width class * slots class = mul-add-lt slot (width class) i (slots class) few
    inside in
    let fit = slots_fit_page class in
    omega (arith, mul_comm (slots class) (width class))

-- a page has places for the slots of each class
pub slots_few : (class : ℕ) → slots class ≤ 48
slots_few zero = omega arith
slots_few (suc zero) = omega arith
slots_few (suc (suc zero)) = omega arith
slots_few (suc (suc (suc zero))) = omega arith
slots_few (suc (suc (suc (suc zero)))) = omega arith
slots_few (suc (suc (suc (suc (suc zero))))) = omega arith
slots_few (suc (suc (suc (suc (suc (suc zero)))))) = omega arith
slots_few (suc (suc (suc (suc (suc (suc (suc zero))))))) = omega arith
slots_few (suc (suc (suc (suc (suc (suc (suc (suc n)))))))) = omega arith

pub widths_few : WidthsAreFew
widths_few zero = omega arith
widths_few (suc zero) = omega arith
widths_few (suc (suc zero)) = omega arith
widths_few (suc (suc (suc zero))) = omega arith
widths_few (suc (suc (suc (suc zero)))) = omega arith
widths_few (suc (suc (suc (suc (suc zero))))) = omega arith
widths_few (suc (suc (suc (suc (suc (suc zero)))))) = omega arith
widths_few (suc (suc (suc (suc (suc (suc (suc zero))))))) = omega arith
widths_few (suc (suc (suc (suc (suc (suc (suc (suc n)))))))) = omega arith
