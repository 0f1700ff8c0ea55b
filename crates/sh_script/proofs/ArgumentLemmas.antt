-- The numbers at the end of a line.
use Rattle.std.proofs.Common.{◌≡◌, ℕ, ◌+◌, ◌^◌, ◌<◌, List, [], ◌∷◌, ◌++◌, length, map, Ok, decimal, refl, sym, ap, ap₂}
use Rattle.std.proofs.Common.{◌∙◌, arith, append_assoc}
use Rattle.std.specs.List.{All}
use Rattle.std.proofs.lemmas.List.{append-nil, length-append}
use Rattle.std.proofs.lemmas.List.Elements.{All-nil, All-cons, All-head, All-tail}
use Rattle.sh_script.specs.Words.{Word, number_of}
use Rattle.sh_script.specs.Trouble.{or_cause}
use Rattle.sh_script.specs.declared.fault.Cause.TheVariants as cause
use Rattle.sh_script.specs.Arguments.{numbers_from}
use Rattle.sh_script.proofs.NumberLemmas.{number_is, number_of_decimal}
use Rattle.sh_script.proofs.Steps.{bind_ok, or_ok, ok_is}

abbrev pub IsSmall : ℕ → Type 0
IsSmall n = n < 2 ^ 64

pub record AreNumbers (front : List ℕ) (ws : List Word) (all : List ℕ) : Type 0 where
  pub value : List ℕ
  pub says : ws ≡ map decimal value
  pub small : All IsSmall value
  pub is : all ≡ front ++ value

pub numbers_are : (ws : List Word) (front all : List ℕ) → numbers_from front ws ≡ Ok all → AreNumbers front ws all
numbers_are [] front all e = record {
  value = [];
  says = refl;
  small = All-nil IsSmall;
  is = sym
      (append-nil front ∙ ok_is front all e);
}
numbers_are (w ∷ ws) front all e =
    let a = bind_ok _ _ all e in
    let n = number_is w a.0 (or_ok _ _ _ a.1) in
    let r = numbers_are ws (front ++ a.0 ∷ []) all a.2 in
    record {
      value = a.0 ∷ r.value;
      says = ap₂ (λ (x : Word) (xs : List Word). x ∷ xs) n.digits r.says;
      small = All-cons
          IsSmall a.0 r.value n.small r.small;
      is = r.is ∙ append_assoc front (a.0 ∷ []) r.value;
    }

pub numbers_give : (value front : List ℕ) → All IsSmall value → numbers_from front (map decimal value)
    ≡ Ok (front ++ value)
numbers_give [] front h = ap (λ xs. Ok xs) (sym (append-nil front))
numbers_give (n ∷ ns) front h =
    let small : n < 2 ^ 64 = All-head IsSmall n ns h in
    rw (number_of_decimal n small) (numbers_give ns (front ++ n ∷ []) (All-tail IsSmall n ns h)
    ∙ ap (λ xs. Ok xs) (append_assoc front (n ∷ []) ns))

-- the numbers are as many as the words
pub numbers_count : (ws : List Word) (front all : List ℕ) → numbers_from front ws ≡ Ok all → length all
    ≡ length front + length ws
numbers_count [] front all e = let same : length front ≡ length all = ap (λ (xs : List ℕ). length xs)
    (ok_is {A = List ℕ} front all e) in omega (arith, same)
numbers_count (w ∷ ws) front all e =
    let a = bind_ok (or_cause cause.Number (number_of w)) (λ n. numbers_from (front ++ n ∷ []) ws) all e in
    let rest : length all ≡ length (front ++ a.0 ∷ []) + length ws = numbers_count ws (front ++ a.0 ∷ []) all a.2 in
    let more : length (front ++ a.0 ∷ []) ≡ length front + length (a.0 ∷ []) = length-append front (a.0 ∷ []) in
    omega (arith, rest, more)
