-- How often a number occurs in a list, and so what lists share that differ only in their order.
use Rattle.std.proofs.Common.{◌≡◌, ◌≢◌, ℕ, zero, suc, ◌+◌, ◌-◌, ◌<◌, ◌≤◌, ◌⊎◌, ⊎_elim, Bool, true, false, cond, ◌||◌}
use Rattle.std.proofs.Common.{◌==◌, List, [], ◌∷◌, ◌++◌, map, length, get_or, set, sym, refl, ap, ◌∙◌, subst, arith}
use Rattle.std.proofs.Common.{eq-eqb, ne_eqb}
use Rattle.std.specs.List.{concat}
use Rattle.std.proofs.lemmas.Bool.{cases_eq, false≢true}
use Rattle.sh_lists.specs.Numbers.{Misses, Distinct, AllBelow, upward}
use Rattle.sh_lists.proofs.Distincts.{Distinct-upward, Misses-upward, length-le_from_Distinct}
use Rattle.sh_queue.specs.Numbers.{has_number, without_number}
use Rattle.sh_queue.proofs.Numbers.{has_number-from_Misses, Misses-from_has, has_number-upward}
use Rattle.sh_queue.proofs.Without.{without_number-else}

-- how often k occurs in the list
abbrev pub times : ℕ → List ℕ → ℕ
times k [] = 0
times k (x ∷ xs) = cond (x == k) 1 0 + times k xs

pub times-here : (k x : ℕ) (xs : List ℕ) → x ≡ k → times k (x ∷ xs) ≡ 1 + times k xs
times-here k x xs is = ap (λ b. cond b 1 0 + times k xs) (eq-eqb x k is)

pub times-else : (k x : ℕ) (xs : List ℕ) → x ≢ k → times k (x ∷ xs) ≡ times k xs
times-else k x xs other = ap (λ b. cond b 1 0 + times k xs) (ne_eqb x k other) ∙ omega arith

pub times-append : (k : ℕ) (xs ys : List ℕ) → times k (xs ++ ys) ≡ times k xs + times k ys
times-append k [] ys = omega arith
times-append k (x ∷ xs) ys = let rest = times-append k xs ys in omega arith

-- ---- whether it occurs in the list

pub times-none : (k : ℕ) (xs : List ℕ) → has_number k xs ≡ false → times k xs ≡ 0
times-none k [] none = refl
times-none k (x ∷ xs) none = go (x == k) none (times-none k xs) where
  go : (b : Bool) → b || has_number k xs ≡ false → (has_number k xs ≡ false → times k xs ≡ 0) → cond b 1 0 + times k xs
      ≡ 0
  go true none rest = absurd (false≢true (sym none))
  go false none rest = let h = rest none in omega arith

pub times-some : (k : ℕ) (xs : List ℕ) → has_number k xs ≡ true → 0 < times k xs
times-some k [] here = absurd (false≢true here)
times-some k (x ∷ xs) here = go (x == k) here (times-some k xs) where
  go : (b : Bool) → b || has_number k xs ≡ true → (has_number k xs ≡ true → 0 < times k xs)
      → 0 < cond b 1 0 + times k xs
  go true here rest = omega arith
  go false here rest = let h = rest here in omega arith

pub has_number-from_times : (k : ℕ) (xs : List ℕ) → 0 < times k xs → has_number k xs ≡ true
has_number-from_times k xs some = go (has_number k xs) refl where
  go : (b : Bool) → has_number k xs ≡ b → b ≡ true
  go true is = refl
  go false is = let none = times-none k xs is in absurd (omega arith)

pub hasnt-from_times : (k : ℕ) (xs : List ℕ) → times k xs ≡ 0 → has_number k xs ≡ false
hasnt-from_times k xs none = go (has_number k xs) refl where
  go : (b : Bool) → has_number k xs ≡ b → b ≡ false
  go true is = let some = times-some k xs is in absurd (omega arith)
  go false is = refl

-- ---- numbers that differ

pub times-le : (xs : List ℕ) → Distinct xs → (k : ℕ) → times k xs ≤ 1
times-le [] distinct k = omega arith
times-le (x ∷ xs) distinct k = ⊎_elim
    (λ (is : x ≡ k).
    let none = times-none k xs (has_number-from_Misses k xs (subst (λ z. Misses z xs) is distinct.0)) in
    let here = times-here k x xs is in omega arith)
    (λ (other : x ≢ k). let here = times-else k x xs other in let rest = times-le xs distinct.1 k in omega arith)
    (cases_eq x k)

pub Distinct-from_times : (xs : List ℕ) → ((k : ℕ) → times k xs ≤ 1) → Distinct xs
Distinct-from_times [] few = tt
Distinct-from_times (x ∷ xs) few = (
  Misses-from_has x xs (hasnt-from_times x xs (let here = times-here x x xs refl in let all = few x in omega arith)),
  Distinct-from_times xs (λ k. let all = few k in omega arith),
)

-- n numbers below n that differ are all of them
pub has_number-all_below : (n k : ℕ) (xs : List ℕ) → Distinct xs → AllBelow n xs → length xs ≡ n → k < n
    → has_number k xs ≡ true
has_number-all_below n k xs distinct below many inside = go (has_number k xs) refl where
  go : (b : Bool) → has_number k xs ≡ b → b ≡ true
  go true is = refl
  go false is =
      let few : length (k ∷ xs) ≤ n = length-le_from_Distinct n (k ∷ xs) (Misses-from_has k xs is, distinct)
      (inside, below) in
      absurd (omega arith)

pub times-upward_inside : (k i n : ℕ) → i ≤ k → k < i + n → times k (upward i n) ≡ 1
times-upward_inside k i n from upto =
    let few = times-le (upward i n) (Distinct-upward i n) k in
    let some = times-some k (upward i n) (has_number-upward k i n from upto) in omega arith

pub times-upward_outside : (k i n : ℕ) → (k < i) ⊎ (i + n ≤ k) → times k (upward i n) ≡ 0
times-upward_outside k i n outside = times-none k (upward i n)
    (has_number-from_Misses k (upward i n) (Misses-upward k i n outside))

-- ---- a number is taken out

pub times-without_other : (k x : ℕ) (xs : List ℕ) → x ≢ k → times k (without_number x xs) ≡ times k xs
times-without_other k x [] other = refl
times-without_other k x (z ∷ zs) other = ⊎_elim
    (λ (is : z ≡ x). ap (λ b. times k (cond b zs (z ∷ without_number x zs))) (eq-eqb z x is)
    ∙ sym (times-else k z zs (λ same. other (sym is ∙ same))))
    (λ (differ : z ≢ x). ap (times k) (without_number-else x z zs differ)
    ∙ ap (λ n. cond (z == k) 1 0 + n) (times-without_other k x zs other))
    (cases_eq z x)

pub times-without_same : (x : ℕ) (xs : List ℕ) → times x (without_number x xs) ≡ times x xs - 1
times-without_same x [] = refl
times-without_same x (z ∷ zs) = ⊎_elim
    (λ (is : z ≡ x).
    let here = times-here x z zs is in
    ap (λ b. times x (cond b zs (z ∷ without_number x zs))) (eq-eqb z x is) ∙ omega arith)
    (λ (other : z ≢ x).
    let here = times-else x z zs other in
    let there = times-else x z (without_number x zs) other in
    let rest = times-without_same x zs in
    ap (times x) (without_number-else x z zs other) ∙ omega arith)
    (cases_eq z x)

-- ---- lists one after the other

pub times-concat_without_other : (k x : ℕ) (xss : List (List ℕ)) → x ≢ k → times k (concat (map (without_number x) xss))
    ≡ times k (concat xss)
times-concat_without_other k x [] other = refl
times-concat_without_other k x (xs ∷ xss) other =
    times-append k (without_number x xs) (concat (map (without_number x) xss))
    ∙ ap (λ n. n + times k (concat (map (without_number x) xss))) (times-without_other k x xs other)
    ∙ ap (λ n. times k xs + n) (times-concat_without_other k x xss other)
    ∙ sym (times-append k xs (concat xss))

-- a number that occurs at most once is gone once it is taken out
pub times-concat_without_same : (x : ℕ) (xss : List (List ℕ)) → times x (concat xss) ≤ 1
    → times x (concat (map (without_number x) xss)) ≡ 0
times-concat_without_same x [] few = refl
times-concat_without_same x (xs ∷ xss) few =
    let all = times-append x xs (concat xss) in
    let new = times-append x (without_number x xs) (concat (map (without_number x) xss)) in
    let here = times-without_same x xs in
    let rest = times-concat_without_same x xss (omega arith) in omega arith

-- one list becomes another
pub times-concat_set : (k c : ℕ) (xss : List (List ℕ)) (ys : List ℕ) → c < length xss
    → times k (concat (set xss c ys)) + times k (get_or xss c []) ≡ times k (concat xss) + times k ys
times-concat_set k c [] ys inside = absurd (omega arith)
times-concat_set k zero (xs ∷ xss) ys inside =
    let old = times-append k xs (concat xss) in let new = times-append k ys (concat xss) in omega arith
times-concat_set k (suc c) (xs ∷ xss) ys inside =
    let old = times-append k xs (concat xss) in
    let new = times-append k xs (concat (set xss c ys)) in
    let rest = times-concat_set k c xss ys (omega arith) in omega arith

-- a number occurs in one of the lists at most as often as in all of them together
pub times-le_concat : (k c : ℕ) (xss : List (List ℕ)) → times k (get_or xss c []) ≤ times k (concat xss)
times-le_concat k c [] = omega arith
times-le_concat k zero (xs ∷ xss) = let all = times-append k xs (concat xss) in omega arith
times-le_concat k (suc c) (xs ∷ xss) =
    let all = times-append k xs (concat xss) in let rest = times-le_concat k c xss in omega arith

-- the same for two of the lists together
pub times-two_le_concat : (k c d : ℕ) (xss : List (List ℕ)) → c ≢ d
    → times k (get_or xss c []) + times k (get_or xss d []) ≤ times k (concat xss)
times-two_le_concat k c d [] other = omega arith
times-two_le_concat k zero zero (xs ∷ xss) other = absurd (other refl)
times-two_le_concat k zero (suc d) (xs ∷ xss) other =
    let all = times-append k xs (concat xss) in let rest = times-le_concat k d xss in omega arith
times-two_le_concat k (suc c) zero (xs ∷ xss) other =
    let all = times-append k xs (concat xss) in let rest = times-le_concat k c xss in omega arith
times-two_le_concat k (suc c) (suc d) (xs ∷ xss) other =
    let all = times-append k xs (concat xss) in
    let rest = times-two_le_concat k c d xss (λ same. other (ap suc same)) in omega arith

-- a number of all the lists together is in one of them
pub has_number-one_of : (k : ℕ) (xss : List (List ℕ)) → 0 < times k (concat xss) → (c : ℕ) × (c < length xss)
    × (has_number k (get_or xss c []) ≡ true)
has_number-one_of k [] some = absurd (omega arith)
has_number-one_of k (xs ∷ xss) some = go (has_number k xs) refl (has_number-one_of k xss) where
  go : (b : Bool) → has_number k xs ≡ b → (0 < times k (concat xss) → (c : ℕ) × (c < length xss)
      × (has_number k (get_or xss c []) ≡ true))
      → (c : ℕ) × (c < length (xs ∷ xss)) × (has_number k (get_or (xs ∷ xss) c []) ≡ true)
  go true is rest = (0, omega arith, is)
  go false is rest =
      let none = times-none k xs is in
      let all = times-append k xs (concat xss) in
      let found = rest (omega arith) in
      let inside = found.1 in (suc found.0, omega arith, found.2)
