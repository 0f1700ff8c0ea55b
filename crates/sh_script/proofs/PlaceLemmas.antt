-- Places are the numbers that dots join.
use Rattle.std.proofs.Common.{◌≡◌, ℕ, ◌+◌, ◌<◌, ◌^◌, true, false, [], ◌∷◌, ◌++◌, length, get_or, take, drop, Option}
use Rattle.std.proofs.Common.{Some, None, Ok, decimal, refl, sym, ap, ap₂, subst, ◌∙◌, arith, eqb-true, ne_eqb, lt-ltb}
use Rattle.std.proofs.Common.{length-append, append_assoc}
use Rattle.std.specs.List.{All, position, position_or_len}
use Rattle.std.specs.Option.{option_map}
use Rattle.std.specs.Str.{all_ascii_digits}
use Rattle.std.specs.Char.{is_ascii_digit}
use Rattle.std.proofs.lemmas.Fmt.{digits_decimal}
use Rattle.std.proofs.lemmas.Grind.{take_at_read}
use Rattle.std.proofs.lemmas.List.{take_at, drop_at, take-append-drop}
use Rattle.std.proofs.lemmas.List.Elements.{All-nil, All-cons, All-head, All-tail}
use Rattle.std.proofs.lemmas.List.Quantifiers.{position-Some}
use Rattle.std.proofs.lemmas.Option.{same_Some}
use Rattle.std.proofs.lemmas.Bool.{and_parts}
use Rattle.sh_step.specs.declared.action.PageName.{PageName}
use Rattle.sh_step.specs.declared.action.SlotName.{SlotName}
use Rattle.sh_script.specs.Words.{Word, is_dot, split_dot}
use Rattle.sh_script.specs.Meaning.{IsPage, IsSlot}
use Rattle.sh_script.specs.EventLines.{page_from, slot_from}
use Rattle.sh_script.proofs.NumberLemmas.{own, number_is, number_of_decimal}
use Rattle.sh_script.proofs.Steps.{bind_ok, or_ok, ok_is}

-- ---- the place of the first dot

cut_at : (w : Word) (i : ℕ) → i < length w → is_dot (get_or w i 0) ≡ true → w ≡ take i w ++ 46 ∷ drop (i + 1) w
cut_at w i lt e =
    let front = take_at_read w i 0 lt in
    let dot : get_or w i 0 ≡ 46 = eqb-true _ 46 e in
    sym (take-append-drop (i + 1) w) ∙ ap (λ (xs : Word). xs ++ drop (i + 1) w) front.1
    ∙ append_assoc (take i w) (get_or w i 0 ∷ []) (drop (i + 1) w) ∙ ap (λ b. take i w ++ b ∷ drop (i + 1) w) dot

split_at : (w : Word) (o : Option ℕ) (p : Word × Word) → position is_dot w ≡ o
    → option_map (λ i. (take i w, drop (i + 1) w)) o ≡ Some p → w ≡ p.0 ++ 46 ∷ p.1
split_at w None p at e = cc
split_at w (Some i) p at e =
    let x = position-Some is_dot w i 0 at in
    let same : (take i w, drop (i + 1) w) ≡ p = same_Some (take i w, drop (i + 1) w) p e in
    cut_at w i x.0 x.1 ∙ ap (λ (q : Word × Word). q.0 ++ 46 ∷ q.1) same

split_is : (w : Word) (p : Word × Word) → split_dot w ≡ Some p → w ≡ p.0 ++ 46 ∷ p.1
split_is w p e = split_at w (position is_dot w) p refl e

abbrev IsNoDot : ℕ → Type 0
IsNoDot b = is_dot b ≡ false

first_dot : (x y : Word) → All IsNoDot x → position_or_len is_dot (x ++ 46 ∷ y) ≡ length x
first_dot [] y h = refl
first_dot (b ∷ bs) y h = rw (All-head IsNoDot b bs h, first_dot bs y (All-tail IsNoDot b bs h)) (omega arith)

split_gives : (x y : Word) → All IsNoDot x → split_dot (x ++ 46 ∷ y) ≡ Some (x, y)
split_gives x y h =
    let long : length (x ++ 46 ∷ y) ≡ length x + length {A = ℕ} (46 ∷ y) = length-append x (46 ∷ y) in
    let lt : length x < length (x ++ 46 ∷ y) = omega (arith, long) in
    let onto : x ++ 46 ∷ y ≡ (x ++ 46 ∷ []) ++ y = sym (append_assoc x (46 ∷ []) y) in
    let more : length (x ++ 46 ∷ []) ≡ length x + length {A = ℕ} (46 ∷ []) = length-append x (46 ∷ []) in
    let rest : drop (length x + 1) (x ++ 46 ∷ y) ≡ y = ap (drop (length x + 1)) onto
    ∙ drop_at (x ++ 46 ∷ []) y (length x + 1) (omega (arith, more)) in
    rw (first_dot x y h, lt-ltb _ _ lt) (ap₂ (λ (u v : Word). Some (u, v)) (take_at x (46 ∷ y) (length x) refl) rest)

-- ---- digits are no dots

digit_no_dot : (b : ℕ) → is_ascii_digit b ≡ true → IsNoDot b
digit_no_dot b e = ne_eqb b 46 (λ same. not_digit (ap is_ascii_digit (sym same) ∙ e))
  where
    not_digit : is_ascii_digit 46 ≡ true → ⊥
    not_digit e = cc

no_dots : (w : Word) → all_ascii_digits w ≡ true → All IsNoDot w
no_dots [] e = All-nil IsNoDot
no_dots (b ∷ bs) e = let h = and_parts (is_ascii_digit b) (all_ascii_digits bs) e
    in All-cons IsNoDot b bs (digit_no_dot b h.0) (no_dots bs h.1)

decimal_first : (n : ℕ) (y : Word) → n < 2 ^ 64 → split_dot (decimal n ++ 46 ∷ y) ≡ Some (decimal n, y)
decimal_first n y small = split_gives (decimal n) y (no_dots (decimal n) (digits_decimal own n small))

-- ---- places

pub page_is : (w : Word) (page : PageName) → page_from w ≡ Ok page → IsPage w page
unfolding page_from
page_is w page e =
    let p = bind_ok _ _ page e in
    let s = bind_ok _ _ page p.2 in
    let t = bind_ok _ _ page s.2 in
    let shard = number_is _ s.0 (or_ok _ _ _ s.1) in
    let number = number_is _ t.0 (or_ok _ _ _ t.1) in
    subst (IsPage w) (ok_is _ page t.2) (record {
      joined = split_is w p.0 (or_ok _ _ _ p.1) ∙ ap₂ (λ (x y : Word). x ++ 46 ∷ y) shard.digits number.digits;
      shard_small = shard.small;
      page_small = number.small;
    })

pub page_gives : (w : Word) (page : PageName) → IsPage w page → page_from w ≡ Ok page
unfolding page_from
page_gives w page x =
    rw (
      x.joined,
      decimal_first page.shard (decimal page.page) x.shard_small,
      number_of_decimal page.shard
          x.shard_small,
      number_of_decimal page.page x.page_small,
    ) refl

pub slot_is : (w : Word) (slot : SlotName) → slot_from w ≡ Ok slot → IsSlot w slot
unfolding slot_from
slot_is w slot e =
    let p = bind_ok _ _ slot e in
    let q = bind_ok _ _ slot p.2 in
    let s = bind_ok _ _ slot q.2 in
    let t = bind_ok _ _ slot s.2 in
    let u = bind_ok _ _ slot t.2 in
    let shard = number_is _ s.0 (or_ok _ _ _ s.1) in
    let page = number_is _ t.0 (or_ok _ _ _ t.1) in
    let number = number_is _ u.0 (or_ok _ _ _ u.1) in
    let behind : (p.0).1 ≡ decimal t.0 ++ 46 ∷ decimal u.0 = split_is (p.0).1 q.0 (or_ok _ _ _ q.1)
    ∙ ap₂ (λ (x y : Word). x ++ 46 ∷ y) page.digits number.digits in
    subst (IsSlot w) (ok_is _ slot u.2) (record {
      joined = split_is w p.0 (or_ok _ _ _ p.1) ∙ ap₂ (λ (x y : Word). x ++ 46 ∷ y) shard.digits behind;
      shard_small = shard.small;
      page_small = page.small;
      slot_small = number.small;
    })

pub slot_gives : (w : Word) (slot : SlotName) → IsSlot w slot → slot_from w ≡ Ok slot
unfolding slot_from
slot_gives w slot x =
    rw (
      x.joined,
      decimal_first slot.shard (decimal slot.page ++ 46 ∷ decimal slot.slot) x.shard_small,
      decimal_first
          slot.page (decimal slot.slot) x.page_small,
      number_of_decimal slot.shard x.shard_small,
      number_of_decimal
          slot.page x.page_small,
      number_of_decimal slot.slot x.slot_small,
    )
    refl
