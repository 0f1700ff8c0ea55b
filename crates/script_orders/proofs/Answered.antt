-- What is asked of outcomes is so of the orders that have them.
use Rattle.std.proofs.Common.{◌≡◌, ℕ, ◌+◌, ◌<◌, ◌≤◌, ◌==◌, ◌||◌, Bool, true, false, cond, List, [], ◌∷◌, length}
use Rattle.std.proofs.Common.{slice_get, Some, None, Option, refl, sym, ap, subst, ◌∙◌, arith, inl, inr, eq-eqb}
use Rattle.std.proofs.Common.{zero, suc}
use Rattle.std.specs.Prelude.{nat_eq}
use Rattle.std.specs.List.{All, filter, list_any, range_with_len}
use Rattle.std.proofs.lemmas.Bool.{eqb-true, cases_eq}
use Rattle.std.proofs.lemmas.List.{nil_from_length}
use Rattle.std.proofs.lemmas.List.Elements.{All-nil, All-cons, All-head, All-tail}
use Rattle.std.proofs.lemmas.Option.{slice_get_within}
use Rattle.script_orders.specs.declared.found.Found.{Found}
use Rattle.script_orders.specs.Reached.{Has}
use Rattle.script_orders.specs.Comments.{Reply, Asks}
use Rattle.script_orders.specs.Answers.{is_replied, has_reply, has_at, has_some, having, having_all, having_some}
use Rattle.script_orders.specs.Answers.{looked_at, is_as_asked, IsAsAsked}

last_is_true : (b c : Bool) → c ≡ true → (b || c) ≡ true
last_is_true true c h = refl
last_is_true false c h = h

in_range : (n a x : ℕ) → a ≤ x → x < a + n → list_any (nat_eq x) (range_with_len a n) ≡ true
in_range zero a x low high = absurd (omega arith)
in_range (suc n) a x low high = elim (cases_eq x a) [
  | inl e ↦ rw (eq-eqb x a e) refl
  | inr ne ↦
      last_is_true (nat_eq x a) (list_any (nat_eq x) (range_with_len (a + 1) n))
      (in_range n (a + 1) x (omega arith) (omega arith))
]

in_filter : (p : ℕ → Bool) (x : ℕ) (xs : List ℕ) → p x ≡ true → list_any (nat_eq x) xs ≡ true
    → list_any (nat_eq x) (filter p xs) ≡ true
in_filter p x [] ok there = there
in_filter p x (y ∷ ys) ok there = go (nat_eq x y) refl (p y) refl there (λ h. in_filter p x ys ok h) where
  go : (b : Bool) → nat_eq x y ≡ b → (q : Bool) → p y ≡ q → (b || list_any (nat_eq x) ys) ≡ true
      → (list_any (nat_eq x) ys ≡ true → list_any (nat_eq x) (filter p ys) ≡ true)
      → list_any (nat_eq x) (cond q (y ∷ filter p ys) (filter p ys)) ≡ true
  go true e true k h on = ap (λ (b : Bool). b || list_any (nat_eq x) (filter p ys)) e
  go true e false k h on = absurd (let z : false ≡ true = sym k ∙ ap p (sym (eqb-true x y e)) ∙ ok in cc)
  go false e true k h on = last_is_true (nat_eq x y) (list_any (nat_eq x) (filter p ys)) (on h)
  go false e false k h on = on h

none_in : (p : ℕ → Bool) (x : ℕ) (xs : List ℕ) → length (filter p xs) ≡ 0 → list_any (nat_eq x) xs ≡ true
    → p x ≡ false
none_in p x xs none there = go (p x) refl where
  go : (b : Bool) → p x ≡ b → b ≡ false
  go false e = refl
  go true e =
      let is = in_filter p x xs e there in
      let empty = nil_from_length (filter p xs) none in
      let z : false ≡ true = sym (ap (list_any (nat_eq x)) empty) ∙ is in sym z

any_false : (t : Reply → Bool) (rs : List Reply) → list_any t rs ≡ false → All (λ (r : Reply). t r ≡ false) rs
any_false t [] h = All-nil (λ (r : Reply). t r ≡ false)
any_false t (r ∷ rs) h = go (t r) refl h (λ k. any_false t rs k) where
  go : (b : Bool) → t r ≡ b → (b || list_any t rs) ≡ false
      → (list_any t rs ≡ false → All (λ (s : Reply). t s ≡ false) rs)
      → All (λ (s : Reply). t s ≡ false) (r ∷ rs)
  go true e k on = absurd (let z : true ≡ false = k in cc)
  go false e k on = All-cons (λ (s : Reply). t s ≡ false) r rs e (on k)

module _ (found : List Found) (replies : List (List ℕ)) (x : ℕ)
    (at : (r : Reply) → has_at found r x ≡ is_replied r replies) where
  in_all : (rs : List Reply) (xs : List ℕ) → All (λ (r : Reply). is_replied r replies ≡ true) rs
      → list_any (nat_eq x) xs ≡ true → list_any (nat_eq x) (having_all found rs xs) ≡ true
  in_all [] xs all there = there
  in_all (r ∷ rs) xs all there =
      in_all rs (having found r xs) (All-tail (λ (s : Reply). is_replied s replies ≡ true) r rs all)
      (in_filter (has_at found r) x xs (at r ∙ All-head (λ (s : Reply). is_replied s replies ≡ true) r rs all) there)

  none_replied : (rs : List Reply) → has_some found rs x ≡ false → All (λ (r : Reply). is_replied r replies ≡ false) rs
  none_replied rs h = λ k d less. sym (at _) ∙ any_false (λ (r : Reply). has_at found r x) rs h k d less

  asked_so : (a : Asks) → x < length found → is_as_asked found a ≡ true → IsAsAsked a replies
  asked_so a less so wheres = go (length a.nevers == 0) refl so where
    go : (b : Bool) → (length a.nevers == 0) ≡ b
        → (b || (length (having_some found a.nevers (looked_at found a)) == 0)) ≡ true
        → All (λ (r : Reply). is_replied r replies ≡ false) a.nevers
    go true e h =
        subst (All (λ (r : Reply). is_replied r replies ≡ false))
        (sym (nil_from_length a.nevers (eqb-true (length a.nevers) 0 e)))
        (All-nil (λ (r : Reply). is_replied r replies ≡ false))
    go false e h =
        let none = eqb-true (length (having_some found a.nevers (looked_at found a))) 0 h in
        let there = in_all a.wheres (range_with_len 0 (length found)) wheres
        (in_range (length found) 0 x (omega arith) (omega arith)) in
        none_replied a.nevers (none_in (has_some found a.nevers) x (looked_at found a) none there)

pub as_asked : (found : List Found) (a : Asks) (replies : List (List ℕ)) (pages : List ℕ) → Has found replies pages
    → is_as_asked found a ≡ true → IsAsAsked a replies
as_asked found a replies pages (place, f, at, is, _) so =
    asked_so found replies place (λ r. has_it r (slice_get found place) at) a (slice_get_within found place f at) so
  where
    has_it : (r : Reply) (o : Option Found) → o ≡ Some f
        → (elim o [ Some g ↦ has_reply r g | None ↦ false ]) ≡ is_replied r replies
    has_it r o e =
        ap (λ (p : Option Found). elim p [ Some g ↦ has_reply r g | None ↦ false ]) e
        ∙ ap (is_replied r) is
