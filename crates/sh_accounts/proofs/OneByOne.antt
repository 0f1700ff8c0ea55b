-- A slot of its page's class is of the kind that the code finds, and of no other.
use Rattle.std.proofs.Common.{◌≡◌, ℕ, ◌+◌, ◌<◌, ◌||◌, ◌&&◌, ◌∙◌, Bool, true, false, List, [], ◌∷◌, refl, arith}
use Rattle.std.specs.Prelude.{not}
use Rattle.std.specs.List.{list_any}
use Rattle.sh_word.specs.Kinds.{kind_by as state_kind}
use Rattle.sh_slots.specs.declared.hand.Hand.{Hand as HandOf}
use Rattle.sh_slots.specs.declared.hand.Hand.TheVariants.{Idle, Removing, Leaving, Finishing, ToPut, Tying, Ringing}
use Rattle.sh_slots.specs.declared.hand.Hand.TheVariants.{RingTying, Filling, Looking}
use Rattle.sh_slots.specs.declared.hand.SlotRef.{SlotRef}
use Rattle.sh_slots.specs.Slots.{same_slot}
use Rattle.sh_step.specs.Collections.{total, if1, has}
use Rattle.sh_step.specs.declared.body.Body.{Body}
use Rattle.sh_step.proofs.ListLaws.{any_is_has}
use Rattle.sh_core.specs.Lists.{mine_at, in_hand}
use Rattle.sh_accounts.specs.declared.kinds.SlotKind.TheVariants.{Live, Marked, Retired, Mine, Hand, Queued}
use Rattle.sh_accounts.specs.Kinds.{is, slot_kind_by, empty_kind, has_in_hand}

-- if one item passes, the sum of what those that pass give is not 0; if none passes, it is 0
any_some : {A : Type 0} (t : A → Bool) (f : A → ℕ) → ((x : A) → t x ≡ true → 0 < f x) → (xs : List A) → list_any t xs
    ≡ true → 0 < total f xs
unfolding total
any_some t f h [] e = absurd (let z : false ≡ true = e in cc)
any_some t f h (x ∷ xs) e = go (t x) refl e (any_some t f h xs) where
  go : (b : Bool) → t x ≡ b → (b || list_any t xs) ≡ true → (list_any t xs ≡ true → 0 < total f xs)
      → 0 < f x + total f xs
  go true is e rest = omega (arith, h x is)
  go false is e rest = omega (arith, rest e)

any_none : {A : Type 0} (t : A → Bool) (f : A → ℕ) → ((x : A) → t x ≡ false → f x ≡ 0) → (xs : List A) → list_any t xs
    ≡ false → total f xs ≡ 0
unfolding total
any_none t f h [] e = refl
any_none t f h (x ∷ xs) e = go (t x) refl e (any_none t f h xs) where
  go : (b : Bool) → t x ≡ b → (b || list_any t xs) ≡ false → (list_any t xs ≡ false → total f xs ≡ 0) → f x + total f xs
      ≡ 0
  go true is e rest = absurd (let z : true ≡ false = e in cc)
  go false is e rest = omega (arith, h x is, rest e)

if1_some : (b : Bool) → b ≡ true → 0 < if1 b
if1_some true e = omega arith
if1_some false e = absurd (let z : false ≡ true = e in cc)

if1_none : (b : Bool) → b ≡ false → if1 b ≡ 0
if1_none true e = absurd (let z : true ≡ false = e in cc)
if1_none false e = refl

-- one pass
mine_some : (x : SlotRef) (p : Body) → has (same_slot x) p.mine ≡ true → 0 < mine_at x p
mine_some x p e = any_some (same_slot x) (λ y. if1 (same_slot x y)) (λ y. if1_some (same_slot x y)) p.mine
    (any_is_has (same_slot x) p.mine ∙ e)

mine_none : (x : SlotRef) (p : Body) → has (same_slot x) p.mine ≡ false → mine_at x p ≡ 0
mine_none x p e = any_none (same_slot x) (λ y. if1 (same_slot x y)) (λ y. if1_none (same_slot x y)) p.mine
    (any_is_has (same_slot x) p.mine ∙ e)

hand_some : (x : SlotRef) (p : Body) → has_in_hand x p ≡ true → 0 < in_hand x p
hand_some x p = go p.hand where
  go : (h : HandOf) → elim h as (λ _. Bool) [ ToPut y ↦ same_slot x y | Filling y v n ↦ same_slot x y | _ ↦ false ]
      ≡ true → 0 < elim h as (λ _. ℕ) [ ToPut y ↦ if1 (same_slot x y) | Filling y v n ↦ if1 (same_slot x y) | _ ↦ 0 ]
  go (ToPut y) e = if1_some (same_slot x y) e
  go (Filling y v n) e = if1_some (same_slot x y) e
  go Idle e = absurd (let z : false ≡ true = e in cc)
  go (Removing j) e = absurd (let z : false ≡ true = e in cc)
  go (Leaving y) e = absurd (let z : false ≡ true = e in cc)
  go (Finishing y n s) e = absurd (let z : false ≡ true = e in cc)
  go (Tying y n r) e = absurd (let z : false ≡ true = e in cc)
  go (Ringing q) e = absurd (let z : false ≡ true = e in cc)
  go (RingTying q n) e = absurd (let z : false ≡ true = e in cc)
  go (Looking k y s) e = absurd (let z : false ≡ true = e in cc)

hand_none : (x : SlotRef) (p : Body) → has_in_hand x p ≡ false → in_hand x p ≡ 0
hand_none x p = go p.hand where
  go : (h : HandOf) → elim h as (λ _. Bool) [ ToPut y ↦ same_slot x y | Filling y v n ↦ same_slot x y | _ ↦ false ]
      ≡ false → elim h as (λ _. ℕ) [ ToPut y ↦ if1 (same_slot x y) | Filling y v n ↦ if1 (same_slot x y) | _ ↦ 0 ] ≡ 0
  go (ToPut y) e = if1_none (same_slot x y) e
  go (Filling y v n) e = if1_none (same_slot x y) e
  go Idle e = refl
  go (Removing j) e = refl
  go (Leaving y) e = refl
  go (Finishing y n s) e = refl
  go (Tying y n r) e = refl
  go (Ringing q) e = refl
  go (RingTying q n) e = refl
  go (Looking k y s) e = refl

-- all passes
some_mine : (x : SlotRef) (ps : List Body) → list_any (λ p. has (same_slot x) p.mine) ps ≡ true
    → 0 < total (mine_at x) ps
some_mine x ps = any_some (λ p. has (same_slot x) p.mine) (mine_at x) (mine_some x) ps

none_mine : (x : SlotRef) (ps : List Body) → list_any (λ p. has (same_slot x) p.mine) ps ≡ false
    → total (mine_at x) ps ≡ 0
none_mine x ps = any_none (λ p. has (same_slot x) p.mine) (mine_at x) (mine_none x) ps

some_hand : (x : SlotRef) (ps : List Body) → list_any (has_in_hand x) ps ≡ true → 0 < total (in_hand x) ps
some_hand x ps = any_some (has_in_hand x) (in_hand x) (hand_some x) ps

none_hand : (x : SlotRef) (ps : List Body) → list_any (has_in_hand x) ps ≡ false → total (in_hand x) ps ≡ 0
none_hand x ps = any_none (has_in_hand x) (in_hand x) (hand_none x) ps

-- The slot counts once, under its kind
pub record Once (ps : List Body) (x : SlotRef) (is_marked is_present : Bool) (in_line : ℕ) : Type 0 where
  pub live : if1 (is Live (slot_kind_by (state_kind is_marked is_present) ps x)) ≡ if1 (is_present && not is_marked)
  pub marked : if1 (is Marked (slot_kind_by (state_kind is_marked is_present) ps x)) ≡ if1 (is_present && is_marked)
  pub retired : if1 (is Retired (slot_kind_by (state_kind is_marked is_present) ps x))
      ≡ if1 (not is_present && is_marked)
  pub mine : if1 (is Mine (slot_kind_by (state_kind is_marked is_present) ps x)) ≡ total (mine_at x) ps
  pub hand : if1 (is Hand (slot_kind_by (state_kind is_marked is_present) ps x)) ≡ total (in_hand x) ps
  pub queued : if1 (is Queued (slot_kind_by (state_kind is_marked is_present) ps x)) ≡ in_line

once_empty : (ps : List Body) (x : SlotRef) (in_line : ℕ) → total (mine_at x) ps + total (in_hand x) ps + in_line ≡ 1
    → Once ps x false false in_line
unfolding empty_kind
once_empty ps x in_line one = go (list_any (λ p. has (same_slot x) p.mine) ps) (list_any (has_in_hand x) ps) refl refl
  where
    go : (b c : Bool) → list_any (λ p. has (same_slot x) p.mine) ps ≡ b → list_any (has_in_hand x) ps ≡ c
        → Once ps x false false in_line
    go true c is_mine is_in_hand = let some = some_mine x ps is_mine in record {
      live = rw is_mine refl;
      marked = rw is_mine refl;
      retired = rw is_mine refl;
      mine = rw is_mine (omega arith);
      hand = rw is_mine (omega arith);
      queued = rw is_mine (omega arith);
    }
    go false true is_mine is_in_hand = let none = none_mine x ps is_mine in let some = some_hand x ps is_in_hand
        in record {
          live = rw (is_mine, is_in_hand) refl;
          marked = rw (is_mine, is_in_hand) refl;
          retired = rw (is_mine, is_in_hand) refl;
          mine = rw (is_mine, is_in_hand) (omega arith);
          hand = rw (is_mine, is_in_hand) (omega arith);
          queued = rw (is_mine, is_in_hand) (omega arith);
        }
    go false false is_mine is_in_hand = let none = none_mine x ps is_mine in let neither = none_hand x ps is_in_hand
        in record {
          live = rw (is_mine, is_in_hand) refl;
          marked = rw (is_mine, is_in_hand) refl;
          retired = rw (is_mine, is_in_hand) refl;
          mine = rw (is_mine, is_in_hand) (omega arith);
          hand = rw (is_mine, is_in_hand) (omega arith);
          queued = rw (is_mine, is_in_hand) (omega arith);
        }

pub once : (ps : List Body) (x : SlotRef) (marked present : Bool) (in_line : ℕ)
    → if1 (present && not marked) + if1 (present && marked) + if1 (not present && marked) + total (mine_at x) ps + total
    (in_hand x) ps + in_line ≡ 1 → Once ps x marked present in_line
once ps x false false in_line one = once_empty ps x in_line (omega arith)
once ps x false true in_line one = record {
  live = refl;
  marked = refl;
  retired = refl;
  mine = omega arith;
  hand = omega
      arith;
  queued = omega arith;
}
once ps x true false in_line one = record {
  live = refl;
  marked = refl;
  retired = refl;
  mine = omega arith;
  hand = omega
      arith;
  queued = omega arith;
}
once ps x true true in_line one = record {
  live = refl;
  marked = refl;
  retired = refl;
  mine = omega arith;
  hand = omega
      arith;
  queued = omega arith;
}
