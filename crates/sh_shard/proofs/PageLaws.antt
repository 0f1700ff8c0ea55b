-- What is kept of a page agrees with what its owner knows after its lists or its notes change.
use Rattle.std.proofs.Common.{◌≡◌, ℕ, zero, suc, ◌+◌, ◌<◌, ◌==◌, ◌&&◌, ◌||◌, Bool, true, false, cond, Option, Some}
use Rattle.std.proofs.Common.{None, List, [], ◌∷◌, ◌++◌, refl, ap, ◌∙◌, sym, subst, arith, append-nil}
use Rattle.std.specs.Prelude.{nat_lt, nat_le, not}
use Rattle.std.proofs.lemmas.Bool.Decides.{nat_tests}
use Rattle.std.proofs.Math.Bool.{and-true, and-false}
use Rattle.std.proofs.lemmas.Bool.{cond_both}
use Rattle.sh_bell.specs.Bell.{is_armed, top_of}
use Rattle.sh_lists.specs.Lists.{Lists, refilled}
use Rattle.sh_lists.specs.Numbers.{Misses, upward}
use Rattle.sh_queue.specs.Numbers.{has_number}
use Rattle.sh_queue.proofs.Numbers.{has_number-append, has_number-from_Misses}
use Rattle.sh_shape.specs.Classes.{slots}
use Rattle.sh_stack.specs.Stack.{top_item, link_item}
use Rattle.sh_pass.specs.Owners.{SeenPage, page_taken, page_armed, page_followed, page_without, page_with, page_given}
use Rattle.sh_pass.specs.Owners.{page_rung}
use Rattle.sh_states.specs.declared.states.PageState.{PageState}
use Rattle.sh_shard.specs.Pages.{seen_class}
use Rattle.sh_shard.specs.Kept.{KeepsPage}
use Rattle.sh_shard.proofs.ClassWords.{word_of}
use Rattle.sh_core.proofs.Sums.Tests.{eqb-comm}

pub class_kept : (st : PageState) (g : SeenPage) → KeepsPage st g → seen_class g ≡ st.class_word
class_kept st g a = word_of g st.class_word a.class

pub kept_taken : (st : PageState) (g : SeenPage) (n : ℕ) (l : Lists) (c : Option ℕ) (b : Bool) → KeepsPage st g
    → 0 < seen_class g → l ≡ record st.lists { cursor = c } → c ≡ top_item (top_of n)
    → b ≡ cond (is_armed n) false st.armed
    → KeepsPage (record { lists = l; class_word = st.class_word; armed = b }) (page_taken g n)
kept_taken st g n l c b a some e f h = record {
  class = a.class;
  few = a.few;
  cursor = sym f ∙ ap (λ (z : Lists). z.cursor) (sym e);
  armed = ap (λ z. cond (is_armed n) false z) a.armed ∙ sym h;
  mine = λ s. ap (λ (z : Lists). has_number s (z.free ++ z.local)) e ∙ a.mine s;
  blank = λ z. h ∙ cond_both (is_armed n) false st.armed (λ t. t ≡ false) (λ _. refl) (λ _. a.blank z);
  unread = λ z. let k = class_kept st g a in absurd (omega arith);
}

pub kept_armed : (st : PageState) (g : SeenPage) (n : ℕ) (l : Lists) (c : Option ℕ) → KeepsPage st g → 0 < seen_class g
    → l ≡ record st.lists { cursor = c } → c ≡ top_item (top_of n)
    → KeepsPage (record { lists = l; class_word = st.class_word; armed = true }) (page_armed g n)
kept_armed st g n l c a some e f = record {
  class = a.class;
  few = a.few;
  cursor = sym f ∙ ap (λ (z : Lists). z.cursor) (sym e);
  armed = refl;
  mine = λ s. ap (λ (z : Lists). has_number s (z.free ++ z.local)) e ∙ a.mine s;
  blank = λ z. let k = class_kept st g a in absurd (omega arith);
  unread = λ z. let k = class_kept st g a in absurd (omega arith);
}

-- ---- slots that are added to the lists

or_swap : (a b c : Bool) → ((a || (b || false)) || c) ≡ (b || (a || c))
or_swap true true c = refl
or_swap true false c = refl
or_swap false true c = refl
or_swap false false c = refl

or_under : (a b c : Bool) → (a || (b || c)) ≡ (b || (a || c))
or_under true true c = refl
or_under true false c = refl
or_under false b c = refl

pub kept_followed : (st : PageState) (g : SeenPage) (s n : ℕ) (l : Lists) → KeepsPage st g → (n ≡ 0 → ⊥)
    → g.cursor ≡ Some s → l ≡ record { free = st.lists.free ++ s ∷ []; local = st.lists.local; cursor = link_item n }
    → KeepsPage (record { lists = l; class_word = st.class_word; armed = st.armed }) (page_followed g s n)
kept_followed st g s n l a some at e = go (n == 0) refl where
  go : (b : Bool) → (n == 0) ≡ b → KeepsPage (record { lists = l; class_word = st.class_word; armed = st.armed })
      (cond b (record g { met = g.met + 1 }) (record g { mine = λ t. (t == s) || g.mine t; cursor = link_item n }))
  go true z = absurd (some (let y : n ≡ 0 = grind (arith, nat_tests) in y))
  go false z = record {
    class = a.class;
    few = a.few;
    cursor = ap (λ (z : Lists). z.cursor) (sym e);
    armed = a.armed;
    mine = λ t. ap (λ (z : Lists). has_number t (z.free ++ z.local)) e
        ∙ (has_number-append t (st.lists.free ++ s ∷ []) st.lists.local
        ∙ (ap (λ b. b || has_number t st.lists.local) (has_number-append t st.lists.free (s ∷ []))
        ∙ (or_swap (has_number t st.lists.free) (s == t) (has_number t st.lists.local)
        ∙ (ap (λ b. b || (has_number t st.lists.free || has_number t st.lists.local)) (eqb-comm s t)
        ∙ ap (λ b. (t == s) || b) (sym (has_number-append t st.lists.free st.lists.local) ∙ a.mine t)))));
    blank = a.blank;
    unread = λ z. let none : None ≡ Some s = sym (a.unread z) ∙ (sym a.cursor ∙ at) in cc;
  }

pub kept_met : (st : PageState) (g : SeenPage) (s n : ℕ) → KeepsPage st g → n ≡ 0 → KeepsPage st (page_followed g s n)
kept_met st g s n a e =
    let z : (n == 0) ≡ true = grind (arith, nat_tests) in
    let P : Bool → Type 0 = λ b. KeepsPage st (cond b (record g { met = g.met + 1 })
    (record g { mine = λ t. (t == s) || g.mine t; cursor = link_item n })) in
    subst P (sym z) (record {
      class = a.class;
      few = a.few;
      cursor = a.cursor;
      armed = a.armed;
      mine = a.mine;
      blank = a.blank;
      unread = a.unread;
    })

-- a slot that the owner gained is in front of `local`
pub kept_with : (st : PageState) (g : SeenPage) (s : ℕ) (l : Lists) → KeepsPage st g → l
    ≡ record st.lists { local = s ∷ st.lists.local } → KeepsPage
    (record { lists = l; class_word = st.class_word; armed = st.armed }) (page_with g s)
kept_with st g s l a e = record {
  class = a.class;
  few = a.few;
  cursor = a.cursor ∙ ap (λ (z : Lists). z.cursor) (sym e);
  armed = a.armed;
  mine = λ t. ap (λ (z : Lists). has_number t (z.free ++ z.local)) e
      ∙ (has_number-append t st.lists.free (s ∷ st.lists.local)
      ∙ (or_under (has_number t st.lists.free) (s == t) (has_number t st.lists.local)
      ∙ (ap (λ b. b || (has_number t st.lists.free || has_number t st.lists.local)) (eqb-comm s t)
      ∙ ap (λ b. (t == s) || b) (sym (has_number-append t st.lists.free st.lists.local) ∙ a.mine t))));
  blank = a.blank;
  unread = λ z. ap (λ (z : Lists). z.cursor) e ∙ a.unread z;
}

-- ---- a slot that is used

-- slot x is taken out of the lists
pub record UsesSlot (x : ℕ) (old new : Lists) : Type 0 where
  pub order : old.free ++ old.local ≡ x ∷ (new.free ++ new.local)
  pub apart : Misses x (new.free ++ new.local)
  pub cursor : new.cursor ≡ old.cursor

refilled_all : (free local : List ℕ) (c : Option ℕ) → (refilled
    (record { free = free; local = local; cursor = c })).free ++
    (refilled (record { free = free; local = local; cursor = c })).local ≡ free ++ local
refilled_all [] local c = append-nil local
refilled_all (x ∷ free) local c = refl

refilled_cursor : (free local : List ℕ) (c : Option ℕ) → (refilled
    (record { free = free; local = local; cursor = c })).cursor ≡ c
refilled_cursor [] local c = refl
refilled_cursor (x ∷ free) local c = refl

pub uses_slot : (x : ℕ) (old new : Lists) → refilled old ≡ record new { free = x ∷ new.free }
    → Misses x (new.free ++ new.local) → UsesSlot x old new
uses_slot x old new e m = record {
  order = sym (refilled_all old.free old.local old.cursor) ∙ ap (λ (z : Lists). z.free ++ z.local) e;
  apart = m;
  cursor = sym (ap (λ (z : Lists). z.cursor) e) ∙ refilled_cursor old.free old.local old.cursor;
}

pub kept_without : (st : PageState) (g : SeenPage) (x : ℕ) (l : Lists) → KeepsPage st g → UsesSlot x st.lists l
    → KeepsPage (record { lists = l; class_word = st.class_word; armed = st.armed }) (page_without g x)
kept_without st g x l a u = record {
  class = a.class;
  few = a.few;
  cursor = a.cursor ∙ sym u.cursor;
  armed = a.armed;
  mine = λ t. go t (t == x) refl;
  blank = a.blank;
  unread = λ z. u.cursor ∙ a.unread z;
} where
  whole : (t : ℕ) → ((x == t) || has_number t (l.free ++ l.local)) ≡ g.mine t
  whole t = ap (has_number t) (sym u.order) ∙ a.mine t

  go : (t : ℕ) (b : Bool) → (t == x) ≡ b → has_number t (l.free ++ l.local) ≡ (g.mine t && not b)
  go t true e = let is : t ≡ x = grind (arith, nat_tests) in subst (λ z. has_number z (l.free ++ l.local) ≡ false)
      (sym is) (has_number-from_Misses x (l.free ++ l.local) u.apart) ∙ sym (and-false (g.mine t))
  go t false e = ap (λ b. b || has_number t (l.free ++ l.local)) (sym (eqb-comm x t ∙ e))
      ∙ (whole t ∙ sym (and-true (g.mine t)))

-- the slot that is used is the owner's
pub used_is_mine : (st : PageState) (g : SeenPage) (x : ℕ) (l : Lists) → KeepsPage st g → UsesSlot x st.lists l
    → g.mine x ≡ true
used_is_mine st g x l a u =
    let e : (x == x) ≡ true = grind (arith, nat_tests) in
    sym (a.mine x) ∙ (ap (has_number x) u.order ∙ ap (λ b. b || has_number x (l.free ++ l.local)) e)

-- ---- a page that is given a class

up_has : (s i n : ℕ) → has_number s (upward i n) ≡ (nat_le i s && nat_lt s (i + n))
up_has s i zero = go (nat_le i s) refl where
  go : (b : Bool) → nat_le i s ≡ b → false ≡ (b && nat_lt s (i + 0))
  go true e = let z : nat_lt s (i + 0) ≡ false = grind (arith, nat_tests) in sym z
  go false e = refl
up_has s i (suc n) = ap (λ b. (i == s) || b) (up_has s (suc i) n) ∙ go (i == s) refl where
  two : (b : Bool) → nat_le (suc i) s ≡ b → (i == s) ≡ false → (b && nat_lt s (suc i + n))
      ≡ (nat_le i s && nat_lt s (i + suc n))
  two true e f =
      let x : nat_le i s ≡ true = grind (arith, nat_tests) in
      let y : suc i + n ≡ i + suc n = omega arith in
      ap (nat_lt s) y ∙ ap (λ b. b && nat_lt s (i + suc n)) (sym x)
  two false e f =
      let x : nat_le i s ≡ false = grind (arith, nat_tests) in
      ap (λ b. b && nat_lt s (i + suc n)) (sym x)

  go : (b : Bool) → (i == s) ≡ b → (b || (nat_le (suc i) s && nat_lt s (suc i + n)))
      ≡ (nat_le i s && nat_lt s (i + suc n))
  go true e =
      let x : nat_le i s ≡ true = grind (arith, nat_tests) in
      let y : nat_lt s (i + suc n) ≡ true = grind (arith, nat_tests) in
      rw (x, y) refl
  go false e = two (nat_le (suc i) s) refl e

pub kept_given : (st : PageState) (g : SeenPage) (c n : ℕ) (l : Lists) → KeepsPage st g → c < 8 → l
    ≡ record { free = upward 0 n; local = []; cursor = st.lists.cursor } → n ≡ slots c
    → KeepsPage (record { lists = l; class_word = c + 1; armed = st.armed }) (page_given g c)
kept_given st g c n l a small e is = record {
  class = refl;
  few = omega arith;
  cursor = a.cursor ∙ ap (λ (z : Lists). z.cursor) (sym e);
  armed = a.armed;
  mine = λ s. ap (λ (z : Lists). has_number s (z.free ++ z.local)) e
      ∙ (ap (has_number s) (append-nil (upward 0 n)) ∙ (up_has s 0 n
      ∙ ((let x : nat_le 0 s ≡ true = grind (arith, nat_tests) in ap (λ b. b && nat_lt s (0 + n)) x)
      ∙ (let y : 0 + n ≡ slots c = omega arith in ap (nat_lt s) y))));
  blank = λ z. absurd (omega arith);
  unread = λ z. absurd (omega arith);
}

-- ---- a page that was read from the bell

pub kept_rung : (st : PageState) (g : SeenPage) (n : ℕ) → KeepsPage st g → (n ≡ 0 → ⊥)
    → KeepsPage (record { lists = st.lists; class_word = st.class_word; armed = false }) (page_rung g n)
kept_rung st g n a some = go (n == 0) refl where
  go : (b : Bool) → (n == 0) ≡ b → KeepsPage (record { lists = st.lists; class_word = st.class_word; armed = false })
      (cond b g (record g { armed = false }))
  go true e = absurd (some (let y : n ≡ 0 = grind (arith, nat_tests) in y))
  go false e = record {
    class = a.class;
    few = a.few;
    cursor = a.cursor;
    armed = refl;
    mine = a.mine;
    blank = λ z. refl;
    unread = a.unread;
  }

pub kept_waiting : (st : PageState) (g : SeenPage) (n : ℕ) → KeepsPage st g → n ≡ 0 → KeepsPage st (page_rung g n)
kept_waiting st g n a e =
    let z : (n == 0) ≡ true = grind (arith, nat_tests) in
    let P : Bool → Type 0 = λ b. KeepsPage st (cond b g (record g { armed = false })) in
    subst P (sym z) a

pub followed_cursor : (g : SeenPage) (s n : ℕ) → (n ≡ 0 → ⊥) → (page_followed g s n).cursor ≡ link_item n
followed_cursor g s n some = let e : (n == 0) ≡ false = grind (arith, nat_tests)
    in ap (λ b. (cond b (record g { met = g.met + 1 }) (record g
    { mine = λ t. (t == s) || g.mine t; cursor = link_item n })).cursor) e
