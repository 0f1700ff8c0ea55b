-- The slots of a page's class, by its class word.
use Rattle.std.proofs.Common.{◌≡◌, ℕ, ◌+◌, ◌-◌, ◌<◌, ◌≤◌, ◌==◌, ◌&&◌, Bool, true, false, cond, refl, arith, ltb-true}
use Rattle.std.proofs.Common.{ne_eqb}
use Rattle.std.specs.Prelude.{nat_lt}
use Rattle.std.proofs.lemmas.Bool.Decides.{nat_tests}
use Rattle.sh_shape.specs.Classes.{slots}
use Rattle.sh_shape.proofs.ClassLaws.{slots_few}
use Rattle.sh_slots.specs.declared.hand.SlotRef.{SlotRef}
use Rattle.sh_step.specs.Collections.{if1}
use Rattle.sh_core.specs.Lists.{slots_under}
use Rattle.sh_core.specs.Tallies.{room}
use Rattle.sh_core.specs.Words.{Words}
use Rattle.sh_step.specs.Plans.{Plan, heap_pages}
use Rattle.sh_core.specs.Placed.{BoundsOf}

-- a class word that names a class, and one that is not 0
pub under_class : (c : ℕ) → slots_under (c + 1) ≡ slots c
under_class c = let some : (c + 1 == 0) ≡ false = grind (arith, nat_tests) in let less : c + 1 - 1 ≡ c = omega arith
    in rw (some, less) refl

pub under_class_word : (n : ℕ) → (n == 0) ≡ false → slots_under n ≡ slots (n - 1)
under_class_word n e = rw e refl

pub room_is : (c t : ℕ) → if1 (nat_lt 0 c && nat_lt t (slots (c - 1))) ≡ if1 (nat_lt t (slots_under c))
room_is c t = go (c == 0) refl where
  go : (b : Bool) → (c == 0) ≡ b → if1 (nat_lt 0 c && nat_lt t (slots (c - 1)))
      ≡ if1 (nat_lt t (cond b 0 (slots (c - 1))))
  go true e = let none : nat_lt 0 c ≡ false = grind (arith, nat_tests) in let z : nat_lt t 0
      ≡ false = grind (arith, nat_tests) in rw (none, z) refl
  go false e = let some : nat_lt 0 c ≡ true = grind (arith, nat_tests) in rw some refl

-- if a slot has room, its page has a class, and the slot is one of the page's slots
pub class_room : (w : Words) (x : SlotRef) → 0 < room w x → (0 < w.class_at x.page)
    × (x.slot < slots (w.class_at x.page - 1))
class_room w x some = go (nat_lt 0 (w.class_at x.page)) (nat_lt x.slot (slots (w.class_at x.page - 1))) refl refl where
  go : (b c : Bool) → nat_lt 0 (w.class_at x.page) ≡ b → nat_lt x.slot (slots (w.class_at x.page - 1)) ≡ c
      → (0 < w.class_at x.page) × (x.slot < slots (w.class_at x.page - 1))
  go true true e f = (ltb-true 0 (w.class_at x.page) e, ltb-true x.slot (slots (w.class_at x.page - 1)) f)
  go true false e f = absurd (let z : room w x ≡ 0 = rw (e, f) refl in omega arith)
  go false c e f = absurd (let z : room w x ≡ 0 = rw e refl in omega arith)

pub room_under : (w : Words) (x : SlotRef) → 0 < room w x → x.slot < slots_under (w.class_at x.page)
room_under w x some =
    let r = class_room w x some in
    let class : (w.class_at x.page == 0) ≡ false = ne_eqb (w.class_at x.page) 0 (λ e. let n = r.0 in omega arith) in
    rw (under_class_word (w.class_at x.page) class) r.1

-- the page is one of the heap
pub room_placed : (plan : Plan) (w : Words) (x : SlotRef) → BoundsOf plan w → 0 < room w x → (x.page < heap_pages plan)
    × (x.slot < slots (w.class_at x.page - 1))
room_placed plan w x bounds some = let r = class_room w x some in ((bounds.classes x.page).1 r.0, r.1)

-- a page has at most 48 slots
pub under_few : (n : ℕ) → slots_under n ≤ 48
under_few n = go (n == 0) where
  go : (b : Bool) → cond b 0 (slots (n - 1)) ≤ 48
  go true = omega arith
  go false = slots_few (n - 1)
