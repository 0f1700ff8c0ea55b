-- The accounts of a page are those that the code counts.
use Rattle.std.proofs.Common.{◌≡◌, ℕ, zero, suc, ◌+◌, ◌-◌, ◌<◌, ◌≤◌, ◌==◌, ◌&&◌, ◌∙◌, Bool, true, false, cond, List}
use Rattle.std.proofs.Common.{refl, ap, arith, Some, None}
use Rattle.std.specs.Prelude.{not, nat_lt}
use Rattle.std.proofs.lemmas.Bool.{lt-ltb}
use Rattle.std.proofs.lemmas.Bool.Decides.{nat_tests}
use Rattle.sh_word.specs.Kinds.{kind_of}
use Rattle.sh_key.specs.Layout.{Layout}
use Rattle.sh_shape.specs.declared.places.Place.TheVariants.{Class, State}
use Rattle.sh_shape.specs.Classes.{class_count, slots}
use Rattle.sh_shape.proofs.ClassLaws.{slots_few}
use Rattle.sh_shape.specs.Places.{all_pages}
use Rattle.sh_slots.specs.declared.hand.SlotRef.{SlotRef}
use Rattle.sh_slots.specs.Slots.{slot_refs}
use Rattle.sh_step.specs.declared.action.Event.{Event}
use Rattle.sh_step.specs.Collections.{total, if1}
use Rattle.sh_step.specs.Plans.{Plan, plan_of}
use Rattle.sh_core.specs.declared.accounts.Accounts.{Accounts}
use Rattle.sh_core.specs.Kept.{KeptWorld, Represents, FromEvents}
use Rattle.sh_core.specs.Lists.{PutLists, accounts, among, class_named, lists_of, mine_at, in_hand, slots_under}
use Rattle.sh_core.specs.Lists.{state_of, times}
use Rattle.sh_core.specs.Refines.{Always, OneKind, ClassesAreKnown, kind_count}
use Rattle.sh_core.specs.Worlds.{World, run}
use Rattle.sh_core.proofs.Sums.ClassSlots.{under_class}
use Rattle.sh_accounts.specs.declared.kinds.SlotKind.{SlotKind}
use Rattle.sh_accounts.specs.declared.kinds.SlotKind.TheVariants.{Live, Marked, Retired, Mine, Hand, Queued}
use Rattle.sh_accounts.specs.Kinds.{is, slot_kind_by}
use Rattle.sh_accounts.specs.Accounts.{AreAccounts, FillPage, all_slots, no_slots, counted, kind_in, class_word}
use Rattle.sh_accounts.proofs.OneByOne.{Once, once}

-- sums over the same slots of equal numbers are equal
among_same : (q : ℕ) (f g : SlotRef → ℕ) (n : ℕ) → ((t : ℕ) → t < n → f (record { page = q; slot = t })
    ≡ g (record { page = q; slot = t })) → among q f n ≡ among q g n
unfolding total slot_refs
among_same q f g n h = go 0 n (λ t a b. h t (omega arith)) where
  go : (s n : ℕ) → ((t : ℕ) → s ≤ t → t < s + n → f (record { page = q; slot = t }) ≡ g (record { page = q; slot = t }))
      → total f (slot_refs q s n) ≡ total g (slot_refs q s n)
  go s zero h = refl
  go s (suc n) h = let here = h s (omega arith) (omega arith) in let rest = go (s + 1) n
      (λ t a b. h t (omega arith) (omega arith)) in omega arith

under_some : (n c : ℕ) → n ≡ c + 1 → slots_under n ≡ slots c
under_some n c e = ap slots_under e ∙ under_class c

named_some : (n c : ℕ) → n ≡ c + 1 → class_named n ≡ Some c
named_some n c e = let z : (n == 0) ≡ false = grind (arith, nat_tests) in let d : n - 1 ≡ c = omega arith
    in rw (z, d) refl

-- which class words name a class, and which do not
names_some : (n c : ℕ) → Some c ≡ class_named n → n ≡ c + 1
names_some n c e = go (n == 0) refl e where
  go : (b : Bool) → (n == 0) ≡ b → Some c ≡ cond b None (Some (n - 1)) → n ≡ c + 1
  go true is e = absurd (let z : Some c ≡ None = e in cc)
  go false is e = let z : c ≡ n - 1 = cc in let some : 0 < n = grind (arith, nat_tests) in omega arith

names_none : (n : ℕ) → None ≡ class_named n → n ≡ 0
names_none n e = go (n == 0) refl e where
  go : (b : Bool) → (n == 0) ≡ b → None ≡ cond b None (Some (n - 1)) → n ≡ 0
  go true is e = grind (arith, nat_tests)
  go false is e = absurd (let z : None ≡ Some (n - 1) = e in cc)

-- what is kept represents the world, and all that holds of runs holds of this world
module _ (plan : Plan) (k : KeptWorld) (w : World) (l : PutLists) (stands : Represents k w) (kinds : OneKind w l)
    (q : ℕ) (there : q < all_pages k.shape) where
  class_is : class_word k q ≡ w.words.class_at q
  class_is = stands.words.at (Class q) there

  kind_is : (t : ℕ) → t < 48 → kind_in k (record { page = q; slot = t })
      ≡ slot_kind_by (kind_of (state_of w (record { page = q; slot = t }))) w.parts (record { page = q; slot = t })
  kind_is t low = rw (stands.words.at (State q t) (there, low), stands.parts) refl

  each : (c t : ℕ) → w.words.class_at q ≡ c + 1 → t < slots c → let x : SlotRef = record { page = q; slot = t } in
      Once w.parts x (state_of w x).marked (state_of w x).present (times t (l.stack q) + times t (l.chain q))
  each c t e low = let x : SlotRef = record { page = q; slot = t } in once w.parts x (state_of w x).marked
      (state_of w x).present (times t (l.stack q) + times t (l.chain q)) (one c t e low) where
        one : (c t : ℕ) → w.words.class_at q ≡ c + 1 → t < slots c → kind_count w l (record { page = q; slot = t }) ≡ 1
        one c t e low = kinds (record { page = q; slot = t }) ∙ (let is : nat_lt t (slots_under (w.words.class_at q))
            ≡ true = rw (under_some (w.words.class_at q) c e) (lt-ltb t (slots c) low) in rw is refl)

  -- one number of the accounts
  number_is : (kind : SlotKind) (g : SlotRef → ℕ) (n : ℕ) → n ≤ 48
      → ((t : ℕ) → t < n → if1 (is kind (slot_kind_by (kind_of (state_of w (record { page = q; slot = t }))) w.parts
      (record { page = q; slot = t }))) ≡ g (record { page = q; slot = t }))
      → among q (λ x. if1 (is kind (kind_in k x))) n ≡ among q g n
  number_is kind g n few h = among_same q (λ x. if1 (is kind (kind_in k x))) g n
      (λ t low. ap (λ y. if1 (is kind y)) (kind_is t (omega arith)) ∙ h t low)

  pub counted_is : (c : ℕ) → w.words.class_at q ≡ c + 1 → counted k q c (slots c) ≡ accounts w l q
  unfolding counted accounts
  counted_is c e =
      let u : slots_under (w.words.class_at q) ≡ slots c = under_some (w.words.class_at q) c e in
      let live = number_is Live (λ x. if1 ((state_of w x).present && not (state_of w x).marked)) (slots c) (slots_few c)
      (λ t low. (each c t e low).live) in
      let marked = number_is Marked (λ x. if1 ((state_of w x).present && (state_of w x).marked)) (slots c) (slots_few c)
      (λ t low. (each c t e low).marked) in
      let retired = number_is Retired (λ x. if1 (not (state_of w x).present && (state_of w x).marked)) (slots c)
      (slots_few c) (λ t low. (each c t e low).retired) in
      let mine = number_is Mine (λ x. total (mine_at x) w.parts) (slots c) (slots_few c)
      (λ t low. (each c t e low).mine) in
      let hand = number_is Hand (λ x. total (in_hand x) w.parts) (slots c) (slots_few c)
      (λ t low. (each c t e low).hand) in
      let queued = number_is Queued (λ x. times x.slot (l.stack q) + times x.slot (l.chain q)) (slots c) (slots_few c)
      (λ t low. (each c t e low).queued) in
      let named : class_named (w.words.class_at q) ≡ Some c = named_some (w.words.class_at q) c e in
      rw (u, named, live, marked, retired, mine, hand, queued) refl

  pub blank_is : w.words.class_at q ≡ 0 → no_slots None ≡ accounts w l q
  unfolding accounts total slot_refs
  blank_is e = rw e refl

-- the class word of a page of a reachable heap is at most the number of classes
pub class_small : (layout : Layout) (k : KeptWorld) (q : ℕ) → Always (λ plan w l. ClassesAreKnown plan w)
    → FromEvents layout k → q < all_pages k.shape → class_word k q ≤ class_count
class_small layout k q classes reached there =
    let small = (classes layout k.shape reached.is_layout reached.is_shape reached.fits reached.events q).0 in
    let here = reached.stands.words.at (Class q) there in omega arith

module _ (layout : Layout) (k : KeptWorld) (q : ℕ) (kinds : Always (λ plan w l. OneKind w l))
    (reached : FromEvents layout k) (there : q < all_pages k.shape) where
  abbrev plan : Plan
  plan = plan_of layout k.shape

  kinds_at : (es : List Event) → OneKind (run plan es) (lists_of plan es)
  kinds_at es = kinds layout k.shape reached.is_layout reached.is_shape reached.fits es

  -- a page of a class
  pub are_counted : (c : ℕ) (a : Accounts) → Some c ≡ class_named (class_word k q) → a ≡ counted k q c (slots c)
      → AreAccounts layout k q a
  are_counted c a named same es stands =
      let e = class_is plan k (run plan es) (lists_of plan es) stands (kinds_at es) q there in
      same ∙ counted_is plan k (run plan es) (lists_of plan es) stands (kinds_at es) q there c
      (omega (arith, names_some (class_word k q) c named))

  -- a blank page
  pub are_none : (a : Accounts) → None ≡ class_named (class_word k q) → a ≡ no_slots None → AreAccounts layout k q a
  are_none a named same es stands =
      let e = class_is plan k (run plan es) (lists_of plan es) stands (kinds_at es) q there in
      same ∙ blank_is plan k (run plan es) (lists_of plan es) stands (kinds_at es) q there
      (omega (arith, names_none (class_word k q) named))

-- each slot is counted once
pub fills : (k : KeptWorld) (q c : ℕ) (a : Accounts) → c < 8 → all_slots a ≡ slots c → a ≡ counted k q c (slots c)
    → FillPage a
unfolding counted
fills k q c a small full same = let e : a.class ≡ Some c = ap (λ (a : Accounts). a.class) same in rw e (small, full)
