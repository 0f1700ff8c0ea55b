-- The accounts of a page, if no pass has anything in hand or of its own: its keys count its slots, and its stack is all
-- that is queued.
use Rattle.std.proofs.Common.{◌≡◌, ◌≢◌, ℕ, zero, suc, ◌+◌, ◌-◌, ◌/◌, ◌<◌, ◌≤◌, ◌==◌, ◌&&◌, Bool, true, false, List, []}
use Rattle.std.proofs.Common.{◌∷◌, length, drop, sym, refl, ap, ◌∙◌, subst, arith, Option, Some, None}
use Rattle.std.specs.Prelude.{not, nat_lt, count_by}
use Rattle.std.proofs.lemmas.Bool.Decides.{nat_tests}
use mathlib.Core.Logic.{dite}
use native.Mathlib.Decide.{ℕ_discrete}
use Rattle.sh_shape.specs.Classes.{slots, class_count}
use Rattle.sh_slots.specs.declared.hand.SlotRef.{SlotRef}
use Rattle.sh_slots.specs.Slots.{slot_refs, same_slot}
use Rattle.sh_step.specs.Collections.{total, if1}
use Rattle.sh_step.specs.Plans.{Plan, Lawful, heap_pages}
use Rattle.sh_core.specs.declared.accounts.Accounts.{Accounts}
use Rattle.sh_core.specs.Lists.{PutLists, accounts, class_named, slots_under, times, state_of, mine_at, in_hand, among}
use Rattle.sh_core.specs.Refines.{Refines, live, marked, retired, kind_count}
use Rattle.sh_core.specs.Stacks.{Chained, top, slot_ref, tying, cursor_at}
use Rattle.sh_core.specs.Worlds.{World}
use Rattle.sh_core.proofs.Clauses.Follows.{filled}
use Rattle.sh_core.proofs.Sums.ClassSlots.{under_class, under_few}
use Rattle.sh_core.proofs.Sums.Totals.{total_append, total_plus}
use Rattle.sh_core.proofs.Sums.ListCounts.{no_first}
use Rattle.sh_core.proofs.Sums.Tests.{if1_few}
use Rattle.sh_core.proofs.Lists.StackSteps.{link_to_top}
use Rattle.sh_core.proofs.Quiet.{none_of}
use Rattle.sh_accounts.specs.Accounts.{FillPage, all_slots, no_slots}
use Rattle.sh_accounts.proofs.Counts.{among_more}
use Rattle.sh_gather.specs.PageKeys.{keys_of_slot, keys_of_slots, page_keys, is_live_key, is_marked_key, is_retired_key}
use Rattle.sh_gather.proofs.Histories.{count_is}
use Rattle.sh_gather.proofs.PageKeys.{AllRest, live_is, marked_is, retired_is}

pub keys_total : (plan : Plan) (f : ℕ → ℕ) (g : SlotRef → ℕ) (q s n : ℕ)
    → ((t : ℕ) → s ≤ t → t < s + n → total f (keys_of_slot plan (slot_ref q t) plan.keys.gen_max) ≡ g (slot_ref q t))
    → total f (keys_of_slots plan (slot_refs q s n)) ≡ total g (slot_refs q s n)
unfolding total keys_of_slots slot_refs
keys_total plan f g q s zero h = refl
keys_total plan f g q s (suc n) h =
    let here = h s (omega arith) (omega arith) in
    let rest = keys_total plan f g q (s + 1) n (λ t a b. h t (omega arith) (omega arith)) in
    let both = total_append f (keys_of_slot plan (slot_ref q s) plan.keys.gen_max)
    (keys_of_slots plan (slot_refs q (s + 1) n)) in omega arith

-- slots that add 0 need not be counted
cut_by : (q : ℕ) (f : SlotRef → ℕ) (n m : ℕ) → ((t : ℕ) → n ≤ t → f (slot_ref q t) ≡ 0)
    → among q f (n + m) ≡ among q f n
cut_by q f n zero h = let e : n + 0 ≡ n = omega arith in ap (among q f) e
cut_by q f n (suc m) h =
    let e : n + suc m ≡ n + m + 1 = omega arith in
    let more = among_more q f (n + m) in
    let none = h (n + m) (omega arith) in
    let rest = cut_by q f n m h in rw e (omega arith)

cut : (q : ℕ) (f : SlotRef → ℕ) (n k : ℕ) → n ≤ k → ((t : ℕ) → n ≤ t → f (slot_ref q t) ≡ 0) → among q f k ≡ among q f n
cut q f n k le h = let e : k ≡ n + (k - n) = omega arith in ap (among q f) e ∙ cut_by q f n (k - n) h

zero_among : (q : ℕ) (f : SlotRef → ℕ) → among q f 0 ≡ 0
unfolding total slot_refs
zero_among q f = refl

none_among : (q : ℕ) (f : SlotRef → ℕ) (n : ℕ) → ((t : ℕ) → f (slot_ref q t) ≡ 0) → among q f n ≡ 0
none_among q f n h = cut q f 0 n (omega arith) (λ t le. h t) ∙ zero_among q f

few_among : (q : ℕ) (f : SlotRef → ℕ) (n : ℕ) → ((t : ℕ) → f (slot_ref q t) ≤ 1) → among q f n ≤ n
few_among q f zero h = let z = zero_among q f in omega arith
few_among q f (suc n) h = let e : n + 1 ≡ suc n = omega arith in let more = among_more q f n in let here = h n
    in let rest = few_among q f n h in let P : ℕ → Type 0 = λ m. among q f m ≤ m in subst P e (omega arith)

-- ---- lists of slots

times_sum : (q n : ℕ) (xs : List ℕ) → ((t : ℕ) → n ≤ t → times t xs ≡ 0) → among q (λ x. times x.slot xs) n ≡ length xs
unfolding total
times_sum q n [] h = none_among q (λ x. 0) n (λ t. refl)
times_sum q n (s ∷ xs) h =
    let rest = times_sum q n xs (λ t le. let z = h t le in omega arith) in
    let plus = total_plus (λ (x : SlotRef). if1 (s == x.slot)) (λ (x : SlotRef). times x.slot xs) (slot_refs q 0 n) in
    let low : s < n = below (nat_lt s n) refl in
    let one = single s n low in omega arith where
      below : (b : Bool) → nat_lt s n ≡ b → s < n
      below true e = grind (arith, nat_tests)
      below false e =
          let le : n ≤ s = grind (arith, nat_tests) in
          let z = h s le in
          let y : (s == s) ≡ true = grind (arith, nat_tests) in
          let x : if1 (s == s) ≡ 1 = rw y refl in absurd (omega arith)

      off : (s t : ℕ) → s ≢ t → if1 (s == t) ≡ 0
      off s t ne = let z : (s == t) ≡ false = grind (arith, nat_tests) in rw z refl

      before : (s n : ℕ) → n ≤ s → among q (λ x. if1 (s == x.slot)) n ≡ 0
      before s zero le = zero_among q (λ x. if1 (s == x.slot))
      before s (suc n) le = let e : suc n ≡ n + 1 = omega arith in let more = among_more q (λ x. if1 (s == x.slot)) n
          in let z = off s n (λ i. omega arith) in let r = before s n (omega arith) in rw e (omega arith)

      single : (s n : ℕ) → s < n → among q (λ x. if1 (s == x.slot)) n ≡ 1
      single s zero l = absurd (omega arith)
      single s (suc n) l = dite (ℕ_discrete n s)
          (λ (i : n ≡ s). let e : suc n ≡ n + 1 = omega arith in let more = among_more q (λ x. if1 (s == x.slot)) n
          in let y : (s == n) ≡ true = grind (arith, nat_tests) in let x : if1 (s == n) ≡ 1 = rw y refl
          in let r = before s n (omega arith) in rw e (omega arith))
          (λ (ne : n ≢ s). let e : suc n ≡ n + 1 = omega arith in let more = among_more q (λ x. if1 (s == x.slot)) n
          in let z = off s n (λ i. ne (sym i)) in let r = single s n (omega arith) in rw e (omega arith))

-- the sum over an empty list is 0
empty_total : {A : Type 0} (f : A → ℕ) (xs : List A) → xs ≡ [] → total f xs ≡ 0
unfolding total
empty_total f xs e = ap (total f) e

-- ---- one page

module _ (plan : Plan) (w : World) (l : PutLists) (laws : Lawful plan) (core : Refines plan w l) (rest : AllRest w)
    (q : ℕ) where
  none_mine : (x : SlotRef) → total (mine_at x) w.parts ≡ 0
  none_mine x = none_of (mine_at x) w.parts (λ a p e. empty_total (λ y. if1 (same_slot x y)) p.mine
      (core.shardless a p e (rest a p e).1).0)

  none_in_hand : (x : SlotRef) → total (in_hand x) w.parts ≡ 0
  none_in_hand x = none_of (in_hand x) w.parts (λ a p e. rw (rest a p e).0 refl)

  none_tying : (x : SlotRef) → total (tying x) w.parts ≡ 0
  none_tying x = none_of (tying x) w.parts (λ a p e. rw (rest a p e).0 refl)

  none_at_cursor : (s : ℕ) → total (cursor_at q s) w.parts ≡ 0
  none_at_cursor s = none_of (cursor_at q s) w.parts (λ a p e. empty_total
      (λ (c : ℕ × ℕ). if1 ((c.0 == q) && (c.1 == s))) p.cursors (core.shardless a p e (rest a p e).1).1)

  -- no owner follows a chain
  no_chain : l.chain q ≡ []
  no_chain = no_first (l.chain q) (λ s. let c = core.linked.0.cursors q s in let z = none_at_cursor s in omega arith)

  -- what holds of a slot past the class
  past : (t : ℕ) → slots_under (w.words.class_at q) ≤ t → (live (state_of w (slot_ref q t)) ≡ 0)
      × (marked (state_of w (slot_ref q t)) ≡ 0) × (retired (state_of w (slot_ref q t)) ≡ 0) × (times t (l.stack q) ≡ 0)
  past t le =
      let is : nat_lt t (slots_under (w.words.class_at q)) ≡ false = grind (arith, nat_tests) in
      let none : kind_count w l (slot_ref q t) ≡ 0 = core.one_kind (slot_ref q t) ∙ ap if1 is
      in (omega arith, omega arith, omega arith, omega arith)

  once : (t : ℕ) → times t (l.stack q) ≤ 1
  once t = let k = core.one_kind (slot_ref q t) in let few = if1_few (nat_lt t (slots_under (w.words.class_at q)))
      in omega arith

  -- the queued slots are those of the stack
  queued_is : among q (λ x. times x.slot (l.stack q) + times x.slot (l.chain q)) (slots_under (w.words.class_at q))
      ≡ length (l.stack q)
  unfolding total
  queued_is =
      let n : ℕ = slots_under (w.words.class_at q) in
      let plus = total_plus (λ (x : SlotRef). times x.slot (l.stack q)) (λ (x : SlotRef). times x.slot (l.chain q))
      (slot_refs q 0 n) in
      let stack = times_sum q n (l.stack q) (λ t le. (past t le).3) in
      let chain = none_among q (λ (x : SlotRef). times x.slot (l.chain q)) n (λ t. ap (times t) no_chain) in omega arith

  stack_few : length (l.stack q) ≤ slots_under (w.words.class_at q)
  stack_few =
      let n : ℕ = slots_under (w.words.class_at q) in
      let stack = times_sum q n (l.stack q) (λ t le. (past t le).3) in
      let few = few_among q (λ (x : SlotRef). times x.slot (l.stack q)) n once in omega arith

  -- the page's accounts
  pub record AreAccounts (a : Accounts) : Type 0 where
    pub class : a.class ≡ class_named (w.words.class_at q)
    pub live : a.live ≡ among q (λ x. if1 ((state_of w x).present && not (state_of w x).marked))
        (slots_under (w.words.class_at q))
    pub marked : a.marked ≡ among q (λ x. if1 ((state_of w x).present && (state_of w x).marked))
        (slots_under (w.words.class_at q))
    pub retired : a.retired ≡ among q (λ x. if1 (not (state_of w x).present && (state_of w x).marked))
        (slots_under (w.words.class_at q))
    pub mine : a.mine ≡ 0
    pub hand : a.hand ≡ 0
    pub queued : a.queued ≡ length (l.stack q)

  pub accounts_are : (a : Accounts) → AreAccounts a → a ≡ accounts w l q
  unfolding accounts
  accounts_are a h =
      let n : ℕ = slots_under (w.words.class_at q) in
      let mine : a.mine ≡ among q (λ x. total (mine_at x) w.parts) n = h.mine
      ∙ sym (none_among q (λ x. total (mine_at x) w.parts) n (λ t. none_mine (slot_ref q t))) in
      let hand : a.hand ≡ among q (λ x. total (in_hand x) w.parts) n = h.hand
      ∙ sym (none_among q (λ x. total (in_hand x) w.parts) n (λ t. none_in_hand (slot_ref q t))) in
      let queued : a.queued ≡ among q (λ x. times x.slot (l.stack q) + times x.slot (l.chain q)) n = h.queued
      ∙ sym queued_is in
      λ i. record {
        class = h.class i;
        live = h.live i;
        marked = h.marked i;
        retired = h.retired i;
        mine = mine i;
        hand = hand i;
        queued = queued i;
      }

  -- ---- by the log
  module _ (page : q < heap_pages plan) where
    by_kind : (test : ℕ → Bool) (g : SlotRef → ℕ) → ((t : ℕ) → t < 48
        → total (λ k. if1 (test k)) (keys_of_slot plan (slot_ref q t) plan.keys.gen_max) ≡ g (slot_ref q t))
        → ((t : ℕ) → slots_under (w.words.class_at q) ≤ t → g (slot_ref q t) ≡ 0)
        → among q g (slots_under (w.words.class_at q)) ≡ count_by test (page_keys plan q)
    by_kind test g h none = sym (count_is test (page_keys plan q) ∙
        (keys_total plan (λ k. if1 (test k)) g q 0 48 (λ t a b. h t (omega arith))
        ∙ cut q g (slots_under (w.words.class_at q)) 48 (under_few (w.words.class_at q)) none))

    pub live_count : among q (λ x. if1 ((state_of w x).present && not (state_of w x).marked))
        (slots_under (w.words.class_at q)) ≡ count_by (is_live_key w.log) (page_keys plan q)
    live_count = by_kind (is_live_key w.log) (λ x. if1 ((state_of w x).present && not (state_of w x).marked))
        (λ t low. live_is plan w l laws core rest (slot_ref q t) page low) (λ t le. (past t le).0)

    pub marked_count : among q (λ x. if1 ((state_of w x).present && (state_of w x).marked))
        (slots_under (w.words.class_at q)) ≡ count_by (is_marked_key w.log) (page_keys plan q)
    marked_count = by_kind (is_marked_key w.log) (λ x. if1 ((state_of w x).present && (state_of w x).marked))
        (λ t low. marked_is plan w l laws core rest (slot_ref q t) page low) (λ t le. (past t le).1)

    pub retired_count : among q (λ x. if1 (not (state_of w x).present && (state_of w x).marked))
        (slots_under (w.words.class_at q)) ≡ count_by (is_retired_key plan w.log) (page_keys plan q)
    retired_count = by_kind (is_retired_key plan w.log) (λ x. if1 (not (state_of w x).present && (state_of w x).marked))
        (λ t low. retired_is plan w l laws core rest (slot_ref q t) page low) (λ t le. (past t le).2)

  -- ---- the walk: a number names the first of what is left of the stack
  abbrev pub Walked : ℕ → ℕ → Type 0
  Walked n t = (n ≤ length (l.stack q)) × (t ≡ top (drop n (l.stack q)))

  pub walk_begins : Walked 0 (w.words.head_at q / 2)
  walk_begins = (omega arith, core.linked.0.tops q)

  chained_drop : (f g : ℕ → ℕ) (n : ℕ) (xs : List ℕ) → Chained f g xs → Chained f g (drop n xs)
  chained_drop f g zero xs h = h
  chained_drop f g (suc n) [] h = tt
  chained_drop f g (suc n) (x ∷ xs) h = chained_drop f g n xs h.1

  times_drop : (s n : ℕ) (xs : List ℕ) → times s (drop n xs) ≤ times s xs
  unfolding total
  times_drop s zero xs = omega arith
  times_drop s (suc n) [] = omega arith
  times_drop s (suc n) (x ∷ xs) = let r = times_drop s n xs in omega arith

  drop_more : (n : ℕ) (xs : List ℕ) (y : ℕ) (ys : List ℕ) → drop n xs ≡ y ∷ ys → (n + 1 ≤ length xs)
      × (drop (suc n) xs ≡ ys)
  drop_more zero [] y ys e = absurd (let z : [] ≡ y ∷ ys = e in cc)
  drop_more zero (x ∷ xs) y ys e = (omega arith, let z : x ∷ xs ≡ y ∷ ys = e in cc)
  drop_more (suc n) [] y ys e = absurd (let z : [] ≡ y ∷ ys = e in cc)
  drop_more (suc n) (x ∷ xs) y ys e = let r = drop_more n xs y ys e in (let r0 = r.0 in omega arith, r.1)

  drop_none : (n : ℕ) (xs : List ℕ) → drop n xs ≡ [] → length xs ≤ n
  drop_none zero [] e = omega arith
  drop_none zero (x ∷ xs) e = absurd (let z : x ∷ xs ≡ [] = e in cc)
  drop_none (suc n) [] e = omega arith
  drop_none (suc n) (x ∷ xs) e = let r = drop_none n xs e in omega arith

  -- a slot of the stack is one of the page, and its link word names what is below it
  pub walk_goes : (n t : ℕ) → Walked n t → 0 < t → (t - 1 < 48) × (0 < w.words.link_at q (t - 1))
      × Walked (n + 1) (w.words.link_at q (t - 1) - 1)
  unfolding total
  walk_goes n t h some = go (drop n (l.stack q)) refl where
    go : (xs : List ℕ) → drop n (l.stack q) ≡ xs → (t - 1 < 48) × (0 < w.words.link_at q (t - 1))
        × Walked (n + 1) (w.words.link_at q (t - 1) - 1)
    go [] e = let z : t ≡ 0 = h.1 ∙ ap top e in absurd (omega arith)
    go (s ∷ xs) e =
        let i : t ≡ s + 1 = h.1 ∙ ap top e in
        let j : t - 1 ≡ s = omega arith in
        let chain = subst (Chained (w.words.link_at q) (λ s. total (tying (slot_ref q s)) w.parts)) e
        (chained_drop (w.words.link_at q) (λ s. total (tying (slot_ref q s)) w.parts) n (l.stack q)
        (core.linked.0.stacks q)) in
        let none = none_tying (slot_ref q s) in
        let c = chain.0 in
        let k = link_to_top xs in
        let link : w.words.link_at q s ≡ top xs + 1 = omega arith in
        let more = drop_more n (l.stack q) s xs e in
        let low : s < 48 = below (nat_lt s 48) refl in
        rw j (
          low,
          omega arith,
          (
            more.0,
            let z : w.words.link_at q s - 1 ≡ top xs = omega arith in let y : n + 1
                ≡ suc n = omega arith in z ∙ ap top (sym (ap (λ m. drop m (l.stack q)) y ∙ more.1)),
          ),
        ) where
          below : (b : Bool) → nat_lt s 48 ≡ b → s < 48
          below true f = grind (arith, nat_tests)
          below false f =
              let le : 48 ≤ s = grind (arith, nat_tests) in
              let u = under_few (w.words.class_at q) in
              let none = (past s (omega arith)).3 in
              let d = times_drop s n (l.stack q) in
              let one = here s xs e in absurd (omega arith) where
                here : (s : ℕ) (xs : List ℕ) → drop n (l.stack q) ≡ s ∷ xs → 0 < times s (drop n (l.stack q))
                here s xs e = let y : (s == s) ≡ true = grind (arith, nat_tests) in let x : if1 (s == s) ≡ 1 = rw y refl
                    in rw e (omega arith)

  pub walk_ends : (n t : ℕ) → Walked n t → t ≡ 0 → n ≡ length (l.stack q)
  walk_ends n t h z = go (drop n (l.stack q)) refl where
    go : (xs : List ℕ) → drop n (l.stack q) ≡ xs → n ≡ length (l.stack q)
    go [] e = let r = drop_none n (l.stack q) e in let h0 = h.0 in omega arith
    go (s ∷ xs) e = let y : t ≡ s + 1 = h.1 ∙ ap top e in absurd (omega arith)

  -- a page has at most 48 slots, so there is none after the 48th
  pub walk_full : (t : ℕ) → Walked 48 t → (t ≡ 0) × (48 ≡ length (l.stack q))
  walk_full t h = let few = stack_few in let u = under_few (w.words.class_at q) in let h0 = h.0
      in (go (drop 48 (l.stack q)) refl, omega arith) where
        go : (xs : List ℕ) → drop 48 (l.stack q) ≡ xs → t ≡ 0
        go [] e = h.1 ∙ ap top e
        go (s ∷ xs) e = let more = (drop_more 48 (l.stack q) s xs e).0 in let few = stack_few
            in let u = under_few (w.words.class_at q) in absurd (omega arith)

-- ---- each slot of the class is counted once

module _ (plan : Plan) (w : World) (l : PutLists) (core : Refines plan w l) (q : ℕ) where
  blank_is : w.words.class_at q ≡ 0 → accounts w l q ≡ no_slots None
  unfolding accounts total slot_refs
  blank_is e = rw e refl

  class_is : (c : ℕ) → w.words.class_at q ≡ suc c → (accounts w l q).class ≡ Some c
  unfolding accounts
  class_is c e = let z : (w.words.class_at q == 0) ≡ false = grind (arith, nat_tests) in let d : w.words.class_at q - 1
      ≡ c = omega arith in rw (z, d) refl

  pub fills : (a : Accounts) → a ≡ accounts w l q → FillPage a
  fills a e = subst FillPage (sym e) (go (w.words.class_at q) refl) where
    go : (n : ℕ) → w.words.class_at q ≡ n → FillPage (accounts w l q)
    go zero is = let i = blank_is is in subst FillPage (sym i) refl
    go (suc c) is =
        let f = filled w l core.one_kind q in
        let under : slots_under (w.words.class_at q) ≡ slots c = ap slots_under
        (let z : suc c ≡ c + 1 = omega arith in is ∙ z) ∙ under_class c in
        let small = (core.classes q).0 in
        let P : Option ℕ → Type 0 = λ o. elim o as (λ _. Type 0) [
          | Some c ↦ (c < class_count) × (all_slots (accounts w l q) ≡ slots c)
          | None ↦ accounts w l q
              ≡ no_slots None
        ] in
        subst P (sym (class_is c is)) (omega arith, omega arith)
