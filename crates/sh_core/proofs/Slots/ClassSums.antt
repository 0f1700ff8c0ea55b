-- A change of a page's class, and what keeps the bounds of words.
use Rattle.std.proofs.Common.{◌≡◌, ◌≢◌, ℕ, zero, suc, ◌+◌, ◌-◌, ◌*◌, ◌<◌, ◌≤◌, ◌==◌, ◌&&◌, ◌||◌, ◌⊎◌, inl, inr, Bool}
use Rattle.std.proofs.Common.{true, false, cond, set, sym, refl, ap, ◌∙◌, subst, arith, Some, None, slice_get, eqb-true}
use Rattle.std.proofs.Common.{eq-eqb, ltb-true}
use Rattle.std.specs.Prelude.{not, nat_lt}
use Rattle.std.proofs.lemmas.Bool.Decides.{nat_tests}
use Rattle.sh_slots.specs.declared.hand.SlotRef.{SlotRef}
use Rattle.sh_slots.specs.declared.hand.Hand.{Hand}
use Rattle.sh_slots.specs.declared.hand.Hand.TheVariants.{Filling}
use Rattle.sh_core.specs.Words.{Words, write, put, put2}
use Rattle.sh_shape.specs.declared.places.Place.TheVariants.{Class, State, Length}
use Rattle.sh_word.specs.Fields.{Fields, fields_of}
use Rattle.sh_step.specs.Plans.{Plan, heap_pages}
use Rattle.sh_shape.specs.Classes.{width, slots}
use Rattle.sh_slots.specs.Slots.{same_slot, slot_refs}
use Rattle.sh_step.specs.Collections.{total, if1, has, off, every}
use Rattle.sh_step.specs.declared.body.Body.{Body}
use Rattle.sh_core.specs.Lists.{PutLists, mine_at, in_hand}
use Rattle.sh_core.specs.Stacks.{slot_ref}
use Rattle.sh_core.specs.Placed.{BoundsOf}
use Rattle.sh_step.specs.Rows.{all_mine}
use Rattle.sh_core.specs.Worlds.{World, value_at, words_from}
use Rattle.sh_core.specs.Tallies.{room, queued, SlotsAddUp}
use Rattle.sh_core.specs.Sums.{Sums, FillAgrees}
use Rattle.sh_core.proofs.Sums.Totals.{total_set, total_at, total_append}
use Rattle.sh_core.proofs.Slots.Slots.{tally_set, same_slot-true, if1_same_slot}
use Rattle.sh_core.proofs.Slots.SumsStep.{sums_at}
use Rattle.sh_core.proofs.Slots.FillSums.{keys_value}
use Rattle.sh_core.proofs.Slots.CrowdedAndClass.{slots_total}
use Rattle.sh_core.proofs.Lists.OwnerKinds.{times_drop, classed}
use Rattle.sh_core.proofs.Slots.SumsKinds.{with}
use Rattle.sh_core.proofs.Sums.Tests.{if1_neither}
use Rattle.sh_core.proofs.Sums.ListCounts.{has_some}
use Rattle.sh_core.proofs.Sums.Writes.{put2_same, put2_other, put_same, put_other}

every_slots : (f : SlotRef → Bool) (q s m : ℕ) → every f (slot_refs q s m) ≡ true → (t : ℕ) → s ≤ t → t < s + m
    → f (slot_ref q t) ≡ true
unfolding every slot_refs
every_slots f q s zero h t a b = absurd (omega arith)
every_slots f q s (suc m) h t a b =
    go (f (slot_ref q s)) refl h (t == s) refl (λ g c d. every_slots f q (s + 1) m g t c d)
  where
    go : (b : Bool) → f (slot_ref q s) ≡ b → (b && every f (slot_refs q (s + 1) m)) ≡ true → (c : Bool) → (t == s) ≡ c
        → (every f (slot_refs q (s + 1) m) ≡ true → s + 1 ≤ t → t < s + 1 + m → f (slot_ref q t) ≡ true)
        → f (slot_ref q t) ≡ true
    go false e h c d rest = absurd (let z : false ≡ true = h in cc)
    go true e h true d rest = let i = eqb-true t s d in rw i e
    go true e h false d rest = rest h (let n : s ≢ t = (λ x. let z : (t == s) ≡ true = rw x (eq-eqb t t refl)
        in let y : true
        ≡ false = sym z ∙ d in cc) in grind arith) (omega arith)

-- what SetClass asks of a page with a class: each slot of its class is in `mine`
pub room_mine : (w : Words) (p : Body) (q n : ℕ) → w.class_at q ≡ n → ((n == 0) || all_mine p q n) ≡ true → (s : ℕ)
    → room w (slot_ref q s) ≤ mine_at (slot_ref q s) p
room_mine w p q n is h s = rw is (go (nat_lt 0 n) (nat_lt s (slots (n - 1))) refl refl) where
  some : (b : Bool) → (n == 0) ≡ b → nat_lt 0 n ≡ true → nat_lt s (slots (n - 1)) ≡ true → (b || all_mine p q n) ≡ true
      → 1 ≤ mine_at (slot_ref q s) p
  some true e a b h = absurd (let i = eqb-true n 0 e in let z : 0 < n = grind (arith, nat_tests) in omega arith)
  some false e a b h = has_some (same_slot (slot_ref q s)) p.mine
      (every_slots (λ x. has (same_slot x) p.mine) q 0 (slots (n - 1)) h s (omega arith)
      (let z : s < slots (n - 1) = ltb-true s (slots (n - 1)) b in omega arith))

  go : (a b : Bool) → nat_lt 0 n ≡ a → nat_lt s (slots (n - 1)) ≡ b → cond (a && b) 1 0 ≤ mine_at (slot_ref q s) p
  go true true a b = some (n == 0) refl a b h
  go true false a b = omega arith
  go false b a c = omega arith

module _ (plan : Plan) (w : World) (l : PutLists) (a : ℕ) (p : Body) (q c : ℕ) (g : Sums plan w l)
    (at : slice_get w.parts a ≡ Some p) (all : (s : ℕ) → room w.words (slot_ref q s) ≤ mine_at (slot_ref q s) p) where
  abbrev class_words : Words
  class_words = write w.words (Class q) (c + 1)

  abbrev class_part : Body
  class_part = classed p q c

  -- each of the page's slots is in `mine`
  pub empty_page : (x : SlotRef) → x.page ≡ q → (if1 ((fields_of (w.words.state_at x.page x.slot)).present ||
      (fields_of (w.words.state_at x.page x.slot)).marked) ≡ 0) × (total (in_hand x) w.parts ≡ 0) × (queued l x ≡ 0)
      × (total (mine_at x) w.parts ≡ mine_at x p)
  empty_page x e =
      let f = g.slots x in
      let m = total_at (mine_at x) w.parts a p at in
      let r : room w.words x ≤ mine_at x p = (let P : ℕ → Type 0 = λ k. room w.words (slot_ref k x.slot) ≤ mine_at
      (slot_ref k x.slot) p in subst P (sym e) (all x.slot)) in
      (omega arith, omega arith, omega arith, omega arith)

  class_slots : SlotsAddUp plan class_words (set w.parts a class_part) l
  class_slots x = record {
    kinds = kinds (x.page == q) refl;
    counts = let m = tally_set plan x st w.parts a p class_part at in let f = g.slots x in omega arith;
    none_lost = let m = tally_set plan x st w.parts a p class_part at in let f = g.slots x in omega arith;
    owed = λ b d e. let m = tally_set plan x st w.parts a p class_part at in let f = (g.slots x).owed b d e
        in omega arith;
  } where
    st : Fields
    st = fields_of (w.words.state_at x.page x.slot)

    mine_new : mine_at x class_part ≡ if1 ((x.page == q) && nat_lt x.slot (slots c)) +
        cond (x.page == q) 0 (mine_at x p)
    mine_new =
        let u = total_append (λ y. if1 (same_slot x y)) (slot_refs q 0 (slots c)) (off (λ y. y.page == q) p.mine) in
        let t = times_drop x q p.mine in
        let s : total (λ y. if1 (same_slot x y)) (slot_refs q 0 (slots c))
        ≡ if1 ((x.page == q) && nat_lt x.slot (slots c)) = slots_total x q 0 (slots c) ∙ above (x.page == q)
        in omega arith where
          above : (b : Bool) → if1 (b && not (nat_lt x.slot 0) && nat_lt x.slot (0 + slots c))
              ≡ if1 (b && nat_lt x.slot (slots c))
          above true = grind (arith, nat_tests)
          above false = refl

    kinds : (b : Bool) → (x.page == q) ≡ b → if1 (st.present || st.marked) +
        total (mine_at x) (set w.parts a class_part) + total (in_hand x) (set w.parts a class_part) + queued l x
        ≡ room class_words x
    kinds true e =
        let i = eqb-true x.page q e in
        let f = empty_page x i in
        let f0 = f.0 in
        let f1 = f.1 in
        let f2 = f.2 in
        let f3 = f.3 in
        let m = mine_new in
        let t = total_set (mine_at x) w.parts a p class_part at in
        let h = total_set (in_hand x) w.parts a p class_part at in
        let u : if1 ((x.page == q) && nat_lt x.slot (slots c)) ≡ if1 (nat_lt x.slot (slots c)) = rw e refl in
        let v : cond (x.page == q) 0 (mine_at x p) ≡ 0 = rw e refl in
        let d : c + 1 - 1 ≡ c = omega arith in
        let y : nat_lt 0 (c + 1) ≡ true = grind (arith, nat_tests) in
        let r : room class_words x ≡ if1 (nat_lt x.slot (slots c)) =
        rw (i, put_same w.words.class_at q (c + 1), y, d) refl
        in omega arith
    kinds false e =
        let f = g.slots x in
        let m = mine_new in
        let t = total_set (mine_at x) w.parts a p class_part at in
        let h = total_set (in_hand x) w.parts a p class_part at in
        let u : if1 ((x.page == q) && nat_lt x.slot (slots c)) ≡ 0 = rw e refl in
        let v : cond (x.page == q) 0 (mine_at x p) ≡ mine_at x p = rw e refl in
        let r : room class_words x ≡ room w.words x = rw (put_other w.words.class_at q x.page (c + 1) e) refl
        in omega arith

  pub sums_set_class : FillAgrees class_words class_part class_part.hand → Sums plan (with w class_words a class_part) l
  unfolding value_at
  sums_set_class fill = sums_at plan w l l a p class_part class_words None g at class_slots
      (keys_value plan w.words class_words w.log g.keys (λ k s. refl) (λ y. value (y.page == q) y refl)) tt (λ k. refl)
      ((g.parts a p at).0, fill) (λ b u n h f. others b u h u.hand refl f) where
        value : (b : Bool) (y : SlotRef) → (y.page == q) ≡ b
            → (value_at class_words y.page y.slot ≡ value_at w.words y.page y.slot)
            ⊎ (((fields_of (w.words.state_at y.page y.slot)).present ≡ false)
            × ((fields_of (w.words.state_at y.page y.slot)).marked ≡ false))
        value true y e = inr (if1_neither (fields_of (w.words.state_at y.page y.slot)).present
            (fields_of (w.words.state_at y.page y.slot)).marked (empty_page y (eqb-true y.page q e)).0)
        value false y e = inl (ap (λ (k : ℕ). words_from (w.words.payload_at y.page) (y.slot * width (k - 1))
            (w.words.length_at y.page y.slot)) (put_other w.words.class_at q y.page (c + 1) e))

        others : (b : ℕ) (u : Body) → slice_get w.parts b ≡ Some u → (h : Hand) → u.hand ≡ h → FillAgrees w.words u h
            → FillAgrees class_words u h
        others b u at' (Filling y v i) e f = go (y.page == q) refl where
          go : (d : Bool) → (y.page == q) ≡ d → FillAgrees class_words u (Filling y v i)
          go true d =
              let t = (empty_page y (eqb-true y.page q d)).1 in
              let k : in_hand y u ≡ if1 (same_slot y y) = rw e refl in
              let one = if1_same_slot y in
              let m = total_at (in_hand y) w.parts b u at' in absurd (omega arith)
          go false d =
              let same = put_other w.words.class_at q y.page (c + 1) d in
              record {
                length_is = f.length_is;
                begun = f.begun;
                fits = rw same f.fits;
                so_far = rw same f.so_far;
                class_is = f.class_is ∙ sym same;
              }
        others b u at' _ e f = f

-- the words stay within their bounds
pub bounds_state : (plan : Plan) (w : Words) (x : SlotRef) (n : ℕ) → BoundsOf plan w → (0 < (fields_of n).generation)
    × ((fields_of n).generation ≤ plan.keys.gen_max) → (((fields_of n).present || (fields_of n).marked) ≡ true
    → w.length_at x.page x.slot ≤ width (w.class_at x.page - 1)) → BoundsOf plan (write w (State x.page x.slot) n)
bounds_state plan w x n old gen len = record {
  generations = λ q s. gens q s (same_slot (slot_ref q s) x) refl;
  classes = old.classes;
  lengths = λ q s. lens q s (same_slot (slot_ref q s) x) refl;
} where
  gens : (q s : ℕ) (b : Bool) → same_slot (slot_ref q s) x ≡ b →
      (0 < (fields_of (put2 w.state_at x.page x.slot n q s)).generation)
      × ((fields_of (put2 w.state_at x.page x.slot n q s)).generation ≤ plan.keys.gen_max)
  gens q s true e =
      let i = same_slot-true x (slot_ref q s) e in
      let P : ℕ → Type 0 = λ m. (0 < (fields_of m).generation) × ((fields_of m).generation ≤ plan.keys.gen_max) in
      subst P (sym (ap (λ (y : SlotRef). put2 w.state_at x.page x.slot n y.page y.slot) i
      ∙ put2_same w.state_at x.page x.slot n)) gen
  gens q s false e = let P : ℕ → Type 0 = λ m. (0 < (fields_of m).generation)
      × ((fields_of m).generation ≤ plan.keys.gen_max) in subst P (sym (put2_other w.state_at x.page x.slot n q s e))
      (old.generations q s)

  lens : (q s : ℕ) (b : Bool) → same_slot (slot_ref q s) x ≡ b →
      ((fields_of (put2 w.state_at x.page x.slot n q s)).present ||
      (fields_of (put2 w.state_at x.page x.slot n q s)).marked) ≡ true → w.length_at q s ≤ width (w.class_at q - 1)
  lens q s true e h =
      let i = same_slot-true x (slot_ref q s) e in
      let j : put2 w.state_at x.page x.slot n q s ≡ n
      = ap (λ (y : SlotRef). put2 w.state_at x.page x.slot n y.page y.slot) i ∙ put2_same w.state_at x.page x.slot n in
      let k : ((fields_of n).present || (fields_of n).marked) ≡ true = sym
      (ap (λ (m : ℕ). (fields_of m).present || (fields_of m).marked) j) ∙ h in
      let P : SlotRef → Type 0 = λ y. w.length_at y.page y.slot ≤ width (w.class_at y.page - 1) in
      subst P (sym i) (len k)
  lens q s false e h = old.lengths q s (sym (ap (λ (m : ℕ). (fields_of m).present || (fields_of m).marked)
      (put2_other w.state_at x.page x.slot n q s e)) ∙ h)

-- if generation, M and P stay
pub bounds_still : (plan : Plan) (w : Words) (x : SlotRef) (n : ℕ) → BoundsOf plan w → (fields_of n).generation
    ≡ (fields_of (w.state_at x.page x.slot)).generation → (fields_of n).marked
    ≡ (fields_of (w.state_at x.page x.slot)).marked → (fields_of n).present
    ≡ (fields_of (w.state_at x.page x.slot)).present → BoundsOf plan (write w (State x.page x.slot) n)
bounds_still plan w x n old a b c = bounds_state plan w x n old (let g = old.generations x.page x.slot in rw a g)
    (λ h. old.lengths x.page x.slot (sym (ap (λ (m : Bool). m || (fields_of n).marked) c
    ∙ ap (λ (m : Bool). (fields_of (w.state_at x.page x.slot)).present || m) b) ∙ h))

pub bounds_length : (plan : Plan) (w : Words) (x : SlotRef) (n : ℕ) → BoundsOf plan w
    → ((fields_of (w.state_at x.page x.slot)).present ≡ false) × ((fields_of (w.state_at x.page x.slot)).marked ≡ false)
    → BoundsOf plan (write w (Length x.page x.slot) n)
bounds_length plan w x n old none = record {
  generations = old.generations;
  classes = old.classes;
  lengths = λ q s. lens
      q s (same_slot (slot_ref q s) x) refl;
} where
  lens : (q s : ℕ) (b : Bool) → same_slot (slot_ref q s) x ≡ b →
      ((fields_of (w.state_at q s)).present || (fields_of (w.state_at q s)).marked) ≡ true
      → put2 w.length_at x.page x.slot n q s ≤ width (w.class_at q - 1)
  lens q s true e h =
      let i = same_slot-true x (slot_ref q s) e in
      let k : ((fields_of (w.state_at q s)).present || (fields_of (w.state_at q s)).marked)
      ≡ ((fields_of (w.state_at x.page x.slot)).present || (fields_of (w.state_at x.page x.slot)).marked) = ap
      (λ (y : SlotRef). (fields_of (w.state_at y.page y.slot)).present ||
      (fields_of (w.state_at y.page y.slot)).marked) i in
      let m : ((fields_of (w.state_at x.page x.slot)).present || (fields_of (w.state_at x.page x.slot)).marked)
      ≡ false = rw (none.0, none.1) refl in
      let z : true ≡ false = sym h ∙ k ∙ m in absurd (cc)
  lens q s false e h = rw (put2_other w.length_at x.page x.slot n q s e) (old.lengths q s h)

pub bounds_class : (plan : Plan) (w : Words) (q c : ℕ) → BoundsOf plan w → c < 8 → q < heap_pages plan
    → ((s : ℕ) → if1 ((fields_of (w.state_at q s)).present || (fields_of (w.state_at q s)).marked) ≡ 0)
    → BoundsOf plan (write w (Class q) (c + 1))
bounds_class plan w q c old small page none = record {
  generations = old.generations;
  classes = λ k. cls k (k == q) refl;
  lengths = λ k s. lens k s (k == q) refl;
} where
  cls : (k : ℕ) (b : Bool) → (k == q) ≡ b → (put w.class_at q (c + 1) k ≤ 8)
      × (0 < put w.class_at q (c + 1) k → k < heap_pages plan)
  cls k true e = let i = eqb-true k q e in let j : put w.class_at q (c + 1) k
      ≡ c + 1 = rw i (put_same w.class_at q (c + 1)) in (omega arith, λ _. rw i page)
  cls k false e = let P : ℕ → Type 0 = λ m. (m ≤ 8) × (0 < m → k < heap_pages plan)
      in subst P (sym (put_other w.class_at q k (c + 1) e)) (old.classes k)

  lens : (k s : ℕ) (b : Bool) → (k == q) ≡ b → ((fields_of (w.state_at k s)).present ||
      (fields_of (w.state_at k s)).marked) ≡ true → w.length_at k s ≤ width (put w.class_at q (c + 1) k - 1)
  lens k s true e h =
      let i = eqb-true k q e in
      let n = none s in
      let j : if1 ((fields_of (w.state_at k s)).present || (fields_of (w.state_at k s)).marked)
      ≡ 0 = ap (λ (m : ℕ). if1 ((fields_of (w.state_at m s)).present || (fields_of (w.state_at m s)).marked)) i
      ∙ n in
      let z : if1 ((fields_of (w.state_at k s)).present || (fields_of (w.state_at k s)).marked) ≡ 1 = ap if1 h
      in absurd (omega arith)
  lens k s false e h = let P : ℕ → Type 0 = λ m. w.length_at k s ≤ width (m - 1)
      in subst P (sym (put_other w.class_at q k (c + 1) e)) (old.lengths k s h)
