-- All that holds, over the kinds that store a value: Fill of a slot, Fill of a word.
use Rattle.std.proofs.Common.{◌≡◌, ◌≢◌, ℕ, ◌+◌, ◌-◌, ◌*◌, ◌<◌, ◌≤◌, ◌==◌, ◌&&◌, ◌||◌, ◌⊎◌, inl, inr, ⊎_elim, Bool, true}
use Rattle.std.proofs.Common.{false, List, length, get_or, sym, refl, ap, ◌∙◌, subst, arith, Some, None, slice_get}
use Rattle.std.proofs.Common.{eqb-true}
use Rattle.std.proofs.lemmas.Bool.Decides.{nat_tests}
use Rattle.sh_history.specs.declared.entry.Entry.{Entry}
use Rattle.sh_slots.specs.declared.hand.SlotRef.{SlotRef}
use Rattle.sh_slots.specs.declared.hand.Hand.{Hand}
use Rattle.sh_slots.specs.declared.hand.Hand.TheVariants.{Idle, Filling}
use Rattle.sh_core.specs.Words.{Words, write, put, put2}
use Rattle.sh_shape.specs.declared.places.Place.TheVariants.{Length, Payload}
use Rattle.sh_word.specs.Fields.{Fields, fields_of}
use Rattle.sh_step.specs.Plans.{Plan}
use Rattle.sh_shape.specs.Classes.{width}
use Rattle.sh_slots.specs.Slots.{same_slot, slot_ref_of}
use Rattle.sh_step.specs.Collections.{if1, has, without}
use Rattle.sh_step.specs.declared.body.Body.{Body}
use Rattle.sh_step.specs.Rows.{hand, class_word_noted, fill_slot, fill}
use Rattle.sh_core.specs.Worlds.{World, apply, value_at, words_from}
use Rattle.sh_core.specs.Lists.{PutLists, mine_at, in_hand}
use Rattle.sh_core.specs.Tallies.{due}
use Rattle.sh_core.specs.Stories.{values, removals, KeysAgree}
use Rattle.sh_core.specs.Sums.{Sums, FillAgrees}
use Rattle.sh_core.specs.Placed.{BoundsOf}
use Rattle.sh_core.proofs.Sums.Totals.{total_at, total_without, total_two}
use Rattle.sh_core.proofs.Slots.Slots.{tally_same, slots_part, same_slot-refl, same_slot-true, tally_ext, if1_same_slot}
use Rattle.sh_core.proofs.Slots.SlotSteps.{fill_adds_up}
use Rattle.sh_core.proofs.Slots.Logs.{story_fill}
use Rattle.sh_core.proofs.Slots.SumsStep.{sums_at}
use Rattle.sh_core.proofs.Slots.SlotSums.{room_few}
use Rattle.sh_core.proofs.Sums.Payload.{rows_apart, words_other, fill_words}
use Rattle.sh_core.proofs.Sums.Tests.{if1_neither}
use Rattle.sh_core.proofs.Sums.ListCounts.{has_some}
use Rattle.sh_core.proofs.Sums.Writes.{put2_same, put2_other, put_same, put_other}

-- a step that changes only value words of Empty slots
pub keys_value : (plan : Plan) (w W : Words) (log : List Entry) → KeysAgree plan w log
    → ((q s : ℕ) → W.state_at q s ≡ w.state_at q s)
    → ((y : SlotRef) → (value_at W y.page y.slot ≡ value_at w y.page y.slot)
    ⊎ (((fields_of (w.state_at y.page y.slot)).present ≡ false)
    × ((fields_of (w.state_at y.page y.slot)).marked ≡ false))) → KeysAgree plan W log
keys_value plan w W log old state others k z name = rw (state z.page z.slot) (⊎_elim
    (λ e. rw e (old k z name))
    (λ n. story_fill (fields_of (w.state_at z.page z.slot)) z.generation (values k log) (removals k log)
    (value_at w z.page z.slot) (value_at W z.page z.slot) (old k z name) n.1 n.0)
    (others (slot_ref_of z)))

fill_due : (plan : Plan) (p : Body) (x : SlotRef) (v : List ℕ) → has (same_slot x) p.mine ≡ true
    → (y : SlotRef) (st : Fields)
    → same_slot y x ≡ false → due plan y st (hand (record p { mine = without (same_slot x) p.mine }) (Filling x v 0))
    ≡ due plan y st (hand p Idle)
fill_due plan p x v is y st h =
    let t = total_without (λ u. if1 (same_slot y u)) (same_slot x) 0
    (λ u e. let i : x ≡ u = same_slot-true u x e in let f : same_slot y u ≡ false = ap (same_slot y) (sym i) ∙ h
    in rw f refl) p.mine is in
    let n : if1 (same_slot y x) ≡ 0 = rw h refl in
    tally_ext (due plan y st (hand (record p { mine = without (same_slot x) p.mine }) (Filling x v 0)))
    (due plan y st (hand p Idle)) (omega arith) n refl refl refl refl

-- a slot of `mine` is in no hand
not_mine : (plan : Plan) (w : World) (l : PutLists) (a b : ℕ) (p q : Body) (x y : SlotRef) (u : List ℕ) (i : ℕ)
    → Sums plan w l → slice_get w.parts a ≡ Some p → has (same_slot x) p.mine ≡ true → slice_get w.parts b ≡ Some q
    → q.hand ≡ Filling y u i → same_slot y x ≡ false
not_mine plan w l a b p q x y u i g at is at' e = go (same_slot y x) refl where
  go : (c : Bool) → same_slot y x ≡ c → c ≡ false
  go false h = refl
  go true h =
      let s : y ≡ x = same_slot-true x y h in
      let f = g.slots x in
      let r = room_few w.words x in
      let some = has_some (same_slot x) p.mine is in
      let mine = total_at (mine_at x) w.parts a p at in
      let hands = total_at (in_hand x) w.parts b q at' in
      let k : in_hand x q ≡ if1 (same_slot x y) = rw e refl in
      let t : same_slot x y ≡ true = ap (same_slot x) s ∙ same_slot-refl x in
      let one : if1 (same_slot x y) ≡ 1 = rw t refl in absurd (omega arith)

pub sums_fill_slot : (plan : Plan) (w : World) (l : PutLists) (a : ℕ) (p : Body) (x : SlotRef) (v : List ℕ)
    → Sums plan w l
    → slice_get w.parts a ≡ Some (hand p Idle) → has (same_slot x) p.mine ≡ true → class_word_noted p x.page
    ≡ w.words.class_at x.page → length v ≤ width (w.words.class_at x.page - 1)
    → Sums plan (apply w a (fill_slot (hand p Idle) x v)) l
unfolding apply value_at
sums_fill_slot plan w l a p x v g at is class fits =
    let f = g.slots x in
    let one = if1_same_slot x in
    let some = has_some (same_slot x) p.mine is in
    let mine = total_at (mine_at x) w.parts a (hand p Idle) at in
    let r = room_few w.words x in
    let none = if1_neither (fields_of (w.words.state_at x.page x.slot)).present
    (fields_of (w.words.state_at x.page x.slot)).marked (omega arith) in
    sums_at plan w l l a (hand p Idle) (hand (record p { mine = without (same_slot x) p.mine }) (Filling x v 0))
    (write w.words (Length x.page x.slot) (length v)) None g at
    (slots_part plan w.words w.parts l l a (hand p Idle) (hand (record p { mine = without (same_slot x) p.mine })
    (Filling x v 0)) x g.slots at (fill_due plan p x v is) (λ y h. refl)
    (fill_adds_up _ _ (fields_of (w.words.state_at x.page x.slot)) plan w.parts a p x v is at f))
    (keys_value plan w.words (write w.words (Length x.page x.slot) (length v)) w.log g.keys (λ q s. refl)
    (λ y. apart y none (same_slot y x) refl))
    tt (λ j. refl) (
      (g.parts a (hand p Idle) at).0,
      record {
        length_is = put2_same w.words.length_at x.page x.slot (length v);
        begun = omega arith;
        fits = fits;
        so_far = refl;
        class_is = class;
      },
    )
    (λ b q n at' h. others b q n at' (q.hand) refl h) where
      others : (b : ℕ) (q : Body) → b ≢ a → slice_get w.parts b ≡ Some q → (h : Hand) → q.hand ≡ h
          → FillAgrees w.words q h → FillAgrees (write w.words (Length x.page x.slot) (length v)) q h
      others b q n at' (Filling y u i) e h = record {
        length_is = put2_other w.words.length_at x.page x.slot (length v) y.page y.slot
            (not_mine plan w l a b (hand p Idle) q x y u i g at is at' e) ∙ h.length_is;
        begun = h.begun;
        fits = h.fits;
        so_far = h.so_far;
        class_is = h.class_is;
      }
      others b q n at' _ e h = h

      apart : (y : SlotRef) → ((fields_of (w.words.state_at x.page x.slot)).present ≡ false)
          × ((fields_of (w.words.state_at x.page x.slot)).marked ≡ false) → (b : Bool) → same_slot y x ≡ b
          → (value_at (write w.words (Length x.page x.slot) (length v)) y.page y.slot ≡ value_at w.words y.page y.slot)
          ⊎ (((fields_of (w.words.state_at y.page y.slot)).present ≡ false)
          × ((fields_of (w.words.state_at y.page y.slot)).marked ≡ false))
      apart y none true h = let e = same_slot-true x y h in inr (rw e none)
      apart y none false h = inl (ap (λ (n : ℕ). words_from (w.words.payload_at y.page)
          (y.slot * width (w.words.class_at y.page - 1)) n) (put2_other w.words.length_at x.page x.slot (length v)
          y.page y.slot h))

-- a slot in a hand is in no other hand
not_hand : (plan : Plan) (w : World) (l : PutLists) (a b : ℕ) (p q : Body) (x y : SlotRef) (v u : List ℕ) (i j : ℕ)
    → Sums plan w l → b ≢ a → slice_get w.parts a ≡ Some p → p.hand ≡ Filling x v i → slice_get w.parts b ≡ Some q
    → q.hand ≡ Filling y u j → same_slot y x ≡ false
not_hand plan w l a b p q x y v u i j g n at d at' e = go (same_slot y x) refl where
  go : (c : Bool) → same_slot y x ≡ c → c ≡ false
  go false h = refl
  go true h =
      let s : y ≡ x = same_slot-true x y h in
      let f = g.slots x in
      let r = room_few w.words x in
      let both = total_two (in_hand x) w.parts b a q p n at' at in
      let k : in_hand x q ≡ if1 (same_slot x y) = rw e refl in
      let m : in_hand x p ≡ if1 (same_slot x x) = rw d refl in
      let t : same_slot x y ≡ true = ap (same_slot x) s ∙ same_slot-refl x in
      let one : if1 (same_slot x y) ≡ 1 = rw t refl in
      let two = if1_same_slot x in absurd (omega arith)

-- the words of another slot are different words
row_other : (w : Words) (x y : SlotRef) (k v n W : ℕ) → same_slot y x ≡ false → k < W → n ≤ W
    → words_from ((write w (Payload x.page (x.slot * W + k)) v).payload_at y.page) (y.slot * W) n
    ≡ words_from (w.payload_at y.page) (y.slot * W) n
unfolding put2
row_other w x y k v n W h a b = go (y.page == x.page) refl where
  go : (c : Bool) → (y.page == x.page) ≡ c → words_from ((write w (Payload x.page (x.slot * W + k)) v).payload_at
      y.page) (y.slot * W) n ≡ words_from (w.payload_at y.page) (y.slot * W) n
  go false e = ap (λ (f : ℕ → ℕ). words_from f (y.slot * W) n)
      (put_other w.payload_at x.page y.page (put (w.payload_at x.page) (x.slot * W + k) v) e)
  go true e =
      let i = eqb-true y.page x.page e in
      let s : (y.slot == x.slot) ≡ false = (let t : (true && (y.slot == x.slot)) ≡ false = rw e at h in t) in
      let d : y.slot ≢ x.slot = λ c. let t : (y.slot == x.slot) ≡ true = grind (arith, nat_tests) in cc in
      ap (λ (f : ℕ → ℕ). words_from f (y.slot * W) n) (ap (put w.payload_at x.page
      (put (w.payload_at x.page) (x.slot * W + k) v)) i ∙ put_same w.payload_at x.page
      (put (w.payload_at x.page) (x.slot * W + k) v))
      ∙ words_other (w.payload_at x.page) (x.slot * W + k) v (y.slot * W) n
      (λ j l c. rows_apart y.slot x.slot W j k d (omega arith) a c)
      ∙ ap (λ (q : ℕ). words_from (w.payload_at q) (y.slot * W) n) (sym i)

-- the same if the pages may differ
row_any : (w : Words) (x y : SlotRef) (k v n C D : ℕ) → same_slot y x ≡ false → k < C
    → (y.page ≡ x.page → (D ≡ C) × (n ≤ C)) → words_from ((write w (Payload x.page (x.slot * C + k)) v).payload_at
    y.page) (y.slot * D) n ≡ words_from (w.payload_at y.page) (y.slot * D) n
unfolding put2
row_any w x y k v n C D h a page = go (y.page == x.page) refl where
  go : (c : Bool) → (y.page == x.page) ≡ c → words_from ((write w (Payload x.page (x.slot * C + k)) v).payload_at
      y.page) (y.slot * D) n ≡ words_from (w.payload_at y.page) (y.slot * D) n
  go false e = ap (λ (f : ℕ → ℕ). words_from f (y.slot * D) n)
      (put_other w.payload_at x.page y.page (put (w.payload_at x.page) (x.slot * C + k) v) e)
  go true e = let q = page (eqb-true y.page x.page e) in let P : ℕ
      → Type 0 = λ d. words_from ((write w (Payload x.page (x.slot * C + k)) v).payload_at y.page) (y.slot * d) n
      ≡ words_from (w.payload_at y.page) (y.slot * d) n in
      subst P (sym q.0) (row_other w x y k v n C h a q.1)

payload_here : (w : Words) (q k v : ℕ) → (write w (Payload q k) v).payload_at q ≡ put (w.payload_at q) k v
unfolding put2
payload_here w q k v = put_same w.payload_at q (put (w.payload_at q) k v)

pub sums_fill : (plan : Plan) (w : World) (l : PutLists) (a : ℕ) (p : Body) (x : SlotRef) (v : List ℕ) (i : ℕ)
    → Sums plan w l → BoundsOf plan w.words → slice_get w.parts a ≡ Some (hand p (Filling x v i)) → i < length v
    → Sums plan (apply w a (fill (hand p (Filling x v i)) x v i)) l
unfolding apply value_at
sums_fill plan w l a p x v i g bounds at less =
    let f = g.slots x in
    let one = if1_same_slot x in
    let hands = total_at (in_hand x) w.parts a (hand p (Filling x v i)) at in
    let r = room_few w.words x in
    let none = if1_neither (fields_of (w.words.state_at x.page x.slot)).present
    (fields_of (w.words.state_at x.page x.slot)).marked (omega arith) in
    let fm = (g.parts a (hand p (Filling x v i)) at).1 in
    let fits = fm.fits in
    let due_same = tally_same plan x (fields_of (w.words.state_at x.page x.slot)) w.parts a (hand p (Filling x v i))
    (hand p (Filling x v (i + 1))) at refl in
    rw fm.class_is (sums_at plan w l l a (hand p (Filling x v i)) (hand p (Filling x v (i + 1))) W None g at
    (slots_part plan w.words w.parts l l a (hand p (Filling x v i)) (hand p (Filling x v (i + 1))) x g.slots at
    (λ y st h. refl) (λ y h. refl) (rw due_same f))
    (keys_value plan w.words W w.log g.keys (λ q s. refl) (λ y. apart y none (omega arith) (same_slot y x)
    ((fields_of (w.words.state_at y.page y.slot)).present || (fields_of (w.words.state_at y.page y.slot)).marked)
    refl refl))
    tt (λ j. refl) (
      (g.parts a (hand p (Filling x v i)) at).0,
      record {
        length_is = fm.length_is;
        begun = omega arith;
        fits = fits;
        so_far = ap (λ (f : ℕ → ℕ). words_from f (x.slot * C) (i + 1))
            (payload_here w.words x.page (x.slot * C + i) (get_or v i 0))
            ∙ fill_words (w.words.payload_at x.page) x.slot C i v fm.so_far less;
        class_is = fm.class_is;
      },
    )
    (λ b q n at' h. stays b q n at' q.hand refl h (omega arith))) where
      C : ℕ
      C = width (w.words.class_at x.page - 1)

      W : Words
      W = write w.words (Payload x.page (x.slot * C + i)) (get_or v i 0)

      within : (y : SlotRef) → ((fields_of (w.words.state_at y.page y.slot)).present ||
          (fields_of (w.words.state_at y.page y.slot)).marked) ≡ true → y.page ≡ x.page
          → w.words.length_at y.page y.slot ≤ C
      within y there e = let P : ℕ → Type 0 = λ q. w.words.length_at y.page y.slot ≤ width (w.words.class_at q - 1)
          in subst P e (bounds.lengths y.page y.slot there)

      apart : (y : SlotRef) → ((fields_of (w.words.state_at x.page x.slot)).present ≡ false)
          × ((fields_of (w.words.state_at x.page x.slot)).marked ≡ false) → i < C → (b d : Bool) → same_slot y x ≡ b
          → ((fields_of (w.words.state_at y.page y.slot)).present ||
          (fields_of (w.words.state_at y.page y.slot)).marked) ≡ d
          → (value_at W y.page y.slot ≡ value_at w.words y.page y.slot)
          ⊎ (((fields_of (w.words.state_at y.page y.slot)).present ≡ false)
          × ((fields_of (w.words.state_at y.page y.slot)).marked ≡ false))
      apart y none c true d h k = let e = same_slot-true x y h in inr (rw e none)
      apart y none c false false h k = inr (if1_neither (fields_of (w.words.state_at y.page y.slot)).present
          (fields_of (w.words.state_at y.page y.slot)).marked (rw k refl))
      apart y none c false true h k = inl (row_any w.words x y i (get_or v i 0) (w.words.length_at y.page y.slot) C
          (width (w.words.class_at y.page - 1)) h c
          (λ e. (ap (λ (q : ℕ). width (w.words.class_at q - 1)) e, within y k e)))

      stays : (b : ℕ) (q : Body) → b ≢ a → slice_get w.parts b ≡ Some q → (h : Hand) → q.hand ≡ h
          → FillAgrees w.words q h
          → i < C → FillAgrees W q h
      stays b q n at' (Filling y u j) e h c = record {
        length_is = h.length_is;
        begun = h.begun;
        fits = h.fits;
        so_far = row_any w.words x y i (get_or v i 0) j C (width (w.words.class_at y.page - 1))
            (not_hand plan w l a b (hand p (Filling x v i)) q x y v u i j g n at refl at' e) c
            (λ d. (ap (λ (q : ℕ). width (w.words.class_at q - 1)) d, small d)) ∙ h.so_far;
        class_is = h.class_is;
      } where
        small : y.page ≡ x.page → j ≤ C
        small d = let some = h.begun in let P : ℕ → Type 0 = λ k. length u ≤ width (w.words.class_at k - 1)
            in let t : length u ≤ C = subst P d h.fits in omega arith
      stays b q n at' _ e h c = h
