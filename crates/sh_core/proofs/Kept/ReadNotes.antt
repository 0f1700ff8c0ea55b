-- What a pass knows of its keys stays true.
use Rattle.std.proofs.Common.{◌≡◌, ℕ, ◌+◌, ◌-◌, ◌<◌, ◌==◌, ◌&&◌, ◌||◌, ⊎_elim, Bool, true, false, cond, List, ◌∷◌, ◌++◌}
use Rattle.std.proofs.Common.{length, sym, refl, ap, ◌∙◌, subst, arith, Some, slice_get, eqb-true}
use Rattle.sh_slots.specs.declared.hand.SlotRef.{SlotRef}
use Rattle.sh_slots.specs.declared.hand.KeyRef.{KeyRef}
use Rattle.sh_slots.specs.declared.hand.Hand.{Hand}
use Rattle.sh_core.specs.Words.{Words, write, put, put2, read}
use Rattle.sh_shape.specs.declared.places.Place.TheVariants.{Class, State, Length}
use Rattle.sh_word.specs.Fields.{fields_of}
use Rattle.sh_shape.specs.Classes.{slots}
use Rattle.sh_slots.specs.Slots.{same_slot, slot_refs, live_at, has_room, slot_ref_of, after_drop, sight_with, name_at}
use Rattle.sh_step.specs.Collections.{if1, has, without, noted, off}
use Rattle.sh_step.specs.declared.body.Body.{Body}
use Rattle.sh_core.specs.Lists.{PutLists, times, mine_at}
use Rattle.sh_core.specs.Placed.{Agreement}
use Rattle.sh_step.specs.Operations.{operate}
use Rattle.sh_core.specs.Worlds.{World, apply}
use Rattle.sh_core.specs.Reads.{ReadsAgreeOf, AllReadsAgree}
use Rattle.sh_core.proofs.Sums.Totals.{total_at, get_set}
use Rattle.sh_core.proofs.Slots.Slots.{same_slot-true}
use Rattle.sh_core.proofs.Slots.SlotSums.{room_few}
use Rattle.sh_core.proofs.Slots.ClassSums.{room_mine, empty_page}
use Rattle.sh_core.proofs.Clauses.RunRefines.{held_stands}
use Rattle.sh_slots.specs.declared.hand.Hand.TheVariants.{Leaving, Filling, Looking, Finishing}
use Rattle.sh_step.specs.declared.moves.Move.{Move}
use Rattle.sh_step.specs.declared.moves.Move.TheVariants.{EnterGet, DropHold, FillSlot, ReadClass, ReadLength, ReadWord}
use Rattle.sh_step.specs.declared.moves.Move.TheVariants.{ReadPage, SetClass, LookOn, ReadEnding}
use Rattle.sh_step.specs.Moves.{row_of}
use Rattle.sh_step.specs.Plans.{Plan, heap_pages}
use Rattle.sh_step.specs.Rows.{Row, hand, freed, own, all_mine, payload_word, fill_slot, read_class, read_length}
use Rattle.sh_step.specs.Rows.{read_word, read_page, set_class, look_on, look_place, read_ending}
use Rattle.sh_step.proofs.PartTests.{is_own, zero_or}
use Rattle.sh_step.specs.Conditions.{May}
use Rattle.sh_core.proofs.Moves.ByMove.{keys_stay}
use Rattle.sh_core.proofs.Sums.Tests.{if1_neither, cond_either}
use Rattle.sh_core.proofs.Sums.ListCounts.{times_cons, times_without, has_some, noted_off}
use Rattle.sh_core.proofs.Sums.Writes.{put2_other, put_other, write_same}

-- the three that hold what is known
abbrev Three : Body → Body → Type 0
Three p u = (u.holds ≡ p.holds) × (u.class_words ≡ p.class_words) × (u.lengths ≡ p.lengths)

-- the words that a step leaves to the keys that passes hold
abbrev HeldWordsStay : Plan → World → Words → Type 0
HeldWordsStay plan w W = (b : ℕ) (u : Body) (k : ℕ) (n : KeyRef) → slice_get w.parts b ≡ Some u → 0 < times k u.holds
    → plan.keys.unpack k ≡ Some n → (W.class_at n.page ≡ w.words.class_at n.page)
    × (W.length_at n.page n.slot ≡ w.words.length_at n.page n.slot)

knows_words : (plan : Plan) (w : World) (W : Words) (b : ℕ) (u : Body) → slice_get w.parts b ≡ Some u
    → HeldWordsStay plan w W → ReadsAgreeOf plan w.words u → ReadsAgreeOf plan W u
knows_words plan w W b u at stay old = record {
  named = old.named;
  classed = λ k c h. let o = old.classed k c h in (o.0, λ n e. (stay b u k n at o.0 e).0 ∙ o.1 n e);
  measured = λ k c h. let o = old.measured k c h in (o.0, λ n e. (stay b u k n at o.0 e).1 ∙ o.1 n e);
}

-- what a move owes
record Owes (plan : Plan) (w : World) (a : ℕ) (p : Body) (m : Row) : Type 0 where
  pub words : HeldWordsStay plan w (write w.words m.place (operate m.operation (read w.words m.place)))
  pub part : ReadsAgreeOf plan (write w.words m.place (operate m.operation (read w.words m.place)))
      (m.part (read w.words m.place))

knows_apply : (plan : Plan) (w : World) (a : ℕ) (p : Body) (m : Row) → AllReadsAgree plan w → Owes plan w a p m
    → AllReadsAgree plan (apply w a m)
unfolding apply
knows_apply plan w a p m old owes b u h =
    let p' : Body = m.part (read w.words m.place) in
    ⊎_elim (λ e. let P : Body → Type 0 = λ v. ReadsAgreeOf plan
    (write w.words m.place (operate m.operation (read w.words m.place))) v in subst P e.1 owes.part)
    (λ e. knows_words plan w (write w.words m.place (operate m.operation (read w.words m.place))) b u e.1 owes.words
    (old b u e.1)) (get_set w.parts a b p' u h)

module _ (plan : Plan) (w : World) (l : PutLists) (a : ℕ) (p : Body) (all : Agreement plan w l)
    (old : AllReadsAgree plan w)
    (at : slice_get w.parts a ≡ Some p) where
  words_stay : HeldWordsStay plan w w.words
  words_stay b u k n h s e = (refl, refl)

  same_words : (W : Words) → W.class_at ≡ w.words.class_at → W.length_at ≡ w.words.length_at → HeldWordsStay plan w W
  same_words W c d b u k n h s e = (ap (λ (f : ℕ → ℕ). f n.page) c, ap (λ (f : ℕ → ℕ → ℕ). f n.page n.slot) d)

  three_knows : (W : Words) (u : Body) → HeldWordsStay plan w W → Three p u → ReadsAgreeOf plan W u
  three_knows W u stay t = rw (t.0, t.1, t.2) (knows_words plan w W a p at stay (old a p at))

  -- a move that changes neither what is known nor the words that it is known of
  owes_quiet : (m : Row) → (let W : Words = write w.words m.place (operate m.operation (read w.words m.place))
      in (W.class_at ≡ w.words.class_at) × (W.length_at ≡ w.words.length_at)) → Three p (m.part (read w.words m.place))
      → Owes plan w a p m
  owes_quiet m e t = let stay = same_words (write w.words m.place (operate m.operation (read w.words m.place))) e.0 e.1
      in record {
        words = stay;
        part = three_knows (write w.words m.place (operate m.operation (read w.words m.place)))
            (m.part (read w.words m.place)) stay t;
      }

  -- a held key's slot has a value
  there : (b : ℕ) (u : Body) (k : ℕ) (n : KeyRef) → slice_get w.parts b ≡ Some u → 0 < times k u.holds
      → plan.keys.unpack k ≡ Some n → (fields_of (w.words.state_at n.page n.slot)).present ≡ true
  there b u k n h s e = (held_stands plan w l all b u k n h s e).0

  -- one more hold
  get_knows : (k : ℕ) (x : KeyRef) → plan.keys.unpack k ≡ Some x → x.page < heap_pages plan → x.slot < 48 → (W : Words)
      → W.class_at ≡ w.words.class_at → W.length_at ≡ w.words.length_at
      → ReadsAgreeOf plan W (record p { holds = k ∷ p.holds })
  get_knows k x name page slot W c d = let o = three_knows W p (same_words W c d) (refl, refl, refl) in record {
    named = λ j h. found j (k == j) refl (let t = times_cons j k p.holds in let z : 0 < times j (k ∷ p.holds) = h in z)
        o;
    classed = λ j v h. let q = o.classed j v h in let t = times_cons j k p.holds in let q0 = q.0 in (omega arith, q.1);
    measured = λ j v h. let q = o.measured j v h in let t = times_cons j k p.holds in let q0 = q.0
        in (omega arith, q.1);
  } where
    found : (j : ℕ) (b : Bool) → (k == j) ≡ b → 0 < times j (k ∷ p.holds) → ReadsAgreeOf plan W p → (n : KeyRef)
        × (plan.keys.unpack j ≡ Some n) × (n.page < heap_pages plan) × (n.slot < 48)
    found j true e h o = let i = eqb-true k j e in (x, ap plan.keys.unpack (sym i) ∙ name, page, slot)
    found j false e h o = let t = times_cons j k p.holds in let z : if1 (k == j) ≡ 0 = rw e refl
        in o.named j (omega arith)

  -- one hold less
  drop_knows : (k : ℕ) → has (λ j. j == k) p.holds ≡ true → (h : Hand) (W : Words) → W.class_at ≡ w.words.class_at
      → W.length_at ≡ w.words.length_at → ReadsAgreeOf plan W (hand (freed p k) h)
  drop_knows k is h W c d = let o = three_knows W p (same_words W c d) (refl, refl, refl) in record {
    named = λ j s. let t = times_without k j p.holds is in o.named j (omega arith);
    classed = λ j v e. let q = known_left p.class_words j v (has (λ j. j == k) fewer) refl e in
        let r = o.classed j v q.0
        in (q.1 r.0, r.1);
    measured = λ j v e. let q = known_left p.lengths j v (has (λ j. j == k) fewer) refl e in let r = o.measured j v q.0
        in (q.1 r.0, r.1);
  } where
    fewer : List ℕ
    fewer = without (λ j. j == k) p.holds

    known_left : (xs : List (ℕ × ℕ)) (j v : ℕ) (b : Bool) → has (λ j. j == k) fewer ≡ b
        → noted j (cond b xs (off (λ x. x.0 == k) xs)) ≡ Some v → (noted j xs ≡ Some v)
        × (0 < times j p.holds → 0 < times j fewer)
    known_left xs j v true e h = (h, λ s. go (k == j) refl s) where
      go : (b : Bool) → (k == j) ≡ b → 0 < times j p.holds → 0 < times j fewer
      go true f s = let i = eqb-true k j f in let m = has_some (λ j. j == k) fewer e in let t : times k fewer
          ≡ times j fewer = ap (λ (z : ℕ). times z fewer) i in omega arith
      go false f s = let t = times_without k j p.holds is in let z : if1 (k == j) ≡ 0 = rw f refl in omega arith
    known_left xs j v false e h = let o = noted_off k j xs v h in
        (o.0, λ s. let t = times_without k j p.holds is in let z : if1 (k == j) ≡ 0 = rw o.1 refl in omega arith)

  -- the class of a held key is noted
  notes_class : (k : ℕ) (x : KeyRef) → plan.keys.unpack k ≡ Some x → has (λ j. j == k) p.holds ≡ true
      → ReadsAgreeOf plan w.words (record p { class_words = (k, w.words.class_at x.page) ∷ p.class_words })
  unfolding noted
  notes_class k x name is = record { named = o.named; classed = λ j c h. go j c (k == j) refl h; measured = o.measured }
    where
      o : ReadsAgreeOf plan w.words p
      o = old a p at

      go : (j c : ℕ) (b : Bool) → (k == j) ≡ b
          → cond b (Some (w.words.class_at x.page)) (noted j p.class_words) ≡ Some c
          → (0 < times j p.holds) × ((n : KeyRef) → plan.keys.unpack j ≡ Some n → w.words.class_at n.page ≡ c)
      go j c true e h =
          let i = eqb-true k j e in
          let t = has_some (λ j. j == k) p.holds is in
          let u : times k p.holds ≡ times j p.holds = ap (λ (z : ℕ). times z p.holds) i in (
            omega arith,
            λ n f. let g : Some x ≡ Some n = sym name ∙ ap plan.keys.unpack i ∙ f in let m : x ≡ n = cc
                in let v : w.words.class_at x.page ≡ c = cc in ap (λ (y : KeyRef). w.words.class_at y.page) (sym m) ∙ v,
          )
      go j c false e h = o.classed j c h

  notes_length : (k : ℕ) (x : KeyRef) → plan.keys.unpack k ≡ Some x → has (λ j. j == k) p.holds ≡ true
      → ReadsAgreeOf plan w.words (record p { lengths = (k, w.words.length_at x.page x.slot) ∷ p.lengths })
  unfolding noted
  notes_length k x name is = record { named = o.named; classed = o.classed; measured = λ j c h. go j c (k == j) refl h }
    where
      o : ReadsAgreeOf plan w.words p
      o = old a p at

      go : (j c : ℕ) (b : Bool) → (k == j) ≡ b → cond b (Some (w.words.length_at x.page x.slot)) (noted j p.lengths)
          ≡ Some c → (0 < times j p.holds)
          × ((n : KeyRef) → plan.keys.unpack j ≡ Some n → w.words.length_at n.page n.slot ≡ c)
      go j c true e h =
          let i = eqb-true k j e in
          let t = has_some (λ j. j == k) p.holds is in
          let u : times k p.holds ≡ times j p.holds = ap (λ (z : ℕ). times z p.holds) i in (
            omega arith,
            λ n f. let g : Some x ≡ Some n = sym name ∙ ap plan.keys.unpack i ∙ f in let m : x ≡ n = cc
                in let v : w.words.length_at x.page x.slot ≡ c = cc
                in ap (λ (y : KeyRef). w.words.length_at y.page y.slot) (sym m) ∙ v,
          )
      go j c false e h = o.measured j c h

  -- a read leaves the words
  owes_read : (m : Row) → operate m.operation (read w.words m.place) ≡ read w.words m.place
      → ReadsAgreeOf plan w.words (m.part (read w.words m.place)) → Owes plan w a p m
  owes_read m e k =
      let s : write w.words m.place (operate m.operation (read w.words m.place))
      ≡ w.words = ap (write w.words m.place) e ∙ write_same w.words m.place in
      let K : Words → Type 0 = λ W. HeldWordsStay plan w W in
      let P : Words → Type 0 = λ W. ReadsAgreeOf plan W (m.part (read w.words m.place)) in
      record { words = subst K (sym s) words_stay; part = subst P (sym s) k }

  owes_fill_slot : (x : SlotRef) (v : List ℕ) → has (same_slot x) p.mine ≡ true → Owes plan w a p (fill_slot p x v)
  owes_fill_slot x v is = record {
    words = stay;
    part = three_knows W
        (hand (record p { mine = without (same_slot x) p.mine }) (Filling x v 0)) stay (refl, refl, refl);
  } where
    W : Words
    W = write w.words (Length x.page x.slot) (length v)

    none : (fields_of (w.words.state_at x.page x.slot)).present ≡ false
    none =
        let f = all.sums.slots x in
        let m = total_at (mine_at x) w.parts a p at in
        let t = has_some (same_slot x) p.mine is in
        let r = room_few w.words x in (if1_neither (fields_of (w.words.state_at x.page x.slot)).present
        (fields_of (w.words.state_at x.page x.slot)).marked (omega arith)).0

    stay : HeldWordsStay plan w W
    stay b u k n h s e = (refl, go (same_slot (slot_ref_of n) x) refl) where
      go : (c : Bool) → same_slot (slot_ref_of n) x ≡ c → put2 w.words.length_at x.page x.slot (length v) n.page n.slot
          ≡ w.words.length_at n.page n.slot
      go false f = put2_other w.words.length_at x.page x.slot (length v) n.page n.slot f
      go true f =
          let i = same_slot-true x (slot_ref_of n) f in
          let t = there b u k n h s e in
          let z : true ≡ false = sym t ∙ ap (λ (y : SlotRef). (fields_of (w.words.state_at y.page y.slot)).present) i
          ∙ none in absurd (cc)

  owes_set_class : (q n c : ℕ) → own plan p q ≡ true → noted q p.classes ≡ Some n → ((n == 0) || all_mine p q n) ≡ true
      → Owes plan w a p (set_class p q c)
  owes_set_class q n c mine is full = record {
    words = stay;
    part = three_knows W
        (record p { classes = (q, c + 1) ∷ p.classes; mine = slot_refs q 0 (slots c) ++ off (λ x. x.page == q) p.mine })
        stay (refl, refl, refl);
  } where
    W : Words
    W = write w.words (Class q) (c + 1)

    stay : HeldWordsStay plan w W
    stay b u k m h s e = (go (m.page == q) refl, refl) where
      go : (d : Bool) → (m.page == q) ≡ d → put w.words.class_at q (c + 1) m.page ≡ w.words.class_at m.page
      go false f = put_other w.words.class_at q m.page (c + 1) f
      go true f =
          let t = there b u k m h s e in
          let r = room_mine w.words p q n ((all.lists.own_notes a p at).notes q n mine is).0 full in
          let z = (empty_page plan w l a p q c all.sums at r (slot_ref_of m) (eqb-true m.page q f)).0 in
          let y = (if1_neither (fields_of (w.words.state_at m.page m.slot)).present
          (fields_of (w.words.state_at m.page m.slot)).marked z).0 in
          let v : true ≡ false = sym t ∙ y in absurd (cc)

  owes : (m : Move) → May plan p m → Owes plan w a p (row_of plan p m)
  owes (EnterGet k x) (idle, named, few) =
      let n : ℕ = w.words.state_at x.page x.slot in
      let W : Words = write w.words (State x.page x.slot) (n + 1) in
      record {
        words = same_words W refl refl;
        part = cond_either (ReadsAgreeOf plan W) (live_at x.generation n && has_room plan.keys.guard_max n)
            (record p { holds = k ∷ p.holds }) (hand p (Leaving (slot_ref_of x)))
            (get_knows k x named.unpacks named.page named.slot W refl refl)
            (three_knows W (hand p (Leaving (slot_ref_of x))) (same_words W refl refl) (refl, refl, refl));
      }
  owes (DropHold k x) (idle, named, is) =
      let n : ℕ = w.words.state_at x.page x.slot in
      let W : Words = write w.words (State x.page x.slot) (n - 1) in
      record { words = same_words W refl refl; part = drop_knows k is (after_drop (slot_ref_of x) n) W refl refl }
  owes (FillSlot x v) (idle, inside, mine, is, classed, fits) = owes_fill_slot x v is
  owes (ReadClass k x) (idle, named, is) = owes_read (read_class p k x) refl (notes_class k x named.unpacks is)
  owes (ReadLength k x) (idle, named, is) = owes_read (read_length p k x) refl (notes_length k x named.unpacks is)
  owes (ReadWord k x c i) may = owes_read (read_word p k x c i) refl (three_knows w.words
      (record p { contents = (k, i, w.words.payload_at x.page (payload_word x.slot c i)) ∷ p.contents }) words_stay
      (refl, refl, refl))
  owes (LookOn k x s) may = owes_read (look_on p k x s) refl (three_knows w.words
      (hand p (Looking k x (sight_with s (read w.words (look_place x s))))) words_stay (refl, refl, refl))
  owes (ReadEnding x g s) may = owes_read (read_ending p x g s) refl (three_knows w.words
      (hand p (Finishing x g (sight_with s (read w.words (look_place (name_at x g) s))))) words_stay (refl, refl, refl))
  owes (ReadPage q) may = owes_read (read_page p q) refl (three_knows w.words
      (record p { classes = (q, w.words.class_at q) ∷ p.classes }) words_stay (refl, refl, refl))
  owes (SetClass q c) (n, idle, inside, mine, is, full, small) = owes_set_class q n c (is_own plan p q mine) is
      (zero_or n (all_mine p q n) full)
  owes m may = let s = keys_stay plan p m (read w.words (row_of plan p m).place) (λ z. z)
      in owes_quiet (row_of plan p m) (refl, refl) (s.0, s.1, s.2)

pub reads_move : (plan : Plan) (w : World) (l : PutLists) (a : ℕ) (p : Body) (m : Move) → Agreement plan w l
    → AllReadsAgree plan w
    → slice_get w.parts a ≡ Some p → May plan p m → AllReadsAgree plan (apply w a (row_of plan p m))
reads_move plan w l a p m all old at may = knows_apply plan w a p (row_of plan p m) old
    (owes plan w l a p all old at m may)
