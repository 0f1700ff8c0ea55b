-- What a look has read stays true, unless its key is removed.
use Rattle.std.proofs.Common.{◌≡◌, ℕ, zero, suc, ◌+◌, ◌-◌, ◌*◌, ◌<◌, ◌≤◌, ◌==◌, ◌&&◌, ◌||◌, ◌⊎◌, inl, inr, ⊎_elim, Bool}
use Rattle.std.proofs.Common.{true, false, cond, List, [], ◌∷◌, ◌++◌, length, get_or, take, refl, sym, ap, ◌∙◌}
use Rattle.std.proofs.Common.{subst, arith}
use Rattle.std.proofs.Common.{Option, Some, None, slice_get, eqb-true, length-append, eq-or-lt_of_le}
use Rattle.std.specs.Prelude.{nat_lt, not}
use Rattle.std.proofs.lemmas.Bool.{cases_lt, or_parts}
use Rattle.std.proofs.lemmas.Bool.Decides.{nat_tests}
use Rattle.std.proofs.lemmas.List.{take_more, take_all}
use Rattle.sh_history.specs.declared.entry.Entry.{Entry}
use Rattle.sh_history.specs.History.{value_of, is_removed, is_removal_of}
use Rattle.sh_history.proofs.LogLaws.{value_of-append_some}
use Rattle.sh_shape.specs.Classes.{width}
use Rattle.sh_shape.specs.declared.places.Place.{Place}
use Rattle.sh_shape.specs.declared.places.Place.TheVariants.{Class}
use Rattle.sh_shape.proofs.ClassLaws.{widths_few, slot_words_fit_page}
use Rattle.sh_slots.specs.declared.hand.Hand.{Hand}
use Rattle.sh_slots.specs.declared.hand.Hand.TheVariants.{Idle, Removing, Leaving, Finishing, ToPut, Ringing, Looking}
use Rattle.sh_slots.specs.declared.hand.KeyRef.{KeyRef}
use Rattle.sh_slots.specs.declared.hand.SlotRef.{SlotRef}
use Rattle.sh_slots.specs.declared.hand.Sight.{Sight}
use Rattle.sh_slots.specs.declared.hand.Sight.TheVariants.{Bare, Classed, Measured}
use Rattle.sh_slots.specs.Slots.{slot_ref_of, live_at, has_room, sight_with, value_seen, is_reusable_after, name_at}
use Rattle.sh_step.specs.declared.body.Body.{Body}
use Rattle.sh_step.specs.declared.moves.Move.{Move}
use Rattle.sh_step.specs.declared.moves.Move.TheVariants.{EnterGet, EnterRemove, Mark, Drop, DropHold, Finish, FillSlot}
use Rattle.sh_step.specs.declared.moves.Move.TheVariants.{Fill, Publish, ReadClass, ReadPage, SetClass, Follow, Put}
use Rattle.sh_step.specs.declared.moves.Move.TheVariants.{PutSlot, Tie, Adopt, Ring, RingTie, FollowBell, Look, LookOn}
use Rattle.sh_step.specs.declared.moves.Move.TheVariants.{LookAgain, ReadEnding}
use Rattle.sh_step.specs.Collections.{if1, noted}
use Rattle.sh_step.specs.Conditions.{May, Named}
use Rattle.sh_word.specs.Fields.{Fields, fields_of}
use Rattle.sh_step.specs.Moves.{row_of}
use Rattle.sh_step.specs.Operations.{operate}
use Rattle.sh_step.specs.Plans.{Plan}
use Rattle.sh_step.specs.Rows.{Row, hand, own, all_mine, is_read, look_place, payload_word}
use Rattle.sh_step.proofs.PartTests.{is_own, zero_or}
use Rattle.sh_step.proofs.Truths.{lt_true}
use Rattle.sh_core.specs.Words.{Words, read, write, put}
use Rattle.sh_core.specs.Worlds.{World, apply, open_world, value_at, words_from, joined, entry_of, value_at_place}
use Rattle.sh_core.specs.Lists.{PutLists}
use Rattle.sh_core.specs.Placed.{Agreement}
use Rattle.sh_core.specs.Looks.{Sees, LookIsTrue, HandSees, LooksAreTrue}
use Rattle.sh_core.specs.Stories.{values, removals, Story}
use Rattle.sh_core.proofs.Clauses.OpenSums.{part_new}
use Rattle.sh_core.proofs.Kept.WordNotes.{length-words, get-words}
use Rattle.sh_core.proofs.MapEntries.{removed_snoc}
use Rattle.sh_core.proofs.Slots.ClassSums.{room_mine, empty_page}
use Rattle.sh_core.proofs.Slots.Logs.{got_permitted}
use Rattle.sh_core.proofs.Slots.Permits.{value_first, value_one, removed_by}
use Rattle.sh_core.proofs.Sums.ClassSlots.{class_room}
use Rattle.sh_core.proofs.Sums.Tests.{if1_neither, cond_either}
use Rattle.sh_core.proofs.Sums.Totals.{get_set}
use Rattle.sh_core.proofs.Sums.Writes.{put_other, write_same}

-- ---- as the log grows

pub stays_issued : (log : List Entry) (o : Option Entry) (k : ℕ) (v : List ℕ) → value_of log k ≡ Some v
    → value_of (joined log o) k ≡ Some v
stays_issued log None k v is = is
stays_issued log (Some e) k v is = value_of-append_some log (e ∷ []) k v is

not_before : (log : List Entry) (o : Option Entry) (k : ℕ) → is_removed (joined log o) k ≡ false
    → is_removed log k ≡ false
not_before log None k h = h
not_before log (Some e) k h = (or_parts (is_removed log k) (is_removal_of k e) (sym (removed_snoc log e k) ∙ h)).0

-- ---- a key that was issued and not removed has its value in its slot

none_removed : (k : ℕ) (es : List Entry) → is_removed es k ≡ false → removals k es ≡ 0
none_removed k es h = go (removals k es) refl where
  go : (n : ℕ) → removals k es ≡ n → removals k es ≡ 0
  go zero e = e
  go (suc n) e = let t = (removed_by k es).1 (omega arith) in absurd (let z : true ≡ false = sym t ∙ h in cc)

abbrev IsThere : Fields → (now v : List ℕ) → Type 0
IsThere st now v = (st.present ≡ true) × (st.marked ≡ false) × (now ≡ v)

there_of : (st : Fields) (g : ℕ) (vs : List (List ℕ)) (gone : ℕ) (now v : List ℕ) → Story st g vs gone now
    → slice_get vs 0 ≡ Some v → gone ≡ 0 → IsThere st now v
there_of st g vs gone now v s is none = go (cases_lt g st.generation) where
  of_now : (p m : Bool) → st.present ≡ p → st.marked ≡ m → g ≡ st.generation → IsThere st now v
  of_now p true a b e = let k = s.mark e in let one : if1 st.marked ≡ 1 = rw b refl in absurd (omega arith)
  of_now true false a b e =
      let vs_are : vs ≡ now ∷ [] = s.value e (rw a refl) in
      let same : Some now ≡ Some v = ap (λ (us : List (List ℕ)). slice_get us 0) (sym vs_are) ∙ is in
      let z : now ≡ v = cc in (a, b, z)
  of_now false false a b e =
      let vs_are : vs ≡ [] = s.fresh e (rw (a, b) refl) in
      let same : None ≡ Some v = ap (λ (us : List (List ℕ)). slice_get us 0) (sym vs_are) ∙ is in absurd (cc)

  later_none : st.generation < g → IsThere st now v
  later_none c =
      let same : None ≡ Some v = ap (λ (us : List (List ℕ)). slice_get us 0) (sym (s.later c).0) ∙ is in absurd (cc)

  go : (g < st.generation) ⊎ (st.generation ≤ g) → IsThere st now v
  go (inl c) = let k = (s.before c).1 in absurd (omega arith)
  go (inr c) = ⊎_elim (λ d. of_now st.present st.marked refl refl (sym d)) later_none (eq-or-lt_of_le c)

-- ---- step by step

-- the class words of pages with a key that was issued and not removed stay
abbrev ClassesStay : Plan → World → (ℕ → ℕ) → Type 0
ClassesStay plan w class = (k : ℕ) (x : KeyRef) (v : List ℕ) → plan.keys.unpack k ≡ Some x → value_of w.log k ≡ Some v
    → is_removed w.log k ≡ false → class x.page ≡ w.words.class_at x.page

hand_still : (plan : Plan) (w : World) (class : ℕ → ℕ) (o : Option Entry) → ClassesStay plan w class → (h : Hand)
    → HandSees plan w.words.class_at w.log h → HandSees plan class (joined w.log o) h
hand_still plan w class o stay (Looking k x s) t = record {
  named = t.named;
  value = t.value;
  issued = stays_issued w.log o k t.value t.issued;
  sees = λ h.
      let r = not_before w.log o k h in
      subst (λ c. Sees c t.value s) (sym (stay k x t.value t.named.unpacks t.issued r)) (t.sees r);
}
hand_still plan w class o stay _ t = tt

module _ (plan : Plan) (w : World) (l : PutLists) (a : ℕ) (p : Body) (all : Agreement plan w l)
    (at : slice_get w.parts a ≡ Some p) where
  live_of : (k : ℕ) (x : KeyRef) (v : List ℕ) → plan.keys.unpack k ≡ Some x → value_of w.log k ≡ Some v
      → is_removed w.log k ≡ false
      → IsThere (fields_of (w.words.state_at x.page x.slot)) (value_at w.words x.page x.slot) v
  live_of k x v name is not =
      there_of (fields_of (w.words.state_at x.page x.slot)) x.generation (values k w.log) (removals k w.log)
      (value_at w.words x.page x.slot) v (all.sums.keys k x name) (sym (value_first k w.log) ∙ is)
      (none_removed k w.log not)

  -- the class word of the page of a slot that is present stays
  abbrev ClassStays : (ℕ → ℕ) → SlotRef → Type 0
  ClassStays class x = (fields_of (w.words.state_at x.page x.slot)).present ≡ true → class x.page
      ≡ w.words.class_at x.page

  same_class : (class : ℕ → ℕ) (x : SlotRef) → class ≡ w.words.class_at → ClassStays class x
  same_class class x e there = ap (λ (f : ℕ → ℕ). f x.page) e

  -- a page whose slots are all its owner's has no such slot
  set_class_stays : (q n c : ℕ) (x : SlotRef) → own plan p q ≡ true → noted q p.classes ≡ Some n
      → ((n == 0) || all_mine p q n) ≡ true → ClassStays (put w.words.class_at q (c + 1)) x
  set_class_stays q n c x mine is full there = go (x.page == q) refl where
    go : (d : Bool) → (x.page == q) ≡ d → put w.words.class_at q (c + 1) x.page ≡ w.words.class_at x.page
    go false f = put_other w.words.class_at q x.page (c + 1) f
    go true f =
        let r = room_mine w.words p q n ((all.lists.own_notes a p at).notes q n mine is).0 full in
        let z = (empty_page plan w l a p q c all.sums at r x (eqb-true x.page q f)).0 in
        let y = (if1_neither (fields_of (w.words.state_at x.page x.slot)).present
        (fields_of (w.words.state_at x.page x.slot)).marked z).0 in
        let u : true ≡ false = sym there ∙ y in absurd (cc)

  abbrev class_after : Row → ℕ → ℕ
  class_after r = (write w.words r.place (operate r.operation (read w.words r.place))).class_at

  -- a load leaves each class word
  loaded_class : (q : Place) (x : SlotRef) → ClassStays (write w.words q (read w.words q)).class_at x
  loaded_class q x = same_class _ x (ap (λ (W : Words). W.class_at) (write_same w.words q))

  pub class_stays : (m : Move) → May plan p m → (x : SlotRef) → ClassStays (class_after (row_of plan p m)) x
  class_stays (SetClass q c) (n, idle, inside, mine, is, full, small) x = set_class_stays q n c x
      (is_own plan p q mine) is (zero_or n (all_mine p q n) full)
  class_stays (ReadClass k y) may x = loaded_class (Class y.page) x
  class_stays (ReadPage q) may x = loaded_class (Class q) x
  class_stays (LookOn k y s) may x = loaded_class (look_place y s) x
  class_stays (ReadEnding y g s) may x = loaded_class (look_place (name_at y g) s) x
  class_stays m may x = same_class _ x refl

  keeps_class : (m : Move) → May plan p m → ClassesStay plan w (class_after (row_of plan p m))
  keeps_class m may k x v name issued not = class_stays m may (slot_ref_of x) (live_of k x v name issued not).0

  -- ---- what a look reads

  abbrev S : Hand → Type 0
  S h = HandSees plan w.words.class_at w.log h

  abbrev B : Body → Type 0
  B u = S u.hand

  begun : (k : ℕ) (x : KeyRef) → Named plan k x
      → S (cond (live_at x.generation (w.words.state_at x.page x.slot)) (Looking k x Bare) Idle)
  begun k x named = go (live_at x.generation (w.words.state_at x.page x.slot)) refl where
    go : (b : Bool) → live_at x.generation (w.words.state_at x.page x.slot) ≡ b → S (cond b (Looking k x Bare) Idle)
    go false e = tt
    go true e =
        let now : List ℕ = value_at w.words x.page x.slot in
        let may = got_permitted plan w.log a k x (w.words.state_at x.page x.slot) now
        (all.sums.keys k x named.unpacks) e in record {
          named = named;
          value = now;
          issued = value_one k w.log now may.0;
          sees = λ _. tt;
        }

  -- one more word of the value
  one_word_more : (v u : List ℕ) (n : ℕ) → length u < length v → u ≡ take (length u) v → n ≡ get_or v (length u) 0
      → u ++ n ∷ [] ≡ take (length (u ++ n ∷ [])) v
  one_word_more v u n less so_far is =
      let long : length (u ++ n ∷ []) ≡ length u + 1 = length-append u (n ∷ []) in
      ap (λ us. us ++ n ∷ []) so_far ∙ (ap (λ m. take (length u) v ++ m ∷ []) is
      ∙ (sym (take_more v (length u) 0 less) ∙ ap (λ m. take m v) (sym long)))

  -- the next word that is read of a value in its slot is of the value
  pub sees_more : (x : KeyRef) (v : List ℕ) (s : Sight) → value_at w.words x.page x.slot ≡ v → is_read x s ≡ false
      → Sees (w.words.class_at x.page) v s
      → Sees (w.words.class_at x.page) v (sight_with s (read w.words (look_place x s)))
  unfolding value_at
  sees_more x v Bare here more o = refl
  sees_more x v (Classed c) here more o =
      let f : ℕ → ℕ = w.words.payload_at x.page in
      let first : ℕ = x.slot * width (w.words.class_at x.page - 1) in
      (o, sym (length-words f first (w.words.length_at x.page x.slot)) ∙ ap length here, refl)
  sees_more x v (Measured c m u) here more o = go (nat_lt (length u) m) (nat_lt (length u) 16) refl refl more where
    n : ℕ
    n = w.words.payload_at x.page (payload_word x.slot c (length u))

    go : (b d : Bool) → nat_lt (length u) m ≡ b → nat_lt (length u) 16 ≡ d
        → not (b && d && nat_lt (payload_word x.slot c (length u)) 48) ≡ false
        → Sees (w.words.class_at x.page) v (Measured c m (cond d (u ++ n ∷ []) u))
    go false d e f h = absurd (let z : true ≡ false = h in cc)
    go true false e f h = absurd (let z : true ≡ false = h in cc)
    go true true e f h =
        let g : ℕ → ℕ = w.words.payload_at x.page in
        let first : ℕ = x.slot * width (w.words.class_at x.page - 1) in
        let count : ℕ = w.words.length_at x.page x.slot in
        let many : count ≡ length v = sym (length-words g first count) ∙ ap length here in
        let below : length u < m = grind (arith, nat_tests) in
        let same = o.1 in
        let word : get_or (words_from g first count) (length u) 0 ≡ g (first + length u) = get-words g first count
        (length u) (omega arith) in
        let found : n ≡ g (first + length u) = ap (λ d. g (x.slot * width (d - 1) + length u)) o.0 in (
          o.0,
          same,
          one_word_more v u n (omega arith) o.2
              (found ∙ (sym word ∙ ap (λ us. get_or us (length u) 0) here)),
        )

  -- once all is read of a value that is in its slot, it is the value
  pub sees_all : (x : KeyRef) (v : List ℕ) (s : Sight)
      → ((fields_of (w.words.state_at x.page x.slot)).present || (fields_of (w.words.state_at x.page x.slot)).marked)
      ≡ true → value_at w.words x.page x.slot ≡ v → is_read x s ≡ true → Sees (w.words.class_at x.page) v s
      → value_seen s ≡ v
  unfolding value_at
  sees_all x v Bare there here ends o = absurd (let z : false ≡ true = ends in cc)
  sees_all x v (Classed c) there here ends o = absurd (let z : false ≡ true = ends in cc)
  sees_all x v (Measured c m u) there here ends o =
      ⊎_elim (λ less. absurd (more_left less)) (λ ge. o.2 ∙ take_all (length u) v ge) (cases_lt (length u) (length v))
    where
      more_left : length u < length v → ⊥
      more_left less =
          let q : ℕ = x.page in
          let class : ℕ = w.words.class_at q in
          let first : ℕ = x.slot * width (class - 1) in
          let count : ℕ = w.words.length_at q x.slot in
          let many : length v ≡ count = ap length (sym here) ∙ length-words (w.words.payload_at q) first count in
          let bound = all.bounds.lengths q x.slot there in
          let few = widths_few (class - 1) in
          let one : if1 ((fields_of (w.words.state_at q x.slot)).present ||
          (fields_of (w.words.state_at q x.slot)).marked) ≡ 1 = rw there refl in
          let f = all.sums.slots (slot_ref_of x) in
          let c_room = class_room w.words (slot_ref_of x) (omega arith) in
          let fit : x.slot * width (class - 1) + length u < 48 = slot_words_fit_page (class - 1) x.slot (length u)
          c_room.1 (omega arith) in
          let same : c ≡ class = o.0 in
          let fit_c : payload_word x.slot c (length u) < 48 =
          subst (λ d. x.slot * width (d - 1) + length u < 48) (sym same) fit in
          let size = o.1 in
          let a1 : nat_lt (length u) m ≡ true = lt_true (length u) m (omega arith) in
          let a2 : nat_lt (length u) 16 ≡ true = lt_true (length u) 16 (omega arith) in
          let a3 : nat_lt (payload_word x.slot c (length u)) 48 ≡ true = lt_true (payload_word x.slot c (length u)) 48
          fit_c in
          let z : false ≡ true = rw (a1, a2, a3) at ends in cc

  reads_on : (k : ℕ) (x : KeyRef) (s : Sight) → LookIsTrue plan w.words.class_at w.log k x s → is_read x s ≡ false
      → LookIsTrue plan w.words.class_at w.log k x (sight_with s (read w.words (look_place x s)))
  reads_on k x s t more = record {
    named = t.named;
    value = t.value;
    issued = t.issued;
    sees = λ not.
        let r = live_of k x t.value t.named.unpacks t.issued not in sees_more x t.value s r.2 more (t.sees not);
  }

  pub all_seen : (k : ℕ) (x : KeyRef) (s : Sight) → LookIsTrue plan w.words.class_at w.log k x s → is_read x s ≡ true
      → is_removed w.log k ≡ false → value_of w.log k ≡ Some (value_seen s)
  all_seen k x s t ends not =
      let r = live_of k x t.value t.named.unpacks t.issued not in
      let whole = sees_all x t.value s (rw r.0 refl) r.2 ends (t.sees not) in
      t.issued ∙ ap (λ (v : List ℕ). Some v) (sym whole)

  -- ---- the hand after a move

  after : (m : Move) → May plan p m → S p.hand → B ((row_of plan p m).part (read w.words (row_of plan p m).place))
  after (EnterGet k x) may old = cond_either B (live_at x.generation (w.words.state_at x.page x.slot) && has_room
      plan.keys.guard_max (w.words.state_at x.page x.slot)) _ _ old tt
  after (EnterRemove k x) may old = cond_either S (live_at x.generation (w.words.state_at x.page x.slot)) (Removing k)
      (Leaving (slot_ref_of x)) tt tt
  after (Mark k x) may old = tt
  after (Drop x) may old = cond_either S _ (Finishing x (fields_of (w.words.state_at x.page x.slot)).generation Bare) Idle tt
      tt
  after (DropHold k x) may old = cond_either S _
      (Finishing (slot_ref_of x) (fields_of (w.words.state_at x.page x.slot)).generation Bare) Idle tt tt
  after (Finish x g) may old =
      cond_either B (is_reusable_after g plan.keys.gen_max (w.words.state_at x.page x.slot))
      (cond (own plan p x.page) (hand (record p { mine = x ∷ p.mine }) Idle) (hand p (ToPut x))) (hand p Idle)
      (cond_either B (own plan p x.page) (hand (record p { mine = x ∷ p.mine }) Idle) (hand p (ToPut x)) tt tt) tt
  after (ReadEnding x g s) may old = tt
  after (FillSlot x v) may old = tt
  after (Fill x v i c) may old = tt
  after (Publish x v) may old = tt
  after (Follow q s) may old = cond_either B (w.words.link_at q s == 0) p _ old old
  after (Put x) may old = tt
  after (PutSlot x) may old = tt
  after (Tie x n r) may old = cond_either S r (Ringing x.page) Idle tt tt
  after (Adopt n) may old = cond_either B (w.words.owner_at n == 0) _ p old old
  after (Ring q) may old = tt
  after (RingTie q n) may old = tt
  after (FollowBell q) may old = cond_either B (w.words.page_link_at q == 0) p _ old old
  after (Look k x) (idle, named) old = begun k x named
  after (LookOn k x s) (is, more) old = reads_on k x s (subst S is old) more
  after (LookAgain k x s) may old = tt
  after m may old = old

pub looks_move : (plan : Plan) (w : World) (l : PutLists) (a : ℕ) (p : Body) (m : Move) → Agreement plan w l
    → LooksAreTrue plan w
    → slice_get w.parts a ≡ Some p → May plan p m → LooksAreTrue plan (apply w a (row_of plan p m))
unfolding apply
looks_move plan w l a p m all old at may b u i =
    let r : Row = row_of plan p m in
    let n : ℕ = read w.words r.place in
    let o : Option Entry = entry_of a (value_at_place w.words r.place) (r.reply n) in
    let class : ℕ → ℕ = (write w.words r.place (operate r.operation n)).class_at in
    let stay = keeps_class plan w l a p all at m may in
    ⊎_elim (λ d. subst (λ (v : Body). HandSees plan class (joined w.log o) v.hand) d.1
    (hand_still plan w class o stay (r.part n).hand (after plan w l a p all at m may (old a p at))))
    (λ d. hand_still plan w class o stay u.hand (old b u d.1)) (get_set w.parts a b (r.part n) u i)

pub looks_open : (plan : Plan) → LooksAreTrue plan (open_world plan)
looks_open plan a p at =
    let e = part_new plan.passes a p at in
    subst (λ (u : Body). HandSees plan (open_world plan).words.class_at [] u.hand) e tt
