-- Each action whose condition holds steps on a place of the heap, and no count leaves its range.
use Rattle.std.proofs.Common.{◌≡◌, ℕ, zero, suc, ◌+◌, ◌-◌, ◌*◌, ◌/◌, ◌<◌, ◌≤◌, ◌==◌, true, List, length, drop, refl}
use Rattle.std.proofs.Common.{◌&&◌, ◌||◌, Bool, false}
use Rattle.std.specs.Prelude.{not, nat_lt}
use Rattle.std.proofs.lemmas.Bool.Decides.{nat_tests}
use Rattle.std.proofs.Common.{sym, ap, ◌∙◌, subst, arith, Option, Some, None, slice_get, eqb-true, eq-eqb}
use Rattle.std.proofs.Math.Nat.{div-lt_iff_lt-mul}
use Rattle.sh_word.specs.Fields.{fields_of}
use Rattle.sh_shape.specs.Classes.{width}
use Rattle.sh_shape.proofs.ClassLaws.{slots_few, slot_words_fit_page}
use Rattle.sh_slots.specs.declared.hand.SlotRef.{SlotRef}
use Rattle.sh_slots.specs.declared.hand.KeyRef.{KeyRef}
use Rattle.sh_slots.specs.declared.hand.Hand.{Hand}
use Rattle.sh_slots.specs.declared.hand.Hand.TheVariants.{Removing, Leaving, Finishing, ToPut, Tying, Ringing}
use Rattle.sh_slots.specs.declared.hand.Hand.TheVariants.{RingTying, Filling, Looking}
use Rattle.sh_slots.specs.declared.hand.Sight.{Sight}
use Rattle.sh_slots.specs.declared.hand.Sight.TheVariants.{Bare, Classed, Measured}
use Rattle.sh_slots.specs.Slots.{slot_ref_of, same_slot, name_at}
use Rattle.sh_step.specs.declared.body.Body.{Body}
use Rattle.sh_step.specs.Collections.{if1, has, noted}
use Rattle.sh_core.specs.Words.{read}
use Rattle.sh_core.specs.Worlds.{World}
use Rattle.sh_core.specs.Lists.{PutLists, times, in_hand}
use Rattle.sh_core.specs.Tallies.{visits, held, at_slot}
use Rattle.sh_core.specs.Stacks.{slot_ref, first_is, cursor_at, bell_cursor_at, is_at}
use Rattle.sh_core.specs.Bells.{armed_at}
use Rattle.sh_core.specs.Placed.{Agreement}
use Rattle.sh_core.specs.Reads.{AllReadsAgree}
use Rattle.sh_core.specs.InHeap.{AllInHeap, HasPlace, StepsWithin, CountFits, CountsFit}
use Rattle.sh_core.proofs.Sums.Totals.{total_at, total_without, some_part}
use Rattle.sh_core.proofs.Slots.Slots.{same_slot-refl}
use Rattle.sh_core.proofs.Slots.SlotSums.{room_to_enter}
use Rattle.sh_core.proofs.Clauses.RunRefines.{held_stands}
use Rattle.sh_step.specs.declared.moves.Move.{Move}
use Rattle.sh_step.specs.declared.moves.Move.TheVariants.{EnterGet, EnterRemove, Mark, Drop, DropHold, Finish, FillSlot}
use Rattle.sh_step.specs.declared.moves.Move.TheVariants.{Fill, Publish, ReadClass, ReadLength, ReadWord, ReadPage}
use Rattle.sh_step.specs.declared.moves.Move.TheVariants.{SetClass, Take, Follow, Put, PutSlot, Tie, Adopt, Leave, Arm}
use Rattle.sh_step.specs.declared.moves.Move.TheVariants.{Ring, RingTie, TakeBell, FollowBell, Look, LookOn, LookAgain}
use Rattle.sh_step.specs.declared.moves.Move.TheVariants.{Peek, ReadEnding}
use Rattle.sh_step.specs.Moves.{row_of}
use Rattle.sh_step.specs.Plans.{Plan, Lawful, heap_pages, shard_of}
use Rattle.sh_step.specs.Rows.{class_word_noted, is_read, look_place, payload_word}
use Rattle.sh_step.specs.Conditions.{May}
use Rattle.sh_shape.specs.Places.{slot_places}
use Rattle.sh_core.proofs.Moves.ByMove.{MovesCount, by_move}
use Rattle.sh_core.proofs.Sums.Tests.{if1_self}
use Rattle.sh_core.proofs.Sums.ListCounts.{a_first, times_cons, noted_at}
use Rattle.sh_core.proofs.Sums.ClassSlots.{room_placed}
use Rattle.sh_core.proofs.Kept.StaysInHeap.{hand_within}
use Rattle.sh_core.proofs.Lists.BellTakes.{owned_at, bell_home}
use Rattle.sh_core.specs.Sums.{FillAgrees}

module _ (plan : Plan) (w : World) (l : PutLists) (laws : Lawful plan) (all : Agreement plan w l)
    (know : AllReadsAgree plan w)
    (within : AllInHeap plan w) where
  -- a cursor's slot
  pub pointed : (a : ℕ) (p : Body) (q s : ℕ) → slice_get w.parts a ≡ Some p → noted q p.cursors ≡ Some s → s < 48
  pointed a p q s at is =
      let here = noted_at q s p.cursors is in
      let t = total_at (cursor_at q s) w.parts a p at in
      let c = all.lists.stacks.cursors q s in
      let some : 0 < first_is (l.chain q) s = omega arith in
      let chain = a_first (l.chain q) s some in
      let one : times s (l.chain q) ≡ if1 (s == s) + times s (drop 1 (l.chain q)) = rw chain
      (times_cons s s (drop 1 (l.chain q))) in
      let two = if1_self s in
      let f = all.sums.slots (slot_ref q s) in
      let r = room_placed plan w.words (slot_ref q s) all.bounds (omega arith) in
      let few = slots_few (w.words.class_at q - 1) in
      let r1 = r.1 in omega arith

  -- if a value is being filled in
  filling : (a : ℕ) (p : Body) (x : SlotRef) (v : List ℕ) (i : ℕ) → slice_get w.parts a ≡ Some p
      → p.hand ≡ Filling x v i
      → i < length v → x.slot * width (class_word_noted p x.page - 1) + i < 48
  filling a p x v i at is less =
      let P : Hand → Type 0 = λ h. FillAgrees w.words p h in
      let fine = subst P is (all.sums.parts a p at).1 in
      let fits = fine.fits in
      let t = total_at (in_hand x) w.parts a p at in
      let Q : Hand → Type 0 = λ h. (elim h as (λ _. ℕ) [
        | ToPut y ↦ if1 (same_slot x y)
        | Filling y v n
            ↦ if1 (same_slot x y)
        | _ ↦ 0
      ]) ≡ 1 in
      let here : in_hand x p ≡ 1 = subst Q (sym is) (rw (same_slot-refl x) refl) in
      let f = all.sums.slots x in
      let r = room_placed plan w.words x all.bounds (omega arith) in
      rw fine.class_is (slot_words_fit_page (w.words.class_at x.page - 1) x.slot i r.1 (omega arith))

  -- if a word of a held key is read
  reading : (a : ℕ) (p : Body) (k : ℕ) (x : KeyRef) (c m i : ℕ) → slice_get w.parts a ≡ Some p
      → plan.keys.unpack k ≡ Some x → noted k p.class_words ≡ Some c → noted k p.lengths ≡ Some m → i < m
      → x.slot * width (c - 1) + i < 48
  reading a p k x c m i at name class_is length_is less =
      let class = (know a p at).classed k c class_is in
      let size = ((know a p at).measured k m length_is).1 x name in
      let h = held_stands plan w l all a p k x at class.0 name in
      let st = fields_of (w.words.state_at x.page x.slot) in
      let there : (st.present || st.marked) ≡ true = rw h.0 refl in
      let f = all.sums.slots (slot_ref_of x) in
      let one : if1 (st.present || st.marked) ≡ 1 = rw there refl in
      let r = room_placed plan w.words (slot_ref_of x) all.bounds (omega arith) in
      let short = all.bounds.lengths x.page x.slot there in
      let P : ℕ → Type 0 = λ z. x.slot * width (z - 1) + i < 48 in
      subst P (class.1 x name) (slot_words_fit_page (w.words.class_at x.page - 1) x.slot i r.1 (omega arith))

  -- what a look, or a read before an end, loads next
  look_placed : (x : KeyRef) (s : Sight) → x.page < heap_pages plan → x.slot < slot_places → is_read x s ≡ false
      → HasPlace plan (look_place x s)
  look_placed x Bare page slot more = page
  look_placed x (Classed c) page slot more = (page, slot)
  look_placed x (Measured c m u) page slot more =
      (page, go (nat_lt (length u) m) (nat_lt (length u) 16) (nat_lt i 48) refl more)
    where
      i : ℕ
      i = payload_word x.slot c (length u)

      go : (a b d : Bool) → nat_lt i 48 ≡ d → not (a && b && d) ≡ false → i < 48
      go true true true e h = grind (arith, nat_tests)
      go true true false e h = absurd (let z : true ≡ false = h in cc)
      go true false d e h = absurd (let z : true ≡ false = h in cc)
      go false b d e h = absurd (let z : true ≡ false = h in cc)

  -- a page on a bell, or on its chain, is one of the heap
  pub belled : (n q : ℕ) → 0 < times q (l.bells n) + times q (l.bell_chain n) → q < heap_pages plan
  belled n q some =
      let at_home = bell_home plan w.words w.parts l n q (all.lists.bells.ties n q) some in
      let s : times q (l.bells (shard_of plan q)) + times q (l.bell_chain (shard_of plan q))
      ≡ times q (l.bells n) + times q (l.bell_chain n) = ap
      (λ (k : ℕ). times q (l.bells k) + times q (l.bell_chain k)) at_home in
      let d = (all.lists.duty q).0 in
      let u = some_part (armed_at q) w.parts (omega arith) in (within u.0 u.1 u.2).armed q u.3

  -- the page at a bell's cursor
  pub bell_pointed : (a : ℕ) (p : Body) (q : ℕ) → slice_get w.parts a ≡ Some p → p.bell_cursor ≡ Some q
      → q < heap_pages plan
  bell_pointed a p q at is = go p.owned refl where
    go : (o : Option ℕ) → p.owned ≡ o → q < heap_pages plan
    go (Some n) mine =
        let u : bell_cursor_at n q p ≡ 1 = owned_at n n p.owned (is_at p.bell_cursor q) mine
        ∙ rw (eq-eqb n n refl, is, eq-eqb q q refl) refl in
        let t = total_at (bell_cursor_at n q) w.parts a p at in
        let c = all.lists.bells.cursors n q in
        let some : 0 < first_is (l.bell_chain n) q = omega arith in
        let chain = a_first (l.bell_chain n) q some in
        let one : times q (l.bell_chain n) ≡ if1 (q == q) + times q (drop 1 (l.bell_chain n)) = rw chain
        (times_cons q q (drop 1 (l.bell_chain n))) in
        let two = if1_self q in belled n q (omega arith)
    go None mine = absurd (let z : None ≡ Some q = sym ((all.lists.own_notes a p at).bell mine) ∙ is in cc)

  home_lt : (q : ℕ) → q < heap_pages plan → shard_of plan q < plan.shards
  unfolding shard_of
  home_lt q small = go plan.pages refl where
    go : (n : ℕ) → plan.pages ≡ n → q / plan.pages < plan.shards
    go zero e = absurd (let z : plan.shards * plan.pages ≡ 0 = rw e (omega arith) in omega arith)
    go (suc n) e = (div-lt_iff_lt-mul {k = plan.pages} {x = q} {y = plan.shards} (omega arith)).1 small

  place_of : (a : ℕ) (p : Body) (m : Move) → slice_get w.parts a ≡ Some p → May plan p m
      → HasPlace plan (row_of plan p m).place
  place_of a p (EnterGet k x) at (idle, named, few) = (named.page, named.slot)
  place_of a p (EnterRemove k x) at (idle, named) = (named.page, named.slot)
  place_of a p (Mark k x) at (is, named) = (named.page, named.slot)
  place_of a p (Drop x) at is = hand_within plan p (Leaving x) (within a p at) is
  place_of a p (DropHold k x) at (idle, named, is) = (named.page, named.slot)
  place_of a p (ReadEnding x g s) at (is, more) =
      let inside = (hand_within plan p (Finishing x g s) (within a p at) is).0
      in look_placed (name_at x g) s inside.0 inside.1 more
  place_of a p (Finish x g) at (s, is) = (hand_within plan p (Finishing x g s) (within a p at) is).0
  place_of a p (FillSlot x v) at may = may.1
  place_of a p (Fill x v i c) at (is, less, noted_is) = (
    (hand_within plan p (Filling x v i) (within a p at) is).0,
    subst
        (λ d. x.slot * width (d - 1) + i < 48) noted_is (filling a p x v i at is less),
  )
  place_of a p (Publish x v) at (i, is, end) = hand_within plan p (Filling x v i) (within a p at) is
  place_of a p (ReadClass k x) at (idle, named, is) = named.page
  place_of a p (ReadLength k x) at (idle, named, is) = (named.page, named.slot)
  place_of a p (ReadWord k x c i) at (n, idle, named, width_is, length_is, is, less) =
      (named.page, reading a p k x c n i at named.unpacks width_is length_is less)
  place_of a p (Peek x) at (idle, inside) = inside
  place_of a p (Look k x) at (idle, named) = (named.page, named.slot)
  place_of a p (LookOn k x s) at (is, more) =
      let named = hand_within plan p (Looking k x s) (within a p at) is in look_placed x s named.page named.slot more
  place_of a p (LookAgain k x s) at (is, ends) =
      let named = hand_within plan p (Looking k x s) (within a p at) is in (named.page, named.slot)
  place_of a p (ReadPage q) at (idle, inside, mine) = inside
  place_of a p (SetClass q c) at may = may.2
  place_of a p (Take q) at may = may.1
  place_of a p (Follow q s) at (idle, inside, mine, is) = (inside, pointed a p q s at is)
  place_of a p (Put x) at is = (hand_within plan p (ToPut x) (within a p at) is).0
  place_of a p (PutSlot x) at (idle, inside, mine, is) = inside.0
  place_of a p (Tie x l r) at is = hand_within plan p (Tying x l r) (within a p at) is
  place_of a p (Adopt n) at (idle, free, small) = small
  place_of a p (Leave n) at may = (within a p at).owned n may.1
  place_of a p (Arm q) at may = may.1
  place_of a p (Ring q) at is = home_lt q (hand_within plan p (Ringing q) (within a p at) is)
  place_of a p (RingTie q l) at is = hand_within plan p (RingTying q l) (within a p at) is
  place_of a p (TakeBell n) at (idle, mine, none) = (within a p at).owned n mine
  place_of a p (FollowBell q) at (idle, is) = bell_pointed a p q at is

  pub steps_within : StepsWithin plan w
  steps_within a p x r at e = by_move plan p x r (λ u. HasPlace plan u.place) e (λ m may. place_of a p m at may)

  -- the count under a visit, and under a hold
  visited : (a : ℕ) (p : Body) (x : SlotRef) → slice_get w.parts a ≡ Some p → p.hand ≡ Leaving x
      → 1 ≤ (fields_of (w.words.state_at x.page x.slot)).count
  visited a p x at is =
      let Q : Hand → Type 0 = λ h. (elim h as (λ _. ℕ) [
        | Removing k ↦ if1 (at_slot x (plan.keys.unpack k))
        | Leaving y
            ↦ if1 (same_slot x y)
        | _ ↦ 0
      ]) ≡ 1 in
      let here : visits plan x p ≡ 1 = subst Q (sym is) (rw (same_slot-refl x) refl) in
      let t = total_at (visits plan x) w.parts a p at in
      let f = all.sums.slots x in omega arith

  held_count : (a : ℕ) (p : Body) (k : ℕ) (y : KeyRef) → slice_get w.parts a ≡ Some p → plan.keys.unpack k ≡ Some y
      → has (λ j. j == k) p.holds ≡ true → 1 ≤ (fields_of (w.words.state_at y.page y.slot)).count
  held_count a p k y at name is =
      let x : SlotRef = slot_ref_of y in
      let here : if1 (at_slot x (plan.keys.unpack k)) ≡ 1 = rw (name, same_slot-refl x) refl in
      let less = total_without (λ j. if1 (at_slot x (plan.keys.unpack j))) (λ j. j == k) 1
      (λ j t. let i : j ≡ k = eqb-true j k t in rw i here) p.holds is in
      let t = total_at (held plan x) w.parts a p at in
      let f = all.sums.slots x in omega arith

  pub moves_count : (a : ℕ) (p : Body) → slice_get w.parts a ≡ Some p → MovesCount plan w p
  moves_count a p at (EnterGet k x) may = room_to_enter plan w l (slot_ref_of x) laws all.sums
  moves_count a p at (EnterRemove k x) may = room_to_enter plan w l (slot_ref_of x) laws all.sums
  moves_count a p at (Drop x) is = visited a p x at is
  moves_count a p at (DropHold k x) (idle, named, is) = held_count a p k x at named.unpacks is
  moves_count a p at m may = tt

  pub counts_fit : CountsFit plan w
  counts_fit a p x r at e = by_move plan p x r (λ u. CountFits u.operation (read w.words u.place)) e
      (moves_count a p at)
