-- A move that the table gives an action may be done, and is the action's.
use Rattle.std.proofs.Common.{◌≡◌, ℕ, ◌-◌, ◌==◌, ◌&&◌, ◌||◌, Bool, true, false, length, refl, sym, ap, subst, Option}
use Rattle.std.proofs.Common.{Some, None}
use Rattle.std.specs.Prelude.{not, nat_lt, nat_le, option_map}
use Rattle.std.specs.Bool.{then_some}
use Rattle.sh_shape.specs.Classes.{width}
use Rattle.sh_slots.specs.declared.hand.SlotRef.{SlotRef}
use Rattle.sh_slots.specs.declared.hand.KeyRef.{KeyRef}
use Rattle.sh_slots.specs.declared.hand.Hand.{Hand}
use Rattle.sh_slots.specs.declared.hand.Hand.TheVariants.{Idle, Removing, Leaving, Finishing, ToPut, Tying, Ringing}
use Rattle.sh_slots.specs.declared.hand.Hand.TheVariants.{RingTying, Filling, Looking}
use Rattle.sh_slots.specs.Slots.{same_slot, name_at}
use Rattle.sh_step.specs.declared.body.Body.{Body}
use Rattle.sh_step.specs.declared.action.PageName.{PageName}
use Rattle.sh_step.specs.declared.action.SlotName.{SlotName}
use Rattle.sh_step.specs.declared.action.Action.{Action}
use Rattle.sh_step.specs.declared.action.Action.TheVariants as action
use Rattle.sh_step.specs.declared.moves.Move.{Move}
use Rattle.sh_step.specs.declared.moves.Move.TheVariants as move
use Rattle.sh_step.specs.Collections.{has, noted}
use Rattle.sh_step.specs.Conditions.{Named, HasPage, May, action_of, its_page, GivesWhatMayBe}
use Rattle.sh_step.specs.Moves.{move_of, row_of, row, named}
use Rattle.sh_step.specs.Plans.{Plan, page_of, slot_of}
use Rattle.sh_step.specs.Rows.{Row, idle, own, class_word_noted, no_cursor, all_mine, is_read}
use Rattle.sh_step.proofs.ListLaws.{none_left}
use Rattle.sh_step.proofs.LookupLaws.{named_of, paged_of, slotted_of}
use Rattle.sh_step.proofs.PageLaws.{page_within, name_of_page, name_of_slot}
use Rattle.sh_step.proofs.PartTests.{idle_is, owns_is, none_of, no_cursor_is, zero_or_of}
use Rattle.sh_step.proofs.Truths.{and2, and3, and4, and5, lt_of, le_of, not_of, no_some, by_then, by_some}

module _ (plan : Plan) (p : Body) where
  -- the move may be done, and is the action's
  abbrev pub MayBe : Action → Move → Type 0
  MayBe x m = May plan p m × (action_of plan m ≡ x)

  -- the same, through an equal move
  as_this : (x : Action) (n m : Move) → n ≡ m → MayBe x n → MayBe x m
  as_this x n m e h = subst (MayBe x) e h

  mark_may : (h : Hand) (m : Move) → p.hand ≡ h → (elim h as (λ _. Option Move)
      [ Removing k ↦ named plan k (λ x. Some (move.Mark k x)) | _ ↦ None ]) ≡ Some m → MayBe action.Mark m
  mark_may (Removing k) m is e = let n = named_of plan k (λ x. Some (move.Mark k x)) m e
      in as_this action.Mark (move.Mark k n.0) m (by_some (move.Mark k n.0) m n.2) ((is, n.1), refl)
  mark_may _ m is e = no_some m e

  drop_may : (h : Hand) (m : Move) → p.hand ≡ h → (elim h as (λ _. Option Move)
      [ Leaving x ↦ Some (move.Drop x) | _ ↦ None ]) ≡ Some m → MayBe action.Drop m
  drop_may (Leaving x) m is e = as_this action.Drop (move.Drop x) m (by_some (move.Drop x) m e) (is, refl)
  drop_may _ m is e = no_some m e

  read_ending_may : (h : Hand) (m : Move) → p.hand ≡ h → (elim h as (λ _. Option Move)
      [ Finishing x g s ↦ then_some (not (is_read (name_at x g) s)) (move.ReadEnding x g s) | _ ↦ None ]) ≡ Some m
      → MayBe action.ReadEnding m
  read_ending_may (Finishing x g s) m is e =
      let t = by_then (not (is_read (name_at x g) s)) (move.ReadEnding x g s) m e
      in as_this action.ReadEnding (move.ReadEnding x g s) m t.1 ((is, not_of (is_read (name_at x g) s) t.0), refl)
  read_ending_may _ m is e = no_some m e

  finish_may : (h : Hand) (m : Move) → p.hand ≡ h → (elim h as (λ _. Option Move)
      [ Finishing x g s ↦ Some (move.Finish x g) | _ ↦ None ]) ≡ Some m → MayBe action.Finish m
  finish_may (Finishing x g s) m is e = as_this action.Finish (move.Finish x g) m (by_some (move.Finish x g) m e)
      ((s, is), refl)
  finish_may _ m is e = no_some m e

  fill_may : (h : Hand) (m : Move) → p.hand ≡ h → (elim h as (λ _. Option Move) [
    | Filling x v n ↦ then_some (nat_lt n (length v)) (move.Fill x v n (class_word_noted p x.page))
    | _ ↦ None
  ]) ≡ Some m → MayBe action.Fill m
  fill_may (Filling x v n) m is e =
      let made : Move = move.Fill x v n (class_word_noted p x.page) in
      let t = by_then (nat_lt n (length v)) made m e
      in as_this action.Fill made m t.1 ((is, lt_of n (length v) t.0, refl), refl)
  fill_may _ m is e = no_some m e

  publish_may : (h : Hand) (m : Move) → p.hand ≡ h → (elim h as (λ _. Option Move)
      [ Filling x v n ↦ then_some (nat_le (length v) n) (move.Publish x v) | _ ↦ None ]) ≡ Some m
      → MayBe action.Publish m
  publish_may (Filling x v n) m is e = let t = by_then (nat_le (length v) n) (move.Publish x v) m e
      in as_this action.Publish (move.Publish x v) m t.1 ((n, is, le_of (length v) n t.0), refl)
  publish_may _ m is e = no_some m e

  put_may : (h : Hand) (m : Move) → p.hand ≡ h → (elim h as (λ _. Option Move)
      [ ToPut x ↦ Some (move.Put x) | _ ↦ None ]) ≡ Some m → MayBe action.Put m
  put_may (ToPut x) m is e = as_this action.Put (move.Put x) m (by_some (move.Put x) m e) (is, refl)
  put_may _ m is e = no_some m e

  tie_may : (h : Hand) (m : Move) → p.hand ≡ h → (elim h as (λ _. Option Move)
      [ Tying x l r ↦ Some (move.Tie x l r) | _ ↦ None ]) ≡ Some m → MayBe action.Tie m
  tie_may (Tying x l r) m is e = as_this action.Tie (move.Tie x l r) m (by_some (move.Tie x l r) m e) (is, refl)
  tie_may _ m is e = no_some m e

  ring_may : (h : Hand) (m : Move) → p.hand ≡ h → (elim h as (λ _. Option Move)
      [ Ringing q ↦ Some (move.Ring q) | _ ↦ None ]) ≡ Some m → MayBe action.Ring m
  ring_may (Ringing q) m is e = as_this action.Ring (move.Ring q) m (by_some (move.Ring q) m e) (is, refl)
  ring_may _ m is e = no_some m e

  ring_tie_may : (h : Hand) (m : Move) → p.hand ≡ h → (elim h as (λ _. Option Move)
      [ RingTying q l ↦ Some (move.RingTie q l) | _ ↦ None ]) ≡ Some m → MayBe action.RingTie m
  ring_tie_may (RingTying q l) m is e = as_this action.RingTie (move.RingTie q l) m (by_some (move.RingTie q l) m e)
      (is, refl)
  ring_tie_may _ m is e = no_some m e

  look_on_may : (h : Hand) (m : Move) → p.hand ≡ h → (elim h as (λ _. Option Move)
      [ Looking k x s ↦ then_some (not (is_read x s)) (move.LookOn k x s) | _ ↦ None ]) ≡ Some m → MayBe action.LookOn m
  look_on_may (Looking k x s) m is e = let t = by_then (not (is_read x s)) (move.LookOn k x s) m e
      in as_this action.LookOn (move.LookOn k x s) m t.1 ((is, not_of (is_read x s) t.0), refl)
  look_on_may _ m is e = no_some m e

  look_again_may : (h : Hand) (m : Move) → p.hand ≡ h → (elim h as (λ _. Option Move)
      [ Looking k x s ↦ then_some (is_read x s) (move.LookAgain k x s) | _ ↦ None ]) ≡ Some m
      → MayBe action.LookAgain m
  look_again_may (Looking k x s) m is e = let t = by_then (is_read x s) (move.LookAgain k x s) m e
      in as_this action.LookAgain (move.LookAgain k x s) m t.1 ((is, t.0), refl)
  look_again_may _ m is e = no_some m e

  read_word_may : (k i : ℕ) (m : Move) (x : KeyRef) (o r : Option ℕ) → Named plan k x → noted k p.class_words ≡ o
      → noted k p.lengths ≡ r
      → (elim o as (λ _. Option Move) [
        | Some c ↦ elim r as (λ _. Option Move) [
          | Some n ↦ then_some (idle p && has (λ j. j == k) p.holds && nat_lt i n) (move.ReadWord k x c i)
          | None ↦ None
        ]
        | None ↦ None
      ]) ≡ Some m → MayBe (action.ReadWord k i) m
  read_word_may k i m x (Some c) (Some n) name a b e =
      let t = by_then (idle p && has (λ j. j == k) p.holds && nat_lt i n) (move.ReadWord k x c i) m e in
      let d = and3 (idle p) (has (λ j. j == k) p.holds) (nat_lt i n) t.0
      in as_this (action.ReadWord k i) (move.ReadWord k x c i) m t.1
      ((n, idle_is p d.0, name, a, b, d.1, lt_of i n d.2), refl)
  read_word_may k i m x (Some c) None name a b e = no_some m e
  read_word_may k i m x None r name a b e = no_some m e

  set_class_may : (y : PageName) (c : ℕ) (m : Move) (o : Option ℕ) → HasPage plan y
      → noted (page_of plan y) p.classes ≡ o
      → (elim o as (λ _. Option Move) [
        | Some n ↦ then_some (idle p && own plan p (page_of plan y) &&
            ((n == 0) || all_mine p (page_of plan y) n) && nat_lt c 8) (move.SetClass (page_of plan y) c)
        | None ↦ None
      ])
      ≡ Some m → MayBe (action.SetClass y c) m
  set_class_may y c m (Some n) small is e =
      let q : ℕ = page_of plan y in
      let t = by_then (idle p && own plan p q && ((n == 0) || all_mine p q n) && nat_lt c 8) (move.SetClass q c) m e in
      let d = and4 (idle p) (own plan p q) ((n == 0) || all_mine p q n) (nat_lt c 8) t.0
      in as_this (action.SetClass y c) (move.SetClass q c) m t.1 (
        (
          n,
          idle_is p d.0,
          page_within plan y small,
          owns_is plan p q d.1,
          is,
          zero_or_of n (all_mine p q n) d.2,
          lt_of c 8 d.3,
        ),
        ap (λ (z : PageName). action.SetClass z c) (name_of_page plan y small),
      )
  set_class_may y c m None small is e = no_some m e

  follow_may : (y : PageName) (m : Move) (o : Option ℕ) → HasPage plan y → noted (page_of plan y) p.cursors ≡ o
      → (elim o as (λ _. Option Move) [
        | Some s ↦ then_some (idle p && own plan p (page_of plan y))
            (move.Follow (page_of plan y) s)
        | None ↦ None
      ]) ≡ Some m → MayBe (action.Follow y) m
  follow_may y m (Some s) small is e =
      let q : ℕ = page_of plan y in
      let t = by_then (idle p && own plan p q) (move.Follow q s) m e in
      let d = and2 (idle p) (own plan p q) t.0 in
      as_this (action.Follow y) (move.Follow q s) m t.1 (
        (idle_is p d.0, page_within plan y small, owns_is plan p q d.1, is),
        ap (λ (z : PageName). action.Follow z) (name_of_page plan y small),
      )
  follow_may y m None small is e = no_some m e

  adopt_may : (n : ℕ) (m : Move) (o : Option ℕ) → p.owned ≡ o → (elim o as (λ _. Option Move)
      [ None ↦ then_some (idle p && nat_lt n plan.shards) (move.Adopt n) | _ ↦ None ]) ≡ Some m
      → MayBe (action.Adopt n) m
  adopt_may n m None is e =
      let t = by_then (idle p && nat_lt n plan.shards) (move.Adopt n) m e in
      let d = and2 (idle p) (nat_lt n plan.shards) t.0
      in as_this (action.Adopt n) (move.Adopt n) m t.1 ((idle_is p d.0, is, lt_of n plan.shards d.1), refl)
  adopt_may n m (Some k) is e = no_some m e

  leave_may : (m : Move) (o : Option ℕ) → p.owned ≡ o
      → (elim o as (λ _. Option Move) [
        | Some n ↦ then_some (idle p && (length p.mine == 0) && (length p.cursors == 0) &&
            (length p.armed == 0) && (elim (p.bell_cursor) as (λ _. Bool) [ None ↦ true | _ ↦ false ])) (move.Leave n)
        | None
            ↦ None
      ]) ≡ Some m → MayBe action.Leave m
  leave_may m (Some n) is e =
      let no_bell : Bool = elim (p.bell_cursor) as (λ _. Bool) [ None ↦ true | _ ↦ false ] in
      let t = by_then (idle p && (length p.mine == 0) && (length p.cursors == 0) && (length p.armed == 0) && no_bell)
      (move.Leave n) m e in
      let d = and5 (idle p) (length p.mine == 0) (length p.cursors == 0) (length p.armed == 0) no_bell t.0
      in as_this action.Leave (move.Leave n) m t.1 (
        (
          idle_is p d.0,
          is,
          none_left p.mine d.1,
          none_left p.cursors d.2,
          none_left p.armed d.3,
          none_of p.bell_cursor d.4,
        ),
        refl,
      )
  leave_may m None is e = no_some m e

  take_bell_may : (m : Move) (o : Option ℕ) → p.owned ≡ o → (elim o as (λ _. Option Move) [
    | Some n ↦ then_some (idle p && (elim (p.bell_cursor) as (λ _. Bool) [ None ↦ true | _ ↦ false ])) (move.TakeBell n)
    | None ↦ None
  ]) ≡ Some m → MayBe action.TakeBell m
  take_bell_may m (Some n) is e =
      let no_bell : Bool = elim (p.bell_cursor) as (λ _. Bool) [ None ↦ true | _ ↦ false ] in
      let t = by_then (idle p && no_bell) (move.TakeBell n) m e in
      let d = and2 (idle p) no_bell t.0
      in as_this action.TakeBell (move.TakeBell n) m t.1 ((idle_is p d.0, is, none_of p.bell_cursor d.1), refl)
  take_bell_may m None is e = no_some m e

  follow_bell_may : (m : Move) (o : Option ℕ) → p.bell_cursor ≡ o →
      (elim o as (λ _. Option Move) [ Some q ↦ then_some (idle p) (move.FollowBell q) | None ↦ None ]) ≡ Some m
      → MayBe action.FollowBell m
  follow_bell_may m (Some q) is e = let t = by_then (idle p) (move.FollowBell q) m e
      in as_this action.FollowBell (move.FollowBell q) m t.1 ((idle_is p t.0, is), refl)
  follow_bell_may m None is e = no_some m e

  -- a hold on the key of a move that asks for one
  held_may : (k : ℕ) (x : Action) (m : Move) (made : KeyRef → Move) → named plan k
      (λ x. then_some (idle p && has (λ j. j == k) p.holds) (made x)) ≡ Some m
      → ((y : KeyRef) → Named plan k y → p.hand ≡ Idle → has (λ j. j == k) p.holds ≡ true → MayBe x (made y))
      → MayBe x m
  held_may k x m made e so =
      let n = named_of plan k (λ x. then_some (idle p && has (λ j. j == k) p.holds) (made x)) m e in
      let t = by_then (idle p && has (λ j. j == k) p.holds) (made n.0) m n.2 in
      let d = and2 (idle p) (has (λ j. j == k) p.holds) t.0
      in as_this x (made n.0) m t.1 (so n.0 n.1 (idle_is p d.0) d.1)

  may_be : (x : Action) (m : Move) → move_of plan p x ≡ Some m → MayBe x m
  unfolding move_of
  may_be (action.EnterGet k) m e =
      let n = named_of plan k (λ x. then_some (idle p && nat_lt (length p.holds) 16) (move.EnterGet k x)) m e in
      let t = by_then (idle p && nat_lt (length p.holds) 16) (move.EnterGet k n.0) m n.2 in
      let d = and2 (idle p) (nat_lt (length p.holds) 16) t.0
      in as_this (action.EnterGet k) (move.EnterGet k n.0) m t.1
      ((idle_is p d.0, n.1, lt_of (length p.holds) 16 d.1), refl)
  may_be (action.EnterRemove k) m e =
      let n = named_of plan k (λ x. then_some (idle p) (move.EnterRemove k x)) m e in
      let t = by_then (idle p) (move.EnterRemove k n.0) m n.2
      in as_this (action.EnterRemove k) (move.EnterRemove k n.0) m t.1 ((idle_is p t.0, n.1), refl)
  may_be action.Mark m e = mark_may p.hand m refl e
  may_be action.Drop m e = drop_may p.hand m refl e
  may_be (action.DropHold k) m e = held_may k (action.DropHold k) m (move.DropHold k) e
      (λ y name rests held. ((rests, name, held), refl))
  may_be action.ReadEnding m e = read_ending_may p.hand m refl e
  may_be action.Finish m e = finish_may p.hand m refl e
  may_be (action.FillSlot y v) m e =
      let x : SlotRef = slot_of plan y in
      let n = slotted_of plan y (λ x. then_some (idle p && own plan p x.page && has (same_slot x) p.mine && nat_lt 0
      (class_word_noted p x.page) && nat_le (length v) (width (class_word_noted p x.page - 1))) (move.FillSlot x v)) m
      e in
      let t = by_then (idle p && own plan p x.page && has (same_slot x) p.mine && nat_lt 0 (class_word_noted p x.page)
      && nat_le (length v) (width (class_word_noted p x.page - 1))) (move.FillSlot x v) m n.2 in
      let d = and5 (idle p) (own plan p x.page) (has (same_slot x) p.mine) (nat_lt 0 (class_word_noted p x.page))
      (nat_le (length v) (width (class_word_noted p x.page - 1))) t.0 in
      as_this (action.FillSlot y v) (move.FillSlot x v) m t.1 (
        (
          idle_is p d.0,
          (page_within plan (its_page y) n.0, n.1),
          owns_is plan p x.page d.1,
          d.2,
          lt_of 0 (class_word_noted p x.page) d.3,
          le_of (length v) (width (class_word_noted p x.page - 1)) d.4,
        ),
        ap (λ (z : SlotName). action.FillSlot z v) (name_of_slot plan y n.0),
      )
  may_be action.Fill m e = fill_may p.hand m refl e
  may_be action.Publish m e = publish_may p.hand m refl e
  may_be (action.ReadClass k) m e = held_may k (action.ReadClass k) m (move.ReadClass k) e
      (λ y name rests held. ((rests, name, held), refl))
  may_be (action.ReadLength k) m e = held_may k (action.ReadLength k) m (move.ReadLength k) e
      (λ y name rests held. ((rests, name, held), refl))
  may_be (action.ReadWord k i) m e =
      let n = named_of plan k (λ x. elim (noted k p.class_words) as (λ _. Option Move) [
        | Some c ↦ elim (noted k p.lengths) as (λ _. Option Move) [
          | Some n ↦ then_some (idle p && has (λ j. j == k) p.holds && nat_lt i n) (move.ReadWord k x c i)
          | None ↦ None
        ]
        | None ↦ None
      ]) m e in
      read_word_may k i m n.0 (noted k p.class_words) (noted k p.lengths) n.1 refl refl n.2
  may_be (action.Peek y) m e =
      let x : SlotRef = slot_of plan y in
      let n = slotted_of plan y (λ x. then_some (idle p) (move.Peek x)) m e in
      let t = by_then (idle p) (move.Peek x) m n.2 in
      as_this (action.Peek y) (move.Peek x) m t.1 (
        (idle_is p t.0, (page_within plan (its_page y) n.0, n.1)),
        ap (λ (z : SlotName). action.Peek z) (name_of_slot plan y n.0),
      )
  may_be (action.Look k) m e =
      let n = named_of plan k (λ x. then_some (idle p) (move.Look k x)) m e in
      let t = by_then (idle p) (move.Look k n.0) m n.2
      in as_this (action.Look k) (move.Look k n.0) m t.1 ((idle_is p t.0, n.1), refl)
  may_be action.LookOn m e = look_on_may p.hand m refl e
  may_be action.LookAgain m e = look_again_may p.hand m refl e
  may_be (action.ReadPage y) m e =
      let q : ℕ = page_of plan y in
      let n = paged_of plan y (λ q. then_some (idle p && own plan p q) (move.ReadPage q)) m e in
      let t = by_then (idle p && own plan p q) (move.ReadPage q) m n.1 in
      let d = and2 (idle p) (own plan p q) t.0 in
      as_this (action.ReadPage y) (move.ReadPage q) m t.1 (
        (idle_is p d.0, page_within plan y n.0, owns_is plan p q d.1),
        ap (λ (z : PageName). action.ReadPage z) (name_of_page plan y n.0),
      )
  may_be (action.SetClass y c) m e =
      let n = paged_of plan y (λ q. elim (noted q p.classes) as (λ _. Option Move) [
        | Some n ↦ then_some (idle p && own plan p q && ((n == 0) || all_mine p q n) && nat_lt c 8) (move.SetClass q c)
        | None ↦ None
      ]) m e in
      set_class_may y c m (noted (page_of plan y) p.classes) n.0 refl n.1
  may_be (action.Take y) m e =
      let q : ℕ = page_of plan y in
      let n = paged_of plan y (λ q. then_some (idle p && own plan p q && nat_lt 0 (class_word_noted p q) &&
      no_cursor p q) (move.Take q)) m e in
      let t = by_then (idle p && own plan p q && nat_lt 0 (class_word_noted p q) && no_cursor p q) (move.Take q) m n.1
      in
      let d = and4 (idle p) (own plan p q) (nat_lt 0 (class_word_noted p q)) (no_cursor p q) t.0 in
      as_this (action.Take y) (move.Take q) m t.1 (
        (
          idle_is p d.0,
          page_within plan y n.0,
          owns_is plan p q d.1,
          lt_of 0 (class_word_noted p q) d.2,
          no_cursor_is p q d.3,
        ),
        ap (λ (z : PageName). action.Take z) (name_of_page plan y n.0),
      )
  may_be (action.Follow y) m e =
      let n = paged_of plan y (λ q. elim (noted q p.cursors) as (λ _. Option Move)
      [ Some s ↦ then_some (idle p && own plan p q) (move.Follow q s) | None ↦ None ]) m e in
      follow_may y m (noted (page_of plan y) p.cursors) n.0 refl n.1
  may_be action.Put m e = put_may p.hand m refl e
  may_be (action.PutSlot y) m e =
      let x : SlotRef = slot_of plan y in
      let n = slotted_of plan y
      (λ x. then_some (idle p && own plan p x.page && has (same_slot x) p.mine) (move.PutSlot x)) m e in
      let t = by_then (idle p && own plan p x.page && has (same_slot x) p.mine) (move.PutSlot x) m n.2 in
      let d = and3 (idle p) (own plan p x.page) (has (same_slot x) p.mine) t.0 in
      as_this (action.PutSlot y) (move.PutSlot x) m t.1 (
        (idle_is p d.0, (page_within plan (its_page y) n.0, n.1), owns_is plan p x.page d.1, d.2),
        ap (λ (z : SlotName). action.PutSlot z) (name_of_slot plan y n.0),
      )
  may_be action.Tie m e = tie_may p.hand m refl e
  may_be (action.Adopt n) m e = adopt_may n m p.owned refl e
  may_be action.Leave m e = leave_may m p.owned refl e
  may_be (action.Arm y) m e =
      let q : ℕ = page_of plan y in
      let n = paged_of plan y (λ q. then_some (idle p && own plan p q && nat_lt 0 (class_word_noted p q) &&
      no_cursor p q && not (has (λ x. x == q) p.armed)) (move.Arm q)) m e in
      let t = by_then (idle p && own plan p q && nat_lt 0 (class_word_noted p q) && no_cursor p q && not
      (has (λ x. x == q) p.armed)) (move.Arm q) m n.1 in
      let d = and5 (idle p) (own plan p q) (nat_lt 0 (class_word_noted p q)) (no_cursor p q)
      (not (has (λ x. x == q) p.armed)) t.0 in
      as_this (action.Arm y) (move.Arm q) m t.1 (
        (
          idle_is p d.0,
          page_within plan y n.0,
          owns_is plan p q d.1,
          lt_of 0 (class_word_noted p q) d.2,
          no_cursor_is p q d.3,
          not_of (has (λ x. x == q) p.armed) d.4,
        ),
        ap (λ (z : PageName). action.Arm z) (name_of_page plan y n.0),
      )
  may_be action.Ring m e = ring_may p.hand m refl e
  may_be action.RingTie m e = ring_tie_may p.hand m refl e
  may_be action.TakeBell m e = take_bell_may m p.owned refl e
  may_be action.FollowBell m e = follow_bell_may m p.bell_cursor refl e

pub gives_what_may_be : GivesWhatMayBe
gives_what_may_be plan p x m e = may_be plan p x m e

-- the move of an action that has a row: the row is the move's
pub move_of_row : (plan : Plan) (p : Body) (x : Action) (r : Row) → row plan p x ≡ Some r → (m : Move)
    × (move_of plan p x ≡ Some m) × May plan p m × (action_of plan m ≡ x) × (r ≡ row_of plan p m)
unfolding row
move_of_row plan p x r e = go (move_of plan p x) refl e where
  go : (o : Option Move) → move_of plan p x ≡ o → option_map (row_of plan p) o ≡ Some r → (m : Move)
      × (move_of plan p x ≡ Some m) × May plan p m × (action_of plan m ≡ x) × (r ≡ row_of plan p m)
  go (Some m) is h = let so = may_be plan p x m is in (m, is, so.0, so.1, sym (by_some (row_of plan p m) r h))
  go None is h = no_some r h
