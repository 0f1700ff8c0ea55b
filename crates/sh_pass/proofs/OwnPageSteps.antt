-- What each step of an owner on a page of its own leaves of what it knows.
use Rattle.std.proofs.Common.{◌≡◌, ◌≢◌, ℕ, ◌+◌, ◌==◌, ◌||◌, Bool, true, false, cond, None, List, [], ◌∷◌, ◌++◌, refl}
use Rattle.std.proofs.Common.{ap, ◌∙◌, sym, ne_eqb}
use Rattle.std.proofs.lemmas.Bool.{and_left, and_right, and_from}
use Rattle.sh_bell.specs.Bell.{is_armed, top_of}
use Rattle.sh_key.specs.Layout.{Layout}
use Rattle.sh_shape.specs.Classes.{slots}
use Rattle.sh_slots.specs.declared.hand.Hand.TheVariants.{Idle, Filling, Tying}
use Rattle.sh_slots.specs.Slots.{same_slot, slot_refs}
use Rattle.sh_stack.specs.Stack.{link_item, link_over}
use Rattle.sh_step.specs.declared.action.Action.{Action}
use Rattle.sh_step.specs.declared.action.Action.TheVariants as action
use Rattle.sh_step.specs.declared.action.PageName.{PageName}
use Rattle.sh_step.specs.declared.body.Body.{Body}
use Rattle.sh_step.specs.declared.moves.Move.{Move}
use Rattle.sh_step.specs.declared.moves.Move.TheVariants as move
use Rattle.sh_step.specs.Collections.{noted, without, off}
use Rattle.sh_step.specs.Footsteps.{takes_page, meets_page, puts_slot, arms_page, met}
use Rattle.sh_step.specs.Plans.{plan_of}
use Rattle.sh_step.specs.Rows.{point, unpoint}
use Rattle.sh_step.proofs.ListLaws.{has_front}
use Rattle.sh_step.proofs.NoteLaws.{noted_now}
use Rattle.sh_table.specs.Steps.{row_by}
use Rattle.sh_table.specs.Tales.{OwnerIsValid}
use Rattle.sh_pass.specs.Passes.{Caller}
use Rattle.sh_pass.specs.Owners.{OwnerDid, OwnerActs, OnPage, SameBells, NonePut, NoneArmed, own_body, seen_page}
use Rattle.sh_pass.specs.Owners.{heap_page, heap_slot, slot_in, page_taken, page_armed, page_followed, page_without}
use Rattle.sh_pass.specs.Owners.{page_given, page_noted}
use Rattle.sh_pass.proofs.OwnNotes.{noted_point, noted_point_else, noted_unpoint_else, disarmed, disarmed_else}
use Rattle.sh_pass.proofs.OwnNotes.{armed_else, one_more, one_more_else, one_less, one_less_else, all_given, given_else}
use Rattle.sh_pass.proofs.OwnNotes.{noted_else}
use Rattle.sh_pass.proofs.OwnSteps.{still, more, acts, bells_same, page_after}
use Rattle.sh_history.proofs.Standing.{eqb_self}

module _ (layout : Layout) (v w : Caller) (x : PageName) (own : OwnerIsValid (plan_of layout v.view.shape) (own_body v))
  where
    abbrev q : ℕ
    q = heap_page v x

    other : (r : ℕ) → r ≢ q → (q == r) ≡ false
    other r ne = ne_eqb q r (λ e. ne (sym e))

    pub read_does : (n : ℕ) → (own_body v).hand ≡ Idle → OwnerDid layout (action.ReadPage x) (move.ReadPage q) n v w
        → OwnerActs Idle [] 1 v w × SameBells layout v w × OnPage q (page_noted (seen_page v q) n) v w
    read_does n idle d =
        let p : Body = own_body v in
        let a : Action = action.ReadPage x in
        let m : Move = move.ReadPage q in
        let b : Body = record p { classes = (q, n) ∷ p.classes } in (
          acts layout a m n v w d b refl Idle [] refl refl idle refl refl,
          bells_same layout a m n v w d b refl refl (λ k. refl) (λ k. refl),
          record {
            here = page_after layout a m n v w d b refl q (page_noted (seen_page v q) n) (λ s. refl) refl refl
                (noted_now q n p.classes) (still layout a m n v w d b refl (takes_page q) refl)
                (still layout a m n v w d b refl (meets_page q) refl);
            others = λ r ne. page_after layout a m n v w d b refl r (seen_page v r) (λ s. refl) refl refl
                (noted_else q r n p.classes ne) (still layout a m n v w d b refl (takes_page r) refl)
                (still layout a m n v w d b refl (meets_page r) refl);
          },
        )

    pub class_does : (c : ℕ) → (own_body v).hand ≡ Idle
        → OwnerDid layout (action.SetClass x c) (move.SetClass q c) 0 v w
        → OwnerActs Idle [] 1 v w × SameBells layout v w × OnPage q (page_given (seen_page v q) c) v w × NonePut v w
        × NoneArmed v w
    class_does c idle d =
        let p : Body = own_body v in
        let a : Action = action.SetClass x c in
        let m : Move = move.SetClass q c in
        let b : Body = record p {
          classes = (q, c + 1) ∷ p.classes;
          mine = slot_refs q 0 (slots c)
              ++ off (λ y. y.page == q) p.mine;
        } in (
          acts layout a m 0 v w d b refl Idle [] refl refl idle refl refl,
          bells_same layout a m 0 v w d b refl refl (λ k. refl) (λ k. refl),
          record {
            here = page_after layout a m 0 v w d b refl q (page_given (seen_page v q) c)
                (λ s. all_given q s (slots c) p.mine) refl refl (noted_now q (c + 1) p.classes)
                (still layout a m 0 v w d b refl (takes_page q) refl)
                (still layout a m 0 v w d b refl (meets_page q) refl);
            others = λ r ne. page_after layout a m 0 v w d b refl r (seen_page v r)
                (λ s. given_else q r s (slots c) p.mine ne) refl refl (noted_else q r (c + 1) p.classes ne)
                (still layout a m 0 v w d b refl (takes_page r) refl)
                (still layout a m 0 v w d b refl (meets_page r) refl);
          },
          still layout a m 0 v w d b refl puts_slot refl,
          still layout a m 0 v w d b refl arms_page refl,
        )

    pub take_does : (n : ℕ) → noted q (own_body v).cursors ≡ None → (own_body v).hand ≡ Idle
        → OwnerDid layout (action.Take x) (move.Take q) n v w → OwnerActs Idle [] 1 v w × SameBells layout v w
        × OnPage q (page_taken (seen_page v q) n) v w × NonePut v w × NoneArmed v w
    take_does n none idle d =
        let p : Body = own_body v in
        let a : Action = action.Take x in
        let m : Move = move.Take q in
        let b : Body = record p {
          cursors = point 1 q (top_of n) p.cursors;
          armed = cond (is_armed n)
              (without (λ y. y == q) p.armed) p.armed;
        } in (
          acts layout a m n v w d b refl Idle [] refl refl idle refl refl,
          bells_same layout a m n v w d b refl refl (λ k. refl) (λ k. refl),
          record {
            here = page_after layout a m n v w d b refl q (page_taken (seen_page v q) n) (λ s. refl)
                (noted_point 1 q (top_of n) p.cursors none) (disarmed q p.armed (is_armed n) (own.armed_once q)) refl
                (more layout a m n v w d b refl (takes_page q) (eqb_self q))
                (still layout a m n v w d b refl (meets_page q) refl);
            others = λ r ne. page_after layout a m n v w d b refl r (seen_page v r) (λ s. refl)
                (noted_point_else 1 q (top_of n) r p.cursors ne) (disarmed_else q r p.armed (is_armed n) ne) refl
                (still layout a m n v w d b refl (takes_page r) (other r ne))
                (still layout a m n v w d b refl (meets_page r) refl);
          },
          still layout a m n v w d b refl puts_slot refl,
          still layout a m n v w d b refl arms_page refl,
        )

    pub arm_does : (n : ℕ) → noted q (own_body v).cursors ≡ None → (own_body v).hand ≡ Idle
        → OwnerDid layout (action.Arm x) (move.Arm q) n v w → OwnerActs Idle [] 1 v w × SameBells layout v w
        × OnPage q (page_armed (seen_page v q) n) v w × NonePut v w
    arm_does n none idle d =
        let p : Body = own_body v in
        let a : Action = action.Arm x in
        let m : Move = move.Arm q in
        let b : Body = record p { cursors = point 1 q (top_of n) p.cursors; armed = q ∷ p.armed } in (
          acts layout a m n v w d b refl Idle [] refl refl idle refl refl,
          bells_same layout a m n v w d b refl refl (λ k. refl) (λ k. refl),
          record {
            here = page_after layout a m n v w d b refl q (page_armed (seen_page v q) n) (λ s. refl)
                (noted_point 1 q (top_of n) p.cursors none) (has_front (λ y. y == q) q p.armed (eqb_self q)) refl
                (more layout a m n v w d b refl (takes_page q) (eqb_self q))
                (still layout a m n v w d b refl (meets_page q) refl);
            others = λ r ne. page_after layout a m n v w d b refl r (seen_page v r) (λ s. refl)
                (noted_point_else 1 q (top_of n) r p.cursors ne) (armed_else q r p.armed ne) refl
                (still layout a m n v w d b refl (takes_page r) (other r ne))
                (still layout a m n v w d b refl (meets_page r) refl);
          },
          still layout a m n v w d b refl puts_slot refl,
        )

    -- a link that was not written: only the count of such links changes
    follow_none : (s n : ℕ) → (n == 0) ≡ true → (own_body v).hand ≡ Idle
        → OwnerDid layout (action.Follow x) (move.Follow q s) n v w → OwnerActs Idle [] 1 v w × SameBells layout v w
        × OnPage q (record (seen_page v q) { met = met q v.view.own.trail + 1 }) v w × NonePut v w × NoneArmed v w
    follow_none s n none idle d =
        let p : Body = own_body v in
        let a : Action = action.Follow x in
        let m : Move = move.Follow q s in
        let is : (row_by layout v.view m).part n ≡ p = ap (λ c. cond c p
        (record p { cursors = point 2 q n (unpoint q p.cursors); mine = record { page = q; slot = s } ∷ p.mine }))
        none in (
          acts layout a m n v w d p is Idle [] refl refl idle refl refl,
          bells_same layout a m n v w d p is refl (λ k. refl) (λ k. refl),
          record {
            here = page_after layout a m n v w d p is q (record (seen_page v q) { met = met q v.view.own.trail + 1 })
                (λ t. refl) refl refl refl (still layout a m n v w d p is (takes_page q) refl)
                (more layout a m n v w d p is (meets_page q) (and_from (q == q) (n == 0) (eqb_self q) none));
            others = λ r ne. page_after layout a m n v w d p is r (seen_page v r) (λ t. refl) refl refl refl
                (still layout a m n v w d p is (takes_page r) refl)
                (still layout a m n v w d p is (meets_page r) (and_left (q == r) (n == 0) (other r ne)));
          },
          still layout a m n v w d p is puts_slot refl,
          still layout a m n v w d p is arms_page refl,
        )

    follow_some : (s n : ℕ) → (n == 0) ≡ false → (own_body v).hand ≡ Idle
        → OwnerDid layout (action.Follow x) (move.Follow q s) n v w → OwnerActs Idle [] 1 v w × SameBells layout v w
        × OnPage q (record (seen_page v q) { mine = λ t. (t == s) || (seen_page v q).mine t; cursor = link_item n }) v w
        × NonePut v w × NoneArmed v w
    follow_some s n some idle d =
        let p : Body = own_body v in
        let a : Action = action.Follow x in
        let m : Move = move.Follow q s in
        let b : Body = record p {
          cursors = point 2 q n (unpoint q p.cursors);
          mine = record { page = q; slot = s } ∷
              p.mine;
        } in
        let is : (row_by layout v.view m).part n ≡ b = ap (λ c. cond c p b) some in (
          acts layout a m n v w d b is Idle [] refl refl idle refl refl,
          bells_same layout a m n v w d b is refl (λ k. refl) (λ k. refl),
          record {
            here = page_after layout a m n v w d b is q (record (seen_page v q)
                { mine = λ t. (t == s) || (seen_page v q).mine t; cursor = link_item n }) (λ t. one_more q s t p.mine)
                (noted_point 2 q n (unpoint q p.cursors) (own.one_cursor q)) refl refl
                (still layout a m n v w d b is (takes_page q) refl)
                (still layout a m n v w d b is (meets_page q) (and_right (q == q) (n == 0) some));
            others = λ r ne. page_after layout a m n v w d b is r (seen_page v r) (λ t. one_more_else q r s t p.mine ne)
                (noted_point_else 2 q n r (unpoint q p.cursors) ne ∙ noted_unpoint_else q r p.cursors ne) refl refl
                (still layout a m n v w d b is (takes_page r) refl)
                (still layout a m n v w d b is (meets_page r) (and_left (q == r) (n == 0) (other r ne)));
          },
          still layout a m n v w d b is puts_slot refl,
          still layout a m n v w d b is arms_page refl,
        )

    pub follow_does : (s n : ℕ) → (own_body v).hand ≡ Idle → OwnerDid layout (action.Follow x) (move.Follow q s) n v w
        → OwnerActs Idle [] 1 v w × SameBells layout v w × OnPage q (page_followed (seen_page v q) s n) v w
        × NonePut v w × NoneArmed v w
    follow_does s n idle d = go (n == 0) refl where
      go : (b : Bool) → (n == 0) ≡ b → OwnerActs Idle [] 1 v w × SameBells layout v w
          × OnPage q (cond b (record (seen_page v q) { met = met q v.view.own.trail + 1 })
          (record (seen_page v q) { mine = λ t. (t == s) || (seen_page v q).mine t; cursor = link_item n })) v w
          × NonePut v w × NoneArmed v w
      go true e = follow_none s n e idle d
      go false e = follow_some s n e idle d

    pub fill_slot_does : (s : ℕ) (value : List ℕ) → OwnerDid layout (action.FillSlot (slot_in x s) value)
        (move.FillSlot (heap_slot v x s) value) 0 v w → OwnerActs (Filling (heap_slot v x s) value 0) [] 1 v w
        × SameBells layout v w × OnPage q (page_without (seen_page v q) s) v w × NonePut v w
    fill_slot_does s value d =
        let p : Body = own_body v in
        let a : Action = action.FillSlot (slot_in x s) value in
        let m : Move = move.FillSlot (heap_slot v x s) value in
        let b : Body = record p {
          mine = without (same_slot (heap_slot v x s)) p.mine;
          hand = Filling (heap_slot v x s)
              value 0;
        } in (
          acts layout a m 0 v w d b refl (Filling (heap_slot v x s) value 0) [] refl refl refl refl refl,
          bells_same layout a m 0 v w d b refl refl (λ k. refl) (λ k. refl),
          record {
            here = page_after layout a m 0 v w d b refl q (page_without (seen_page v q) s)
                (λ t. one_less q s t p.mine (own.mine_once (heap_slot v x s))) refl refl refl
                (still layout a m 0 v w d b refl (takes_page q) refl)
                (still layout a m 0 v w d b refl (meets_page q) refl);
            others = λ r ne. page_after layout a m 0 v w d b refl r (seen_page v r)
                (λ t. one_less_else q r s t p.mine ne) refl refl refl
                (still layout a m 0 v w d b refl (takes_page r) refl)
                (still layout a m 0 v w d b refl (meets_page r) refl);
          },
          still layout a m 0 v w d b refl puts_slot refl,
        )

    pub put_does : (s n : ℕ) → OwnerDid layout (action.PutSlot (slot_in x s)) (move.PutSlot (heap_slot v x s)) n v w
        → OwnerActs (Tying (heap_slot v x s) (link_over (top_of n)) (is_armed n)) [] 1 v w × SameBells layout v w
        × OnPage q (page_without (seen_page v q) s) v w
    put_does s n d =
        let p : Body = own_body v in
        let a : Action = action.PutSlot (slot_in x s) in
        let m : Move = move.PutSlot (heap_slot v x s) in
        let b : Body = record p {
          mine = without (same_slot (heap_slot v x s)) p.mine;
          hand = Tying (heap_slot v x s)
              (link_over (top_of n)) (is_armed n);
        } in (
          acts layout a m n v w d b refl (Tying (heap_slot v x s) (link_over (top_of n)) (is_armed n)) [] refl refl refl
              refl refl,
          bells_same layout a m n v w d b refl refl (λ k. refl) (λ k. refl),
          record {
            here = page_after layout a m n v w d b refl q (page_without (seen_page v q) s)
                (λ t. one_less q s t p.mine (own.mine_once (heap_slot v x s))) refl refl refl
                (still layout a m n v w d b refl (takes_page q) refl)
                (still layout a m n v w d b refl (meets_page q) refl);
            others = λ r ne. page_after layout a m n v w d b refl r (seen_page v r)
                (λ t. one_less_else q r s t p.mine ne) refl refl refl
                (still layout a m n v w d b refl (takes_page r) refl)
                (still layout a m n v w d b refl (meets_page r) refl);
          },
        )
