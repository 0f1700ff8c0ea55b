-- All that holds, after every move.
use Rattle.std.proofs.Common.{◌≡◌, ℕ, ◌==◌, cond, drop, sym, refl, ap, ◌∙◌, subst, Option, Some, None, slice_get}
use Rattle.sh_slots.specs.declared.hand.Hand.{Hand}
use Rattle.sh_slots.specs.declared.hand.Hand.TheVariants.{Idle, Removing, Leaving, Finishing, ToPut, Tying, Ringing}
use Rattle.sh_slots.specs.declared.hand.Hand.TheVariants.{RingTying, Filling, Looking}
use Rattle.sh_step.specs.declared.body.Body.{Body}
use Rattle.sh_step.specs.declared.moves.Move.{Move}
use Rattle.sh_step.specs.declared.moves.Move.TheVariants.{EnterGet, EnterRemove, Mark, Drop, DropHold, Finish, FillSlot}
use Rattle.sh_step.specs.declared.moves.Move.TheVariants.{Fill, Publish, ReadClass, ReadLength, ReadWord, ReadPage}
use Rattle.sh_step.specs.declared.moves.Move.TheVariants.{SetClass, Take, Follow, Put, PutSlot, Tie, Adopt, Leave, Arm}
use Rattle.sh_step.specs.declared.moves.Move.TheVariants.{Ring, RingTie, TakeBell, FollowBell, Look, LookOn, LookAgain}
use Rattle.sh_step.specs.declared.moves.Move.TheVariants.{Peek, ReadEnding}
use Rattle.sh_step.specs.Moves.{row_of}
use Rattle.sh_step.specs.Plans.{Plan, Lawful}
use Rattle.sh_step.specs.Rows.{Row, hand, all_mine, fill_in, follow_bell}
use Rattle.sh_step.proofs.PartTests.{is_own, zero_or}
use Rattle.sh_core.specs.Words.{read, put}
use Rattle.sh_core.specs.Worlds.{World, apply}
use Rattle.sh_core.specs.Lists.{PutLists}
use Rattle.sh_core.specs.Placed.{Agreement}
use Rattle.sh_core.specs.Looks.{HandSees}
use Rattle.sh_step.specs.Conditions.{May}
use Rattle.sh_core.proofs.Moves.ByMove.{lists_after}
use Rattle.sh_core.proofs.Moves.AllSlots.{all_enter_get, all_enter_remove, all_mark, all_drop_hand, all_drop_key}
use Rattle.sh_core.proofs.Moves.AllSlots.{all_finish, all_fill_slot, all_fill, all_publish}
use Rattle.sh_core.proofs.Moves.AllReads.{all_read_class, all_read_length, all_read_word, all_read_page, all_set_class}
use Rattle.sh_core.proofs.Moves.AllLooks.{all_peek, all_look, all_look_on, all_look_again, all_read_ending}
use Rattle.sh_core.proofs.Moves.AllStacks.{all_take, all_arm, all_follow, all_put, all_put_slot, all_tie}
use Rattle.sh_core.proofs.Moves.AllBells.{all_adopt, all_leave, all_ring, all_ring_tie, all_take_bell, all_follow_bell}

module _ (plan : Plan) (w : World) (l : PutLists) (a : ℕ) (p : Body) (laws : Lawful plan) (old : Agreement plan w l)
    (sees : HandSees plan w.words.class_at w.log p.hand) (at : slice_get w.parts a ≡ Some p) where
  -- after the move of a part
  abbrev After : Move → Body → Type 0
  After m u = let r : Row = row_of plan u m in Agreement plan (apply w a r)
      (lists_after plan u m (read w.words r.place) l)

  -- what holds of the part with its own hand put in holds of the part
  by_hand : (m : Move) (h : Hand) → p.hand ≡ h → (slice_get w.parts a ≡ Some (hand p h) → After m (hand p h))
      → After m p
  by_hand m h is f = let e : p ≡ hand p h = λ i. record p { hand = is i }
      in subst (After m) (sym e) (f (at ∙ ap (λ (u : Body). Some u) e))

  pub all_move : (m : Move) → May plan p m → After m p
  all_move (EnterGet k x) (idle, named, few) = by_hand (EnterGet k x) Idle idle
      (λ i. all_enter_get plan w l a p k x laws old i named.unpacks few)
  all_move (EnterRemove k x) (idle, named) = by_hand (EnterRemove k x) Idle idle
      (λ i. all_enter_remove plan w l a p k x laws old i named.unpacks)
  all_move (Mark k x) (is, named) = by_hand (Mark k x) (Removing k) is
      (λ i. all_mark plan w l a p k x laws old i named.unpacks)
  all_move (Drop x) is = by_hand (Drop x) (Leaving x) is (λ i. all_drop_hand plan w l a p x old i)
  all_move (DropHold k x) (idle, named, is) = by_hand (DropHold k x) Idle idle
      (λ i. all_drop_key plan w l a p k x old i named.unpacks is)
  all_move (ReadEnding x g s) (is, more) = by_hand (ReadEnding x g s) (Finishing x g s) is
      (λ i. all_read_ending plan w l a p old x g s i)
  all_move (Finish x g) (s, is) = by_hand (Finish x g) (Finishing x g s) is
      (λ i. all_finish plan w l a p x g s old i)
  all_move (FillSlot x v) (idle, inside, mine, is, classed, fits) = by_hand (FillSlot x v) Idle idle
      (λ i. all_fill_slot plan w l a p x v old i (is_own plan p x.page mine) is classed fits)
  all_move (Fill x v i c) (is, less, noted_is) = by_hand (Fill x v i c) (Filling x v i) is
      (λ j. subst (λ d. Agreement plan (apply w a (fill_in (hand p (Filling x v i)) x v i d)) l) noted_is
      (all_fill plan w l a p x v i old j less))
  all_move (Publish x v) (i, is, end) = by_hand (Publish x v) (Filling x v i) is
      (λ j. all_publish plan w l a p x v i laws old j end)
  all_move (ReadClass k x) may = by_hand (ReadClass k x) Idle may.0 (λ i. all_read_class plan w l a p old i k x)
  all_move (ReadLength k x) may = by_hand (ReadLength k x) Idle may.0 (λ i. all_read_length plan w l a p old i k x)
  all_move (ReadWord k x c i) may = by_hand (ReadWord k x c i) Idle may.1
      (λ at. all_read_word plan w l a p old at k x c i)
  all_move (Peek x) (idle, inside) = by_hand (Peek x) Idle idle (λ i. all_peek plan w l a p old i x)
  all_move (Look k x) (idle, named) = by_hand (Look k x) Idle idle
      (λ i. all_look plan w l a p old i k x named.unpacks)
  all_move (LookOn k x s) (is, more) = by_hand (LookOn k x s) (Looking k x s) is
      (λ i. all_look_on plan w l a p old k x s i)
  all_move (LookAgain k x s) (is, ends) = by_hand (LookAgain k x s) (Looking k x s) is
      (λ i. all_look_again plan w l a p old k x s i (subst (HandSees plan w.words.class_at w.log) is sees) ends)
  all_move (ReadPage q) (idle, inside, mine) = by_hand (ReadPage q) Idle idle
      (λ i. all_read_page plan w l a p old i q inside)
  all_move (SetClass q c) (n, idle, inside, mine, is, full, small) = by_hand (SetClass q c) Idle idle
      (λ i. all_set_class plan w l a p old i q n c (is_own plan p q mine) is (zero_or n (all_mine p q n) full) small)
  all_move (Take q) (idle, inside, mine, classed, none) = by_hand (Take q) Idle idle
      (λ i. all_take plan w l a p old i q (is_own plan p q mine) none)
  all_move (Follow q s) (idle, inside, mine, is) = by_hand (Follow q s) Idle idle
      (λ i. all_follow plan w l a p old i q s (is_own plan p q mine) is)
  all_move (Put x) is = by_hand (Put x) (ToPut x) is (λ i. all_put plan w l a p x old i)
  all_move (PutSlot x) (idle, inside, mine, is) = by_hand (PutSlot x) Idle idle
      (λ i. all_put_slot plan w l a p old i x is)
  all_move (Tie x n r) is = by_hand (Tie x n r) (Tying x n r) is (λ i. all_tie plan w l a p x n r old i)
  all_move (Adopt n) (idle, free, small) = by_hand (Adopt n) Idle idle (λ i. all_adopt plan w l a p old i n free)
  all_move (Leave n) (idle, owned, mine, cursors, armed, bell) = by_hand (Leave n) Idle idle
      (λ i. all_leave plan w l a p old i n owned mine cursors armed bell)
  all_move (Arm q) (idle, inside, mine, classed, none, unarmed) = by_hand (Arm q) Idle idle
      (λ i. all_arm plan w l a p old i q (is_own plan p q mine) none unarmed)
  all_move (Ring q) is = by_hand (Ring q) (Ringing q) is (λ i. all_ring plan w l a p q old i)
  all_move (RingTie q n) is = by_hand (RingTie q n) (RingTying q n) is (λ i. all_ring_tie plan w l a p q n old i)
  all_move (TakeBell n) (idle, owned, none) = by_hand (TakeBell n) Idle idle
      (λ i. all_take_bell plan w l a p old i n owned none)
  all_move (FollowBell q) (idle, is) = by_hand (FollowBell q) Idle idle (λ i. go p.owned refl i) where
    go : (o : Option ℕ) → p.owned ≡ o → slice_get w.parts a ≡ Some (hand p Idle)
        → Agreement plan (apply w a (follow_bell plan (hand p Idle) q)) (elim o as (λ _. PutLists) [
          | Some k
              ↦ cond (w.words.page_link_at q == 0) l (record l {
                bell_chain = put l.bell_chain k (drop 1 (l.bell_chain k));
              })
          | None ↦ l
        ])
    go (Some n) mine i = all_follow_bell plan w l a p old i n q mine is
    go None none i = absurd (let z : None ≡ Some q = sym ((old.lists.own_notes a p at).bell none) ∙ is in cc)
