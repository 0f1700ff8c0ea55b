-- What a part names stays within the heap, step by step.
use Rattle.std.proofs.Common.{◌≡◌, ℕ, ◌+◌, ◌%◌, ◌<◌, ◌≤◌, ◌==◌, ◌&&◌, ⊎_elim, Bool, true, false, cond, [], ◌∷◌, refl}
use Rattle.std.proofs.Common.{sym, ◌∙◌, subst, arith, Some, None, slice_get, eqb-true}
use Rattle.std.specs.Prelude.{not, nat_lt}
use Rattle.sh_word.specs.Fields.{fields_of}
use Rattle.sh_slots.specs.declared.hand.SlotRef.{SlotRef}
use Rattle.sh_slots.specs.declared.hand.Hand.{Hand}
use Rattle.sh_slots.specs.Slots.{slot_ref_of, live_at, after_drop, marked_word, sight_with}
use Rattle.sh_step.specs.declared.body.Body.{Body}
use Rattle.sh_step.specs.Collections.{if1, without}
use Rattle.sh_core.specs.Worlds.{World, apply, open_world}
use Rattle.sh_core.specs.Lists.{times}
use Rattle.sh_shape.specs.declared.places.Place.{Place}
use Rattle.sh_shape.specs.declared.places.Place.TheVariants.{State}
use Rattle.sh_core.specs.Words.{read}
use Rattle.sh_core.specs.InHeap.{InHeap, HandWithin, AllInHeap}
use Rattle.sh_core.proofs.Sums.Totals.{get_set}
use Rattle.sh_core.proofs.Clauses.OpenSums.{part_new}
use Rattle.sh_slots.specs.declared.hand.Hand.TheVariants.{Idle, Removing, Leaving, Finishing, ToPut, Tying, Ringing}
use Rattle.sh_slots.specs.declared.hand.Hand.TheVariants.{RingTying, Filling, Looking}
use Rattle.sh_slots.specs.declared.hand.Sight.TheVariants.{Bare}
use Rattle.sh_stack.specs.Stack.{link_over}
use Rattle.sh_bell.specs.Bell.{is_armed, top_of}
use Rattle.sh_step.specs.declared.moves.Move.{Move}
use Rattle.sh_step.specs.declared.moves.Move.TheVariants.{EnterGet, EnterRemove, Mark, Drop, DropHold, Finish, FillSlot}
use Rattle.sh_step.specs.declared.moves.Move.TheVariants.{Fill, Publish, Take, Follow, Put, PutSlot, Tie, Adopt, Leave}
use Rattle.sh_step.specs.declared.moves.Move.TheVariants.{Arm, Ring, RingTie, FollowBell, Look, LookOn, LookAgain}
use Rattle.sh_step.specs.declared.moves.Move.TheVariants.{ReadEnding}
use Rattle.sh_step.specs.Moves.{row_of}
use Rattle.sh_step.specs.Plans.{Plan, heap_pages}
use Rattle.sh_step.specs.Rows.{Row, own, hand as in_hand}
use Rattle.sh_step.specs.Conditions.{May, SlotWithin}
use Rattle.sh_core.proofs.Sums.ListCounts.{times_cons, times_none, times_less}
use Rattle.sh_core.proofs.Sums.Tests.{cond_either}

-- if a slot's state word is found, its generation is at most the last one
abbrev IsStateOf : Plan → Row → ℕ → Type 0
IsStateOf plan r n = (q s : ℕ) → r.place ≡ State q s → (fields_of n).generation ≤ plan.keys.gen_max

-- what is known of the hand says that it names places of the heap
pub hand_within : (plan : Plan) (p : Body) (h : Hand) → InHeap plan p → p.hand ≡ h → HandWithin plan h
hand_within plan p h old is = subst (HandWithin plan) is old.hand

module _ (plan : Plan) (p : Body) (old : InHeap plan p) where
  -- the same shard, and no further armed page
  stays : (u : Body) → HandWithin plan u.hand → u.owned ≡ p.owned → ((q : ℕ) → times q u.armed ≤ times q p.armed)
      → InHeap plan u
  stays u h o less = record {
    hand = h;
    owned = λ n e. old.owned n (sym o ∙ e);
    armed = λ q some. let l = less q
        in old.armed q (omega arith);
  }

  within_drop : (x : SlotRef) (n : ℕ) → SlotWithin plan x → (fields_of n).generation ≤ plan.keys.gen_max
      → HandWithin plan (after_drop x n)
  within_drop x n w few = go ((fields_of n).present && (fields_of n).marked && ((fields_of n).count == 1)) where
    go : (b : Bool) → HandWithin plan (cond b (Finishing x (fields_of n).generation Bare) Idle)
    go true = (w, few)
    go false = tt

  -- the same shard and armed pages, with another hand
  with_hand : (h : Hand) → HandWithin plan h → InHeap plan (in_hand p h)
  with_hand h w = record { hand = w; owned = old.owned; armed = old.armed }

  pub within_part : (m : Move) → May plan p m → (n : ℕ) → IsStateOf plan (row_of plan p m) n
      → InHeap plan ((row_of plan p m).part n)
  within_part (EnterGet k x) (idle, named, few) n f =
      cond_either (InHeap plan) (live_at x.generation n && nat_lt (fields_of n).count plan.keys.guard_max)
      (record p { holds = k ∷ p.holds }) (in_hand p (Leaving (slot_ref_of x)))
      (stays (record p { holds = k ∷ p.holds }) old.hand refl (λ q. omega arith))
      (stays (in_hand p (Leaving (slot_ref_of x))) (named.page, named.slot) refl (λ q. omega arith))
  within_part (EnterRemove k x) (idle, named) n f = go (live_at x.generation n) where
    go : (b : Bool) → InHeap plan (in_hand p (cond b (Removing k) (Leaving (slot_ref_of x))))
    go true = stays (in_hand p (Removing k)) (x, named) refl (λ q. omega arith)
    go false = stays (in_hand p (Leaving (slot_ref_of x))) (named.page, named.slot) refl (λ q. omega arith)
  within_part (Mark k x) (is, named) n f =
      stays (in_hand p (Leaving (slot_ref_of x))) (named.page, named.slot) refl (λ q. omega arith)
  within_part (Drop x) is n f = stays (in_hand p (after_drop x n))
      (within_drop x n (hand_within plan p (Leaving x) old is) (f x.page x.slot refl)) refl (λ q. omega arith)
  within_part (DropHold k x) (idle, named, is) n f = record {
    hand = within_drop (slot_ref_of x) n (named.page, named.slot) (f x.page x.slot refl);
    owned = old.owned;
    armed = old.armed;
  }
  within_part (ReadEnding x g s) (is, more) n f = with_hand (Finishing x g (sight_with s n))
      (hand_within plan p (Finishing x g s) old is)
  within_part (Finish x g) (s, is) n f = cond_either (InHeap plan) ((n == marked_word g) && not (g == plan.keys.gen_max))
      (cond (own plan p x.page) (in_hand (record p { mine = x ∷ p.mine }) Idle) (in_hand p (ToPut x)))
      (in_hand p Idle)
      (cond_either (InHeap plan) (own plan p x.page) (in_hand (record p { mine = x ∷ p.mine }) Idle)
      (in_hand p (ToPut x)) (stays (in_hand (record p { mine = x ∷ p.mine }) Idle) tt refl (λ q. omega arith))
      (stays (in_hand p (ToPut x)) (hand_within plan p (Finishing x g s) old is).0 refl (λ q. omega arith)))
      (stays (in_hand p Idle) tt refl (λ q. omega arith))
  within_part (FillSlot x v) may n f = record { hand = may.1; owned = old.owned; armed = old.armed }
  within_part (Fill x v i c) (is, less, noted_is) n f = with_hand (Filling x v (i + 1))
      (hand_within plan p (Filling x v i) old is)
  within_part (Publish x v) may n f = with_hand Idle tt
  within_part (Take q) may n f = record { hand = old.hand; owned = old.owned; armed = go (n % 2 == 1) } where
    go : (b : Bool) (k : ℕ) → 0 < times k (cond b (without (λ x. x == q) p.armed) p.armed) → k < heap_pages plan
    go true k some = let l = times_less q k p.armed in old.armed k (omega arith)
    go false k some = old.armed k some
  within_part (Follow q s) may n f = cond_either (InHeap plan) (n == 0) p _ old
      (record { hand = old.hand; owned = old.owned; armed = old.armed })
  within_part (Put x) is n f = with_hand (Tying x (link_over (top_of n)) (is_armed n))
      (hand_within plan p (ToPut x) old is)
  within_part (PutSlot x) may n f = record { hand = may.1; owned = old.owned; armed = old.armed }
  within_part (Tie x l r) is n f = go r (hand_within plan p (Tying x l r) old is).0 where
    go : (b : Bool) → x.page < heap_pages plan → InHeap plan (in_hand p (cond b (Ringing x.page) Idle))
    go true w = with_hand (Ringing x.page) w
    go false w = with_hand Idle tt
  within_part (Adopt k) (idle, free, small) n f = cond_either (InHeap plan) (n == 0) _ p (record {
    hand = old.hand;
    owned = λ j is. let s : k ≡ j = let z : Some k ≡ Some j = is in cc in omega arith;
    armed = λ q some. let z : times q [] ≡ 0 = times_none q in absurd (omega arith);
  }) old
  within_part (Leave k) may n f = record {
    hand = old.hand;
    owned = λ j is. absurd (let z : None ≡ Some j = is in cc);
    armed = old.armed;
  }
  within_part (Arm q) may n f = record {
    hand = old.hand;
    owned = old.owned;
    armed = λ k some. go k (q == k) refl (let t = times_cons k q p.armed in let z : 0 < times k (q ∷ p.armed) = some
        in omega arith);
  } where
    go : (k : ℕ) (b : Bool) → (q == k) ≡ b → 0 < if1 (q == k) + times k p.armed → k < heap_pages plan
    go k true e some = let i = eqb-true q k e in let inside = may.1 in omega arith
    go k false e some = old.armed k (let z : if1 (q == k) ≡ 0 = rw e refl in omega arith)
  within_part (Ring q) is n f = with_hand (RingTying q (link_over n)) (hand_within plan p (Ringing q) old is)
  within_part (RingTie q l) is n f = with_hand Idle tt
  within_part (FollowBell q) may n f = cond_either (InHeap plan) (n == 0) p _ old (record {
    hand = old.hand;
    owned = old.owned;
    armed = λ k some. let l = times_less q k p.armed in old.armed k (omega arith);
  })
  within_part (Look k x) (idle, named) n f = go (live_at x.generation n) where
    go : (b : Bool) → InHeap plan (in_hand p (cond b (Looking k x Bare) Idle))
    go true = with_hand (Looking k x Bare) named
    go false = with_hand Idle tt
  within_part (LookOn k x s) (is, more) n f = with_hand (Looking k x (sight_with s n))
      (hand_within plan p (Looking k x s) old is)
  within_part (LookAgain k x s) may n f = with_hand Idle tt
  within_part m may n f = record { hand = old.hand; owned = old.owned; armed = old.armed }

-- of what is read there
state_read : (plan : Plan) (w : World) (r : Row) → ((q s : ℕ) → (fields_of (w.words.state_at q s)).generation ≤
    plan.keys.gen_max) → IsStateOf plan r (read w.words r.place)
state_read plan w r few q s at = let P : Place → Type 0 = λ x. (fields_of (read w.words x)).generation ≤
    plan.keys.gen_max in subst P (sym at) (few q s)

pub places_move : (plan : Plan) (w : World) (a : ℕ) (p : Body) (m : Move) → ((q s : ℕ)
    → (fields_of (w.words.state_at q s)).generation ≤ plan.keys.gen_max) → slice_get w.parts a ≡ Some p → May plan p m
    → AllInHeap plan w → AllInHeap plan (apply w a (row_of plan p m))
unfolding apply
places_move plan w a p m few at may old b u i =
    let r : Row = row_of plan p m in
    let n : ℕ = read w.words r.place in
    ⊎_elim (λ d. subst (InHeap plan) d.1 (within_part plan p (old a p at) m may n (state_read plan w r few)))
    (λ d. old b u d.1) (get_set w.parts a b (r.part n) u i)

pub places_open : (plan : Plan) → AllInHeap plan (open_world plan)
places_open plan a p at =
    let e = part_new plan.passes a p at in
    let P : Body → Type 0 = λ u. InHeap plan u in
    subst P e (record {
      hand = tt;
      owned = λ n h. absurd (let z : None ≡ Some n = h in cc);
      armed = λ q h. absurd
          (let z : times q [] ≡ 0 = times_none q in omega arith);
    })
