-- What holds while one pass goes on alone and puts nothing: each link that it follows is written, and what it took from
-- a page or a bell leaves an empty list there. The head of a page that it took stays empty if it arms none.
use Rattle.std.proofs.Common.{◌≡◌, ◌≢◌, ℕ, ◌<◌, ◌≤◌, ◌==◌, ◌&&◌, ◌⊎◌, inl, inr, ⊎_elim, Bool, true, false}
use Rattle.std.proofs.Common.{cond, List, [], ◌∷◌, ◌++◌, refl, ap, sym, ◌∙◌, subst, arith, Option, Some, None}
use Rattle.std.proofs.Common.{slice_get, eq-eqb, eqb-true, ne_eqb}
use Rattle.std.specs.Prelude.{count_by, slice_set, drop}
use Rattle.std.proofs.lemmas.Bool.{cases_eq, false≢true}
use Rattle.sh_slots.specs.declared.hand.Hand.{Hand}
use Rattle.sh_slots.specs.declared.hand.Hand.TheVariants.{Idle, Removing, Leaving, Finishing, ToPut, Tying, Ringing}
use Rattle.sh_slots.specs.declared.hand.Hand.TheVariants.{RingTying, Looking}
use Rattle.sh_slots.specs.declared.hand.Sight.{Sight}
use Rattle.sh_slots.specs.declared.hand.Sight.TheVariants.{Bare, Classed, Measured}
use Rattle.sh_slots.specs.declared.hand.SlotRef.{SlotRef}
use Rattle.sh_slots.specs.Slots.{same_slot, slot_ref_of, live_at, has_room, after_drop, is_reusable_after, name_at}
use Rattle.sh_word.specs.Fields.{fields_of}
use Rattle.sh_step.specs.declared.body.Body.{Body}
use Rattle.sh_step.specs.declared.footstep.Footstep.{Footstep}
use Rattle.sh_step.specs.declared.moves.Move.{Move}
use Rattle.sh_step.specs.declared.moves.Move.TheVariants as move
use Rattle.sh_step.specs.Collections.{total, if1}
use Rattle.sh_step.specs.Conditions.{May, action_of}
use Rattle.sh_step.specs.Footsteps.{footstep_of, takes, bell_takes, met, bell_met, takes_page, takes_bell}
use Rattle.sh_step.specs.Footsteps.{meets_page, meets_bell, puts_slot, arms, arms_page}
use Rattle.sh_step.specs.Moves.{row_of}
use Rattle.sh_step.specs.Operations.{operate}
use Rattle.sh_step.specs.Plans.{Plan, shard_of, over_heap}
use Rattle.sh_step.specs.Rows.{own, hand, look_place}
use Rattle.sh_slots.specs.declared.hand.KeyRef.{KeyRef}
use Rattle.sh_step.proofs.FootstepLaws.{counts_grow}
use Rattle.sh_step.proofs.PartTests.{owns_is}
use Rattle.sh_core.specs.Follows.{LinksOn}
use Rattle.sh_core.specs.Lists.{PutLists}
use Rattle.sh_core.specs.Lists.{chain_followed}
use Rattle.sh_core.specs.Refines.{Refines}
use Rattle.sh_core.specs.Stacks.{slot_ref, link_to, ties_of, ring_ties, cursor_at, bell_cursor_at, bell_link}
use Rattle.sh_core.specs.Words.{put, read, write}
use Rattle.sh_core.specs.Worlds.{World, apply}
use Rattle.sh_core.proofs.Clauses.LinkFacts.{links_of}
use Rattle.sh_core.proofs.Moves.ByMove.{lists_after}
use Rattle.sh_core.proofs.Quiet.{none_of}
use Rattle.sh_core.proofs.Sums.ListCounts.{noted_at, a_first}
use Rattle.sh_core.proofs.Sums.Tests.{cond_either}
use Rattle.sh_core.proofs.Sums.Totals.{get_set, get_set_here, total_at}
use Rattle.sh_core.proofs.Sums.Writes.{put_same, put_other}

-- the hand has no link to write, and no page to ring for
abbrev pub TiesNone : Hand → Type 0
TiesNone (Tying x l r) = ⊥
TiesNone (Ringing q) = ⊥
TiesNone (RingTying q l) = ⊥
TiesNone _ = Unit {0}

no_ties : (x : SlotRef) (h : Hand) → TiesNone h
    → (elim h as (λ _. ℕ) [ Tying y l r ↦ if1 (same_slot x y) | _ ↦ 0 ]) ≡ 0
no_ties x (Tying y l r) none = absurd none
no_ties x _ none = refl

no_ring_ties : (plan : Plan) (n q : ℕ) (h : Hand) → TiesNone h
    → (elim h as (λ _. ℕ) [ RingTying k l ↦ if1 ((n == shard_of plan k) && (q == k)) | _ ↦ 0 ]) ≡ 0
no_ring_ties plan n q (RingTying k l) none = absurd none
no_ring_ties plan n q _ none = refl

-- what a drop leaves in the hand
drops : (x : SlotRef) (n : ℕ) → TiesNone (after_drop x n)
drops x n = cond_either TiesNone ((fields_of n).present && (fields_of n).marked && ((fields_of n).count == 1))
    (Finishing x (fields_of n).generation Bare) Idle tt tt

-- what holds of world and lists since pass a, whose trail was t0 and is t, went on alone
pub record Alone (plan : Plan) (a : ℕ) (w : World) (l : PutLists) (t t0 : List Footstep) : Type 0 where
  pub others : (b : ℕ) (p : Body) → b ≢ a → slice_get w.parts b ≡ Some p → p.hand ≡ Idle
  pub hand : (p : Body) → slice_get w.parts a ≡ Some p → TiesNone p.hand
  pub stack : (q : ℕ) → (takes q t ≡ takes q t0) ⊎ (l.stack q ≡ [])
  pub bells : (n : ℕ) → (bell_takes n t ≡ bell_takes n t0) ⊎ (l.bells n ≡ [])
  pub met : (q : ℕ) → met q t ≡ met q t0
  pub bell_met : (n : ℕ) → bell_met plan n t ≡ bell_met plan n t0
  pub armed_more : arms t0 ≤ arms t
  pub heads : (q : ℕ) → arms t ≡ arms t0 → (takes q t ≡ takes q t0) ⊎ (w.words.head_at q ≡ 0)

some_link : (xs : List ℕ) → 0 < link_to xs
some_link [] = omega arith
some_link (x ∷ xs) = omega arith

module _ (plan : Plan) (a : ℕ) (w : World) (l : PutLists) (all : Refines plan w l) (t t0 : List Footstep)
    (old : Alone plan a w l t t0) (p : Body) (at : slice_get w.parts a ≡ Some p) where
  keep : TiesNone p.hand
  keep = old.hand p at

  each_hand : (b : ℕ) (u : Body) → slice_get w.parts b ≡ Some u → TiesNone u.hand
  each_hand b u has = ⊎_elim
      (λ (is : b ≡ a). old.hand u (subst (λ z. slice_get w.parts z ≡ Some u) is has))
      (λ (other : b ≢ a). subst TiesNone (sym (old.others b u other has)) tt)
      (cases_eq b a)

  ties : (q s : ℕ) → total (ties_of (slot_ref q s)) w.parts ≡ 0
  ties q s = none_of (ties_of (slot_ref q s)) w.parts (λ b u has. no_ties (slot_ref q s) u.hand (each_hand b u has))

  ring_ties_none : (n q : ℕ) → total (ring_ties plan n q) w.parts ≡ 0
  ring_ties_none n q = none_of (ring_ties plan n q) w.parts
      (λ b u has. no_ring_ties plan n q u.hand (each_hand b u has))

  -- ---- each link that is followed is written

  link_found : (q s : ℕ) → May plan p (move.Follow q s) → (w.words.link_at q s == 0) ≡ false
  link_found q s may =
      let here : 0 < cursor_at q s p = noted_at q s p.cursors may.3 in
      let more = total_at (cursor_at q s) w.parts a p at in
      let is = all.linked.0.cursors q s in
      let first = a_first (l.chain q) s (omega (arith, here, more, is)) in
      let on : LinksOn (w.words.link_at q) (λ r. total (ties_of (slot_ref q r)) w.parts) (s ∷ drop 1 (l.chain q))
      = subst (LinksOn (w.words.link_at q) (λ r. total (ties_of (slot_ref q r)) w.parts)) first
      ((links_of plan w l all).chain q) in
      let free = ties q s in
      let some = some_link (drop 1 (l.chain q)) in
      ⊎_elim (λ h. let one = h.1 in absurd (omega (arith, one, free)))
      (λ h. let e = h.0 in ne_eqb (w.words.link_at q s) 0 (λ z. omega (arith, z, e, some))) on.0

  unlinked : (n q k : ℕ) → k ≡ 0 → (cond (n == shard_of plan q) (over_heap plan n 2 k) 0) ≡ 0
  unfolding over_heap
  unlinked n q k is = subst (λ j. (cond (n == shard_of plan q) (over_heap plan n 2 j) 0) ≡ 0) (sym is)
      (cond_either (λ (z : ℕ). z ≡ 0) (n == shard_of plan q) 0 0 refl refl)

  bell_link_found : (q : ℕ) → May plan p (move.FollowBell q) → (w.words.page_link_at q == 0) ≡ false
  bell_link_found q may =
      let n = shard_of plan q in
      let owned : p.owned ≡ Some n = owns_is plan p q ((all.parts a p at).bell q may.1).0 in
      let here : bell_cursor_at n q p ≡ 1 = rw (owned, may.1, eq-eqb n n refl, eq-eqb q q refl) refl in
      let more = total_at (bell_cursor_at n q) w.parts a p at in
      let is = all.linked.1.cursors n q in
      let first = a_first (l.bell_chain n) q (omega (arith, here, more, is)) in
      let on : LinksOn (bell_link plan w.words.page_link_at n) (λ r. total (ring_ties plan n r) w.parts) (q ∷ drop 1
      (l.bell_chain n))
      = subst (LinksOn (bell_link plan w.words.page_link_at n) (λ r. total (ring_ties plan n r) w.parts)) first
      ((links_of plan w l all).bell_chain n) in
      let free = ring_ties_none n q in
      let some = some_link (drop 1 (l.bell_chain n)) in
      go (w.words.page_link_at q == 0) refl (⊎_elim (λ h. let one = h.1 in absurd (omega (arith, one, free)))
      (λ h. let e = h.0 in omega (arith, e, some)) on.0) where
        go : (b : Bool) → (w.words.page_link_at q == 0) ≡ b
            → 0 < bell_link plan w.words.page_link_at (shard_of plan q) q → b ≡ false
        go false is some = refl
        go true is some =
            let none : bell_link plan w.words.page_link_at (shard_of plan q) q ≡ 0 = unlinked (shard_of plan q) q
            (w.words.page_link_at q) (eqb-true (w.words.page_link_at q) 0 is) in absurd (omega (arith, some, none))

  -- ---- what each move leaves, if it puts nothing

  abbrev found : Move → ℕ
  found m = read w.words (row_of plan p m).place

  abbrev trod : Move → Footstep
  trod m = footstep_of (action_of plan m) (row_of plan p m) (found m)

  abbrev lists : Move → PutLists
  lists m = lists_after plan p m (found m) l

  unmoved : (f : Footstep → Bool) (s : Footstep) → f s ≡ false → count_by f (t ++ s ∷ []) ≡ count_by f t
  unmoved f s is = let c = counts_grow f t s in let z : if1 (f s) ≡ 0 = ap if1 is in omega (arith, c, z)

  still : (q : ℕ) (s : Footstep) (k : PutLists) → takes_page q s ≡ false → k.stack q ≡ l.stack q
      → (takes q (t ++ s ∷ []) ≡ takes q t0) ⊎ (k.stack q ≡ [])
  still q s k untaken same = ⊎_elim (λ e. inl (unmoved (takes_page q) s untaken ∙ e)) (λ h. inr (same ∙ h))
      (old.stack q)

  emptied : (q r : ℕ) (s : Footstep) (k : PutLists) → takes_page q s ≡ (r == q) → k.stack ≡ put l.stack r []
      → (takes q (t ++ s ∷ []) ≡ takes q t0) ⊎ (k.stack q ≡ [])
  emptied q r s k test is = go (r == q) refl where
    go : (b : Bool) → (r == q) ≡ b → (takes q (t ++ s ∷ []) ≡ takes q t0) ⊎ (k.stack q ≡ [])
    go true same = inr (ap (λ (f : ℕ → List ℕ). f q) is ∙ subst (λ z. put l.stack r [] z ≡ []) (eqb-true r q same)
        (put_same l.stack r []))
    go false other =
        let apart : q ≢ r = λ e. false≢true (sym other ∙ eq-eqb r q (sym e)) in
        still q s k (test ∙ other) (ap (λ (f : ℕ → List ℕ). f q) is ∙ put_other l.stack r q [] (ne_eqb q r apart))

  stack_after : (m : Move) → puts_slot (trod m) ≡ false → (q : ℕ)
      → (takes q (t ++ trod m ∷ []) ≡ takes q t0) ⊎ ((lists m).stack q ≡ [])
  stack_after (move.Put x) none q = absurd (false≢true (sym none))
  stack_after (move.PutSlot x) none q = absurd (false≢true (sym none))
  stack_after (move.Take r) none q = emptied q r (trod (move.Take r)) (lists (move.Take r)) refl refl
  stack_after (move.Arm r) none q = emptied q r (trod (move.Arm r)) (lists (move.Arm r)) refl refl
  stack_after (move.Follow r s) none q = still q (trod (move.Follow r s)) (lists (move.Follow r s)) refl
      (cond_either (λ (k : PutLists). k.stack q ≡ l.stack q) (w.words.link_at r s == 0) l (chain_followed l r) refl
      refl)
  stack_after (move.FollowBell r) none q = still q (trod (move.FollowBell r)) (lists (move.FollowBell r)) refl
      (by_owned p.owned) where
        by_owned : (o : Option ℕ) → (elim o as (λ _. PutLists) [
          | Some k ↦ cond (w.words.page_link_at r == 0) l
              (record l { bell_chain = put l.bell_chain k (drop 1 (l.bell_chain k)) })
          | None ↦ l
        ]).stack q ≡ l.stack q
        by_owned None = refl
        by_owned (Some k) = cond_either (λ (z : PutLists). z.stack q ≡ l.stack q) (w.words.page_link_at r == 0) l _ refl
            refl
  stack_after m none q = still q (trod m) (lists m) refl refl

  bells_still : (n : ℕ) (s : Footstep) (k : PutLists) → takes_bell n s ≡ false → k.bells n ≡ l.bells n
      → (bell_takes n (t ++ s ∷ []) ≡ bell_takes n t0) ⊎ (k.bells n ≡ [])
  bells_still n s k untaken same = ⊎_elim (λ e. inl (unmoved (takes_bell n) s untaken ∙ e)) (λ h. inr (same ∙ h))
      (old.bells n)

  bells_emptied : (n k : ℕ) (b : Bool) → (k == n) ≡ b
      → (bell_takes n (t ++ trod (move.TakeBell k) ∷ []) ≡ bell_takes n t0) ⊎ (put l.bells k [] n ≡ [])
  bells_emptied n k true same = inr (subst (λ z. put l.bells k [] z ≡ []) (eqb-true k n same) (put_same l.bells k []))
  bells_emptied n k false other =
      let apart : n ≢ k = λ e. false≢true (sym other ∙ eq-eqb k n (sym e)) in
      bells_still n (trod (move.TakeBell k)) (lists (move.TakeBell k)) other
      (put_other l.bells k n [] (ne_eqb n k apart))

  bells_after : (m : Move) → May plan p m → (n : ℕ)
      → (bell_takes n (t ++ trod m ∷ []) ≡ bell_takes n t0) ⊎ ((lists m).bells n ≡ [])
  bells_after (move.Ring r) may n = absurd (subst TiesNone may keep)
  bells_after (move.TakeBell k) may n = bells_emptied n k (k == n) refl
  bells_after (move.Follow r s) may n = bells_still n (trod (move.Follow r s)) (lists (move.Follow r s)) refl
      (cond_either (λ (k : PutLists). k.bells n ≡ l.bells n) (w.words.link_at r s == 0) l (chain_followed l r) refl
      refl)
  bells_after (move.FollowBell r) may n = bells_still n (trod (move.FollowBell r)) (lists (move.FollowBell r)) refl
      (by_owned p.owned) where
        by_owned : (o : Option ℕ) → (elim o as (λ _. PutLists) [
          | Some k ↦ cond (w.words.page_link_at r == 0) l
              (record l { bell_chain = put l.bell_chain k (drop 1 (l.bell_chain k)) })
          | None ↦ l
        ]).bells n ≡ l.bells n
        by_owned None = refl
        by_owned (Some k) = cond_either (λ (z : PutLists). z.bells n ≡ l.bells n) (w.words.page_link_at r == 0) l _ refl
            refl
  bells_after m may n = bells_still n (trod m) (lists m) refl refl

  and_false : (b c : Bool) → c ≡ false → (b && c) ≡ false
  and_false true c is = is
  and_false false c is = refl

  met_after : (m : Move) → May plan p m → (q : ℕ) → met q (t ++ trod m ∷ []) ≡ met q t0
  met_after (move.Follow r s) may q = unmoved (meets_page q) (trod (move.Follow r s))
      (and_false (r == q) (w.words.link_at r s == 0) (link_found r s may)) ∙ old.met q
  met_after m may q = unmoved (meets_page q) (trod m) refl ∙ old.met q

  bell_met_after : (m : Move) → May plan p m → (n : ℕ) → bell_met plan n (t ++ trod m ∷ []) ≡ bell_met plan n t0
  bell_met_after (move.FollowBell r) may n = unmoved (meets_bell plan n) (trod (move.FollowBell r))
      (and_false (shard_of plan r == n) (w.words.page_link_at r == 0) (bell_link_found r may)) ∙ old.bell_met n
  bell_met_after m may n = unmoved (meets_bell plan n) (trod m) refl ∙ old.bell_met n

  arms_before : (s : Footstep) → arms (t ++ s ∷ []) ≡ arms t0 → arms t ≡ arms t0
  arms_before s same =
      let more = counts_grow arms_page t s in
      let few = old.armed_more in omega (arith, more, few, same)

  abbrev head_after : Move → ℕ → ℕ
  head_after m q = (write w.words (row_of plan p m).place (operate (row_of plan p m).operation (found m))).head_at q

  heads_still : (q : ℕ) (s : Footstep) (h : ℕ) → takes_page q s ≡ false → h ≡ w.words.head_at q → arms t ≡ arms t0
      → (takes q (t ++ s ∷ []) ≡ takes q t0) ⊎ (h ≡ 0)
  heads_still q s h untaken same none = ⊎_elim (λ e. inl (unmoved (takes_page q) s untaken ∙ e))
      (λ z. inr (same ∙ z)) (old.heads q none)

  -- a load of a look leaves the heads
  look_leaves : (x : KeyRef) (s : Sight) (q : ℕ)
      → (write w.words (look_place x s) (read w.words (look_place x s))).head_at q ≡ w.words.head_at q
  look_leaves x Bare q = refl
  look_leaves x (Classed c) q = refl
  look_leaves x (Measured c m v) q = refl

  heads_after : (m : Move) → puts_slot (trod m) ≡ false → (q : ℕ) → arms (t ++ trod m ∷ []) ≡ arms t0
      → (takes q (t ++ trod m ∷ []) ≡ takes q t0) ⊎ (head_after m q ≡ 0)
  heads_after (move.Put x) none q same = absurd (false≢true (sym none))
  heads_after (move.PutSlot x) none q same = absurd (false≢true (sym none))
  heads_after (move.Arm r) none q same =
      let more = counts_grow arms_page t (trod (move.Arm r)) in
      let one : if1 (arms_page (trod (move.Arm r))) ≡ 1 = refl in
      let few = old.armed_more in absurd (omega (arith, more, one, few, same))
  heads_after (move.Take r) none q same = by_page (r == q) refl where
    by_page : (b : Bool) → (r == q) ≡ b
        → (takes q (t ++ trod (move.Take r) ∷ []) ≡ takes q t0) ⊎ (put w.words.head_at r 0 q ≡ 0)
    by_page true is = inr (subst (λ z. put w.words.head_at r 0 z ≡ 0) (eqb-true r q is)
        (put_same w.words.head_at r 0))
    by_page false is =
        let apart : q ≢ r = λ e. false≢true (sym is ∙ eq-eqb r q (sym e)) in
        heads_still q (trod (move.Take r)) (put w.words.head_at r 0 q) is
        (put_other w.words.head_at r q 0 (ne_eqb q r apart)) (arms_before (trod (move.Take r)) same)
  heads_after (move.LookOn k x s) none q same = heads_still q (trod (move.LookOn k x s))
      (head_after (move.LookOn k x s) q) refl (look_leaves x s q) (arms_before (trod (move.LookOn k x s)) same)
  heads_after (move.ReadEnding x g s) none q same = heads_still q (trod (move.ReadEnding x g s))
      (head_after (move.ReadEnding x g s) q) refl (look_leaves (name_at x g) s q)
      (arms_before (trod (move.ReadEnding x g s)) same)
  heads_after m none q same = heads_still q (trod m) (head_after m q) refl refl (arms_before (trod m) same)

  abbrev NoTies : Body → Type 0
  NoTies u = TiesNone u.hand

  hand_after : (m : Move) → May plan p m → puts_slot (trod m) ≡ false → (n : ℕ) → NoTies ((row_of plan p m).part n)
  hand_after (move.EnterGet k x) may none n = cond_either NoTies
      (live_at x.generation n && has_room plan.keys.guard_max n) (record p { holds = k ∷ p.holds })
      (hand p (Leaving (slot_ref_of x))) keep tt
  hand_after (move.EnterRemove k x) may none n = cond_either TiesNone (live_at x.generation n) (Removing k)
      (Leaving (slot_ref_of x)) tt tt
  hand_after (move.Mark k x) may none n = tt
  hand_after (move.Drop x) may none n = drops x n
  hand_after (move.DropHold k x) may none n = drops (slot_ref_of x) n
  hand_after (move.Finish x g) may none n = cond_either NoTies (is_reusable_after g plan.keys.gen_max n)
      (cond (own plan p x.page) (hand (record p { mine = x ∷ p.mine }) Idle) (hand p (ToPut x))) (hand p Idle)
      (cond_either NoTies (own plan p x.page) (hand (record p { mine = x ∷ p.mine }) Idle) (hand p (ToPut x)) tt tt) tt
  hand_after (move.ReadEnding x g s) may none n = tt
  hand_after (move.FillSlot x v) may none n = tt
  hand_after (move.Fill x v i c) may none n = tt
  hand_after (move.Publish x v) may none n = tt
  hand_after (move.Follow q s) may none n = cond_either NoTies (n == 0) p _ keep keep
  hand_after (move.FollowBell q) may none n = cond_either NoTies (n == 0) p _ keep keep
  hand_after (move.Adopt k) may none n = cond_either NoTies (n == 0) _ p keep keep
  hand_after (move.Put x) may none n = absurd (false≢true (sym none))
  hand_after (move.PutSlot x) may none n = absurd (false≢true (sym none))
  hand_after (move.Tie x k r) may none n = absurd (subst TiesNone may keep)
  hand_after (move.Ring q) may none n = absurd (subst TiesNone may keep)
  hand_after (move.RingTie q k) may none n = absurd (subst TiesNone may keep)
  hand_after (move.Look k x) may none n = cond_either TiesNone (live_at x.generation n) (Looking k x Bare) Idle tt tt
  hand_after (move.LookOn k x s) may none n = tt
  hand_after (move.LookAgain k x s) may none n = tt
  hand_after m may none n = keep

  -- one step of the pass
  pub advance : (m : Move) → May plan p m → puts_slot (trod m) ≡ false
      → Alone plan a (apply w a (row_of plan p m)) (lists m) (t ++ trod m ∷ []) t0
  unfolding apply
  advance m may none =
      let u : Body = (row_of plan p m).part (found m) in record {
        others = λ b v other has. ⊎_elim (λ h. absurd (other h.0)) (λ h. old.others b v other h.1)
            (get_set w.parts a b u v has);
        hand = λ v has.
            let here : slice_get (slice_set w.parts a u) a ≡ Some u = get_set_here w.parts a p u at in
            let both : Some u ≡ Some v = sym here ∙ has in
            let same : u ≡ v = cc in subst NoTies same (hand_after m may none (found m));
        stack = stack_after m none;
        bells = bells_after m may;
        met = met_after m may;
        bell_met = bell_met_after m may;
        armed_more = let more = counts_grow arms_page t (trod m) in let few = old.armed_more in
            omega (arith, more, few);
        heads = heads_after m none;
      }
