-- What an owner's steps on its bell leave of what it knows.
use Rattle.std.proofs.Common.{◌≡◌, ℕ, ◌+◌, ◌-◌, ◌*◌, ◌==◌, Bool, true, false, cond, Some, None, [], refl, ap, ◌∙◌}
use Rattle.std.proofs.Common.{arith}
use Rattle.std.proofs.lemmas.Bool.Decides.{nat_tests}
use Rattle.std.specs.Prelude.{nat_lt}
use Rattle.std.proofs.lemmas.Bool.{and_right, and_from}
use Rattle.sh_key.specs.Layout.{Layout}
use Rattle.sh_slots.specs.declared.hand.Hand.TheVariants.{Idle}
use Rattle.sh_stack.specs.Stack.{link_item, top_item}
use Rattle.sh_step.specs.declared.action.Action.TheVariants as action
use Rattle.sh_step.specs.declared.action.PageName.{PageName}
use Rattle.sh_step.specs.declared.body.Body.{Body}
use Rattle.sh_step.specs.declared.moves.Move.{Move}
use Rattle.sh_step.specs.declared.moves.Move.TheVariants as move
use Rattle.sh_step.specs.Collections.{without}
use Rattle.sh_step.specs.Footsteps.{takes_page, takes_bell, meets_page, meets_bell, puts_slot, arms_page}
use Rattle.sh_step.specs.Plans.{Plan, plan_of, shard_of, over_heap, page_number}
use Rattle.sh_table.specs.Steps.{row_by}
use Rattle.sh_table.specs.Tales.{OwnerIsValid}
use Rattle.sh_pass.specs.Passes.{Caller}
use Rattle.sh_pass.specs.Owners.{OwnerDid, OwnerActs, OnPage, SamePages, NonePut, NoneArmed, own_body, seen_page}
use Rattle.sh_pass.specs.Owners.{seen_bell, heap_page, page_rung, bell_taken, bell_followed, page_on_bell}
use Rattle.sh_pass.proofs.OwnNotes.{disarmed_else}
use Rattle.sh_pass.proofs.OwnSteps.{still, more, acts, bell_after, page_after, pages_same}
use Rattle.sh_history.proofs.Standing.{eqb_self}

-- the item that a word of a bell names, over the heap and in its shard
item_named : (plan : Plan) (n k word : ℕ) → cond (nat_lt (over_heap plan n k word) k) None
    (Some (over_heap plan n k word - k)) ≡ cond (nat_lt word k) None (Some (n * plan.pages + (word - k)))
unfolding over_heap page_number
item_named plan n k word = go (nat_lt word k) refl where
  go : (b : Bool) → nat_lt word k ≡ b → cond (nat_lt (cond b word (n * plan.pages + (word - k) + k)) k) None
      (Some (cond b word (n * plan.pages + (word - k) + k) - k)) ≡ cond b None (Some (n * plan.pages + (word - k)))
  go true e = ap (λ c. cond c None (Some (word - k))) e
  go false e =
      let f : nat_lt (n * plan.pages + (word - k) + k) k ≡ false = grind (arith, nat_tests) in
      let g : n * plan.pages + (word - k) + k - k ≡ n * plan.pages + (word - k) = omega arith in
      ap (λ c. cond c None (Some (n * plan.pages + (word - k) + k - k))) f ∙ ap (λ (z : ℕ). Some z) g

module _ (layout : Layout) (v w : Caller) where
  pub take_bell_does : (shard n : ℕ) → (own_body v).hand ≡ Idle → OwnerDid layout action.TakeBell (move.TakeBell shard)
      n v w → OwnerActs Idle [] 1 v w × (seen_bell layout w shard ≡ bell_taken v shard n (seen_bell layout v shard))
      × SamePages v w × NonePut v w × NoneArmed v w
  take_bell_does shard n idle d =
      let p : Body = own_body v in
      let plan : Plan = plan_of layout v.view.shape in
      let m : Move = move.TakeBell shard in
      let b : Body = record p { bell_cursor = top_item (over_heap plan shard 1 n) } in (
        acts layout action.TakeBell m n v w d b refl Idle [] refl refl idle refl refl,
        bell_after layout action.TakeBell m n v w d b refl shard (page_on_bell v shard 1 n) _ _
            (item_named plan shard 1 n)
            (more layout action.TakeBell m n v w d b refl (takes_bell shard) (eqb_self shard))
            (still layout action.TakeBell m n v w d b refl (meets_bell plan shard) refl),
        pages_same layout action.TakeBell m n v w d b refl refl refl refl refl (λ r. refl) (λ r. refl),
        still layout action.TakeBell m n v w d b refl puts_slot refl,
        still layout action.TakeBell m n v w d b refl arms_page refl,
      )

module _ (layout : Layout) (v w : Caller) (x : PageName) (own : OwnerIsValid (plan_of layout v.view.shape) (own_body v))
  where
    bell_none : (n : ℕ) → (n == 0) ≡ true → (own_body v).hand ≡ Idle
        → shard_of (plan_of layout v.view.shape) (heap_page v x) ≡ x.shard
        → OwnerDid layout action.FollowBell (move.FollowBell (heap_page v x)) n v w
        → OwnerActs Idle [] 1 v w × (seen_bell layout w x.shard ≡ record (seen_bell layout v x.shard)
        { met = (seen_bell layout v x.shard).met + 1 }) × OnPage (heap_page v x) (seen_page v (heap_page v x)) v w
        × NonePut v w × NoneArmed v w
    bell_none n none idle at d =
        let q : ℕ = heap_page v x in
        let p : Body = own_body v in
        let plan : Plan = plan_of layout v.view.shape in
        let m : Move = move.FollowBell q in
        let is : (row_by layout v.view m).part n ≡ p = ap (λ c. cond c p
        (record p {
          bell_cursor = link_item (over_heap plan (shard_of plan q) 2 n);
          armed = without (λ y. y == q) p.armed;
        })) none in (
          acts layout action.FollowBell m n v w d p is Idle [] refl refl idle refl refl,
          bell_after layout action.FollowBell m n v w d p is x.shard p.bell_cursor _ _ refl
              (still layout action.FollowBell m n v w d p is (takes_bell x.shard) refl)
              (more layout action.FollowBell m n v w d p is (meets_bell plan x.shard)
              (and_from (shard_of plan q == x.shard) (n == 0) (ap (λ k. k == x.shard) at ∙ eqb_self x.shard) none)),
          record {
            here = pages_same layout action.FollowBell m n v w d p is refl refl refl refl (λ r. refl) (λ r. refl) q;
            others = λ r ne. pages_same layout action.FollowBell m n v w d p is refl refl refl refl (λ r. refl)
                (λ r. refl) r;
          },
          still layout action.FollowBell m n v w d p is puts_slot refl,
          still layout action.FollowBell m n v w d p is arms_page refl,
        )

    bell_some : (n : ℕ) → (n == 0) ≡ false → (own_body v).hand ≡ Idle
        → shard_of (plan_of layout v.view.shape) (heap_page v x) ≡ x.shard
        → OwnerDid layout action.FollowBell (move.FollowBell (heap_page v x)) n v w
        → OwnerActs Idle [] 1 v w × (seen_bell layout w x.shard ≡ record (seen_bell layout v x.shard)
        { cursor = page_on_bell v x.shard 2 n })
        × OnPage (heap_page v x) (record (seen_page v (heap_page v x)) { armed = false }) v w × NonePut v w
        × NoneArmed v w
    bell_some n some idle at d =
        let q : ℕ = heap_page v x in
        let p : Body = own_body v in
        let plan : Plan = plan_of layout v.view.shape in
        let m : Move = move.FollowBell q in
        let b : Body = record p {
          bell_cursor = link_item (over_heap plan (shard_of plan q) 2 n);
          armed = without
              (λ y. y == q) p.armed;
        } in
        let is : (row_by layout v.view m).part n ≡ b = ap (λ c. cond c p b) some in (
          acts layout action.FollowBell m n v w d b is Idle [] refl refl idle refl refl,
          bell_after layout action.FollowBell m n v w d b is x.shard (page_on_bell v x.shard 2 n) _ _
              (ap (λ k. link_item (over_heap plan k 2 n)) at ∙ item_named plan x.shard 2 n)
              (still layout action.FollowBell m n v w d b is (takes_bell x.shard) refl)
              (still layout action.FollowBell m n v w d b is (meets_bell plan x.shard)
              (and_right (shard_of plan q == x.shard) (n == 0) some)),
          record {
            here = page_after layout action.FollowBell m n v w d b is q (record (seen_page v q) { armed = false })
                (λ s. refl) refl (own.armed_once q) refl
                (still layout action.FollowBell m n v w d b is (takes_page q) refl)
                (still layout action.FollowBell m n v w d b is (meets_page q) refl);
            others = λ r ne. page_after layout action.FollowBell m n v w d b is r (seen_page v r) (λ s. refl) refl
                (disarmed_else q r p.armed true ne) refl (still layout action.FollowBell m n v w d b is (takes_page r)
                refl) (still layout action.FollowBell m n v w d b is (meets_page r) refl);
          },
          still layout action.FollowBell m n v w d b is puts_slot refl,
          still layout action.FollowBell m n v w d b is arms_page refl,
        )

    pub follow_bell_does : (n : ℕ) → (own_body v).hand ≡ Idle
        → shard_of (plan_of layout v.view.shape) (heap_page v x) ≡ x.shard
        → OwnerDid layout action.FollowBell (move.FollowBell (heap_page v x)) n v w
        → OwnerActs Idle [] 1 v w
        × (seen_bell layout w x.shard ≡ bell_followed v x.shard n (seen_bell layout v x.shard))
        × OnPage (heap_page v x) (page_rung (seen_page v (heap_page v x)) n) v w × NonePut v w × NoneArmed v w
    follow_bell_does n idle at d = go (n == 0) refl where
      go : (b : Bool) → (n == 0) ≡ b → OwnerActs Idle [] 1 v w ×
          (seen_bell layout w x.shard ≡ cond b (record (seen_bell layout v x.shard)
          { met = (seen_bell layout v x.shard).met + 1 }) (record (seen_bell layout v x.shard)
          { cursor = page_on_bell v x.shard 2 n })) × OnPage (heap_page v x)
          (cond b (seen_page v (heap_page v x)) (record (seen_page v (heap_page v x)) { armed = false })) v w
          × NonePut v w × NoneArmed v w
      go true e = bell_none n e idle at d
      go false e = bell_some n e idle at d
