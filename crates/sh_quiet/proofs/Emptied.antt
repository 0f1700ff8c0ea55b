-- What is left on a page and on a bell of an owner, if no pass has begun anything.
use Rattle.std.proofs.Common.{◌≡◌, ℕ, zero, suc, ◌+◌, ◌<◌, ◌==◌, Bool, true, false, cond, [], refl, ap, sym, ◌∙◌, subst}
use Rattle.std.proofs.Common.{arith, Option, Some, None, slice_get, eqb-true}
use Rattle.sh_shape.specs.Classes.{slots}
use Rattle.sh_slots.specs.declared.hand.SlotRef.{SlotRef}
use Rattle.sh_slots.specs.Slots.{same_slot}
use Rattle.sh_step.specs.declared.body.Body.{Body}
use Rattle.sh_step.specs.Collections.{total, has, noted}
use Rattle.sh_step.specs.Plans.{Plan, shard_of}
use Rattle.sh_step.specs.Rows.{own}
use Rattle.sh_step.proofs.PartTests.{owns_is}
use Rattle.sh_core.specs.Bells.{rings, armed_at}
use Rattle.sh_core.specs.Lists.{PutLists, mine_at, in_hand, state_of, times}
use Rattle.sh_core.specs.Quiet.{Quiet}
use Rattle.sh_core.specs.Refines.{Refines, live, marked, retired}
use Rattle.sh_core.specs.Stacks.{slot_ref, cursor_at, bell_cursor_at, is_at}
use Rattle.sh_core.specs.Worlds.{World}
use Rattle.sh_core.proofs.Clauses.Follows.{kinds_of}
use Rattle.sh_core.proofs.Quiet.{none_of}
use Rattle.sh_core.proofs.Sums.ListCounts.{has_some, has_none, not_noted, no_first}
use Rattle.sh_core.proofs.Sums.Totals.{total_at}

some_if : (n : ℕ) → (0 < n → ⊥) → n ≡ 0
some_if zero none = refl
some_if (suc n) none = absurd (none (omega arith))

module _ (plan : Plan) (w : World) (l : PutLists) (all : Refines plan w l) (quiet : Quiet w) (a : ℕ) (p : Body)
    (at : slice_get w.parts a ≡ Some p) where
  same_part : (b : ℕ) (u : Body) → slice_get w.parts b ≡ Some u → b ≡ a → u ≡ p
  same_part b u has is =
      let here : slice_get w.parts a ≡ Some u = subst (λ z. slice_get w.parts z ≡ Some u) is has in
      let both : Some u ≡ Some p = sym here ∙ at in cc

  -- a pass that owns the page's shard is this one
  its_owner : (q b : ℕ) (u : Body) → own plan p q ≡ true → slice_get w.parts b ≡ Some u → own plan u q ≡ true → u ≡ p
  its_owner q b u mine has its = same_part b u has
      (all.owners.alone b a u p (shard_of plan q) has at (owns_is plan u q its)
      (owns_is plan p q mine))

  no_cursors : (q s : ℕ) → own plan p q ≡ true → noted q p.cursors ≡ None → total (cursor_at q s) w.parts ≡ 0
  no_cursors q s mine none = none_of (cursor_at q s) w.parts (λ b u has. go b u has (noted q u.cursors) refl) where
    go : (b : ℕ) (u : Body) → slice_get w.parts b ≡ Some u → (o : Option ℕ) → noted q u.cursors ≡ o
        → cursor_at q s u ≡ 0
    go b u has None is = not_noted q s u.cursors is
    go b u has (Some r) is =
        let same : u ≡ p = its_owner q b u mine has ((all.parts b u has).cursors q r is).0 in
        let both : None ≡ Some r = sym none ∙ (ap (λ (z : Body). noted q z.cursors) (sym same) ∙ is) in
        absurd (let z : ⊥ = cc in z)

  pub chain_ends : (q : ℕ) → own plan p q ≡ true → noted q p.cursors ≡ None → l.chain q ≡ []
  chain_ends q mine none = no_first (l.chain q) (λ s. sym (all.linked.0.cursors q s) ∙ no_cursors q s mine none)

  no_bell_cursors : (n q : ℕ) → p.owned ≡ Some n → p.bell_cursor ≡ None → total (bell_cursor_at n q) w.parts ≡ 0
  no_bell_cursors n q owned none = none_of (bell_cursor_at n q) w.parts (λ b u has. go b u has u.owned refl) where
    go : (b : ℕ) (u : Body) → slice_get w.parts b ≡ Some u → (o : Option ℕ) → u.owned ≡ o
        → (elim o as (λ _. ℕ) [ Some k ↦ cond (k == n) (is_at u.bell_cursor q) 0 | None ↦ 0 ]) ≡ 0
    go b u has None is = refl
    go b u has (Some k) is = by (k == n) refl where
      by : (c : Bool) → (k == n) ≡ c → cond c (is_at u.bell_cursor q) 0 ≡ 0
      by false other = refl
      by true it =
          let its : u.owned ≡ Some n = is ∙ ap (λ (z : ℕ). Some z) (eqb-true k n it) in
          let same : u ≡ p = same_part b u has (all.owners.alone b a u p n has at its owned) in
          ap (λ (o : Option ℕ). is_at o q) (ap (λ (z : Body). z.bell_cursor) same ∙ none)

  pub bell_chain_ends : (n : ℕ) → p.owned ≡ Some n → p.bell_cursor ≡ None → l.bell_chain n ≡ []
  bell_chain_ends n owned none = no_first (l.bell_chain n)
      (λ q. sym (all.linked.1.cursors n q) ∙ no_bell_cursors n q owned none)

  pub no_mine : (x : SlotRef) → own plan p x.page ≡ true → has (same_slot x) p.mine ≡ false
      → total (mine_at x) w.parts ≡ 0
  no_mine x mine none = none_of (mine_at x) w.parts (λ b u at_b. some_if (mine_at x u) (λ some.
      let same : u ≡ p = its_owner x.page b u mine at_b ((all.parts b u at_b).mine x some).1 in
      let zero : mine_at x u ≡ 0 = ap (mine_at x) same ∙ has_none (same_slot x) p.mine none in
      omega (arith, some, zero)))

  no_hands : (x : SlotRef) → total (in_hand x) w.parts ≡ 0
  no_hands x = none_of (in_hand x) w.parts (λ b u at_b. rw (quiet b u at_b) refl)

  no_rings : (q : ℕ) → total (rings q) w.parts ≡ 0
  no_rings q = none_of (rings q) w.parts (λ b u at_b. rw (quiet b u at_b) refl)

  -- an armed page whose bell is empty has its flag, so nothing was put on it
  pub armed_is_empty : (q : ℕ) → own plan p q ≡ true → has (λ r. r == q) p.armed ≡ true → l.bells (shard_of plan q) ≡ []
      → l.bell_chain (shard_of plan q) ≡ [] → l.stack q ≡ []
  unfolding total
  armed_is_empty q mine armed bells chain =
      let here : 0 < armed_at q p = has_some (λ r. r == q) p.armed armed in
      let more = total_at (armed_at q) w.parts a p at in
      let sum = (all.armed q).0 in
      let few = (all.armed q).1 in
      let none = no_rings q in
      let on_bell : times q (l.bells (shard_of plan q)) ≡ 0 = ap (times q) bells in
      let on_chain : times q (l.bell_chain (shard_of plan q)) ≡ 0 = ap (times q) chain in
      all.flags q (omega (arith, here, more, sum, few, none, on_bell, on_chain))

  -- an armed page whose head and bell are empty is due to nobody, so there is none
  pub none_is_due : (q : ℕ) → has (λ r. r == q) p.armed ≡ true → l.bells (shard_of plan q) ≡ []
      → l.bell_chain (shard_of plan q) ≡ [] → w.words.head_at q ≡ 0 → ⊥
  unfolding total
  none_is_due q armed bells chain head =
      let here : 0 < armed_at q p = has_some (λ r. r == q) p.armed armed in
      let more = total_at (armed_at q) w.parts a p at in
      let sum = (all.armed q).0 in
      let none = no_rings q in
      let on_bell : times q (l.bells (shard_of plan q)) ≡ 0 = ap (times q) bells in
      let on_chain : times q (l.bell_chain (shard_of plan q)) ≡ 0 = ap (times q) chain in
      omega (arith, here, more, sum, none, on_bell, on_chain, head)

  -- if nothing is queued on an own page, a slot that is not the owner's has a value or is retired
  pub slot_is_used : (q s c : ℕ) → own plan p q ≡ true → w.words.class_at q ≡ c + 1 → s < slots c
      → has (same_slot (slot_ref q s)) p.mine ≡ false → l.stack q ≡ [] → l.chain q ≡ []
      → live (state_of w (slot_ref q s)) + marked (state_of w (slot_ref q s)) + retired (state_of w (slot_ref q s)) ≡ 1
  unfolding total
  slot_is_used q s c mine class below none stack chain =
      let one = (kinds_of w l all.one_kind (slot_ref q s) c class).0 below in
      let not_mine = no_mine (slot_ref q s) mine none in
      let no_hand = no_hands (slot_ref q s) in
      let on_stack : times s (l.stack q) ≡ 0 = ap (times s) stack in
      let on_chain : times s (l.chain q) ≡ 0 = ap (times s) chain in
      omega (arith, one, not_mine, no_hand, on_stack, on_chain)
