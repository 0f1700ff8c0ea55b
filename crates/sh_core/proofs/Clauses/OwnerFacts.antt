-- What a pass owns: each shard has one owner, and what a pass has is within its shard.
use Rattle.std.proofs.Common.{◌≡◌, ◌≢◌, ℕ, ◌%◌, ◌<◌, ◌≤◌, ◌==◌, Bool, true, false, refl, sym, ap, ◌∙◌, arith, Option}
use Rattle.std.proofs.Common.{Some, None, slice_get, eq-eqb, eqb-true}
use Rattle.std.proofs.lemmas.Bool.Decides.{nat_tests}
use Rattle.sh_slots.specs.declared.hand.SlotRef.{SlotRef}
use Rattle.sh_step.specs.Collections.{total, if1, noted}
use Rattle.sh_step.specs.declared.body.Body.{Body}
use Rattle.sh_step.specs.Plans.{Plan, Lawful, heap_pages, shard_of}
use Rattle.sh_step.specs.Rows.{own, owned_by, unpoint}
use Rattle.sh_core.specs.Bells.{armed_at, owns}
use Rattle.sh_core.specs.Reads.{AllReadsAgree}
use Rattle.sh_core.specs.Lists.{PutLists, times, mine_at, slots_under}
use Rattle.sh_core.specs.Placed.{Agreement}
use Rattle.sh_core.specs.Refines.{OneOwner, ShardlessHaveNothing, OwnPartIsValid}
use Rattle.sh_core.specs.Stacks.{slot_ref, cursor_at, bell_cursor_at, is_at, first_is}
use Rattle.sh_core.specs.Tallies.{room}
use Rattle.sh_core.specs.InHeap.{AllInHeap}
use Rattle.sh_core.specs.Worlds.{World}
use Rattle.sh_core.proofs.Sums.ClassSlots.{room_under, room_placed}
use Rattle.sh_core.proofs.Sums.ListCounts.{once_only, no_slot_refs, no_numbers, no_notes, none_noted, noted_once}
use Rattle.sh_core.proofs.Sums.ListCounts.{times_noted, first_few, first_one, first_times, noted_at}
use Rattle.sh_core.proofs.Lists.ListsSteps.{alone_armed}
use Rattle.sh_core.proofs.Slots.SlotSums.{room_few}
use Rattle.sh_core.proofs.Sums.Totals.{total_at, total_two, some_part}
use Rattle.sh_core.proofs.Sums.Tests.{if1_some}
use Rattle.sh_core.proofs.Lists.BellTakes.{owned_at, bell_home}

owns_here : (n : ℕ) (p : Body) → p.owned ≡ Some n → owns n p ≡ 1
owns_here n p e = rw (e, eq-eqb n n refl) refl

owns_is : (n : ℕ) (p : Body) → 0 < owns n p → p.owned ≡ Some n
owns_is n p some = go p.owned refl some where
  go : (o : Option ℕ) → p.owned ≡ o → 0 < (elim o as (λ _. ℕ) [ Some k ↦ if1 (k == n) | None ↦ 0 ]) → p.owned ≡ Some n
  go (Some k) e h = e ∙ ap (λ (m : ℕ). Some m) (eqb-true k n (if1_some (k == n) h))
  go None e h = absurd (omega arith)

-- ---- one owner a shard

module _ (plan : Plan) (w : World) (l : PutLists) (all : Agreement plan w l) where
  alone : (a b : ℕ) (p r : Body) (n : ℕ) → slice_get w.parts a ≡ Some p → slice_get w.parts b ≡ Some r → p.owned
      ≡ Some n → r.owned ≡ Some n → a ≡ b
  alone a b p r n at at' mine mine' = go (a == b) refl where
    go : (c : Bool) → (a == b) ≡ c → a ≡ b
    go true e = grind (arith, nat_tests)
    go false e = absurd (
        let apart : a ≢ b = λ same. absurd (let z : ⊥ = grind (arith, nat_tests) in z) in
        let two = total_two (owns n) w.parts a b p r apart at at' in
        let one = owns_here n p mine in
        let one' = owns_here n r mine' in
        let count = (all.lists.owned n).0 in
        let few = (all.lists.owned n).1 in omega arith
        )

  pub one_owner : OneOwner w
  one_owner = record {
    word = λ n. (all.lists.owned n).1;
    owned = λ n is. let count = (all.lists.owned n).0 in let u = some_part (owns n) w.parts (omega arith)
        in (u.0, u.1, u.2, owns_is n u.1 u.3);
    owner = λ a p n at mine.
        let one = owns_here n p mine in
        let t = total_at (owns n) w.parts a p at in
        let count = (all.lists.owned n).0 in
        let few = (all.lists.owned n).1 in omega arith;
    alone = alone;
  }

  pub shardless : ShardlessHaveNothing w
  shardless a p at none =
      let h = all.lists.own_notes a p at in
      let off : (q : ℕ) → owned_by plan p.owned q ≡ false = λ q. ap (λ (o : Option ℕ). owned_by plan o q) none in (
        no_slot_refs p.mine (λ x. h.mines x (off x.page)),
        no_notes p.cursors (λ q s. h.points q s (off q)),
        no_numbers p.armed (λ q. h.arms q (off q)),
        h.bell none,
      )

-- ---- what one pass has

module _ (plan : Plan) (w : World) (l : PutLists) (laws : Lawful plan) (all : Agreement plan w l)
    (know : AllReadsAgree plan w)
    (within : AllInHeap plan w) (a : ℕ) (p : Body) (at : slice_get w.parts a ≡ Some p) where
  -- if a pass has something at a page, the page is of its shard
  own_or : (b : Bool) (n : ℕ) → 0 < n → (b ≡ false → n ≡ 0) → b ≡ true
  own_or true n some h = refl
  own_or false n some h = let z = h refl in absurd (omega arith)

  -- a slot that has room is one of a page of the heap
  placed : (x : SlotRef) → 0 < room w.words x → (x.page < heap_pages plan)
      × (x.slot < slots_under (w.words.class_at x.page))
  placed x some = ((room_placed plan w.words x all.bounds some).0, room_under w.words x some)

  own_mine : (x : SlotRef) → 0 < mine_at x p
      → (mine_at x p ≡ 1) × (own plan p x.page ≡ true) × (x.page < heap_pages plan)
      × (x.slot < slots_under (w.words.class_at x.page))
  own_mine x some =
      let t = total_at (mine_at x) w.parts a p at in
      let fine = all.sums.slots x in
      let few = room_few w.words x in
      let there = placed x (omega arith) in (
        omega arith,
        own_or (own plan p x.page) (mine_at x p) some (λ e. (all.lists.own_notes a p at).mines x e),
        there.0,
        there.1,
      )

  -- a cursor is at the first of the chain
  cursor_first : (q s : ℕ) → cursor_at q s p ≤ first_is (l.chain q) s
  cursor_first q s = let t = total_at (cursor_at q s) w.parts a p at in let c = all.lists.stacks.cursors q s
      in omega arith

  own_cursor : (q s : ℕ) → noted q p.cursors ≡ Some s → (own plan p q ≡ true) × (q < heap_pages plan)
      × (s < slots_under (w.words.class_at q)) × (mine_at (slot_ref q s) p ≡ 0)
  own_cursor q s is =
      let here = noted_at q s p.cursors is in
      let f = cursor_first q s in
      let t = first_times (l.chain q) s in
      let fine = all.sums.slots (slot_ref q s) in
      let few = room_few w.words (slot_ref q s) in
      let there = placed (slot_ref q s) (omega arith) in
      let m = total_at (mine_at (slot_ref q s)) w.parts a p at in (
        own_or (own plan p q) (cursor_at q s p) here (λ e. (all.lists.own_notes a p at).points q s e),
        there.0,
        there.1,
        omega
            arith,
      )

  one_cursor : (q : ℕ) → noted q (unpoint q p.cursors) ≡ None
  one_cursor q =
      let once : times_noted q p.cursors ≤ 1 = noted_once q p.cursors
      (λ s. let f = cursor_first q s in let few = first_few (l.chain q) s in omega arith)
      (λ s t h k. let f = cursor_first q s in let g = cursor_first q t
      in first_one (l.chain q) s t (omega arith) (omega arith)) in
      none_noted q (unpoint q p.cursors) (once_only (λ x. x.0 == q) p.cursors once)

  -- the owner of the shard has armed what is armed there
  armed_here : (q : ℕ) → own plan p q ≡ true → total (armed_at q) w.parts ≡ times q p.armed
  armed_here q mine = alone_armed plan w.words w.parts l a p all.lists at q mine

  own_armed : (q : ℕ) → 0 < times q p.armed → (times q p.armed ≡ 1) × (own plan p q ≡ true) × (q < heap_pages plan)
  own_armed q some =
      let t = total_at (armed_at q) w.parts a p at in
      let few = (all.lists.duty q).1 in (
        omega arith,
        own_or (own plan p q) (times q p.armed) some (λ e. (all.lists.own_notes a p at).arms q e),
        (within a p at).armed q some,
      )

  unarmed : (q : ℕ) → own plan p q ≡ true → times q p.armed ≡ 0 → w.words.head_at q % 2 ≡ 0
  unarmed q mine none = let here = armed_here q mine in let duty = (all.lists.duty q).0 in omega arith

  own_bell : (q : ℕ) → p.bell_cursor ≡ Some q → (own plan p q ≡ true) × (q < heap_pages plan) × (times q p.armed ≡ 1)
  own_bell q is = go p.owned refl where
    go : (o : Option ℕ) → p.owned ≡ o → (own plan p q ≡ true) × (q < heap_pages plan) × (times q p.armed ≡ 1)
    go None none = absurd (let z : None ≡ Some q = sym ((all.lists.own_notes a p at).bell none) ∙ is in cc)
    go (Some n) owned =
        let here : bell_cursor_at n q p ≡ 1 = owned_at n n p.owned (is_at p.bell_cursor q) owned
        ∙ rw (eq-eqb n n refl, is, eq-eqb q q refl) refl in
        let t = total_at (bell_cursor_at n q) w.parts a p at in
        let c = all.lists.bells.cursors n q in
        let f = first_times (l.bell_chain n) q in
        let at_home = bell_home plan w.words w.parts l n q (all.lists.bells.ties n q) (omega arith) in
        let chain : times q (l.bell_chain (shard_of plan q)) ≡ times q (l.bell_chain n) = ap
        (λ (k : ℕ). times q (l.bell_chain k)) at_home in
        let mine : own plan p q ≡ true = ap (λ (o : Option ℕ). owned_by plan o q) owned ∙ ap (λ (k : ℕ). n == k) at_home
        ∙ eq-eqb n n refl in
        let duty = (all.lists.duty q).0 in
        let armed = armed_here q mine in
        let o = own_armed q (omega arith) in (mine, o.2, o.0)

  pub own_stands : OwnPartIsValid plan w p
  own_stands = record {
    few_holds = (all.sums.parts a p at).0;
    owned = (within a p at).owned;
    mine = own_mine;
    cursors = own_cursor;
    one_cursor = one_cursor;
    armed = own_armed;
    unarmed = unarmed;
    bell = own_bell;
    notes = λ q c mine is. ((all.lists.own_notes a p at).notes q c mine is).0;
  }
