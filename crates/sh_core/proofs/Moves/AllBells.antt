-- All that holds, over the moves of owners and bells: Adopt, Leave, TakeBell, FollowBell, Ring and RingTie.
use Rattle.std.proofs.Common.{◌≡◌, ℕ, ◌+◌, ◌==◌, Bool, true, false, cond, ◌∷◌, drop, sym, refl, Some, None, slice_get}
use Rattle.std.proofs.Common.{eqb-true, []}
use Rattle.sh_slots.specs.declared.hand.Hand.TheVariants.{Idle, Ringing, RingTying}
use Rattle.sh_core.specs.Words.{write, put}
use Rattle.sh_shape.specs.declared.places.Place.TheVariants.{PageLink, Owner}
use Rattle.sh_step.specs.Plans.{Plan, shard_of, over_heap, local}
use Rattle.sh_step.specs.Collections.{total, without}
use Rattle.sh_step.specs.declared.body.Body.{Body}
use Rattle.sh_core.specs.Lists.{PutLists, bells_taken}
use Rattle.sh_core.specs.Stacks.{bell_head}
use Rattle.sh_core.specs.Placed.{Agreement}
use Rattle.sh_stack.specs.Stack.{top_item, link_item}
use Rattle.sh_step.specs.Rows.{hand, adopt, leave, ring, ring_tie, take_bell, follow_bell}
use Rattle.sh_core.specs.Worlds.{World, apply}
use Rattle.sh_core.proofs.Slots.Slots.{tally_ext}
use Rattle.sh_core.proofs.Slots.SumsKinds.{with, sums_quiet}
use Rattle.sh_core.proofs.Lists.ListsSteps.{lists_frame}
use Rattle.sh_core.proofs.Lists.OwnerKinds.{adopted, adopt_agrees, left, leave_agrees, taken_rest_owner, none_owned}
use Rattle.sh_core.proofs.Lists.BellRings.{ring_agrees, ring_tie_agrees}
use Rattle.sh_core.proofs.Lists.BellTakes.{take_bell_agrees, follow_bell_agrees}
use Rattle.sh_core.proofs.Moves.AllReads.{idled, all_load}

module _ (plan : Plan) (w : World) (l : PutLists) (a : ℕ) (p : Body) (old : Agreement plan w l)
    (at : slice_get w.parts a ≡ Some (idled p)) where
  pub all_adopt : (n : ℕ) → p.owned ≡ None → Agreement plan (apply w a (adopt (idled p) n)) l
  unfolding apply total
  all_adopt n free = go (w.words.owner_at n == 0) refl where
    go : (b : Bool) → (w.words.owner_at n == 0) ≡ b → Agreement plan
        (with w (write w.words (Owner n) 1) a (cond b (adopted (idled p) n) (idled p))) l
    go true e = record {
      sums = sums_quiet plan w l l a (idled p) (adopted (idled p) n) w.words.head_at w.words.page_link_at
          w.words.link_at (put w.words.owner_at n 1) w.words.bell_at old.sums at
          (λ y st. tally_ext _ _ (sym ((old.lists.own_notes a (idled p) at).mines y
          (none_owned plan p.owned y.page free)))
          refl refl refl refl refl) (λ y. refl) refl tt;
      lists = adopt_agrees plan w.words w.parts l a (idled p) n old.lists at free (eqb-true (w.words.owner_at n) 0 e);
      bounds = old.bounds;
    }
    go false e = record {
      sums = sums_quiet plan w l l a (idled p) (idled p) w.words.head_at w.words.page_link_at w.words.link_at
          (put w.words.owner_at n 1) w.words.bell_at old.sums at (λ y st. refl) (λ y. refl) refl tt;
      lists = taken_rest_owner plan w.words w.parts l a (idled p) n old.lists at e;
      bounds = old.bounds;
    }

  pub all_leave : (n : ℕ) → p.owned ≡ Some n → p.mine ≡ [] → p.cursors ≡ [] → p.armed ≡ []
      → p.bell_cursor ≡ None → Agreement plan (apply w a (leave (idled p) n)) l
  unfolding apply
  all_leave n owned mine cursors armed bell = record {
    sums = sums_quiet plan w l l a (idled p) (left (idled p)) w.words.head_at w.words.page_link_at w.words.link_at
        (put w.words.owner_at n 0) w.words.bell_at old.sums at (λ y st. refl) (λ y. refl) refl tt;
    lists = leave_agrees plan w.words w.parts l a (idled p) n old.lists at owned mine cursors armed bell;
    bounds = old.bounds;
  }

  pub all_take_bell : (n : ℕ) → p.owned ≡ Some n → p.bell_cursor ≡ None
      → Agreement plan (apply w a (take_bell plan (idled p) n)) (bells_taken l n)
  unfolding apply
  all_take_bell n mine free = record {
    sums = sums_quiet plan w l (bells_taken l n) a (idled p) (record (idled p)
        { bell_cursor = top_item (bell_head plan w.words.bell_at n) }) w.words.head_at w.words.page_link_at
        w.words.link_at w.words.owner_at (put w.words.bell_at n 0) old.sums at (λ y st. refl) (λ y. refl) refl tt;
    lists = take_bell_agrees plan w.words w.parts l a (idled p) n old.lists at mine free;
    bounds = old.bounds;
  }

  pub all_follow_bell : (n q : ℕ) → p.owned ≡ Some n → p.bell_cursor ≡ Some q
      → Agreement plan (apply w a (follow_bell plan (idled p) q)) (cond (w.words.page_link_at q == 0) l
      (record l { bell_chain = put l.bell_chain n (drop 1 (l.bell_chain n)) }))
  unfolding apply
  all_follow_bell n q mine is = go (w.words.page_link_at q == 0) refl where
    go : (b : Bool) → (w.words.page_link_at q == 0) ≡ b → Agreement plan
        (with w (write w.words (PageLink q) 0) a (cond b (idled p) (record (idled p) {
          bell_cursor = link_item (over_heap plan (shard_of plan q) 2 (w.words.page_link_at q));
          armed = without (λ x. x == q) p.armed;
        }))) (cond b l (record l { bell_chain = put l.bell_chain n (drop 1 (l.bell_chain n)) }))
    go true e = all_load plan w l a (idled p) (idled p) (PageLink q) 0 old at (eqb-true (w.words.page_link_at q) 0 e)
        (λ y st. refl) refl tt
        (lists_frame plan w.words w.parts l a (idled p) (idled p) old.lists at refl
        (old.lists.own_notes a (idled p) at))
    go false e = record {
      sums = sums_quiet plan w l (record l { bell_chain = put l.bell_chain n (drop 1 (l.bell_chain n)) }) a (idled p)
          (record (idled p) {
            bell_cursor = link_item (over_heap plan (shard_of plan q) 2 (w.words.page_link_at q));
            armed = without (λ x. x == q) p.armed;
          }) w.words.head_at (put w.words.page_link_at q 0) w.words.link_at w.words.owner_at
          w.words.bell_at old.sums at (λ y st. refl) (λ y. refl) refl tt;
      lists = follow_bell_agrees plan w.words w.parts l a (idled p) n q old.lists at mine is e;
      bounds = old.bounds;
    }

pub all_ring : (plan : Plan) (w : World) (l : PutLists) (a : ℕ) (p : Body) (q : ℕ) → Agreement plan w l
    → slice_get w.parts a
    ≡ Some (hand p (Ringing q)) → Agreement plan (apply w a (ring plan (hand p (Ringing q)) q))
    (record l { bells = put l.bells (shard_of plan q) (q ∷ l.bells (shard_of plan q)) })
unfolding apply
all_ring plan w l a p q old at = record {
  sums = sums_quiet plan w l (record l { bells = put l.bells (shard_of plan q) (q ∷ l.bells (shard_of plan q)) }) a
      (hand p (Ringing q)) (hand p (RingTying q (w.words.bell_at (shard_of plan q) + 1))) w.words.head_at
      w.words.page_link_at w.words.link_at w.words.owner_at (put w.words.bell_at (shard_of plan q) (local plan q + 1))
      old.sums at (λ y st. refl) (λ y. refl) refl tt;
  lists = ring_agrees plan w.words w.parts l a p q old.lists at;
  bounds = old.bounds;
}

pub all_ring_tie : (plan : Plan) (w : World) (l : PutLists) (a : ℕ) (p : Body) (q n : ℕ) → Agreement plan w l
    → slice_get w.parts a ≡ Some (hand p (RingTying q n))
    → Agreement plan (apply w a (ring_tie (hand p (RingTying q n)) q n))
    l
unfolding apply
all_ring_tie plan w l a p q n old at = record {
  sums = sums_quiet plan w l l a (hand p (RingTying q n)) (hand p Idle) w.words.head_at (put w.words.page_link_at q n)
      w.words.link_at w.words.owner_at w.words.bell_at old.sums at (λ y st. refl) (λ y. refl) refl tt;
  lists = ring_tie_agrees plan w.words w.parts l a p q n old.lists at;
  bounds = old.bounds;
}
