-- Tables that differ from the right one in one action, or in two whose order is swapped.
use Rattle.std.specs.Prelude.{ℕ, ◌-◌, ◌==◌, nat_lt, Bool, true, false, cond, not, ◌&&◌, ◌||◌, ◌∷◌, Some, None, length}
use Rattle.std.specs.Bool.{then_some}
use Rattle.sh_shape.specs.declared.places.Place.TheVariants.{State, Link, Head}
use Rattle.sh_shape.specs.Classes.{class_count, slots}
use Rattle.sh_slots.specs.declared.hand.Hand.TheVariants.{Idle, Removing, Leaving, Finishing, ToPut, Tying, Ringing}
use Rattle.sh_slots.specs.declared.hand.SlotRef.{SlotRef}
use Rattle.sh_slots.specs.declared.reply.Reply.TheVariants as reply
use Rattle.sh_slots.specs.Slots.{same_slot, slot_refs, slot_ref_of, live_at, after_drop, marked_word, reusable_word}
use Rattle.sh_slots.specs.Slots.{retired_word, after_enter_remove}
use Rattle.sh_step.specs.declared.action.Action.TheVariants.{EnterGet, EnterRemove, Mark, Drop, DropHold, Finish}
use Rattle.sh_step.specs.declared.action.Action.TheVariants.{SetClass, Follow, Put, Tie, Leave, Ring}
use Rattle.sh_step.specs.declared.body.Body.{Body}
use Rattle.sh_step.specs.declared.operation.Operation.{Operation}
use Rattle.sh_step.specs.declared.operation.Operation.TheVariants.{FetchAdd, Swap, Store, CompareExchange, Load}
use Rattle.sh_step.specs.Collections.{has, noted, every, without}
use Rattle.sh_step.specs.Plans.{Plan}
use Rattle.sh_step.specs.Moves.{row, named, paged}
use Rattle.sh_step.specs.Rows.{Row, silent, hand, idle, own, point, unpoint, enter_get, mark}
use Rattle.sh_step.specs.Rows.{enter_remove, drop_hand, drop_key, finish, put_at, set_class, follow, leave, all_mine}
use Rattle.sh_stack.specs.Stack.{top_word}
use Rattle.sh_bell.specs.Bell.{head_word, is_armed}
use Rattle.sh_word.specs.Fields.{word_of}
use Rattle.sh_core.specs.Variants.{Table}

-- ---- what is returned for a key, and what is known of it

-- a key is crowded even if it has few holds
unfoldable pub crowds_at_once : Table
crowds_at_once plan p (EnterGet k) = named plan k (λ x. then_some (idle p && nat_lt (length p.holds) 16)
    (record (enter_get plan p k x) {
      part = λ n. hand p (Leaving (slot_ref_of x));
      reply = λ n. Some (cond (live_at x.generation n) (reply.Crowded k) (reply.Gone k));
    }))
crowds_at_once plan p x = row plan p x

-- a get takes a hold on a key that already has as many as it may have
unfoldable pub ignores_room : Table
ignores_room plan p (EnterGet k) = named plan k (λ x. then_some (idle p && nat_lt (length p.holds) 16)
    (record (enter_get plan p k x) {
      part = λ n. cond (live_at x.generation n) (record p { holds = k ∷ p.holds }) (hand p (Leaving (slot_ref_of x)));
      reply = λ n. Some (cond (live_at x.generation n) (reply.Got k) (reply.Gone k));
    }))
ignores_room plan p x = row plan p x

-- a get that finds the slot without the key's value returns nothing, then or later
unfoldable pub never_answers_gone : Table
never_answers_gone plan p (EnterGet k) = named plan k (λ x. then_some (idle p && nat_lt (length p.holds) 16)
    (record (enter_get plan p k x) {
      reply = λ n. cond (live_at x.generation n) ((enter_get plan p k x).reply n) None;
    }))
never_answers_gone plan p x = row plan p x

-- a removal has the key's generation in hand, and no longer the key
unfoldable pub remembers_generation : Table
remembers_generation plan p (EnterRemove k) = named plan k (λ x. then_some (idle p)
    (record (enter_remove plan p k x) { part = λ n. hand p (after_enter_remove x.generation x n) }))
remembers_generation plan p x = row plan p x

-- a mark removes the key whether or not it was marked before
unfoldable pub both_remove : Table
both_remove plan p Mark = elim (p.hand) [
  | Removing k ↦ named plan k
      (λ x. Some (record (mark p k x) { reply = λ n. Some (reply.Removed k) }))
  | _ ↦ None
]
both_remove plan p x = row plan p x

-- the pass that marked a slot is done with it, and never takes its count back
unfoldable pub marks_and_stays : Table
marks_and_stays plan p Mark = elim (p.hand) [
  | Removing k ↦ named plan k
      (λ x. Some (record (mark p k x) { part = λ n. hand p Idle }))
  | _ ↦ None
]
marks_and_stays plan p x = row plan p x

-- the last one to leave a marked slot does not end its generation
unfoldable pub drops_and_forgets : Table
drops_and_forgets plan p Drop = elim (p.hand) [
  | Leaving x ↦ Some (record (drop_hand p x) { part = λ n. hand p Idle })
  | _ ↦ None
]
drops_and_forgets plan p x = row plan p x

-- what was read of a key is still known after its last hold
unfoldable pub knows_after_hold : Table
knows_after_hold plan p (DropHold k) = named plan k (λ x. then_some (idle p && has (λ j. j == k) p.holds)
    (record (drop_key p k x) {
      part = λ n. hand (record p { holds = without (λ j. j == k) p.holds })
          (after_drop (slot_ref_of x) n);
    }))
knows_after_hold plan p x = row plan p x

-- ---- the end of a generation

-- the slot is empty, and the pass has it
abbrev pub has_empty : Plan → Body → SlotRef → Body
has_empty plan p x = cond (own plan p x.page) (hand (record p { mine = x ∷ p.mine }) Idle) (hand p (ToPut x))

abbrev pub finish_by : Plan → Body → SlotRef → Operation → (ℕ → Bool) → Row
finish_by plan p x operation ends = record {
  place = State x.page x.slot;
  operation = operation;
  part = λ n. cond (ends n) (has_empty plan p x) (hand p Idle);
  reply = silent;
}

-- the flags are cleared, as by an `and`, and the generation stays
unfoldable pub keeps_generation : Table
keeps_generation plan p Finish = elim (p.hand) [
  | Finishing x g s ↦ Some
      (finish_by plan p x (CompareExchange (marked_word g) (word_of
      (record { generation = g; marked = false; present = false; count = 0 }))) (λ n. n == marked_word g))
  | _ ↦ None
]
keeps_generation plan p x = row plan p x

-- the state word is overwritten, whatever it is
unfoldable pub ignores_count : Table
ignores_count plan p Finish = elim (p.hand) [
  | Finishing x g s ↦ Some
      (finish_by plan p x (Swap (cond (g == plan.keys.gen_max) (retired_word g) (reusable_word g)))
      (λ n. not (g == plan.keys.gen_max)))
  | _ ↦ None
]
ignores_count plan p x = row plan p x

-- after the last generation comes the first
unfoldable pub wraps_generation : Table
wraps_generation plan p Finish = elim (p.hand) [
  | Finishing x g s ↦ Some
      (finish_by plan p x (CompareExchange (marked_word g) (cond (g == plan.keys.gen_max) (reusable_word 0)
      (reusable_word g))) (λ n. n == marked_word g))
  | _ ↦ None
]
wraps_generation plan p x = row plan p x

-- after the last generation comes one more
unfoldable pub never_retires : Table
never_retires plan p Finish = elim (p.hand) [
  | Finishing x g s ↦ Some
      (finish_by plan p x (CompareExchange (marked_word g) (reusable_word g)) (λ n. n == marked_word g))
  | _ ↦ None
]
never_retires plan p x = row plan p x

abbrev pub finish_again : Plan → Body → SlotRef → ℕ → Row
finish_again plan p x g = record (finish plan p x g) {
  part = λ n. cond (n == marked_word g) ((finish plan p x g).part n) p;
}

-- a pass that finds another on the slot is to try again
unfoldable pub tries_again : Table
tries_again plan p Finish = elim (p.hand) [ Finishing x g s ↦ Some (finish_again plan p x g) | _ ↦ None ]
tries_again plan p x = row plan p x

-- ---- stacks

-- a put adds its slot to the head word, so a flag that was there stays
unfoldable pub keeps_flag : Table
keeps_flag plan p Put = elim (p.hand) [
  | ToPut x ↦ Some (record (put_at p x) { operation = FetchAdd (head_word (top_word x.slot)) })
  | _ ↦ None
]
keeps_flag plan p x = row plan p x

abbrev pub tie_first : Body → SlotRef → Row
tie_first p x = record {
  place = Link x.page x.slot;
  operation = Store 1;
  part = λ n. hand p (Tying x 1 false);
  reply = silent;
}

abbrev pub put_last : Body → SlotRef → Row
put_last p x = record {
  place = Head x.page;
  operation = Swap (head_word (top_word x.slot));
  part = λ n. hand p (cond (is_armed n) (Ringing x.page) Idle);
  reply = silent;
}

-- the link is stored before the slot is put, so it cannot name what the put finds
unfoldable pub ties_first : Table
ties_first plan p Put = elim (p.hand) [ ToPut x ↦ Some (tie_first p x) | _ ↦ None ]
ties_first plan p Tie = elim (p.hand) [ Tying x l r ↦ Some (put_last p x) | _ ↦ None ]
ties_first plan p x = row plan p x

abbrev pub follow_to_end : Body → ℕ → ℕ → Row
follow_to_end p q s = record {
  place = Link q s;
  operation = Swap 0;
  part = λ n. record p { cursors = point 2 q n (unpoint q p.cursors); mine = record { page = q; slot = s } ∷ p.mine };
  reply = silent;
}

-- a link that is not written is taken for the end
unfoldable pub ends_at_unwritten : Table
ends_at_unwritten plan p (Follow y) = paged plan y (λ q. elim (noted q p.cursors)
    [ Some s ↦ then_some (idle p && own plan p q) (follow_to_end p q s) | None ↦ None ])
ends_at_unwritten plan p x = row plan p x

-- a link that was followed stays in its word
unfoldable pub leaves_link : Table
leaves_link plan p (Follow y) = paged plan y (λ q. elim (noted q p.cursors)
    [ Some s ↦ then_some (idle p && own plan p q) (record (follow p q s) { operation = Load }) | None ↦ None ])
leaves_link plan p x = row plan p x

abbrev pub follow_twice : Body → ℕ → ℕ → Row
follow_twice p q s = record (follow p q s) {
  part = λ n. cond (n == 0) p (record p {
    cursors = point 2 q n (unpoint q p.cursors);
    mine = record
        { page = q; slot = s } ∷ record { page = q; slot = s } ∷ p.mine;
  });
}

-- a slot that is followed is handed out twice
unfoldable pub follows_twice : Table
follows_twice plan p (Follow y) = paged plan y (λ q. elim (noted q p.cursors)
    [ Some s ↦ then_some (idle p && own plan p q) (follow_twice p q s) | None ↦ None ])
follows_twice plan p x = row plan p x

abbrev pub tie_and_stop : Body → SlotRef → ℕ → Row
tie_and_stop p x l = record {
  place = Link x.page x.slot;
  operation = Store l;
  part = λ n. hand p Idle;
  reply = silent;
}

-- a pass that finds the flag of an armed page does not ring
unfoldable pub never_rings : Table
never_rings plan p Tie = elim (p.hand) [ Tying x l r ↦ Some (tie_and_stop p x l) | _ ↦ None ]
never_rings plan p x = row plan p x

-- a pass that has to ring has no step for it
unfoldable pub cannot_ring : Table
cannot_ring plan p Ring = None
cannot_ring plan p x = row plan p x

-- ---- owners

-- an owner leaves although it has slots of its own
unfoldable pub leaves_slots : Table
leaves_slots plan p Leave = elim (p.owned) [
  | Some n ↦ then_some (idle p && (length p.cursors == 0) && (length p.armed == 0)
      && (elim (p.bell_cursor) [ None ↦ true | _ ↦ false ])) (leave p n)
  | None ↦ None
]
leaves_slots plan p x = row plan p x

-- an owner leaves while pages that were rung for are still to be followed
unfoldable pub leaves_bell : Table
leaves_bell plan p Leave = elim (p.owned) [
  | Some n ↦ then_some (idle p && (length p.mine == 0) && (length p.cursors == 0))
      (leave p n)
  | None ↦ None
]
leaves_bell plan p x = row plan p x

-- all slots except the last one are asked for
abbrev pub most_mine : Body → ℕ → ℕ → Bool
most_mine p q n = every (λ x. has (same_slot x) p.mine) (slot_refs q 0 (slots (n - 1) - 1))

unfoldable pub forgets_last_slot : Table
forgets_last_slot plan p (SetClass y c) = paged plan y (λ q. elim (noted q p.classes) [
  | Some n ↦ then_some (idle p && own plan p q && ((n == 0) || most_mine p q n) && nat_lt c class_count)
      (set_class p q c)
  | None
      ↦ None
])
forgets_last_slot plan p x = row plan p x

-- any number is a class
unfoldable pub gives_any_class : Table
gives_any_class plan p (SetClass y c) = paged plan y (λ q. elim (noted q p.classes)
    [ Some n ↦ then_some (idle p && own plan p q && ((n == 0) || all_mine p q n)) (set_class p q c) | None ↦ None ])
gives_any_class plan p x = row plan p x
