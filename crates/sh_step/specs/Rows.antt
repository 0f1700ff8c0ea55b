-- The rows of the table. For each action: the word, the operation on it, and, by the word found, what is left of the
-- pass's own part and what is replied.
use Rattle.std.specs.Prelude.{ℕ, ◌+◌, ◌-◌, ◌*◌, ◌^◌, ◌==◌, nat_lt, Bool, true, false, cond, not, ◌&&◌}
use Rattle.std.specs.Prelude.{List, [], ◌∷◌, ◌++◌, Option, Some, None, slice_index, length}
use Rattle.sh_word.specs.Fields.{fields_of}
use Rattle.sh_slots.specs.declared.hand.Hand.{Hand}
use Rattle.sh_slots.specs.declared.hand.Hand.TheVariants.{Idle, Leaving, Finishing, ToPut, Tying, Ringing}
use Rattle.sh_slots.specs.declared.hand.Hand.TheVariants.{RingTying, Filling, Looking}
use Rattle.sh_slots.specs.declared.hand.Sight.{Sight}
use Rattle.sh_slots.specs.declared.hand.Sight.TheVariants.{Bare, Classed, Measured}
use Rattle.sh_slots.specs.declared.hand.SlotRef.{SlotRef}
use Rattle.sh_slots.specs.declared.hand.KeyRef.{KeyRef}
use Rattle.sh_slots.specs.declared.reply.Reply.{Reply}
use Rattle.sh_slots.specs.declared.reply.Reply.TheVariants as reply
use Rattle.sh_step.specs.declared.body.Body.{Body}
use Rattle.sh_shape.specs.declared.places.Place.{Place}
use Rattle.sh_shape.specs.declared.places.Place.TheVariants.{Class, Head, PageLink, State, Link, Length, Payload, Owner}
use Rattle.sh_shape.specs.declared.places.Place.TheVariants.{Bell}
use Rattle.sh_step.specs.Plans.{Plan, shard_of, local, over_heap}
use Rattle.sh_shape.specs.Classes.{width, slots}
use Rattle.sh_slots.specs.Slots.{same_slot, slot_refs, slot_ref_of, live_at, past_at, has_room, after_enter_remove}
use Rattle.sh_slots.specs.Slots.{after_drop, marked_word, finished_word, is_reusable_after, published_name, after_look}
use Rattle.sh_slots.specs.Slots.{sight_with, value_seen, name_at}
use Rattle.sh_shape.specs.Places.{payload_words}
use Rattle.sh_stack.specs.Stack.{top_word, top_item, link_over, link_item}
use Rattle.sh_bell.specs.Bell.{is_armed, top_of, head_word}
use Rattle.sh_step.specs.Collections.{without, has, noted, off, every}
use Rattle.sh_step.specs.declared.operation.Operation.{Operation}
use Rattle.sh_step.specs.declared.operation.Operation.TheVariants.{FetchAdd, FetchSub, FetchOr, Swap, Store}
use Rattle.sh_step.specs.declared.operation.Operation.TheVariants.{CompareExchange, Load}

-- One row of the table, for one part: a word, the operation on it, and by the word found the part after and what is
-- replied
pub record Row : Type 0 where
  pub place : Place
  pub operation : Operation
  pub part : ℕ → Body
  pub reply : ℕ → Option Reply

abbrev pub silent : ℕ → Option Reply
silent _ = None

abbrev pub hand : Body → Hand → Body
hand p h = record p { hand = h }

abbrev pub idle : Body → Bool
idle p = elim (p.hand) [ Idle ↦ true | _ ↦ false ]

abbrev pub owned_by : Plan → Option ℕ → ℕ → Bool
owned_by plan o q = elim o [ Some n ↦ n == shard_of plan q | None ↦ false ]

abbrev pub own : Plan → Body → ℕ → Bool
own plan p q = owned_by plan p.owned q

-- the class word noted of a page, or 0
abbrev pub class_word_noted : Body → ℕ → ℕ
class_word_noted p q = elim (noted q p.classes) [ Some c ↦ c | None ↦ 0 ]

abbrev pub no_cursor : Body → ℕ → Bool
no_cursor p q = elim (noted q p.cursors) [ Some _ ↦ false | None ↦ true ]

-- a list cursor from a word that names the item n as n + k, and none below k
abbrev pub point : ℕ → ℕ → ℕ → List (ℕ × ℕ) → List (ℕ × ℕ)
point k q n xs = cond (nat_lt n k) xs ((q, n - k) ∷ xs)

abbrev pub unpoint : ℕ → List (ℕ × ℕ) → List (ℕ × ℕ)
unpoint q xs = without (λ x. x.0 == q) xs

abbrev pub enter_get : Plan → Body → ℕ → KeyRef → Row
enter_get plan p k x = record {
  place = State x.page x.slot;
  operation = FetchAdd 1;
  part = λ n. cond (live_at x.generation n && has_room plan.keys.guard_max n) (record p { holds = k ∷ p.holds })
      (hand p (Leaving (slot_ref_of x)));
  reply = λ n. Some (cond (live_at x.generation n) (cond (has_room plan.keys.guard_max n) (reply.Got k)
      (reply.Crowded k)) (reply.Gone k));
}

abbrev pub enter_remove : Plan → Body → ℕ → KeyRef → Row
enter_remove plan p k x = record {
  place = State x.page x.slot;
  operation = FetchAdd 1;
  part = λ n. hand p (after_enter_remove k x n);
  reply = λ n. cond (live_at x.generation n) None (Some (reply.Gone k));
}

abbrev pub mark : Body → ℕ → KeyRef → Row
mark p k x = record {
  place = State x.page x.slot;
  operation = FetchOr (2 ^ 31);
  part = λ n. hand p (Leaving (slot_ref_of x));
  reply = λ n. Some (cond (fields_of n).marked (reply.Gone k) (reply.Removed k));
}

abbrev pub drop_hand : Body → SlotRef → Row
drop_hand p x = record {
  place = State x.page x.slot;
  operation = FetchSub 1;
  part = λ n. hand p (after_drop x n);
  reply = silent;
}

-- one hold less; what was read of the key is forgotten with the last hold
abbrev pub freed : Body → ℕ → Body
freed p k = let h = without (λ j. j == k) p.holds in record p {
  holds = h;
  class_words = cond (has (λ j. j == k) h) p.class_words (off (λ x. x.0 == k) p.class_words);
  lengths = cond (has (λ j. j == k) h) p.lengths (off (λ x. x.0 == k) p.lengths);
  contents = cond (has (λ j. j == k) h) p.contents (off (λ x. x.0 == k) p.contents);
}

abbrev pub drop_key : Body → ℕ → KeyRef → Row
drop_key p k x = record {
  place = State x.page x.slot;
  operation = FetchSub 1;
  part = λ n. hand (freed p k) (after_drop (slot_ref_of x) n);
  reply = λ n. Some (reply.Released k);
}

-- the payload word of this number, from 0, of a slot of a page of this class word
abbrev pub payload_word : (slot class_word i : ℕ) → ℕ
payload_word slot class_word i = slot * width (class_word - 1) + i

-- Whether all was read. So it is too if the length that was found says more than a page of that class has room for:
-- then the class or the length is of another value
abbrev pub is_read : KeyRef → Sight → Bool
is_read x Bare = false
is_read x (Classed c) = false
is_read x (Measured c m v) =
    not (nat_lt (length v) m && nat_lt (length v) 16 && nat_lt (payload_word x.slot c (length v)) payload_words)

-- the word that comes next
abbrev pub look_place : KeyRef → Sight → Place
look_place x Bare = Class x.page
look_place x (Classed c) = Length x.page x.slot
look_place x (Measured c m v) = Payload x.page (payload_word x.slot c (length v))

-- The value whose generation is to end: what a read loads. What is found is the value if the word of the end is found
abbrev pub read_ending : Body → SlotRef → ℕ → Sight → Row
read_ending p x g s = record {
  place = look_place (name_at x g) s;
  operation = Load;
  part = λ n. hand p (Finishing x g (sight_with s n));
  reply = silent;
}

abbrev pub finish : Plan → Body → SlotRef → ℕ → Row
finish plan p x g = record {
  place = State x.page x.slot;
  operation = CompareExchange (marked_word g) (finished_word g plan.keys.gen_max);
  part = λ n. cond (is_reusable_after g plan.keys.gen_max n)
      (cond (own plan p x.page) (hand (record p { mine = x ∷ p.mine }) Idle) (hand p (ToPut x))) (hand p Idle);
  reply = silent;
}

abbrev pub fill_slot : Body → SlotRef → List ℕ → Row
fill_slot p x v = record {
  place = Length x.page x.slot;
  operation = Store (length v);
  part = λ n. hand (record p { mine = without (same_slot x) p.mine }) (Filling x v 0);
  reply = silent;
}

-- a word of the value, in a page of this class word
abbrev pub fill_in : Body → SlotRef → List ℕ → (i class_word : ℕ) → Row
fill_in p x v i class_word = record {
  place = Payload x.page (payload_word x.slot class_word i);
  operation = Store (slice_index v i);
  part = λ n. hand p (Filling x v (i + 1));
  reply = silent;
}

abbrev pub fill : Body → SlotRef → List ℕ → ℕ → Row
fill p x v i = fill_in p x v i (class_word_noted p x.page)

abbrev pub publish : Plan → Body → SlotRef → List ℕ → Row
publish plan p x v = record {
  place = State x.page x.slot;
  operation = FetchOr (2 ^ 30);
  part = λ n. hand p Idle;
  reply = λ n. Some (reply.Insert (plan.keys.pack (published_name x n)) v);
}

-- Read of a key: the class, the length, then the payload words that these two allow
abbrev pub read_class : Body → ℕ → KeyRef → Row
read_class p k x = record {
  place = Class x.page;
  operation = Load;
  part = λ n. record p { class_words = (k, n) ∷ p.class_words };
  reply = silent;
}

abbrev pub read_length : Body → ℕ → KeyRef → Row
read_length p k x = record {
  place = Length x.page x.slot;
  operation = Load;
  part = λ n. record p { lengths = (k, n) ∷ p.lengths };
  reply = silent;
}

abbrev pub read_word : Body → ℕ → KeyRef → ℕ → ℕ → Row
read_word p k x c i = record {
  place = Payload x.page (payload_word x.slot c i);
  operation = Load;
  part = λ n. record p { contents = (k, i, n) ∷ p.contents };
  reply = silent;
}

-- the state of a slot, whoever has what there; what is found is noted nowhere
abbrev pub peek : Body → SlotRef → Row
peek p x = record {
  place = State x.page x.slot;
  operation = Load;
  part = λ n. p;
  reply = silent;
}

-- A look at a key, without a hold: loads of the state, of what a read loads, and of the state again. What the loads in
-- between find is the key's value if the state says so at the end. A state of before the key was there decides nothing
abbrev pub look : Body → ℕ → KeyRef → Row
look p k x = record {
  place = State x.page x.slot;
  operation = Load;
  part = λ n. hand p (after_look k x n);
  reply = λ n. cond (past_at x.generation n) (Some (reply.Gone k)) None;
}

abbrev pub look_on : Body → ℕ → KeyRef → Sight → Row
look_on p k x s = record {
  place = look_place x s;
  operation = Load;
  part = λ n. hand p (Looking k x (sight_with s n));
  reply = silent;
}

abbrev pub look_again : Body → ℕ → KeyRef → Sight → Row
look_again p k x s = record {
  place = State x.page x.slot;
  operation = Load;
  part = λ n. hand p Idle;
  reply = λ n. Some (cond (live_at x.generation n) (reply.Seen k (value_seen s)) (reply.Gone k));
}

abbrev pub read_page : Body → ℕ → Row
read_page p q = record {
  place = Class q;
  operation = Load;
  part = λ n. record p { classes = (q, n) ∷ p.classes };
  reply = silent;
}

-- each slot of the class of that class word is in `mine`
abbrev pub all_mine : Body → ℕ → ℕ → Bool
all_mine p q n = every (λ x. has (same_slot x) p.mine) (slot_refs q 0 (slots (n - 1)))

abbrev pub set_class : Body → ℕ → ℕ → Row
set_class p q c = record {
  place = Class q;
  operation = Store (c + 1);
  part = λ n. record p {
    classes = (q, c + 1) ∷ p.classes;
    mine = slot_refs q 0 (slots c)
        ++ off (λ x. x.page == q) p.mine;
  };
  reply = silent;
}

abbrev pub take_page : Body → ℕ → Row
take_page p q = record {
  place = Head q;
  operation = Swap 0;
  part = λ n. record p {
    cursors = point 1 q (top_of n) p.cursors;
    armed = cond (is_armed n)
        (without (λ x. x == q) p.armed) p.armed;
  };
  reply = silent;
}

abbrev pub follow : Body → ℕ → ℕ → Row
follow p q s = record {
  place = Link q s;
  operation = Swap 0;
  part = λ n. cond (n == 0) p (record p {
    cursors = point 2 q n (unpoint q p.cursors);
    mine = record
        { page = q; slot = s } ∷ p.mine;
  });
  reply = silent;
}

abbrev pub put_at : Body → SlotRef → Row
put_at p x = record {
  place = Head x.page;
  operation = Swap (head_word (top_word x.slot));
  part = λ n. hand p (Tying x (link_over (top_of n)) (is_armed n));
  reply = silent;
}

abbrev pub tie : Body → SlotRef → ℕ → Bool → Row
tie p x l ring = record {
  place = Link x.page x.slot;
  operation = Store l;
  part = λ n. hand p (cond ring (Ringing x.page) Idle);
  reply = silent;
}

abbrev pub adopt : Body → ℕ → Row
adopt p n = record {
  place = Owner n;
  operation = Swap 1;
  part = λ m. cond (m == 0) (record p {
    owned = Some n;
    classes = [];
    mine = [];
    cursors = [];
    armed = [];
    bell_cursor =
        None;
  }) p;
  reply = silent;
}

abbrev pub leave : Body → ℕ → Row
leave p n = record {
  place = Owner n;
  operation = Store 0;
  part = λ m. record p { owned = None };
  reply = silent;
}

abbrev pub arm : Body → ℕ → Row
arm p q = record {
  place = Head q;
  operation = Swap 1;
  part = λ n. record p { cursors = point 1 q (top_of n) p.cursors; armed = q ∷ p.armed };
  reply = silent;
}

abbrev pub ring : Plan → Body → ℕ → Row
ring plan p q = record {
  place = Bell (shard_of plan q);
  operation = Swap (top_word (local plan q));
  part = λ n. hand p (RingTying q (link_over n));
  reply = silent;
}

abbrev pub ring_tie : Body → ℕ → ℕ → Row
ring_tie p q l = record {
  place = PageLink q;
  operation = Store l;
  part = λ n. hand p Idle;
  reply = silent;
}

abbrev pub take_bell : Plan → Body → ℕ → Row
take_bell plan p n = record {
  place = Bell n;
  operation = Swap 0;
  part = λ m. record p { bell_cursor = top_item (over_heap plan n 1 m) };
  reply = silent;
}

abbrev pub follow_bell : Plan → Body → ℕ → Row
follow_bell plan p q = record {
  place = PageLink q;
  operation = Swap 0;
  part = λ m. cond (m == 0) p (record p {
    bell_cursor = link_item (over_heap plan (shard_of plan q) 2 m);
    armed = without
        (λ x. x == q) p.armed;
  });
  reply = silent;
}
