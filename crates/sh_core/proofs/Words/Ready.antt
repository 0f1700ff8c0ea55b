-- A step on the words that are kept: what is read there, and that a row may be done.
use Rattle.std.proofs.Common.{◌≡◌, ℕ, ◌-◌, ◌<◌, ◌==◌, Bool, true, false, cond, List, refl, sym, ap, ◌∙◌, subst, arith}
use Rattle.std.proofs.Common.{Option, Some, None, slice_get, ◌≤◌}
use Rattle.std.specs.Prelude.{not, nat_lt}
use Rattle.sh_key.specs.Layout.{Layout}
use Rattle.sh_word.specs.Fields.{fields_of}
use Rattle.sh_shape.specs.declared.places.Place.{Place}
use Rattle.sh_shape.specs.declared.places.Place.TheVariants.{Class, Head, PageLink, State, Link, Length, Payload, Owner}
use Rattle.sh_shape.specs.declared.places.Place.TheVariants.{Bell}
use Rattle.sh_shape.specs.Places.{IsPlace}
use Rattle.sh_slots.specs.declared.reply.Reply.{Reply}
use Rattle.sh_slots.specs.declared.reply.Reply.TheVariants as reply
use Rattle.sh_slots.specs.Slots.{live_at, past_at, value_seen}
use Rattle.sh_step.specs.declared.action.Action.{Action}
use Rattle.sh_step.specs.declared.body.Body.{Body}
use Rattle.sh_step.specs.Fits.{WordFits}
use Rattle.sh_step.specs.Plans.{Plan, plan_of, heap_pages}
use Rattle.sh_core.specs.Words.{read}
use Rattle.sh_core.specs.Worlds.{World, run}
use Rattle.sh_core.specs.Lists.{lists_of}
use Rattle.sh_core.specs.Refines.{Refines}
use Rattle.sh_core.specs.InHeap.{PlansHaveShapesPlaces, CountFits, BellsAreSmall, ValuesFit}
use Rattle.sh_core.specs.Kept.{KeptWorld, Represents, FromEvents, IsReady, SlotHasValue, KeepsValue, word_at}
use Rattle.sh_step.proofs.Truths.{and3}
use Rattle.sh_shape.proofs.ClassLaws.{slots_few}
use Rattle.sh_core.proofs.Clauses.RunTheorem.{theorem}
use Rattle.sh_step.specs.declared.moves.Move.{Move}
use Rattle.sh_step.specs.declared.moves.Move.TheVariants.{EnterGet, EnterRemove, Mark, Look, LookAgain}
use Rattle.sh_step.specs.Moves.{row_of, row}
use Rattle.sh_step.specs.Rows.{Row}
use Rattle.sh_core.proofs.Moves.ByMove.{by_move}
use Rattle.sh_shape.specs.Classes.{slots, width}

-- a key is got
abbrev gets_key : Option Reply → Bool
gets_key (Some (reply.Got k)) = true
gets_key _ = false

remove_gets_none : (k : ℕ) (a : Bool) → gets_key (cond a None (Some (reply.Gone k))) ≡ false
remove_gets_none k true = refl
remove_gets_none k false = refl

past_gets_none : (k : ℕ) (a : Bool) → gets_key (cond a (Some (reply.Gone k)) None) ≡ false
past_gets_none k true = refl
past_gets_none k false = refl

mark_gets_none : (k : ℕ) (a : Bool) → gets_key (Some (cond a (reply.Gone k) (reply.Removed k))) ≡ false
mark_gets_none k true = refl
mark_gets_none k false = refl

look_gets_none : (k : ℕ) (v : List ℕ) (a : Bool) → gets_key (Some (cond a (reply.Seen k v) (reply.Gone k))) ≡ false
look_gets_none k v true = refl
look_gets_none k v false = refl

-- a key is got only if the value is there
got_live : (k j : ℕ) (a b : Bool) → Some (cond a (cond b (reply.Got k) (reply.Crowded k)) (reply.Gone k))
    ≡ Some (reply.Got j) → a ≡ true
got_live k j true b h = refl
got_live k j false b h = absurd (let z : false ≡ true = ap gets_key h in cc)

-- the state word of a slot that has a value
abbrev pub Live : Row → ℕ → Type 0
Live r n = (q : ℕ) × (s : ℕ) × (r.place ≡ State q s) × ((fields_of n).present ≡ true)

module _ (plan : Plan) (p : Body) where
  no_get : {A : Type 0} (o : Option Reply) (j : ℕ) → gets_key o ≡ false → o ≡ Some (reply.Got j) → A
  no_get o j none some = absurd (let z : true ≡ false = sym (ap gets_key some) ∙ none in cc)

  pub gets : (m : Move) (j n : ℕ) → (row_of plan p m).reply n ≡ Some (reply.Got j) → Live (row_of plan p m) n
  gets (EnterGet k x) j n g =
      let live = got_live k j (live_at x.generation n) (nat_lt (fields_of n).count plan.keys.guard_max) g in
      let there = and3 (fields_of n).present (not (fields_of n).marked) ((fields_of n).generation == x.generation) live
      in (x.page, x.slot, refl, there.0)
  gets (EnterRemove k x) j n g = no_get _ j (remove_gets_none k (live_at x.generation n)) g
  gets (Mark k x) j n g = no_get _ j (mark_gets_none k (fields_of n).marked) g
  gets (Look k x) j n g = no_get _ j (past_gets_none k (past_at x.generation n)) g
  gets (LookAgain k x s) j n g = no_get _ j (look_gets_none k (value_seen s) (live_at x.generation n)) g
  gets m j n g = no_get ((row_of plan p m).reply n) j refl g

-- a place of the plan is one of the shape
pub is_place : PlansHaveShapesPlaces
is_place layout shape (Class q) h = h
is_place layout shape (Head q) h = h
is_place layout shape (PageLink q) h = h
is_place layout shape (State q s) h = h
is_place layout shape (Link q s) h = h
is_place layout shape (Length q s) h = h
is_place layout shape (Payload q s) h = h
is_place layout shape (Owner q) h = h
is_place layout shape (Bell q) h = h

pub word_fits : (plan : Plan) (w : World) → BellsAreSmall plan w → (q : Place) → WordFits plan q (read w.words q)
word_fits plan w h (Bell n) = let s = h.0 n in omega arith
word_fits plan w h (PageLink q) = h.1 q
word_fits plan w h _ = tt

-- if a slot has a value in the world, it has one in the list
keeps : (layout : Layout) (k : KeptWorld) (w : World) (q s : ℕ) → Represents k w → ValuesFit (plan_of layout k.shape) w
    → (fields_of (w.words.state_at q s)).present ≡ true → SlotHasValue k.shape k.words (record { page = q; slot = s })
keeps layout k w q s st fits there = go (fits (record { page = q; slot = s }) (rw there refl)) where
  go : (0 < w.words.class_at q) × (w.words.class_at q ≤ 8) × (q < heap_pages (plan_of layout k.shape))
      × (s < slots (w.words.class_at q - 1)) × (w.words.length_at q s ≤ width (w.words.class_at q - 1))
      → SlotHasValue k.shape k.words (record { page = q; slot = s })
  go (some, known, page, slot, wide) =
      let c : word_at k.shape k.words (Class q) ≡ w.words.class_at q = st.words.at (Class q) page in
      let few = slots_few (w.words.class_at q - 1) in
      let low : s < 48 = omega arith in
      let l : word_at k.shape k.words (Length q s) ≡ w.words.length_at q s = st.words.at (Length q s) (page, low) in
      record {
        page = page;
        has_class = rw c some;
        is_class = rw c known;
        slot = rw c slot;
        length = rw (c, l) wide;
      }

-- if the condition of an action holds, its row may be done
pub ready : (layout : Layout) (k : KeptWorld) (a : ℕ) (p : Body) (x : Action) (r : Row) → FromEvents layout k
    → slice_get k.parts a ≡ Some p → row (plan_of layout k.shape) p x ≡ Some r → IsReady layout k.shape k.words r
ready layout k a p x r reached at e =
    let plan : Plan = plan_of layout k.shape in
    let w : World = run plan reached.events in
    let st : Represents k w = reached.stands in
    let f : Refines plan w (lists_of plan reached.events) = theorem layout k.shape reached.is_layout reached.is_shape
    reached.fits reached.events in
    let here : slice_get w.parts a ≡ Some p = rw (← st.parts) at in
    let place : IsPlace k.shape r.place = is_place layout k.shape r.place (f.places a p x r here e) in
    let n : word_at k.shape k.words r.place ≡ read w.words r.place = st.words.at r.place place in
    record {
      count = st.words.count;
      row = record {
        place = place;
        stores = f.stores a p x r here e;
        word = subst (WordFits plan r.place) (sym n) (word_fits plan w f.bells r.place);
        issues = let P : ℕ → Type 0 = λ m. (j : ℕ) (v : List ℕ) (q s : ℕ) → r.reply m ≡ Some (reply.Insert j v)
            → r.place ≡ State q s → plan.keys.unpack j ≡ Some
            (record { page = q; slot = s; generation = (fields_of m).generation }) in
            subst P (sym n) (λ j v q s c d. f.issues a p x r j v q s here e c d);
      };
      counts = subst (CountFits r.operation) (sym n) (f.counts a p x r here e);
      gets = λ j g.
          let found : ℕ = word_at k.shape k.words r.place in
          let live = by_move plan p x r (λ u. u.reply found ≡ Some (reply.Got j) → Live u found) e
          (λ m may. gets plan p m j found) g in
          let P : Place → Type 0 = KeepsValue k.shape k.words in
          let Q : Place → Type 0 = λ q. (fields_of (read w.words q)).present ≡ true in
          let R : ℕ → Type 0 = λ m. (fields_of m).present ≡ true in
          let there : (fields_of (w.words.state_at live.0 live.1)).present ≡ true = subst Q live.2 (subst R n live.3) in
          subst P (sym live.2) (keeps layout k w live.0 live.1 st f.values there);
    }
