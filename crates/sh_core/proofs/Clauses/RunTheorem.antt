-- The theorem: what is kept along a run, and each of its clauses.
use Rattle.std.proofs.Common.{◌||◌, ◌≡◌, ℕ, zero, suc, ◌<◌, ◌≤◌, List, refl, subst, arith, Some, None, slice_get}
use Rattle.sh_slots.specs.declared.hand.Hand.{Hand}
use Rattle.sh_slots.specs.declared.hand.Hand.TheVariants.{Removing, Filling}
use Rattle.sh_history.specs.History.{Legal}
use Rattle.sh_step.specs.Plans.{Plan, Lawful, keys_of, plan_of, heap_pages}
use Rattle.sh_step.specs.Collections.{total, if1, noted}
use Rattle.sh_step.specs.declared.moves.Move.{Move}
use Rattle.sh_step.specs.Ends.{HandNames}
use Rattle.sh_step.specs.Moves.{row_of}
use Rattle.sh_step.specs.Rows.{Row}
use Rattle.sh_step.proofs.EndLaws.{steps_come_nearer, steps_go_on}
use Rattle.sh_step.specs.declared.body.Body.{Body}
use Rattle.sh_core.specs.Lists.{PutLists, lists_of, no_lists, state_of}
use Rattle.sh_core.specs.Placed.{Agreement, ListsAgreeOf, BoundsOf}
use Rattle.sh_core.specs.Sums.{Sums}
use Rattle.sh_step.specs.declared.action.Event.{Event}
use Rattle.sh_core.specs.Worlds.{World, apply, run, open_world}
use Rattle.sh_core.specs.Words.{read}
use Rattle.sh_core.specs.Reads.{ReadsAgreeOf, AllReadsAgree}
use Rattle.sh_core.proofs.Clauses.OpenSums.{part_new}
use Rattle.sh_step.specs.Conditions.{May}
use Rattle.sh_core.proofs.Moves.ByMove.{lists_after, run_keeps, MovesCount}
use Rattle.sh_core.proofs.Moves.RunAll.{all_move}
use Rattle.sh_core.proofs.Kept.ReadNotes.{reads_move}
use Rattle.sh_core.proofs.Clauses.RunRefines.{all_open, one_kind, held_keys, counted}
use Rattle.sh_core.proofs.Clauses.KeyFacts.{past, keys_told, holds_told}
use Rattle.sh_core.proofs.Kept.LastGenerations.{last_move, last_open}
use Rattle.sh_core.proofs.Clauses.OwnerFacts.{one_owner, shardless, own_stands}
use Rattle.sh_key.specs.Layout.{Layout, IsLayout}
use Rattle.sh_shape.specs.Shape.{Numbers, IsShape, Fits}
use Rattle.sh_slots.specs.Slots.{name_at}
use Rattle.sh_core.specs.Refines.{ClassesAreKnown, FillsAreKeys, KeysInHandName, Refines, CountIsFew, RetiredIsLast}
use Rattle.sh_core.specs.Refines.{EntriesAreOurs}
use Rattle.sh_core.specs.InHeap.{AllInHeap, ValuesFit, HandWithin}
use Rattle.sh_core.proofs.Clauses.BellWords.{bells_are_small}
use Rattle.sh_core.proofs.Kept.RowsFit.{stores_words, issues_keys}
use Rattle.sh_core.specs.Tallies.{visits}
use Rattle.sh_core.proofs.Clauses.LayoutLaws.{plan_lawful}
use Rattle.sh_core.proofs.Kept.StaysInHeap.{places_move, places_open, hand_within}
use Rattle.sh_core.proofs.Kept.PlacesInHeap.{steps_within, counts_fit, moves_count}
use Rattle.sh_core.proofs.Slots.SlotSums.{visits_few}
use Rattle.sh_core.proofs.Kept.HoldsInBound.{HoldsInBound, holds_move, holds_open}
use Rattle.sh_core.proofs.Clauses.KeyHolds.{holds_few}
use Rattle.sh_core.proofs.Kept.Flags.{FlagsAlone, flags_move, flags_open, flagged_empty}
use Rattle.sh_core.specs.Looks.{LooksAreTrue}
use Rattle.sh_core.proofs.Kept.Looks.{looks_move, looks_open}
use Rattle.sh_core.specs.KeyEnds.{EndsAreTrue, HandEnds}
use Rattle.sh_core.proofs.Kept.OneEnd.{event_once}
use Rattle.sh_core.proofs.Kept.Ends.{EndsBegun, ends_move, ends_open, end_words}
use Rattle.sh_core.proofs.Kept.WordNotes.{WordNotesStand, words_move, words_open, notes}
use Rattle.sh_core.proofs.Sums.Totals.{total_length}
use Rattle.sh_core.proofs.Sums.ClassSlots.{class_room}

reads_open : (plan : Plan) → AllReadsAgree plan (open_world plan)
unfolding total noted
reads_open plan a p at =
    let e = part_new plan.passes a p at in
    let P : Body → Type 0 = λ u. ReadsAgreeOf plan (open_world plan).words u in
    subst P e (record {
      named = λ k h. absurd (omega arith);
      classed = λ k c h. absurd
          (let z : None ≡ Some c = h in cc);
      measured = λ k c h. absurd (let z : None ≡ Some c = h in cc);
    })

-- what is kept along a run
pub record Invariant (plan : Plan) (w : World) (l : PutLists) : Type 0 where
  -- the history is legal; slots, keys, holds and values agree with it
  pub sums : Sums plan w l
  -- stacks, bells, the duty to ring, owners, and what they note
  pub lists : ListsAgreeOf plan w.words w.parts l
  -- generations, class words and lengths
  pub bounds : BoundsOf plan w.words
  -- what was read of keys, and of their values word by word
  pub notes : AllReadsAgree plan w
  pub words : WordNotesStand w
  -- what looks have read of keys that they do not hold
  pub looks : LooksAreTrue plan w
  pub places : AllInHeap plan w
  pub holds : HoldsInBound plan w
  pub retired : RetiredIsLast plan w
  pub entries : EntriesAreOurs plan w
  pub flags : FlagsAlone w
  -- what passes know of keys that they are to end
  pub ends : EndsBegun plan w

-- the three that each move's lemma keeps together
abbrev agreement : (plan : Plan) (w : World) (l : PutLists) → Invariant plan w l → Agreement plan w l
agreement plan w l k = record { sums = k.sums; lists = k.lists; bounds = k.bounds }

-- the induction: each move keeps them
kept_move : (plan : Plan) → Lawful plan → (w : World) (l : PutLists) (a : ℕ) (p : Body) (m : Move)
    → Invariant plan w l → slice_get w.parts a ≡ Some p → May plan p m
    → (let r : Row = row_of plan p m in Invariant plan (apply w a r) (lists_after plan p m (read w.words r.place) l))
kept_move plan laws w l a p m k at may =
    let old : Agreement plan w l = agreement plan w l k in
    let new = all_move plan w l a p laws old (k.looks a p at) at m may in
    let counts = moves_count plan w l laws old k.notes k.places a p at in
    let last = last_move plan w l a p m old counts at may
    (record { retired = k.retired; entries = k.entries }) in record {
      sums = new.sums;
      lists = new.lists;
      bounds = new.bounds;
      notes = reads_move plan w l a p m old k.notes at may;
      words = words_move plan w l a p m old k.notes at may k.words;
      looks = looks_move plan w l a p m old k.looks at may;
      places = places_move plan w a p m (λ q s. (k.bounds.generations q s).1) at may k.places;
      holds = holds_move plan w l a p m k.sums at may k.holds;
      retired = last.retired;
      entries = last.entries;
      flags = flags_move plan w a p m k.flags;
      ends = ends_move plan w l a p m laws old counts (k.places a p at) k.ends at may new;
    }

module _ (plan : Plan) (w : World) (l : PutLists) (laws : Lawful plan) (kept : Invariant plan w l) where
  abbrev all : Agreement plan w l
  all = agreement plan w l kept

  few : CountIsFew plan w
  few x =
      let f = all.sums.slots x in
      let h = kept.holds x in
      let v = total_length (visits plan x) (λ p. visits_few plan x p p.hand) w.parts in omega arith

  -- class words are small, and 0 past the last page
  classes : ClassesAreKnown plan w
  classes q = (bounds.0, λ past. none (w.words.class_at q) refl past) where
    bounds : (w.words.class_at q ≤ 8) × (0 < w.words.class_at q → q < heap_pages plan)
    bounds = all.bounds.classes q

    none : (n : ℕ) → w.words.class_at q ≡ n → heap_pages plan ≤ q → n ≡ 0
    none zero e past = refl
    none (suc n) e past = absurd (let inside = bounds.1 (omega arith) in omega arith)

  values_fit : ValuesFit plan w
  values_fit x there =
      let f = all.sums.slots x in
      let one : if1 ((state_of w x).present || (state_of w x).marked) ≡ 1 = rw there refl in
      let r = class_room w.words x (omega arith) in
      let c = all.bounds.classes x.page in (r.0, c.0, c.1 r.0, r.1, all.bounds.lengths x.page x.slot there)

  fills : FillsAreKeys plan w
  fills a p x v i at is =
      let h = hand_within plan p (Filling x v i) (kept.places a p at) is in
      let g = all.bounds.generations x.page x.slot in laws.names (name_at x (state_of w x).generation) g.0 g.1 h.0 h.1

  -- a key in hand names a slot
  hand_names : (h : Hand) → HandWithin plan h → HandNames plan h
  hand_names (Removing k) is = is
  hand_names _ is = tt

  hands : KeysInHandName plan w
  hands a p at = hand_names p.hand (kept.places a p at).hand

  ends_true : EndsAreTrue plan w
  ends_true = record {
    begun = kept.ends;
    words = λ a p x g s at is all_read.
        let t = subst (HandEnds plan w) is (kept.ends a p at) in
        end_words plan laws w l all a p at (counts a p at) (kept.places a p at) (plan.keys.pack (name_at x g))
        (name_at x g) s t all_read;
    once = event_once plan w l all counts;
  } where
    counts : (a : ℕ) (p : Body) → slice_get w.parts a ≡ Some p → MovesCount plan w p
    counts = moves_count plan w l laws all kept.notes kept.places

  pub refines : Refines plan w l
  refines = record {
    legal = all.sums.legal;
    entries = kept.entries;
    one_kind = one_kind plan w l all;
    classes = classes;
    held = held_keys plan w l all kept.notes;
    notes = notes plan w l all kept.notes kept.words;
    looks = kept.looks;
    holds = holds_told plan w l all;
    counted = counted plan w l all;
    few = few;
    counts = counts_fit plan w l laws all kept.notes kept.places;
    past = past plan w l all;
    keys = keys_told plan w l all;
    generations = λ x. all.bounds.generations x.page x.slot;
    retired = kept.retired;
    finished = λ x a b c. (all.sums.slots x).owed a b c;
    owners = one_owner plan w l all;
    armed = all.lists.duty;
    shardless = shardless plan w l all;
    linked = (all.lists.stacks, all.lists.bells);
    parts = own_stands plan w l laws all kept.notes kept.places;
    fills = fills;
    places = steps_within plan w l laws all kept.notes kept.places;
    bells = bells_are_small plan w l laws all kept.notes kept.places;
    values = values_fit;
    stores = stores_words plan w laws fills kept.places;
    issues = issues_keys plan w laws fills kept.places;
    passes = all.sums.passes;
    few_holds = holds_few plan w kept.notes kept.holds;
    flags = flagged_empty plan w l all kept.flags;
    hands = hands;
    ends = ends_true;
    goes_on = λ a p at busy. (steps_go_on plan p busy (hands a p at), steps_come_nearer plan p busy);
  }

-- every run of every heap
pub theorem : (layout : Layout) (shape : Numbers) → IsLayout layout → IsShape shape → Fits layout shape
    → (es : List Event) → Refines (plan_of layout shape) (run (plan_of layout shape) es)
    (lists_of (plan_of layout shape) es)
theorem layout shape a b c es =
    let plan : Plan = plan_of layout shape in
    let laws : Lawful plan = plan_lawful layout shape a b c in
    let opened = all_open plan laws in
    let last = last_open plan in
    refines plan (run plan es) (lists_of plan es) laws (run_keeps plan (Invariant plan) (open_world plan) no_lists es
    (record {
      sums = opened.sums;
      lists = opened.lists;
      bounds = opened.bounds;
      notes = reads_open plan;
      words = words_open plan;
      looks = looks_open plan;
      places = places_open plan;
      holds = holds_open plan;
      retired = last.retired;
      entries = last.entries;
      flags = flags_open plan;
      ends = ends_open plan;
    }) (kept_move plan laws))

-- its log, with the layout's own bound on holds
pub legal_of : (layout : Layout) (shape : Numbers) → IsLayout layout → IsShape shape → Fits layout shape
    → (es : List Event) → Legal shape.passes layout.guard_max (run (plan_of layout shape) es).log
unfolding keys_of
legal_of layout shape a b c es = (theorem layout shape a b c es).legal
