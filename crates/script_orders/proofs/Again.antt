-- A pass that did the same, and finds the same word, does the same next.
use Rattle.std.proofs.Common.{◌≡◌, ℕ, Bool, true, false, cond, List, [], ◌∷◌, ◌++◌, refl, sym, ap, ◌∙◌, subst}
use Rattle.std.proofs.Common.{arith, get_or, Option, Some, None, slice_get, inl, inr, append_assoc, append-nil}
use Rattle.std.proofs.Common.{eq-eqb, ne_eqb, rc_value}
use Rattle.std.specs.Prelude.{Ok, option_map}
use Rattle.std.proofs.lemmas.Bool.{cases_eq}
use Rattle.std.proofs.lemmas.Option.{slice_get-get_or, slice_get_within, get_or_from_slice_get}
use Rattle.sh_key.specs.Layout.{Layout}
use Rattle.sh_shape.specs.declared.places.Place.{Place}
use Rattle.sh_shape.specs.Places.{IsPlace, number}
use Rattle.sh_shape.specs.Shape.{Numbers, IsShape, Fits}
use Rattle.sh_shape.proofs.PlaceLaws.{places_differ}
use Rattle.sh_slots.specs.declared.reply.Reply.{Reply}
use Rattle.sh_slots.specs.declared.reply.Reply.TheVariants as reply
use Rattle.sh_step.specs.declared.action.Event.{Event}
use Rattle.sh_step.specs.declared.body.Body.{Body}
use Rattle.sh_step.specs.Moves.{row, row_of}
use Rattle.sh_step.specs.Operations.{operate}
use Rattle.sh_step.specs.Parts.{newcomer}
use Rattle.sh_step.specs.Plans.{Plan, plan_of}
use Rattle.sh_step.specs.Rows.{Row}
use Rattle.sh_core.specs.declared.outcome.Outcome.{Outcome}
use Rattle.sh_core.specs.Kept.{KeptWorld, Represents, FromEvents, HoldsWords, RunsWorld}
use Rattle.sh_core.specs.Outcomes.{outcome_of, done}
use Rattle.sh_core.specs.Words.{read, write}
use Rattle.sh_core.specs.Worlds.{World, step, apply, run, entry_of, value_at_place}
use Rattle.sh_core.proofs.Sums.Writes.{read_same, read_other}
use Rattle.sh_core.proofs.Words.Stepping.{outcome_done}
use Rattle.sh_core.proofs.Words.Steps.{row_of_at, step_moves}
use Rattle.script_orders.specs.declared.found.Program.{Program}
use Rattle.script_orders.specs.declared.known.Known.{Known}
use Rattle.script_orders.specs.declared.known.NextStep.{NextStep}
use Rattle.script_orders.specs.declared.state.State.{State}
use Rattle.script_orders.specs.Changes.{word_in, changes_with, Leaves}
use Rattle.script_orders.specs.Known.{TakesStep, DoesNext, IsKnown, FindsSame, IsSo, shows_value}
use Rattle.script_orders.specs.Lanes.{Did, did, and_then}
use Rattle.script_orders.specs.Orders.{events_of, reply_line}
use Rattle.script_orders.specs.Reached.{plan_in, world_before, done_by, world_by, IsHeap, IsNext, HasNoNext, lanes_of}
use Rattle.script_orders.specs.Reached.{IsReached}
use Rattle.script_orders.specs.Seen.{seen_in, Sees, Touches}
use Rattle.script_orders.specs.States.{Follows}
use Rattle.script_orders.specs.Walks.{GoesTo}
use Rattle.script_orders.proofs.Changing.{changed_on}
use Rattle.script_orders.proofs.LineOptions.{due_event, due_by_part}
use Rattle.script_orders.proofs.Parts.{parts_count}
use Rattle.script_orders.proofs.Playing.{runs_step}
use Rattle.script_orders.proofs.Stepping.{stepped}
use Rattle.script_orders.proofs.Stories.{story_decides}
use Rattle.script_orders.proofs.Walked.{goes_to}

-- ---- the same part

-- a pass that did the same has the same part
pub part_same : (layout : Layout) (p : Program) (s t : State) (a : ℕ) (d : Did) → IsReached layout p s
    → IsReached layout p t → slice_get (lanes_of s) a ≡ Some d → slice_get (lanes_of t) a ≡ Some d
    → slice_get (world_by layout p s.order.items).parts a ≡ slice_get (world_by layout p t.order.items).parts a
part_same layout p s t a d reached also at here =
    let begin : List Body = (run (plan_in layout p) p.before.now).parts in
    let some = parts_count layout p p.before.now in
    let count = reached.count in
    let less = slice_get_within (lanes_of s) a d at in
    let start : Body = get_or begin a newcomer in
    let begins : slice_get begin a ≡ Some start = slice_get-get_or begin a newcomer (omega arith) in
    let one = (reached.each a d at).part start begins in
    let two = (also.each a d here).part start begins in
    one.1
    ∙ ap (λ (b : Body). Some b) (story_decides (plan_in layout p) p.lines.now d.story start one.0 two.0 one.2 two.2)
    ∙ sym two.1

next_by_part : (plan : Plan) (parts others : List Body) (lines : List Event) (a behind n : ℕ)
    → slice_get parts a ≡ slice_get others a → IsNext plan parts lines a behind n → IsNext plan others lines a behind n
next_by_part plan parts others lines a behind n same next = record {
  due = sym (due_by_part plan parts others lines a n same) ∙ next.due;
  after = next.after;
  first = λ m low high. sym (due_by_part plan parts others lines a m same) ∙ next.first m low high;
}

none_by_part : (plan : Plan) (parts others : List Body) (lines : List Event) (a behind : ℕ)
    → slice_get parts a ≡ slice_get others a → HasNoNext plan parts lines a behind
    → HasNoNext plan others lines a behind
none_by_part plan parts others lines a behind same none n low =
    sym (due_by_part plan parts others lines a n same) ∙ none n low

-- ---- the same word

module _ (shape : Numbers) (plan : Plan) (w : World) (e : Event) (touched found seen left : ℕ)
    (t : Touches shape plan w e touched found seen left) where
  abbrev its_row : Row
  its_row = row_of plan t.part t.the_move

  abbrev pub touches_again : (v : World) → slice_get w.parts e.pass ≡ slice_get v.parts e.pass
      → read v.words its_row.place ≡ found → Touches shape plan v e touched found seen left
  touches_again v same finds = record {
    part = t.part;
    the_move = t.the_move;
    at = sym same ∙ t.at;
    is = t.is;
    within = t.within;
    number_is = t.number_is;
    finds = finds;
    seen_is = t.seen_is;
    leaves = t.leaves;
  }

  pub outcome_touched : outcome_of plan w e
      ≡ done (entry_of e.pass (value_at_place w.words its_row.place) (its_row.reply found))
  unfolding row
  outcome_touched =
      outcome_done plan w e its_row (row_of_at plan w e t.part t.at ∙ ap (option_map (row_of plan t.part)) t.is)
      ∙ ap (λ (n : ℕ). done (entry_of e.pass (value_at_place w.words its_row.place) (its_row.reply n))) t.finds

  pub sees_it : Sees plan w e seen
  sees_it = record {
    part = t.part;
    the_move = t.the_move;
    at = t.at;
    is = t.is;
    seen_is = t.seen_is ∙ ap (seen_in plan t.the_move) (sym t.finds);
  }

  pub leaves_it : Leaves shape plan w e touched left
  unfolding row apply
  leaves_it place within =
      let made : Row = its_row in
      let done : step plan w e ≡ apply w e.pass made =
      step_moves plan w e t.part made t.at (ap (option_map (row_of plan t.part)) t.is) in
      let new : ℕ = operate made.operation (read w.words made.place) in
      let is : new ≡ left = ap (operate made.operation) t.finds ∙ sym t.leaves in
      let was : ℕ = read w.words place in
      ap (λ (v : World). read v.words place) done ∙ elim (cases_eq (number shape place) touched) [
        | inl here ↦
            let there : place ≡ made.place =
            places_differ shape place made.place within t.within (here ∙ sym t.number_is) in
            ap (λ (q : Place). read (write w.words made.place new) q) there
            ∙ read_same w.words made.place new
            ∙ is
            ∙ sym (ap (λ (b : Bool). cond b left was) (eq-eqb (number shape place) touched here))
        | inr ne ↦
            read_other w.words made.place place new
            (λ (h : place ≡ made.place). ne (ap (number shape) h ∙ t.number_is))
            ∙ sym (ap (λ (b : Bool). cond b left was) (ne_eqb (number shape place) touched ne))
      ]

  -- a reply without a value is the same whatever the value
  pub no_value : (o : Outcome) → o ≡ outcome_of plan w e → shows_value o ≡ false → (v : List ℕ)
      → outcome_of plan w e ≡ done (entry_of e.pass v (its_row.reply found))
  no_value o is none v =
      outcome_touched
      ∙ go (value_at_place w.words its_row.place) (its_row.reply found)
      (ap shows_value (sym outcome_touched ∙ sym is) ∙ none) where
        go : (u : List ℕ) (r : Option Reply) → shows_value (done (entry_of e.pass u r)) ≡ false
            → done (entry_of e.pass u r) ≡ done (entry_of e.pass v r)
        go u (Some (reply.Insert k x)) h = refl
        go u (Some (reply.Got k)) h = absurd (let z : true ≡ false = h in cc)
        go u (Some (reply.Gone k)) h = refl
        go u (Some (reply.Crowded k)) h = refl
        go u (Some (reply.Removed k)) h = refl
        go u (Some (reply.Released k)) h = refl
        go u (Some (reply.Seen k x)) h = refl
        go u None h = refl

-- ---- the same step

module _ (layout : Layout) (p : Program) (pass : ℕ) (d : Did) (next : NextStep) where
  abbrev this_plan : Plan
  this_plan = plan_in layout p

  takes_again : (w v : World) → slice_get w.parts pass ≡ slice_get v.parts pass
      → (takes : TakesStep layout p w pass d next) → next.has_value ≡ false
      → read v.words (row_of this_plan takes.touches.part takes.touches.the_move).place ≡ next.found
      → TakesStep layout p v pass d next
  takes_again w v same takes none finds =
      let e : Event = takes.event in
      let own : e.pass ≡ pass = (due_event this_plan w.parts p.lines.now pass takes.line e takes.there
      takes.is_next.due).0 in
      let part : slice_get w.parts e.pass ≡ slice_get v.parts e.pass =
      subst (λ (a : ℕ). slice_get w.parts a ≡ slice_get v.parts a) (sym own) same in
      let t = touches_again p.shape this_plan w e next.number next.found takes.seen next.left takes.touches v part
      finds in
      let place : Place = (row_of this_plan takes.touches.part takes.touches.the_move).place in
      let came : outcome_of this_plan w e ≡ outcome_of this_plan v e =
      takes.alike none (value_at_place v.words place)
      ∙ sym (outcome_touched p.shape this_plan v e next.number next.found takes.seen next.left t) in
      record {
        line = takes.line;
        event = e;
        seen = takes.seen;
        is_next = next_by_part this_plan w.parts v.parts p.lines.now pass d.behind takes.line same takes.is_next;
        there = takes.there;
        touches = t;
        inside = takes.inside;
        then_did =
            takes.then_did ∙ ap (λ (o : Outcome). and_then d takes.line takes.seen (reply_line e o)) came;
        alike = λ h u. sym came ∙ takes.alike h u;
      }

-- the word that a change or the beginning says
word_there : (p : Program) (layout : Layout) (s : State) (opening : List ℕ) (place : Place) (touched was found : ℕ)
    → IsReached layout p s → HoldsWords p.shape opening (world_before layout p).words → IsPlace p.shape place
    → number p.shape place ≡ touched → slice_get opening touched ≡ Some was
    → word_in s.changes.items touched was ≡ found
    → read (world_by layout p s.order.items).words place ≡ found
word_there p layout s opening place touched was found reached begins within is_number here finds =
    let before : ℕ = read (world_before layout p).words place in
    let was_is : before ≡ was =
    sym (begins.at place within) ∙ ap (λ (n : ℕ). get_or opening n 0) is_number
    ∙ get_or_from_slice_get opening touched was 0 here in
    sym (reached.changed.at place within)
    ∙ ap (λ (n : ℕ). word_in s.changes.items n before) is_number
    ∙ ap (word_in s.changes.items touched) was_is
    ∙ finds

pub known_next : (layout : Layout) (p : Program) (s : State) (opening : List ℕ) (pass : ℕ) (lane : Did) (it : Known)
    → IsReached layout p s → HoldsWords p.shape opening (world_before layout p).words
    → slice_get (lanes_of s) pass ≡ Some lane → IsKnown layout p it → IsSo opening s.changes.items pass lane it
    → DoesNext layout p s pass it.next
known_next layout p s opening pass lane it reached begins at known so =
    let t : State = known.state in
    let there : slice_get (lanes_of t) pass ≡ Some lane =
    ap (slice_get (lanes_of t)) (sym so.same_pass) ∙ known.at ∙ ap (λ (d : Did). Some d) so.same_lane in
    let same = part_same layout p t s pass lane known.reached reached there at in
    let is : DoesNext layout p t pass it.next =
    subst (λ (a : ℕ). DoesNext layout p t a it.next) so.same_pass known.is in
    go it.next is so.finds there same where
      go : (o : Option NextStep) → DoesNext layout p known.state pass o → FindsSame opening s.changes.items o
          → slice_get (lanes_of known.state) pass ≡ Some lane
          → slice_get (world_by layout p known.state.order.items).parts pass
          ≡ slice_get (world_by layout p s.order.items).parts pass → DoesNext layout p s pass o
      go (Some next) (d, here, takes) (none, was, opens, finds) there same =
          let one : d ≡ lane = let z : Some d ≡ Some lane = sym here ∙ there in cc in
          let takes' : TakesStep layout p (world_by layout p known.state.order.items) pass lane next =
          subst (λ (x : Did). TakesStep layout p (world_by layout p known.state.order.items) pass x next) one takes in
          let t' = takes'.touches in (
            lane,
            at,
            takes_again layout p pass lane next (world_by layout p known.state.order.items)
                (world_by layout p s.order.items) same takes' none
                (word_there p layout s opening (row_of (plan_in layout p) t'.part t'.the_move).place next.number was
                next.found reached begins t'.within t'.number_is opens finds),
          )
      go None rests unit there same = λ d here.
          none_by_part (plan_in layout p) (world_by layout p known.state.order.items).parts
          (world_by layout p s.order.items).parts p.lines.now pass d.behind same
          (rests d (there ∙ sym at ∙ here))

-- ---- the state to which the step leads

from_runs : (layout : Layout) (p : Program) (es : List Event) (k : KeptWorld) → IsHeap layout p
    → RunsWorld layout p.shape es (Ok k) → FromEvents layout k
from_runs layout p es k heap runs =
    let P : Numbers → Type 0 = λ n. Represents k (run (plan_of layout n) es) in
    record {
      is_layout = heap.is_layout;
      is_shape = subst IsShape (sym runs.1) heap.is_shape;
      fits = subst (λ (n : Numbers). Fits layout n) (sym runs.1) heap.fits;
      events = es;
      stands = subst P (sym runs.1) runs.2;
    }

-- there is a heap after further events
runs_on : (layout : Layout) (p : Program) (es ds : List Event) (k : KeptWorld) → IsHeap layout p
    → RunsWorld layout p.shape es (Ok k) → (k' : KeptWorld) × RunsWorld layout p.shape (es ++ ds) (Ok k')
runs_on layout p es [] k heap runs = (
  k,
  subst (λ (xs : List Event). RunsWorld layout p.shape xs (Ok k)) (sym (append-nil es)) runs,
)
runs_on layout p es (e ∷ ds) k heap runs =
    let on = stepped layout k e (from_runs layout p es k heap runs) in
    let more = runs_on layout p (es ++ e ∷ []) ds on.1 heap (runs_step layout p.shape es e on.0 k on.1 runs on.2) in (
      more.0,
      subst (λ (xs : List Event). RunsWorld layout p.shape xs (Ok more.0)) (append_assoc es (e ∷ []) ds) more.1,
    )

pub goes_next : (layout : Layout) (p : Program) (s t : State) (opening : List ℕ) (pass : ℕ) (d : Did) (next : NextStep)
    → IsHeap layout p → HoldsWords p.shape opening (world_before layout p).words → IsReached layout p s
    → slice_get (lanes_of s) pass ≡ Some d → TakesStep layout p (world_by layout p s.order.items) pass d next
    → Follows p.lines.now pass (did (rc_value next.lane))
    (changes_with s.changes.items next.number (get_or opening next.number 0) next.left) s t → GoesTo layout p pass s t
goes_next layout p s t opening pass d next heap begins reached at takes follows =
    let plan : Plan = plan_in layout p in
    let w : World = world_by layout p s.order.items in
    let first : KeptWorld = record {
      shape = p.shape;
      words = opening;
      parts = (world_before layout p).parts;
      log = (world_before layout p).log;
    } in
    let opens : RunsWorld layout p.shape p.before.now (Ok first) = (
      heap.fits,
      refl,
      record { words = begins; parts = refl; log = refl },
    ) in
    let ran = runs_on layout p p.before.now (events_of p.lines.now s.order.items) first heap opens in
    let k : KeptWorld = ran.0 in
    let runs = ran.1 in
    let e : Event = takes.event in
    let t' = takes.touches in
    let on = stepped layout k e (from_runs layout p (done_by p s.order.items) k heap runs) in
    let sees : Sees (plan_of layout k.shape) w e takes.seen =
    subst (λ (m : Numbers). Sees (plan_of layout m) w e takes.seen) (sym runs.1)
    (sees_it p.shape plan w e next.number next.found takes.seen next.left t') in
    let is_next : IsNext (plan_of layout k.shape) k.parts p.lines.now pass d.behind takes.line =
    subst (λ (m : Numbers). IsNext (plan_of layout m) k.parts p.lines.now pass d.behind takes.line) (sym runs.1)
    (subst (λ (bs : List Body). IsNext plan bs p.lines.now pass d.behind takes.line) (sym (runs.2).parts)
    takes.is_next) in
    let came : on.0 ≡ outcome_of plan w e =
    (on.2).outcome_is w runs.2 ∙ ap (λ (m : Numbers). outcome_of (plan_of layout m) w e) runs.1 in
    let is : did (rc_value next.lane) ≡ and_then d takes.line takes.seen (reply_line e on.0) =
    takes.then_did ∙ ap (λ (o : Outcome). and_then d takes.line takes.seen (reply_line e o)) (sym came) in
    let changed = changed_on p.shape opening (world_before layout p).words plan w e next.number next.left
    s.changes.items begins (leaves_it p.shape plan w e next.number next.found takes.seen next.left t')
    ((row_of plan t'.part t'.the_move).place, t'.within, t'.number_is) reached.changed in
    goes_to layout p s pass d k at runs t (did (rc_value next.lane)) takes.line takes.seen e on.0 on.1 reached sees
    is_next takes.there on.2 is (changes_with s.changes.items next.number (get_or opening next.number 0) next.left)
    changed follows
