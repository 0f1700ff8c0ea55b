-- An order goes on from one level to the next, or its outcome was found.
use Rattle.std.proofs.Common.{◌≡◌, ℕ, ◌<◌, ◌≤◌, Bool, true, false, cond, List, [], ◌∷◌, ◌++◌, length, get_or, refl}
use Rattle.std.proofs.Common.{sym, ap, ◌∙◌, subst, arith, Option, Some, None, slice_get, inl, inr, append-nil}
use Rattle.std.proofs.Common.{append_assoc, map}
use Rattle.std.specs.Prelude.{option_map, slice_set}
use Rattle.std.specs.List.{All, filter}
use Rattle.std.proofs.lemmas.Bool.{cases_lt}
use Rattle.std.proofs.lemmas.List.{length-map}
use Rattle.std.proofs.lemmas.List.FromFn.{fill_by_all}
use Rattle.std.proofs.lemmas.Option.{slice_get-get_or, slice_get-map, slice_get_within, get_or_from_slice_get}
use Rattle.sh_key.specs.Layout.{Layout}
use Rattle.sh_step.specs.declared.action.Event.{Event}
use Rattle.sh_step.specs.declared.body.Body.{Body}
use Rattle.sh_step.specs.Plans.{Plan}
use Rattle.sh_core.specs.Outcomes.{outcome_of}
use Rattle.sh_core.specs.Worlds.{step}
use Rattle.script_orders.specs.declared.found.Found.{Found}
use Rattle.script_orders.specs.declared.found.Program.{Program}
use Rattle.script_orders.specs.declared.state.State.{State}
use Rattle.script_orders.specs.Lanes.{Did, nothing, and_then}
use Rattle.script_orders.specs.Orders.{is_of, lines_within, IsOfSome, IsOrder, reply_line}
use Rattle.script_orders.specs.Reached.{plan_in, world_by, replies_by, pages_by, all_replies_by, pages_asked, is_due}
use Rattle.script_orders.specs.Reached.{lanes_of, IsReached, IsWorldOf, HasOutcome, IsHeap}
use Rattle.script_orders.specs.Walks.{IsFollowed, ComesTo, GoesOn, IsCovered, HasEnd, AllRest, KeepsFound}
use Rattle.script_orders.proofs.Coming.{first, none_before, comes_skipped, comes_on, comes_alike}
use Rattle.script_orders.proofs.FirstLines.{none_left}
use Rattle.script_orders.proofs.LineOptions.{pass_is, other_not_due, past_not_due}
use Rattle.script_orders.proofs.SamePages.{pages_same}

-- ---- a line is one of a pass

event_at : (lines : List Event) (a n : ℕ) → is_of lines a n ≡ true → (e : Event) × (slice_get lines n ≡ Some e)
event_at lines a n h = go (slice_get lines n) refl h where
  go : (o : Option Event) → slice_get lines n ≡ o → pass_is a o ≡ true → (e : Event) × (slice_get lines n ≡ Some e)
  go (Some e) at k = (e, at)
  go None at k = absurd (let z : false ≡ true = k in cc)

of_some_pass : (lines : List Event) (passes : ℕ) (order : List ℕ) (n : ℕ) (rest : List ℕ)
    → IsOrder lines passes (order ++ n ∷ rest) → IsOfSome lines passes n
of_some_pass lines passes order n rest is =
    let here : get_or (order ++ n ∷ rest) (length order) 0 ≡ n = at_end order in
    subst (IsOfSome lines passes) here (is.only (length order) 0 (many order)) where
      at_end : (xs : List ℕ) → get_or (xs ++ n ∷ rest) (length xs) 0 ≡ n
      at_end [] = refl
      at_end (x ∷ xs) = at_end xs

      many : (xs : List ℕ) → length xs < length (xs ++ n ∷ rest)
      many [] = omega arith
      many (x ∷ xs) = let less = many xs in omega arith

-- ---- the order is at its end

module _ (layout : Layout) (p : Program) (order : List ℕ) (s : State) (reached : IsReached layout p s)
    (comes : ComesTo layout p order s) where
  -- no pass has a line left that is due
  pub all_rest : IsOrder p.lines.now p.shape.passes order → AllRest layout p s
  all_rest is a less d at n low =
      let plan : Plan = plan_in layout p in
      let passed = comes.each a d at in
      let parts = (world_by layout p order).parts in
      let here : is_due plan parts p.lines.now a n ≡ false = elim (cases_lt n passed.upto) [
        | inl before ↦ passed.skips n low before
        | inr not ↦ elim (cases_lt n (length p.lines.now)) [
          | inl within ↦
              other_not_due plan parts p.lines.now a n
              (none_left p.lines.now a passed.upto order passed.within passed.lines (is.all a less) n (omega arith)
              within)
          | inr past ↦ past_not_due plan parts p.lines.now a n (omega arith)
        ]
      ] in
      subst (λ (bs : List Body). is_due plan bs p.lines.now a n ≡ false) comes.world.parts here

  replies_are : map (λ (d : Did). d.replies) (lanes_of s) ≡ all_replies_by layout p order
  replies_are =
      let f : Did → List ℕ = λ d. d.replies in
      let lanes = lanes_of s in
      let count = reached.count in
      fill_by_all (replies_by layout p order) (map f lanes) p.shape.passes [] (length-map lanes f ∙ count) (λ a less.
      let d : Did = get_or lanes a nothing in
      let at : slice_get lanes a ≡ Some d = slice_get-get_or lanes a nothing (omega arith) in
      get_or_from_slice_get (map f lanes) a (f d) [] (slice_get-map f lanes a ∙ ap (option_map f) at)
      ∙ (comes.each a d at).replies)

  -- the outcome of the state is that of the order
  pub end_is_outcome : IsHeap layout p → (found : List Found) → HasEnd layout p found s
      → HasOutcome layout p found order
  end_is_outcome heap found (place, f, at, replies, pages) =
      let same : pages_by layout p s.order.items ≡ pages_by layout p order =
      pages_same layout p s order heap reached comes.world in
      (place, f, at, replies ∙ replies_are, pages ∙ ap (λ (text : List ℕ). cond p.accounts text []) same)

-- ---- one line more of it

module _ (layout : Layout) (p : Program) (next : List State) (found : List Found) (s : State) (heap : IsHeap layout p)
    (reached : IsReached layout p s) (all : All (IsReached layout p) next)
    (followed : (a : ℕ) → a < p.shape.passes → IsFollowed layout p next s a)
    (ended : AllRest layout p s → HasEnd layout p found s) where
  -- the state to which the pass goes on is the one to which the order comes
  due_goes_on : (order : List ℕ) (n : ℕ) (rest : List ℕ) (e : Event) (a : ℕ) → slice_get p.lines.now n ≡ Some e
      → is_of p.lines.now a n ≡ true → ((b : ℕ) → b < p.shape.passes → filter (is_of p.lines.now b) (order ++ n ∷ rest)
      ≡ lines_within p.lines.now b 0 (length p.lines.now)) → a < p.shape.passes → ComesTo layout p order s
      → (lane : Did) → slice_get (lanes_of s) a ≡ Some lane
      → is_due (plan_in layout p) (world_by layout p order).parts p.lines.now a n ≡ true
      → IsFollowed layout p next s a → GoesOn layout p next (order ++ n ∷ rest)
  due_goes_on order n rest e a at own each less comes lane there due (inl rests) =
      let plan : Plan = plan_in layout p in
      let before = first layout p order n rest s e a at own each less comes lane there in
      let low = before.low in
      let behind = (comes.each a lane there).behind in
      let not : is_due plan (world_by layout p order).parts p.lines.now a n ≡ false =
      subst (λ (bs : List Body). is_due plan bs p.lines.now a n ≡ false) (sym comes.world.parts)
      (rests lane there n (omega arith)) in
      absurd (let z : false ≡ true = sym not ∙ due in cc)
  due_goes_on order n rest e a at own each less comes lane there due (inr (t, goes, (place, u, got, alike))) =
      let plan : Plan = plan_in layout p in
      let lines : List Event = p.lines.now in
      let before = first layout p order n rest s e a at own each less comes lane there in
      let low = before.low in
      let behind = (comes.each a lane there).behind in
      let next_is = goes.next in
      let one : goes.lane ≡ lane = let z : Some goes.lane ≡ Some lane = sym goes.at ∙ there in cc in
      let from : goes.lane.behind ≡ lane.behind = ap (λ (d : Did). d.behind) one in
      let due_s : is_due plan (world_by layout p s.order.items).parts lines a n ≡ true =
      subst (λ (bs : List Body). is_due plan bs lines a n ≡ true) comes.world.parts due in
      let none : (m : ℕ) → lane.behind ≤ m → m < n
      → is_due plan (world_by layout p s.order.items).parts lines a m ≡ false = λ m low' high'.
      subst (λ (bs : List Body). is_due plan bs lines a m ≡ false) comes.world.parts
      (none_before layout p order n rest s e a at own each less comes lane there m low' high') in
      let after = next_is.after in
      let same : goes.number ≡ n = elim (cases_lt goes.number n) [
        | inl below ↦
            absurd (let z : false ≡ true = sym (none goes.number (omega arith) below) ∙ next_is.due in cc)
        | inr not ↦ elim (cases_lt n goes.number) [
          | inl above ↦
              absurd (let z : false ≡ true = sym (next_is.first n (omega arith) above) ∙ due_s in cc)
          | inr not' ↦ omega arith
        ]
      ] in
      let event : goes.event ≡ e =
      let z : Some goes.event ≡ Some e = sym goes.there ∙ ap (slice_get lines) same ∙ at in cc in
      let w = world_by layout p order in
      let v = world_by layout p s.order.items in
      let on = goes.alike w comes.world in
      let replied : outcome_of plan w e ≡ outcome_of plan v e =
      subst (λ (x : Event). outcome_of plan w x ≡ outcome_of plan v x) event on.0 in
      let here = subst (λ (x : Event). IsWorldOf layout p t (step plan w x)) event on.1 in
      let lanes : lanes_of t ≡ slice_set (lanes_of s) a (and_then lane n goes.seen (reply_line e (outcome_of plan v e)))
      = goes.lanes ∙ λ i. slice_set (lanes_of s) a (and_then (one i) (same i) goes.seen
      (reply_line (event i) (outcome_of plan v (event i)))) in
      let comes_t = comes_on layout p order n rest s e a at own each less comes lane there t goes.seen
      (outcome_of plan v e) replied here lanes in
      let within = slice_get_within next place u got in
      let reached_u : IsReached layout p u =
      subst (IsReached layout p) (get_or_from_slice_get next place u u got) (all place u within) in (
        order ++ n ∷ [],
        rest,
        sym (append_assoc order (n ∷ []) rest),
        place,
        u,
        got,
        comes_alike layout p (order ++ n ∷ []) u t reached_u goes.reached alike comes_t,
      )

  -- the next line is this pass's
  abbrev NextOf : (n a : ℕ) → Type 0
  NextOf n a = (e : Event) × (lane : Did) × (slice_get p.lines.now n ≡ Some e)
      × (is_of p.lines.now a n ≡ true) × (a < p.shape.passes) × (slice_get (lanes_of s) a ≡ Some lane)

  next_of : (order : List ℕ) (n : ℕ) (rest : List ℕ) → IsOrder p.lines.now p.shape.passes (order ++ n ∷ rest)
      → (a : ℕ) × NextOf n a
  next_of order n rest is =
      let some = of_some_pass p.lines.now p.shape.passes order n rest is in
      let event = event_at p.lines.now some.0 n some.2 in
      let count = reached.count in
      let less = some.1 in (
        some.0,
        (
          event.0,
          get_or (lanes_of s) some.0 nothing,
          event.1,
          some.2,
          less,
          slice_get-get_or (lanes_of s) some.0 nothing (omega arith),
        ),
      )

  one_more : (n : ℕ) (rest order : List ℕ) (a : ℕ) → NextOf n a
      → IsOrder p.lines.now p.shape.passes (order ++ n ∷ rest) → ComesTo layout p order s
      → ((more : List ℕ) → IsOrder p.lines.now p.shape.passes (more ++ rest) → ComesTo layout p more s
      → IsCovered layout p next found (more ++ rest))
      → (b : Bool) → is_due (plan_in layout p) (world_by layout p order).parts p.lines.now a n ≡ b
      → IsCovered layout p next found (order ++ n ∷ rest)
  one_more n rest order a (e, lane, at, own, less, there) is comes on true due =
      inl (due_goes_on order n rest e a at own is.all less comes lane there due (followed a less))
  one_more n rest order a (e, lane, at, own, less, there) is comes on false not =
      let same : (order ++ n ∷ []) ++ rest ≡ order ++ n ∷ rest = append_assoc order (n ∷ []) rest in
      subst (λ (xs : List ℕ). IsCovered layout p next found xs) same
      (on (order ++ n ∷ []) (subst (IsOrder p.lines.now p.shape.passes) (sym same) is)
      (comes_skipped layout p order n rest s e a at own is.all less comes lane there not))

  pub goes_through : (rest order : List ℕ) → IsOrder p.lines.now p.shape.passes (order ++ rest)
      → ComesTo layout p order s → IsCovered layout p next found (order ++ rest)
  goes_through [] order is comes =
      let whole : IsOrder p.lines.now p.shape.passes order =
      subst (IsOrder p.lines.now p.shape.passes) (append-nil order) is in
      subst (λ (xs : List ℕ). IsCovered layout p next found xs) (sym (append-nil order))
      (inr (end_is_outcome layout p order s reached comes heap found
      (ended (all_rest layout p order s reached comes whole))))
  goes_through (n ∷ rest) order is comes =
      let here = next_of order n rest is in
      one_more n rest order here.0 here.1 is comes
      (λ more is' comes'. goes_through rest more is' comes')
      (is_due (plan_in layout p) (world_by layout p order).parts p.lines.now here.0 n) refl

-- ---- from one level to the next

pub covered_on : (layout : Layout) (p : Program) (level next : List State) (old new : List Found) → IsHeap layout p
    → All (IsReached layout p) level → All (IsReached layout p) next
    → ((place : ℕ) (s : State) → slice_get level place ≡ Some s → (a : ℕ) → a < p.shape.passes
    → IsFollowed layout p next s a)
    → ((place : ℕ) (s : State) → slice_get level place ≡ Some s → AllRest layout p s → HasEnd layout p new s)
    → KeepsFound old new → (order : List ℕ) → IsOrder p.lines.now p.shape.passes order
    → IsCovered layout p level old order → IsCovered layout p next new order
covered_on layout p level next old new heap reached all followed ended keeps order is (inr has) =
    inr (keeps (all_replies_by layout p order) (pages_asked layout p order) has)
covered_on layout p level next old new heap reached all followed ended keeps order is
    (inl (begun, rest, same, place, s, at, comes)) =
    let within = slice_get_within level place s at in
    let here = subst (IsReached layout p) (get_or_from_slice_get level place s s at) (reached place s within) in
    subst (λ (xs : List ℕ). IsCovered layout p next new xs) (sym same)
    (goes_through layout p next new s heap here all (followed place s at) (ended place s at) rest begun
    (subst (IsOrder p.lines.now p.shape.passes) same is) comes)

-- no level is left
pub covered_at_end : (layout : Layout) (p : Program) (level : List State) (found : List Found) (order : List ℕ)
    → level ≡ [] → IsCovered layout p level found order → HasOutcome layout p found order
covered_at_end layout p level found order none (inr has) = has
covered_at_end layout p level found order none (inl (begun, rest, same, place, s, at, comes)) =
    absurd (let z : None ≡ Some s = sym (ap (λ (xs : List State). slice_get xs place) none) ∙ at in cc)
