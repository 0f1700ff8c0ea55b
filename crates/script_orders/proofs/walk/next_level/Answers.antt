use Rattle.std.proofs.Common.{◌≡◌, ℕ, ◌+◌, ◌<◌, Bool, true, false, cond, List, [], ◌∷◌, ◌++◌, length, get_or, take}
use Rattle.std.proofs.Common.{refl, sym, ap, subst}
use Rattle.std.proofs.Common.{◌∙◌, arith, inl, inr, Some, slice_get}
use Rattle.std.specs.List.{All}
use Rattle.std.proofs.lemmas.Bool.{cases_eq}
use Rattle.std.proofs.lemmas.List.{take_more, take_all}
use Rattle.std.proofs.lemmas.List.Elements.{All-nil}
use Rattle.std.proofs.lemmas.Option.{slice_get_within, get_or_from_slice_get}
use Rattle.script_orders.specs.declared.found.Whole.{Whole}
use Rattle.script_orders.specs.declared.state.State.{State}
use Rattle.script_orders.specs.Known.{IsKnown}
use Rattle.script_orders.specs.Reached.{IsReached, IsOutcome, Has}
use Rattle.script_orders.specs.Cuts.{steps_done, AllAfter}
use Rattle.script_orders.specs.Steps.{AllOnce, is_empty}
use Rattle.script_orders.specs.Walks.{IsFollowed, HasEnd, AllRest, Advances}
use Rattle.script_orders.proofs.Added.{followed_kept}
use Rattle.script_orders.proofs.Counted.{went_on, ended_there, advances_none}
use Rattle.script_orders.proofs.Cutting.{states_passed}
use Rattle.script_orders.proofs.Numbered.{once_added}
use Rattle.script_orders.proofs.walk.next_level.Goals as goal
use Rattle.script_orders.proofs.walk.next_level.Goals.{then-not-branch+in_ok-add_end, else-not-branch}

empty_if : (xs : List ℕ) (b : Bool) → b ≡ cond (is_empty xs) false true → b ≡ false → is_empty xs ≡ true
empty_if [] b h k = refl
empty_if (x ∷ xs) b h k = absurd (let z : true ≡ false = sym h ∙ k in cc)

some_if : (xs : List ℕ) (b : Bool) → b ≡ cond (is_empty xs) false true → b ≡ true → is_empty xs ≡ false
some_if [] b h k = absurd (let z : false ≡ true = sym h ∙ k in cc)
some_if (x ∷ xs) b h k = refl

pub loop-state-init : goal.loop-state-init
loop-state-init g c =
    let layout = g.L.KeyLayout.layout in
    let p = c.args.program.now in
    let old = c.args.whole.now.found.items in record {
      played = c.requires.heap;
      known = subst (All (IsKnown layout p)) (sym c.new-known.ensures.items) (All-nil (IsKnown layout p));
      reached = subst (All (IsReached layout p)) (sym c.new-next.ensures) (All-nil (IsReached layout p));
      found = c.requires.found;
      followed = λ place s less at pass within. absurd (omega arith);
      keeps = λ rs ps has. has;
      ends = λ place s less at rest. absurd (omega arith);
      steps = λ n all.
          subst (AllAfter (n + 1)) (sym c.new-next.ensures) (All-nil (λ (s : State). steps_done s ≡ n + 1));
      once = c.requires.once;
      advances = subst (λ (xs : List State). Advances layout p [] xs old old) (sym c.new-next.ensures)
          (advances_none layout p old);
    }

pub loop-state-preserved : goal.loop-state-preserved
loop-state-preserved g c =
    let layout = g.L.KeyLayout.layout in
    let p = c.args.program.now in
    let level = c.args.level.now.states.items in
    let index = c.loop-state.state-index in
    let item = c.state-item.result in
    let held = c.loop-state.invariant in
    let next = c.go_on.new.next.states.items in
    let goes = c.in_ok-go_on.ensures in
    let is_item : (s : State) → slice_get level index ≡ Some s → item ≡ s = λ s at.
    let is : get_or level index item ≡ s = get_or_from_slice_get level index s item at in
    let value = c.deref-state-items.ensures.value in
    let there = c.state-item.is in cc in
    let followed : (place : ℕ) (s : State) → place < index + 1 → slice_get level place ≡ Some s → (pass : ℕ)
    → pass < p.shape.passes → IsFollowed layout p next s pass = λ place s less at pass within.
    elim (cases_eq place index) [
      | inl e ↦
          subst (λ (x : State). IsFollowed layout p next x pass) (is_item s (ap (slice_get level) (sym e) ∙ at))
          (goes.followed pass within)
      | inr ne ↦
          followed_kept layout p c.loop-state.next.states.items next s pass goes.keeps
          (held.followed place s (omega arith) at pass within)
    ] in
    let old = c.args.whole.now.found.items in
    let before = take index level in
    let from = goes.from in
    let more : before ++ item ∷ [] ≡ take (index + 1) level =
    let test = c.loop-state-test.true in
    let count = ap (λ (xs : List State). length xs) c.deref-state-items.ensures.value in
    let less : index < length level = omega arith in
    let here : get_or level index item ≡ item =
    let value = c.deref-state-items.ensures.value in
    let there = c.state-item.is in cc in
    ap (λ (x : State). before ++ x ∷ []) (sym here) ∙ sym (take_more level index item less) in
    record {
      played = goes.heap;
      known = goes.known;
      reached = goes.all;
      found = elim c.if-not-branch.branch [
        | then-not-branch+in_ok-add_end w ↦
            subst (λ (x : Whole). All (IsOutcome layout p) x.found.items) (sym w.whole-is) w.in_ok-add_end.ensures.found
        | else-not-branch w ↦
            subst (λ (x : Whole). All (IsOutcome layout p) x.found.items) (sym w.whole-is) held.found
      ];
      followed = followed;
      keeps = elim c.if-not-branch.branch [
        | then-not-branch+in_ok-add_end w ↦
            λ rs ps has. subst (λ (x : Whole). Has x.found.items rs ps) (sym w.whole-is)
            (w.in_ok-add_end.ensures.keeps rs ps (held.keeps rs ps has))
        | else-not-branch w ↦
            λ rs ps has. subst (λ (x : Whole). Has x.found.items rs ps) (sym w.whole-is) (held.keeps rs ps has)
      ];
      ends = λ place s less at rest. elim c.if-not-branch.branch [
        | then-not-branch+in_ok-add_end w ↦
            subst (λ (x : Whole). HasEnd layout p x.found.items s) (sym w.whole-is) (elim (cases_eq place index) [
              | inl e ↦
                  subst (λ (x : State). HasEnd layout p w.add_end.new.whole.found.items x)
                  (is_item s (ap (slice_get level) (sym e) ∙ at)) w.in_ok-add_end.ensures.has
              | inr ne ↦ w.in_ok-add_end.ensures.keeps _ _ (held.ends place s (omega arith) at rest)
            ])
        | else-not-branch w ↦
            subst (λ (x : Whole). HasEnd layout p x.found.items s) (sym w.whole-is) (elim (cases_eq place index) [
              | inl e ↦
                  let same = is_item s (ap (slice_get level) (sym e) ∙ at) in
                  let none = goes.ends (subst (λ (x : State). AllRest layout p x) (sym same) rest) in
                  let some = w.if-not-branch.false in
                  absurd (let z = none in let y = some in cc)
              | inr ne ↦ held.ends place s (omega arith) at rest
            ])
      ];
      steps = λ n all.
          let test = c.loop-state-test.true in
          let count = ap (λ (xs : List State). length xs) c.deref-state-items.ensures.value in
          let less : index < length level = omega arith in
          let here : get_or level index item ≡ item =
          let value = c.deref-state-items.ensures.value in
          let there = c.state-item.is in cc in
          goes.steps n (subst (λ (s : State). steps_done s ≡ n) here (all index item less)) (held.steps n all);
      once = elim c.if-not-branch.branch [
        | then-not-branch+in_ok-add_end w ↦
            let adds = w.in_ok-add_end.ensures.adds in
            subst (λ (x : Whole). AllOnce x.found.items) (sym w.whole-is)
            (once_added c.loop-state.whole.found.items w.add_end.new.whole.found.items adds.found adds.adds held.once)
        | else-not-branch w ↦ subst (λ (x : Whole). AllOnce x.found.items) (sym w.whole-is) held.once
      ];
      advances = subst (λ (xs : List State). Advances layout p xs next old c.if-not-branch.whole.found.items) more
          (elim c.if-not-branch.branch [
            | then-not-branch+in_ok-add_end w ↦
                let stops : c.in_ok-go_on.field-0 ≡ false = let z = w.if-not-branch.true in cc in
                let none = empty_if from.goes.places c.in_ok-go_on.field-0 from.is stops in
                subst (λ (x : Whole). Advances layout p (before ++ item ∷ []) next old x.found.items) (sym w.whole-is)
                (ended_there layout p before c.loop-state.next.states.items next old c.loop-state.whole.found.items item
                held.advances from.goes none w.add_end.new.whole.found.items w.in_ok-add_end.ensures.adds)
            | else-not-branch w ↦
                let goes_on : c.in_ok-go_on.field-0 ≡ true = let z = w.if-not-branch.false in cc in
                let some = some_if from.goes.places c.in_ok-go_on.field-0 from.is goes_on in
                subst (λ (x : Whole). Advances layout p (before ++ item ∷ []) next old x.found.items) (sym w.whole-is)
                (went_on layout p before c.loop-state.next.states.items next old c.loop-state.whole.found.items item
                held.advances from.goes some)
          ]);
    }

pub returns-clause-advances : goal.returns-clause-advances
returns-clause-advances g c =
    let layout = g.L.KeyLayout.layout in
    let p = c.args.program.now in
    let level = c.args.level.now.states.items in
    let test = c.loop-state-test.false in
    let count = ap (λ (xs : List State). length xs) c.deref-state-items.ensures.value in
    subst (λ (xs : List State). Advances layout p xs c.loop-state.next.states.items c.args.whole.now.found.items
    c.loop-state.whole.found.items) (take_all c.loop-state.state-index level (omega arith))
    c.loop-state.invariant.advances

pub returns-clause-followed : goal.returns-clause-followed
returns-clause-followed g c = λ place s at pass within.
    let level = c.args.level.now.states.items in
    let less = slice_get_within level place s at in
    let count = ap (λ (xs : List State). length xs) c.deref-state-items.ensures.value in
    c.loop-state.invariant.followed place s (omega arith) at pass within

pub returns-clause-ends : goal.returns-clause-ends
returns-clause-ends g c = λ place s at rest.
    let level = c.args.level.now.states.items in
    let less = slice_get_within level place s at in
    let count = ap (λ (xs : List State). length xs) c.deref-state-items.ensures.value in
    c.loop-state.invariant.ends place s (omega arith) at rest

pub returns-in-Some-clause-found : goal.returns-in-Some-clause-found
returns-in-Some-clause-found g c =
    let layout = g.L.KeyLayout.layout in
    let p = c.args.program.now in
    elim c.if-not-branch.branch [
      | then-not-branch+in_ok-add_end w ↦
          subst (λ (x : Whole). All (IsOutcome layout p) x.found.items) (sym w.whole-is) w.in_ok-add_end.ensures.found
      | else-not-branch w ↦
          subst (λ (x : Whole). All (IsOutcome layout p) x.found.items) (sym w.whole-is) c.loop-state.invariant.found
    ]

pub returns-in-Some-clause-keeps : goal.returns-in-Some-clause-keeps
returns-in-Some-clause-keeps g c = λ rs ps has.
    let kept = c.loop-state.invariant.keeps rs ps has in
    elim c.if-not-branch.branch [
      | then-not-branch+in_ok-add_end w ↦
          subst (λ (x : Whole). Has x.found.items rs ps) (sym w.whole-is) (w.in_ok-add_end.ensures.keeps rs ps kept)
      | else-not-branch w ↦ subst (λ (x : Whole). Has x.found.items rs ps) (sym w.whole-is) kept
    ]

pub returns-in-Some-clause-passes : goal.returns-in-Some-clause-passes
returns-in-Some-clause-passes g c =
    let layout = g.L.KeyLayout.layout in
    let p = c.args.program.now in
    let level = c.args.level.now.states.items in
    let index = c.loop-state.state-index in
    let item = c.state-item.result in
    let goes = c.in_ok-go_on.ensures in
    let next = c.go_on.new.next in
    record {
      next = next.states.items;
      reached = goes.all;
      differ = next.differ;
      after = λ n all.
          let test = c.loop-state-test.true in
          let count = ap (λ (xs : List State). length xs) c.deref-state-items.ensures.value in
          let less : index < length level = omega arith in
          let here : get_or level index item ≡ item =
          let value = c.deref-state-items.ensures.value in
          let there = c.state-item.is in cc in
          goes.steps n (subst (λ (s : State). steps_done s ≡ n) here (all index item less))
          (c.loop-state.invariant.steps n all);
      many = states_passed c.args.room (length next.states.items) _ c.in-Some.limit
          (sym c.in-Some.is ∙ c.passed.ensures);
    }
