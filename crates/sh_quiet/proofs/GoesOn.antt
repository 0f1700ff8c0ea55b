-- A pass goes on alone, event by event, if the trails of the others stay as they are.
use Rattle.std.proofs.Common.{◌≡◌, ◌≢◌, ℕ, ◌+◌, ◌<◌, ◌≤◌, ◌⊎◌, inl, inr, ⊎_elim, Bool, true, false}
use Rattle.std.proofs.Common.{List, [], ◌∷◌, ◌++◌, refl, ap, sym, ◌∙◌, subst, arith, Option, Some, None}
use Rattle.std.proofs.Common.{slice_get, append_assoc, append-nil}
use Rattle.std.specs.Prelude.{length}
use Rattle.std.proofs.lemmas.Bool.{cases_eq}
use Rattle.std.proofs.lemmas.List.{length-append}
use Rattle.std.proofs.lemmas.Option.{slice_get_within}
use Rattle.sh_key.specs.Layout.{Layout, IsLayout}
use Rattle.sh_shape.specs.Shape.{Numbers, IsShape, Fits}
use Rattle.sh_step.specs.declared.action.Action.{Action}
use Rattle.sh_step.specs.declared.action.Event.{Event}
use Rattle.sh_step.specs.declared.body.Body.{Body}
use Rattle.sh_step.specs.declared.footstep.Footstep.{Footstep}
use Rattle.sh_step.specs.declared.moves.Move.{Move}
use Rattle.sh_step.specs.Collections.{if1}
use Rattle.sh_step.specs.Conditions.{May, action_of}
use Rattle.sh_step.specs.Footsteps.{footstep_of, puts}
use Rattle.sh_step.specs.Footsteps.{puts_slot}
use Rattle.sh_step.specs.Moves.{row, row_of}
use Rattle.sh_step.specs.Plans.{Plan, plan_of}
use Rattle.sh_step.specs.Rows.{Row, own}
use Rattle.sh_step.proofs.ConditionLaws.{move_of_row}
use Rattle.sh_step.proofs.FootstepLaws.{counts_grow}
use Rattle.sh_core.specs.Lists.{PutLists, list_step, lists_of, no_lists, listed}
use Rattle.sh_core.specs.Outcomes.{row_of_event}
use Rattle.sh_core.specs.Quiet.{Quiet}
use Rattle.sh_core.specs.Trails.{trail_of}
use Rattle.sh_core.specs.Words.{read}
use Rattle.sh_core.specs.Worlds.{World, apply, run, step, open_world}
use Rattle.sh_core.proofs.Clauses.RunTheorem.{theorem}
use Rattle.sh_core.proofs.Moves.ByMove.{lists_after, after_move}
use Rattle.sh_core.proofs.Words.Steps.{run_snoc, step_moves, step_skips, step_past, row_of_at, trail_grows}
use Rattle.sh_core.proofs.Words.Steps.{skips_leave_trails, others_trails_stay}
use Rattle.sh_core.proofs.WaitFree.{skipped}
use Rattle.sh_core.proofs.Collects.{lists_snoc}
use Rattle.sh_core.proofs.Words.Stepping.{row_of_past}
use Rattle.sh_quiet.proofs.Alone.{Alone, TiesNone, advance}

listed_by : (plan : Plan) (w : World) (l : PutLists) (e : Event) (p : Body) → slice_get w.parts e.pass ≡ Some p
    → list_step plan w e l
    ≡ (elim (row plan p e.action) as (λ _. PutLists) [
      | Some m ↦ listed plan p e.action (read w.words m.place) l
      | None ↦ l
    ])
unfolding list_step
listed_by plan w l e p at = ap (λ (o : Option Body). elim o as (λ _. PutLists) [
  | Some p ↦ elim (row plan p e.action)
      [ Some m ↦ listed plan p e.action (read w.words m.place) l | None ↦ l ]
  | None ↦ l
]) at

lists_past : (plan : Plan) (w : World) (l : PutLists) (e : Event) → slice_get w.parts e.pass ≡ None
    → list_step plan w e l ≡ l
unfolding list_step
lists_past plan w l e at = ap (λ (o : Option Body). elim o as (λ _. PutLists) [
  | Some p ↦ elim (row plan p e.action)
      [ Some m ↦ listed plan p e.action (read w.words m.place) l | None ↦ l ]
  | None ↦ l
]) at

lists_skipped : (plan : Plan) (w : World) (l : PutLists) (e : Event) → row_of_event plan w e ≡ None
    → list_step plan w e l ≡ l
unfolding list_step row_of_event
lists_skipped plan w l e is = go (slice_get w.parts e.pass) is where
  go : (o : Option Body) → (elim o as (λ _. Option Row) [ Some p ↦ row plan p e.action | None ↦ None ]) ≡ None
      → (elim o as (λ _. PutLists) [
        | Some p ↦ elim (row plan p e.action)
            [ Some m ↦ listed plan p e.action (read w.words m.place) l | None ↦ l ]
        | None ↦ l
      ]) ≡ l
  go None h = refl
  go (Some p) h = ap (λ (o : Option Row). elim o as (λ _. PutLists)
      [ Some m ↦ listed plan p e.action (read w.words m.place) l | None ↦ l ]) h

-- an event with a row is of a pass of the heap, and adds one step to its trail
stepped : (plan : Plan) (es : List Event) (e : Event) (r : Row) → row_of_event plan (run plan es) e ≡ Some r
    → (e.pass < length (run plan es).parts)
    × (length (trail_of plan (es ++ e ∷ []) e.pass) ≡ length (trail_of plan es e.pass) + 1)
stepped plan es e r is = go (slice_get (run plan es).parts e.pass) refl where
  go : (o : Option Body) → slice_get (run plan es).parts e.pass ≡ o → (e.pass < length (run plan es).parts)
      × (length (trail_of plan (es ++ e ∷ []) e.pass) ≡ length (trail_of plan es e.pass) + 1)
  go None at = absurd (let z : None ≡ Some r = sym (row_of_past plan (run plan es) e at) ∙ is in cc)
  go (Some p) at =
      let its : row plan p e.action ≡ Some r = sym (row_of_at plan (run plan es) e p at) ∙ is in
      let grown = trail_grows plan es e.pass e.action p r at its in (
        slice_get_within (run plan es).parts e.pass p at,
        ap length grown ∙ length-append (trail_of plan es e.pass)
            (footstep_of e.action r (read (run plan es).words r.place) ∷ []),
      )

-- a trail stays as it is or gets one more step
pub grows : (plan : Plan) (es : List Event) (e : Event) (b : ℕ) → (trail_of plan (es ++ e ∷ []) b ≡ trail_of plan es b)
    ⊎ ((s : Footstep) × (trail_of plan (es ++ e ∷ []) b ≡ trail_of plan es b ++ s ∷ []))
grows plan es e b = go (row_of_event plan (run plan es) e) refl where
  go : (o : Option Row) → row_of_event plan (run plan es) e ≡ o
      → (trail_of plan (es ++ e ∷ []) b ≡ trail_of plan es b)
      ⊎ ((s : Footstep) × (trail_of plan (es ++ e ∷ []) b ≡ trail_of plan es b ++ s ∷ []))
  go None is = inl (skips_leave_trails plan es e b is)
  go (Some r) is = ⊎_elim
      (λ (own : e.pass ≡ b). part (slice_get (run plan es).parts e.pass) refl own)
      (λ (other : e.pass ≢ b). inl (others_trails_stay plan es e b other))
      (cases_eq e.pass b) where
        part : (o : Option Body) → slice_get (run plan es).parts e.pass ≡ o → e.pass ≡ b
            → (trail_of plan (es ++ e ∷ []) b ≡ trail_of plan es b)
            ⊎ ((s : Footstep) × (trail_of plan (es ++ e ∷ []) b ≡ trail_of plan es b ++ s ∷ []))
        part None at own = inl (skips_leave_trails plan es e b (row_of_past plan (run plan es) e at))
        part (Some p) at own =
            let its : row plan p e.action ≡ Some r = sym (row_of_at plan (run plan es) e p at) ∙ is in
            let s : Footstep = footstep_of e.action r (read (run plan es).words r.place) in
            inr (
              s,
              subst (λ z. trail_of plan (es ++ e ∷ []) z ≡ trail_of plan es z ++ s ∷ []) own
                  (trail_grows plan es e.pass e.action p r at its),
            )

puts_grow : (plan : Plan) (es : List Event) (e : Event) (b : ℕ) {n : ℕ} → n ≤ puts (trail_of plan es b)
    → n ≤ puts (trail_of plan (es ++ e ∷ []) b)
puts_grow plan es e b few = ⊎_elim
    (λ same. let is = ap puts same in omega (arith, is, few))
    (λ s. let is = ap puts s.1 in let more = counts_grow puts_slot (trail_of plan es b) s.0 in
    omega (arith, is, more, few))
    (grows plan es e b)

lengths_grow : (plan : Plan) (es : List Event) (e : Event) (b : ℕ) {n : ℕ} → n ≤ length (trail_of plan es b)
    → n ≤ length (trail_of plan (es ++ e ∷ []) b)
lengths_grow plan es e b few = ⊎_elim
    (λ same. let is = ap length same in omega (arith, is, few))
    (λ s. let is = ap length s.1 in let more = length-append (trail_of plan es b) (s.0 ∷ []) in
    omega (arith, is, more, few))
    (grows plan es e b)

module _ (layout : Layout) (shape : Numbers) (is_layout : IsLayout layout) (is_shape : IsShape shape)
    (fits : Fits layout shape) (a : ℕ) (t0 : List Footstep) where
  abbrev plan : Plan
  plan = plan_of layout shape

  abbrev Kept : World → PutLists → List Footstep → Type 0
  Kept w l t = (puts t0 ≤ puts t) × (puts t ≡ puts t0 → Alone plan a w l t t0)

  abbrev by : Action → Event
  by x = record { pass = a; action = x }

  moved : (es : List Event) (p : Body) (m : Move) → slice_get (run plan es).parts a ≡ Some p → May plan p m
      → Kept (run plan es) (lists_of plan es) (trail_of plan es a)
      → (let n = read (run plan es).words (row_of plan p m).place in
      Kept (apply (run plan es) a (row_of plan p m)) (lists_after plan p m n (lists_of plan es))
      (trail_of plan es a ++ footstep_of (action_of plan m) (row_of plan p m) n ∷ []))
  moved es p m at may old =
      let w = run plan es in
      let t = trail_of plan es a in
      let s : Footstep = footstep_of (action_of plan m) (row_of plan p m) (read w.words (row_of plan p m).place) in
      let more : puts (t ++ s ∷ []) ≡ puts t + if1 (puts_slot s) = counts_grow puts_slot t s in
      let before = old.0 in (
        omega (arith, more, before),
        λ same. go (puts_slot s) refl same more before,
      ) where
        go : (b : Bool) → puts_slot (footstep_of (action_of plan m) (row_of plan p m)
            (read (run plan es).words (row_of plan p m).place)) ≡ b → (let n = read (run plan es).words
            (row_of plan p m).place in let s = footstep_of (action_of plan m) (row_of plan p m) n in
            puts (trail_of plan es a ++ s ∷ []) ≡ puts t0
            → puts (trail_of plan es a ++ s ∷ []) ≡ puts (trail_of plan es a) + if1 (puts_slot s)
            → puts t0 ≤ puts (trail_of plan es a)
            → Alone plan a (apply (run plan es) a (row_of plan p m)) (lists_after plan p m n (lists_of plan es))
            (trail_of plan es a ++ s ∷ []) t0)
        go true is same more before = let one = ap if1 is in absurd (omega (arith, same, more, before, one))
        go false is same more before =
            let none = ap if1 is in
            let e : puts (trail_of plan es a) ≡ puts t0 = omega (arith, same, more, none) in
            advance plan a (run plan es) (lists_of plan es) (theorem layout shape is_layout is_shape fits es)
            (trail_of plan es a) t0 (old.1 e) p at m may is

  kept : (es : List Event) (x : Action) → Kept (run plan es) (lists_of plan es) (trail_of plan es a)
      → Kept (run plan (es ++ by x ∷ [])) (lists_of plan (es ++ by x ∷ [])) (trail_of plan (es ++ by x ∷ []) a)
  kept es x old = by_part (slice_get (run plan es).parts a) refl where
    still_kept : (o : Option Body) → slice_get (run plan es).parts a ≡ o → step plan (run plan es) (by x) ≡ run plan es
        → list_step plan (run plan es) (by x) (lists_of plan es) ≡ lists_of plan es
        → trail_of plan (es ++ by x ∷ []) a ≡ trail_of plan es a
        → Kept (run plan (es ++ by x ∷ [])) (lists_of plan (es ++ by x ∷ [])) (trail_of plan (es ++ by x ∷ []) a)
    still_kept o at world kept_lists trail =
        subst (λ (v : World). Kept v (lists_of plan (es ++ by x ∷ [])) (trail_of plan (es ++ by x ∷ []) a))
        (sym (run_snoc plan (open_world plan) es (by x) ∙ world))
        (subst (λ (k : PutLists). Kept (run plan es) k (trail_of plan (es ++ by x ∷ []) a))
        (sym (lists_snoc plan (open_world plan) no_lists es (by x) ∙ kept_lists))
        (subst (λ (t : List Footstep). Kept (run plan es) (lists_of plan es) t) (sym trail) old))

    by_part : (o : Option Body) → slice_get (run plan es).parts a ≡ o
        → Kept (run plan (es ++ by x ∷ [])) (lists_of plan (es ++ by x ∷ [])) (trail_of plan (es ++ by x ∷ []) a)
    by_part None at = still_kept None at (step_past plan (run plan es) (by x) at)
        (lists_past plan (run plan es) (lists_of plan es) (by x) at)
        (skips_leave_trails plan es (by x) a (row_of_past plan (run plan es) (by x) at))
    by_part (Some p) at = by_row (row plan p x) refl where
      lists_are : list_step plan (run plan es) (by x) (lists_of plan es)
          ≡ (elim (row plan p x) as (λ _. PutLists) [
            | Some m ↦ listed plan p x (read (run plan es).words m.place) (lists_of plan es)
            | None ↦ lists_of plan es
          ])
      lists_are = listed_by plan (run plan es) (lists_of plan es) (by x) p at

      by_row : (o : Option Row) → row plan p x ≡ o
          → Kept (run plan (es ++ by x ∷ [])) (lists_of plan (es ++ by x ∷ [])) (trail_of plan (es ++ by x ∷ []) a)
      by_row None is = still_kept (Some p) at (step_skips plan (run plan es) (by x) p at is)
          (lists_are ∙ ap (λ (o : Option Row). elim o as (λ _. PutLists) [
            | Some m ↦ listed plan p x (read (run plan es).words m.place) (lists_of plan es)
            | None ↦ lists_of plan es
          ]) is) (skips_leave_trails plan es (by x) a (row_of_at plan (run plan es) (by x) p at ∙ is))
      by_row (Some r) is = done (move_of_row plan p x r is) where
        done : (m : Move) × (Rattle.sh_step.specs.Moves.move_of plan p x ≡ Some m) × May plan p m
            × (action_of plan m ≡ x) × (r ≡ row_of plan p m)
            → Kept (run plan (es ++ by x ∷ [])) (lists_of plan (es ++ by x ∷ [])) (trail_of plan (es ++ by x ∷ []) a)
        done (m, _, may, act, same) =
            let v : World = run plan es in
            let l : PutLists = lists_of plan es in
            let its : row plan p (action_of plan m) ≡ Some (row_of plan p m) = ap (row plan p) act
            ∙ (is ∙ ap (λ (u : Row). Some u) same) in
            let n = read v.words (row_of plan p m).place in
            let new = moved es p m at may old in
            let world : step plan v (by (action_of plan m)) ≡ apply v a (row_of plan p m) = step_moves plan v
            (by (action_of plan m)) p (row_of plan p m) at its in
            let new_lists : list_step plan v (by (action_of plan m)) l ≡ lists_after plan p m n l = listed_by plan v l
            (by (action_of plan m)) p at
            ∙ (ap (λ (o : Option Row). elim o as (λ _. PutLists) [
              | Some u ↦ listed plan p (action_of plan m) (read v.words u.place) l
              | None ↦ l
            ]) its
            ∙ after_move plan p m may n l) in
            let trail : trail_of plan (es ++ by (action_of plan m) ∷ []) a
            ≡ trail_of plan es a ++ footstep_of (action_of plan m) (row_of plan p m) n ∷ []
            = trail_grows plan es a (action_of plan m) p (row_of plan p m) at its in
            subst (λ (y : Action). Kept (run plan (es ++ by y ∷ [])) (lists_of plan (es ++ by y ∷ []))
            (trail_of plan (es ++ by y ∷ []) a)) act
            (subst (λ (u : World). Kept u (lists_of plan (es ++ by (action_of plan m) ∷ []))
            (trail_of plan (es ++ by (action_of plan m) ∷ []) a))
            (sym (run_snoc plan (open_world plan) es (by (action_of plan m)) ∙ world))
            (subst (λ (k : PutLists). Kept (apply v a (row_of plan p m)) k
            (trail_of plan (es ++ by (action_of plan m) ∷ []) a))
            (sym (lists_snoc plan (open_world plan) no_lists es (by (action_of plan m)) ∙ new_lists))
            (subst (λ (t : List Footstep). Kept (apply v a (row_of plan p m)) (lists_after plan p m n l) t) (sym trail)
            new)))

  -- ---- any event, as long as no other pass steps

  module _ (early : List Event) (is_first : t0 ≡ trail_of plan early a) where
    -- the trails of the others are no longer than they were
    abbrev OthersRest : List Event → Type 0
    OthersRest es = (b : ℕ) → b ≢ a → b < shape.passes
        → length (trail_of plan es b) ≡ length (trail_of plan early b)

    record Held (es : List Event) : Type 0 where
      more : puts t0 ≤ puts (trail_of plan es a)
      longer : (b : ℕ) → length (trail_of plan early b) ≤ length (trail_of plan es b)
      alone : OthersRest es → puts (trail_of plan es a) ≡ puts t0
          → Alone plan a (run plan es) (lists_of plan es) (trail_of plan es a) t0

    own_event : (es : List Event) (x : Action) → Held es → Held (es ++ by x ∷ [])
    own_event es x old = record {
      more = puts_grow plan es (by x) a old.more;
      longer = λ b. lengths_grow plan es (by x) b (old.longer b);
      alone = λ rest same. (kept es x (
        old.more,
        λ before. old.alone (λ b other inside.
            sym (ap length (others_trails_stay plan es (by x) b (λ e. other (sym e)))) ∙ rest b other inside) before,
      )).1 same;
    }

    others_event : (es : List Event) (e : Event) → e.pass ≢ a → Held es → Held (es ++ e ∷ [])
    others_event es e other old = record {
      more = puts_grow plan es e a old.more;
      longer = λ b. lengths_grow plan es e b (old.longer b);
      alone = λ rest same. go rest same (row_of_event plan (run plan es) e) refl;
    } where
      go : OthersRest (es ++ e ∷ []) → puts (trail_of plan (es ++ e ∷ []) a) ≡ puts t0 → (o : Option Row)
          → row_of_event plan (run plan es) e ≡ o
          → Alone plan a (run plan (es ++ e ∷ [])) (lists_of plan (es ++ e ∷ [])) (trail_of plan (es ++ e ∷ []) a) t0
      go rest same None is =
          let trail = skips_leave_trails plan es e a is in
          let now = old.alone
          (λ b apart inside. sym (ap length (skips_leave_trails plan es e b is)) ∙ rest b apart inside)
          (sym (ap puts trail) ∙ same) in
          subst (λ (v : World). Alone plan a v (lists_of plan (es ++ e ∷ [])) (trail_of plan (es ++ e ∷ []) a) t0)
          (sym (run_snoc plan (open_world plan) es e ∙ skipped plan (run plan es) e is))
          (subst (λ (k : PutLists). Alone plan a (run plan es) k (trail_of plan (es ++ e ∷ []) a) t0)
          (sym (lists_snoc plan (open_world plan) no_lists es e
          ∙ lists_skipped plan (run plan es) (lists_of plan es) e is))
          (subst (λ (t : List Footstep). Alone plan a (run plan es) (lists_of plan es) t t0) (sym trail) now))
      go rest same (Some r) is =
          let step = stepped plan es e r is in
          let all = theorem layout shape is_layout is_shape fits es in
          let inside = step.0 in
          let few = all.passes in
          let grown = step.1 in
          let before = old.longer e.pass in
          let after = rest e.pass other (omega (arith, inside, few)) in
          absurd (omega (arith, grown, before, after))

    event : (es : List Event) (e : Event) → Held es → Held (es ++ e ∷ [])
    event es e old = ⊎_elim
        (λ (is : e.pass ≡ a). subst (λ (d : Event). Held (es ++ d ∷ []))
        (λ i. record { pass = sym is i; action = e.action }) (own_event es e.action old))
        (λ (other : e.pass ≢ a). others_event es e other old)
        (cases_eq e.pass a)

    ran : (es more : List Event) → Held es → Held (es ++ more)
    ran es [] old = subst Held (sym (append-nil es)) old
    ran es (e ∷ more) old = subst Held (append_assoc es (e ∷ []) more) (ran (es ++ e ∷ []) more (event es e old))

-- no pass had begun anything, and then pass a alone went on, and put nothing
pub went_on : (layout : Layout) (shape : Numbers) → IsLayout layout → IsShape shape → Fits layout shape → (a : ℕ)
    (early late : List Event) → (let plan = plan_of layout shape in Quiet (run plan early)
    → ((b : ℕ) → b ≢ a → b < shape.passes → length (trail_of plan (early ++ late) b) ≡ length (trail_of plan early b))
    → puts (trail_of plan (early ++ late) a) ≡ puts (trail_of plan early a)
    → Alone plan a (run plan (early ++ late)) (lists_of plan (early ++ late)) (trail_of plan (early ++ late) a)
    (trail_of plan early a))
went_on layout shape is_layout is_shape fits a early late quiet rest same =
    let plan = plan_of layout shape in
    (ran layout shape is_layout is_shape fits a (trail_of plan early a) early refl early late (record {
      more = omega arith;
      longer = λ b. omega arith;
      alone = λ others z. record {
        others = λ b p other at. quiet b p at;
        hand = λ p at. subst TiesNone (sym (quiet a p at)) tt;
        stack = λ q. inl refl;
        bells = λ n. inl refl;
        met = λ q. refl;
        bell_met = λ n. refl;
        armed_more = omega arith;
        heads = λ q none. inl refl;
      };
    })).alone rest same
