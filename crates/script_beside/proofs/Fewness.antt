-- At each point of the log of a run of the core a key has at most as many holds as the layout allows.
use Rattle.std.proofs.Common.{◌≡◌, ℕ, ◌+◌, ◌<◌, ◌≤◌, ◌⊎◌, inl, inr, List, [], ◌∷◌, ◌++◌, refl, ap, sym, ◌∙◌, subst}
use Rattle.std.proofs.Common.{arith, append-nil, append_assoc, Option, Some, None, slice_get, eq-eqb, cond, Bool}
use Rattle.sh_key.specs.Layout.{Layout, IsLayout}
use Rattle.sh_shape.specs.Shape.{Numbers, IsShape, Fits}
use Rattle.sh_history.specs.declared.entry.Entry.{Entry}
use Rattle.sh_history.specs.declared.entry.Entry.TheVariants.{Got}
use Rattle.sh_history.specs.History.{got_count, released_count, holds_on, is_got_of, is_release_of}
use Rattle.sh_history.proofs.LogLaws.{count_by-push}
use Rattle.sh_step.specs.declared.action.Event.{Event}
use Rattle.sh_step.specs.declared.body.Body.{Body}
use Rattle.sh_step.specs.Moves.{row}
use Rattle.sh_step.specs.Rows.{Row}
use Rattle.sh_step.specs.Plans.{Plan, plan_of, keys_of}
use Rattle.sh_step.specs.Collections.{total}
use Rattle.sh_core.specs.Lists.{times}
use Rattle.sh_core.specs.Worlds.{World, step, apply, run, run_from, open_world, joined}
use Rattle.sh_core.proofs.Clauses.RunTheorem.{theorem}
use Rattle.sh_core.proofs.Words.Steps.{run_snoc}
use Rattle.script_heap.proofs.CrowdedKeys.{first_of, rest_of}

-- no key has more holds, and none was released more often than it was got
abbrev pub FewHolds : (guard_max : ℕ) → List Entry → Type 0
FewHolds guard_max es = (key : ℕ) → (released_count es key ≤ got_count es key)
    × (got_count es key ≤ released_count es key + guard_max)

-- the same of each beginning
abbrev pub FewAlong : (guard_max : ℕ) → List Entry → Type 0
FewAlong guard_max es = (front rest : List Entry) → es ≡ front ++ rest → FewHolds guard_max front

-- ---- one event more

abbrev AddsOne : List Entry → List Entry → Type 0
AddsOne old new = (new ≡ old) ⊎ ((x : Entry) × (new ≡ old ++ x ∷ []))

joins_one : (xs : List Entry) (o : Option Entry) → AddsOne xs (joined xs o)
joins_one xs None = inl refl
joins_one xs (Some e) = inr (e, refl)

apply_adds : (w : World) (a : ℕ) (m : Row) → AddsOne w.log (apply w a m).log
unfolding apply
apply_adds w a m = joins_one w.log _

by_row : (plan : Plan) (w : World) (a : ℕ) (o : Option Row) → AddsOne w.log
    (elim o as (λ _. World) [ Some m ↦ apply w a m | None ↦ w ]).log
by_row plan w a (Some m) = apply_adds w a m
by_row plan w a None = inl refl

step_adds : (plan : Plan) (w : World) (e : Event) → AddsOne w.log (step plan w e).log
unfolding step
step_adds plan w e = go (slice_get w.parts e.pass)
  where
    go : (o : Option Body) → AddsOne w.log (elim o as (λ _. World) [
      | Some p ↦ elim (row plan p e.action) as (λ _. World) [ Some m ↦ apply w e.pass m | None ↦ w ]
      | None ↦ w
    ]).log
    go None = inl refl
    go (Some p) = by_row plan w e.pass (row plan p e.action)

-- ---- beginnings of the log

one_alone : (x y : Entry) (ys rest : List Entry) → x ∷ [] ≡ y ∷ (ys ++ rest) → y ∷ ys ≡ x ∷ []
one_alone x y [] rest e = ap (λ z. z ∷ []) (sym (first_of x y [] rest e))
one_alone x y (z ∷ zs) rest e = absurd (let h : [] ≡ z ∷ (zs ++ rest) = rest_of x y [] (z ∷ (zs ++ rest)) e in cc)

-- a beginning of a longer list is the whole list, or one of the list without its last
splits : (xs : List Entry) (x : Entry) (front rest : List Entry) → xs ++ x ∷ [] ≡ front ++ rest
    → (front ≡ xs ++ x ∷ []) ⊎ ((left : List Entry) × (xs ≡ front ++ left))
splits xs x [] rest e = inr (xs, refl)
splits [] x (y ∷ ys) rest e = inl (one_alone x y ys rest e)
splits (z ∷ zs) x (y ∷ ys) rest e =
    more (splits zs x ys rest (rest_of z y (zs ++ x ∷ []) (ys ++ rest) e))
    (first_of z y (zs ++ x ∷ []) (ys ++ rest) e)
  where
    more : (ys ≡ zs ++ x ∷ []) ⊎ ((left : List Entry) × (zs ≡ ys ++ left)) → z ≡ y
        → (y ∷ ys ≡ z ∷ zs ++ x ∷ []) ⊎ ((left : List Entry) × (z ∷ zs ≡ y ∷ ys ++ left))
    more (inl f) h = inl (λ i. sym h i ∷ f i)
    more (inr f) h = inr (f.0, λ i. h i ∷ f.1 i)

module _ (layout : Layout) (shape : Numbers) (lawful : IsLayout layout) (is_shape : IsShape shape)
    (fits : Fits layout shape) where
  abbrev plan : Plan
  plan = plan_of layout shape

  whole_log : (es : List Event) → FewHolds layout.guard_max (run plan es).log
  unfolding keys_of
  whole_log es key =
      let t = theorem layout shape lawful is_shape fits es in
      let all = t.holds.together key in
      let few : total (λ (p : Body). times key p.holds) (run plan es).parts ≤ layout.guard_max = t.few_holds key in
      (omega (arith, all), omega (arith, all, few))

  begun : (es : List Event) → FewAlong layout.guard_max (run plan es).log → (e : Event)
      → FewAlong layout.guard_max (run plan (es ++ e ∷ [])).log
  begun es few e = subst (λ (w : World). FewAlong layout.guard_max w.log)
      (sym (run_snoc plan (open_world plan) es e)) (go (step_adds plan (run plan es) e))
    where
      go : AddsOne (run plan es).log (step plan (run plan es) e).log
          → FewAlong layout.guard_max (step plan (run plan es) e).log
      go (inl same) = subst (FewAlong layout.guard_max) (sym same) few
      go (inr f) = λ front rest is. by front rest (splits (run plan es).log f.0 front rest (sym f.1 ∙ is))
        where
          by : (front rest : List Entry) → (front ≡ (run plan es).log ++ f.0 ∷ [])
              ⊎ ((left : List Entry) × ((run plan es).log ≡ front ++ left)) → FewHolds layout.guard_max front
          by front rest (inr h) = few front h.0 h.1
          by front rest (inl h) = subst (FewHolds layout.guard_max) (sym (h ∙ (sym f.1
              ∙ ap (λ (w : World). w.log) (sym (run_snoc plan (open_world plan) es e)))))
              (whole_log (es ++ e ∷ []))

  along : (done es : List Event) → FewAlong layout.guard_max (run plan done).log
      → FewAlong layout.guard_max (run plan (done ++ es)).log
  along done [] few = subst (λ (es : List Event). FewAlong layout.guard_max (run plan es).log) (sym
      (append-nil done)) few
  along done (e ∷ es) few = subst (λ (es : List Event). FewAlong layout.guard_max (run plan es).log)
      (append_assoc done (e ∷ []) es) (along (done ++ e ∷ []) es (begun done few e))

  nothing_yet : FewAlong layout.guard_max []
  nothing_yet [] rest is key = (omega arith, omega arith)
  nothing_yet (x ∷ xs) rest is key = absurd (let h : [] ≡ x ∷ (xs ++ rest) = is in cc)

  at_first : FewAlong layout.guard_max (run plan []).log
  unfolding run_from
  at_first = nothing_yet

  pub few_along : (es : List Event) → FewAlong layout.guard_max (run plan es).log
  few_along es = along [] es at_first

-- a hold that was given left room for it before
pub room_before : (guard_max : ℕ) (before : List Entry) (pass key : ℕ) (value : List ℕ)
    → FewHolds guard_max before → FewHolds guard_max (before ++ Got pass key value ∷ [])
    → holds_on before key < guard_max
room_before guard_max before pass key value few more =
    let got = count_by-push (is_got_of key) before (Got pass key value) in
    let gone = count_by-push (is_release_of key) before (Got pass key value) in
    let one : Bool → ℕ = λ b. cond b 1 0 in
    let here : one (is_got_of key (Got pass key value)) ≡ 1 = ap one (eq-eqb key key refl) in
    let f = few key in
    let m = (more key).1 in
    omega (arith, got, gone, here, f.0, m)
