-- Lines that are not due are skipped: they leave the world as it is, and nothing is replied.
use Rattle.std.proofs.Common.{◌≡◌, ℕ, zero, suc, ◌+◌, ◌<◌, ◌≤◌, ◌==◌, ◌&&◌, Bool, true, false, cond, List, [], ◌∷◌}
use Rattle.std.proofs.Common.{◌++◌, refl, sym, ap, ◌∙◌, subst, arith, Option, Some, None, slice_get, append_assoc}
use Rattle.std.specs.Prelude.{is_some, option_map}
use Rattle.std.specs.List.{cons_option, filter, range_with_len}
use Rattle.std.proofs.lemmas.Bool.{eqb-true}
use Rattle.sh_step.specs.declared.action.Event.{Event}
use Rattle.sh_step.specs.declared.body.Body.{Body}
use Rattle.sh_step.specs.declared.moves.Move.{Move}
use Rattle.sh_step.specs.Moves.{row, row_of, move_of, is_enabled}
use Rattle.sh_step.specs.Plans.{Plan}
use Rattle.sh_step.specs.Rows.{Row}
use Rattle.sh_core.specs.Outcomes.{row_of_event, outcome_of}
use Rattle.sh_core.specs.Worlds.{World, step, apply, run_from}
use Rattle.sh_core.proofs.Words.Stepping.{outcome_skipped}
use Rattle.sh_core.proofs.WaitFree.{skipped}
use Rattle.script_orders.specs.Orders.{is_of, events_of, reply_line, replies_from}
use Rattle.script_orders.specs.Reached.{is_due}
use Rattle.script_orders.proofs.LineOptions.{pass_is, may_do, due, due_event}

-- ---- one run after another

pub replies_append : (plan : Plan) (w : World) (xs ys : List Event) (a : ℕ) → replies_from plan w (xs ++ ys) a
    ≡ replies_from plan w xs a ++ replies_from plan (run_from plan w xs) ys a
unfolding run_from replies_from
replies_append plan w [] ys a = refl
replies_append plan w (x ∷ xs) ys a =
    let here = cond (x.pass == a) (reply_line x (outcome_of plan w x)) [] in
    ap (λ (t : List ℕ). here ++ t) (replies_append plan (step plan w x) xs ys a)
    ∙ sym (append_assoc here (replies_from plan (step plan w x) xs a)
    (replies_from plan (run_from plan (step plan w x) xs) ys a))

-- ---- events that are skipped

pub Skips : Plan → World → List Event → Type 0
Skips plan w [] = Unit {0}
Skips plan w (e ∷ es) = (row_of_event plan w e ≡ None) × Skips plan w es

abbrev pub step_option : Plan → World → Event → Option Row → World
step_option plan w e o = elim o [ Some m ↦ apply w e.pass m | None ↦ w ]

pub step_is : (plan : Plan) (w : World) (e : Event) → step plan w e ≡ step_option plan w e (row_of_event plan w e)
unfolding step row_of_event
step_is plan w e = go (slice_get w.parts e.pass) where
  go : (o : Option Body) → (elim o as (λ _. World) [
    | Some p ↦ elim (row plan p e.action) [ Some m ↦ apply w e.pass m | None ↦ w ]
    | None ↦ w
  ]) ≡ step_option plan w e (elim o as (λ _. Option Row) [ Some p ↦ row plan p e.action | None ↦ None ])
  go (Some p) = refl
  go None = refl

pub skips_run : (plan : Plan) (w : World) (es : List Event) → Skips plan w es → run_from plan w es ≡ w
unfolding Skips run_from
skips_run plan w [] h = refl
skips_run plan w (e ∷ es) h =
    ap (λ (v : World). run_from plan v es) (skipped plan w e h.0) ∙ skips_run plan w es h.1

pub skips_reply : (plan : Plan) (w : World) (es : List Event) (a : ℕ) → Skips plan w es → replies_from plan w es a ≡ []
unfolding Skips replies_from
skips_reply plan w [] a h = refl
skips_reply plan w (e ∷ es) a h =
    let none : reply_line e (outcome_of plan w e) ≡ [] = ap (reply_line e) (outcome_skipped plan w e h.0) in
    go (e.pass == a) (reply_line e (outcome_of plan w e)) none
    ∙ ap (λ (v : World). replies_from plan v es a) (skipped plan w e h.0) ∙ skips_reply plan w es a h.1
  where
    go : (b : Bool) (t : List ℕ) → t ≡ [] → {r : List ℕ} → cond b t [] ++ r ≡ r
    go true t h {r} = ap (λ (s : List ℕ). s ++ r) h
    go false t h = refl

pub skips_append : (plan : Plan) (w : World) (xs ys : List Event) → Skips plan w xs → Skips plan w ys
    → Skips plan w (xs ++ ys)
unfolding Skips
skips_append plan w [] ys h k = k
skips_append plan w (x ∷ xs) ys h k = (h.0, skips_append plan w xs ys h.1 k)

pub skips_none : (plan : Plan) (w : World) → Skips plan w []
unfolding Skips
skips_none plan w = tt

-- ---- lines that are not due

no_move : (o : Option Move) (plan : Plan) (p : Body) → is_some o ≡ false → option_map (row_of plan p) o ≡ None
no_move (Some m) plan p h = cc
no_move None plan p h = refl

no_row : (plan : Plan) (parts : List Body) (e : Event) → (elim (slice_get parts e.pass) as (λ _. Bool) [
  | Some part ↦ is_enabled plan part e.action
  | None ↦ false
]) ≡ false → (elim (slice_get parts e.pass) as (λ _. Option Row) [ Some p ↦ row plan p e.action | None ↦ None ]) ≡ None
unfolding row
no_row plan parts e h = go (slice_get parts e.pass) h where
  go : (o : Option Body) → (elim o as (λ _. Bool) [ Some part ↦ is_enabled plan part e.action | None ↦ false ]) ≡ false
      → (elim o as (λ _. Option Row) [ Some p ↦ row plan p e.action | None ↦ None ]) ≡ None
  go (Some p) k = no_move (move_of plan p e.action) plan p k
  go None k = refl

-- the pass's line that is not due
pub skipped_at : (plan : Plan) (w : World) (e : Event) (a : ℕ) → e.pass ≡ a
    → may_do plan w.parts a e ≡ false → row_of_event plan w e ≡ None
unfolding row_of_event
skipped_at plan w e a same h =
    let P : ℕ → Type 0 = λ n. may_do plan w.parts n e ≡ false in
    no_row plan w.parts e (subst P (sym same) h)

skips_event : (plan : Plan) (w : World) (lines : List Event) (a from : ℕ) (rest : List ℕ) (e : Event)
    → slice_get lines from ≡ Some e → (b : Bool) → (e.pass == a) ≡ b → (b && may_do plan w.parts a e) ≡ false
    → Skips plan w (events_of lines rest) → Skips plan w (events_of lines (cond b (from ∷ rest) rest))
unfolding Skips
skips_event plan w lines a from rest e at true is h more =
    let P : List Event → Type 0 = λ es. Skips plan w es in
    subst P (sym (ap (λ (o : Option Event). cons_option o (events_of lines rest)) at))
    (skipped_at plan w e a (eqb-true e.pass a is) h, more)
skips_event plan w lines a from rest e at false is h more = more

skips_more : (plan : Plan) (w : World) (lines : List Event) (a from : ℕ) (rest : List ℕ) (o : Option Event)
    → slice_get lines from ≡ o → due plan w.parts a o ≡ false → Skips plan w (events_of lines rest)
    → Skips plan w (events_of lines (cond (pass_is a o) (from ∷ rest) rest))
skips_more plan w lines a from rest (Some e) at not_due more =
    skips_event plan w lines a from rest e at (e.pass == a) refl not_due more
skips_more plan w lines a from rest None at not_due more = more

pub not_due_skips : (plan : Plan) (w : World) (lines : List Event) (a from k : ℕ)
    → ((n : ℕ) → from ≤ n → n < from + k → is_due plan w.parts lines a n ≡ false)
    → Skips plan w (events_of lines (filter (is_of lines a) (range_with_len from k)))
unfolding Skips
not_due_skips plan w lines a from zero h = tt
not_due_skips plan w lines a from (suc k) h =
    skips_more plan w lines a from (filter (is_of lines a) (range_with_len (from + 1) k)) (slice_get lines from) refl
    (h from (omega arith) (omega arith))
    (not_due_skips plan w lines a (from + 1) k (λ n low high. h n (omega arith) (omega arith)))

-- a line that is due is not skipped
pub due_row : {P : Type 0} (plan : Plan) (w : World) (lines : List Event) (a n : ℕ) (e : Event)
    → slice_get lines n ≡ Some e → is_due plan w.parts lines a n ≡ true → row_of_event plan w e ≡ None → P
unfolding row row_of_event
due_row {P} plan w lines a n e at h none =
    let own = due_event plan w.parts lines a n e at h in
    let D : ℕ → Type 0 = λ b. may_do plan w.parts b e ≡ true in
    go (slice_get w.parts e.pass) (subst D (sym own.0) own.1) none where
      moved : (o : Option Move) (p : Body) → is_some o ≡ true → option_map (row_of plan p) o ≡ None → P
      moved (Some m) p k l = absurd (let z : Some (row_of plan p m) ≡ None = l in cc)
      moved None p k l = absurd (let z : false ≡ true = k in cc)

      go : (o : Option Body) → (elim o as (λ _. Bool) [ Some p ↦ is_enabled plan p e.action | None ↦ false ]) ≡ true
          → (elim o as (λ _. Option Row) [ Some p ↦ row plan p e.action | None ↦ None ]) ≡ None → P
      go (Some p) k l = moved (move_of plan p e.action) p k l
      go None k l = absurd (let z : false ≡ true = k in cc)
