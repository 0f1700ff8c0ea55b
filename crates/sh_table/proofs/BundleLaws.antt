-- Loads that change no word: a carrier opens a bundle, a bundle takes in a carrier, and one looks at a bundle.
use Rattle.std.proofs.Common.{◌≡◌, ◌≢◌, ℕ, ◌==◌, ◌⊎◌, ⊎_elim, cond, List, [], ◌∷◌, ◌++◌, set, sym, refl, ap, ◌∙◌, subst}
use Rattle.std.proofs.Common.{eq-eqb, ne_eqb}
use mathlib.Core.Option.{some}
use lib.ListN.{get_elem?}
use lib.Seq.{set-get_or}
use Rattle.atomic_table.specs.Table.{Me, keeps, Allows, Splits, Joins}
use Rattle.atomic_table.proofs.Lists.{at_set, set_else, set_again}
use Rattle.sh_key.specs.Layout.{Layout}
use Rattle.sh_shape.specs.Shape.{Numbers}
use Rattle.sh_step.specs.declared.action.Event.{Event}
use Rattle.sh_step.specs.Plans.{Plan, plan_of}
use Rattle.sh_core.proofs.Clauses.RunTheorem.{legal_of}
use Rattle.sh_table.specs.declared.view.Role.{Role}
use Rattle.sh_table.specs.declared.view.Role.TheVariants.{Carrier, Bundle, Spent}
use Rattle.sh_table.specs.declared.view.Told.{Told}
use Rattle.sh_table.specs.declared.view.View.{View}
use Rattle.sh_table.specs.Views.{Each, bundled_view, empty_bundle, spent, told_of}
use Rattle.sh_table.specs.Reached.{HasTold, Carries, HasBundled, Bundles, FitsRole, FitsSeat, Reached}
use Rattle.sh_table.specs.Reached.{HasOwn, StepsBefore}
use Rattle.sh_table.specs.Together.{LeadsTogether}
use Rattle.sh_table.proofs.Zips.{each_map, each_append}
use Rattle.sh_table.proofs.Keeps.{carried}
use Rattle.sh_table.proofs.SeatLaws.{one_seat_more, refit}

-- ---- a carrier opens a bundle of no passes

pub opens_bundle : (layout : Layout) (shape : Numbers) (id : ℕ) (v : View) → v.shape ≡ shape
    → Splits (Reached layout shape) id v v (empty_bundle v)
opens_bundle layout shape id v same st r at =
    one_seat_more layout shape id v (empty_bundle v) st r at ((λ _. same), record { told = tt; steps = tt })

-- ---- the bundle v, at the seat id, takes in the seat `away`, of the view x

-- what a bundle has
abbrev pub bundled : (layout : Layout) (shape : Numbers) (es : List Event) (seat : ℕ → ℕ) (i : ℕ) (v : View) → v.role
    ≡ Bundle → FitsSeat layout shape es seat i v → Bundles (plan_of layout shape) es seat i v
bundled layout shape es seat i v role h = let R : Role → Type 0 = λ z. FitsRole z (plan_of layout shape) es seat i v
    in subst R role h.1

module _ (layout : Layout) (shape : Numbers) (es : List Event) (seat : ℕ → ℕ) (id away : ℕ) (v x : View)
    (apart : away ≢ id) (hv : Bundles (plan_of layout shape) es seat id v)
    (hx : Carries (plan_of layout shape) es seat away x) where
  abbrev bound_seat : ℕ → ℕ
  bound_seat p = cond (seat p == away) id (seat p)

  still_there : (j : ℕ) → j ≢ away → (p : ℕ) → seat p ≡ j → bound_seat p ≡ j
  still_there j ne p e = ap (λ b. cond b id (seat p)) (ne_eqb (seat p) away (λ is. ne (sym e ∙ is))) ∙ e

  comes_there : (p : ℕ) → seat p ≡ away → bound_seat p ≡ id
  comes_there p e = ap (λ b. cond b id (seat p)) (eq-eqb (seat p) away e)

  stays : (t : Told) → HasBundled (plan_of layout shape) es seat id t
      → HasBundled (plan_of layout shape) es bound_seat id t
  stays t y = record { seated = still_there id (λ e. apart (sym e)) t.pass y.seated; own = y.own }

  comes : (t : Told) → HasTold (plan_of layout shape) es seat away x.pass t
      → HasBundled (plan_of layout shape) es bound_seat id t
  comes t y = record { seated = comes_there t.pass y.seated; own = y.own }

  comes_first : HasBundled (plan_of layout shape) es bound_seat id (told_of x)
  comes_first = record { seated = comes_there x.pass hx.seated; own = hx.own }

  bundles_both : Bundles (plan_of layout shape) es bound_seat id (bundled_view v x)
  bundles_both = record {
    told = each_append (HasBundled (plan_of layout shape) es bound_seat id) v.told (told_of x ∷ x.told)
        (each_map _ _ stays v.told hv.told) (comes_first, each_map _ _ comes x.told hx.told);
    steps = each_append (StepsBefore (plan_of layout shape) es) v.orders x.orders hv.steps hx.steps;
  }

pub binds : (layout : Layout) (shape : Numbers) (id away : ℕ) (v x : View) → v.shape ≡ shape → v.role ≡ Bundle → x.role
    ≡ Carrier → Joins (Reached layout shape) id v away x (bundled_view v x) spent
binds layout shape id away v x same role role' st r at apart at' =
    let plan : Plan = plan_of layout shape in
    let there : get_elem? st.views away ≡ some x = sym (set_else st.views id away (bundled_view v x) apart) ∙ at' in
    let hv : Bundles plan r.events r.seat id v = bundled layout shape r.events r.seat id v role (r.views id v at) in
    let hx : Carries plan r.events r.seat away x = carried layout shape r.events r.seat away x role'
    (r.views away x there) in
    let now : ℕ → ℕ = bound_seat layout shape r.events r.seat id away v x apart hv hx in
    let both : FitsSeat layout shape r.events now id (bundled_view v x) =
    (let R : Role → Type 0 = λ z. FitsRole z plan r.events now id (bundled_view v x) in
    ((λ _. same), subst R (sym role) (bundles_both layout shape r.events r.seat id away v x apart hv hx))) in
    record {
      is_layout = r.is_layout;
      is_shape = r.is_shape;
      fits = r.fits;
      events = r.events;
      words = r.words;
      seat = now;
      views = λ j u e. ⊎_elim
          (λ (t : (j ≡ away) × (spent ≡ u)). let P : View → Type 0 = λ z. FitsSeat layout shape r.events now j z
          in subst P t.1 ((λ ne. absurd (ne refl)), tt))
          (λ (t : (j ≢ away) × (get_elem? (set st.views id (bundled_view v x)) j ≡ some u)). ⊎_elim
          (λ (y : (j ≡ id) × (bundled_view v x ≡ u)). let P : ℕ × View
          → Type 0 = λ z. FitsSeat layout shape r.events now z.0 z.1 in subst P (λ k. (sym y.0 k, y.1 k)) both)
          (λ (y : (j ≢ id) × (get_elem? st.views j ≡ some u)). refit layout shape r.events r.seat now j u
          (still_there layout shape r.events r.seat id away v x apart hv hx j t.0) (r.views j u y.1))
          (at_set st.views id j (bundled_view v x) u t.1))
          (at_set (set st.views id (bundled_view v x)) away j spent u e);
    }

-- ---- a load that shows what holds of a bundle

pub surveys : (layout : Layout) (key : Numbers) (slots id i : ℕ) (me : Me (Unit {0}) View) → key ≡ me.0.shape
    → me.0.role ≡ Bundle → Allows (Reached layout key) slots id me i (λ n. n)
    (λ n me'. (me' ≡ me) × LeadsTogether layout me.0)
surveys layout key slots id i me same role =
    let P : Numbers → Type 0 = λ s. Allows (Reached layout s) slots id me i (λ n. n)
    (λ n me'. (me' ≡ me) × LeadsTogether layout me.0) in
    subst P (sym same) (λ st r count at wide.
    let v : View = me.0 in
    let plan : Plan = plan_of layout v.shape in
    let h : Bundles plan r.events r.seat id v = bundled layout v.shape r.events r.seat id v role (r.views id v at) in
    let together : LeadsTogether layout v = record {
      is_layout = r.is_layout;
      is_shape = r.is_shape;
      fits = r.fits;
      events = r.events;
      own = each_map (HasBundled plan r.events r.seat id) (λ t. HasOwn plan r.events t.pass t.own)
          (λ (t : Told) (x : HasBundled plan r.events r.seat id t). x.own) v.told h.told;
      steps = h.steps;
      legal = legal_of layout v.shape r.is_layout r.is_shape r.fits r.events;
    } in
    let G : List ℕ × List View → Type 0 = λ z. Reached layout v.shape
    (record { words = z.0; homes = st.homes; views = z.1 }) in (
      v,
      keeps,
      tt,
      subst G (λ k. (sym (set-get_or st.words i 0) k, sym (set_again st.views id v at) k)) r,
      (refl, together),
    ))
