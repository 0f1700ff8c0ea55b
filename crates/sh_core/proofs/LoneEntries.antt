-- What joined the log while one pass alone did steps: entries of that pass, as many as its steps that decided a call.
use Rattle.std.proofs.Common.{◌≡◌, ◌≢◌, ℕ, ◌+◌, ◌<◌, ◌==◌, Bool, true, false, cond, List, [], ◌∷◌, ◌++◌, length, refl}
use Rattle.std.proofs.Common.{ap, sym, ◌∙◌, subst, arith, eq-eqb}
use Rattle.std.specs.List.{All}
use Rattle.std.proofs.lemmas.List.{length-append}
use Rattle.std.proofs.lemmas.List.Elements.{All-head, All-tail, filter-append}
use Rattle.sh_history.specs.declared.entry.Entry.{Entry}
use Rattle.sh_history.specs.Log.{pass_of}
use Rattle.sh_key.specs.Layout.{Layout, IsLayout}
use Rattle.sh_shape.specs.Shape.{Numbers, IsShape, Fits}
use Rattle.sh_step.specs.declared.action.Event.{Event}
use Rattle.sh_step.specs.Plans.{Plan, plan_of}
use Rattle.sh_core.specs.Trails.{trail_of, decided, log_of}
use Rattle.sh_core.specs.Worlds.{run}
use Rattle.sh_core.proofs.Clauses.RunTheorem.{theorem}
use Rattle.sh_core.proofs.Entries.{entries, steps_make_entries, log_goes_on}

-- ---- entries that are all of one pass

nothing_in : (e : Entry) (xs : List Entry) → e ∷ xs ≡ [] → ⊥
nothing_in e xs h = let long : length (e ∷ xs) ≡ 0 = ap (λ (l : List Entry). length l) h in omega (arith, long)

rest_empty : (b : Bool) (e : Entry) (xs : List Entry) → cond b (e ∷ xs) xs ≡ [] → xs ≡ []
rest_empty true e xs h = absurd (nothing_in e xs h)
rest_empty false e xs h = h

nothing_here : (b : Bool) (e : Entry) (xs : List Entry) → b ≡ true → cond b (e ∷ xs) xs ≡ [] → ⊥
nothing_here true e xs is h = nothing_in e xs h
nothing_here false e xs is h = absurd (let z : false ≡ true = is in cc)

-- the first entry, if those after it are all of pass a
first_own : (passes a : ℕ) (e : Entry) (new : List Entry) → All (λ (x : Entry). pass_of x < passes) (e ∷ new)
    → ((b : ℕ) → b < passes → b ≢ a → entries b (e ∷ new) ≡ []) → new ≡ entries a new
    → (b : Bool) → (pass_of e == a) ≡ b → e ∷ new ≡ entries a (e ∷ new)
first_own passes a e new ours none rest true is =
    ap (λ (l : List Entry). e ∷ l) rest ∙ sym (ap (λ (b : Bool). cond b (e ∷ entries a new) (entries a new)) is)
first_own passes a e new ours none rest false is =
    let other : pass_of e ≢ a = λ same. let z : true ≡ false = sym (eq-eqb (pass_of e) a same) ∙ is in cc in
    let its = none (pass_of e) (All-head (λ (x : Entry). pass_of x < passes) e new ours) other in
    absurd (nothing_here (pass_of e == pass_of e) e (entries (pass_of e) new) (eq-eqb (pass_of e) (pass_of e) refl) its)

-- if no other pass of the heap has an entry, all are of pass a
own_only : (passes a : ℕ) (new : List Entry) → All (λ (e : Entry). pass_of e < passes) new
    → ((b : ℕ) → b < passes → b ≢ a → entries b new ≡ []) → new ≡ entries a new
own_only passes a [] ours none = refl
own_only passes a (e ∷ new) ours none =
    first_own passes a e new ours none
    (own_only passes a new (All-tail (λ (x : Entry). pass_of x < passes) e new ours)
    (λ b lt ne. rest_empty (pass_of e == b) e (entries b new) (none b lt ne)))
    (pass_of e == a) refl

all_behind : (passes : ℕ) (xs ys : List Entry) → All (λ (e : Entry). pass_of e < passes) (xs ++ ys)
    → All (λ (e : Entry). pass_of e < passes) ys
all_behind passes [] ys h = h
all_behind passes (x ∷ xs) ys h = all_behind passes xs ys (All-tail (λ (e : Entry). pass_of e < passes) x (xs ++ ys) h)

pub no_entries : (xs : List Entry) → length xs ≡ 0 → xs ≡ []
no_entries [] e = refl
no_entries (x ∷ xs) e = absurd (omega (arith, e))

-- ---- the entries that joined

-- what joined the log, all of it entries of pass a
pub record Joins (plan : Plan) (early own : List Event) (a : ℕ) : Type 0 where
  pub new : List Entry
  pub log : (run plan (early ++ own)).log ≡ (run plan early).log ++ new
  pub own_log : log_of a (run plan (early ++ own)) ≡ log_of a (run plan early) ++ new
  pub many : decided plan (trail_of plan (early ++ own) a) ≡ decided plan (trail_of plan early a) + length new

module _ (layout : Layout) (shape : Numbers) (is_layout : IsLayout layout) (is_shape : IsShape shape)
    (fits : Fits layout shape) (early own : List Event) (a : ℕ)
    (rest : (b : ℕ) → b < (plan_of layout shape).passes → b ≢ a
    → trail_of (plan_of layout shape) (early ++ own) b ≡ trail_of (plan_of layout shape) early b) where
  abbrev lone : Plan
  lone = plan_of layout shape

  grown : (more : List Entry) × ((run lone (early ++ own)).log ≡ (run lone early).log ++ more)
  grown = log_goes_on lone early own

  of_pass : (b : ℕ) → log_of b (run lone (early ++ own)) ≡ log_of b (run lone early) ++ entries b grown.0
  of_pass b = ap (entries b) grown.1 ∙ filter-append (λ (e : Entry). pass_of e == b) (run lone early).log grown.0

  -- as many entries of a pass joined as its new steps decided calls
  counts_grown : (b : ℕ)
      → decided lone (trail_of lone (early ++ own) b)
      ≡ decided lone (trail_of lone early b) + length (entries b grown.0)
  counts_grown b =
      let after = steps_make_entries lone (early ++ own) b in
      let before = steps_make_entries lone early b in
      let long : length (log_of b (run lone (early ++ own)))
      ≡ length (log_of b (run lone early)) + length (entries b grown.0) =
      ap (λ (l : List Entry). length l) (of_pass b) ∙ length-append (log_of b (run lone early)) (entries b grown.0) in
      omega (arith, after, before, long)

  others_none : (b : ℕ) → b < lone.passes → b ≢ a → entries b grown.0 ≡ []
  others_none b lt ne =
      let count = counts_grown b in
      let same : decided lone (trail_of lone (early ++ own) b) ≡ decided lone (trail_of lone early b) =
      ap (decided lone) (rest b lt ne) in
      no_entries (entries b grown.0) (omega (arith, count, same))

  all_own : grown.0 ≡ entries a grown.0
  all_own =
      let ours = (theorem layout shape is_layout is_shape fits (early ++ own)).entries in
      own_only lone.passes a grown.0
      (all_behind lone.passes (run lone early).log grown.0
      (subst (λ (l : List Entry). All (λ (e : Entry). pass_of e < lone.passes) l) grown.1 ours))
      others_none

  pub joins : Joins lone early own a
  joins = record {
    new = grown.0;
    log = grown.1;
    own_log = of_pass a ∙ ap (λ (l : List Entry). log_of a (run lone early) ++ l) (sym all_own);
    many = counts_grown a
        ∙ ap (λ (l : List Entry). decided lone (trail_of lone early a) + length l) (sym all_own);
  }
