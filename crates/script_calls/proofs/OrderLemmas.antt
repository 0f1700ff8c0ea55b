-- If each pass that added an entry had heard of all entries before it, the history has them in that order.
use Rattle.std.proofs.Common.{◌≡◌, ◌≢◌, ℕ, suc, ◌+◌, ◌<◌, ◌≤◌, ◌==◌, cond, List, [], ◌∷◌}
use Rattle.std.proofs.Common.{◌++◌, length, map, refl, ap, sym, ◌∙◌, subst, arith, append_assoc, length-append}
use Rattle.std.proofs.Common.{eq-eqb, ne_eqb, inl, inr, ◌⊎◌, ⊎_elim}
use mathlib.Core.Logic.{dite}
use native.Mathlib.Decide.{ℕ_discrete}
use Rattle.std.proofs.lemmas.List.Elements.{filter-append}
use Rattle.sh_history.specs.declared.entry.Entry.{Entry}
use Rattle.sh_history.specs.Log.{pass_of}
use Rattle.sh_table.specs.Tales.{by}
use Rattle.script_calls.specs.InOrder.{times, AllHeard}
use Rattle.sh_table.proofs.Zips.{by_append}

-- ---- counts

pub times_append : (a : ℕ) (ts us : List ℕ) → times a (ts ++ us) ≡ times a ts ++ times a us
times_append a ts us = filter-append (λ (t : ℕ). t == a) ts us

pub times_here : (t : ℕ) (ts : List ℕ) → times t (t ∷ ts) ≡ t ∷ times t ts
times_here t ts = ap (λ b. cond b (t ∷ times t ts) (times t ts)) (eq-eqb t t refl)

pub times_else : (a t : ℕ) (ts : List ℕ) → t ≢ a → times a (t ∷ ts) ≡ times a ts
times_else a t ts ne = ap (λ b. cond b (t ∷ times a ts) (times a ts)) (ne_eqb t a ne)

pub by_here : (e : Entry) (es : List Entry) → by (pass_of e) (e ∷ es) ≡ e ∷ by (pass_of e) es
by_here e es = ap (λ b. cond b (e ∷ by (pass_of e) es) (by (pass_of e) es)) (eq-eqb (pass_of e) (pass_of e) refl)

pub by_else : (a : ℕ) (e : Entry) (es : List Entry) → pass_of e ≢ a → by a (e ∷ es) ≡ by a es
by_else a e es ne = ap (λ b. cond b (e ∷ by a es) (by a es)) (ne_eqb (pass_of e) a ne)

-- ---- the place of the pass's next entry

record Next (a : ℕ) (ts : List ℕ) : Type 0 where
  pub before : List ℕ
  pub it : ℕ
  pub after : List ℕ
  pub is : ts ≡ before ++ it ∷ after
  pub who : it ≡ a
  pub none : times a before ≡ []

next : (a : ℕ) (ts : List ℕ) → 0 < length (times a ts) → Next a ts
next a [] l = absurd (omega (arith, l))
next a (t ∷ ts) l = dite (ℕ_discrete t a)
    (λ (e : t ≡ a). record { before = []; it = t; after = ts; is = refl; who = e; none = refl })
    (λ (ne : t ≢ a).
    let n = next a ts (subst (λ (xs : List ℕ). 0 < length xs) (times_else a t ts ne) l) in
    record {
      before = t ∷ n.before;
      it = n.it;
      after = n.after;
      is = ap (λ (l : List ℕ). t ∷ l) n.is;
      who = n.who;
      none = times_else a t n.before ne ∙ n.none;
    })

-- ---- two cuts of one list

-- a cut lies before the other's first element, or after it
pub cuts : (xs ys zs us : List Entry) (b : Entry) → xs ++ ys ≡ zs ++ b ∷ us
    → ((rest : List Entry) × (zs ≡ xs ++ rest)) ⊎ ((rest : List Entry) × (xs ≡ zs ++ b ∷ rest))
cuts [] ys zs us b e = inl (zs, refl)
cuts (x ∷ xs) ys [] us b e = let h : x ≡ b = cc in inr (xs, ap (λ (c : Entry). c ∷ xs) h)
cuts (x ∷ xs) ys (z ∷ zs) us b e =
    let h : x ≡ z = cc in
    let t : xs ++ ys ≡ zs ++ b ∷ us = cc in
    ⊎_elim (λ (r : (rest : List Entry) × (zs ≡ xs ++ rest)). inl (r.0, λ i. sym h i ∷ r.1 i))
    (λ (r : (rest : List Entry) × (xs ≡ zs ++ b ∷ rest)). inr (r.0, λ i. h i ∷ r.1 i)) (cuts xs ys zs us b t)

pub by_length : (a : ℕ) (es fs : List Entry) → length (by a (es ++ fs)) ≡ length (by a es) + length (by a fs)
by_length a es fs = ap (λ (l : List Entry). length l) (by_append a es fs) ∙ length-append (by a es) (by a fs)

pub times_length : (a : ℕ) (ts us : List ℕ) → length (times a (ts ++ us))
    ≡ length (times a ts) + length (times a us)
times_length a ts us = ap (λ (l : List ℕ). length l) (times_append a ts us)
    ∙ length-append (times a ts) (times a us)

-- ---- the first lines are the first entries, and so is the next

module _ (history : List Entry) (ts : List ℕ)
    (many : (a : ℕ) → length (times a ts) ≡ length (by a history)) (heard : AllHeard history ts) where
  -- the next entry is of the pass that comes next
  same_pass : (done : List ℕ) (t : ℕ) (rest : List ℕ) (early : List Entry) (e : Entry)
      (late : List Entry) → ts ≡ done ++ t ∷ rest → history ≡ early ++ e ∷ late
      → ((a : ℕ) → length (times a done) ≡ length (by a early)) → pass_of e ≡ t
  same_pass done t rest early e late is splits same = dite (ℕ_discrete (pass_of e) t) (λ (y : pass_of e ≡ t). y)
      (λ (ne : pass_of e ≢ t).
      let a : ℕ = pass_of e in
      let of : length (by a history) ≡ length (by a early) + length (by a (e ∷ late)) = ap
      (λ (l : List Entry). length (by a l)) splits ∙ by_length a early (e ∷ late) in
      let one : length (by a (e ∷ late)) ≡ suc (length (by a late)) = ap (λ (l : List Entry). length l) (by_here e late)
      in
      let told : length (times a ts) ≡ length (times a done) + length (times a (t ∷ rest)) = ap
      (λ (l : List ℕ). length (times a l)) is ∙ times_length a done (t ∷ rest) in
      let other : length (times a (t ∷ rest)) ≡ length (times a rest) = ap (λ (l : List ℕ). length l)
      (times_else a t rest (λ y. ne (sym y))) in
      let m = many a in
      let s = same a in
      let n = next a rest (omega (arith, of, one, told, other, m, s)) in
      let now : List ℕ = done ++ t ∷ n.before in
      let at : ts ≡ now ++ n.it ∷ n.after = is ∙ (ap (λ (l : List ℕ). done ++ t ∷ l) n.is
      ∙ sym (append_assoc done (t ∷ n.before) (n.it ∷ n.after))) in
      let c = heard now n.after n.it at t in
      let whole : c.early ++ c.late ≡ early ++ e ∷ late = sym c.is ∙ splits in
      let mine : length (times t now) ≡ length (times t done) + suc (length (times t n.before)) = times_length
      t done (t ∷ n.before) ∙ ap (λ (l : List ℕ). length (times t done) + length l) (times_here t n.before)
      in
      let yours : length (times a now) ≡ length (times a done) + 0 = times_length a done (t ∷ n.before)
      ∙ ap (λ (l : List ℕ). length (times a done) + length l) (times_else a t n.before (λ y. ne (sym y)) ∙ n.none)
      in
      let own : length (by a c.early) ≤ length (times a now) = subst
      (λ (z : ℕ). length (by z c.early) ≤ length (times z now)) n.who c.own in
      let s' = same t in
      let hears = c.heard in
      absurd (⊎_elim
      (λ (r : (rest : List Entry) × (early ≡ c.early ++ rest)).
      let k : length (by t early) ≡ length (by t c.early) + length (by t r.0) = ap
      (λ (l : List Entry). length (by t l)) r.1 ∙ by_length t c.early r.0 in
      let z : ⊥ = omega (arith, k, mine, s', hears) in z)
      (λ (r : (rest : List Entry) × (c.early ≡ early ++ e ∷ rest)).
      let k : length (by a c.early) ≡ length (by a early) + length (by a (e ∷ r.0)) = ap
      (λ (l : List Entry). length (by a l)) r.1 ∙ by_length a early (e ∷ r.0) in
      let j : length (by a (e ∷ r.0)) ≡ suc (length (by a r.0)) = ap (λ (l : List Entry). length l) (by_here e r.0) in
      let z : ⊥ = omega (arith, k, j, yours, s, own) in z)
      (cuts c.early c.late early late e whole)))

  goes : (rest done : List ℕ) (early late : List Entry) → ts ≡ done ++ rest → history ≡ early ++ late
      → ((a : ℕ) → length (times a done) ≡ length (by a early)) → map pass_of late ≡ rest
  goes [] done early [] is splits same = refl
  goes [] done early (e ∷ late) is splits same =
      let a : ℕ = pass_of e in
      let m = many a in
      let s = same a in
      let x : length (times a ts) ≡ length (times a done) + 0 = ap (λ (l : List ℕ). length (times a l)) is
      ∙ times_length a done [] in
      let y : length (by a history) ≡ length (by a early) + length (by a (e ∷ late)) = ap
      (λ (l : List Entry). length (by a l)) splits ∙ by_length a early (e ∷ late) in
      let z : length (by a (e ∷ late)) ≡ suc (length (by a late)) = ap (λ (l : List Entry). length l)
      (by_here e late) in
      absurd (omega (arith, m, s, x, y, z))
  goes (t ∷ rest) done early [] is splits same =
      let m = many t in
      let s = same t in
      let x : length (times t ts) ≡ length (times t done) + length (times t (t ∷ rest)) = ap
      (λ (l : List ℕ). length (times t l)) is ∙ times_length t done (t ∷ rest) in
      let y : length (by t history) ≡ length (by t early) + 0 = ap (λ (l : List Entry). length (by t l)) splits
      ∙ by_length t early [] in
      let z : length (times t (t ∷ rest)) ≡ suc (length (times t rest)) = ap (λ (l : List ℕ). length l)
      (times_here t rest) in
      absurd (omega (arith, m, s, x, y, z))
  goes (t ∷ rest) done early (e ∷ late) is splits same =
      let who : pass_of e ≡ t = same_pass done t rest early e late is splits same in
      let longer : (a : ℕ) → length (times a (done ++ t ∷ [])) ≡ length (by a (early ++ e ∷ [])) = λ a.
      let one : length (times a (t ∷ [])) ≡ length (by a (e ∷ [])) = dite (ℕ_discrete t a)
      (λ (y : t ≡ a). subst (λ (z : ℕ). length (times z (t ∷ [])) ≡ length (by z (e ∷ []))) y
      (ap (λ (l : List ℕ). length l) (times_here t []) ∙ sym (ap (λ (l : List Entry). length l)
      (subst (λ (z : ℕ). by z (e ∷ []) ≡ e ∷ []) who (by_here e [])))))
      (λ (ne : t ≢ a). ap (λ (l : List ℕ). length l) (times_else a t [] ne) ∙ sym (ap (λ (l : List Entry). length l)
      (by_else a e [] (λ y. ne (sym who ∙ y))))) in
      times_length a done (t ∷ []) ∙ ((λ i. same a i + one i) ∙ sym (by_length a early (e ∷ []))) in
      let more = goes rest (done ++ t ∷ []) (early ++ e ∷ []) late (is ∙ sym (append_assoc done (t ∷ []) rest))
      (splits ∙ sym (append_assoc early (e ∷ []) late)) longer in
      λ i. who i ∷ more i

pub in_order : (history : List Entry) (ts : List ℕ) → ((a : ℕ) → length (times a ts) ≡ length (by a history))
    → AllHeard history ts → map pass_of history ≡ ts
in_order history ts many heard = goes history ts many heard ts [] [] history refl refl (λ a. refl)
