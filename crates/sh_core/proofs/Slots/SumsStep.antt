-- What a kind owes, so that all that is kept still holds.
use Rattle.std.proofs.Common.{◌≡◌, ◌≢◌, ℕ, ◌+◌, ◌≤◌, ⊎_elim, List, [], ◌∷◌, ◌++◌, length, set, refl, ◌∙◌, subst, arith}
use Rattle.std.proofs.Common.{Option, Some, None, slice_get, eq-eqb, ne_eqb, sym}
use Rattle.std.proofs.lemmas.List.{length-set}
use Rattle.sh_history.specs.declared.entry.Entry.{Entry}
use Rattle.sh_history.specs.declared.entry.Entry.TheVariants.{Got, Released}
use Rattle.sh_core.specs.Words.{Words}
use Rattle.sh_step.specs.Plans.{Plan}
use Rattle.sh_step.specs.Collections.{total}
use Rattle.sh_step.specs.declared.body.Body.{Body}
use Rattle.sh_core.specs.Worlds.{World, joined}
use Rattle.sh_core.specs.Lists.{PutLists, times}
use Rattle.sh_core.specs.Tallies.{SlotsAddUp}
use Rattle.sh_core.specs.Stories.{got_in, released_in, got_by, released_by, KeysAgree, HoldsAgree, AllHoldsAgree}
use Rattle.sh_history.specs.History.{Legal}
use Rattle.sh_history.specs.Log.{pass_of}
use Rattle.sh_history.proofs.Laws.{legal_after_more}
use Rattle.sh_core.proofs.Slots.Permits.{Permits, permits_allowed}
use Rattle.sh_core.specs.Sums.{Sums, FillAgrees}
use Rattle.sh_core.proofs.Sums.Totals.{total_append, total_set, get_set}
use Rattle.sh_core.proofs.Slots.Logs.{holds_step}

-- the entry accounts for the change of the pass's holds
abbrev pub Paid : ℕ → Body → Body → Option Entry → Type 0
Paid a p p' None = (k : ℕ) → times k p'.holds ≡ times k p.holds
Paid a p p' (Some e) = (pass_of e ≡ a) × ((k : ℕ) → got_in k e + times k p.holds ≡ released_in k e + times k p'.holds)

abbrev pub PermitsNext : Plan → List Entry → Option Entry → Type 0
PermitsNext plan log None = Unit {0}
PermitsNext plan log (Some e) = Permits plan log e

by_own : (e : Entry) (a k : ℕ) → pass_of e ≡ a → (got_by a k e ≡ got_in k e) × (released_by a k e ≡ released_in k e)
by_own (Got b j v) a k h = let t = eq-eqb a a refl in (rw (h, t) refl, refl)
by_own (Released b j) a k h = let t = eq-eqb a a refl in (refl, rw (h, t) refl)
by_own _ a k h = (refl, refl)

by_other : (e : Entry) (a b k : ℕ) → pass_of e ≡ a → b ≢ a → (got_by b k e ≡ 0) × (released_by b k e ≡ 0)
by_other (Got c j v) a b k h n = let t = ne_eqb a b (λ e. n (sym e)) in (rw (h, t) refl, refl)
by_other (Released c j) a b k h n = let t = ne_eqb a b (λ e. n (sym e)) in (refl, rw (h, t) refl)
by_other _ a b k h n = (refl, refl)

paid_holds : (ps : List Body) (log : List Entry) (a : ℕ) (p p' : Body) (e : Option Entry) → HoldsAgree ps log
    → slice_get ps a ≡ Some p → Paid a p p' e → HoldsAgree (set ps a p') (joined log e)
unfolding total
paid_holds ps log a p p' None old at paid = holds_step ps log log a p p' old at (λ k. let q = paid k in omega arith)
    (λ b k h. (refl, refl))
paid_holds ps log a p p' (Some e) old at paid = holds_step ps log (log ++ e ∷ []) a p p' old at
    (λ k. let q = paid.1 k in let o = by_own e a k paid.0 in omega
    (arith, total_append (got_by a k) log (e ∷ []), total_append (released_by a k) log (e ∷ [])))
    (λ b k h. let o = by_other e a b k paid.0 h in (
      omega (arith, total_append (got_by b k) log (e ∷ [])),
      omega
          (arith, total_append (released_by b k) log (e ∷ [])),
    ))

paid_all : (ps : List Body) (log : List Entry) (a : ℕ) (p p' : Body) (e : Option Entry) → AllHoldsAgree ps log
    → slice_get ps a ≡ Some p → Paid a p p' e → AllHoldsAgree (set ps a p') (joined log e)
unfolding total
paid_all ps log a p p' None old at paid k = let q = paid k in let o = old k
    in let t = total_set (λ (u : Body). times k u.holds) ps a p p' at in omega arith
paid_all ps log a p p' (Some e) old at paid k =
    let q = paid.1 k in
    let o = old k in
    let t = total_set (λ (u : Body). times k u.holds) ps a p p' at in
    omega (arith, total_append (got_in k) log (e ∷ []), total_append (released_in k) log (e ∷ []))

-- One pass steps: what is owed of slots, keys, the entry, the holds and the part's own hand
pub sums_at : (plan : Plan) (w : World) (l l' : PutLists) (a : ℕ) (p p' : Body) (W : Words) (e : Option Entry)
    → Sums plan w l → slice_get w.parts a ≡ Some p
    → SlotsAddUp plan W (set w.parts a p') l' → KeysAgree plan W (joined w.log e) → PermitsNext plan w.log e
    → Paid a p p' e
    → (length p'.holds ≤ 16) × FillAgrees W p' p'.hand
    → ((b : ℕ) (q : Body) → b ≢ a → slice_get w.parts b ≡ Some q → FillAgrees w.words q q.hand → FillAgrees W q q.hand)
    → Sums plan (record { words = W; parts = set w.parts a p'; log = joined w.log e }) l'
sums_at plan w l l' a p p' W e g at slots keys allowed paid mine fills = record {
  legal = next e allowed;
  slots = slots;
  keys = keys;
  holds = paid_holds w.parts w.log a p p' e g.holds at paid;
  all_holds = paid_all w.parts w.log a p p' e g.all_holds at paid;
  parts = λ b q h. ⊎_elim (λ c. let T : Body → Type 0 = λ r. (length r.holds ≤ 16) × FillAgrees W r r.hand
      in subst T c.1 mine) (λ c. let o = g.parts b q c.1 in (o.0, fills b q c.0 c.1 o.1)) (get_set w.parts a b p' q h);
  passes = length-set w.parts a p' ∙ g.passes;
} where
  next : (d : Option Entry) → PermitsNext plan w.log d → Legal plan.passes plan.keys.guard_max (joined w.log d)
  next None h = g.legal
  next (Some d) h = legal_after_more plan.passes plan.keys.guard_max [] w.log d g.legal (permits_allowed plan w.log d h)
