-- All lines ran one after the other, and all passes heard of them: the entries are in the order of the lines.
use Rattle.std.proofs.Common.{◌≡◌, ◌≢◌, ℕ, ◌<◌, ◌≤◌, Bool, true, false, cond, List, [], ◌∷◌, length, take, map, Option}
use Rattle.std.proofs.Common.{sym, refl, ap, ◌∙◌, subst, arith, ne_eqb, ⊎_elim}
use Rattle.std.specs.Prelude.{nat_lt, not}
use Rattle.std.proofs.lemmas.Bool.Decides.{nat_tests}
use Rattle.std.proofs.lemmas.Bool.{cases_lt}
use Rattle.std.proofs.lemmas.List.Elements.{Contains-append_left}
use Rattle.sh_history.specs.declared.entry.Entry.{Entry}
use Rattle.sh_history.specs.Log.{Agrees, pass_of, entries_of}
use Rattle.sh_script.specs.declared.calls.CallLine.{CallLine}
use Rattle.sh_pass.specs.Passes.{Caller}
use Rattle.script_calls.specs.Parts.{RunTerms, SeenPass, HasAllLogs, tale_told, passes_below}
use Rattle.script_calls.specs.Told.{part_told}
use Rattle.script_calls.specs.InOrder.{adding_passes, times, AllHeard}
use Rattle.script_calls.specs.Alone.{OrderedSoFar}
use Rattle.script_calls.specs.Finished.{IsOrderedBy}
use Rattle.script_calls.specs.Heeding.{AllHeedInTurn}
use Rattle.script_calls.specs.Meeting.{HasMet, KeepsOrders, tales_told, orders_of}
use Rattle.script_calls.proofs.HeardAll.{heard_head, heard_tales, heard_all}
use Rattle.script_calls.proofs.ListLemmas.{take_past, up_get}
use Rattle.script_calls.proofs.NameLaws.{log_at}
use Rattle.script_calls.proofs.OrderLemmas.{in_order}
use Rattle.script_calls.proofs.InTurn.{tale_of_parts}
use Rattle.sh_table.specs.Seats.{Heap}
use Rattle.sh_table.specs.Tales.{by, Before}
use Rattle.sh_table.specs.Views.{Each}
use Rattle.sh_table.proofs.Zips.{zip_length}

none_by : (passes p : ℕ) → passes ≤ p → (es : List Entry) → entries_of (λ q. not (nat_lt q passes)) es ≡ []
    → by p es ≡ []
none_by passes p le [] h = refl
none_by passes p le (e ∷ es) h = go (nat_lt (pass_of e) passes) refl (none_by passes p le es) h
  where
    skip : pass_of e ≢ p → by p es ≡ [] → by p (e ∷ es) ≡ []
    skip ne rest = ap (λ b. cond b (e ∷ by p es) (by p es)) (ne_eqb (pass_of e) p ne) ∙ rest

    go : (b : Bool) → nat_lt (pass_of e) passes ≡ b → (entries_of (λ q. not (nat_lt q passes)) es ≡ [] → by p es ≡ [])
        → cond (not b) (e ∷ entries_of (λ q. not (nat_lt q passes)) es) (entries_of (λ q. not (nat_lt q passes)) es)
        ≡ [] → by p (e ∷ es) ≡ []
    go true is rest h = let l : pass_of e < passes = grind (arith, nat_tests) in
        skip (λ q. omega (arith, l, le, q)) (rest h)
    go false is rest h = absurd (let z : e ∷ entries_of (λ q. not (nat_lt q passes)) es ≡ [] = h in cc)

module _ (heap : Option Heap) (terms : RunTerms) (tag : Option ℕ) (lines : List CallLine) (i : ℕ)
    (numbers : List (Option ℕ)) (sides : List SeenPass) (output : List ℕ) (last : Option Caller)
    (was : OrderedSoFar heap terms tag lines i numbers sides output last) (past : length lines ≤ i)
    (ts : List SeenPass) (hear : AllHeedInTurn last sides ts) (c : SeenPass)
    (m : HasMet heap terms c (tales_told ts) (orders_of ts)) where
  abbrev tellers : List ℕ
  tellers = adding_passes (take i lines) was.so_far.answers

  -- the first pass heard of all lines, and the carrier of what it heard of
  all_heard : (history : List Entry) → Each (Before history) c.orders → AllHeard history tellers
  all_heard history each = go sides ts hear m.carries.2 m.heard
    where
      go : (ss ts : List SeenPass) → AllHeedInTurn last ss ts → tale_told c ≡ tales_told ts
          → KeepsOrders (orders_of ts) c.orders → AllHeard history tellers
      go ss [] h tale keeps =
          absurd (let z : record { pass = c.pass; log = c.part.log } ∷ c.told ≡ [] = tale in cc)
      go [] (t ∷ ts) h tale keeps = absurd (let e = h.all in omega (arith, e))
      go (s ∷ ss) (t ∷ ts) h tale keeps = heard_all heap tellers last s t was.last_heard (heard_head last s t ss ts h)
          c.orders (λ o k. keeps o (Contains-append_left t.orders (orders_of ts) o k)) history each

  pub ordered_by : IsOrderedBy terms lines was.so_far.answers c
  ordered_by history has only each =
      let n : ℕ = terms.shape.passes in
      let tale : tale_told c ≡ map (part_told was.so_far.run.parts) (passes_below n) = m.carries.2
      ∙ (heard_tales last sides ts hear ∙ tale_of_parts heap terms tag lines i numbers sides output was.so_far) in
      let logs : HasAllLogs history (map (part_told was.so_far.run.parts) (passes_below n)) = subst
      (HasAllLogs history) tale has in
      let many : (p : ℕ) → length (times p tellers) ≡ length (by p history) = λ p. ⊎_elim
      (λ (less : p < n). was.counts p ∙ zip_length Agrees (was.so_far.run.parts p).log (by p history)
      (log_at history was.so_far.run.parts (passes_below n) logs p p (up_get n p less)))
      (λ (le : n ≤ p). ap (λ (q : List ℕ). length q) (was.few p le)
      ∙ sym (ap (λ (q : List Entry). length q) (none_by n p le history only))) (cases_lt p n) in
      in_order history tellers many (all_heard history each)
      ∙ ap (λ (ls : List CallLine). adding_passes ls was.so_far.answers) (take_past lines i past)
