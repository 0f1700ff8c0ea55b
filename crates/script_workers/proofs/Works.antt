-- One more line for a worker.
use Rattle.std.proofs.Common.{◌≡◌, ◌≢◌, ℕ, zero, suc, ◌+◌, eqb, eq-eqb, ne_eqb, append-nil, Bool, true, false, cond}
use Rattle.std.proofs.Common.{List, [], ◌∷◌, ◌++◌, length, take, slice_get, Some, Option, sym, refl, ap, ◌∙◌, subst}
use Rattle.std.proofs.Common.{◌<◌, ◌==◌, arith, add-one}
use Rattle.std.specs.Prelude.{filter, count_by}
use Rattle.std.proofs.lemmas.List.Sums.{length-filter}
use Rattle.std.proofs.lemmas.Option.{none-some, same_Some}
use Rattle.sh_script.specs.declared.calls.Call.{Call}
use Rattle.sh_script.specs.declared.calls.CallLine.{CallLine}
use Rattle.script_calls.specs.Parts.{RunTerms, PassPart, SeenPass, SamePass, new_part, new_pass}
use Rattle.script_calls.specs.Calls.{CallAnswers}
use Rattle.script_calls.specs.InOrder.{Covers, adds_entry}
use Rattle.script_calls.specs.Meeting.{KeepsOrders}
use Rattle.script_calls.specs.Receipts.{receipt_seen}
use Rattle.script_calls.proofs.GrowLemmas.{grows}
use Rattle.script_calls.proofs.NameLemmas.{covers_own, may_log}
use Rattle.script_output.specs.declared.answer.Answer.{Answer}
use Rattle.script_workers.specs.declared.board.Bound.{Bound}
use Rattle.script_workers.specs.declared.worker.Made.{Made}
use Rattle.script_workers.specs.Boards.{MayHearName}
use Rattle.script_workers.specs.Works.{own_calls, bound_number, HeardOfBound, CallMade, CallsMade, IsWork}
use Rattle.script_workers.proofs.Boards.{name_only, name_heeds, name_keeps, name_heard, bound_kept}
use Rattle.sh_history.specs.declared.log.LogEntry.{LogEntry}
use Rattle.sh_table.specs.declared.view.Order.{Order}
use Rattle.sh_table.specs.Seats.{Heap}

own_take : (p : ℕ) (ls : List CallLine) (i : ℕ) (l : CallLine) → slice_get ls i ≡ Some l
    → own_calls p (take (suc i) ls) ≡ own_calls p (take i ls) ++ cond (eqb l.pass p) (l.call ∷ []) []
own_take p [] i l e = absurd (none-some l e)
own_take p (x ∷ xs) zero l e =
    let s : x ≡ l = same_Some x l e in
    ap (λ (z : CallLine). cond (eqb z.pass p) (z.call ∷ []) []) s
own_take p (x ∷ xs) (suc i) l e = elim (eqb x.pass p)
    as (λ (b : Bool). cond b (x.call ∷ own_calls p (take (suc i) xs)) (own_calls p (take (suc i) xs))
    ≡ cond b (x.call ∷ own_calls p (take i xs)) (own_calls p (take i xs))
    ++ cond (eqb l.pass p) (l.call ∷ []) []) [
      | true ↦ ap (λ (z : List Call). x.call ∷ z) (own_take p xs i l e)
      | false ↦ own_take p xs i l e
    ]

own_then : (p : ℕ) (ls : List CallLine) (i : ℕ) (l : CallLine) → slice_get ls i ≡ Some l → l.pass ≡ p
    → own_calls p (take (i + 1) ls) ≡ own_calls p (take i ls) ++ l.call ∷ []
own_then p ls i l at e = ap (λ (k : ℕ). own_calls p (take k ls)) (add-one i) ∙ (own_take p ls i l at
    ∙ ap (λ (b : Bool). own_calls p (take i ls) ++ cond b (l.call ∷ []) []) (eq-eqb l.pass p e))

own_else : (p : ℕ) (ls : List CallLine) (i : ℕ) (l : CallLine) → slice_get ls i ≡ Some l → l.pass ≢ p
    → own_calls p (take (i + 1) ls) ≡ own_calls p (take i ls)
own_else p ls i l at e = ap (λ (k : ℕ). own_calls p (take k ls)) (add-one i) ∙ (own_take p ls i l at
    ∙ (ap (λ (b : Bool). own_calls p (take i ls) ++ cond b (l.call ∷ []) []) (ne_eqb l.pass p e)
    ∙ append-nil (own_calls p (take i ls))))

-- before a line of its own, the calls are fewer than all
own_below : (p : ℕ) (ls : List CallLine) (i : ℕ) (l : CallLine) → slice_get ls i ≡ Some l → l.pass ≡ p
    → length (own_calls p (take i ls)) < length (own_calls p ls)
own_below p [] i l e own = absurd (none-some l e)
own_below p (x ∷ xs) zero l e own =
    let here : x.pass ≡ p = ap (λ (z : CallLine). z.pass) (same_Some x l e) ∙ own in
    let all : length (own_calls p (x ∷ xs)) ≡ suc (length (own_calls p xs)) = ap (λ (b : Bool). length (cond b
    (x.call ∷ own_calls p xs) (own_calls p xs))) (eq-eqb x.pass p here) in
    omega (arith, all)
own_below p (x ∷ xs) (suc i) l e own = elim (eqb x.pass p)
    as (λ (b : Bool). length (cond b (x.call ∷ own_calls p (take i xs)) (own_calls p (take i xs)))
    < length (cond b (x.call ∷ own_calls p xs) (own_calls p xs))) [
      | true ↦ let h = own_below p xs i l e own in omega (arith, h)
      | false ↦ own_below p xs i l e own
    ]

pub count_own : (p : ℕ) (ls : List CallLine) → count_by (λ (l : CallLine). l.pass == p) ls ≡ length (own_calls p ls)
count_own p ls = sym (length-filter (λ (l : CallLine). l.pass == p) ls) ∙ filtered ls
  where
    filtered : (ls : List CallLine) → length (filter (λ (l : CallLine). l.pass == p) ls) ≡ length (own_calls p ls)
    filtered [] = refl
    filtered (x ∷ xs) = elim (x.pass == p) as (λ (b : Bool). length (cond b
        (x ∷ filter (λ (l : CallLine). l.pass == p) xs) (filter (λ (l : CallLine). l.pass == p) xs))
        ≡ length (cond b (x.call ∷ own_calls p xs) (own_calls p xs))) [
          | true ↦ ap suc (filtered xs)
          | false ↦ filtered xs
        ]

calls_length : (terms : RunTerms) (tag : Option ℕ) (p : ℕ) (orders : List Order) (v w : PassPart) (cs : List Call)
    (ms : List Made) → CallsMade terms tag p orders v cs ms w → length ms ≡ length cs
calls_length terms tag p orders v w [] [] h = refl
calls_length terms tag p orders v w [] (m ∷ ms) h = absurd h
calls_length terms tag p orders v w (c ∷ cs) [] h = absurd h
calls_length terms tag p orders v w (c ∷ cs) (m ∷ ms) h = ap suc (calls_length terms tag p orders h.0 w cs ms h.2)

-- what was heard stays heard
calls_kept : (terms : RunTerms) (tag : Option ℕ) (p : ℕ) (orders more : List Order) (v w : PassPart) (cs : List Call)
    (ms : List Made) → KeepsOrders orders more → CallsMade terms tag p orders v cs ms w
    → CallsMade terms tag p more v cs ms w
calls_kept terms tag p orders more v w [] [] keeps h = h
calls_kept terms tag p orders more v w [] (m ∷ ms) keeps h = absurd h
calls_kept terms tag p orders more v w (c ∷ cs) [] keeps h = absurd h
calls_kept terms tag p orders more v w (c ∷ cs) (m ∷ ms) keeps h = (
  h.0,
  record {
    begins = h.1.begins;
    heeds = h.1.heeds;
    heard = bound_kept orders more p (length v.log) m.bound keeps h.1.heard;
    does = h.1.does;
    counts = h.1.counts;
  },
  calls_kept terms tag p orders more h.0 w cs ms keeps h.2,
)

calls_next : (terms : RunTerms) (tag : Option ℕ) (p : ℕ) (orders : List Order) (v u w : PassPart) (cs : List Call)
    (ms : List Made) (c : Call) (m : Made) → CallsMade terms tag p orders v cs ms u
    → CallMade terms tag p orders u c m w → CallsMade terms tag p orders v (cs ++ c ∷ []) (ms ++ m ∷ []) w
calls_next terms tag p orders v u w [] [] c m h d =
    let P : PassPart → Type 0 = λ z. CallMade terms tag p orders z c m w in
    (w, subst P h d, refl)
calls_next terms tag p orders v u w [] (x ∷ xs) c m h d = absurd h
calls_next terms tag p orders v u w (k ∷ ks) [] c m h d = absurd h
calls_next terms tag p orders v u w (k ∷ ks) (x ∷ xs) c m h d =
    (h.0, h.1, calls_next terms tag p orders h.0 u w ks xs c m h.2 d)

module _ (heap : Option Heap) (terms : RunTerms) (tag : Option ℕ) (lines : List CallLine) (n i : ℕ)
    (side : SeenPass) (ms : List Made) (h : IsWork heap terms tag (take i lines) n (new_part heap n) side ms)
    (l : CallLine) (at : slice_get lines i ≡ Some l) where
  -- there is room for the answer to a line of its own
  pub work_room : l.pass ≡ n → length ms < length (own_calls n lines)
  work_room own =
      let below = own_below n lines i l at own in
      let made = calls_length terms tag n side.orders (new_part heap n) side.part (own_calls n (take i lines)) ms
      h.calls in
      omega (arith, below, made)

  -- a line of its own, whose call was made, once what is known of its name was heard
  pub work_then : (mid after : SeenPass) (m : Made) → l.pass ≡ n → MayHearName m.bound side mid
      → SamePass mid after
      → CallAnswers mid.terms tag mid.pass mid.part l.call (bound_number m.bound) m.answer after.part
      → m.entries ≡ length after.part.log
      → IsWork heap terms tag (take (i + 1) lines) n (new_part heap n) after (ms ++ m ∷ [])
  work_then mid after m own hears same does counts =
      let P : SeenPass → Type 0 = λ z. CallAnswers z.terms tag z.pass z.part l.call (bound_number m.bound) m.answer
      after.part in
      let mid_is : mid ≡ record (new_pass heap terms n) { part = mid.part; orders = mid.orders } =
      name_only m.bound side mid hears
      ∙ ap (λ (z : SeenPass). record z { part = mid.part; orders = mid.orders }) h.is in
      let orders : after.orders ≡ mid.orders = ap (λ (z : SeenPass). z.orders) same in
      let pass : side.pass ≡ n = ap (λ (z : SeenPass). z.pass) h.is in
      let H : List Order × ℕ → Type 0 = λ z. HeardOfBound z.0 z.1 (length side.part.log) m.bound in
      let heard : HeardOfBound after.orders n (length side.part.log) m.bound = subst H
      (λ j. (sym orders j, pass j)) (name_heard m.bound side mid hears) in
      let keeps : KeepsOrders side.orders after.orders = subst (λ (os : List Order). KeepsOrders side.orders os)
      (sym orders) (name_keeps m.bound side mid hears) in
      let made : CallMade terms tag n after.orders side.part l.call m after.part = record {
        begins = mid.part;
        heeds = name_heeds m.bound side mid hears;
        heard = heard;
        does = subst P mid_is does;
        counts = counts;
      } in
      let Q : List Call → Type 0 = λ cs. CallsMade terms tag n after.orders (new_part heap n) cs (ms ++ m ∷ [])
      after.part in
      record {
        is = same ∙ (ap (λ (z : SeenPass). record z { part = after.part }) mid_is
            ∙ ap (λ (z : SeenPass). record (new_pass heap terms n) { part = after.part; orders = z.orders })
            (sym same));
        calls = subst Q (sym (own_then n lines i l at own)) (calls_next terms tag n after.orders (new_part heap n)
            side.part after.part (own_calls n (take i lines)) ms l.call m (calls_kept terms tag n side.orders
            after.orders (new_part heap n) side.part (own_calls n (take i lines)) ms keeps h.calls) made);
      }

  -- a line of another pass
  pub work_else : l.pass ≢ n → IsWork heap terms tag (take (i + 1) lines) n (new_part heap n) side ms
  work_else other =
      let Q : List Call → Type 0 = λ cs. CallsMade terms tag n side.orders (new_part heap n) cs ms side.part in
      record { is = h.is; calls = subst Q (sym (own_else n lines i l at other)) h.calls }

  -- the pass is of the heap, and has the terms of the run
  pub work_heap : side.heap ≡ heap
  work_heap = ap (λ (z : SeenPass). z.heap) h.is

  -- how many entries it has then
  pub work_counts : (mid after : SeenPass) (bound : Option Bound) (a : Answer) → MayHearName bound side mid
      → CallAnswers mid.terms tag mid.pass mid.part l.call (bound_number bound) a after.part
      → length after.part.log ≡ length side.part.log + cond (adds_entry l.call a) 1 0
  work_counts mid after bound a hears does =
      grows mid.terms tag mid.pass mid.part l.call (bound_number bound) a after.part does
      ∙ ap (λ (log : List LogEntry). length log + cond (adds_entry l.call a) 1 0)
      (may_log side.part mid.part (name_heeds bound side mid hears))

  -- its receipt then covers them
  pub work_covers : (mid after : SeenPass) (bound : Option Bound) (entries : ℕ) → MayHearName bound side mid
      → SamePass mid after → entries ≡ length after.part.log
      → (after.heap ≡ heap) × Covers (receipt_seen after).heard n entries
  work_covers mid after bound entries hears same counts =
      let mid_is : mid ≡ record (new_pass heap terms n) { part = mid.part; orders = mid.orders } =
      name_only bound side mid hears
      ∙ ap (λ (z : SeenPass). record z { part = mid.part; orders = mid.orders }) h.is in
      let pass : after.pass ≡ n = ap (λ (z : SeenPass). z.pass) same ∙ ap (λ (z : SeenPass). z.pass) mid_is in
      let C : ℕ × ℕ → Type 0 = λ z. Covers (receipt_seen after).heard z.0 z.1 in (
        ap (λ (z : SeenPass). z.heap) same ∙ ap (λ (z : SeenPass). z.heap) mid_is,
        subst C (λ j. (pass j, sym counts j)) (covers_own after),
      )

  -- a pass that is as it was
  pub work_same : (after : SeenPass) → after ≡ side → IsWork heap terms tag (take i lines) n (new_part heap n) after ms
  work_same after e = subst (λ (z : SeenPass). IsWork heap terms tag (take i lines) n (new_part heap n) z ms) (sym e) h
