-- If passes had heard of what was done before names were bound, names come first.
use Rattle.std.proofs.Common.{◌≡◌, ℕ, zero, suc, ◌≤◌, List, [], ◌∷◌, ◌+◌, length, take, map, slice_get, Option}
use Rattle.std.proofs.Common.{Some, sym, ap, ◌∙◌, subst, arith, refl, length-append}
use Rattle.std.specs.List.{Contains}
use Rattle.std.proofs.lemmas.Option.{none-some, same_Some}
use Rattle.sh_history.specs.declared.entry.Entry.{Entry}
use Rattle.sh_history.specs.Log.{Agrees}
use Rattle.sh_table.specs.declared.view.Heard.{Heard}
use Rattle.sh_table.specs.declared.view.Order.{Order}
use Rattle.sh_table.specs.Seats.{Heap}
use Rattle.sh_table.specs.Tales.{by, Before, HasFirst}
use Rattle.sh_table.proofs.Zips.{zip_length}
use Rattle.sh_table.proofs.OrderLaws.{each_in}
use Rattle.sh_script.specs.declared.calls.CallLine.{CallLine}
use Rattle.script_output.specs.declared.answer.Answer.{Answer}
use Rattle.script_calls.specs.Parts.{RunTerms, SeenPass, PassPart, HasAllLogs, HasLogOf}
use Rattle.script_calls.specs.Told.{part_told}
use Rattle.script_calls.specs.InOrder.{Precedes, entries_added}
use Rattle.script_calls.specs.Meeting.{KeepsOrders, orders_of}
use Rattle.script_calls.specs.Named.{NamesComeFirst, NamesWereHeard}
use Rattle.script_calls.specs.Alone.{AnsweredSoFar}
use Rattle.script_calls.specs.Finished.{IsNamedBy}
use Rattle.script_calls.proofs.ListLemmas.{take_past}

-- ---- points of the history

pub none_before : (history : List Entry) (p done a first : ℕ) → done ≡ 0 → Precedes history p done a first
none_before history p done a first none = record {
  early = [];
  late = history;
  is = refl;
  heard = omega (arith, none);
  own = omega arith;
}

pub order_before : (history : List Entry) (p done a first : ℕ) (o : Order) → Before history o → o.heard.pass ≡ p
    → done ≤ length o.heard.log → o.carrier ≡ a → o.length ≡ first → Precedes history p done a first
order_before history p done a first o b pass few who long =
    let h : Heard = o.heard in
    let f : HasFirst b.0 h = b.4 in
    let same : length h.log ≡ length f.0 = zip_length Agrees h.log f.0 f.3 in
    let all : length (by p b.0) ≡ length f.0 + length f.1 = ap (λ (q : ℕ). length (by q b.0)) (sym pass)
    ∙ (ap (λ (l : List Entry). length l) f.2 ∙ length-append f.0 f.1) in
    let mine : length (by a b.0) ≡ first = ap (λ (q : ℕ). length (by q b.0)) (sym who) ∙ (b.3 ∙ long) in
    record {
      early = b.0;
      late = b.1;
      is = b.2;
      heard = omega (arith, same, all, few);
      own = omega (arith, mine);
    }

names_first : (lines : List CallLine) (answers : List Answer) (orders : List Order) (history : List Entry)
    → NamesWereHeard lines answers orders → ((o : Order) → Contains orders o → Before history o)
    → NamesComeFirst lines answers history
names_first lines answers orders history heard keeps j i binder l less at needs =
    go (entries_added binder.pass (take (suc j) lines) answers) refl
  where
    go : (n : ℕ) → entries_added binder.pass (take (suc j) lines) answers ≡ n
        → Precedes history binder.pass (entries_added binder.pass (take (suc j) lines) answers) l.pass
        (entries_added l.pass (take i lines) answers)
    go zero is = none_before history binder.pass (entries_added binder.pass (take (suc j) lines) answers) l.pass
        (entries_added l.pass (take i lines) answers) is
    go (suc n) is =
        let x = heard j i binder l less at needs (omega (arith, is)) in
        let o : Order = record {
          heard = x.0;
          carrier = l.pass;
          length = entries_added l.pass (take i lines) answers;
          steps = x.1;
        } in
        order_before history binder.pass (entries_added binder.pass (take (suc j) lines) answers) l.pass
        (entries_added l.pass (take i lines) answers) o (keeps o x.2) x.3 x.4 refl refl

-- ---- the carrier of what all heard of

pub log_at : (history : List Entry) (parts : ℕ → PassPart) (ns : List ℕ) → HasAllLogs history (map (part_told parts) ns)
    → (k p : ℕ) → slice_get ns k ≡ Some p → HasLogOf history (part_told parts p)
log_at history parts [] h k p e = absurd (none-some p e)
log_at history parts (n ∷ ns) h zero p e = subst (λ (q : ℕ). HasLogOf history (part_told parts q)) (same_Some n p e) h.0
log_at history parts (n ∷ ns) h (suc k) p e = log_at history parts ns h.1 k p e

pub named_by : (heap : Option Heap) (terms : RunTerms) (tag : Option ℕ) (lines : List CallLine) (i : ℕ)
    (numbers : List (Option ℕ)) (sides : List SeenPass) (output : List ℕ)
    (was : AnsweredSoFar heap terms tag lines i numbers sides output) → length lines ≤ i → (c : SeenPass)
    → KeepsOrders (orders_of sides) c.orders → IsNamedBy terms lines was.answers c
named_by heap terms tag lines i numbers sides output was past c keeps history has only each =
    names_first lines was.answers (orders_of sides) history
    (subst (λ (ls : List CallLine). NamesWereHeard ls was.answers (orders_of sides)) (take_past lines i past) was.heard)
    (λ o there. each_in (Before history) c.orders o (keeps o there) each)
