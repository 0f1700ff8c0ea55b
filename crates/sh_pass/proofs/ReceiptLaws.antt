-- What the results of a pass are after it heeded a receipt.
use Rattle.std.proofs.Common.{◌≡◌, ℕ, ◌++◌, ◌∷◌, [], List, refl, ap, sym, ◌∙◌, subst, arith, map, Result, Ok, Err}
use Rattle.std.specs.List.{Contains}
use Rattle.std.proofs.lemmas.List.Elements.{Contains-append_left, Contains-append_right, Contains-push}
use Rattle.sh_history.specs.declared.entry.Entry.TheVariants as entry
use Rattle.sh_history.specs.declared.log.LogEntry.{LogEntry}
use Rattle.sh_history.specs.declared.log.LogEntry.TheVariants.{Known, Unread}
use Rattle.sh_key.specs.Layout.{Layout}
use Rattle.sh_value.specs.declared.hold.Hold.{Hold}
use Rattle.sh_value.specs.declared.refusal.Refusal.{Refusal}
use Rattle.sh_value.specs.declared.refusal.Refusal.TheVariants as refusal
use Rattle.sh_table.specs.declared.view.Heard.{Heard}
use Rattle.sh_table.specs.declared.view.Order.{Order}
use Rattle.sh_table.specs.declared.view.View.{View}
use Rattle.sh_table.specs.Orders.{AnsweredAfter, RemovedIsGone, SaysThere}
use Rattle.sh_table.specs.Tales.{ViewIsValid}
use Rattle.sh_table.specs.Views.{done_by, order_of}
use Rattle.sh_pass.specs.Passes.{Caller, GetDoes, RemoveDoes}
use Rattle.sh_pass.specs.Growing.{SameTale}
use Rattle.sh_pass.specs.Receipts.{receipt_by, heeded, FindsNone}

-- all results and steps of a pass
abbrev pub heard_of : Caller → Heard
heard_of o = done_by o.view.pass o.view.own

pub answered_after : (o c : Caller) (w : View) (x : LogEntry) → w.pass ≡ c.view.pass
    → w.orders ≡ (heeded c (receipt_by o)).view.orders → w.own.log ≡ c.view.own.log ++ x ∷ []
    → AnsweredAfter w (heard_of o) x
answered_after o c w x pass orders log =
    let it : Order = order_of c.view (heard_of o) in
    let rest : List Order = map (order_of c.view) (map (λ t. done_by t.pass t.own) o.view.told
    ++ map (λ o. o.heard) o.view.orders) in
    record {
      order = it;
      stands = subst (λ (os : List Order). Contains os it) (sym orders) (Contains-append_right c.view.orders _ it
          (Contains-append_right o.view.orders _ it (Contains-append_left (it ∷ []) rest it (Contains-push [] it))));
      heard = refl;
      carrier = sym pass;
      before = c.view.own.log;
      after = [];
      log = log;
      later = omega arith;
    }

-- it heard of the removal, so the get does not find the key
pub finds_none : (layout : Layout) (key : ℕ) (o0 o1 c0 c1 w : Caller) → RemovedIsGone
    → RemoveDoes layout key o0 (Ok tt) o1 → c1 ≡ heeded c0 (receipt_by o1) → ViewIsValid layout w.view
    → (r : Result Hold Refusal) → GetDoes layout key c1 r w → FindsNone r
finds_none layout key o0 o1 c0 c1 w law removed heeds stands r does = go r does where
  told : (x : LogEntry) → SameTale c1.view w.view → w.view.own.log ≡ c1.view.own.log ++ x ∷ [] → ¬ SaysThere key x
  told x same log =
      let h : AnsweredAfter w.view (heard_of o1) x = answered_after o1 c0 w.view x
      (same.pass ∙ ap (λ (c : Caller). c.view.pass) heeds) (same.orders ∙ ap (λ (c : Caller). c.view.orders) heeds)
      (log ∙ ap (λ (c : Caller). c.view.own.log ++ x ∷ []) heeds) in
      law layout w.view stands.history stands.tale (heard_of o1) o0.view.pass key
      (subst (λ (l : List LogEntry). Contains l (Known (entry.Removed o0.view.pass key))) (sym removed.1.log)
      (Contains-push o0.view.own.log (Known (entry.Removed o0.view.pass key)))) x h

  go : (r : Result Hold Refusal) → GetDoes layout key c1 r w → FindsNone r
  go (Ok hold) d = told (Unread c1.view.pass key) d.3.same d.3.log refl
  go (Err refusal.Crowded) d = told (Known (entry.Crowded c1.view.pass key)) d.2.same d.2.log refl
  go (Err refusal.Gone) d = tt
  go (Err refusal.BadKey) d = tt
  go (Err refusal.HoldsFull) d = tt
  go (Err _) d = tt
