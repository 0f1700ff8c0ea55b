-- What a get of a key returns to a pass that heeded a receipt of the insert.
use Rattle.std.proofs.Common.{ℕ, ◌++◌, ◌∷◌, [], List, Result, Ok, Err, refl, ap, sym, ◌∙◌, subst, arith}
use Rattle.std.specs.List.{Contains}
use Rattle.std.proofs.lemmas.List.Elements.{Contains-append_right}
use Rattle.gearlongan.specs.Receipts.{heeded, TellsOfInsert, GoneIfRemoved, GoneIsRemoved}
use Rattle.sh_key.specs.Layout.{Layout}
use Rattle.sh_value.specs.declared.hold.Hold.{Hold}
use Rattle.sh_value.specs.declared.refusal.Refusal.{Refusal}
use Rattle.sh_value.specs.declared.refusal.Refusal.TheVariants as refusal
use Rattle.sh_history.specs.declared.entry.Entry.TheVariants as entry
use Rattle.sh_history.specs.declared.log.LogEntry.TheVariants.{Known}
use Rattle.sh_table.specs.declared.view.Order.{Order}
use Rattle.sh_pass.specs.Passes.{Caller, GetDoes}
use Rattle.sh_table.specs.Views.{heard_in, order_of}
use Rattle.sh_history.proofs.Standing.{contains_map}

pub gone_if_heard : GoneIsRemoved → (layout : Layout) (key : ℕ) (r v w : Caller) (result : Result Hold Refusal)
    → GetDoes layout key (heeded v r) result w → TellsOfInsert key r → GoneIfRemoved layout key result w
gone_if_heard law layout key r v w (Ok hold) does tells = tt
gone_if_heard law layout key r v w (Err refusal.Gone) does tells = λ history tale.
    let t = tells.1 in
    let it : Order = order_of v.view t.heard in
    let told : Contains (heeded v r).view.orders it = Contains-append_right v.view.orders _ it
    (Contains-append_right r.view.orders _ it (contains_map (order_of v.view) (heard_in r.view) t.heard t.among)) in
    let early = law layout w.view history tale t.heard w.view.pass t.pass key tells.0 t.insert (record {
      order = it;
      stands = subst (λ (os : List Order). Contains os it) (sym does.2.same.orders) told;
      heard = refl;
      carrier = sym does.2.same.pass;
      before = v.view.own.log;
      after = [];
      log = does.2.log ∙ ap (λ (p : ℕ). v.view.own.log ++ Known (entry.Gone p key) ∷ []) (sym does.2.same.pass);
      later = omega arith;
    }) in (early.0, early.1, early.2)
gone_if_heard law layout key r v w (Err _) does tells = tt
