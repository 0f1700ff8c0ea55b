-- What the results of a reader are after it heeded a receipt of an insert.
use Rattle.std.proofs.Common.{◌≡◌, ℕ, ◌++◌, ◌∷◌, [], List, refl, ap, sym, ◌∙◌, subst, arith, map, Result, Ok, Err}
use Rattle.std.proofs.Common.{inl, inr}
use Rattle.std.proofs.lemmas.List.{append-nil}
use Rattle.std.specs.Prelude.{IfOk}
use Rattle.std.specs.List.{Contains}
use Rattle.std.proofs.lemmas.List.Elements.{Contains-append_left, Contains-append_right, Contains-push}
use Rattle.sh_history.proofs.Standing.{contains_map}
use Rattle.sh_history.specs.declared.entry.Entry.TheVariants as entry
use Rattle.sh_history.specs.declared.log.LogEntry.{LogEntry}
use Rattle.sh_history.specs.declared.log.LogEntry.TheVariants.{Known}
use Rattle.sh_history.specs.Log.{filled}
use Rattle.sh_key.specs.Layout.{Layout}
use Rattle.sh_value.specs.declared.refusal.Refusal.{Refusal}
use Rattle.sh_value.specs.declared.refusal.Refusal.TheVariants as refusal
use Rattle.sh_table.specs.declared.view.Heard.{Heard}
use Rattle.sh_table.specs.declared.view.Order.{Order}
use Rattle.sh_table.specs.Orders.{AnsweredAfter, GoneIsRemoved, GotIsInserted, SeenIsInserted}
use Rattle.sh_table.specs.Tales.{ViewIsValid}
use Rattle.sh_table.specs.declared.view.Told.{Told}
use Rattle.sh_table.specs.declared.view.View.{View}
use Rattle.sh_table.specs.Views.{HeardOfInsert, done_by, order_of, heard_in}
use Rattle.sh_pass.specs.Growing.{SameTale}
use Rattle.sh_pass.specs.Passes.{Caller}
use Rattle.sh_pass.specs.Receipts.{receipt_by, heeded}
use Rattle.sh_pass.specs.Fetching.{FetchDoes, LookDoes}
use Rattle.sh_member.specs.ToldKeys.{CoversInsert, TellsOfInsert, IsAsInserted, GoneIfRemoved, GoneAfterRemoval}
use Rattle.sh_pass.proofs.SameTales.{later_same}

-- a receipt of a pass whose last result is the key of an insert
pub tells_own : (key : ℕ) (value : List ℕ) (v w : Caller) → w.view.own.log
    ≡ v.view.own.log ++ Known (entry.Insert v.view.pass key value) ∷ [] → CoversInsert key value (receipt_by w)
tells_own key value v w log =
    let own : Heard = done_by w.view.pass w.view.own in
    let it : LogEntry = Known (entry.Insert v.view.pass key value) in
    record {
      heard = own;
      among = Contains-append_left (own ∷ []) _ own (Contains-push [] own);
      pass = v.view.pass;
      insert = subst (λ (l : List LogEntry). Contains l it) (sym log) (Contains-push v.view.own.log it);
    }

-- heeding a receipt orders all that it covers
order_added : (r v : Caller) (h : Heard) → Contains (heard_in r.view) h
    → Contains (heeded v r).view.orders (order_of v.view h)
order_added r v h among =
    let it : Order = order_of v.view h in
    Contains-append_right v.view.orders _ it (Contains-append_right r.view.orders _ it
    (contains_map (order_of v.view) (heard_in r.view) h among))

-- so the insert that the receipt tells of is heard of
heard_of : (key : ℕ) (r v : Caller) → TellsOfInsert key r → HeardOfInsert (heeded v r).view key
heard_of key r v tells =
    let t = tells.1 in
    let w : View = (heeded v r).view in (
      t.heard,
      t.pass,
      tells.0,
      Contains-append_right (done_by w.pass w.own ∷ []) _ t.heard
          (Contains-append_right (map (λ (s : Told). done_by s.pass s.own) w.told) _ t.heard
          (contains_map (λ (o : Order). o.heard) w.orders (order_of v.view t.heard) (order_added r v t.heard t.among))),
      t.insert,
    )

-- and a look at the key decides
pub look_decides : (layout : Layout) (key : ℕ) (r v w : Caller) (result : Result (List ℕ) Refusal)
    → FetchDoes layout key (heeded v r) result w → TellsOfInsert key r → LookDoes layout key (heeded v r) result w
look_decides layout key r v w result (inl look) tells = look
look_decides layout key r v w result (inr (early, look, unheard, get)) tells =
    absurd (unheard (heard_of key r v tells))

answered_after : (key : ℕ) (r v w : Caller) (h : Heard) → Contains (heard_in r.view) h
    → SameTale (heeded v r).view w.view → w.view.own.log ≡ v.view.own.log ++ Known (entry.Gone v.view.pass key) ∷ []
    → AnsweredAfter w.view h (Known (entry.Gone w.view.pass key))
answered_after key r v w h among same log = record {
  order = order_of v.view h;
  stands = subst (λ (os : List Order). Contains os (order_of v.view h)) (sym same.orders) (order_added r v h among);
  heard = refl;
  carrier = sym same.pass;
  before = v.view.own.log;
  after = [];
  log = log ∙ ap (λ (p : ℕ). v.view.own.log ++ Known (entry.Gone p key) ∷ []) (sym same.pass);
  later = omega arith;
}

gone_after : GoneIsRemoved → (layout : Layout) (key : ℕ) (r v w : Caller) → TellsOfInsert key r
    → SameTale (heeded v r).view w.view → w.view.own.log ≡ v.view.own.log ++ Known (entry.Gone v.view.pass key) ∷ []
    → GoneAfterRemoval layout key w
gone_after law layout key r v w tells same log = λ history tale.
    let t = tells.1 in
    let z = law layout w.view history tale t.heard w.view.pass t.pass key tells.0 t.insert
    (answered_after key r v w t.heard t.among same log) in (z.0, z.1, z.2)

pub gone_if_removed : GoneIsRemoved → (layout : Layout) (key : ℕ) (r v w : Caller) (result : Result (List ℕ) Refusal)
    → FetchDoes layout key (heeded v r) result w → TellsOfInsert key r → GoneIfRemoved layout key result w
gone_if_removed law layout key r v w (Ok value) does tells = tt
gone_if_removed law layout key r v w (Err refusal.Gone) (inl look) tells =
    gone_after law layout key r v w tells look.1.same look.1.log
gone_if_removed law layout key r v w (Err refusal.Gone) (inr (early, look, unheard, get)) tells =
    gone_after law layout key r v w tells (later_same look.1.same get.2.same) (get.2.log
    ∙ (ap (λ (l : List LogEntry). l ++ Known (entry.Gone early.view.pass key) ∷ [])
    (look.1.log ∙ append-nil v.view.own.log)
    ∙ ap (λ (p : ℕ). v.view.own.log ++ Known (entry.Gone p key) ∷ []) look.1.same.pass))
gone_if_removed law layout key r v w (Err _) does tells = tt

-- the value that was fetched is the inserted one
pub fetched_as_inserted : GotIsInserted → SeenIsInserted → (layout : Layout) (key : ℕ) (r v w : Caller)
    (result : Result (List ℕ) Refusal) → FetchDoes layout key (heeded v r) result w → ViewIsValid layout w.view
    → IfOk result (λ value. IsAsInserted key value r)
fetched_as_inserted got_law seen_law layout key r v w (Err why) does stands = tt
fetched_as_inserted got_law seen_law layout key r v w (Ok value) (inl look) stands = λ inserted covers.
    let it : Order = order_of v.view covers.heard in
    let seen : LogEntry = Known (entry.Seen v.view.pass key value) in
    seen_law layout w.view stands.history stands.tale it
    (subst (λ (os : List Order). Contains os it) (sym look.1.same.orders) (order_added r v covers.heard covers.among))
    v.view.pass covers.pass key inserted value covers.insert
    (subst (λ (l : List LogEntry). Contains l seen) (sym look.1.log) (Contains-push v.view.own.log seen))
fetched_as_inserted got_law seen_law layout key r v w (Ok value) (inr (early, look, unheard, get)) stands =
    λ inserted covers.
    let it : Order = order_of v.view covers.heard in
    let got : LogEntry = Known (entry.Got early.view.pass key value) in
    let released : LogEntry = Known (entry.Released early.view.pass key) in
    got_law layout w.view stands.history stands.tale it
    (subst (λ (os : List Order). Contains os it) (sym (get.1.same.orders ∙ look.1.same.orders))
    (order_added r v covers.heard covers.among)) early.view.pass covers.pass key inserted value covers.insert
    (subst (λ (l : List LogEntry). Contains l got) (sym get.1.log)
    (Contains-append_right (map (filled key value) early.view.own.log) (got ∷ released ∷ []) got
    (Contains-append_left (got ∷ []) (released ∷ []) got (Contains-push [] got))))
