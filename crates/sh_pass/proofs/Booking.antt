-- What the book of a pass gains by each of its calls.
use Rattle.std.proofs.Common.{◌≡◌, ℕ, ◌<◌, ◌==◌, ◌∙◌, ◌∷◌, ◌++◌, [], true, false, List, map, refl, ap, sym, subst, arith}
use Rattle.std.proofs.Common.{eq-eqb, append-nil, inl, inr}
use Rattle.std.specs.Prelude.{Result, Ok, Err}
use Rattle.sh_history.specs.declared.entry.Entry.TheVariants as entry
use Rattle.sh_history.specs.declared.log.LogEntry.{LogEntry}
use Rattle.sh_history.specs.declared.log.LogEntry.TheVariants.{Known, Unread}
use Rattle.sh_history.specs.Log.{filled, logged_holds_by}
use Rattle.sh_key.specs.Layout.{Layout}
use Rattle.sh_plain.specs.Store.{GetLeaves, ReadLeaves, LookLeaves, RemoveLeaves, ReleaseLeaves}
use Rattle.sh_value.specs.declared.hold.Hold.{Hold}
use Rattle.sh_value.specs.declared.refusal.Refusal.{Refusal}
use Rattle.sh_value.specs.declared.refusal.Refusal.TheVariants as refusal
use Rattle.sh_step.specs.Collections.{has}
use Rattle.sh_step.proofs.ListLaws.{has_front}
use Rattle.sh_table.specs.declared.view.View.{View}
use Rattle.sh_table.specs.Tales.{ViewIsValid}
use Rattle.sh_pass.specs.Passes.{Caller, holds, GetDoes, ReadDoes, RemoveDoes, ReleaseDoes}
use Rattle.sh_pass.specs.Fetching.{FetchDoes}
use Rattle.sh_pass.specs.Lookups.{caller_book, caller_setting}
use Rattle.sh_pass.proofs.HeldLaws.{some_times, no_times}

log_same : (v w : Caller) → w ≡ v → w.view.own.log ≡ v.view.own.log
log_same v w e = ap (λ (z : Caller). z.view.own.log) e

-- a key among the holds is held, as the log says too
held_now : (layout : Layout) (v : View) (key : ℕ) → ViewIsValid layout v → has (λ k. k == key) v.own.body.holds ≡ true
    → 0 < logged_holds_by v.own.log v.pass key
held_now layout v key s here = let a = some_times key v.own.body.holds here in let b = s.holds key in omega arith

none_held : (layout : Layout) (v : View) (key : ℕ) → ViewIsValid layout v → has (λ k. k == key) v.own.body.holds ≡ false
    → logged_holds_by v.own.log v.pass key ≡ 0
none_held layout v key s none = let a = no_times key v.own.body.holds none in let b = s.holds key in omega arith

pub get_leaves : (layout : Layout) (key : ℕ) (o n : Caller) (r : Result Hold Refusal)
    → ViewIsValid layout n.view → GetDoes layout key o r n
    → GetLeaves (caller_setting layout o) key (caller_book o) r (caller_book n)
get_leaves layout key o n (Ok hold) s k =
    let adds = k.3 in
    let here : has (λ j. j == key) (holds n) ≡ true = subst (λ xs. has (λ j. j == key) xs ≡ true)
    (sym adds.holds) (has_front (λ j. j == key) key (holds o) (eq-eqb key key refl)) in (
      k.0,
      (Unread o.view.pass key, (refl, refl), adds.log),
      subst
          (λ a. 0 < logged_holds_by (caller_book n) a key) adds.same.pass
          (held_now layout n.view key s here),
    )
get_leaves layout key o n (Err refusal.BadKey) s k = log_same o n k.1
get_leaves layout key o n (Err refusal.Gone) s k = k.2.log
get_leaves layout key o n (Err refusal.Crowded) s k = k.2.log
get_leaves layout key o n (Err refusal.HoldsFull) s k = log_same o n k.2
get_leaves layout key o n (Err _) s k = absurd k

pub read_leaves : (layout : Layout) (key : ℕ) (o n : Caller) (r : Result (List ℕ) Refusal)
    → ViewIsValid layout o.view → ReadDoes key o r n
    → ReadLeaves (caller_setting layout o) key (caller_book o) r (caller_book n)
read_leaves layout key o n (Ok value) s k = (held_now layout o.view key s k.0, k.1.log, k.1.value_is)
read_leaves layout key o n (Err refusal.NotHeld) s k = (none_held layout o.view key s k.0, log_same o n k.1)
read_leaves layout key o n (Err _) s k = absurd k

-- a look that decides nothing leaves the log as it was
pub look_leaves : (layout : Layout) (key : ℕ) (o n : Caller) (r : Result (List ℕ) Refusal) → FetchDoes layout key o r n
    → LookLeaves (caller_setting layout o) key (caller_book o) r (caller_book n)
look_leaves layout key o n (Ok value) (inl look) = inl look.1.log
look_leaves layout key o n (Ok value) (inr (e, look, unheard, get)) =
    let read : ℕ → List LogEntry → List LogEntry = λ p l. map (filled key value) l
    ++ Known (entry.Got p key value) ∷ Known (entry.Released p key) ∷ [] in
    inr (
      get.1.log
          ∙ (ap (read e.view.pass) (look.1.log ∙ append-nil o.view.own.log)
          ∙ ap (λ p. read p o.view.own.log) look.1.same.pass),
      get.1.value_is,
    )
look_leaves layout key o n (Err refusal.BadKey) (inl look) = log_same o n look.1
look_leaves layout key o n (Err refusal.BadKey) (inr (e, look, unheard, get)) =
    log_same e n get.1 ∙ (look.1.log ∙ append-nil o.view.own.log)
look_leaves layout key o n (Err refusal.HoldsFull) (inl look) = absurd look
look_leaves layout key o n (Err refusal.HoldsFull) (inr (e, look, unheard, get)) =
    log_same e n get.2 ∙ (look.1.log ∙ append-nil o.view.own.log)
look_leaves layout key o n (Err refusal.Gone) (inl look) = look.1.log
look_leaves layout key o n (Err refusal.Gone) (inr (e, look, unheard, get)) =
    get.2.log
    ∙ (ap (λ l. l ++ Known (entry.Gone e.view.pass key) ∷ []) (look.1.log ∙ append-nil o.view.own.log)
    ∙ ap (λ p. o.view.own.log ++ Known (entry.Gone p key) ∷ []) look.1.same.pass)
look_leaves layout key o n (Err refusal.Crowded) (inl look) = absurd look
look_leaves layout key o n (Err refusal.Crowded) (inr (e, look, unheard, get)) =
    get.2.log
    ∙ (ap (λ l. l ++ Known (entry.Crowded e.view.pass key) ∷ []) (look.1.log ∙ append-nil o.view.own.log)
    ∙ ap (λ p. o.view.own.log ++ Known (entry.Crowded p key) ∷ []) look.1.same.pass)
look_leaves layout key o n (Err _) (inl look) = absurd look
look_leaves layout key o n (Err _) (inr (e, look, unheard, get)) = absurd get

pub remove_leaves : (layout : Layout) (key : ℕ) (o n : Caller) (r : Result (Unit {0}) Refusal)
    → RemoveDoes layout key o r n
    → RemoveLeaves (caller_setting layout o) key (caller_book o) r (caller_book n)
remove_leaves layout key o n (Ok u) k = k.1.log
remove_leaves layout key o n (Err refusal.BadKey) k = log_same o n k.1
remove_leaves layout key o n (Err refusal.Gone) k = k.1.log
remove_leaves layout key o n (Err _) k = absurd k

pub release_leaves : (layout : Layout) (key : ℕ) (o n : Caller) (r : Result (Unit {0}) Refusal)
    → ViewIsValid layout o.view → ReleaseDoes layout key o r n
    → ReleaseLeaves (caller_setting layout o) key (caller_book o) r (caller_book n)
release_leaves layout key o n (Ok u) s k = (held_now layout o.view key s k.0, k.1.log)
release_leaves layout key o n (Err refusal.NotHeld) s k = (none_held layout o.view key s k.0, log_same o n k.1)
release_leaves layout key o n (Err _) s k = absurd k
