-- A script without lines: no pass does a step, so no page has a class.
use Rattle.std.proofs.Common.{◌≡◌, ◌≢◌, ℕ, ◌+◌, ◌<◌, Bool, true, false, List, [], ◌∷◌, ◌++◌, refl, ap}
use Rattle.std.proofs.Common.{◌∙◌, subst, arith, Option, Some, None}
use Rattle.std.specs.List.{flat_map, range_with_len}
use mathlib.Core.Logic.{dite}
use native.Mathlib.Decide.{ℕ_discrete}
use Rattle.sh_key.specs.Layout.{Layout, IsLayout}
use Rattle.sh_shape.specs.Shape.{Numbers, IsShape, Fits}
use Rattle.sh_shape.specs.Places.{page_number, pages_of}
use Rattle.sh_core.specs.declared.accounts.Accounts.{Accounts}
use Rattle.sh_step.specs.declared.action.Event.{Event}
use Rattle.sh_core.specs.Lists.{PutLists, accounts, class_named, lists_of}
use Rattle.sh_step.specs.Plans.{Plan, plan_of}
use Rattle.sh_core.specs.Trails.{trail_of}
use Rattle.sh_core.specs.Worlds.{World, run}
use Rattle.sh_core.proofs.Clauses.RunTheorem.{theorem}
use Rattle.script_output.specs.declared.answer.Answer.{Answer}
use Rattle.script_output.specs.AccountLines.{account_line, page_text, shard_text, accounts_text, accounts_after}
use Rattle.script_output.specs.Replies.{replies_text}
use Rattle.script_calls.specs.Parts.{RunTerms, heap_terms, new_part}
use Rattle.script_calls.specs.Runs.{CallsRun, LinesAnswered, opening_calls}
use Rattle.script_heap.specs.HeapOutput.{EndsInRun, AccountsAsked}
use Rattle.script_heap.specs.OwnSteps.{NoLinesWriteNothing}
use Rattle.script_heap.proofs.ClassSteps.{class_steps, classed_by}
use Rattle.script_heap.proofs.LoneAdopt.{new_caller, trail_is}

-- ---- a text of nothing

none_at_all : (f : ℕ → List ℕ) → ((n : ℕ) → f n ≡ []) → (ns : List ℕ) → flat_map f ns ≡ []
none_at_all f none [] = refl
none_at_all f none (n ∷ ns) = ap (λ (xs : List ℕ). xs ++ flat_map f ns) (none n) ∙ none_at_all f none ns

no_line : (shard page : ℕ) (a : Accounts) → a.class ≡ None → page_text shard page a ≡ []
no_line shard page a none = ap (λ (o : Option ℕ). elim o as (λ _. List ℕ)
    [ Some class ↦ account_line shard page class a | None ↦ [] ]) none

no_class : (w : World) (l : PutLists) (q : ℕ) → w.words.class_at q ≡ 0 → (accounts w l q).class ≡ None
unfolding accounts
no_class w l q none = ap class_named none

no_lines : (shape : Numbers) (of_page : ℕ → Accounts) → ((q : ℕ) → (of_page q).class ≡ None)
    → accounts_text shape of_page ≡ []
no_lines shape of_page none = none_at_all (shard_text shape of_page)
    (λ shard. none_at_all (λ page. page_text shard page (of_page (page_number shape shard page)))
    (λ page. no_line shard page (of_page (page_number shape shard page)) (none (page_number shape shard page)))
    (range_with_len 0 (pages_of shape))) (range_with_len 0 shape.shards)

-- ---- no steps

module _ (layout : Layout) (shape : Numbers) (la : IsLayout layout) (ls : IsShape shape) (lf : Fits layout shape)
    (events : List Event)
    (none : (p : ℕ) → p < shape.passes → trail_of (plan_of layout shape) events p ≡ []) where
  abbrev still_plan : Plan
  still_plan = plan_of layout shape

  all_blank : (q : ℕ) → (run still_plan events).words.class_at q ≡ 0
  all_blank q = dite (ℕ_discrete ((run still_plan events).words.class_at q) 0)
      (λ (blank : (run still_plan events).words.class_at q ≡ 0). blank)
      (λ (classed : (run still_plan events).words.class_at q ≢ 0).
      let by = classed_by still_plan (λ es. (theorem layout shape la ls lf es).passes) events q classed in
      let few : class_steps q (trail_of still_plan events by.0) ≡ 0 = ap (class_steps q) (none by.0 by.1) in
      let two = by.2 in
      absurd (omega (arith, few, two)))

  no_account_lines : accounts_text shape (accounts_after still_plan events) ≡ []
  no_account_lines = no_lines shape (accounts_after still_plan events)
      (λ q. no_class (run still_plan events) (lists_of still_plan events) q (all_blank q))

-- ---- the run

nothing_asked : (asked : Bool) (layout : Layout) (shape : Numbers) (la : IsLayout layout) (ls : IsShape shape)
    (lf : Fits layout shape) (events : List Event)
    (none : (p : ℕ) → p < shape.passes → trail_of (plan_of layout shape) events p ≡ []) (history : List _)
    (text : List ℕ) → AccountsAsked asked layout shape events history text → text ≡ []
nothing_asked true layout shape la ls lf events none history text h =
    h.is ∙ no_account_lines layout shape la ls lf events none
nothing_asked false layout shape la ls lf events none history text h = h

no_answers : (terms : RunTerms) (tag : Option ℕ) (before after : CallsRun) (answers : List Answer)
    → LinesAnswered terms tag before [] answers after → (replies_text [] answers ≡ []) × (after ≡ before)
no_answers terms tag before after [] h = (refl, h)
no_answers terms tag before after (a ∷ answers) h = absurd h

pub no_lines_write_nothing : NoLinesWriteNothing
no_lines_write_nothing alone asked layout shape tag output la ls lf h =
    let ran = no_answers (heap_terms layout shape) tag (opening_calls (Some h.heap)) h.told.replies.after
    h.told.replies.answers h.told.replies.ran in
    let still : (p : ℕ) → p < shape.passes → trail_of (plan_of layout shape) h.events p ≡ [] = λ p lt.
    let ends : EndsInRun (plan_of layout shape) h.events p (new_part (Some h.heap) p) =
    subst (λ (r : CallsRun). EndsInRun (plan_of layout shape) h.events p (r.parts p)) ran.1 (h.steps p lt) in
    trail_is layout shape h.events p (new_part (Some h.heap) p) (new_caller h.heap p) refl ends in
    let replies : h.replies ≡ [] = h.told.replies.is ∙ ran.0 in
    let lines : h.accounts ≡ [] = nothing_asked asked layout shape la ls lf h.events still h.told.whole.history
    h.accounts h.are in
    h.is ∙ (ap (λ (xs : List ℕ). xs ++ h.accounts) replies ∙ lines)
