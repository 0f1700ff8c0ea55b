-- In a run in one thread a get is Crowded only if its key has as many holds as the layout allows.
use Rattle.std.proofs.Common.{◌≡◌, ℕ, ◌+◌, ◌<◌, ◌==◌, Bool, true, cond, List, [], ◌∷◌, ◌++◌, length, map}
use Rattle.std.proofs.Common.{refl, ap, sym, ◌∙◌, subst, arith, append-nil, append_assoc, eq-eqb, Option, Some}
use Rattle.std.specs.List.{All, AllZip}
use Rattle.std.proofs.lemmas.List.{length-append}
use Rattle.std.proofs.lemmas.List.Elements.{All-head, All-tail}
use Rattle.sh_key.specs.Layout.{Layout, IsLayout}
use Rattle.sh_shape.specs.Shape.{Numbers, IsShape, Fits}
use Rattle.sh_step.specs.declared.action.Event.{Event}
use Rattle.sh_step.specs.declared.footstep.Footstep.{Footstep}
use Rattle.sh_step.specs.Plans.{Plan, plan_of}
use Rattle.sh_core.specs.Trails.{trail_of, log_of}
use Rattle.sh_core.specs.Worlds.{run}
use Rattle.sh_core.proofs.Clauses.RunTheorem.{theorem}
use Rattle.sh_core.proofs.Entries.{entries, log_goes_on}
use Rattle.sh_history.specs.declared.entry.Entry.{Entry}
use Rattle.sh_history.specs.Log.{Agrees, entries_of, pass_of}
use Rattle.sh_history.specs.declared.log.LogEntry.{LogEntry}
use Rattle.sh_table.proofs.Zips.{by_append}
use Rattle.sh_script.specs.declared.calls.CallLine.{CallLine}
use Rattle.script_output.specs.declared.answer.Answer.{Answer}
use Rattle.script_calls.specs.OwnParts.{own_part}
use Rattle.script_calls.specs.Parts.{RunTerms, PassPart, HasAllLogs, heap_terms, passes_below}
use Rattle.script_calls.specs.Runs.{CallsRun, LineAnswered, opening_calls}
use Rattle.script_calls.specs.Told.{part_told}
use Rattle.script_calls.proofs.ListLemmas.{up_get}
use Rattle.script_calls.proofs.NameLaws.{log_at}
use Rattle.script_heap.specs.ByLine.{HaveParts, RunsByLine}
use Rattle.script_heap.specs.Crowding.{CrowdedIsExact, LinesCrowdExactly}
use Rattle.script_heap.specs.HeapOutput.{IsHeapOutput}
use Rattle.script_heap.proofs.CrowdedKeys.{stays_exact, opens_exact}
use Rattle.script_heap.proofs.OwnerLaws.{first_parts, next_there, was_quiet}

-- a log that agrees with entries has as many
agree_long : (log : List LogEntry) (es : List Entry) → AllZip Agrees log es → length log ≡ length es
agree_long [] [] h = refl
agree_long [] (e ∷ es) h = absurd h
agree_long (t ∷ log) [] h = absurd h
agree_long (t ∷ log) (e ∷ es) h = let rest = agree_long log es h.1 in omega (arith, rest)

-- a pass of an entry has one there
not_none : (e : Entry) (es : List Entry) → length (entries (pass_of e) (e ∷ es)) ≡ 0 → ⊥
not_none e es none =
    let here : entries (pass_of e) (e ∷ es) ≡ e ∷ entries (pass_of e) es =
    ap (λ (b : Bool). cond b (e ∷ entries (pass_of e) es) (entries (pass_of e) es))
    (eq-eqb (pass_of e) (pass_of e) refl) in
    let long : length (entries (pass_of e) (e ∷ es)) ≡ length (e ∷ entries (pass_of e) es) =
    ap (λ (l : List Entry). length l) here in
    omega (arith, none, long)

-- if no pass of the heap has an entry, there is none
no_more : (passes : ℕ) (new : List Entry) → All (λ (e : Entry). pass_of e < passes) new
    → ((b : ℕ) → b < passes → length (entries b new) ≡ 0) → new ≡ []
no_more passes [] ours none = refl
no_more passes (e ∷ es) ours none = absurd (not_none e es
    (none (pass_of e) (All-head (λ (x : Entry). pass_of x < passes) e es ours)))

all_after : {A : Type 0} (P : A → Type 0) (xs ys : List A) → All P (xs ++ ys) → All P ys
all_after P [] ys h = h
all_after P (x ∷ xs) ys h = all_after P xs ys (All-tail P x (xs ++ ys) h)

module _ (layout : Layout) (shape : Numbers) (la : IsLayout layout) (ls : IsShape shape) (lf : Fits layout shape) where
  abbrev crowd_plan : Plan
  crowd_plan = plan_of layout shape

  abbrev crowd_terms : RunTerms
  crowd_terms = heap_terms layout shape

  abbrev Exactly : List Event → Type 0
  Exactly es = CrowdedIsExact layout.guard_max (run crowd_plan es).log

  -- ---- a line

  line_exact : (early own : List Event) (tag : Option ℕ) (before next : CallsRun) (l : CallLine) (a : Answer)
      (line : LineAnswered crowd_terms tag before l a next) → l.pass < crowd_plan.passes
      → HaveParts crowd_plan early before.parts → HaveParts crowd_plan (early ++ own) next.parts → Exactly early
      → Exactly (early ++ own)
  line_exact early own tag before next l a line inside here there exact =
      stays_exact layout shape la ls lf early own l.pass
      (was_quiet layout shape la ls lf tag early own before next l a line inside here there)
      (λ b lt ne.
      let same : trail_of crowd_plan (early ++ own) b ≡ trail_of crowd_plan early b = (there b lt).trail
      ∙ (ap (λ (p : PassPart). (own_part p.stands).trail)
      (next_there layout shape la ls lf tag early own before next l a line inside here there b ne)
      ∙ sym (here b lt).trail) in
      let long = ap (λ (t : List Footstep). length t) same in omega (arith, long)) exact

  -- ---- all lines

  -- the events of the lines, after which only owners leave
  record AfterLines (events : List Event) (after : CallsRun) : Type 0 where
    early : List Event
    late : List Event
    is : events ≡ early ++ late
    have : HaveParts crowd_plan early after.parts
    exact : Exactly early

  lines_exact : (early late : List Event) (tag : Option ℕ) (before : CallsRun) (lines : List CallLine)
      (answers : List Answer) (after : CallsRun) → All (λ (l : CallLine). l.pass < shape.passes) lines
      → (h : RunsByLine crowd_plan early late crowd_terms tag before lines answers after) → Exactly early
      → AfterLines (early ++ late) after
  lines_exact early late tag before [] [] after fits h exact = record {
    early = early;
    late = late;
    is = refl;
    have = subst (λ (r : CallsRun). HaveParts crowd_plan early r.parts) (sym h.1) h.0;
    exact = exact;
  }
  lines_exact early late tag before [] (a ∷ answers) after fits h exact = absurd h
  lines_exact early late tag before (l ∷ lines) [] after fits h exact = absurd h
  lines_exact early late tag before (l ∷ lines) (a ∷ answers) after fits h exact =
      let whole : (early ++ h.3) ++ h.4 ≡ early ++ late = append_assoc early h.3 h.4
      ∙ ap (λ (es : List Event). early ++ es) (sym h.5) in
      let next = line_exact early h.3 tag before h.1 l a h.2
      (All-head (λ (z : CallLine). z.pass < shape.passes) l lines fits) h.0
      (first_parts layout shape la ls lf (early ++ h.3) h.4 tag h.1 lines answers after h.6) exact in
      subst (λ (es : List Event). AfterLines es after) whole
      (lines_exact (early ++ h.3) h.4 tag h.1 lines answers after
      (All-tail (λ (z : CallLine). z.pass < shape.passes) l lines fits) h.6 next)

  -- ---- the leaves at the end add no entry

  ends_exact : (events : List Event) (after : CallsRun) → AfterLines events after
      → ((p : ℕ) → p < crowd_plan.passes → length (log_of p (run crowd_plan events)) ≡ length (after.parts p).log)
      → Exactly events
  ends_exact events after a logs =
      let on = log_goes_on crowd_plan a.early a.late in
      let log : (run crowd_plan events).log ≡ (run crowd_plan a.early).log ++ on.0 =
      ap (λ (es : List Event). (run crowd_plan es).log) a.is ∙ on.1 in
      let ours : All (λ (e : Entry). pass_of e < crowd_plan.passes) (run crowd_plan events).log =
      (theorem layout shape la ls lf events).entries in
      let none : on.0 ≡ [] = no_more crowd_plan.passes on.0
      (all_after (λ (e : Entry). pass_of e < crowd_plan.passes) (run crowd_plan a.early).log on.0
      (subst (λ (l : List Entry). All (λ (e : Entry). pass_of e < crowd_plan.passes) l) log ours))
      (λ b lt.
      let long : length (log_of b (run crowd_plan events))
      ≡ length (entries b (run crowd_plan a.early).log ++ entries b on.0) =
      ap (λ (l : List Entry). length l) (ap (entries b) log ∙ by_append b (run crowd_plan a.early).log on.0) in
      let both = length-append (entries b (run crowd_plan a.early).log) (entries b on.0) in
      let last = logs b lt in
      let first : length (entries b (run crowd_plan a.early).log) ≡ length (after.parts b).log =
      (a.have b lt).entries in
      omega (arith, long, both, last, first)) in
      let same : (run crowd_plan events).log ≡ (run crowd_plan a.early).log =
      log ∙ (ap (λ (l : List Entry). (run crowd_plan a.early).log ++ l) none
      ∙ append-nil (run crowd_plan a.early).log) in
      subst (CrowdedIsExact layout.guard_max) (sym same) a.exact

-- as many entries of each pass are in the log of the run as the pass has at the end
logs_at_end : (asked : Bool) (layout : Layout) (shape : Numbers) (tag : Option ℕ) (lines : List CallLine)
    (output : List ℕ) (h : IsHeapOutput true layout shape tag lines asked output) (p : ℕ) → p < shape.passes
    → length (log_of p (run (plan_of layout shape) h.events)) ≡ length (h.told.replies.after.parts p).log
logs_at_end asked layout shape tag lines output h p lt =
    let parts : ℕ → PassPart = h.told.replies.after.parts in
    let logs : HasAllLogs h.told.whole.history (map (part_told parts) (passes_below shape.passes)) =
    subst (HasAllLogs h.told.whole.history) h.told.tale_is h.told.whole.has in
    let its : AllZip Agrees (parts p).log (entries_of (λ q. q == p) h.told.whole.history) =
    log_at h.told.whole.history parts (passes_below shape.passes) logs p p (up_get shape.passes p lt) in
    ap (λ (l : List Entry). length (entries p l)) h.log
    ∙ sym (agree_long (parts p).log (entries_of (λ q. q == p) h.told.whole.history) its)

pub lines_crowd_exactly : LinesCrowdExactly
lines_crowd_exactly asked layout shape tag lines output la ls lf fits h =
    subst (CrowdedIsExact layout.guard_max) h.log
    (ends_exact layout shape la ls lf h.events h.told.replies.after
    (lines_exact layout shape la ls lf [] h.events tag (opening_calls (Some h.heap)) lines h.told.replies.answers
    h.told.replies.after fits (h.by_line refl) (opens_exact layout shape la ls lf))
    (logs_at_end asked layout shape tag lines output h))
