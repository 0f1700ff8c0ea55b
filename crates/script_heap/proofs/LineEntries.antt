-- What a line of a run in one thread adds to the log of the core: the entry that its answer says.
use Rattle.std.proofs.Common.{◌≡◌, ℕ, ◌+◌, ◌<◌, List, [], ◌∷◌, ◌++◌, length, slice_get, refl, ap, sym}
use Rattle.std.proofs.Common.{◌∙◌, subst, arith, append-nil, Option, Some}
use Rattle.std.proofs.lemmas.List.{length-append}
use Rattle.std.proofs.lemmas.Option.{same_Some}
use Rattle.sh_key.specs.Layout.{Layout, IsLayout}
use Rattle.sh_shape.specs.Shape.{Numbers, IsShape, Fits}
use Rattle.sh_step.specs.declared.action.Event.{Event}
use Rattle.sh_step.specs.Plans.{Plan, plan_of}
use Rattle.sh_core.specs.Trails.{log_of}
use Rattle.sh_core.specs.Worlds.{World, run}
use Rattle.sh_core.proofs.Entries.{entries, log_goes_on}
use Rattle.sh_core.proofs.LoneEntries.{Joins, joins, no_entries}
use Rattle.sh_history.specs.declared.entry.Entry.{Entry}
use Rattle.sh_history.specs.declared.entry.Entry.TheVariants.{Insert}
use Rattle.sh_history.specs.declared.log.LogEntry.{LogEntry}
use Rattle.sh_history.specs.declared.log.LogEntry.TheVariants.{Known}
use Rattle.sh_history.proofs.ByPlace.{get_front, get_last}
use Rattle.sh_table.proofs.Zips.{by_append}
use Rattle.sh_script.specs.declared.calls.CallLine.{CallLine}
use Rattle.script_output.specs.declared.answer.Answer.{Answer}
use Rattle.script_calls.specs.OwnParts.{own_part}
use Rattle.script_calls.specs.Parts.{RunTerms, PassPart, heap_terms}
use Rattle.script_calls.specs.Runs.{CallsRun, LineAnswered}
use Rattle.script_calls.proofs.GoneLaws.{line_keeps}
use Rattle.script_calls.proofs.GrowLemmas.{KeepsKnown}
use Rattle.script_calls.proofs.NameLemmas.{may_log}
use Rattle.script_heap.specs.ByLine.{HaveParts, RunsByLine}
use Rattle.script_heap.proofs.OwnerLaws.{next_here, next_there}

one_entry_of : (xs : List Entry) → length xs ≡ 1 → (t : Entry) × (xs ≡ t ∷ [])
one_entry_of [] e = absurd (omega (arith, e))
one_entry_of (x ∷ []) e = (x, refl)
one_entry_of (x ∷ (y ∷ xs)) e = absurd (omega (arith, e))

-- what the parts know of their entries is in the log of the run
abbrev pub AreLogged : Plan → List Event → (ℕ → PassPart) → Type 0
AreLogged plan events parts = (p : ℕ) → p < plan.passes → (i : ℕ) (e : Entry)
    → slice_get (parts p).log i ≡ Some (Known e) → slice_get (log_of p (run plan events)) i ≡ Some e

-- what is known between two lines is known at the end
pub known_to_end : (plan : Plan) (early late : List Event) (terms : RunTerms) (tag : Option ℕ) (before : CallsRun)
    (lines : List CallLine) (answers : List Answer) (after : CallsRun)
    → RunsByLine plan early late terms tag before lines answers after → (p : ℕ)
    → KeepsKnown (before.parts p).log (after.parts p).log
known_to_end plan early late terms tag before [] [] after h p k e at =
    subst (λ (r : CallsRun). slice_get (r.parts p).log k ≡ Some (Known e)) (sym h.1) at
known_to_end plan early late terms tag before [] (b ∷ bs) after h p k e at = absurd h
known_to_end plan early late terms tag before (l ∷ ls) [] after h p k e at = absurd h
known_to_end plan early late terms tag before (l ∷ ls) (b ∷ bs) after h p k e at =
    known_to_end plan (early ++ h.3) h.4 terms tag h.1 ls bs after h.6 p k e
    (line_keeps terms tag before h.1 l b h.2 p k e at)

module _ (layout : Layout) (shape : Numbers) (la : IsLayout layout) (ls : IsShape shape) (lf : Fits layout shape) where
  abbrev log_plan : Plan
  log_plan = plan_of layout shape

  module _ (tag : Option ℕ) (early own rest : List Event) (before next : CallsRun) (l : CallLine) (a : Answer)
      (line : LineAnswered (heap_terms layout shape) tag before l a next) (inside : l.pass < log_plan.passes)
      (here : HaveParts log_plan early before.parts) (there : HaveParts log_plan (early ++ own) next.parts)
      (logged : AreLogged log_plan ((early ++ own) ++ rest) next.parts) where
    abbrev first_world : World
    first_world = run log_plan early

    abbrev then_world : World
    then_world = run log_plan (early ++ own)

    joined : Joins log_plan early own l.pass
    joined = joins layout shape la ls lf early own l.pass (λ b lt ne. (there b lt).trail
        ∙ (ap (λ (p : PassPart). (own_part p.stands).trail)
        (next_there layout shape la ls lf tag early own before next l a line inside here there b ne)
        ∙ sym (here b lt).trail))

    next_log : (next.parts l.pass).log ≡ line.part.log
    next_log = ap (λ (p : PassPart). p.log)
        (next_here layout shape la ls lf tag early own before next l a line inside here there)

    begins_log : line.begins.log ≡ (before.parts l.pass).log
    begins_log = may_log (before.parts l.pass) line.begins line.heeds

    -- as many entries join as the log of the pass grows by
    joins_many : (n : ℕ) → length line.part.log ≡ length line.begins.log + n → length joined.new ≡ n
    joins_many n grown =
        let first = (here l.pass inside).entries in
        let last = (there l.pass inside).entries in
        let more : length (log_of l.pass then_world) ≡ length (log_of l.pass first_world) + length joined.new =
        ap (λ (xs : List Entry). length xs) joined.own_log ∙ length-append (log_of l.pass first_world) joined.new in
        let begun : length line.begins.log ≡ length (before.parts l.pass).log =
        ap (λ (xs : List LogEntry). length xs) begins_log in
        let ended : length (next.parts l.pass).log ≡ length line.part.log =
        ap (λ (xs : List LogEntry). length xs) next_log in
        omega (arith, grown, first, last, more, begun, ended)

    -- an answer that adds no entry leaves the log as it was
    pub log_stays : line.part.log ≡ line.begins.log → then_world.log ≡ first_world.log
    log_stays same =
        let grown : length line.part.log ≡ length line.begins.log = ap (λ (xs : List LogEntry). length xs) same in
        let none : joined.new ≡ [] = no_entries joined.new (joins_many 0 (omega (arith, grown))) in
        joined.log ∙ (ap (λ (xs : List Entry). first_world.log ++ xs) none ∙ append-nil first_world.log)

    -- an insert that is ok adds its entry
    module _ (key : ℕ) (words : List ℕ)
        (added : line.part.log ≡ line.begins.log ++ Known (Insert l.pass key words) ∷ []) where
      abbrev place : ℕ
      place = length (log_of l.pass first_world)

      one : (t : Entry) × (joined.new ≡ t ∷ [])
      one = one_entry_of joined.new (joins_many 1 (ap (λ (xs : List LogEntry). length xs) added
          ∙ length-append line.begins.log (Known (Insert l.pass key words) ∷ [])))

      place_is : length line.begins.log ≡ place
      place_is = ap (λ (xs : List LogEntry). length xs) begins_log ∙ sym (here l.pass inside).entries

      -- the entry that the pass knows
      known_there : slice_get (log_of l.pass (run log_plan ((early ++ own) ++ rest))) place
          ≡ Some (Insert l.pass key words)
      known_there = logged l.pass inside place (Insert l.pass key words)
          (subst (λ (i : ℕ). slice_get (next.parts l.pass).log i ≡ Some (Known (Insert l.pass key words))) place_is
          (ap (λ (xs : List LogEntry). slice_get xs (length line.begins.log)) (next_log ∙ added)
          ∙ get_last line.begins.log (Known (Insert l.pass key words))))

      -- the entry that joined
      joined_there : slice_get (log_of l.pass (run log_plan ((early ++ own) ++ rest))) place ≡ Some one.0
      joined_there =
          let on = log_goes_on log_plan (early ++ own) rest in
          let longer : log_of l.pass (run log_plan ((early ++ own) ++ rest))
          ≡ log_of l.pass then_world ++ entries l.pass on.0 =
          ap (entries l.pass) on.1 ∙ by_append l.pass then_world.log on.0 in
          let now : log_of l.pass then_world ≡ log_of l.pass first_world ++ one.0 ∷ [] = joined.own_log
          ∙ ap (λ (xs : List Entry). log_of l.pass first_world ++ xs) one.1 in
          let at : slice_get (log_of l.pass then_world) place ≡ Some one.0 =
          ap (λ (xs : List Entry). slice_get xs place) now ∙ get_last (log_of l.pass first_world) one.0 in
          ap (λ (xs : List Entry). slice_get xs place) longer
          ∙ get_front (log_of l.pass then_world) (entries l.pass on.0) place one.0 at

      pub log_has_insert : then_world.log ≡ first_world.log ++ Insert l.pass key words ∷ []
      log_has_insert =
          let same : one.0 ≡ Insert l.pass key words = same_Some one.0 (Insert l.pass key words)
          (sym joined_there ∙ known_there) in
          joined.log ∙ ap (λ (xs : List Entry). first_world.log ++ xs)
          (one.1 ∙ ap (λ (t : Entry). t ∷ []) same)
