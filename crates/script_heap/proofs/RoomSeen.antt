-- In a run in one thread an insert is ok only if its pass's shard had room before the line, and Full only if it had
-- none.
use Rattle.std.proofs.Common.{◌≡◌, ℕ, ◌<◌, Bool, true, false, List, [], ◌∷◌, ◌++◌, length, map, refl, ap, sym, ◌∙◌}
use Rattle.std.proofs.Common.{subst, append_assoc, inl, inr, Option, Some, None, Result, Ok, Err}
use Rattle.std.specs.Prelude.{◌==◌, nat_lt, if◌then◌else◌}
use Rattle.std.specs.List.{All, AllZip}
use Rattle.std.proofs.lemmas.List.Elements.{All-head, All-tail}
use Rattle.sh_value.specs.declared.refusal.Refusal.{Refusal}
use Rattle.sh_value.specs.declared.refusal.Refusal.TheVariants as refusal
use Rattle.sh_key.specs.Layout.{Layout, IsLayout}
use Rattle.sh_shape.specs.Shape.{Numbers, IsShape, Fits}
use Rattle.sh_step.specs.declared.action.Event.{Event}
use Rattle.sh_step.specs.Plans.{Plan, plan_of}
use Rattle.sh_core.specs.Worlds.{run}
use Rattle.sh_history.specs.declared.entry.Entry.{Entry}
use Rattle.sh_history.specs.declared.entry.Entry.TheVariants.{Insert}
use Rattle.sh_history.specs.declared.log.LogEntry.TheVariants.{Known}
use Rattle.sh_history.specs.Log.{Agrees, entries_of}
use Rattle.sh_shard.specs.Shards.{Sharded, StaysOwner, InsertServes, value_class}
use Rattle.sh_member.specs.declared.member.Side.TheVariants.{Pass, Shard}
use Rattle.sh_member.specs.Sides.{SeenSide, SideInserts}
use Rattle.sh_script.specs.declared.calls.Call.{Call}
use Rattle.sh_script.specs.declared.calls.Call.TheVariants as call
use Rattle.sh_script.specs.declared.calls.CallLine.{CallLine}
use Rattle.script_output.specs.declared.answer.Answer.{Answer}
use Rattle.script_output.specs.Results.{key_answer}
use Rattle.script_calls.specs.Calls.{CallAnswers, InsertAnswers, UnlessRefused, ValueInserted, needs_shard}
use Rattle.script_calls.specs.Parts.{RunTerms, PassPart, Becomes, HasAllLogs, heap_terms, passes_below}
use Rattle.script_calls.specs.Runs.{CallsRun, LineAnswered, number_meant, opening_calls}
use Rattle.script_calls.specs.Told.{part_told}
use Rattle.script_calls.proofs.GoneLaws.{zip_known}
use Rattle.script_calls.proofs.ListLemmas.{up_get}
use Rattle.script_calls.proofs.NameLaws.{log_at}
use Rattle.script_heap.specs.ByLine.{HaveParts, RunsByLine}
use Rattle.script_heap.specs.HeapOutput.{IsHeapOutput}
use Rattle.script_heap.specs.Rooms.{InsertSeesRoom, CallSeesRoom, RoomsAreSeen, LinesSeeRoom, RoomExcludes}
use Rattle.script_heap.proofs.LineEntries.{AreLogged, known_to_end, log_stays, log_has_insert}
use Rattle.script_heap.proofs.OwnerLaws.{first_parts}
use Rattle.script_heap.proofs.RoomBefore.{had_room, none_left_before, none_blank_before, wholly_after, other_after}
use Rattle.script_heap.proofs.RoomBefore.{inside_after, begins_page}
use Rattle.script_heap.proofs.RoomLaws.{its_shard}

module _ (layout : Layout) (shape : Numbers) (la : IsLayout layout) (ls : IsShape shape) (lf : Fits layout shape) where
  abbrev seen_plan : Plan
  seen_plan = plan_of layout shape

  abbrev seen_terms : RunTerms
  seen_terms = heap_terms layout shape

  -- ---- one line

  module _ (tag : Option ℕ) (early own rest : List Event) (before next : CallsRun) (l : CallLine) (a : Answer)
      (line : LineAnswered seen_terms tag before l a next) (inside : l.pass < seen_plan.passes)
      (here : HaveParts seen_plan early before.parts) (there : HaveParts seen_plan (early ++ own) next.parts)
      (logged : AreLogged seen_plan ((early ++ own) ++ rest) next.parts) where
    abbrev Sees : List ℕ → Answer → Type 0
    Sees words = InsertSeesRoom seen_plan tag (run seen_plan early) before.parts l.pass words

    -- what an insert with this result adds to the log of the pass
    abbrev Adds : List ℕ → Result ℕ Refusal → Type 0
    Adds words (Ok key) = line.part.log ≡ line.begins.log ++ Known (Insert l.pass key words) ∷ []
    Adds words (Err e) = line.part.log ≡ line.begins.log

    adds : (words : List ℕ) (first : Option Refusal) (r : Result ℕ Refusal)
        → UnlessRefused first r (Becomes line.begins line.part)
        (ValueInserted seen_terms l.pass line.begins words r line.part) → Adds words r
    adds words (Some e) r h = subst (Adds words) (sym h.0) (ap (λ (p : PassPart). p.log) h.1)
    adds words None (Ok key) h = ap (λ (p : PassPart). p.log) h.1
    adds words None (Err refusal.Full) h = ap (λ (p : PassPart). p.log) h
    adds words None (Err refusal.Memory) h = ap (λ (p : PassPart). p.log) h
    adds words None (Err _) h = absurd h

    module _ (o n : Sharded) (was : line.begins.stands ≡ Shard o) (is : line.part.stands ≡ Shard n)
        (stays : StaysOwner layout o n) where
      inserts_see : (words : List ℕ) (r : Result ℕ Refusal) → Adds words r
          → InsertServes layout (value_class words) words o r n → Sees words (key_answer tag r)
      inserts_see words (Ok key) log h =
          let added = log_has_insert layout shape la ls lf tag early own rest before next l a line inside here there
          logged key words log in (
            n.pages.shard,
            its_shard layout shape la ls lf tag early own before next l a line inside here there o n was is stays,
            had_room layout shape la ls lf tag early own before next l a line inside here there o n was is stays
                (value_class words) key words h.2 added,
            begins_page layout shape la ls lf tag early own before next l a line inside here there o n was is stays
                (value_class words) key words h.2 added,
          )
      inserts_see words (Err refusal.Full) log h =
          let c : ℕ = value_class words in
          let same = log_stays layout shape la ls lf tag early own rest before next l a line inside here there logged
          log in (
            n.pages.shard,
            its_shard layout shape la ls lf tag early own before next l a line inside here there o n was is stays,
            record {
              used = none_left_before layout shape la ls lf tag early own before next l a line inside here there o n was
                  is stays c h.left same;
              blank = none_blank_before layout shape la ls lf tag early own before next l a line inside here there o n
                  was is stays c h.left same h.blank;
              spare = λ p d lt ne whole. h.whole p
                  (inside_after layout shape la ls lf tag early own before next l a line inside here there o n was is
                  stays c h.left same p lt)
                  (wholly_after layout shape la ls lf tag early own before next l a line inside here there o n was is
                  stays c h.left same p d lt ne whole);
            },
          )
      inserts_see words (Err refusal.Memory) log h =
          let c : ℕ = value_class words in
          let same = log_stays layout shape la ls lf tag early own rest before next l a line inside here there logged
          log in (
            n.pages.shard,
            its_shard layout shape la ls lf tag early own before next l a line inside here there o n was is stays,
            none_left_before layout shape la ls lf tag early own before next l a line inside here there o n was is stays
                c h.1 same,
            λ p d lt ne whole. h.2.spare p
                (inside_after layout shape la ls lf tag early own before next l a line inside here there o n was is
                stays c h.1 same p lt) (record {
                  whole = wholly_after layout shape la ls lf tag early own before next l a line inside here there o n
                      was is stays c h.1 same p d lt ne whole;
                  other = other_after layout shape la ls lf tag early own before next l a line inside here there o n
                      was is stays c h.1 same p d lt ne whole;
                }),
          )
      inserts_see words (Err _) log h = absurd h

    seen_by_side : (words : List ℕ) (s t : SeenSide) → line.begins.stands ≡ s → line.part.stands ≡ t
        → (r : Result ℕ Refusal) → Adds words r → SideInserts layout words s r t → Sees words (key_answer tag r)
    seen_by_side words (Pass v) t was is r log h =
        subst (λ (z : Result ℕ Refusal). Sees words (key_answer tag z)) (sym h.0) tt
    seen_by_side words (Shard o) (Shard n) was is r log h = inserts_see o n was is h.1 words r log h.0
    seen_by_side words (Shard o) (Pass w) was is r log h = absurd h

    -- too many words are refused first
    seen_by_words : (words : List ℕ) (many : Bool) (r : Result ℕ Refusal)
        → UnlessRefused (if many then Some refusal.TooLong else None) r (line.part ≡ line.begins)
        (InsertAnswers seen_terms l.pass line.begins words r line.part) → Sees words (key_answer tag r)
    seen_by_words words true r h = subst (λ (z : Result ℕ Refusal). Sees words (key_answer tag z)) (sym h.0) tt
    seen_by_words words false r h = seen_by_side words line.begins.stands line.part.stands refl refl r
        (adds words (needs_shard line.begins.shard) r h.0) h.1

    call_sees : (c : Call) (bound : Option ℕ) → CallAnswers seen_terms tag l.pass line.begins c bound a line.part
        → CallSeesRoom seen_plan tag (run seen_plan early) before.parts l.pass c a
    call_sees (call.Insert words) bound h = subst (λ (z : Answer). Sees words z) (sym h.is)
        (seen_by_words words (nat_lt 16 (length words)) h.result h.does)
    call_sees _ bound h = tt

    line_sees : CallSeesRoom seen_plan tag (run seen_plan early) before.parts l.pass l.call a
    line_sees = call_sees l.call (number_meant before.numbers l.call) line.does

  -- ---- all lines

  lines_see : (early late : List Event) (tag : Option ℕ) (before : CallsRun) (lines : List CallLine)
      (answers : List Answer) (after : CallsRun) → All (λ (l : CallLine). l.pass < shape.passes) lines
      → (h : RunsByLine seen_plan early late seen_terms tag before lines answers after)
      → AreLogged seen_plan (early ++ late) after.parts
      → RoomsAreSeen seen_plan early late seen_terms tag before lines answers after h
  lines_see early late tag before [] [] after fits h logged = tt
  lines_see early late tag before [] (a ∷ answers) after fits h logged = absurd h
  lines_see early late tag before (l ∷ lines) [] after fits h logged = absurd h
  lines_see early late tag before (l ∷ lines) (a ∷ answers) after fits h logged =
      let whole : early ++ late ≡ (early ++ h.3) ++ h.4 = ap (λ (es : List Event). early ++ es) h.5
      ∙ sym (append_assoc early h.3 h.4) in
      let later : AreLogged seen_plan ((early ++ h.3) ++ h.4) after.parts =
      subst (λ (es : List Event). AreLogged seen_plan es after.parts) whole logged in
      let now : AreLogged seen_plan ((early ++ h.3) ++ h.4) h.1.parts = λ p lt i e at. later p lt i e
      (known_to_end seen_plan (early ++ h.3) h.4 seen_terms tag h.1 lines answers after h.6 p i e at) in (
        line_sees tag early h.3 h.4 before h.1 l a h.2
            (All-head (λ (z : CallLine). z.pass < shape.passes) l lines fits) h.0
            (first_parts layout shape la ls lf (early ++ h.3) h.4 tag h.1 lines answers after h.6) now,
        lines_see (early ++ h.3) h.4 tag h.1 lines answers after
            (All-tail (λ (z : CallLine). z.pass < shape.passes) l lines fits) h.6 later,
      )

-- the log of the run has what each pass knows of its entries at the end
logged_at_end : (asked : Bool) (layout : Layout) (shape : Numbers) (tag : Option ℕ) (lines : List CallLine)
    (output : List ℕ) (h : IsHeapOutput true layout shape tag lines asked output)
    → AreLogged (plan_of layout shape) h.events h.told.replies.after.parts
logged_at_end asked layout shape tag lines output h p lt i e at =
    let parts : ℕ → PassPart = h.told.replies.after.parts in
    let logs : HasAllLogs h.told.whole.history (map (part_told parts) (passes_below shape.passes)) =
    subst (HasAllLogs h.told.whole.history) h.told.tale_is h.told.whole.has in
    let its : AllZip Agrees (parts p).log (entries_of (λ q. q == p) h.told.whole.history) =
    log_at h.told.whole.history parts (passes_below shape.passes) logs p p (up_get shape.passes p lt) in
    zip_known (parts p).log (entries_of (λ q. q == p) (run (plan_of layout shape) h.events).log)
    (subst (λ (es : List Entry). AllZip Agrees (parts p).log (entries_of (λ q. q == p) es)) (sym h.log) its) i e at

pub lines_see_room : LinesSeeRoom
lines_see_room asked layout shape tag lines output la ls lf fits h = lines_see layout shape la ls lf [] h.events tag
    (opening_calls (Some h.heap)) lines h.told.replies.answers h.told.replies.after fits (h.by_line refl)
    (logged_at_end asked layout shape tag lines output h)

pub room_excludes : RoomExcludes
room_excludes plan w k c (inl free) none = free.5 (none.used free.0 free.1 free.2 free.3 free.4)
room_excludes plan w k c (inr (inl blank)) none = none.blank blank.0 blank.1 blank.2
room_excludes plan w k c (inr (inr spare)) none = none.spare spare.0 spare.1 spare.2 spare.3 spare.4
