-- The answers of mode heap are beside those of mode plain.
use Rattle.std.proofs.Common.{◌≡◌, ℕ, zero, suc, ◌<◌, ◌≤◌, ◌==◌, Bool, true, false, List, [], ◌∷◌, ◌++◌, map, refl}
use Rattle.std.proofs.Common.{sym, subst, arith, eqb-true, Option, Some}
use Rattle.std.specs.Prelude.{replicate}
use Rattle.std.proofs.lemmas.Bool.Decides.{nat_tests}
use Rattle.std.proofs.lemmas.List.{get_or-replicate, length-replicate}
use Rattle.sh_history.specs.declared.entry.Entry.{Entry}
use Rattle.sh_table.specs.Seats.{Heap}
use Rattle.script_calls.specs.Parts.{RunTerms, PassPart, PassTold, HasAllLogs, HasLogOf, new_part, passes_below}
use Rattle.script_calls.specs.Parts.{heap_terms}
use Rattle.script_calls.specs.Told.{part_told, IsTold}
use Rattle.sh_script.specs.HeaderMeaning.{layout_of}
use Rattle.sh_script.specs.declared.calls.CallLine.{CallLine}
use Rattle.script_output.specs.Keys.{HasTagRoom}
use Rattle.std.specs.List.{All}
use Rattle.script_heap.specs.Crowding.{CrowdedIsExact}
use Rattle.script_heap.specs.HeapOutput.{IsHeap}
use Rattle.script_heap.specs.Owners.{AnswersAreExact, nobody_owns}
use Rattle.script_heap.proofs.CrowdedLines.{lines_crowd_exactly}
use Rattle.script_heap.proofs.OwnersTold.{lines_tell_owners}
use Rattle.script_models.specs.PlainRun.{opening_run}
use Rattle.script_beside.specs.Law.{HeapIsBesidePlain}
use Rattle.script_beside.proofs.Logs.{LogIs}
use Rattle.sh_script.specs.declared.header.Layout.{Layout as LayoutName}
use Rattle.sh_script.specs.declared.header.Layout.TheVariants as layout
use Rattle.sh_key.specs.Layout.{IsLayout}
use Rattle.sh_key.specs.Layouts.{tiny_numbers, wide_numbers, tagged_numbers}
use Rattle.script_output.proofs.HeaderShapes.{shape_of_calls}
use Rattle.script_beside.proofs.Fewness.{FewAlong, few_along}
use Rattle.script_beside.proofs.Issued.{none_issued}
use Rattle.script_beside.proofs.Scripts.{scripts_fit}
use Rattle.script_beside.proofs.Walk.{LogsAre, OwnersAre, KnowsEach, Walked, walk}

-- ---- each log of the tale

last_told : (history : List Entry) (parts : ℕ → PassPart) (qs : List ℕ) (n : ℕ)
    → HasAllLogs history (map (part_told parts) (qs ++ n ∷ []))
    → HasAllLogs history (map (part_told parts) qs) × HasLogOf history (part_told parts n)
last_told history parts [] n h = (tt, h.0)
last_told history parts (q ∷ qs) n h = let r = last_told history parts qs n h.1 in ((h.0, r.0), r.1)

told_below : (history : List Entry) (parts : ℕ → PassPart) (n : ℕ)
    → HasAllLogs history (map (part_told parts) (passes_below n)) → (q : ℕ) → q < n → LogIs q (parts q).log history
told_below history parts zero h q below = absurd (omega (arith, below))
told_below history parts (suc n) h q below =
    go (q == n) refl (last_told history parts (passes_below n) n h).1
    (told_below history parts n (last_told history parts (passes_below n) n h).0 q)
  where
    go : (b : Bool) → (q == n) ≡ b → HasLogOf history (part_told parts n) → (q < n → LogIs q (parts q).log history)
        → LogIs q (parts q).log history
    go true e here before = subst (λ (p : ℕ). LogIs p (parts p).log history) (sym (eqb-true q n e)) here
    go false e here before = before (grind (arith, nat_tests))

-- ---- the start

none_has_shard : (terms : RunTerms) (tag : Option ℕ) (heap : Option Heap)
    → OwnersAre terms tag (replicate 64 false) (new_part heap)
none_has_shard terms tag heap = record {
  few = length-replicate 64 false;
  each =
      λ q below. get_or-replicate 64 q false false below;
}

new_pass_knows : (terms : RunTerms) (tag : Option ℕ) (heap : Heap) → heap.shape ≡ terms.shape
    → KnowsEach terms tag (new_part (Some heap))
new_pass_knows terms tag heap is = record { each = λ q. is }

lines_walked : (heap : Heap) (terms : RunTerms) (tag : Option ℕ) (lines : List CallLine) (output : List ℕ)
    (tale : List PassTold) → (told : IsTold true (Some heap) terms tag lines output tale)
    → heap.shape ≡ terms.shape → 1 ≤ terms.shape.passes → terms.shape.passes ≤ 64
    → HasTagRoom terms.layout tag → All (λ (l : CallLine). l.pass < terms.shape.passes) lines
    → FewAlong terms.layout.guard_max told.whole.history → CrowdedIsExact terms.layout.guard_max told.whole.history
    → AnswersAreExact terms.shape nobody_owns lines told.replies.answers
    → Walked terms tag told.whole.history nobody_owns (opening_run terms.shape.shards terms.shape.passes tag) lines
    told.replies.answers
lines_walked heap terms tag lines output tale told shape some few room below holds crowds exact =
    let history = told.whole.history in
    let logs : LogsAre terms told.replies.after.parts history =
    told_below history told.replies.after.parts terms.shape.passes
    (subst (HasAllLogs history) told.tale_is told.whole.has) in
    walk terms tag room some few history lines told.replies.answers _ told.replies.after [] history 0
    (replicate 64 false) nobody_owns
    [] told.replies.ran told.whole.legal logs (told.in_order refl) below (none_has_shard terms tag (Some heap)) tt
    (none_issued terms.layout) (new_pass_knows terms tag heap shape) holds crowds (λ q. refl) exact refl

-- the layouts of scripts are layouts
lawful : (l : LayoutName) → IsLayout (layout_of l)
lawful layout.Tiny = tiny_numbers.lawful
lawful layout.Wide = wide_numbers.lawful
lawful layout.Tagged = tagged_numbers.lawful

heap_walked : (asked : Bool) (text output : List ℕ) → (heap : IsHeap true asked text output)
    → Walked (heap_terms (layout_of heap.header.layout) heap.header.shape) heap.header.tag
    heap.is_output.told.whole.history nobody_owns
    (opening_run heap.header.shape.shards heap.header.shape.passes heap.header.tag)
    heap.lines heap.is_output.told.replies.answers
heap_walked asked text output heap =
    let header = heap.header in
    let out = heap.is_output in
    let fit = scripts_fit text header heap.lines heap.is_calls in
    let shape = shape_of_calls text header heap.lines heap.is_calls in
    lines_walked out.heap (heap_terms (layout_of header.layout) header.shape) header.tag heap.lines out.replies
    out.tale out.told out.of_shape shape.0.some_pass fit.few fit.room fit.below
    (subst (FewAlong (layout_of header.layout).guard_max) out.log
    (few_along (layout_of header.layout) header.shape (lawful header.layout) shape.0 shape.1 out.events))
    (lines_crowd_exactly asked (layout_of header.layout) header.shape header.tag heap.lines output
    (lawful header.layout) shape.0 shape.1 fit.below out)
    (lines_tell_owners asked (layout_of header.layout) header.shape header.tag heap.lines output
    (lawful header.layout) shape.0 shape.1 fit.below out)

pub heap_is_beside_plain : HeapIsBesidePlain
heap_is_beside_plain asked text output heap =
    let w = heap_walked asked text output heap in
    record { beside = (w.after, w.beside); along = λ named. (_, w.along named tt) }
