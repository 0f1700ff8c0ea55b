-- Lines on the passes of a heap that was opened.
use Rattle.std.proofs.Common.{◌≡◌, ℕ, ◌<◌, ◌≤◌, Bool, List, Option, Some, sym, ap, ◌∙◌, subst, arith}
use Rattle.std.specs.List.{All}
use Rattle.sh_key.specs.Layout.{Layout}
use Rattle.sh_shape.specs.Shape.{IsShape}
use Rattle.sh_script.specs.declared.calls.CallLine.{CallLine}
use Rattle.sh_table.specs.Seats.{Heap}
use Rattle.script_output.specs.Keys.{HasTagRoom}
use Rattle.script_calls.specs.Parts.{SeenPass, RunTerms, new_passes, heap_terms}
use Rattle.script_calls.specs.Finished.{heap_seen, terms_seen, AreAllNew, LinesRan}
use Rattle.script_calls.proofs.Newcomers.{heap_of_new, terms_of_new, opened_passes}

-- the passes of this heap, as they were given out
module _ (layout : Layout) (heap : Heap) (shape : IsShape heap.shape) (seen : Heap) (same : seen ≡ heap)
    (ss : List SeenPass)
    (all : ss ≡ new_passes (Some seen) (heap_terms layout seen.shape) seen.shape.passes) where
  some_pass : 0 < seen.shape.passes
  some_pass = let k : 1 ≤ heap.shape.passes = shape.some_pass in
      subst (λ (h : Heap). 0 < h.shape.passes) (sym same) (omega (arith, k))

  terms : terms_seen ss ≡ heap_terms layout heap.shape
  terms = terms_of_new (Some seen) (heap_terms layout seen.shape) seen.shape.passes ss some_pass all
      ∙ ap (λ (h : Heap). heap_terms layout h.shape) same

  is_heap : heap_seen ss ≡ Some heap
  is_heap = heap_of_new (Some seen) (heap_terms layout seen.shape) seen.shape.passes ss some_pass all
      ∙ ap (λ h. Some h) same

  pub opened_room : (tag t : Option ℕ) → tag ≡ t → HasTagRoom layout t → HasTagRoom (terms_seen ss).layout tag
  opened_room tag t e room = subst (λ (r : RunTerms). HasTagRoom r.layout tag) (sym terms)
      (subst (HasTagRoom layout) (sym e) room)

  pub opened_new : AreAllNew ss
  opened_new = opened_passes (Some seen) (heap_terms layout seen.shape) ss some_pass all

  pub opened_within : (lines ls : List CallLine) → lines ≡ ls
      → All (λ (l : CallLine). l.pass < heap.shape.passes) ls
      → All (λ (l : CallLine). l.pass < (terms_seen ss).shape.passes) lines
  opened_within lines ls e within =
      subst (λ (r : RunTerms). All (λ (l : CallLine). l.pass < r.shape.passes) lines) (sym terms)
      (subst (All (λ (l : CallLine). l.pass < heap.shape.passes)) (sym e) within)

  pub opened_ran : (alone : Bool) (tag t : Option ℕ) (lines ls : List CallLine) (output : List ℕ)
      (carrier : Option SeenPass) → tag ≡ t → lines ≡ ls
      → LinesRan alone (heap_seen ss) (terms_seen ss) tag lines output carrier
      → LinesRan alone (Some heap) (heap_terms layout heap.shape) t ls output carrier
  opened_ran alone tag t lines ls output carrier e f ran =
      subst (λ h. LinesRan alone h (heap_terms layout heap.shape) t ls output carrier) is_heap
      (subst (λ r. LinesRan alone (heap_seen ss) r t ls output carrier) terms
      (subst (λ x. LinesRan alone (heap_seen ss) (terms_seen ss) x ls output carrier) e
      (subst (λ x. LinesRan alone (heap_seen ss) (terms_seen ss) tag x output carrier) f ran)))
