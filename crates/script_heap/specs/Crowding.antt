-- When a get of a run in one thread is Crowded.
use Rattle.std.specs.Prelude.{◌≡◌, ℕ, ◌<◌, Bool, true, List, ◌∷◌, ◌++◌, Option}
use Rattle.std.specs.List.{All}
use Rattle.sh_key.specs.Layout.{Layout, IsLayout}
use Rattle.sh_shape.specs.Shape.{Numbers, IsShape, Fits}
use Rattle.sh_history.specs.declared.entry.Entry.{Entry}
use Rattle.sh_history.specs.declared.entry.Entry.TheVariants.{Crowded}
use Rattle.sh_history.specs.History.{holds_on}
use Rattle.sh_script.specs.declared.calls.CallLine.{CallLine}
use Rattle.script_heap.specs.HeapOutput.{IsHeapOutput}

-- in this history a get is Crowded only if its key has as many holds as a key may have
abbrev pub CrowdedIsExact : (most : ℕ) → List Entry → Type 0
CrowdedIsExact most history = (before after : List Entry) (pass key : ℕ)
    → history ≡ before ++ Crowded pass key ∷ after → holds_on before key ≡ most

-- so it is in a run of mode heap: between two lines no pass is on a slot for a moment, so its count is that of holds
abbrev pub LinesCrowdExactly : Type 0
LinesCrowdExactly = (asked : Bool) (layout : Layout) (shape : Numbers) (tag : Option ℕ) (lines : List CallLine)
    (output : List ℕ) → IsLayout layout → IsShape shape → Fits layout shape
    → All (λ (l : CallLine). l.pass < shape.passes) lines
    → (h : IsHeapOutput true layout shape tag lines asked output)
    → CrowdedIsExact layout.guard_max h.told.whole.history
