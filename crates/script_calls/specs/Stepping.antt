-- Lines one after the other, and what each pass had heard of the steps of the lines before.
use Rattle.std.specs.Prelude.{◌≡◌, ℕ, ◌<◌, ◌≤◌, List, [], ◌∷◌, Option, Some, None}
use Rattle.std.specs.List.{Contains}
use Rattle.sh_script.specs.declared.calls.CallLine.{CallLine}
use Rattle.script_output.specs.declared.answer.Answer.{Answer}
use Rattle.sh_table.specs.declared.view.Heard.{Heard}
use Rattle.sh_table.specs.declared.view.Order.{Order}
use Rattle.sh_table.specs.Seats.{Heap}
use Rattle.sh_pass.specs.Passes.{Caller}
use Rattle.script_calls.specs.OwnParts.{PartIsTrue, steps_of}
use Rattle.script_calls.specs.Parts.{RunTerms, PassPart}
use Rattle.script_calls.specs.Receipts.{seen_of_receipt}
use Rattle.script_calls.specs.Runs.{CallsRun, LineAnswered, opening_calls}

-- pass p had heard of all steps of passes with these parts, when its own part was the one among them
abbrev pub HeardOfSteps : List Order → (ℕ → PassPart) → (p : ℕ) → Type 0
HeardOfSteps orders parts p = (q : ℕ) → 0 < steps_of (parts q).stands → (o : Order) × Contains orders o
    × (o.carrier ≡ p) × (o.steps ≡ steps_of (parts p).stands) × (o.heard.pass ≡ q)
    × (steps_of (parts q).stands ≤ o.heard.steps)

-- These lines have these answers. Before each line, its pass had heard of all steps of the lines before. After it, all
-- that the pass knows is true, nothing is begun, and its entries are those of its own part.
abbrev pub LinesHeard : List Order → RunTerms → Option ℕ → CallsRun → List CallLine → List Answer → CallsRun → Type 0
LinesHeard orders terms tag run [] [] after = after ≡ run
LinesHeard orders terms tag run [] (a ∷ answers) after = ⊥
LinesHeard orders terms tag run (l ∷ lines) [] after = ⊥
LinesHeard orders terms tag run (l ∷ lines) (a ∷ answers) after = (next : CallsRun)
    × LineAnswered terms tag run l a next × PartIsTrue terms.layout (next.parts l.pass)
    × HeardOfSteps orders run.parts l.pass × LinesHeard orders terms tag next lines answers after

-- the same of all lines of a run; and before each pass did anything to end, it had heard of all steps of all lines
abbrev pub StepsInTurn : List Order → Option Heap → RunTerms → Option ℕ → List CallLine → List Answer → CallsRun
    → Type 0
StepsInTurn orders heap terms tag lines answers after =
    LinesHeard orders terms tag (opening_calls heap) lines answers after
    × ((p : ℕ) → p < terms.shape.passes → HeardOfSteps orders after.parts p)

-- ---- how it is found

-- the last receipt contains all steps of passes with these parts
abbrev pub LastHasSteps : (ℕ → PassPart) → Option Caller → Type 0
LastHasSteps parts None = (p : ℕ) → steps_of (parts p).stands ≡ 0
LastHasSteps parts (Some r) = (p : ℕ) → 0 < steps_of (parts p).stands → (h : Heard)
    × Contains (seen_of_receipt r).heard h × (h.pass ≡ p) × (steps_of (parts p).stands ≤ h.steps)
