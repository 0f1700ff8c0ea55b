-- What a worker did: the calls of its pass's own lines, in order, each after what comes with the name that it needs.
use Rattle.std.specs.Prelude.{◌≡◌, ℕ, ◌==◌, cond, Bool, List, [], ◌∷◌, length, Option, Some, None}
use Rattle.sh_script.specs.declared.calls.Call.{Call}
use Rattle.sh_script.specs.declared.calls.CallLine.{CallLine}
use Rattle.script_calls.specs.Parts.{RunTerms, PassPart, SeenPass, new_pass}
use Rattle.script_calls.specs.Calls.{CallAnswers, number_told}
use Rattle.script_calls.specs.Receipts.{MayHeed}
use Rattle.script_calls.specs.Named.{HeardOfEntries}
use Rattle.script_workers.specs.declared.board.Bound.{Bound}
use Rattle.script_workers.specs.declared.worker.Made.{Made}
use Rattle.sh_table.specs.declared.view.Order.{Order}
use Rattle.sh_table.specs.Seats.{Heap}

-- the line is one of the pass's own
abbrev pub is_line_of : ℕ → CallLine → Bool
is_line_of p l = l.pass == p

-- the calls of a pass's own lines, in order
abbrev pub own_calls : ℕ → List CallLine → List Call
own_calls p [] = []
own_calls p (l ∷ ls) = cond (l.pass == p) (l.call ∷ own_calls p ls) (own_calls p ls)

-- the number that the name of a call is bound to, if it is bound to one
abbrev pub bound_number : Option Bound → Option ℕ
bound_number None = None
bound_number (Some bound) = bound.number

-- what the call, made by this pass, binds its name to
abbrev pub bound_by : ℕ → Made → Bound
bound_by p m = record { number = number_told m.answer; pass = p; entries = m.entries }

-- if a name is bound, the pass had heard of the entries of the pass that bound it
abbrev pub HeardOfBound : List Order → (pass first : ℕ) → Option Bound → Type 0
HeardOfBound orders pass first None = Unit {0}
HeardOfBound orders pass first (Some bound) = HeardOfEntries orders bound.pass bound.entries pass first

-- The pass, whose part was v, made this call, and then its part was u. It may have heeded a receipt first. If the call
-- needs a name, it had heard of the entries that come with it: that is one of these orders.
pub record CallMade (terms : RunTerms) (tag : Option ℕ) (p : ℕ) (orders : List Order) (v : PassPart) (c : Call)
    (m : Made) (u : PassPart) : Type 0 where
  pub begins : PassPart
  pub heeds : MayHeed v begins
  pub heard : HeardOfBound orders p (length v.log) m.bound
  pub does : CallAnswers terms tag p begins c (bound_number m.bound) m.answer u
  pub counts : m.entries ≡ length u.log

-- The pass made these calls, one after the other. Its part was v before the first, and is w.
abbrev pub CallsMade : RunTerms → Option ℕ → ℕ → List Order → PassPart → List Call → List Made → PassPart → Type 0
CallsMade terms tag p orders v [] [] w = w ≡ v
CallsMade terms tag p orders v [] (m ∷ ms) w = ⊥
CallsMade terms tag p orders v (c ∷ cs) [] w = ⊥
CallsMade terms tag p orders v (c ∷ cs) (m ∷ ms) w = (u : PassPart) × CallMade terms tag p orders v c m u
    × CallsMade terms tag p orders u cs ms w

-- From the part v on, the pass p of this heap made the calls of its own among these lines. It took in no other pass.
pub record IsWork (heap : Option Heap) (terms : RunTerms) (tag : Option ℕ) (lines : List CallLine) (p : ℕ)
    (v : PassPart) (side : SeenPass) (made : List Made) : Type 0 where
  pub is : side ≡ record (new_pass heap terms p) { part = side.part; orders = side.orders }
  pub calls : CallsMade terms tag p side.orders v (own_calls p lines) made side.part
