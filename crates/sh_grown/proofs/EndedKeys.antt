-- The key that the member of a chunk said to have ended leaves room for the number of the chunk.
use Rattle.std.proofs.Common.{ℕ, ◌^◌, ◌<◌, Bool, List, Option, Some, None, refl}
use Rattle.std.specs.Prelude.{IfSome, IsSome}
use Rattle.sh_key.specs.Layout.{unpacked}
use Rattle.sh_chunk.specs.Chunks.{chunked}
use Rattle.sh_table.specs.declared.view.View.{View}
use Rattle.sh_pass.specs.Passes.{Caller}
use Rattle.sh_pass.specs.Telling.{TellsEnd}
use Rattle.sh_member.specs.Sides.{SeenSide, SideDoes, caller_by}
use Rattle.sh_member.proofs.CallersOf.{caller_did}
use Rattle.sh_grown.proofs.Places.{is_key}

ended_fits : {M : Type 0} (asks : Bool) (takes : M → List ℕ → M → Type 0) (ended : Option ℕ) (before after : M)
    (v w : View) → ((k : ℕ) → IsSome (unpacked chunked k) → k < 2 ^ 56)
    → TellsEnd asks takes chunked ended before after v w → IfSome ended (λ k. k < 2 ^ 56)
ended_fits asks takes None before after v w fits t = tt
ended_fits asks takes (Some k) before after v w fits t =
    fits k (is_key chunked v.shape k t.1.ending.name _ refl t.1.named)

-- the same of a call of the member that says it
pub told_fits : {A M : Type 0} (asks : Bool) (takes : M → List ℕ → M → Type 0) (ended : Option ℕ) (before after : M)
    (does : Caller → A → Caller → Type 0) (answer : A) (m n : SeenSide)
    → ((k : ℕ) → IsSome (unpacked chunked k) → k < 2 ^ 56)
    → ((v w : Caller) → does v answer w → TellsEnd asks takes chunked ended before after v.view w.view)
    → SideDoes chunked does m answer n → IfSome ended (λ k. k < 2 ^ 56)
told_fits asks takes ended before after does answer m n fits tells did =
    ended_fits asks takes ended before after (caller_by m).view (caller_by n).view fits
    (tells (caller_by m) (caller_by n) (caller_did chunked does answer m n did))
