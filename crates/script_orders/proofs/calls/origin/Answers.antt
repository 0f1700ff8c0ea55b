use Rattle.std.proofs.Common.{◌≡◌, ◌∙◌, ℕ, ◌+◌, ◌-◌, List, ◌++◌, sym, ap, arith}
use Rattle.std.specs.List.{count_by}
use Rattle.std.proofs.lemmas.Bool.{lt-leb}
use Rattle.sh_script.specs.Words.{is_newline}
use Rattle.sh_script.specs.Script.{pieces_of}
use Rattle.script_orders.specs.Calls.{steps_text, origin_from}
use Rattle.script_orders.proofs.CallLines.{origin_on}
use Rattle.script_orders.proofs.calls.origin.Goals as goal

pub loop-first-preserved : goal.loop-first-preserved
loop-first-preserved c =
    let line = c.in-Some.first.now in
    let more = c.in-Some.more.now in
    let left = c.loop-first.left in
    let is : c.newlines-count.result ≡ count_by is_newline (steps_text line) =
    c.newlines-count.ensures ∙ ap (count_by is_newline) (c.as_slice.ensures.value ∙ c.in_ok-push_line.ensures
    ∙ ap (λ (xs : List ℕ). xs ++ steps_text line) c.new-steps.ensures.items) in
    let above = c.if-left-count.false in
    let not = lt-leb left (count_by is_newline (steps_text line)) (omega (arith, above, is)) in
    record {
      told = ap (λ (n : ℕ). origin_from (c.loop-first.number + 1) (left - n) (pieces_of more)) is
          ∙ sym (origin_on c.loop-first.number left line c.loop-first.rest.now more c.in-Some.ensures.some not)
          ∙ c.loop-first.invariant.told;
      few = omega (arith, c.in-Some.ensures.shorter, c.loop-first.invariant.few);
    }
