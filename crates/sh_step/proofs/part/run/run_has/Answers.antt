use Rattle.std.proofs.Common.{◌≡◌, ◌==◌, ◌<◌, ◌≤◌, ◌+◌, ◌∙◌, sym, arith, false}
use Rattle.std.proofs.lemmas.Bool.Decides.{nat_tests}
use Rattle.sh_step.proofs.RunLaws.{none_of_other_pages, none_before, none_behind, has_of_run}
use Rattle.sh_step.proofs.part.run.run_has.Goals as goal

pub returns-then-run-slot_ref : goal.returns-then-run-slot_ref
returns-then-run-slot_ref c =
    let r = c.args.run in
    let test = c.if-run-slot_ref.true in
    let other : (c.args.slot_ref.page == r.page) ≡ false = grind (arith, nat_tests) in
    sym (none_of_other_pages c.args.slot_ref r.page r.first 64 r.bits other)

pub returns-then-slot_ref-run : goal.returns-then-slot_ref-run
returns-then-slot_ref-run c =
    let r = c.args.run in
    let test = c.if-slot_ref-run.true in
    let before : c.args.slot_ref.slot < r.first = grind (arith, nat_tests) in
    sym (none_before c.args.slot_ref r.page r.first 64 r.bits before)

pub returns-then-slot_ref-run-ge-PLACES : goal.returns-then-slot_ref-run-ge-PLACES
returns-then-slot_ref-run-ge-PLACES c =
    let r = c.args.run in
    let test = c.if-slot_ref-run-ge-PLACES.true in
    let first = c.if-slot_ref-run.false in
    let behind : r.first + 64 ≤ c.args.slot_ref.slot = grind (arith, nat_tests) in
    sym (none_behind c.args.slot_ref r.page r.first 64 r.bits behind)

pub returns : goal.returns
returns c =
    let r = c.args.run in
    let first = c.if-slot_ref-run.false in
    let within = c.if-slot_ref-run-ge-PLACES.false in
    let page : c.args.slot_ref.page ≡ r.page = let test = c.if-run-slot_ref.false in grind (arith, nat_tests) in
    c.has_bit.ensures ∙ sym (has_of_run c.args.slot_ref r page (omega arith) (omega arith))
