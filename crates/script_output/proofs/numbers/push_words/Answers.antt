use Rattle.std.proofs.Common.{rules, arith, ◌≡◌, ◌+◌, ◌<◌, ◌≤◌, length, ap, ◌∙◌, take, decimal, slice_index_or}
use Rattle.std.proofs.Common.{length-append}
use Rattle.std.specs.Vec.{vec_capacity, vec_len}
use Rattle.script_output.specs.Numbers.{words_text}
use Rattle.script_output.proofs.NumberLemmas.{no_room}
use Rattle.script_output.proofs.numbers.push_words.Goals as goal

pub returns-in_err-extend_from_slice-clause-full : goal.returns-in_err-extend_from_slice-clause-full
returns-in_err-extend_from_slice-clause-full c =
    let i = c.loop-word.word-index in
    let words = c.args.words.now in
    let old = c.args.out.now in
    let now = c.loop-word.out in
    let below : i < length words = search rules in
    let full : vec_capacity now < vec_len now + 1 = search rules in
    let len : vec_len now ≡ length old.items + length (words_text (take i words)) =
    now.ok.0 ∙ (ap length c.loop-word.invariant.text ∙ length-append old.items (words_text (take i words))) in
    no_room c.from_residual.result words i (vec_capacity old) (vec_capacity now) (vec_len old) (length old.items)
    (vec_len now) 1 below (omega arith) c.loop-word.invariant.room full len old.ok.0

pub returns-in_err-push_number-clause-full : goal.returns-in_err-push_number-clause-full
returns-in_err-push_number-clause-full c =
    let i = c.loop-word.word-index in
    let words = c.args.words.now in
    let old = c.args.out.now in
    let now = c.loop-word.out in
    let mid = c.extend_from_slice.new.self in
    let below : i < length words = search rules in
    let long : vec_len mid ≡ vec_len now + 1 = search rules in
    let more : vec_capacity now ≤ vec_capacity mid = search rules in
    let full : vec_capacity mid < vec_len mid + length (decimal (slice_index_or words i 0)) = search rules in
    let len : vec_len now ≡ length old.items + length (words_text (take i words)) =
    now.ok.0 ∙ (ap length c.loop-word.invariant.text ∙ length-append old.items (words_text (take i words))) in
    no_room c.from_residual-in_err-push_number.result words i (vec_capacity old) (vec_capacity mid) (vec_len old)
    (length old.items) (vec_len now) (1 + length (decimal (slice_index_or words i 0))) below (omega arith)
    (omega (arith, c.loop-word.invariant.room, more)) (omega (arith, full, long)) len old.ok.0
