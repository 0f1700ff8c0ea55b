use Rattle.std.proofs.Common.{◌≡◌, ◌∙◌, ◌+◌, ◌-◌, ◌%◌, ◌^◌, ◌<◌, ap, arith, sym}
use Rattle.sh_word.specs.Fields.{word_of}
use Rattle.sh_pass.proofs.LiveWords.{live, got_by_one_test}
use Rattle.sh_pass.proofs.entering.answer.Goals as goal

pub returns-then-found-live : goal.returns-then-found-live
returns-then-found-live c =
    let test = c.if-found-live.true in
    let same = c.from.ensures in
    let less : (c.args.found + (2 ^ 64 - c.word-live.result)) % 2 ^ 64 < c.args.guard_max = omega arith in
    let is : c.word-live.result ≡ word_of (live c.args.generation 0) = c.word-live.ensures.value
    ∙ ap word_of c.new.ensures.fields in
    sym (got_by_one_test c.args.generation c.args.guard_max c.word-live.result c.args.found c.ranges.generation.fits
    c.ranges.found.fits c.requires is less)
