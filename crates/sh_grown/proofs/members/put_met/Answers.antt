use Rattle.std.proofs.Common.{rules, arith, ◌≡◌, ◌<◌, ◌++◌, ◌∷◌, [], None, Some, length, ap, ◌∙◌}
use Rattle.sh_grown.specs.Callers.{met_in}
use Rattle.sh_grown.proofs.Meeting.{met_inside, met_last, met_past}
use Rattle.sh_grown.proofs.members.put_met.Goals as goal

pub loop-place-preserved : goal.loop-place-preserved
loop-place-preserved c =
    let i = c.loop-place.invariant in
    let now = c.loop-place.members in
    let chunk = c.args.chunk in
    let one = c.args.one in
    let test = c.loop-place-test.true in
    let size = now.ok.0 in
    let count = i.count in
    let less : length now.items < chunk = omega (arith, size, count, test) in
    let more : c.push.new.self.items ≡ now.items ++ None ∷ [] = search rules in
    record {
      count = search rules;
      same = ap (λ xs. met_in chunk one xs) more ∙ (met_past chunk one now.items less ∙ i.same);
      room = search rules;
    }

pub returns-then-chunk-len : goal.returns-then-chunk-len
returns-then-chunk-len c =
    let i = c.loop-place.invariant in
    let now = c.loop-place.members in
    let test = c.if-chunk-len.true in
    let len = c.len.ensures in
    let size = now.ok.0 in
    let less : c.args.chunk < length now.items = omega (arith, test, len, size) in
    met_inside c.args.chunk c.args.one now.items less ∙ i.same

pub returns-else-is_err-2 : goal.returns-else-is_err-2
returns-else-is_err-2 c =
    let i = c.loop-place.invariant in
    let now = c.loop-place.members in
    let test = c.if-chunk-len.false in
    let past = c.loop-place-test.false in
    let count = i.count in
    let len = c.len.ensures in
    let ok = now.ok.0 in
    let size : length now.items ≡ c.args.chunk = omega (arith, test, past, count, len, ok) in
    let more : c.push-else-chunk-len.new.self.items ≡ now.items ++ Some c.args.one ∷ [] = search rules in
    more ∙ (met_last c.args.chunk c.args.one now.items size ∙ i.same)
