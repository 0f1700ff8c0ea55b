use Rattle.std.proofs.Common.{arith, ◌≡◌, ◌<◌, ◌≤◌, ◌∙◌, ℕ, ap, map, length, set, Some, slice_get}
use Rattle.std.specs.Option.{option_map}
use Rattle.std.proofs.lemmas.Grind.{common_steps}
use Rattle.std.proofs.lemmas.Option.{gets, slice_get-map}
use Rattle.script_calls.proofs.HearLaws.{hearing_begins, hearing_ends, hearing_knows, heeded_more, last_of_side}
use Rattle.script_calls.proofs.InTurn.{map_set}
use Rattle.script_calls.proofs.Newcomers.{length_map}
use Rattle.script_calls.proofs.heeding.heed_in_turn.Goals as goal

pub loop-place-init : goal.loop-place-init
loop-place-init g c = hearing_begins g.at.0 c.args.last (map g.S.Side.seen c.args.sides.items) c.requires.1.1

pub heed_last-requires : goal.heed_last-requires
heed_last-requires g c =
    let seen = g.S.Side.seen in
    let place : ℕ = c.loop-place.place in
    let found : slice_get c.loop-place.sides.items place ≡ Some c.in-Some.side.now = grind (arith, common_steps, gets)
    in
    let at : slice_get (map seen c.loop-place.sides.items) place ≡ Some (seen c.in-Some.side.now) =
    slice_get-map seen c.loop-place.sides.items place ∙ ap (option_map seen) found in
    last_of_side g.at.0 g.at.1 c.args.last (map seen c.args.sides.items) place (map seen c.loop-place.sides.items)
    c.loop-place.heard c.loop-place.invariant c.requires.1.0 (seen c.in-Some.side.now) at

pub loop-place-preserved : goal.loop-place-preserved
loop-place-preserved g c =
    let seen = g.S.Side.seen in
    let place : ℕ = c.loop-place.place in
    let found : slice_get c.loop-place.sides.items place ≡ Some c.in-Some.side.now = grind (arith, common_steps, gets)
    in
    let at : slice_get (map seen c.loop-place.sides.items) place ≡ Some (seen c.in-Some.side.now) =
    slice_get-map seen c.loop-place.sides.items place ∙ ap (option_map seen) found in
    let mid = seen c.heed_last.new.side in
    let put : map seen (set c.loop-place.sides.items place c.receipt.new.self)
    ≡ set (map seen c.loop-place.sides.items) place mid = map_set seen c.loop-place.sides.items place c.receipt.new.self
    ∙ ap (set (map seen c.loop-place.sides.items) place) c.receipt.ensures.same in
    heeded_more g.at.0 g.at.1 c.args.last (map seen c.args.sides.items) place (map seen c.loop-place.sides.items)
    c.loop-place.heard c.loop-place.invariant c.requires.1.0 (seen c.in-Some.side.now) at mid c.heed_last.ensures
    _ c.receipt.result put c.receipt.ensures.tells

-- the loop ends at the last side
ends : (n count size many : ℕ) → count ≤ n → count ≡ many → size ≡ many → size ≤ n
ends n count size many past is same = omega (arith, past, is, same)

pub returns-clause-hear : goal.returns-clause-hear
returns-clause-hear g c =
    let seen = g.S.Side.seen in
    let many = c.args.sides.ok.0 in
    let counted = c.len-count.ensures in
    let count : c.len-count.result ≡ length c.args.sides.items = omega (arith, many, counted) in
    let past : length (map seen c.args.sides.items) ≤ c.loop-place.place =
    ends c.loop-place.place c.len-count.result (length (map seen c.args.sides.items)) (length c.args.sides.items)
    c.loop-place-test.false count (length_map seen c.args.sides.items) in
    hearing_ends g.at.0 c.args.last (map seen c.args.sides.items) c.loop-place.place
    (map seen c.loop-place.sides.items) c.loop-place.heard past c.loop-place.invariant

pub returns-clause-of : goal.returns-clause-of
returns-clause-of g c = c.loop-place.invariant.of

pub returns-clause-knows : goal.returns-clause-knows
returns-clause-knows g c =
    let seen = g.S.Side.seen in
    let many = c.args.sides.ok.0 in
    let counted = c.len-count.ensures in
    let count : c.len-count.result ≡ length c.args.sides.items = omega (arith, many, counted) in
    let past : length (map seen c.args.sides.items) ≤ c.loop-place.place =
    ends c.loop-place.place c.len-count.result (length (map seen c.args.sides.items)) (length c.args.sides.items)
    c.loop-place-test.false count (length_map seen c.args.sides.items) in
    hearing_knows g.at.0 c.args.last (map seen c.args.sides.items) c.loop-place.place
    (map seen c.loop-place.sides.items) c.loop-place.heard past c.loop-place.invariant
