use Rattle.std.proofs.Common.{arith, rules, ◌≡◌, ◌≤◌, ◌∙◌, ℕ, None, ap, map, length, set, Some, slice_get, Err}
use Rattle.std.specs.Option.{option_map}
use Rattle.std.proofs.lemmas.Grind.{common_steps}
use Rattle.std.proofs.lemmas.Option.{gets, slice_get-map}
use Rattle.sh_value.specs.declared.refusal.Refusal.TheVariants as refusal
use Rattle.sh_member.specs.Sides.{SideLeaves}
use Rattle.script_calls.specs.OwnParts.{EndsWith, own_part}
use Rattle.script_calls.proofs.LeaveLaws.{last_of_leaver, leaving_begins, leaving_ends, left_more, waits_so}
use Rattle.script_calls.proofs.InTurn.{map_set}
use Rattle.script_calls.proofs.Newcomers.{length_map}
use Rattle.script_calls.proofs.leaving.leave_in_turn.Goals as goal

pub loop-place-init : goal.loop-place-init
loop-place-init g c = leaving_begins g.at.0 (map g.S.Side.seen c.args.sides.items) c.args.last c.requires.1.1.0
    c.requires.1.1.1

pub heed_last-requires : goal.heed_last-requires
heed_last-requires g c =
    let seen = g.S.Side.seen in
    let place : ℕ = c.loop-place.place in
    let found : slice_get c.loop-place.sides.items place ≡ Some c.in-Some.side.now = grind (arith, common_steps, gets)
    in
    let at : slice_get (map seen c.loop-place.sides.items) place ≡ Some (seen c.in-Some.side.now) =
    slice_get-map seen c.loop-place.sides.items place ∙ ap (option_map seen) found in
    last_of_leaver g.at.0 g.at.1 (map seen c.args.sides.items) place (map seen c.loop-place.sides.items)
    c.loop-place.heard c.loop-place.invariant c.requires.1.0 (seen c.in-Some.side.now) at

pub loop-place-preserved : goal.loop-place-preserved
loop-place-preserved g c =
    let seen = g.S.Side.seen in
    let place : ℕ = c.loop-place.place in
    let found : slice_get c.loop-place.sides.items place ≡ Some c.in-Some.side.now = grind (arith, common_steps, gets)
    in
    let at : slice_get (map seen c.loop-place.sides.items) place ≡ Some (seen c.in-Some.side.now) =
    slice_get-map seen c.loop-place.sides.items place ∙ ap (option_map seen) found in
    let mid = seen c.heed_last.new.side in
    let now = seen c.retire.new.side in
    let none : now.part.shard ≡ None = search rules in
    let ends : EndsWith mid.part.stands (own_part now.part.stands) = search rules in
    let put : map seen (set c.loop-place.sides.items place c.receipt.new.self)
    ≡ set (map seen c.loop-place.sides.items) place now = map_set seen c.loop-place.sides.items place c.receipt.new.self
    ∙ ap (set (map seen c.loop-place.sides.items) place) c.receipt.ensures.same in
    left_more g.at.0 g.at.1 (map seen c.args.sides.items) place (map seen c.loop-place.sides.items)
    c.loop-place.heard c.loop-place.invariant c.requires.1.0 (seen c.in-Some.side.now) at mid c.heed_last.ensures now
    c.retire.ensures.same none ends c.retire.ensures.log _ c.receipt.result put c.receipt.ensures.tells

pub returns-then-not-retire-clause-waits : goal.returns-then-not-retire-clause-waits
returns-then-not-retire-clause-waits g c =
    let seen = g.S.Side.seen in
    let place : ℕ = c.loop-place.place in
    let found : slice_get c.loop-place.sides.items place ≡ Some c.in-Some.side.now = grind (arith, common_steps, gets)
    in
    let at : slice_get (map seen c.loop-place.sides.items) place ≡ Some (seen c.in-Some.side.now) =
    slice_get-map seen c.loop-place.sides.items place ∙ ap (option_map seen) found in
    let mid = seen c.heed_last.new.side in
    let now = seen c.retire.new.side in
    let waits : SideLeaves mid.part.stands (Err refusal.Waiting) now.part.stands = search rules in
    let put : map seen (set c.loop-place.sides.items place c.bundle-bundle.new.self)
    ≡ set (map seen c.loop-place.sides.items) place now =
    map_set seen c.loop-place.sides.items place c.bundle-bundle.new.self
    ∙ ap (set (map seen c.loop-place.sides.items) place) c.bundle-bundle.ensures.same in
    waits_so g.at.0 g.at.1 (map seen c.args.sides.items) place (map seen c.loop-place.sides.items)
    c.loop-place.heard c.loop-place.invariant c.requires.1.0 (seen c.in-Some.side.now) at mid c.heed_last.ensures now
    c.retire.ensures.same c.whole-begins.ensures.stands c.whole-begins.ensures.shape c.whole-stays.ensures.stands
    c.whole-stays.ensures.shape waits _ put c.bundle-bundle.result c.bundle-bundle.ensures.opens

-- the loop ends at the last side
ends : (n count size many : ℕ) → count ≤ n → count ≡ many → size ≡ many → size ≤ n
ends n count size many past is same = omega (arith, past, is, same)

pub returns-clause-left : goal.returns-clause-left
returns-clause-left g c =
    let seen = g.S.Side.seen in
    let many = c.args.sides.ok.0 in
    let counted = c.len-count.ensures in
    let count : c.len-count.result ≡ length c.args.sides.items = omega (arith, many, counted) in
    let past : length (map seen c.args.sides.items) ≤ c.loop-place.place =
    ends c.loop-place.place c.len-count.result (length (map seen c.args.sides.items)) (length c.args.sides.items)
    c.loop-place-test.false count (length_map seen c.args.sides.items) in
    leaving_ends g.at.0 (map seen c.args.sides.items) c.loop-place.place (map seen c.loop-place.sides.items)
    c.loop-place.heard past c.loop-place.invariant
