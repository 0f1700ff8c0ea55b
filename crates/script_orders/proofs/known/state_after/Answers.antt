use Rattle.std.proofs.Common.{rc_value, ◌≡◌, List, length, get_or, subst, ◌∙◌, arith, Option, Some}
use Rattle.std.proofs.lemmas.List.{length-map}
use Rattle.std.proofs.lemmas.Option.{slice_get_within}
use Rattle.script_orders.specs.declared.changes.Change.{Change}
use Rattle.script_orders.specs.declared.known.NextStep.{NextStep}
use Rattle.script_orders.specs.Changes.{changes_with}
use Rattle.script_orders.specs.Known.{DoesNext}
use Rattle.script_orders.specs.Lanes.{Did, did}
use Rattle.script_orders.specs.Reached.{lanes_of}
use Rattle.script_orders.specs.States.{Follows}
use Rattle.script_orders.proofs.Again.{goes_next}
use Rattle.script_orders.proofs.known.state_after.Goals as goal

pub after-requires : goal.after-requires
after-requires g c =
    let layout = g.L.KeyLayout.layout in
    let p = c.args.program.now in
    let s = c.args.state.now in
    let takes : DoesNext layout p s c.args.pass (Some c.in-Some.next) =
    subst (λ (o : Option NextStep). DoesNext layout p s c.args.pass o) c.in-Some.is c.requires.next in
    let less = slice_get_within (lanes_of s) c.args.pass takes.0 takes.1 in
    let long : length (lanes_of s) ≡ length s.lanes.items =
    length-map s.lanes.items (λ lane. did (rc_value lane)) in
    omega arith

pub returns : goal.returns
returns g c =
    let layout = g.L.KeyLayout.layout in
    let p = c.args.program.now in
    let s = c.args.state.now in
    let pass = c.args.pass in
    let opening = c.args.heap.now.opening.items in
    let next : NextStep = c.in-Some.next in
    let after = c.in_ok-after.after in
    let takes : DoesNext layout p s pass (Some next) =
    subst (λ (o : Option NextStep). DoesNext layout p s pass o) c.in-Some.is c.requires.next in
    let changes : c.in_ok-changes.changes.items
    ≡ changes_with s.changes.items next.number (get_or opening next.number 0) next.left =
    c.in_ok-changes.ensures ∙ (λ i. changes_with (c.as_slice-old.ensures.value i) next.number
    (get_or (c.as_slice-words.ensures.value i) next.number 0) next.left) in
    let follows = subst (λ (cs : List Change). Follows p.lines.now pass (did (rc_value c.in_ok-lane.lane)) cs s after)
    changes c.in_ok-after.ensures in
    goes_next layout p s after opening pass takes.0 next c.requires.heap.heap c.requires.heap.begins c.requires.reached
    takes.1 takes.2 (subst (λ (d : Did). Follows p.lines.now pass d (changes_with s.changes.items next.number
    (get_or opening next.number 0) next.left) s after) c.in_ok-lane.ensures follows)
