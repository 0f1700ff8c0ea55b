use Rattle.std.proofs.Common.{◌+◌, ◌≤◌, arith, sym, ap, ◌∙◌, subst}
use Rattle.sh_lists.specs.Numbers.{upward}
use Rattle.sh_queue.specs.Numbers.{has_number, put_before}
use Rattle.sh_queue.specs.Chain.{ChainNumbers}
use Rattle.sh_queue.proofs.Marks.{has_number-mark}
use Rattle.sh_queue.proofs.Openings.{lean_after, leaves_opened, next_are_new}
use Rattle.sh_queue.proofs.queues.Queues.open_segment.Goals as goal

pub append-requires-clause-here : goal.append-requires-clause-here
append-requires-clause-here c =
    ap (has_number 10) c.make_room.ensures.same ∙ has_number-mark 10 c.self.inside.chain.numbers c.self.invariant.marked
    (omega arith)

pub append-requires-clause-apart : goal.append-requires-clause-apart
append-requires-clause-apart c = λ k from upto.
    let q = c.self.inside in
    ap (has_number k) c.make_room.ensures.same ∙ next_are_new q.chain.numbers q.chain.size q.opened q.unopened
    q.full.items c.self.invariant k from

pub invariant_of-self : goal.invariant_of-self
invariant_of-self c =
    let q = c.self.inside in
    let sized = ap (λ (v : ChainNumbers). v.size) c.append.ensures.put in
    (leaves_opened q.chain.numbers c.append.new.self.numbers q.chain.size c.append.new.self.size q.opened q.unopened
    q.full.items c.make_room.new.full.items c.args.self.now c.self.view_is c.self.invariant c.requires
    (ap (λ (v : ChainNumbers). v.numbers) c.append.ensures.put ∙ ap (put_before 10 (upward (11 + q.opened) 8))
    c.make_room.ensures.same)
    c.append.ensures.distinct
    (subst (λ n. 11 + (q.opened + 8) ≤ n) (sym sized) c.in-Ok.ensures.room)
    (lean_after q.chain.size c.make_room.new.chain.size c.append.new.self.size q.opened c.self.invariant.lean
    c.make_room.ensures.lean sized)
    c.in-Ok.ensures.notes).kept

pub returns-in-Ok-clause-ok : goal.returns-in-Ok-clause-ok
returns-in-Ok-clause-ok c =
    let q = c.self.inside in
    let sized = ap (λ (v : ChainNumbers). v.size) c.append.ensures.put in
    (leaves_opened q.chain.numbers c.append.new.self.numbers q.chain.size c.append.new.self.size q.opened q.unopened
    q.full.items c.make_room.new.full.items c.args.self.now c.self.view_is c.self.invariant c.requires
    (ap (λ (v : ChainNumbers). v.numbers) c.append.ensures.put ∙ ap (put_before 10 (upward (11 + q.opened) 8))
    c.make_room.ensures.same)
    c.append.ensures.distinct
    (subst (λ n. 11 + (q.opened + 8) ≤ n) (sym sized) c.in-Ok.ensures.room)
    (lean_after q.chain.size c.make_room.new.chain.size c.append.new.self.size q.opened c.self.invariant.lean
    c.make_room.ensures.lean sized)
    c.in-Ok.ensures.notes).shows
