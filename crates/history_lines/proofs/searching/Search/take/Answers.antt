use Rattle.std.proofs.Common.{sym, subst}
use Rattle.std.specs.Prelude.{Ok}
use Rattle.history_lines.specs.declared.reading.Reading.{Reading}
use Rattle.history_lines.specs.Taken.{CameOfLine}
use Rattle.history_lines.proofs.SearchLemmas.{taken_trail}
use Rattle.history_lines.proofs.searching.Search.take.Goals as goal

pub returns : goal.returns
returns c = λ only trail has.
    taken_trail only c.args.self.now c.note.new.self trail c.args.number c.args.line.now c.args.said
    c.in_ok-clash.clash has c.note.ensures.only
    (subst (λ (r : Reading). CameOfLine trail.book c.args.number c.args.line.now r (Ok c.in_ok-clash.clash))
    (sym c.note.ensures.reading) (c.in_ok-clash.ensures trail.book has.taken)) c.in_ok-note.ensures.lines
    c.in_ok-note.ensures.findings
