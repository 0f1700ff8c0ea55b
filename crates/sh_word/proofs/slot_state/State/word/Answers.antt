-- The fields lie side by side, so `|` adds them, and the fields of that word are these.
use Rattle.std.proofs.Common.{ap, ◌∙◌, ◌≤◌, refl, arith}
use Rattle.sh_word.specs.Fields.{fields_of, word_of}
use Rattle.sh_word.proofs.Bits.{or_four}
use Rattle.sh_word.proofs.Words.{from_bool-le_one, fields_of-word_of}
use Rattle.sh_word.proofs.slot_state.State.word.Goals as goal

pub returns-clause-value : goal.returns-clause-value
unfolding word_of
returns-clause-value c =
    let marked_small : c.from-2.result ≤ 1 = rw c.from-2.ensures (from_bool-le_one c.self.inside.marked) in
    let present_small : c.from-3.result ≤ 1 = rw c.from-3.ensures (from_bool-le_one c.self.inside.present) in
    or_four c.from.result c.from-2.result c.from-3.result c.from-4.result (omega arith) marked_small present_small
    (omega arith) ∙ rw (← c.self.view_is) (rw (c.from.ensures, c.from-2.ensures, c.from-3.ensures, c.from-4.ensures)
    refl)

pub returns-clause-fields : goal.returns-clause-fields
returns-clause-fields c = ap fields_of (returns-clause-value c) ∙ fields_of-word_of c.args.self.now
    (rw (← c.self.view_is) c.self.invariant)
