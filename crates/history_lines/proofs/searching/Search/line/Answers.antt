use Rattle.std.proofs.Common.{◌≡◌, ◌∙◌, ℕ, Option, true, false, sym, subst}
use Rattle.history_lines.specs.Searched.{is_on_other}
use Rattle.history_lines.proofs.SearchLemmas.{passed_over, taken_next}
use Rattle.history_lines.proofs.searching.Search.line.Goals as goal

pub returns-then-is_on_other : goal.returns-then-is_on_other
returns-then-is_on_other c = λ only trail has.
    passed_over only trail c.args.number c.args.line.now c.args.self.now c.in_ok-said.said
    (c.in_ok-said.ensures trail.book has.taken)
    (subst (λ (o : Option ℕ). is_on_other o c.in_ok-said.said ≡ true) has.only_is
    (sym c.is_on_other.ensures ∙ c.if-is_on_other.true)) has

pub returns : goal.returns
returns c = λ only trail has.
    taken_next only trail c.args.number c.args.line.now c.take.new.self c.in_ok-said.said c.take.result
    (c.in_ok-said.ensures trail.book has.taken)
    (subst (λ (o : Option ℕ). is_on_other o c.in_ok-said.said ≡ false) has.only_is
    (sym c.is_on_other.ensures ∙ c.if-is_on_other.false)) (c.take.ensures only trail has)
