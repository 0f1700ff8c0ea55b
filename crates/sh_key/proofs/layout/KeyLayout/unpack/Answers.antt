use Rattle.std.proofs.Common.{rules, arith, sym, ◌∙◌}
use Rattle.std.proofs.lemmas.Grind.{common_steps}
use Rattle.sh_key.proofs.Packing.{unpacked_is, unpacked_only}
use Rattle.sh_key.proofs.layout.KeyLayout.unpack.Goals as goal

pub returns-then-generation-eq0-clause-parts : goal.returns-then-generation-eq0-clause-parts
returns-then-generation-eq0-clause-parts g c = grind (arith, common_steps)

pub returns-clause-parts : goal.returns-clause-parts
returns-clause-parts g c = search rules

pub returns-then-generation-eq0-clause-only : goal.returns-then-generation-eq0-clause-only
returns-then-generation-eq0-clause-only g c = λ p h. returns-then-generation-eq0-clause-parts g c
    ∙ unpacked_only g.Self.KeyLayout.layout p c.args.key h

pub returns-clause-packs : goal.returns-clause-packs
returns-clause-packs g c = unpacked_is g.Self.KeyLayout.layout c.args.key _ (sym (returns-clause-parts g c))

pub returns-clause-only : goal.returns-clause-only
returns-clause-only g c = λ p h. returns-clause-parts g c ∙ unpacked_only g.Self.KeyLayout.layout p c.args.key h
