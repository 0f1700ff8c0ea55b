use Rattle.std.proofs.Common.{◌≡◌, ℕ, Option, Some, refl, ◌∙◌, sym, subst}
use Rattle.sh_shard.specs.Returning.{ReturnsGained}
use Rattle.sh_shard.proofs.FullPages.{but_none, but_returned, full_classed}
use Rattle.sh_shard.proofs.shard.returning.return_one.Goals as goal

pub return_page-requires-clause-classed : goal.return_page-requires-clause-classed
return_page-requires-clause-classed g c = λ here. (c.requires.sorted.word c.in-Some.page here).0

pub return_page-requires-clause-few : goal.return_page-requires-clause-few
return_page-requires-clause-few g c = λ here. (c.requires.sorted.word c.in-Some.page here).1

pub returns-in_default-clause-moved : goal.returns-in_default-clause-moved
returns-in_default-clause-moved g c = subst (λ (z : Option ℕ). ReturnsGained z c.args.pages.now c.args.queues.now
    c.args.queues.now) (sym c.in_default.is) refl

pub returns-clause-moved : goal.returns-clause-moved
returns-clause-moved g c = subst (λ (z : Option ℕ). ReturnsGained z c.args.pages.now c.args.queues.now
    c.return_page.new.queues) (sym c.in-Some.is) c.return_page.ensures

pub returns-clause-sorted : goal.returns-clause-sorted
returns-clause-sorted g c = but_none c.args.pages.now c.return_page.new.queues (λ r. ⊥)
    (but_returned c.args.pages.now c.args.queues.now c.return_page.new.queues c.in-Some.page
    (λ p. c.args.gained ≡ Some p) (λ r. ⊥) c.requires.sorted (λ r none other is. other
    (let e : Some r ≡ Some c.in-Some.page = sym is ∙ c.in-Some.is in let f : r ≡ c.in-Some.page = cc in f))
    (full_classed c.args.pages.now c.args.queues.now c.in-Some.page _ c.requires.sorted) c.return_page.ensures)
    (λ p here no. no)
