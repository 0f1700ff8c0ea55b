use Rattle.std.proofs.Common.{◌∙◌, sym, subst}
use Rattle.std.proofs.lemmas.Bool.{false≢true}
use Rattle.sh_shard.specs.Pages.{page_at, HasCursor}
use Rattle.sh_shard.specs.Shards.{FullPage}
use Rattle.sh_shard.proofs.shard.returning.is_full.Goals as goal

pub returns-then-not-is_armed : goal.returns-then-not-is_armed
returns-then-not-is_armed g c = λ (f : FullPage (page_at c.args.pages.now c.args.page)). false≢true
    (sym (sym c.is_armed.ensures.armed ∙ c.if-not-is_armed.true) ∙ f.armed)

pub returns-then-has_cursor : goal.returns-then-has_cursor
returns-then-has_cursor g c = λ (f : FullPage (page_at c.args.pages.now c.args.page)). subst HasCursor f.cursor
    c.if-has_cursor.ensures

pub returns-then-has_slot : goal.returns-then-has_slot
returns-then-has_slot g c = λ (f : FullPage (page_at c.args.pages.now c.args.page)). false≢true
    (sym (f.mine c.if-has_slot.ensures.mine.0) ∙ c.if-has_slot.ensures.mine.1)
