use Rattle.std.proofs.Common.{◌/◌, ◌%◌, ◌∙◌, ap, refl}
use Rattle.sh_pass.proofs.PeekLaws.{names_key}
use Rattle.sh_pass.proofs.peeking.key_in.Goals as goal

pub returns-then-in_range : goal.returns-then-in_range
returns-then-in_range g c =
    let pages = c.from-pages.ensures ∙ c.pages.ensures.pages in
    names_key g.L.KeyLayout.layout c.args.shape.now _ c.args.slot_ref c.args.generation c.pack.result
    c.pack.ensures.unpacks (c.shard_of_page.ensures ∙ ap (λ n. c.args.slot_ref.page / n) pages)
    (c.local_of.ensures ∙ ap (λ n. c.args.slot_ref.page % n) pages) refl refl c.requires.page c.requires.slot
