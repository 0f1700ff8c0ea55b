use Rattle.std.proofs.Common.{refl, inl, ◌∙◌, sym, arith}
use Rattle.sh_shard.proofs.Sorting.{not_full}
use Rattle.sh_shard.proofs.shard.returning.return_page.Goals as goal

pub returns-then-page-opened : goal.returns-then-page-opened
returns-then-page-opened g c = inl (
  refl,
  inl (not_full c.args.page c.args.queues.now c.opened-opened.ensures.once
      (let o = c.opened-opened.ensures.opened in let t = c.if-page-opened.true in omega arith)),
)

pub is_full-requires-clause-few : goal.is_full-requires-clause-few
is_full-requires-clause-few g c = c.requires.few (sym c.in_full.ensures ∙ c.if-not-in_full.false)
