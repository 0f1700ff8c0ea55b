use Rattle.std.proofs.Common.{rules, refl}
use Rattle.std.proofs.lemmas.Option.{slice_get_read}
use Rattle.tool_judge.proofs.tally.Tally.add.Goals as goal

pub returns-clause-inserted : goal.returns-clause-inserted
returns-clause-inserted g c = λ inserted. record {
  parts = c.in-Some.parts;
  is_key = search rules;
  page = c.in-Some-get_mut.page.now;
  stands = rw (← c.place-place.ensures) (slice_get_read c.args.self.now.pages.items _ c.place-place.result
      c.in-Some-get_mut.page.now refl (search rules) (search rules));
  pages = rw (c.count.ensures, c.is_removed.ensures, c.holds_on.ensures, c.place-place.ensures) refl;
  pages_of_shard = refl;
}
