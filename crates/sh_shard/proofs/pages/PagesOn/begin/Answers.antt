use Rattle.std.proofs.Common.{length, refl, ap, ◌∙◌, sym, arith}
use Rattle.std.proofs.lemmas.List.{length-set}
use Rattle.sh_shape.specs.Places.{pages_of}
use Rattle.sh_states.specs.States.{state_at}
use Rattle.sh_table.specs.Seats.{Heap}
use Rattle.sh_shard.proofs.Beginning.{reading_more, state_of}
use Rattle.sh_shard.proofs.pages.PagesOn.begin.Goals as goal

pub loop-page-preserved : goal.loop-page-preserved
loop-page-preserved g c =
    let i = c.loop-page.invariant in
    let word = c.read_page-class_word.result in
    record {
      reading = reading_more c.args.shard c.loop-page.page word c.args.owner c.loop-page.owner
          c.read_page-class_word.new.self c.loop-page.states c.set_word.new.self i.reading
          (let l = c.loop-page-test.true in let e = i.all in omega arith) c.read_page-class_word.ensures.acts
          c.read_page-class_word.ensures.bells c.read_page-class_word.ensures.page
          c.read_page-class_word.ensures.does.stands c.read_page-class_word.ensures.few c.set_word.ensures;
      all = ap length c.set_word.ensures ∙ (length-set c.loop-page.states c.loop-page.page (state_of word) ∙ i.all);
    }

pub returns-clause-holds : goal.returns-clause-holds
returns-clause-holds g c =
    let i = c.loop-page.invariant in
    let r = i.reading in
    record {
      stands = r.stands;
      idle = r.idle;
      owned = r.owned;
      shape = r.aside.same.shape ∙ (c.pages-count.ensures.same ∙ ap (λ (h : Heap). h.shape) (sym r.aside.heap));
      bell = refl;
      known = record {
        count = i.all ∙ (c.pages-count.ensures.is ∙ ap pages_of (sym r.aside.same.shape));
        words = λ p l. let h = r.pages p (let z = c.loop-page-test.false in let e = i.all in omega arith) in
            ((state_at c.loop-page.states p).class_word, h.class);
      };
    }
