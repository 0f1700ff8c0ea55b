use Rattle.sh_shard.proofs.FullPages.{files_next}
use Rattle.sh_shard.proofs.shard.adopting.file_pages.Goals as goal

pub loop-page-preserved : goal.loop-page-preserved
loop-page-preserved g c = files_next c.class_of.result c.loop-page.page c.args.pages.now c.args.filing.now
    c.loop-page.filing c.file.new.self c.loop-page.invariant c.class_of.ensures.class c.class_of.ensures.few
    c.file.ensures
