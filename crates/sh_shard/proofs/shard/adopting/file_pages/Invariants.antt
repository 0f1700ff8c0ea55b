use Rattle.sh_shard.specs.Returning.{FilesFirst}
use Rattle.sh_shard.proofs.shard.adopting.file_pages.Given as goal

abbrev pub invariant-loop-page : goal.invariant-loop-page
invariant-loop-page g l = FilesFirst l.page l.pages l.fn.filing l.filing
