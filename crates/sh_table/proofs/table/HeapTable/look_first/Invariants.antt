use Rattle.sh_step.specs.declared.action.Action.TheVariants as action
use Rattle.sh_step.specs.declared.moves.Move.TheVariants as move
use Rattle.sh_table.proofs.table.HeapTable.look_first.Given as goal

abbrev pub ghosts-load : goal.ghosts-load
ghosts-load g a = record {
  action = action.Look a._about.0;
  the_move = move.Look a._about.0 a._about.1;
}
