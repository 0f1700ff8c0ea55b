use Rattle.sh_step.specs.declared.action.Action.TheVariants as action
use Rattle.sh_step.specs.declared.moves.Move.TheVariants as move
use Rattle.sh_table.proofs.table.HeapTable.peek_state.Given as goal

abbrev pub ghosts-load : goal.ghosts-load
ghosts-load g a = record { action = action.Peek a._about.0; the_move = move.Peek a._about.1 }
