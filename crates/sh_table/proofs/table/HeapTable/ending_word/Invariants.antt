use Rattle.sh_slots.specs.declared.hand.Sight.TheVariants as sight
use Rattle.sh_step.specs.declared.action.Action.TheVariants as action
use Rattle.sh_step.specs.declared.moves.Move.TheVariants as move
use Rattle.sh_table.proofs.table.HeapTable.ending_word.Given as goal

abbrev pub ghosts-load : goal.ghosts-load
ghosts-load g a = record {
  action = action.ReadEnding;
  the_move = move.ReadEnding a._about.0 a._about.1 (sight.Measured a._about.2 a._about.3 a._about.4.now);
}
