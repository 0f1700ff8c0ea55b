use Rattle.std.proofs.Common.{List, ℕ, sym, subst}
use Rattle.sh_core.specs.Words.{opening}
use Rattle.sh_table.specs.TableNumbers.{HoldsInTable}
use Rattle.sh_table.proofs.TableOpeningWords.{opening_holds}
use Rattle.sh_table.proofs.opening.opening_of.Goals as goal

pub returns-in-Ok-clause-opens : goal.returns-in-Ok-clause-opens
returns-in-Ok-clause-opens g c =
    let P : List ℕ → Type 0 = λ xs. HoldsInTable c.args.shape.now xs opening in
    record {
      is_layout = g.L.KeyLayout.numbers.lawful;
      is_shape = c.words_of.ensures.shape;
      fits = c.fits.ensures.0 c.if-not-fits.false;
      words = subst P (sym c.in-Ok.ensures.words) (opening_holds c.args.shape.now);
    }
