-- The body reads each field at its bits, and a word's fields give the word back.
use Rattle.std.proofs.Common.{ap, ◌∙◌, refl}
use Rattle.sh_word.specs.Fields.{fields_of, word_of}
use Rattle.sh_word.proofs.Bits.{and_test}
use Rattle.sh_word.proofs.Words.{same_fields, word_of-fields_of}
use Rattle.sh_word.proofs.slot_state.State.of.Goals as goal

pub returns-clause-fields : goal.returns-clause-fields
unfolding fields_of
returns-clause-fields c = same_fields _ _ refl (and_test c.args.word 31) (and_test c.args.word 30) refl

pub returns-clause-word : goal.returns-clause-word
returns-clause-word c = ap word_of (returns-clause-fields c) ∙ word_of-fields_of c.args.word
