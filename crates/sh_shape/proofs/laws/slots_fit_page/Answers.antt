use Rattle.sh_shape.proofs.ClassLaws.{slots_fit_page, slot_words_fit_page, widths_few}
use Rattle.sh_shape.proofs.laws.slots_fit_page.Goals as goal

pub returns-clause-slots : goal.returns-clause-slots
returns-clause-slots c = slots_fit_page

pub returns-clause-words : goal.returns-clause-words
returns-clause-words c = slot_words_fit_page

pub returns-clause-widths : goal.returns-clause-widths
returns-clause-widths c = widths_few
