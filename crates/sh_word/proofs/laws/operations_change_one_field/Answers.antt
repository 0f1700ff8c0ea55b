-- Each clause is the law of that name.
use Rattle.sh_word.proofs.Words.{fields_of-wrapping_add, fields_of-wrapping_sub, fields_of-or_mark}
use Rattle.sh_word.proofs.Words.{fields_of-or_present}
use Rattle.sh_word.proofs.laws.operations_change_one_field.Goals as goal

pub returns-clause-add : goal.returns-clause-add
returns-clause-add c = fields_of-wrapping_add

pub returns-clause-subtract : goal.returns-clause-subtract
returns-clause-subtract c = fields_of-wrapping_sub

pub returns-clause-mark : goal.returns-clause-mark
returns-clause-mark c = fields_of-or_mark

pub returns-clause-publish : goal.returns-clause-publish
returns-clause-publish c = fields_of-or_present
