use Rattle.sh_script.proofs.ScriptLemmas.{calls_of_result, passes_of_calls, tag_of_calls, calls_fault_of_result}
use Rattle.sh_script.proofs.ScriptLemmas.{calls_only, calls_fault_only, names_of_calls}
use Rattle.sh_script.proofs.script.parse_calls.Goals as goal

pub returns-clause-calls : goal.returns-clause-calls
returns-clause-calls c = calls_of_result c.args.text.now c.calls.result c.calls.ensures

pub returns-clause-passes : goal.returns-clause-passes
returns-clause-passes c = passes_of_calls c.args.text.now c.calls.result c.calls.ensures

pub returns-clause-bound : goal.returns-clause-bound
returns-clause-bound c = names_of_calls c.args.text.now c.calls.result c.calls.ensures

pub returns-clause-tag : goal.returns-clause-tag
returns-clause-tag c = tag_of_calls c.args.text.now c.calls.result c.calls.ensures

pub returns-clause-fault : goal.returns-clause-fault
returns-clause-fault c = calls_fault_of_result c.args.text.now c.calls.result c.calls.ensures

pub returns-clause-only_calls : goal.returns-clause-only_calls
returns-clause-only_calls c = λ header lines h. rw (calls_only c.args.text.now header lines h) at c.calls.ensures

pub returns-clause-only_fault : goal.returns-clause-only_fault
returns-clause-only_fault c = λ f h. rw (calls_fault_only c.args.text.now f h) at c.calls.ensures
