-- Reply lines: `a COMMAND RESULT` and a newline.
use Rattle.std.specs.Prelude.{ℕ, List, [], ◌∷◌, ◌++◌, codes, decimal}
use Rattle.sh_value.specs.Refusal.{refusal_number, refusal_name}
use Rattle.sh_script.specs.declared.calls.Call.{Call}
use Rattle.sh_script.specs.declared.calls.Call.TheVariants as call
use Rattle.sh_script.specs.declared.calls.CallLine.{CallLine}
use Rattle.script_output.specs.declared.answer.Answer.{Answer}
use Rattle.script_output.specs.declared.answer.Answer.TheVariants as answer
use Rattle.script_output.specs.Numbers.{value_text}

-- the command of a call
abbrev pub call_text : Call → List ℕ
call_text (call.Adopt shard) = codes "adopt"
call_text call.Leave = codes "leave"
call_text (call.Insert words) = codes "insert"
call_text (call.Get reference) = codes "get"
call_text (call.Read reference) = codes "read"
call_text (call.Remove reference) = codes "remove"
call_text (call.Release reference) = codes "release"
call_text call.Post = codes "post"
call_text (call.Wait name) = codes "wait"

-- the result
abbrev pub answer_text : Answer → List ℕ
answer_text answer.Done = codes "ok"
answer_text (answer.Key key) = decimal key
answer_text (answer.Read words) = value_text words
answer_text (answer.Refused r) = codes "refused " ++ decimal (refusal_number r) ++ codes " " ++ refusal_name r
answer_text answer.Unbound = codes "unbound"

abbrev pub reply_line : CallLine → Answer → List ℕ
reply_line line answer =
    decimal line.pass ++ codes " " ++ call_text line.call ++ codes " " ++ answer_text answer ++ codes "\n"

-- the reply lines of calls, in their order
abbrev pub replies_text : List CallLine → List Answer → List ℕ
replies_text [] answers = []
replies_text (line ∷ lines) [] = []
replies_text (line ∷ lines) (answer ∷ answers) = reply_line line answer ++ replies_text lines answers
