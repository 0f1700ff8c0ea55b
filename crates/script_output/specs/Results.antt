-- How the result of a call is reported.
use Rattle.std.specs.Prelude.{ℕ, List, Option, Result, Ok, Err}
use Rattle.sh_value.specs.declared.refusal.Refusal.{Refusal}
use Rattle.script_output.specs.declared.answer.Answer.{Answer}
use Rattle.script_output.specs.declared.answer.Answer.TheVariants as answer
use Rattle.script_output.specs.Keys.{shown}

abbrev pub done_answer : {A : Type 0} → Result A Refusal → Answer
done_answer (Ok _) = answer.Done
done_answer (Err r) = answer.Refused r

abbrev pub value_answer : Result (List ℕ) Refusal → Answer
value_answer (Ok words) = answer.Read words
value_answer (Err r) = answer.Refused r

abbrev pub key_answer : Option ℕ → Result ℕ Refusal → Answer
key_answer tag (Ok key) = answer.Key (shown tag key)
key_answer tag (Err r) = answer.Refused r
