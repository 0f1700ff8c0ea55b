-- Results that answers report.
use Rattle.std.proofs.Common.{◌≡◌, ℕ, ◌<◌, ◌≤◌, true, false, List, length, refl, ap, Option, Result, Err, lt-ltb}
use Rattle.std.proofs.lemmas.Bool.{le-ltb}
use Rattle.std.specs.Prelude.{nat_lt}
use Rattle.sh_value.specs.declared.refusal.Refusal.{Refusal}
use Rattle.sh_value.specs.declared.refusal.Refusal.TheVariants as refusal
use Rattle.script_output.specs.declared.answer.Answer.{Answer}
use Rattle.script_output.specs.declared.answer.Answer.TheVariants as answer
use Rattle.script_calls.specs.Parts.{RunTerms, PassPart}
use Rattle.script_calls.specs.Calls.{AnswerSays, InsertAnswers, WordsAnswers}
use Rattle.script_output.specs.Results.{key_answer}

pub says : {A : Type 0} {tell : Result A Refusal → Answer} {CallAnswers : Result A Refusal → PassPart → Type 0}
    (r : Result A Refusal) (a : Answer) (w : PassPart) → a ≡ tell r → CallAnswers r w → AnswerSays tell CallAnswers a w
says r a w e d = record { result = r; is = e; does = d }

pub too_long : (terms : RunTerms) (tag : Option ℕ) (pass : ℕ) (v : PassPart) (words : List ℕ) (r : Refusal) → r
    ≡ refusal.TooLong → 16 < length words → AnswerSays (key_answer tag) (WordsAnswers terms pass v words)
    (answer.Refused r) v
too_long terms tag pass v words r e more =
    let is : nat_lt 16 (length words) ≡ true = lt-ltb 16 (length words) more in
    record { result = Err r; is = refl; does = rw is (ap (λ (x : Refusal). Err x) e, refl) }

pub fits : (terms : RunTerms) (tag : Option ℕ) (pass : ℕ) (v w : PassPart) (words : List ℕ) (r : Result ℕ Refusal)
    (a : Answer) → length words ≤ 16 → a ≡ key_answer tag r → InsertAnswers terms pass v words r w
    → AnswerSays (key_answer tag) (WordsAnswers terms pass v words) a w
fits terms tag pass v w words r a few e d =
    let is : nat_lt 16 (length words) ≡ false = le-ltb 16 (length words) few in
    record { result = r; is = e; does = rw is d }
