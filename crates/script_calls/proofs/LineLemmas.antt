-- One more line.
use Rattle.std.proofs.Common.{◌≡◌, ◌≢◌, ℕ, eq-eqb, ne_eqb, Bool, cond, List, [], ◌∷◌, ◌++◌, Option, sym, refl, ap, ◌∙◌}
use Rattle.std.proofs.Common.{subst, append_assoc, append-nil}
use Rattle.sh_script.specs.declared.calls.CallLine.{CallLine}
use Rattle.script_output.specs.declared.answer.Answer.{Answer}
use Rattle.script_calls.specs.Parts.{RunTerms, PassPart}
use Rattle.script_output.specs.Replies.{reply_line, replies_text}
use Rattle.script_calls.specs.Runs.{CallsRun, LineAnswered, LinesAnswered, with_part}

pub record OneMore (terms : RunTerms) (tag : Option ℕ) (before : CallsRun) (lines : List CallLine)
    (answers : List Answer) (l : CallLine) (a : Answer) (after : CallsRun) : Type 0 where
  pub ran : LinesAnswered terms tag before (lines ++ l ∷ []) (answers ++ a ∷ []) after
  pub text : replies_text (lines ++ l ∷ []) (answers ++ a ∷ []) ≡ replies_text lines answers ++ reply_line l a

pub one_more : (terms : RunTerms) (tag : Option ℕ) (before mid after : CallsRun) (lines : List CallLine)
    (answers : List Answer) (l : CallLine) (a : Answer)
    → LinesAnswered terms tag before lines answers mid → LineAnswered terms tag mid l a after
    → OneMore terms tag before lines answers l a after
one_more terms tag before mid after [] [] l a h s =
    let P : CallsRun → Type 0 = λ r. LineAnswered terms tag r l a after in
    record { ran = (after, subst P h s, refl); text = append-nil (reply_line l a) }
one_more terms tag before mid after [] (b ∷ bs) l a h s = absurd h
one_more terms tag before mid after (k ∷ ks) [] l a h s = absurd h
one_more terms tag before mid after (k ∷ ks) (b ∷ bs) l a h s =
    let rest = one_more terms tag h.0 mid after ks bs l a h.2 s in
    record {
      ran = (h.0, h.1, rest.ran);
      text = ap (λ t. reply_line k b ++ t) rest.text ∙ sym (append_assoc (reply_line k b) (replies_text ks bs)
          (reply_line l a));
    }

pub part_here : (parts : ℕ → PassPart) (pass p : ℕ) (u : PassPart) → p ≡ pass → with_part parts pass u p ≡ u
part_here parts pass p u e = ap (λ (b : Bool). cond b u (parts p)) (eq-eqb p pass e)

pub part_there : (parts : ℕ → PassPart) (pass p : ℕ) (u : PassPart) → p ≢ pass → with_part parts pass u p ≡ parts p
part_there parts pass p u ne = ap (λ (b : Bool). cond b u (parts p)) (ne_eqb p pass ne)
