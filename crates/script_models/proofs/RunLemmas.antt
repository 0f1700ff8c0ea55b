-- Runs on the plain store: one more line.
use Rattle.std.proofs.Common.{◌≡◌, ℕ, ◌+◌, ◌<◌, List, [], ◌∷◌, ◌++◌, length, take, get_or, refl, sym, ap, subst, ◌∙◌}
use Rattle.std.proofs.Common.{append_assoc, append-nil, false, Result, Ok, Err, OnOk}
use Rattle.std.specs.Prelude.{is_err}
use Rattle.std.proofs.lemmas.List.{take_more}
use Rattle.sh_key.specs.Layout.{Layout}
use Rattle.sh_script.specs.declared.calls.CallLine.{CallLine}
use Rattle.script_output.specs.declared.answer.Answer.{Answer}
use Rattle.script_output.specs.Replies.{reply_line, replies_text}
use Rattle.script_models.specs.PlainRun.{Run, TakesLine, Ran}
use Rattle.script_models.specs.Output.{Writes}

record OneMore (layout : Layout) (before : Run) (lines : List CallLine) (answers : List Answer) (l : CallLine)
    (a : Answer) (next : Run) : Type 0 where
  ran : Ran layout before (lines ++ l ∷ []) (answers ++ a ∷ []) next
  text : replies_text (lines ++ l ∷ []) (answers ++ a ∷ []) ≡ replies_text lines answers ++ reply_line l a

one_more : (layout : Layout) (before mid next : Run) (lines : List CallLine) (answers : List Answer) (l : CallLine)
    (a : Answer)
    → Ran layout before lines answers mid → TakesLine layout mid l a next → OneMore layout before lines answers l a next
one_more layout before mid next [] [] l a h s =
    let P : Run → Type 0 = λ r. TakesLine layout r l a next in
    record { ran = (next, subst P h s, refl); text = append-nil (reply_line l a) }
one_more layout before mid next [] (b ∷ bs) l a h s = absurd h
one_more layout before mid next (k ∷ ks) [] l a h s = absurd h
one_more layout before mid next (k ∷ ks) (b ∷ bs) l a h s =
    let rest = one_more layout h.0 mid next ks bs l a h.2 s in
    record {
      ran = (h.0, h.1, rest.ran);
      text = ap (λ t. reply_line k b ++ t) rest.text ∙ sym (append_assoc (reply_line k b) (replies_text ks bs)
          (reply_line l a));
    }

-- the lines up to the one at i, and that one
pub writes_more : (layout : Layout) (before mid next : Run) (lines : List CallLine) (i : ℕ) (l : CallLine) (a : Answer)
    (old new : List ℕ)
    → i < length lines → l ≡ get_or lines i l → Writes layout before (take i lines) mid old
    → TakesLine layout mid l a next
    → new ≡ old ++ reply_line l a → Writes layout before (take (i + 1) lines) next new
writes_more layout before mid next lines i l a old new lt is w s e =
    let more = one_more layout before mid next (take i lines) w.answers l a w.ran s in
    let P : List CallLine → Type 0 = λ ls. Writes layout before ls next new in
    let taken : take (i + 1) lines ≡ take i lines ++ l ∷ [] = take_more lines i l lt
    ∙ ap (λ x. take i lines ++ x ∷ []) (sym is) in
    subst P (sym taken) (record {
      answers = w.answers ++ a ∷ [];
      ran = more.ran;
      is = e
          ∙ ap (λ t. t ++ reply_line l a) w.is ∙ sym more.text;
    })

-- what holds on success, if there was no error
pub from_ok : {A E P : Type 0} (r : Result A E) → false ≡ is_err r → OnOk r P → P
from_ok (Ok x) e h = h
from_ok (Err x) e h = cc
