-- The last call of a pass, after one call more.
use Rattle.std.proofs.Common.{◌≡◌, ◌∙◌, ℕ, Bool, true, false, cond, List, [], ◌∷◌, ◌++◌, Option, Some, None, refl, sym}
use Rattle.std.proofs.Common.{ap}
use Rattle.std.specs.Prelude.{◌==◌, nat_eq}
use Rattle.std.specs.Option.{option_or}
use Rattle.std.specs.HashMap.{get}
use Rattle.history_timed.specs.declared.call.Call.{Call}
use Rattle.history_timed.specs.Calls.{pass_said}
use Rattle.history_timed.specs.Times.{Times}
use Rattle.history_lines.specs.declared.calls.Calls.{Calls}
use Rattle.history_lines.specs.Calls.{last_by, HasCalls}

or_chosen : (b : Bool) (t : Option Times) (o x : Option Times)
    → option_or (cond b t o) x ≡ cond b (option_or t x) (option_or o x)
or_chosen true t o x = refl
or_chosen false t o x = refl

-- the last call of the pass is this one, if it is of the pass
pub last_more : (pass : ℕ) (calls : List Call) (c : Call) → last_by pass (calls ++ c ∷ [])
    ≡ cond (pass_said c.said == pass) (Some c.times) (last_by pass calls)
last_more pass [] c = refl
last_more pass (x ∷ xs) c =
    ap (λ (o : Option Times). option_or o (cond (pass_said x.said == pass) (Some x.times) None)) (last_more pass xs c)
    ∙ or_chosen (pass_said c.said == pass) (Some c.times) (last_by pass xs) _

pub has_more : (a b : Calls) (calls : List Call) (c : Call) (pass : ℕ) → HasCalls a calls → pass_said c.said ≡ pass
    → b.all.items ≡ a.all.items ++ c ∷ []
    → ((q : ℕ) → get nat_eq b.last q ≡ cond (nat_eq pass q) (Some c.times) (get nat_eq a.last q))
    → HasCalls b (calls ++ c ∷ [])
has_more a b calls c pass has same items last = record {
  all_are = items ∙ ap (λ (xs : List Call). xs ++ c ∷ []) has.all_are;
  last_are = λ q. last q ∙ ap (λ (o : Option Times). cond (nat_eq pass q) (Some c.times) o) (has.last_are q)
      ∙ ap (λ (k : ℕ). cond (nat_eq k q) (Some c.times) (last_by q calls)) (sym same)
      ∙ sym (last_more q calls c);
}
