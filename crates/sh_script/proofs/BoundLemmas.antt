-- A script's names are bound before they are needed.
use Rattle.std.proofs.Common.{◌≡◌, ℕ, ◌+◌, ◌<◌, zero, suc, List, [], ◌∷◌, ◌++◌, length, filter, take, slice_get, Option}
use Rattle.std.proofs.Common.{Some, None, IfSome, ◌⊎◌, inl, inr, refl, sym, ap, subst, ◌∙◌, arith}
use Rattle.std.proofs.lemmas.List.{length-append}
use Rattle.std.proofs.lemmas.List.Elements.{filter-append}
use Rattle.std.proofs.lemmas.Option.{slice_get_within, same_Some}
use Rattle.sh_script.specs.Words.{Word}
use Rattle.sh_script.specs.Names.{Binding}
use Rattle.sh_script.specs.CallLines.{CallsSoFar, no_calls, with_name}
use Rattle.sh_script.specs.CallMeaning.{IsReference, IsCall, IsCallLine, SaysCall}
use Rattle.sh_script.specs.BoundNames.{name_referred, name_needed, binds, names_in, NamesAreBound}
use Rattle.sh_script.specs.declared.header.Header.{Header}
use Rattle.sh_script.specs.declared.calls.Reference.{Reference}
use Rattle.sh_script.specs.declared.calls.Reference.TheVariants as reference
use Rattle.sh_script.specs.declared.calls.Call.{Call}
use Rattle.sh_script.specs.declared.calls.Call.TheVariants as call
use Rattle.sh_script.specs.declared.calls.CallLine.{CallLine}
use Rattle.sh_script.proofs.PassLemmas.{IsLasting}

-- ---- a call

refers_below : (names : List Binding) (word : Word) (r : Reference) → IsReference names word r
    → IfSome (name_referred r) (λ i. i < length names)
refers_below names word (reference.Key k) x = tt
refers_below names word (reference.Name i) x = slice_get_within names i _ x.stands

-- it needs a name that is bound
needs_below : (names : List Binding) (ws : List Word) (c : Call) (bound : Option Binding) → IsCall names ws c bound
    → IfSome (name_needed c) (λ i. i < length names)
needs_below names ws (call.Adopt shard) bound x = tt
needs_below names ws call.Leave bound x = tt
needs_below names ws (call.Insert value) bound x = tt
needs_below names ws (call.Get r) bound x = refers_below names x.word r x.about
needs_below names ws (call.Read r) bound x = refers_below names x.word r x.about
needs_below names ws (call.Remove r) bound x = refers_below names x.word r x.about
needs_below names ws (call.Release r) bound x = refers_below names x.word r x.about
needs_below names ws call.Post bound x = tt
needs_below names ws (call.Wait i) bound x = slice_get_within names i _ (x.bound).stands

-- it binds one name if it is an insert or a post
no_new_name : (names : List Binding) (bound : Option Binding) → bound ≡ None → length (with_name names bound)
    ≡ length names + 0
no_new_name names bound e = let here : length names ≡ length names + 0 = omega arith in
    ap (λ o. length (with_name names o)) e ∙ here

one_new_name : (names : List Binding) (bound : Option Binding) (b : Binding) → bound ≡ Some b
    → length (with_name names bound) ≡ length names + 1
one_new_name names bound b e = ap (λ o. length (with_name names o)) e ∙ length-append names (b ∷ [])

binds_next : (names : List Binding) (ws : List Word) (pass : ℕ) (c : Call) (bound : Option Binding)
    → IsCall names ws c bound
    → length (with_name names bound) ≡ length names + names_in (record { pass = pass; call = c } ∷ [])
binds_next names ws pass (call.Adopt shard) bound x = no_new_name names bound x.binds_none
binds_next names ws pass call.Leave bound x = no_new_name names bound x.binds_none
binds_next names ws pass (call.Insert value) bound x = one_new_name names bound _ x.binds_name
binds_next names ws pass (call.Get r) bound x = no_new_name names bound x.binds_none
binds_next names ws pass (call.Read r) bound x = no_new_name names bound x.binds_none
binds_next names ws pass (call.Remove r) bound x = no_new_name names bound x.binds_none
binds_next names ws pass (call.Release r) bound x = no_new_name names bound x.binds_none
binds_next names ws pass call.Post bound x = one_new_name names bound _ x.binds_name
binds_next names ws pass (call.Wait i) bound x = no_new_name names bound x.binds_none

-- ---- one more line

-- an element of a list that grew is an old one, with the same ones before it, or the new one, after the old ones
get_grown : (xs : List CallLine) (y : CallLine) (j : ℕ) (k : CallLine) → slice_get (xs ++ y ∷ []) j ≡ Some k
    → ((slice_get xs j ≡ Some k) × (take j (xs ++ y ∷ []) ≡ take j xs)) ⊎ ((y ≡ k) × (take j (xs ++ y ∷ []) ≡ xs))
get_grown [] y zero k e = inr (same_Some y k e, refl)
get_grown [] y (suc j) k e = cc
get_grown (x ∷ xs) y zero k e = inl (e, refl)
get_grown (x ∷ xs) y (suc j) k e = elim (get_grown xs y j k e) [
  | inl h ↦ inl (h.0, ap (λ zs. x ∷ zs) h.1)
  | inr h ↦ inr (h.0, ap (λ zs. x ∷ zs) h.1)
]

abbrev NeedsBelow : ℕ → CallLine → Type 0
NeedsBelow n l = IfSome (name_needed l.call) (λ i. i < n)

still_bound : (lines : List CallLine) (l : CallLine) → NamesAreBound lines → NeedsBelow (names_in lines) l
    → NamesAreBound (lines ++ l ∷ [])
still_bound lines l before needs = λ j k e.
    elim (get_grown lines l j k e) [
      | inl h ↦ subst (λ xs. NeedsBelow (names_in xs) k) (sym h.1) (before j k h.0)
      | inr h ↦ subst (λ xs. NeedsBelow (names_in xs) k) (sym h.1) (subst (NeedsBelow (names_in lines)) h.0 needs)
    ]

more_names : (lines : List CallLine) (l : CallLine) → names_in (lines ++ l ∷ []) ≡ names_in lines + names_in (l ∷ [])
more_names lines l = ap length (filter-append (λ (l : CallLine). binds l.call) lines (l ∷ []))
    ∙ length-append (filter (λ (l : CallLine). binds l.call) lines) (filter (λ (l : CallLine). binds l.call) (l ∷ []))

-- ---- the calls so far

-- the number of names is that of the names that the lines bind, and they are bound before they are needed
pub record AreBound (h : Header) (calls : CallsSoFar) : Type 0 where
  pub counted : length calls.names ≡ names_in calls.lines
  pub bound : NamesAreBound calls.lines

next_bound : (h : Header) (before : CallsSoFar) (ws : List Word) (line : CallLine) (bound : Option Binding)
    → AreBound h before → IsCallLine h.shape.passes before.names ws line bound
    → AreBound h (record { names = with_name before.names bound; lines = before.lines ++ line ∷ [] })
next_bound h before ws line bound k x =
    let next : length (with_name before.names bound)
    ≡ length before.names + names_in (line ∷ []) = binds_next before.names x.others line.pass line.call bound x.calls
    in
    record {
      counted = next ∙ ap (λ n. n + names_in (line ∷ [])) k.counted ∙ sym (more_names before.lines line);
      bound = still_bound before.lines line k.bound
          (subst (λ n. NeedsBelow n line) k.counted (needs_below before.names x.others line.call bound x.calls));
    }

pub calls_stay_bound : IsLasting SaysCall no_calls AreBound
calls_stay_bound = record {
  begins = λ v ws h x. record { counted = refl; bound = λ j l e. cc };
  lasts = λ h before now ws k x. subst (AreBound h) (sym x.now_is) (next_bound h before ws x.line x.binds k x.is);
}
