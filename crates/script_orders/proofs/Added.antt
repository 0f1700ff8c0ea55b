-- What holds of each state of a level holds after one was added.
use Rattle.std.proofs.Common.{◌≡◌, ℕ, ◌<◌, List, [], ◌∷◌, ◌++◌, length, get_or, slice_get, Some, refl, sym, ap, ◌∙◌}
use Rattle.std.proofs.Common.{subst, arith, inl, inr, set, map}
use Rattle.std.specs.Prelude.{vec_items}
use Rattle.std.specs.List.{All}
use Rattle.std.specs.Rc.{rc_value}
use Rattle.std.proofs.lemmas.Bool.{cases_eq}
use Rattle.std.proofs.lemmas.List.{length-set, get_or-set_same, get_or-set_other}
use Rattle.std.proofs.lemmas.List.Elements.{All-nil, All-cons, All-append}
use Rattle.std.proofs.lemmas.Option.{slice_get_within, get_or_from_slice_get}
use Rattle.sh_key.specs.Layout.{Layout}
use Rattle.script_orders.specs.declared.found.Program.{Program}
use Rattle.script_orders.specs.declared.changes.Change.{Change}
use Rattle.script_orders.specs.declared.state.State.{State}
use Rattle.script_orders.specs.Lanes.{Did, did}
use Rattle.script_orders.specs.Reached.{LeadsTo, lanes_of, IsReached}
use Rattle.script_orders.specs.States.{AreAlike, HasAlike, WithOrders, Added}
use Rattle.script_orders.specs.States.Added.{merged, pushed}
use Rattle.script_orders.specs.Walks.{IsFollowed}
use Rattle.script_orders.proofs.ListSteps.{get_set_same, get_set_other, get_push}
use Rattle.sh_history.proofs.ByPlace.{get_last}

pub all_set : {A : Type 0} (P : A → Type 0) (xs : List A) (i : ℕ) (y : A) → i < length xs → P y → All P xs
    → All P (set xs i y)
all_set P xs i y less here all k d within = elim (cases_eq k i) [
  | inl same ↦
      subst P (sym (ap (λ (n : ℕ). get_or (set xs i y) n d) same ∙ get_or-set_same xs i y d less)) here
  | inr ne ↦
      let l = length-set xs i y in subst P (sym (get_or-set_other xs i k y d ne)) (all k d (omega arith))
]

pub all_push : {A : Type 0} (P : A → Type 0) (xs : List A) (y : A) → P y → All P xs → All P (xs ++ y ∷ [])
all_push P xs y here all = All-append P xs (y ∷ []) all (All-cons P y [] here (All-nil P))

pub lanes_same : (s u : State) → u.lanes ≡ s.lanes → lanes_of u ≡ lanes_of s
lanes_same s u is = λ i. map (λ lane. did (rc_value lane)) (is i).items

pub with_orders : (layout : Layout) (p : Program) (s t u : State) → WithOrders s t u → IsReached layout p s
    → IsReached layout p u
with_orders layout p s t u with' reached =
    subst (λ (os : List ℕ). LeadsTo layout p os u.changes.items (lanes_of u)) (sym (ap vec_items with'.order))
    (subst (λ (cs : List Change). LeadsTo layout p s.order.items cs (lanes_of u)) (sym (ap vec_items with'.changes))
    (subst (λ (ds : List Did). LeadsTo layout p s.order.items s.changes.items ds)
    (sym (lanes_same s u with'.lanes)) reached))

pub added_reached : (layout : Layout) (p : Program) (old new : List State) (s : State) → Added old s new
    → All (IsReached layout p) old → IsReached layout p s → All (IsReached layout p) new
added_reached layout p old new s (merged place there both at alike with' is) all reached =
    let less = slice_get_within old place there at in
    let here : IsReached layout p there =
    subst (IsReached layout p) (get_or_from_slice_get old place there there at) (all place there less) in
    subst (All (IsReached layout p)) (sym is)
    (all_set (IsReached layout p) old place both less (with_orders layout p there s both with' here) all)
added_reached layout p old new s (pushed none is) all reached =
    subst (All (IsReached layout p)) (sym is) (all_push (IsReached layout p) old s reached all)

-- ---- which states a level has

pub with_alike : (s t u x : State) → WithOrders s t u → AreAlike s x → AreAlike u x
with_alike s t u x with' alike = record {
  lanes = lanes_same s u with'.lanes ∙ alike.lanes;
  changes = ap vec_items with'.changes ∙ alike.changes;
}

pub keeps_alike : (old new : List State) (s : State) → Added old s new → (t : State) → HasAlike old t → HasAlike new t
keeps_alike old new s (merged place there both at alike with' is) t (k, u, got, same) =
    let here : slice_get new k ≡ slice_get (set old place both) k = ap (λ (xs : List State). slice_get xs k) is in
    elim (cases_eq k place) [
      | inl e ↦
          let at' : slice_get old k ≡ Some there = ap (slice_get old) e ∙ at in
          let one : u ≡ there = let z : Some u ≡ Some there = sym got ∙ at' in cc in (
            k,
            both,
            here ∙ ap (λ (n : ℕ). slice_get (set old n both) k) (sym e) ∙ get_set_same old k there both at',
            with_alike there s both t with' (subst (λ (x : State). AreAlike x t) one same),
          )
      | inr ne ↦ (k, u, here ∙ get_set_other old place k both ne ∙ got, same)
    ]
keeps_alike old new s (pushed none is) t (k, u, got, same) =
    (k, u, ap (λ (xs : List State). slice_get xs k) is ∙ get_push old k u s got, same)

pub has_added : (old new : List State) (s : State) → Added old s new → HasAlike new s
has_added old new s (merged place there both at alike with' is) = (
  place,
  both,
  ap (λ (xs : List State). slice_get xs place) is ∙ get_set_same old place there both at,
  with_alike there s both s with' alike,
)
has_added old new s (pushed none is) = (
  length old,
  s,
  ap (λ (xs : List State). slice_get xs (length old)) is
      ∙ get_last old s,
  record { lanes = refl; changes = refl },
)

pub followed_kept : (layout : Layout) (p : Program) (old new : List State) (s : State) (pass : ℕ)
    → ((t : State) → HasAlike old t → HasAlike new t) → IsFollowed layout p old s pass → IsFollowed layout p new s pass
followed_kept layout p old new s pass keeps (inl rests) = inl rests
followed_kept layout p old new s pass keeps (inr (t, goes, has)) = inr (t, goes, keeps t has)
