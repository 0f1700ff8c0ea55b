-- Where the steps of a state lead, as states are added to the next level.
use Rattle.std.proofs.Common.{◌≡◌, ℕ, zero, suc, ◌+◌, ◌*◌, ◌-◌, ◌^◌, List, [], ◌∷◌, ◌++◌, length, map, refl, sym}
use Rattle.std.proofs.Common.{ap, ◌∙◌}
use Rattle.std.proofs.Common.{subst, arith, Bool, true, false, cond, Some, None, slice_get, inl, inr}
use Rattle.std.proofs.Common.{append-nil}
use Rattle.std.specs.Prelude.{option_map, slice_set}
use Rattle.std.specs.List.{All, flat_map, range_with_len, sum_by}
use Rattle.std.proofs.lemmas.Bool.{cases_eq}
use Rattle.std.proofs.lemmas.Grind.{flat_map-append}
use Rattle.std.proofs.lemmas.List.{length-map, map-append}
use Rattle.std.proofs.lemmas.Option.{slice_get-map, slice_get_within, get_or_from_slice_get}
use Rattle.sh_key.specs.Layout.{Layout}
use Rattle.sh_history.proofs.ByPlace.{get_last}
use Rattle.script_orders.specs.declared.orders.Orders.{Orders}
use Rattle.script_orders.specs.declared.found.Program.{Program}
use Rattle.script_orders.specs.declared.state.State.{State}
use Rattle.script_orders.specs.Lanes.{Did}
use Rattle.script_orders.specs.Reached.{lanes_of, IsReached, Rests}
use Rattle.script_orders.specs.States.{AreAlike, WithOrders, Added}
use Rattle.script_orders.specs.States.Added.{merged, pushed}
use Rattle.script_orders.specs.Steps.{next_step, is_empty}
use Rattle.script_orders.specs.Walks.{GoesTo, StepsTo, IsAt, counts_of, Goes, GoesFrom}
use Rattle.script_orders.specs.Weights.{capped, weigh, Pairs}
use Rattle.script_orders.proofs.Added.{with_orders, with_alike}
use Rattle.script_orders.proofs.LineLists.{range_split}
use Rattle.script_orders.proofs.ListSteps.{get_set_same, get_set_other, get_push}
use Rattle.script_orders.proofs.Pairing.{pairs_none, pairs_one, pairs_append, pairs_also}
use Rattle.script_orders.proofs.StepsOn.{steps_alike, none_next, one_next, steps_on}
use Rattle.script_orders.proofs.Weighing.{weigh_push, weigh_grown, top_both, sum_more}

-- ---- a state is added

map_set : {A B : Type 0} (f : A → B) (xs : List A) (i : ℕ) (y : A) → map f (slice_set xs i y)
    ≡ slice_set (map f xs) i (f y)
map_set f [] i y = refl
map_set f (x ∷ xs) zero y = refl
map_set f (x ∷ xs) (suc i) y = ap (λ ys. f x ∷ ys) (map_set f xs i y)

-- the place at which it is then, and how the counts change
pub record Placed (layout : Layout) (p : Program) (old new : List State) (t : State) : Type 0 where
  pub place : ℕ
  pub there : State
  pub at : slice_get new place ≡ Some there
  pub alike : AreAlike there t
  pub reached : IsReached layout p there
  pub weighs : (w : ℕ → ℕ) → capped (weigh (counts_of new) w)
      ≡ capped (weigh (counts_of old) w + t.orders.count * w place)
  pub stays : (steps : List ℕ) (k : ℕ) → IsAt layout p old steps k → IsAt layout p new steps k

module _ (layout : Layout) (p : Program) (old new : List State) (t : State) (all : All (IsReached layout p) old)
    (reached : IsReached layout p t) where
  merged_in : (place : ℕ) (there both : State) → slice_get old place ≡ Some there → AreAlike there t
      → WithOrders there t both → new ≡ slice_set old place both → Placed layout p old new t
  merged_in place there both at alike with' is =
      let less = slice_get_within old place there at in
      let was : IsReached layout p there =
      subst (IsReached layout p) (get_or_from_slice_get old place there there at) (all place there less) in
      let now = with_orders layout p there t both with' was in
      let counted : counts_of new ≡ slice_set (counts_of old) place (capped (there.orders.count + t.orders.count)) =
      ap counts_of is
      ∙ map_set (λ (s : State). s.orders.count) old place both
      ∙ ap (slice_set (counts_of old) place) with'.orders in
      let here : slice_get (counts_of old) place ≡ Some there.orders.count =
      slice_get-map (λ (s : State). s.orders.count) old place
      ∙ ap (option_map (λ (s : State). s.orders.count)) at in record {
        place = place;
        there = both;
        at = ap (λ (xs : List State). slice_get xs place) is ∙ get_set_same old place there both at;
        alike = with_alike there t both t with' alike;
        reached = now;
        weighs = λ w.
            ap (λ (cs : List ℕ). capped (weigh cs w)) counted
            ∙ weigh_grown (counts_of old) place there.orders.count t.orders.count w here;
        stays = λ steps k h.
            let same : slice_get new k ≡ slice_get (slice_set old place both) k =
            ap (λ (xs : List State). slice_get xs k) is in elim (cases_eq k place) [
              | inl e ↦
                  let one : h.0 ≡ there =
                  let z : Some h.0 ≡ Some there = sym h.1 ∙ ap (slice_get old) e ∙ at in cc in (
                    both,
                    same ∙ ap (slice_get (slice_set old place both)) e ∙ get_set_same old place there both at,
                    steps_alike layout p steps both there now was
                        (with_alike there t both there with' (record { lanes = refl; changes = refl }))
                        (subst (StepsTo layout p steps) one h.2),
                  )
              | inr ne ↦ (h.0, same ∙ get_set_other old place k both ne ∙ h.1, h.2)
            ];
      }

  pushed_in : new ≡ old ++ t ∷ [] → Placed layout p old new t
  pushed_in is = record {
    place = length old;
    there = t;
    at = ap (λ (xs : List State). slice_get xs (length old)) is ∙ get_last old t;
    alike = record { lanes = refl; changes = refl };
    reached = reached;
    weighs = λ w.
        ap capped (ap (λ (xs : List State). weigh (counts_of xs) w) is
        ∙ ap (λ (cs : List ℕ). weigh cs w) (map-append (λ (s : State). s.orders.count) old (t ∷ []))
        ∙ weigh_push (counts_of old) t.orders.count w
        ∙ ap (λ (n : ℕ). weigh (counts_of old) w + t.orders.count * w n)
        (length-map old (λ (s : State). s.orders.count)));
    stays = λ steps k h.
        (h.0, ap (λ (xs : List State). slice_get xs k) is ∙ get_push old k h.0 t h.1, h.2);
  }

  pub placed : Added old t new → Placed layout p old new t
  placed (merged place there both at alike with' is) = merged_in place there both at alike with' is
  placed (pushed none is) = pushed_in is

-- ---- one pass more

flat_more : (f : ℕ → List ℕ) (n : ℕ) → flat_map f (range_with_len 0 (n + 1)) ≡ flat_map f (range_with_len 0 n) ++ f n
flat_more f n =
    ap (flat_map f) (range_split 0 n 1)
    ∙ flat_map-append f (range_with_len 0 n) (range_with_len (0 + n) 1)
    ∙ ap (λ (ys : List ℕ). flat_map f (range_with_len 0 n) ++ ys)
    (let e : 0 + n ≡ n = omega arith in ap (λ (m : ℕ). f m ++ []) e ∙ append-nil (f n))

some_more : (xs : List ℕ) (x : ℕ) → true ≡ cond (is_empty (xs ++ x ∷ [])) false true
some_more [] x = refl
some_more (y ∷ xs) x = refl

times_sum : (k a b : ℕ) → k * (a + b) ≡ k * a + k * b
times_sum k a b = omega arith

module _ (layout : Layout) (p : Program) (start old new : List State) (s : State) (a : ℕ) (b : Bool) (d : Did)
    (at : slice_get (lanes_of s) a ≡ Some d) (from : GoesFrom layout p a start old s b) where
  abbrev held : Goes layout p a start old s
  held = from.goes

  abbrev nexts_before : List ℕ → List ℕ
  nexts_before steps = flat_map (next_step layout p steps) (range_with_len 0 a)

  pub rests_more : Rests layout p s a → GoesFrom layout p (a + 1) start old s b
  rests_more rests = record {
    goes = record {
      places = held.places;
      lands = λ steps to.
          subst (λ (ns : List ℕ). Pairs (λ n place. IsAt layout p old (steps ++ n ∷ []) place) ns held.places)
          (sym (flat_more (next_step layout p steps) a
          ∙ ap (λ (ns : List ℕ). nexts_before steps ++ ns) (none_next layout p steps s to a d at rests)
          ∙ append-nil (nexts_before steps)))
          (held.lands steps to);
      weighs = held.weighs;
      stays = held.stays;
    };
    is = from.is;
  }

  lands_more : (t : State) (goes_to : GoesTo layout p a s t) (put : Placed layout p old new t) (steps : List ℕ)
      → StepsTo layout p steps s → Pairs (λ n place. IsAt layout p new (steps ++ n ∷ []) place)
      (flat_map (next_step layout p steps) (range_with_len 0 (a + 1))) (held.places ++ put.place ∷ [])
  lands_more t goes_to put steps to =
      let R : ℕ → ℕ → Type 0 = λ n place. IsAt layout p new (steps ++ n ∷ []) place in
      let before : Pairs R (nexts_before steps) held.places =
      pairs_also (λ n place. IsAt layout p old (steps ++ n ∷ []) place) R
      (λ n place h. put.stays (steps ++ n ∷ []) place h) (nexts_before steps) held.places (held.lands steps to) in
      let here : R goes_to.number put.place = (
        put.there,
        put.at,
        steps_alike layout p (steps ++ goes_to.number ∷ []) put.there t put.reached goes_to.reached put.alike
            (steps_on layout p steps s t to a goes_to),
      ) in
      subst (λ (ns : List ℕ). Pairs R ns (held.places ++ put.place ∷ []))
      (sym (flat_more (next_step layout p steps) a
      ∙ ap (λ (ns : List ℕ). nexts_before steps ++ ns) (one_next layout p steps s to a d at t goes_to)))
      (pairs_append R (nexts_before steps) (goes_to.number ∷ []) held.places (put.place ∷ []) before
      (pairs_one R goes_to.number put.place here))

  weighs_more : (t : State) (goes_to : GoesTo layout p a s t) (put : Placed layout p old new t) (w : ℕ → ℕ)
      → capped (weigh (counts_of new) w)
      ≡ capped (weigh (counts_of start) w + s.orders.count * sum_by w (held.places ++ put.place ∷ []))
  weighs_more t goes_to put w =
      let same : t.orders.count * w put.place ≡ s.orders.count * w put.place =
      ap (λ (n : ℕ). n * w put.place) (ap (λ (o : Orders). o.count) goes_to.orders) in
      let spread : s.orders.count * sum_by w (held.places ++ put.place ∷ [])
      ≡ s.orders.count * sum_by w held.places + s.orders.count * w put.place =
      ap (λ (n : ℕ). s.orders.count * n) (sum_more w held.places put.place)
      ∙ times_sum s.orders.count (sum_by w held.places) (w put.place) in
      put.weighs w
      ∙ top_both (2 ^ 128 - 1) (weigh (counts_of old) w) (t.orders.count * w put.place)
      (weigh (counts_of start) w + s.orders.count * sum_by w held.places) (s.orders.count * w put.place)
      (held.weighs w) (ap capped same)
      ∙ ap capped (let e : (weigh (counts_of start) w + s.orders.count * sum_by w held.places)
      + s.orders.count * w put.place
      ≡ weigh (counts_of start) w + s.orders.count * sum_by w (held.places ++ put.place ∷ []) =
      omega (arith, spread) in e)

  pub goes_more : (t : State) → GoesTo layout p a s t → Placed layout p old new t
      → GoesFrom layout p (a + 1) start new s true
  goes_more t goes_to put = record {
    goes = record {
      places = held.places ++ put.place ∷ [];
      lands = lands_more t goes_to put;
      weighs = weighs_more t goes_to put;
      stays = λ steps k h. put.stays steps k (held.stays steps k h);
    };
    is = some_more held.places put.place;
  }

pub goes_none : (layout : Layout) (p : Program) (level : List State) (s : State)
    → GoesFrom layout p 0 level level s false
goes_none layout p level s = record {
  goes = record {
    places = [];
    lands = λ steps to. pairs_none (λ n place. IsAt layout p level (steps ++ n ∷ []) place);
    weighs = λ w. ap capped (let e : weigh (counts_of level) w ≡ weigh (counts_of level) w + s.orders.count * 0 =
        omega arith in e);
    stays = λ steps k h. h;
  };
  is = refl;
}

-- ---- the first state

pub added_first : (old new : List State) (s : State) → Added old s new → old ≡ [] → new ≡ s ∷ []
added_first old new s (merged place there both at alike with' is) none =
    absurd (let z : None ≡ Some there = sym (ap (λ (xs : List State). slice_get xs place) none) ∙ at in cc)
added_first old new s (pushed other is) none = is ∙ ap (λ (xs : List State). xs ++ s ∷ []) none
