-- The orders of a level and of the outcomes, from one level to the next.
use Rattle.std.proofs.Common.{◌≡◌, ℕ, suc, ◌+◌, ◌*◌, ◌-◌, ◌^◌, ◌&&◌, Bool, true, false, cond}
use Rattle.std.proofs.Common.{List, []}
use Rattle.std.proofs.Common.{◌∷◌, ◌++◌, map, get_or, refl, sym, ap, ◌∙◌, subst, arith, Some, None}
use Rattle.std.proofs.Common.{Option, slice_get, inl, inr}
use Rattle.std.specs.Prelude.{option_map, vec_items}
use Rattle.std.specs.Cmp.Lexicographic.{pointwise}
use Rattle.std.specs.List.{All, count_by, flat_map, range_with_len, sum_by}
use Rattle.std.specs.Str.{bytes_eq}
use Rattle.std.proofs.lemmas.List.{length-map, map-append}
use Rattle.std.proofs.lemmas.List.FromFn.{fill_by_all}
use Rattle.std.proofs.lemmas.List.Sums.{sum_by-append, sum_by-cons}
use Rattle.std.proofs.lemmas.Option.{slice_get-get_or, slice_get-map, slice_get_within, get_or_from_slice_get}
use Rattle.sh_key.specs.Layout.{Layout}
use Rattle.script_orders.specs.declared.found.Found.{Found}
use Rattle.script_orders.specs.declared.found.Program.{Program}
use Rattle.script_orders.specs.declared.state.State.{State}
use Rattle.script_orders.specs.Lanes.{Did, nothing}
use Rattle.script_orders.specs.Reached.{IsHeap, IsReached, lanes_of, replies_by, all_replies_by, pages_asked}
use Rattle.script_orders.specs.Steps.{may_follow, longer_by, orders_of, is_empty, is_end, is_outcome, number_below}
use Rattle.script_orders.specs.Steps.{IsNumber, AllOnce}
use Rattle.script_orders.specs.Walks.{StepsTo, IsAt, counts_of, Goes, AddsEnd, number_in, Went, ended, Advances}
use Rattle.script_orders.specs.Weights.{capped, weigh, Pairs}
use Rattle.script_orders.proofs.LineLists.{range_split}
use Rattle.script_orders.proofs.ListSteps.{get_pushed}
use Rattle.script_orders.proofs.Numbered.{number_added, number_of_it, is_it}
use Rattle.script_orders.proofs.Pairing.{pairs_one, pairs_also, pairs_map, pairs_flat, pairs_sum, pairs_empty_alike}
use Rattle.script_orders.proofs.Pairing.{pairs_empty}
use Rattle.script_orders.proofs.SamePages.{pages_same}
use Rattle.script_orders.proofs.Weighing.{weight_at, weigh_by, sum_ext, sum_flat, sum_more, top_both}

-- Each order of so many steps comes to a state of the level, whose orders are as many as come there. Those that ended
-- before are counted by their outcomes
pub record Counts (layout : Layout) (p : Program) (level : List State) (found : List Found) (steps : ℕ) : Type 0 where
  pub places : List ℕ
  pub come : Pairs (IsAt layout p level) (orders_of layout p steps) places
  pub weighs : (w : ℕ → ℕ) → capped (weigh (counts_of level) w) ≡ capped (sum_by w places)
  pub founds : (rs : List (List ℕ)) (ps : List ℕ) → capped (number_in rs ps found)
      ≡ capped (number_below layout p rs ps steps)

-- ---- one state more of a level

module _ (layout : Layout) (p : Program) (states next after : List State) (old found : List Found) (s : State)
    (held : Advances layout p states next old found) (goes : Goes layout p p.shape.passes next after s) where
  abbrev its_went : Went
  its_went = record { state = s; places = goes.places }

  abbrev all_went : List Went
  all_went = held.went ++ its_went ∷ []

  lands_then : (k : ℕ) (g : Went) → slice_get all_went k ≡ Some g → (steps : List ℕ) → StepsTo layout p steps g.state
      → Pairs (λ n place. IsAt layout p after (steps ++ n ∷ []) place) (may_follow layout p steps) g.places
  lands_then k g at steps to = elim (get_pushed held.went k g its_went at) [
    | inl was ↦
        pairs_also (λ n place. IsAt layout p next (steps ++ n ∷ []) place)
        (λ n place. IsAt layout p after (steps ++ n ∷ []) place)
        (λ n place h. goes.stays (steps ++ n ∷ []) place h) (may_follow layout p steps) g.places
        (held.lands k g was steps to)
    | inr last ↦
        let P : Went → Type 0 = λ x. StepsTo layout p steps x.state
        → Pairs (λ n place. IsAt layout p after (steps ++ n ∷ []) place) (may_follow layout p steps) x.places in
        subst P last.1 (λ here. goes.lands steps here) to
  ]

  weighs_then : (w : ℕ → ℕ) → capped (weigh (counts_of after) w)
      ≡ capped (sum_by (λ (g : Went). g.state.orders.count * sum_by w g.places) all_went)
  weighs_then w =
      let f : Went → ℕ = λ g. g.state.orders.count * sum_by w g.places in
      goes.weighs w
      ∙ top_both (2 ^ 128 - 1) (weigh (counts_of next) w) (f its_went) (sum_by f held.went) (f its_went) (held.weighs w)
      refl
      ∙ ap capped (sym (sum_more f held.went its_went))

  founds_then : (new : List Found) → ((rs : List (List ℕ)) (ps : List ℕ) → capped (number_in rs ps new)
      ≡ capped (number_in rs ps found + s.orders.count * ended layout p rs ps its_went))
      → (rs : List (List ℕ)) (ps : List ℕ) → capped (number_in rs ps new) ≡ capped (number_in rs ps old
      + sum_by (λ (g : Went). g.state.orders.count * ended layout p rs ps g) all_went)
  founds_then new h rs ps =
      let f : Went → ℕ = λ g. g.state.orders.count * ended layout p rs ps g in
      let sum : sum_by f all_went ≡ sum_by f held.went + f its_went = sum_more f held.went its_went in
      h rs ps
      ∙ top_both (2 ^ 128 - 1) (number_in rs ps found) (f its_went) (number_in rs ps old + sum_by f held.went)
      (f its_went) (held.founds rs ps) refl
      ∙ ap capped (let e : (number_in rs ps old + sum_by f held.went) + f its_went
      ≡ number_in rs ps old + sum_by f all_went = omega (arith, sum) in e)

  advanced : (new : List Found) → ((rs : List (List ℕ)) (ps : List ℕ) → capped (number_in rs ps new)
      ≡ capped (number_in rs ps found + s.orders.count * ended layout p rs ps its_went))
      → Advances layout p (states ++ s ∷ []) after old new
  advanced new h = record {
    went = all_went;
    are = map-append (λ (g : Went). g.state) held.went (its_went ∷ [])
        ∙ ap (λ (xs : List State). xs ++ s ∷ []) held.are;
    lands = lands_then;
    weighs = weighs_then;
    founds = founds_then new h;
  }

  -- steps lead on from the state
  pub went_on : is_empty goes.places ≡ false → Advances layout p (states ++ s ∷ []) after old found
  went_on some = advanced found (λ rs ps. ap capped (let e : number_in rs ps found
      ≡ number_in rs ps found + s.orders.count * ended layout p rs ps its_went =
      let z : ended layout p rs ps its_went ≡ 0 = none_ended rs ps goes.places some in
      let y : s.orders.count * ended layout p rs ps its_went ≡ s.orders.count * 0 =
      ap (λ (n : ℕ). s.orders.count * n) z in
      omega (arith, y) in e)) where
        none_ended : (rs : List (List ℕ)) (ps : List ℕ) (xs : List ℕ) → is_empty xs ≡ false
            → ended layout p rs ps (record { state = s; places = xs }) ≡ 0
        none_ended rs ps [] h = let z : true ≡ false = h in cc
        none_ended rs ps (x ∷ xs) h = refl

  -- none does
  pub ended_there : is_empty goes.places ≡ true → (new : List Found) → AddsEnd layout p s found new
      → Advances layout p (states ++ s ∷ []) after old new
  ended_there none new adds = advanced new (λ rs ps.
      number_added found new adds.found adds.adds rs ps
      ∙ ap (λ (n : ℕ). capped (number_in rs ps found + n)) (counted rs ps goes.places none)) where
        times_bit : (b : Bool) (c : ℕ) → cond b c 0 ≡ c * cond b 1 0
        times_bit true c = omega arith
        times_bit false c = omega arith

        counted : (rs : List (List ℕ)) (ps : List ℕ) (xs : List ℕ) → is_empty xs ≡ true
            → cond (is_it rs ps adds.found) adds.found.orders.count 0
            ≡ s.orders.count * ended layout p rs ps (record { state = s; places = xs })
        counted rs ps [] h =
            (λ i. cond (pointwise bytes_eq rs (adds.replies i) && bytes_eq ps (adds.pages i)) (adds.orders i).count 0)
            ∙ times_bit (pointwise bytes_eq rs (map (λ (d : Did). d.replies) (lanes_of s))
            && bytes_eq ps (pages_asked layout p s.order.items)) s.orders.count
        counted rs ps (x ∷ xs) h = let z : false ≡ true = h in cc

pub advances_none : (layout : Layout) (p : Program) (found : List Found) → Advances layout p [] [] found found
unfolding weigh
advances_none layout p found = record {
  went = [];
  are = refl;
  lands = λ k g at. let z : None ≡ Some g = at in cc;
  weighs = λ w. refl;
  founds = λ rs ps. ap capped (let e : number_in rs ps found ≡ number_in rs ps found + 0 = omega arith in e);
}

-- ---- one level more

pub replies_by_steps : (layout : Layout) (p : Program) (steps : List ℕ) (s : State) → IsReached layout p s
    → StepsTo layout p steps s → map (λ (d : Did). d.replies) (lanes_of s) ≡ all_replies_by layout p steps
replies_by_steps layout p steps s reached to =
    let f : Did → List ℕ = λ d. d.replies in
    let lanes = lanes_of s in
    let count = reached.count in
    fill_by_all (replies_by layout p steps) (map f lanes) p.shape.passes [] (length-map lanes f ∙ count) (λ a less.
    let d : Did = get_or lanes a nothing in
    let at : slice_get lanes a ≡ Some d = slice_get-get_or lanes a nothing (omega arith) in
    get_or_from_slice_get (map f lanes) a (f d) [] (slice_get-map f lanes a ∙ ap (option_map f) at)
    ∙ (to.each a d at).replies)

map_map : {A B C : Type 0} (f : B → C) (g : A → B) (xs : List A) → map f (map g xs) ≡ map (λ x. f (g x)) xs
map_map f g [] = refl
map_map f g (x ∷ xs) = ap (λ ys. f (g x) ∷ ys) (map_map f g xs)

-- each of a list of states is that of what went from it
went_at : (went : List Went) (level : List State) (j : ℕ) (s : State) → map (λ (g : Went). g.state) went ≡ level
    → slice_get level j ≡ Some s → (g : Went) × (slice_get went j ≡ Some g) × (g.state ≡ s)
went_at went level j s are at =
    go (slice_get went j) refl
    (sym (slice_get-map (λ (g : Went). g.state) went j) ∙ ap (λ (xs : List State). slice_get xs j) are ∙ at) where
      go : (o : Option Went) → slice_get went j ≡ o → option_map (λ (g : Went). g.state) o ≡ Some s
          → (g : Went) × (slice_get went j ≡ Some g) × (g.state ≡ s)
      go (Some g) here h = (g, here, let z : Some g.state ≡ Some s = h in cc)
      go None here h = absurd (let z : None ≡ Some s = h in cc)

module _ (layout : Layout) (p : Program) (level next : List State) (old new : List Found) (steps : ℕ)
    (heap : IsHeap layout p) (reached : All (IsReached layout p) level) (held : Counts layout p level old steps)
    (goes : Advances layout p level next old new) where
  abbrev places_from : ℕ → List ℕ
  places_from = weight_at [] (λ (g : Went). g.places) goes.went

  come_then : Pairs (IsAt layout p next) (flat_map (longer_by layout p) (orders_of layout p steps))
      (flat_map places_from held.places)
  come_then = pairs_flat (IsAt layout p level) (IsAt layout p next) (longer_by layout p) places_from
      (λ order j h.
      let there = went_at goes.went level j h.0 goes.are h.1 in
      let to : StepsTo layout p order (there.0).state = subst (StepsTo layout p order) (sym there.2) h.2 in
      subst (Pairs (IsAt layout p next) (longer_by layout p order))
      (sym (ap (λ (o : Option Went). elim o as (λ _. List ℕ) [ Some g ↦ g.places | None ↦ [] ]) there.1))
      (pairs_map (IsAt layout p next) (λ n. order ++ n ∷ []) (may_follow layout p order) (there.0).places
      (goes.lands j there.0 there.1 order to)))
      (orders_of layout p steps) held.places held.come

  counts_are : map (λ (g : Went). g.state.orders.count) goes.went ≡ counts_of level
  counts_are = sym (map_map (λ (s : State). s.orders.count) (λ (g : Went). g.state) goes.went) ∙ ap counts_of goes.are

  -- what is weighed by what went from each state
  by_went : (f : Went → ℕ) → capped (sum_by (λ (g : Went). g.state.orders.count * f g) goes.went)
      ≡ capped (sum_by (weight_at 0 f goes.went) held.places)
  by_went f =
      ap capped (weigh_by (λ (g : Went). g.state.orders.count) f goes.went
      ∙ ap (λ (cs : List ℕ). weigh cs (weight_at 0 f goes.went)) counts_are)
      ∙ held.weighs (weight_at 0 f goes.went)

  sum_places : (w : ℕ → ℕ) (j : ℕ) → weight_at 0 (λ (g : Went). sum_by w g.places) goes.went j
      ≡ sum_by w (places_from j)
  sum_places w j = go (slice_get goes.went j) where
    go : (o : Option Went) → elim o as (λ _. ℕ) [ Some g ↦ sum_by w g.places | None ↦ 0 ]
        ≡ sum_by w (elim o as (λ _. List ℕ) [ Some g ↦ g.places | None ↦ [] ])
    go (Some g) = refl
    go None = refl

  weighs_then' : (w : ℕ → ℕ) → capped (weigh (counts_of next) w) ≡ capped (sum_by w (flat_map places_from held.places))
  weighs_then' w =
      goes.weighs w
      ∙ by_went (λ (g : Went). sum_by w g.places)
      ∙ ap capped (sum_ext (weight_at 0 (λ (g : Went). sum_by w g.places) goes.went) (λ j. sum_by w (places_from j))
      (sum_places w) held.places
      ∙ sym (sum_flat w places_from held.places))

  abbrev ends_so : (rs : List (List ℕ)) (ps order : List ℕ) → Bool
  ends_so rs ps order = is_end layout p order && is_outcome layout p rs ps order

  ended_same : (rs : List (List ℕ)) (ps order : List ℕ) (j : ℕ) → IsAt layout p level order j
      → cond (ends_so rs ps order) 1 0 ≡ weight_at 0 (ended layout p rs ps) goes.went j
  ended_same rs ps order j h =
      let there = went_at goes.went level j h.0 goes.are h.1 in
      let g : Went = there.0 in
      let s : State = g.state in
      let within = slice_get_within level j h.0 h.1 in
      let was : IsReached layout p h.0 =
      subst (IsReached layout p) (get_or_from_slice_get level j h.0 h.0 h.1) (reached j h.0 within) in
      let here : IsReached layout p s = subst (IsReached layout p) (sym there.2) was in
      let to : StepsTo layout p order s = subst (StepsTo layout p order) (sym there.2) h.2 in
      let long : is_empty (may_follow layout p order) ≡ is_empty g.places =
      pairs_empty_alike (λ n place. IsAt layout p next (order ++ n ∷ []) place) (may_follow layout p order) g.places
      (goes.lands j g there.1 order to) in
      let rs_same = sym (replies_by_steps layout p order s here to) in
      let ps_same : pages_asked layout p order ≡ pages_asked layout p s.order.items =
      ap (λ (text : List ℕ). cond p.accounts text []) (sym (pages_same layout p s order heap here to.world)) in
      (λ i. cond (long i && (pointwise bytes_eq rs (rs_same i) && bytes_eq ps (ps_same i))) 1 0)
      ∙ sym (ap (λ (o : Option Went). elim o as (λ _. ℕ) [ Some x ↦ ended layout p rs ps x | None ↦ 0 ]) there.1)

  below_more : (rs : List (List ℕ)) (ps : List ℕ) → number_below layout p rs ps (steps + 1)
      ≡ number_below layout p rs ps steps + count_by (ends_so rs ps) (orders_of layout p steps)
  unfolding number_below
  below_more rs ps =
      let f : ℕ → ℕ = λ n. count_by (ends_so rs ps) (orders_of layout p n) in
      ap (sum_by f) (range_split 0 steps 1)
      ∙ sum_by-append f (range_with_len 0 steps) (range_with_len (0 + steps) 1)
      ∙ ap (λ (n : ℕ). sum_by f (range_with_len 0 steps) + n)
      (let e : 0 + steps ≡ steps = omega arith in sum_by-cons f (0 + steps) [] ∙ ap (λ (n : ℕ). f n + 0) e
      ∙ (let z : f steps + 0 ≡ f steps = omega arith in z))

  founds_then' : (rs : List (List ℕ)) (ps : List ℕ) → capped (number_in rs ps new)
      ≡ capped (number_below layout p rs ps (steps + 1))
  founds_then' rs ps =
      let f : Went → ℕ = ended layout p rs ps in
      let sum : ℕ = sum_by (λ (g : Went). g.state.orders.count * f g) goes.went in
      let here : capped sum ≡ capped (count_by (ends_so rs ps) (orders_of layout p steps)) =
      by_went f
      ∙ ap capped (sym (pairs_sum (IsAt layout p level) (λ order. cond (ends_so rs ps order) 1 0)
      (weight_at 0 f goes.went) (ended_same rs ps) (orders_of layout p steps) held.places held.come)) in
      goes.founds rs ps
      ∙ top_both (2 ^ 128 - 1) (number_in rs ps old) sum (number_below layout p rs ps steps)
      (count_by (ends_so rs ps) (orders_of layout p steps)) (held.founds rs ps) here
      ∙ ap capped (sym (below_more rs ps))

  pub counts_on : Counts layout p next new (steps + 1)
  unfolding orders_of
  counts_on = record {
    places = flat_map places_from held.places;
    come = let e : suc steps ≡ steps + 1 = omega arith in
        subst (λ (n : ℕ). Pairs (IsAt layout p next) (orders_of layout p n) (flat_map places_from held.places)) e
        come_then;
    weighs = weighs_then';
    founds = founds_then';
  }

-- ---- the first level, and the last one

pub counts_first : (layout : Layout) (p : Program) (first : State) → first.orders.count ≡ 1 → StepsTo layout p [] first
    → Counts layout p (first ∷ []) [] 0
unfolding orders_of number_below weigh
counts_first layout p first one to = record {
  places = 0 ∷ [];
  come = pairs_one (IsAt layout p (first ∷ [])) [] 0 (first, refl, to);
  weighs = λ w. ap capped (let f : first.orders.count * w 0 ≡ 1 * w 0 = ap (λ (n : ℕ). n * w 0) one in
      let e : first.orders.count * w 0 + 0 ≡ 0 + w 0 = omega (arith, f) in e);
  founds = λ rs ps. refl;
}

pub counted_at_end : (layout : Layout) (p : Program) (found : List Found) (steps : ℕ) → Counts layout p [] found steps
    → AllOnce found → (i : ℕ) (f : Found) → slice_get found i ≡ Some f → IsNumber layout p
    (map vec_items f.replies.items) f.pages.items f.orders.count
counted_at_end layout p found steps held once i f at = record {
  most = steps;
  none = (pairs_empty (IsAt layout p []) (λ order j h. let z : None ≡ Some h.0 = h.1 in cc) (orders_of layout p steps)
      held.places held.come).0;
  is =
      (let fits = f.orders.fits in let e : f.orders.count ≡ capped f.orders.count = omega arith in e)
      ∙ ap capped (sym (number_of_it found i f once at))
      ∙ held.founds (map vec_items f.replies.items) f.pages.items;
}
