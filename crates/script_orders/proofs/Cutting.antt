-- The states that a walk met.
use Rattle.std.proofs.Common.{◌≡◌, ◌⊎◌, ℕ, zero, suc, ◌+◌, ◌<◌, List, [], ◌∷◌, ◌++◌, length}
use Rattle.std.proofs.Common.{refl}
use Rattle.std.proofs.Common.{sym, ap, ◌∙◌, subst, arith, Some, None, slice_get, inl, inr, cond, Bool, true}
use Rattle.std.proofs.Common.{false}
use Rattle.std.specs.Prelude.{nat_lt, slice_set}
use Rattle.std.specs.List.{All, sum_by}
use Rattle.std.proofs.lemmas.Bool.{ltb-true}
use Rattle.std.proofs.lemmas.List.{length-append}
use Rattle.std.proofs.lemmas.List.Elements.{All-nil, All-cons, All-append}
use Rattle.std.proofs.lemmas.Option.{slice_get_within, get_or_from_slice_get}
use Rattle.sh_key.specs.Layout.{Layout}
use Rattle.sh_core.specs.Outcomes.{outcome_of}
use Rattle.script_orders.specs.declared.found.Limit.{Limit}
use Rattle.script_orders.specs.declared.found.Limit.TheVariants as limit
use Rattle.script_orders.specs.declared.found.Program.{Program}
use Rattle.script_orders.specs.declared.room.Room.{Room}
use Rattle.script_orders.specs.declared.state.State.{State}
use Rattle.script_orders.specs.Bytes.{counted, limit_passed}
use Rattle.script_orders.specs.Cuts.{steps_done, AllAfter, TooMany}
use Rattle.script_orders.specs.Lanes.{Did, and_then}
use Rattle.script_orders.specs.Orders.{reply_line}
use Rattle.script_orders.specs.Reached.{plan_in, world_by, lanes_of, IsReached}
use Rattle.script_orders.specs.States.{AreAlike, AllDiffer, Added}
use Rattle.script_orders.specs.States.Added.{merged, pushed}
use Rattle.script_orders.specs.Walks.{GoesTo}
use Rattle.script_orders.proofs.Added.{all_set, all_push, lanes_same}
use Rattle.script_orders.proofs.Weighing.{sum_set}

-- ---- one step more

pub goes_step : (layout : Layout) (p : Program) (a : ℕ) (s t : State) → GoesTo layout p a s t
    → steps_done t ≡ steps_done s + 1
goes_step layout p a s t goes =
    let f : Did → ℕ = λ d. length d.story in
    let reply : List ℕ =
    reply_line goes.event (outcome_of (plan_in layout p) (world_by layout p s.order.items) goes.event) in
    let new : Did = and_then goes.lane goes.number goes.seen reply in
    let parts = sum_set f (lanes_of s) a goes.lane new goes.at in
    let one = parts.1 in
    let two = parts.2 in
    let long : f new ≡ f goes.lane + 1 =
    length-append goes.lane.story (record { line = goes.number; seen = goes.seen } ∷ []) in
    ap (sum_by f) goes.lanes
    ∙ (let e : sum_by f (slice_set (lanes_of s) a new) ≡ sum_by f (lanes_of s) + 1 = omega (arith, one, two, long) in e)

-- a state is added
pub added_after : (old new : List State) (t : State) (steps : ℕ) → Added old t new → AllAfter steps old
    → steps_done t ≡ steps → AllAfter steps new
added_after old new t steps (merged place there both at alike with' is) all here =
    let less = slice_get_within old place there at in
    let was : steps_done there ≡ steps =
    subst (λ (s : State). steps_done s ≡ steps) (get_or_from_slice_get old place there there at)
    (all place there less) in
    subst (AllAfter steps) (sym is)
    (all_set (λ (s : State). steps_done s ≡ steps) old place both less
    (ap (sum_by (λ (d : Did). length d.story)) (lanes_same there both with'.lanes) ∙ was) all)
added_after old new t steps (pushed none is) all here =
    subst (AllAfter steps) (sym is) (all_push (λ (s : State). steps_done s ≡ steps) old t here all)

-- ---- lists that follow one another

get_apart : (xs ys : List State) (i : ℕ) (s : State) → slice_get (xs ++ ys) i ≡ Some s
    → (slice_get xs i ≡ Some s) ⊎ ((j : ℕ) × (i ≡ length xs + j) × (slice_get ys j ≡ Some s))
get_apart [] ys i s h = inr (i, (let e : i ≡ 0 + i = omega arith in e), h)
get_apart (x ∷ xs) ys zero s h = inl h
get_apart (x ∷ xs) ys (suc i) s h = elim (get_apart xs ys i s h) [
  | inl at ↦ inl at
  | inr (j, e, at) ↦ inr (j, (let f : suc i ≡ suc (length xs) + j = omega (arith, e) in f), at)
]

at_is : (P : State → Type 0) (xs : List State) (i : ℕ) (s : State) → All P xs → slice_get xs i ≡ Some s → P s
at_is P xs i s all at =
    subst P (get_or_from_slice_get xs i s s at) (all i s (slice_get_within xs i s at))

-- each state that was met is after fewer steps than those of the level
pub record Met (layout : Layout) (p : Program) (level : List State) (room : ℕ) : Type 0 where
  pub steps : ℕ
  pub met : List State
  pub reached : All (IsReached layout p) met
  pub differ : AllDiffer met
  pub before : All (λ s. steps_done s < steps) met
  pub here : AllAfter steps level
  pub count : room + length met ≡ p.limit

alike_steps : (s t : State) → AreAlike s t → steps_done s ≡ steps_done t
alike_steps s t alike = ap (sum_by (λ (d : Did). length d.story)) alike.lanes

-- those that were met, and those of the level
pub differ_append : (xs ys : List State) (steps : ℕ) → AllDiffer xs → AllDiffer ys
    → All (λ s. steps_done s < steps) xs → AllAfter steps ys → AllDiffer (xs ++ ys)
differ_append xs ys steps one two before here i j s t at also alike =
    let same = alike_steps s t alike in
    elim (get_apart xs ys i s at) [
      | inl a ↦ elim (get_apart xs ys j t also) [
        | inl b ↦ one i j s t a b alike
        | inr (n, e, b) ↦
            let low = at_is (λ (x : State). steps_done x < steps) xs i s before a in
            let high = at_is (λ (x : State). steps_done x ≡ steps) ys n t here b in
            absurd (omega (arith, low, high, same))
      ]
      | inr (m, d, a) ↦ elim (get_apart xs ys j t also) [
        | inl b ↦
            let low = at_is (λ (x : State). steps_done x < steps) xs j t before b in
            let high = at_is (λ (x : State). steps_done x ≡ steps) ys m s here a in
            absurd (omega (arith, low, high, same))
        | inr (n, e, b) ↦ let k = two m n s t a b alike in omega (arith, d, e, k)
      ]
    ]

all_below : (xs : List State) (steps : ℕ) → All (λ s. steps_done s < steps) xs
    → All (λ s. steps_done s < steps + 1) xs
all_below xs steps all i d less = let h = all i d less in omega (arith, h)

all_at : (xs : List State) (steps : ℕ) → AllAfter steps xs → All (λ s. steps_done s < steps + 1) xs
all_at xs steps all i d less = let h = all i d less in omega (arith, h)

module _ (layout : Layout) (p : Program) (level : List State) (room : ℕ) (held : Met layout p level room)
    (reached : All (IsReached layout p) level) (differ : AllDiffer level) where
  -- more states are in the level than may be met
  pub too_many : room < length level → TooMany layout p
  too_many more = record {
    met = held.met ++ level;
    reached = All-append (IsReached layout p) held.met level held.reached reached;
    differ = differ_append held.met level held.steps held.differ differ held.before held.here;
    many = let long = length-append held.met level in let count = held.count in omega (arith, long, count);
  }

  pub met_on : (next : List State) (left : ℕ) → left + length level ≡ room
      → ((steps : ℕ) → AllAfter steps level → AllAfter (steps + 1) next) → Met layout p next left
  met_on next left same after = record {
    steps = held.steps + 1;
    met = held.met ++ level;
    reached = All-append (IsReached layout p) held.met level held.reached reached;
    differ = differ_append held.met level held.steps held.differ differ held.before held.here;
    before = All-append (λ s. steps_done s < held.steps + 1) held.met level (all_below held.met held.steps held.before)
        (all_at level held.steps held.here);
    here = after held.steps held.here;
    count = let long = length-append held.met level in let count = held.count in omega (arith, long, count, same);
  }

-- ---- the limit that is passed

pub states_passed : (room : Room) (states bytes : ℕ) (passed : Limit) → Some passed ≡ limit_passed room states bytes
    → passed ≡ limit.States → room.states < states
states_passed room states bytes passed h is = go (nat_lt room.states states) refl h where
  not_bytes : (b : Bool) → Some passed ≡ cond b (Some limit.Bytes) None → room.states < states
  not_bytes true k = absurd (let z : Some passed ≡ Some limit.Bytes = k in let y = is in cc)
  not_bytes false k = absurd (let z : Some passed ≡ None = k in cc)

  go : (b : Bool) → nat_lt room.states states ≡ b → Some passed ≡ cond b (Some limit.States)
      (cond (nat_lt room.bytes (counted bytes)) (Some limit.Bytes) None) → room.states < states
  go true lt k = ltb-true room.states states lt
  go false lt k = not_bytes (nat_lt room.bytes (counted bytes)) k

-- ---- the first level

pub first_met : (layout : Layout) (p : Program) (level : List State) (first : State) → level ≡ first ∷ []
    → steps_done first ≡ 0 → Met layout p level p.limit
first_met layout p level first is none = record {
  steps = 0;
  met = [];
  reached = All-nil (IsReached layout p);
  differ = λ i j s t at also alike. let z : None ≡ Some s = at in cc;
  before = All-nil (λ s. steps_done s < 0);
  here = subst (AllAfter 0) (sym is) (All-cons (λ s. steps_done s ≡ 0) first [] none (All-nil (λ s. steps_done s ≡ 0)));
  count = omega arith;
}
