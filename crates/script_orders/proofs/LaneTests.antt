-- Lanes are compared by what the passes did.
use Rattle.std.proofs.Common.{◌≡◌, ◌==◌, ◌&&◌, Bool, true, List, [], ◌∷◌, map, refl, ap, ◌∙◌, eq-eqb}
use lib.Dec.{eqb}
use Rattle.std.specs.Bool.{Decides}
use Rattle.std.specs.Cmp.Lexicographic.{pointwise}
use Rattle.std.proofs.lemmas.Bool.{eqb-true}
use Rattle.std.proofs.lemmas.Slice.Eq.{slice_eq-Decides, bytes_eq-Decides}
use Rattle.sh_step.proofs.Truths.{no_bool, and2}
use Rattle.script_orders.specs.contracts.changes.ChangePartialEq.TheImpl as change_eq
use Rattle.script_orders.specs.contracts.lane.LanePartialEq.TheImpl as lane_eq
use Rattle.script_orders.specs.contracts.lane.StepPartialEq.TheImpl as step_eq
use Rattle.script_orders.specs.declared.changes.Change.{Change}
use Rattle.script_orders.specs.declared.lane.Lane.{Lane}
use Rattle.script_orders.specs.declared.lane.Step.{Step}
use Rattle.script_orders.specs.Lanes.{Did, did}

both : (a b : Bool) → a ≡ true → b ≡ true → (a && b) ≡ true
both a b h k = ap (λ (x : Bool). x && b) h ∙ k

steps_decide : (x y : Step) → Decides (step_eq.eq-value.it x y) (x ≡ y)
steps_decide x y = (
  λ h.
      let k = and2 (x.line == y.line) (x.seen == y.seen) h in
      λ i. record { line = eqb-true x.line y.line k.0 i; seen = eqb-true x.seen y.seen k.1 i },
  λ h. both (x.line == y.line) (x.seen == y.seen) (eq-eqb x.line y.line (ap (λ (s : Step). s.line) h))
      (eq-eqb x.seen y.seen (ap (λ (s : Step). s.seen) h)),
)

stories_decide : (xs ys : List Step) → Decides (pointwise step_eq.eq-value.it xs ys) (xs ≡ ys)
stories_decide xs ys = slice_eq-Decides steps_decide xs ys (pointwise step_eq.eq-value.it xs ys) refl

pub lane_decides : (x y : Lane) → Decides (lane_eq.eq-value.it x y) (did x ≡ did y)
lane_decides x y =
    let story = stories_decide x.story.items y.story.items in
    let replies = bytes_eq-Decides x.replies.items y.replies.items in
    let rest : Bool = pointwise step_eq.eq-value.it x.story.items y.story.items
    && pointwise eqb x.replies.items y.replies.items in (
      λ h.
          let k = and2 (x.behind == y.behind) rest h in
          let j = and2 (pointwise step_eq.eq-value.it x.story.items y.story.items)
          (pointwise eqb x.replies.items y.replies.items) k.1 in
          λ i. record {
            behind = eqb-true x.behind y.behind k.0 i;
            story = story.0 j.0 i;
            replies = replies.0 j.1 i;
          },
      λ h. both (x.behind == y.behind) rest (eq-eqb x.behind y.behind (ap (λ (d : Did). d.behind) h))
          (both (pointwise step_eq.eq-value.it x.story.items y.story.items)
          (pointwise eqb x.replies.items y.replies.items) (story.1 (ap (λ (d : Did). d.story) h))
          (replies.1 (ap (λ (d : Did). d.replies) h))),
    )

pub changes_decide : (xs ys : List Change) → Decides (pointwise change_eq.eq-value.it xs ys) (xs ≡ ys)
changes_decide xs ys = slice_eq-Decides change_decides xs ys (pointwise change_eq.eq-value.it xs ys) refl where
  change_decides : (x y : Change) → Decides (change_eq.eq-value.it x y) (x ≡ y)
  change_decides x y = (
    λ h.
        let k = and2 (x.number == y.number) (x.word == y.word) h in
        λ i. record { number = eqb-true x.number y.number k.0 i; word = eqb-true x.word y.word k.1 i },
    λ h. both (x.number == y.number) (x.word == y.word) (eq-eqb x.number y.number (ap (λ (c : Change). c.number) h))
        (eq-eqb x.word y.word (ap (λ (c : Change). c.word) h)),
  )

-- lanes, each in something that states may share

module _ {R : Type 0} (lane_of : R → Lane) where
  abbrev same_lanes : R → R → Bool
  same_lanes x y = lane_eq.eq-value.it (lane_of x) (lane_of y)

  abbrev did_in : R → Did
  did_in x = did (lane_of x)

  pub lanes_decide : (xs ys : List R) → Decides (pointwise same_lanes xs ys) (map did_in xs ≡ map did_in ys)
  lanes_decide [] [] = (λ h. refl, λ h. refl)
  lanes_decide [] (y ∷ ys) = (λ h. no_bool h, λ h. absurd (let z : [] ≡ did_in y ∷ map did_in ys = h in cc))
  lanes_decide (x ∷ xs) [] = (λ h. no_bool h, λ h. absurd (let z : did_in x ∷ map did_in xs ≡ [] = h in cc))
  lanes_decide (x ∷ xs) (y ∷ ys) =
      let here = lane_decides (lane_of x) (lane_of y) in
      let rest = lanes_decide xs ys in (
        λ h.
            let k = and2 (same_lanes x y) (pointwise same_lanes xs ys) h in
            λ i. here.0 k.0 i ∷ rest.0 k.1 i,
        λ h.
            let z : did_in x ∷ map did_in xs ≡ did_in y ∷ map did_in ys = h in
            let a : did_in x ≡ did_in y = cc in
            let b : map did_in xs ≡ map did_in ys = cc in
            both (same_lanes x y) (pointwise same_lanes xs ys) (here.1 a) (rest.1 b),
      )
