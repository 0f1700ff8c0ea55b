use Rattle.std.proofs.Common.{◌≡◌, ◌∙◌, ℕ, ◌+◌, ◌<◌, List, [], ◌∷◌, ◌++◌, length, take, get_or, refl, sym, ap}
use Rattle.std.proofs.Common.{append_assoc, append-nil, Vec, Global}
use Rattle.std.specs.List.{flat_map}
use Rattle.std.proofs.lemmas.List.{take_more}
use Rattle.std.proofs.lemmas.List.Concat.{flat_map-append}
use Rattle.std.proofs.lemmas.Option.{slice_get_past}
use Rattle.script_orders.specs.Printed.{found_text}
use Rattle.script_orders.specs.Answers.{text_at, numbered_text}
use Rattle.script_orders.proofs.Walked.{found_at}
use Rattle.script_orders.proofs.answer.push_numbered.Goals as goal
use Rattle.script_orders.proofs.answer.push_numbered.Goals.{in-Some+in_ok-push_found, in_default}

-- one place more
more : (text : ℕ → List ℕ) (places : List ℕ) (i : ℕ) (t : List ℕ) → i < length places
    → text (get_or places i 0) ≡ t → flat_map text (take (i + 1) places) ≡ flat_map text (take i places) ++ t
more text places i t less said =
    ap (flat_map text) (take_more places i 0 less)
    ∙ flat_map-append text (take i places) (get_or places i 0 ∷ [])
    ∙ ap (λ (xs : List ℕ). flat_map text (take i places) ++ xs) (append-nil (text (get_or places i 0)) ∙ said)

pub loop-place-preserved : goal.loop-place-preserved
loop-place-preserved c =
    let found = c.args.found.now in
    let places = c.args.places.now in
    let i = c.loop-place.place-index in
    let place = get_or places i 0 in
    let less = c.loop-place-test.true in
    let old : List ℕ = c.args.out.now.items in
    let before : List ℕ = flat_map (numbered_text found) (take i places) in
    elim c.match-get.branch [
      | in-Some+in_ok-push_found w ↦
          let look = w.in-Some.ensures.lookup in
          let at = found_at found found place w.in-Some.there.now refl look.3.0 look.1 in
          let text = found_text (place + 1) w.in-Some.there.now in
          ap (λ (v : Vec ℕ Global). v.items) w.out-is
          ∙ w.in_ok-push_found.ensures
          ∙ ap (λ (xs : List ℕ). xs ++ text) c.loop-place.invariant
          ∙ append_assoc old before text
          ∙ ap (λ (xs : List ℕ). old ++ xs)
          (sym (more (numbered_text found) places i text less (ap (text_at place) at)))
      | in_default w ↦
          let past = slice_get_past found place w.in_default.ensures.lookup.3 in
          ap (λ (v : Vec ℕ Global). v.items) w.out-is
          ∙ c.loop-place.invariant
          ∙ ap (λ (xs : List ℕ). old ++ xs)
          (sym (more (numbered_text found) places i [] less (ap (text_at place) past) ∙ append-nil before))
    ]
