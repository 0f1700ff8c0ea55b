use Rattle.std.proofs.Common.{◌≡◌, ℕ, ◌+◌, ◌<◌, List, [], ◌∷◌, ◌++◌, length, take, get_or, slice_get, refl, sym, ap}
use Rattle.std.proofs.Common.{◌∙◌}
use Rattle.std.proofs.Common.{append_assoc, append-nil, Bor, Vec, Global}
use Rattle.std.specs.List.{flat_map, filter_map}
use Rattle.std.proofs.lemmas.List.{take_more}
use Rattle.std.proofs.lemmas.List.Concat.{flat_map-append}
use Rattle.std.proofs.lemmas.List.Elements.{filter_map-append}
use Rattle.std.proofs.lemmas.Option.{slice_get_past}
use Rattle.script_orders.specs.Printed.{line_text}
use Rattle.script_orders.proofs.Walked.{found_at}
use Rattle.script_orders.proofs.report.push_numbered.Goals as goal
use Rattle.script_orders.proofs.report.push_numbered.Goals.{in-Some+in_ok-push_line, in_default}

-- one number more
more : {L : Type 0} (text : L → List ℕ) (lines : List L) (numbers : List ℕ) (i : ℕ) (ls : List L) (t : List ℕ)
    → i < length numbers → filter_map (slice_get lines) (get_or numbers i 0 ∷ []) ≡ ls → flat_map text ls ≡ t
    → flat_map text (filter_map (slice_get lines) (take (i + 1) numbers))
    ≡ flat_map text (filter_map (slice_get lines) (take i numbers)) ++ t
more {L} text lines numbers i ls t less is said =
    let before : List L = filter_map (slice_get lines) (take i numbers) in
    ap (λ (ns : List ℕ). flat_map text (filter_map (slice_get lines) ns)) (take_more numbers i 0 less)
    ∙ ap (flat_map text) (filter_map-append (slice_get lines) (take i numbers) (get_or numbers i 0 ∷ [])
    ∙ ap (λ (xs : List L). before ++ xs) is)
    ∙ flat_map-append text before ls
    ∙ ap (λ (xs : List ℕ). flat_map text before ++ xs) said

pub loop-number-preserved : goal.loop-number-preserved
loop-number-preserved c =
    let lines = c.args.lines.now in
    let numbers = c.args.numbers.now in
    let i = c.loop-number.number-index in
    let less = c.loop-number-test.true in
    let old : List ℕ = c.args.out.now.items in
    let text : Bor (List ℕ) → List ℕ = λ line. line_text line.now in
    let before : List ℕ = flat_map text (filter_map (slice_get lines) (take i numbers)) in
    elim c.match-get.branch [
      | in-Some+in_ok-push_line w ↦
          let line = w.in-Some.line.now in
          let look = w.in-Some.ensures.lookup in
          let at = found_at lines lines (get_or numbers i 0) line refl look.3.0 look.1 in
          let one : filter_map (slice_get lines) (get_or numbers i 0 ∷ []) ≡ line ∷ [] = rw at refl in
          ap (λ (v : Vec ℕ Global). v.items) w.out-is
          ∙ w.in_ok-push_line.ensures
          ∙ ap (λ (xs : List ℕ). xs ++ text line) c.loop-number.invariant
          ∙ append_assoc old before (text line)
          ∙ ap (λ (xs : List ℕ). old ++ xs)
          (sym (more text lines numbers i (line ∷ []) (text line) less one (append-nil (text line))))
      | in_default w ↦
          let past = slice_get_past lines (get_or numbers i 0) w.in_default.ensures.lookup.3 in
          let none : filter_map (slice_get lines) (get_or numbers i 0 ∷ []) ≡ [] = rw past refl in
          ap (λ (v : Vec ℕ Global). v.items) w.out-is
          ∙ c.loop-number.invariant
          ∙ ap (λ (xs : List ℕ). old ++ xs)
          (sym (more text lines numbers i [] [] less none refl ∙ append-nil before))
    ]
