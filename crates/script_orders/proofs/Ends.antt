-- An order, and then the lines that the passes have left, none of which is due.
use Rattle.std.proofs.Common.{◌≡◌, ◌≢◌, ℕ, zero, suc, ◌+◌, ◌-◌, ◌<◌, ◌≤◌, List, [], ◌++◌, length, refl, sym, ap, ◌∙◌}
use Rattle.std.proofs.Common.{subst, arith, Option, Some, None, slice_get, get_or, append-nil, inl, inr, map}
use Rattle.std.specs.Prelude.{option_map}
use Rattle.std.specs.List.{All, filter, flat_map, range_with_len}
use Rattle.std.proofs.lemmas.Bool.{cases_eq}
use Rattle.std.proofs.lemmas.List.{length-map}
use Rattle.std.proofs.lemmas.List.Elements.{filter-append, All-nil, All-append}
use Rattle.std.proofs.lemmas.List.FromFn.{fill_by_all}
use Rattle.std.proofs.lemmas.Option.{slice_get-map, slice_get-get_or, get_or_from_slice_get}
use Rattle.sh_key.specs.Layout.{Layout}
use Rattle.sh_step.specs.declared.action.Event.{Event}
use Rattle.sh_step.specs.Plans.{Plan}
use Rattle.sh_core.specs.Worlds.{World}
use Rattle.script_orders.specs.declared.changes.Change.{Change}
use Rattle.script_orders.specs.declared.found.Program.{Program}
use Rattle.script_orders.specs.Lanes.{Did, nothing}
use Rattle.script_orders.specs.Orders.{is_of, lines_within, IsOfSome, IsOrder, events_of}
use Rattle.script_orders.specs.Reached.{plan_in, world_by, replies_by, HasNoNext, LeadsTo}
use Rattle.script_orders.specs.States.{left_of, all_left}
use Rattle.script_orders.proofs.GoneOn.{world_more, replies_more}
use Rattle.script_orders.proofs.LineOptions.{left}
use Rattle.script_orders.proofs.LineLists.{lines_join, own_lines, other_lines, lines_are_of, events_append}
use Rattle.script_orders.proofs.Skipped.{Skips, skips_none, skips_append, skips_run, skips_reply, not_due_skips}

-- ---- which of them are a pass's

own_left : (lines : List Event) (a : ℕ) (o : Option Did) → filter (is_of lines a) (left lines a o)
    ≡ left lines a o
own_left lines a (Some d) = own_lines lines a d.behind (length lines)
own_left lines a None = refl

other_left : (lines : List Event) (a b : ℕ) (o : Option Did) → a ≢ b
    → filter (is_of lines a) (left lines b o) ≡ []
other_left lines a b (Some d) ne = other_lines lines a b d.behind (length lines) ne
other_left lines a b None ne = refl

left_before : (lines : List Event) (lanes : List Did) (a from k : ℕ) → a < from
    → filter (is_of lines a) (flat_map (left_of lines lanes) (range_with_len from k)) ≡ []
left_before lines lanes a from zero less = refl
left_before lines lanes a from (suc k) less =
    filter-append (is_of lines a) (left_of lines lanes from)
    (flat_map (left_of lines lanes) (range_with_len (from + 1) k))
    ∙ ap (λ (xs : List ℕ). xs ++ filter (is_of lines a) (flat_map (left_of lines lanes) (range_with_len (from + 1) k)))
    (other_left lines a from (slice_get lanes from) (λ (h : a ≡ from). absurd (omega arith)))
    ∙ left_before lines lanes a (from + 1) k (omega arith)

left_own : (lines : List Event) (lanes : List Did) (a from k : ℕ) → from ≤ a → a < from + k
    → filter (is_of lines a) (flat_map (left_of lines lanes) (range_with_len from k)) ≡ left_of lines lanes a
left_own lines lanes a from zero low high = absurd (omega arith)
left_own lines lanes a from (suc k) low high =
    let rest : List ℕ = flat_map (left_of lines lanes) (range_with_len (from + 1) k) in
    filter-append (is_of lines a) (left_of lines lanes from) rest ∙ elim (cases_eq a from) [
      | inl same ↦
          ap (λ (xs : List ℕ). filter (is_of lines a) (left_of lines lanes from) ++ xs)
          (left_before lines lanes a (from + 1) k (omega arith))
          ∙ append-nil (filter (is_of lines a) (left_of lines lanes from))
          ∙ ap (λ (b : ℕ). filter (is_of lines a) (left_of lines lanes b)) (sym same)
          ∙ own_left lines a (slice_get lanes a)
      | inr ne ↦
          ap (λ (xs : List ℕ). xs ++ filter (is_of lines a) rest) (other_left lines a from (slice_get lanes from) ne)
          ∙ left_own lines lanes a (from + 1) k (omega arith) (omega arith)
    ]

one_of_some : (lines : List Event) (passes a : ℕ) (o : Option Did) → a < passes
    → All (IsOfSome lines passes) (left lines a o)
one_of_some lines passes a (Some d) less = lines_are_of lines passes a d.behind (length lines) less
one_of_some lines passes a None less = All-nil (IsOfSome lines passes)

left_of_some : (lines : List Event) (lanes : List Did) (passes from k : ℕ) → from + k ≤ passes
    → All (IsOfSome lines passes) (flat_map (left_of lines lanes) (range_with_len from k))
left_of_some lines lanes passes from zero less = All-nil (IsOfSome lines passes)
left_of_some lines lanes passes from (suc k) less =
    All-append (IsOfSome lines passes) (left_of lines lanes from)
    (flat_map (left_of lines lanes) (range_with_len (from + 1) k))
    (one_of_some lines passes from (slice_get lanes from) (omega arith))
    (left_of_some lines lanes passes (from + 1) k (omega arith))

-- ---- the whole order

module _ (layout : Layout) (p : Program) (order : List ℕ) (changes : List Change) (lanes : List Did)
    (leads : LeadsTo layout p order changes lanes) (rests : (a : ℕ) (d : Did) → slice_get lanes a ≡ Some d
    → HasNoNext (plan_in layout p) (world_by layout p order).parts p.lines.now a d.behind) where
  abbrev its_lines : List Event
  its_lines = p.lines.now

  abbrev passes : ℕ
  passes = p.shape.passes

  abbrev its_plan : Plan
  its_plan = plan_in layout p

  abbrev its_end : World
  its_end = world_by layout p order

  abbrev all_of_left : List ℕ
  all_of_left = all_left its_lines lanes passes

  one_skips : (a : ℕ) (o : Option Did) → slice_get lanes a ≡ o
      → Skips its_plan its_end (events_of its_lines (left its_lines a o))
  one_skips a (Some d) at =
      not_due_skips its_plan its_end its_lines a d.behind (length its_lines - d.behind)
      (λ n low high. rests a d at n low)
  one_skips a None at = skips_none its_plan its_end

  left_skips : (from k : ℕ)
      → Skips its_plan its_end (events_of its_lines (flat_map (left_of its_lines lanes) (range_with_len from k)))
  left_skips from zero = skips_none its_plan its_end
  left_skips from (suc k) =
      let rest : List ℕ = flat_map (left_of its_lines lanes) (range_with_len (from + 1) k) in
      let P : List Event → Type 0 = λ es. Skips its_plan its_end es in
      subst P (sym (events_append its_lines (left_of its_lines lanes from) rest))
      (skips_append its_plan its_end (events_of its_lines (left_of its_lines lanes from)) (events_of its_lines rest)
      (one_skips from (slice_get lanes from) refl) (left_skips (from + 1) k))

  pub world_same : world_by layout p (order ++ all_of_left) ≡ its_end
  world_same = world_more layout p order all_of_left
      ∙ skips_run its_plan its_end (events_of its_lines all_of_left) (left_skips 0 passes)

  replies_same : (a : ℕ) → replies_by layout p (order ++ all_of_left) a ≡ replies_by layout p order a
  replies_same a =
      replies_more layout p order all_of_left a
      ∙ ap (λ (t : List ℕ). replies_by layout p order a ++ t)
      (skips_reply its_plan its_end (events_of its_lines all_of_left) a (left_skips 0 passes))
      ∙ append-nil (replies_by layout p order a)

  there : (a : ℕ) → a < passes → slice_get lanes a ≡ Some (get_or lanes a nothing)
  there a less = let count = leads.count in slice_get-get_or lanes a nothing (omega arith)

  pub is_order : IsOrder its_lines passes (order ++ all_of_left)
  is_order = record {
    all = λ a less.
        let d : Did = get_or lanes a nothing in
        let done = leads.each a d (there a less) in
        let within = done.within in
        filter-append (is_of its_lines a) order all_of_left
        ∙ ap (λ (xs : List ℕ). xs ++ filter (is_of its_lines a) all_of_left) done.lines
        ∙ ap (λ (xs : List ℕ). lines_within its_lines a 0 d.behind ++ xs)
        (left_own its_lines lanes a 0 passes (omega arith) (omega arith)
        ∙ ap (λ (o : Option Did). left its_lines a o) (there a less))
        ∙ sym (lines_join its_lines a 0 d.behind (length its_lines) (omega arith) within);
    only = All-append (IsOfSome its_lines passes) order all_of_left leads.only
        (left_of_some its_lines lanes passes 0 passes (omega arith));
  }

  pub all_replies : map (λ (d : Did). d.replies) lanes ≡ map (replies_by layout p (order ++ all_of_left))
      (range_with_len 0 passes)
  all_replies =
      let f : Did → List ℕ = λ d. d.replies in
      fill_by_all (replies_by layout p (order ++ all_of_left)) (map f lanes) passes []
      (length-map lanes f ∙ leads.count) (λ a less.
      let d : Did = get_or lanes a nothing in
      get_or_from_slice_get (map f lanes) a (f d) [] (slice_get-map f lanes a ∙ ap (option_map f) (there a less))
      ∙ (leads.each a d (there a less)).replies
      ∙ sym (replies_same a))
