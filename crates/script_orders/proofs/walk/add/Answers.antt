use Rattle.std.proofs.Common.{◌≡◌, List, Some, slice_get, map, refl, sym, subst, ◌∙◌}
use Rattle.std.specs.Prelude.{vec_items}
use Rattle.std.specs.List.{All}
use Rattle.std.proofs.lemmas.Option.{slice_get_within, get_or_from_slice_get}
use Rattle.script_orders.specs.declared.found.Found.{Found}
use Rattle.script_orders.specs.Reached.{IsOutcome, Has}
use Rattle.script_orders.specs.Walks.{IsSame, KeepsFound}
use Rattle.script_orders.specs.Walks.AddsFound.{joined, pushed}
use Rattle.script_orders.proofs.Added.{all_set, all_push}
use Rattle.script_orders.proofs.FoundLists.{keeps_set, keeps_push, has_set, has_push}
use Rattle.script_orders.proofs.Walked.{found_at}
use Rattle.script_orders.proofs.walk.add.Goals as goal

pub returns-in-Some-clause-all : goal.returns-in-Some-clause-all
returns-in-Some-clause-all c = λ layout program all new.
    let xs = c.args.found.now.items in
    let there = c.index_mut-there.result.now in
    let place = c.in-Some.place in
    let same = c.in-Some.ensures in
    let at = subst (λ (ys : List Found). slice_get ys place ≡ Some same.0) c.as_slice.ensures.value same.1 in
    let less = slice_get_within xs place same.0 at in
    let is = subst (IsOutcome layout program) (sym c.index_mut-there.ensures.value) (all place there less) in
    all_set (IsOutcome layout program) xs place (record there { orders = c.plus-there.result }) less
    (record { order = is.order; replies = is.replies; pages = is.pages }) all

pub returns-in-Some-clause-keeps : goal.returns-in-Some-clause-keeps
returns-in-Some-clause-keeps c =
    let xs = c.args.found.now.items in
    let there = c.index_mut-there.result.now in
    let place = c.in-Some.place in
    let same = c.in-Some.ensures in
    let at = subst (λ (ys : List Found). slice_get ys place ≡ Some same.0) c.as_slice.ensures.value same.1 in
    keeps_set xs place there (record there { orders = c.plus-there.result })
    (found_at xs xs place there refl (slice_get_within xs place same.0 at) c.index_mut-there.ensures.value) refl refl

pub returns-in-Some-clause-has : goal.returns-in-Some-clause-has
returns-in-Some-clause-has c =
    let xs = c.args.found.now.items in
    let there = c.index_mut-there.result.now in
    let place = c.in-Some.place in
    let same = c.in-Some.ensures in
    let at = subst (λ (ys : List Found). slice_get ys place ≡ Some same.0) c.as_slice.ensures.value same.1 in
    let one : there ≡ same.0 = c.index_mut-there.ensures.value ∙ get_or_from_slice_get xs place same.0 there at in
    let alike = subst (λ (f : Found). IsSame f c.args.new) (sym one) same.2 in
    has_set xs place there (record there { orders = c.plus-there.result })
    (found_at xs xs place there refl (slice_get_within xs place same.0 at) c.index_mut-there.ensures.value)
    alike.replies alike.pages

pub returns-clause-all : goal.returns-clause-all
returns-clause-all c = λ layout program all new.
    subst (All (IsOutcome layout program)) (sym c.in_ok-push.ensures.items)
    (all_push (IsOutcome layout program) c.args.found.now.items c.args.new new all)

pub returns-clause-keeps : goal.returns-clause-keeps
returns-clause-keeps c =
    subst (λ (ys : List Found). KeepsFound c.args.found.now.items ys) (sym c.in_ok-push.ensures.items)
    (keeps_push c.args.found.now.items c.args.new)

pub returns-clause-has : goal.returns-clause-has
returns-clause-has c =
    subst (λ (ys : List Found). Has ys (map vec_items c.args.new.replies.items) c.args.new.pages.items)
    (sym c.in_ok-push.ensures.items) (has_push c.args.found.now.items c.args.new)

pub returns-in-Some-clause-adds : goal.returns-in-Some-clause-adds
returns-in-Some-clause-adds c =
    let xs = c.args.found.now.items in
    let there = c.index_mut-there.result.now in
    let place = c.in-Some.place in
    let same = c.in-Some.ensures in
    let at = subst (λ (ys : List Found). slice_get ys place ≡ Some same.0) c.as_slice.ensures.value same.1 in
    let one : there ≡ same.0 = c.index_mut-there.ensures.value ∙ get_or_from_slice_get xs place same.0 there at in
    joined place there (record there { orders = c.plus-there.result })
    (found_at xs xs place there refl (slice_get_within xs place same.0 at) c.index_mut-there.ensures.value)
    (subst (λ (f : Found). IsSame f c.args.new) (sym one) same.2)
    (record { replies = refl; pages = refl; orders = c.plus-there.ensures }) refl

pub returns-clause-adds : goal.returns-clause-adds
returns-clause-adds c =
    let new = c.args.new in
    let none = subst (λ (ys : List Found). Has ys (map vec_items new.replies.items) new.pages.items → ⊥)
    c.as_slice.ensures.value c.in_default.ensures in
    pushed none c.in_ok-push.ensures.items
