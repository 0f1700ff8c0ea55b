use Rattle.std.proofs.Common.{◌≡◌, true, false, map, refl, sym, ap, ◌∙◌, arith, inl, inr, Some, slice_get}
use Rattle.std.specs.Prelude.{vec_items}
use Rattle.std.proofs.lemmas.Bool.{cases_eq}
use Rattle.std.proofs.lemmas.Option.{slice_get_within}
use Rattle.std.proofs.lemmas.Slice.Eq.{bytes_eq-Decides}
use Rattle.script_orders.specs.declared.found.Found.{Found}
use Rattle.script_orders.proofs.FoundTests.{same_replies, replies_are_same}
use Rattle.script_orders.proofs.Walked.{found_at}
use Rattle.script_orders.proofs.walk.place_of.Goals as goal
use Rattle.script_orders.proofs.walk.place_of.Goals.{else-eq-via-then-eq+else-eq-2, else-eq-via-else-eq}

pub returns-then-eq-2 : goal.returns-then-eq-2
returns-then-eq-2 c =
    let there = c.index-found-place.result in
    let new = c.args.new.now in (
      there,
      found_at c.args.found.now c.args.found.now c.loop-place.place there refl c.loop-place-test.true
          c.index-found-place.is,
      record {
        replies = same_replies there.replies.items new.replies.items (sym c.eq.ensures ∙ c.if-eq.true);
        pages = (bytes_eq-Decides there.pages.items new.pages.items).0 (sym c.eq-then-eq.ensures ∙ c.if-eq-2.true);
      },
    )

pub loop-place-preserved : goal.loop-place-preserved
loop-place-preserved c = λ k f less at same.
    let found = c.args.found.now in
    let new = c.args.new.now in
    let place = c.loop-place.place in
    let there = c.index-found-place.result in
    elim (cases_eq k place) [
      | inl e ↦
          let here = found_at found found place there refl c.loop-place-test.true c.index-found-place.is in
          let one : f ≡ there = let z : Some f ≡ Some there = sym at ∙ ap (slice_get found) e ∙ here in cc in
          let rs : map vec_items there.replies.items ≡ map vec_items new.replies.items =
          ap (λ (x : Found). map vec_items x.replies.items) (sym one) ∙ same.replies in
          let ps : there.pages.items ≡ new.pages.items =
          ap (λ (x : Found). x.pages.items) (sym one) ∙ same.pages in
          elim c.else-eq.branch [
            | else-eq-via-then-eq+else-eq-2 w ↦
                let yes = (bytes_eq-Decides there.pages.items new.pages.items).1 ps in
                absurd (let z : false ≡ true = sym w.if-eq-2.false ∙ w.eq-then-eq.ensures ∙ yes in cc)
            | else-eq-via-else-eq w ↦
                let yes = replies_are_same there.replies.items new.replies.items rs in
                absurd (let z : false ≡ true = sym w.if-eq.false ∙ c.eq.ensures ∙ yes in cc)
          ]
      | inr ne ↦ c.loop-place.invariant k f (omega arith) at same
    ]

pub returns : goal.returns
returns c = λ has.
    let less = slice_get_within c.args.found.now has.0 has.1 has.2 in
    let end = c.loop-place-test.false in
    c.loop-place.invariant has.0 has.1 (omega arith) has.2 (record { replies = has.3; pages = has.4 })
