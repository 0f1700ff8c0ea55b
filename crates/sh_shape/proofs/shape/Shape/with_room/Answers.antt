use Rattle.std.proofs.Common.{rules, ◌≡◌, ◌≤◌, ◌*◌, sym, ◌∙◌, refl, subst, ap}
use Rattle.sh_shape.specs.Shape.{IsShape, segment_pages}
use Rattle.sh_shape.specs.Classes.{slots}
use Rattle.sh_shape.proofs.RoomLaws.{shape_below}
use Rattle.sh_shape.proofs.shape.Shape.with_room.Goals as goal

pub returns-in_default-large : goal.returns-in_default-large
returns-in_default-large g c = (
  refl,
  λ n roomy.
      let a = c.args in
      let same : roomy.room.class ≡ c.in-Some.class = cc in
      let slots_are : slots roomy.room.class ≡ c.slots.result = ap slots same ∙ sym c.slots.ensures.is in
      let room : a.values ≤ segment_pages * n.segments * c.slots.result =
      subst (λ k. a.values ≤ segment_pages * n.segments * k) slots_are roomy.room.room in
      let least = c.segments_for-segments.ensures.least n.segments roomy.is_shape.some_segment room in
      let shape : IsShape (record { shards = a.owners; segments = c.segments_for-segments.result; passes = a.passes }) =
      shape_below a.owners c.segments_for-segments.result a.passes n roomy.shards_are roomy.passes_are
      roomy.is_shape c.segments_for-segments.ensures.some least in
      search rules,
)
