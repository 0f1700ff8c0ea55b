use Rattle.std.proofs.Common.{◌≡◌, true, false, sym, ◌∙◌}
use Rattle.script_orders.proofs.known.Known.is_so.Goals as goal

pub returns-then-is_of : goal.returns-then-is_of
returns-then-is_of c =
    let of = c.is_of.ensures.0 c.if-is_of.true in (
      λ h. record { same_pass = of.1; same_lane = of.0; finds = c.finds_same.ensures.0 h },
      λ so. c.finds_same.ensures.1 so.finds,
    )

pub returns-else-is_of : goal.returns-else-is_of
returns-else-is_of c = (
  λ h. absurd (let z : false ≡ true = sym c.if-is_of.false ∙ h in cc),
  λ so. absurd (let z : false ≡ true = sym c.if-is_of.false ∙ c.is_of.ensures.1 (so.same_lane, so.same_pass) in cc),
)
