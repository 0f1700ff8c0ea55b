use Rattle.std.proofs.Common.{ℕ, [], Option, Some, None, ap, ◌∙◌}
use Rattle.std.specs.Prelude.{MatchOption}
use Rattle.script_orders.specs.Filed.{items_in}
use Rattle.script_orders.specs.States.{IsAlikeAt}
use Rattle.script_orders.proofs.Marked.{none_filed, none_there}
use Rattle.script_orders.proofs.level.Level.place_of.Goals as goal

matched : {A B : Type 0} (D : ℕ → Type 0) (o : Option ℕ) → (A → B) → MatchOption o A D → MatchOption o B D
matched D None f h = f h
matched D (Some n) f h = h

pub returns-in-Some : goal.returns-in-Some
returns-in-Some c =
    let level = c.args.self.now in
    matched (λ (n : ℕ). IsAlikeAt level.states.items n c.args.state.now) c.alike_among.result
    (none_filed level.places level.states.items c.args.mark c.args.state.now
    c.as_slice.result.now level.filed c.requires (c.as_slice.ensures.value ∙ ap items_in c.in-Some.ensures.value))
    c.alike_among.ensures

pub returns-in-None : goal.returns-in-None
returns-in-None c =
    let level = c.args.self.now in
    none_filed level.places level.states.items c.args.mark c.args.state.now [] level.filed c.requires
    (ap items_in c.in-None.ensures.value) (λ k place at. none_there k place at)
