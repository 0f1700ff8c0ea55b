-- The places before the next live key.
use Rattle.std.proofs.Common.{◌≡◌, ◌≢◌, ◌+◌, ℕ, arith, subst, sym}
use mathlib.Core.Logic.{dite}
use native.Mathlib.Decide.{ℕ_discrete}
use Rattle.sh_key.specs.Layout.{Layout}
use Rattle.sh_pass.specs.Passes.{Caller}
use Rattle.sh_gather.specs.Gathering.{NotedMore}
use Rattle.sh_gather.specs.LiveKeys.{NoneLiveAt}
use Rattle.sh_gather.proofs.LiveKeys.{none_later}
use Rattle.sh_gather.specs.NextKeys.{NoneLiveBetween}

pub none_yet : (layout : Layout) (c : Caller) (from : ℕ) → NoneLiveBetween layout c from from
none_yet layout c from n some low = absurd (omega arith)

pub none_noted : (layout : Layout) (c d : Caller) (from before : ℕ) → NotedMore c.view d.view
    → NoneLiveBetween layout c from before → NoneLiveBetween layout d from before
none_noted layout c d from before h none n some low = none_later layout c.view d.view n h (none n some low)

pub none_more : (layout : Layout) (c d : Caller) (from place : ℕ) → NotedMore c.view d.view
    → NoneLiveBetween layout c from place → NoneLiveAt layout d.view place → NoneLiveBetween layout d from (place + 1)
none_more layout c d from place h none here n some low = dite (ℕ_discrete n place)
    (λ (same : n ≡ place). subst (NoneLiveAt layout d.view) (sym same) here)
    (λ (ne : n ≢ place). none_noted layout c d from place h none n some (omega arith))
