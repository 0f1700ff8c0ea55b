-- What a member did, with the answer apart from the key that ended.
use Rattle.std.specs.Prelude.{ℕ, Option, Result}
use Rattle.sh_key.specs.Layout.{Layout}
use Rattle.sh_value.specs.declared.refusal.Refusal.{Refusal}
use Rattle.sh_pass.specs.Passes.{Caller}
use Rattle.sh_member.specs.declared.member.Side.TheVariants.{Pass, Shard}
use Rattle.sh_member.specs.Sides.{SeenSide, SideDoes}

pub side_tells : {A : Type 0} (layout : Layout)
    (does : Caller → Result A Refusal × Option ℕ → Caller → Type 0) (answer : Result A Refusal × Option ℕ)
    (m n : SeenSide) → SideDoes layout does m answer n
    → SideDoes layout (λ v a w. does v (a, answer.1) w) m answer.0 n
side_tells layout does answer (Pass v) (Pass w) h = h
side_tells layout does answer (Pass v) (Shard n) h = absurd h
side_tells layout does answer (Shard o) (Shard n) h = h
side_tells layout does answer (Shard o) (Pass w) h = absurd h
