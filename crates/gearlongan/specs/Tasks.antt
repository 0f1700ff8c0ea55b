-- What the tasks of a list give.
use Rattle.std.specs.Prelude.{List, [], ◌∷◌}

-- each task gave the output at its place, and the numbers of tasks and of outputs are equal
abbrev pub AllGive : {T A : Type 0} → (T → A → Type 0) → List T → List A → Type 0
AllGive gives [] [] = Unit {0}
AllGive gives (t ∷ ts) (a ∷ bs) = gives t a × AllGive gives ts bs
AllGive gives [] (a ∷ bs) = ⊥
AllGive gives (t ∷ ts) [] = ⊥
