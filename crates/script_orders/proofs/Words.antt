-- Words that begin with others, by what they refer to.
use Rattle.std.proofs.Common.{◌≡◌, ℕ, ◌&&◌, Bool, List, [], ◌∷◌, map, Bor, refl, ap}
use Rattle.std.specs.List.{starts_with}
use Rattle.std.specs.Str.{bytes_eq}

pub starts_map : (ws rs : List (Bor (List ℕ))) → starts_with (λ a b. bytes_eq a.now b.now) ws rs
    ≡ starts_with bytes_eq (map (λ w. w.now) ws) (map (λ w. w.now) rs)
starts_map [] [] = refl
starts_map (w ∷ ws) [] = refl
starts_map [] (r ∷ rs) = refl
starts_map (w ∷ ws) (r ∷ rs) = ap (λ (b : Bool). bytes_eq r.now w.now && b) (starts_map ws rs)
