-- The names that are bound, in order.
use Rattle.std.specs.Prelude.{ℕ, ◌+◌, List, [], ◌∷◌, Option, Some, None, map, if◌then◌else◌}
use Rattle.std.specs.Str.{bytes_eq}
use Rattle.sh_script.specs.Words.{Word}
use Rattle.sh_script.specs.declared.names.Binder.{Binder}
use Rattle.sh_script.specs.declared.names.Bound.{Bound}
use Rattle.sh_script.specs.declared.names.Found.{Found}

-- a name, and what binds it: insert, to a key, or post, without one
pub record Binding : Type 0 where
  pub name : Word
  pub by : Binder

abbrev pub binding_of : Bound → Binding
binding_of b = record { name = b.name.now; by = b.by }

abbrev pub names_of : List Binding → List Word
names_of bindings = map (λ b. b.name) bindings

-- the first place of a name, and what binds it; the first of these names has place n
abbrev pub find_from : ℕ → List Binding → Word → Option Found
find_from n [] name = None
find_from n (b ∷ bs) name = if bytes_eq b.name name then Some (record { place = n; by = b.by }) else find_from (n + 1)
    bs name
