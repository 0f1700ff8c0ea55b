-- Texts that are compared line by line.
use Rattle.std.specs.Prelude.{ℕ, ◌==◌, ◌&&◌, not, Bool, List, [], ◌∷◌, Option, Some, None, length, filter, slice_index}
use Rattle.std.specs.Prelude.{if◌then◌else◌}
use Rattle.std.specs.Option.{option_copied}
use Rattle.std.specs.Str.{bytes_eq}
use Rattle.sh_script.specs.Script.{pieces_of}
use Rattle.script_orders.specs.declared.expected.Difference.{Difference}

-- a line counts: it is not empty, and no comment
abbrev pub is_counted : List ℕ → Bool
is_counted line = not (length line == 0) && not (slice_index line 0 == 59)

-- the lines of a text that count
unfoldable pub lines_counted : List ℕ → List (List ℕ)
lines_counted text = filter is_counted (pieces_of text)

-- the line that is expected and the one that is found, if there are such
pub record Unlike : Type 0 where
  pub expected : Option (List ℕ)
  pub found : Option (List ℕ)

abbrev pub unlike : Difference → Unlike
unlike d = record { expected = option_copied d.expected; found = option_copied d.found }

-- the first lines of two lists that differ
abbrev pub first_unlike : (expected found : List (List ℕ)) → Option Unlike
first_unlike [] [] = None
first_unlike [] (f ∷ fs) = Some (record { expected = None; found = Some f })
first_unlike (e ∷ es) [] = Some (record { expected = Some e; found = None })
first_unlike (e ∷ es) (f ∷ fs) =
    if bytes_eq e f then first_unlike es fs else Some (record { expected = Some e; found = Some f })
