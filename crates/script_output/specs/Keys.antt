-- Keys as a script has them: with the tag of the header, if it has one.
use Rattle.std.specs.Prelude.{ℕ, ◌+◌, ◌*◌, ◌/◌, ◌%◌, ◌^◌, ◌==◌, ◌≤◌, Option, Some, None, if◌then◌else◌}
use Rattle.sh_key.specs.Layout.{Layout, first_key, key_count}
use Rattle.sh_key.specs.Tag.{with_tag}

-- a key of the heap is written with the tag, if there is one
abbrev pub shown : Option ℕ → ℕ → ℕ
shown None key = key
shown (Some tag) key = with_tag key tag

-- the key of the heap that is written as this number: with a tag, the number has this tag and bits 52 to 55 zero
abbrev pub key_shown : Option ℕ → ℕ → Option ℕ
key_shown None number = Some number
key_shown (Some tag) number = if number / 2 ^ 52 == tag * 16 then Some (number % 2 ^ 52) else None

-- if there is a tag, the layout's keys leave room for it
abbrev pub HasTagRoom : Layout → Option ℕ → Type 0
HasTagRoom layout None = Unit {0}
HasTagRoom layout (Some tag) = first_key layout + key_count layout ≤ 2 ^ 52
