-- What the two flags of a slot say together.
use Rattle.std.specs.Prelude.{ℕ, Bool, true, false}
use Rattle.sh_word.specs.Fields.{Fields}
use Rattle.sh_word.specs.declared.slot_state.Kind.{Kind}
use Rattle.sh_word.specs.declared.slot_state.Kind.TheVariants.{Empty, Live, Marked, Retired}

-- The kind of a slot that is marked or not, and present or not.
abbrev pub kind_by : Bool → Bool → Kind
kind_by false false = Empty
kind_by false true = Live
kind_by true true = Marked
kind_by true false = Retired

-- The kind of a slot with these fields.
abbrev pub kind_of : Fields → Kind
kind_of f = kind_by f.marked f.present

-- The fields of a slot of a kind, in a generation, with a count.
abbrev pub fields_at : Kind → ℕ → ℕ → Fields
fields_at Empty g n = record { generation = g; marked = false; present = false; count = n }
fields_at Live g n = record { generation = g; marked = false; present = true; count = n }
fields_at Marked g n = record { generation = g; marked = true; present = true; count = n }
fields_at Retired g n = record { generation = g; marked = true; present = false; count = n }
