-- The words of an exchange stack: its top, the links between its items, and what each word names.
use Rattle.std.specs.Prelude.{ℕ, ◌+◌, ◌-◌, nat_lt, cond, Option, Some, None}
use Rattle.sh_stack.specs.declared.link.Link.{Link}
use Rattle.sh_stack.specs.declared.link.Link.TheVariants.{Unwritten, End, Next}

-- the top that names item n, and the item that a top names: 0 none, n + 1 item n
abbrev pub top_word : ℕ → ℕ
top_word n = n + 1

abbrev pub top_item : ℕ → Option ℕ
top_item top = cond (nat_lt top 1) None (Some (top - 1))

-- the link that an item stores if it was put over this top
abbrev pub link_over : ℕ → ℕ
link_over top = top + 1

-- what a link says: 0 not written, 1 the end, n + 2 item n
abbrev pub link_of : ℕ → Link
link_of link = cond (nat_lt link 1) Unwritten (cond (nat_lt link 2) End (Next (link - 2)))

-- the item that a written link names
abbrev pub link_item : ℕ → Option ℕ
link_item link = cond (nat_lt link 2) None (Some (link - 2))
