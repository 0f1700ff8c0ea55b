-- What the line of the header gives as it is read, and the version line before it, or the first fault in them.
use Rattle.std.specs.Prelude.{ℕ, ◌*◌, ◌^◌, ◌==◌, ◌&&◌, Bool, true, false, not, nat_lt, nat_le, List, length, Option}
use Rattle.std.specs.Prelude.{Some, None, Result, Ok, Err, codes, if◌then◌else◌}
use Rattle.std.specs.Str.{bytes_eq}
use Rattle.sh_key.specs.Layout.{Layout}
use Rattle.sh_shape.specs.Shape.{Numbers, segment_pages}
use Rattle.sh_script.specs.Words.{Word, number_of}
use Rattle.sh_script.specs.HeaderMeaning.{layout_of}
use Rattle.sh_script.specs.Trouble.{◌>>=◌, or_trouble, or_cause}
use Rattle.sh_script.specs.Arguments.{next_of, number_at, two_of}
use Rattle.sh_script.specs.declared.fault.Cause.TheVariants as cause
use Rattle.sh_script.specs.declared.trouble.Trouble.{Trouble}
use Rattle.sh_script.specs.declared.trouble.Trouble.TheVariants as trouble
use Rattle.sh_script.specs.declared.header.Layout.{Layout as LayoutName}
use Rattle.sh_script.specs.declared.header.Layout.TheVariants as layout
use Rattle.sh_script.specs.declared.header.Header.{Header}
use Rattle.sh_script.specs.declared.header.Version.{Version}
use Rattle.sh_script.specs.declared.header.Version.TheVariants as version
use Rattle.sh_script.specs.declared.header.Opening.{Opening}
use Rattle.sh_script.specs.declared.header.Opening.TheVariants as opening

-- ---- the shape

-- at least one of each, at most 256 segments in all shards together, at most 64 passes
abbrev pub is_shape : Numbers → Bool
is_shape n =
    nat_le 1 n.shards && (nat_le 1 n.segments && (nat_le (n.shards * n.segments) 256 &&
    (nat_le 1 n.passes && nat_le n.passes 64)))

-- each shard and each page of a shard has a number in the layout
abbrev pub fits : Layout → Numbers → Bool
fits l n = nat_le n.shards (2 ^ l.shard_bits) && nat_le (segment_pages * n.segments) (2 ^ l.page_bits)

-- the shape with these numbers, if it is one that fits the layout
abbrev pub shape_of : Layout → Numbers → Option Numbers
shape_of l n = if is_shape n && fits l n then Some n else None

-- ---- the layout and the tag

-- a number below 256
abbrev pub byte_of : ℕ → Option ℕ
byte_of n = if nat_lt n 256 then Some n else None

abbrev pub byte_in : Option ℕ → Option ℕ
byte_in None = None
byte_in (Some n) = byte_of n

-- `tag` and a number below 256
abbrev pub tag_in : Option (Word × Word) → Option ℕ
tag_in None = None
tag_in (Some p) = if bytes_eq p.0 (codes "tag") then byte_in (number_of p.1) else None

abbrev pub tag_of : List Word → Option ℕ
tag_of ws = tag_in (two_of ws)

-- version 2 has layout tagged, whose tag follows
abbrev pub with_a_tag : Option ℕ → Option (LayoutName × Option ℕ)
with_a_tag None = None
with_a_tag (Some tag) = Some (layout.Tagged, Some tag)

abbrev pub is_two : Version → Bool
is_two version.One = false
is_two version.Two = true

-- the layout of this name, and what follows the shape: a tag, or nothing
abbrev pub layout_and_tag : Version → Word → List Word → Option (LayoutName × Option ℕ)
layout_and_tag v name ws =
    if bytes_eq name (codes "tagged") && is_two v then with_a_tag (tag_of ws)
    else if not (length ws == 0) then None
    else if bytes_eq name (codes "tiny") then Some (layout.Tiny, None)
    else if bytes_eq name (codes "wide") then Some (layout.Wide, None)
    else None

-- ---- the line

unfoldable pub header_of : Version → List Word → Result Header Trouble
header_of v ws = do
  heap ← next_of cause.Header ws
  name ← next_of cause.Header heap.1
  shards ← number_at cause.Header name.1
  segments ← number_at cause.Header shards.1
  passes ← number_at cause.Header segments.1
  if not (bytes_eq heap.0 (codes "heap")) then Err (trouble.Because cause.Header)
      else or_cause cause.Header (layout_and_tag v name.0 passes.1) >>= λ l.
      or_trouble trouble.BadShape (shape_of (layout_of l.0) (record
      { shards = shards.0; segments = segments.0; passes = passes.0 })) >>= λ shape.
      Ok (record { layout = l.0; shape = shape; tag = l.1 })

-- ---- the first line that says something

abbrev pub is_version_in : Option (Word × Word) → Bool
is_version_in None = false
is_version_in (Some p) = bytes_eq p.0 (codes "version") && bytes_eq p.1 (codes "2")

-- the words are `version 2`
abbrev pub is_version_line : List Word → Bool
is_version_line ws = is_version_in (two_of ws)

abbrev pub opening_of : List Word → Result Opening Trouble
opening_of ws = if is_version_line ws then Ok opening.Versioned else header_of version.One ws >>= λ h. Ok
    (opening.Headed h)
