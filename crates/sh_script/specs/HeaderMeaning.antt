-- What the header means, and the version line before it, in the words of the format.
use Rattle.std.specs.Prelude.{◌≡◌, ℕ, ◌<◌, List, [], ◌∷◌, Option, Some, None, codes, decimal}
use Rattle.sh_key.specs.Layout.{Layout}
use Rattle.sh_key.specs.Layouts.{tiny, wide, tagged}
use Rattle.sh_shape.specs.Shape.{IsSmallShape, Fits}
use Rattle.sh_script.specs.Words.{Word}
use Rattle.sh_script.specs.declared.header.Layout.{Layout as LayoutName}
use Rattle.sh_script.specs.declared.header.Layout.TheVariants as layout
use Rattle.sh_script.specs.declared.header.Header.{Header}
use Rattle.sh_script.specs.declared.header.Version.{Version}
use Rattle.sh_script.specs.declared.header.Version.TheVariants as version

-- the name of a layout, and which layout it is
abbrev pub layout_name : LayoutName → Word
layout_name layout.Tiny = codes "tiny"
layout_name layout.Wide = codes "wide"
layout_name layout.Tagged = codes "tagged"

abbrev pub layout_of : LayoutName → Layout
layout_of layout.Tiny = tiny
layout_of layout.Wide = wide
layout_of layout.Tagged = tagged

-- only version 2 has every layout
abbrev pub HasLayout : Version → LayoutName → Type 0
HasLayout version.One layout.Tagged = ⊥
HasLayout _ _ = Unit {0}

-- the words are `tag` and the digits of this number below 256
pub record IsTag (words : List Word) (tag : ℕ) : Type 0 where
  pub says : words ≡ codes "tag" ∷ decimal tag ∷ []
  pub small : tag < 256

-- layout tagged is followed by its tag; any other layout is followed by nothing, and has no tag
abbrev pub AreTag : LayoutName → List Word → Option ℕ → Type 0
AreTag layout.Tagged words (Some tag) = IsTag words tag
AreTag layout.Tagged words None = ⊥
AreTag layout.Tiny words tag = (words ≡ []) × (tag ≡ None)
AreTag layout.Wide words tag = (words ≡ []) × (tag ≡ None)

-- so layout tagged has a tag, and no other layout has one
abbrev pub HasTag : LayoutName → Option ℕ → Type 0
HasTag layout.Tagged (Some tag) = tag < 256
HasTag layout.Tagged None = ⊥
HasTag layout.Tiny tag = tag ≡ None
HasTag layout.Wide tag = tag ≡ None

-- the words are `heap`, the name of a layout of the version, the numbers of a small shape that fits the layout, and the
-- tag
pub record IsHeader (version : Version) (words : List Word) (header : Header) : Type 0 where
  pub behind : List Word
  pub says : words ≡ codes "heap" ∷ layout_name header.layout ∷ decimal header.shape.shards ∷ decimal
      header.shape.segments ∷ decimal header.shape.passes ∷ behind
  pub has_layout : HasLayout version header.layout
  pub is_tag : AreTag header.layout behind header.tag
  pub is_shape : IsSmallShape header.shape
  pub fits : Fits (layout_of header.layout) header.shape

-- the words are `version 2`
abbrev pub IsVersionLine : List Word → Type 0
IsVersionLine words = words ≡ codes "version" ∷ codes "2" ∷ []
