-- The words of a header are read as that header, and no others are.
use Rattle.std.proofs.Common.{◌≡◌, ℕ, ◌*◌, ◌^◌, ◌<◌, ◌≤◌, ◌&&◌, ◌==◌, Bool, true, false, List, [], ◌∷◌, length, cond}
use Rattle.std.proofs.Common.{Option, Some, None, Ok, inl, inr, codes, decimal, refl, ap, ap₂, subst, ◌∙◌, arith}
use Rattle.std.proofs.Common.{ltb-true, lt-ltb}
use Rattle.std.specs.Bool.{Decides}
use Rattle.std.specs.Str.{bytes_eq}
use Rattle.std.proofs.lemmas.Bool.Decides.{Decides-and}
use Rattle.std.proofs.lemmas.Option.{cond_some, same_Some}
use Rattle.std.proofs.lemmas.Bool.{and_parts}
use Rattle.sh_key.specs.Layout.{Layout}
use Rattle.sh_shape.specs.Shape.{Numbers, segment_pages, IsSmallShape, Fits}
use Rattle.sh_script.specs.Words.{Word, number_of}
use Rattle.sh_script.specs.Headers.{is_shape, fits, shape_of, byte_in, tag_in, tag_of, with_a_tag, is_two}
use Rattle.sh_script.specs.Headers.{layout_and_tag, header_of, is_version_in, is_version_line}
use Rattle.sh_script.specs.Trouble.{◌>>=◌, or_trouble, or_cause}
use Rattle.sh_script.specs.Arguments.{two_of}
use Rattle.sh_script.specs.declared.fault.Cause.TheVariants as cause
use Rattle.sh_script.specs.declared.trouble.Trouble.TheVariants as trouble
use Rattle.sh_script.specs.HeaderMeaning.{layout_name, layout_of, HasLayout, IsTag, AreTag, IsHeader, IsVersionLine}
use Rattle.sh_script.specs.declared.header.Header.{Header}
use Rattle.sh_script.specs.declared.header.Layout.{Layout as LayoutName}
use Rattle.sh_script.specs.declared.header.Layout.TheVariants as layout
use Rattle.sh_script.specs.declared.header.Version.{Version}
use Rattle.sh_script.specs.declared.header.Version.TheVariants as version
use Rattle.sh_script.proofs.NumberLemmas.{number_is, number_of_decimal}
use Rattle.sh_script.proofs.NameLemmas.{le_test}
use Rattle.sh_script.proofs.Steps.{bind_ok, or_ok, ok_is, if_cases, else_ok, guarded, unless, same_word}
use Rattle.sh_script.proofs.Steps.{not_false, next_ok, number_at_ok, two_is}
use Rattle.sh_step.proofs.ListLaws.{none_left}

-- ---- the shape

shape_test : (n : Numbers) → Decides (is_shape n) ((1 ≤ n.shards) ×
    ((1 ≤ n.segments) × ((n.shards * n.segments ≤ 256) × ((1 ≤ n.passes) × (n.passes ≤ 64)))))
shape_test n =
    Decides-and _ _ (le_test 1 n.shards) (Decides-and _ _ (le_test 1 n.segments)
    (Decides-and _ _ (le_test (n.shards * n.segments) 256)
    (Decides-and _ _ (le_test 1 n.passes) (le_test n.passes 64))))

fits_test : (l : Layout) (n : Numbers) → Decides (fits l n) ((n.shards ≤ 2 ^ l.shard_bits)
    × (segment_pages * n.segments ≤ 2 ^ l.page_bits))
fits_test l n = Decides-and _ _ (le_test n.shards (2 ^ l.shard_bits))
    (le_test (segment_pages * n.segments) (2 ^ l.page_bits))

record IsGoodShape (l : Layout) (n : Numbers) : Type 0 where
  is_shape : IsSmallShape n
  fits : Fits l n

good_shape : (l : Layout) (n : Numbers) → (is_shape n && fits l n) ≡ true → IsGoodShape l n
good_shape l n e =
    let h = (Decides-and _ _ (shape_test n) (fits_test l n)).0 e in
    let a = h.0 in
    let b = h.1 in
    record {
      is_shape = record {
        is_shape = record {
          some_shard = a.0;
          some_segment = a.1.0;
          few_segments = omega (arith, a.1.1.0);
          some_pass = a.1.1.1.0;
          few_passes = a.1.1.1.1;
        };
        few_segments = a.1.1.0;
      };
      fits = record { shards_fit = b.0; pages_fit = b.1 };
    }

good_test : (l : Layout) (n : Numbers) → IsSmallShape n → Fits l n → (is_shape n && fits l n) ≡ true
good_test l n s f =
    (Decides-and _ _ (shape_test n) (fits_test l n)).1 (
      (
        s.is_shape.some_shard,
        (s.is_shape.some_segment, (s.few_segments, (s.is_shape.some_pass, s.is_shape.few_passes))),
      ),
      (f.shards_fit, f.pages_fit),
    )

-- ---- the tag

byte_is : (o : Option ℕ) (t : ℕ) → byte_in o ≡ Some t → (o ≡ Some t) × (t < 256)
byte_is None t e = cc
byte_is (Some n) t e =
    let h = cond_some _ _ _ e in
    let P : ℕ → Type 0 = λ k. (Some n ≡ Some k) × (k < 256) in
    subst P h.1 (refl, ltb-true n 256 h.0)

tag_in_is : (o : Option (Word × Word)) (ws : List Word) (t : ℕ) → ((p : Word × Word) → o ≡ Some p → ws ≡ p.0 ∷ p.1 ∷ [])
    → tag_in o ≡ Some t → IsTag ws t
tag_in_is None ws t two e = cc
tag_in_is (Some p) ws t two e =
    let h = guarded _ _ t e in
    let b = byte_is (number_of p.1) t h.1 in
    record {
      says = two p refl ∙ ap₂ (λ (x y : Word). x ∷ y ∷ []) (same_word _ _ h.0) ((number_is _ _ b.0).digits);
      small = b.1;
    }

tag_is : (ws : List Word) (t : ℕ) → tag_of ws ≡ Some t → IsTag ws t
tag_is ws t e = tag_in_is (two_of ws) ws t (two_is ws) e

tag_gives : (ws : List Word) (t : ℕ) → IsTag ws t → tag_of ws ≡ Some t
tag_gives ws t x =
    let small : t < 2 ^ 64 = omega (arith, x.small) in
    rw (x.says, number_of_decimal t small, lt-ltb _ _ x.small) refl

-- ---- the layout

record IsNamed (v : Version) (name : Word) (ws : List Word) (x : LayoutName × Option ℕ) : Type 0 where
  named : name ≡ layout_name x.0
  has_layout : HasLayout v x.0
  is_tag : AreTag x.0 ws x.1

tagged_is : (name : Word) (ws : List Word) (o : Option ℕ) (x : LayoutName × Option ℕ) → name ≡ codes "tagged"
    → ((t : ℕ) → o ≡ Some t → IsTag ws t) → with_a_tag o ≡ Some x
    → IsNamed version.Two name ws x
tagged_is name ws None x named tag e = cc
tagged_is name ws (Some t) x named tag e =
    let same : (layout.Tagged, Some t) ≡ x = same_Some (layout.Tagged, Some t) x e in
    subst (IsNamed version.Two name ws) same (record { named = named; has_layout = tt; is_tag = tag t refl })

of_two : (v : Version) (name : Word) (ws : List Word) (x : LayoutName × Option ℕ) → is_two v ≡ true
    → IsNamed version.Two name ws x → IsNamed v name ws x
of_two version.One name ws x e h = cc
of_two version.Two name ws x e h = h

tiny_in : (v : Version) → HasLayout v layout.Tiny
tiny_in version.One = tt
tiny_in version.Two = tt

wide_in : (v : Version) → HasLayout v layout.Wide
wide_in version.One = tt
wide_in version.Two = tt

plain_is : (v : Version) (name : Word) (ws : List Word) (x : LayoutName × Option ℕ) → ws ≡ []
    → cond (bytes_eq name (codes "tiny")) (Some (layout.Tiny, None))
    (cond (bytes_eq name (codes "wide")) (Some (layout.Wide, None)) None) ≡ Some x → IsNamed v name ws x
plain_is v name ws x none e =
    elim (if_cases (bytes_eq name (codes "tiny")) _ _ (Some x) e) [
      | inl h ↦
          let same : (layout.Tiny, None) ≡ x = same_Some (layout.Tiny, None) x h.1 in
          subst (IsNamed v name ws) same (record {
            named = same_word _ _ h.0;
            has_layout = tiny_in v;
            is_tag =
                (none, refl);
          })
      | inr h ↦
          let k = cond_some _ _ x h.1 in
          subst (IsNamed v name ws) k.1 (record {
            named = same_word _ _ k.0;
            has_layout = wide_in v;
            is_tag =
                (none, refl);
          })
    ]

layout_is : (v : Version) (name : Word) (ws : List Word) (x : LayoutName × Option ℕ) → layout_and_tag v name ws ≡ Some x
    → IsNamed v name ws x
layout_is v name ws x e =
    elim (if_cases (bytes_eq name (codes "tagged") && is_two v) _ _ (Some x) e) [
      | inl h ↦
          let tests = and_parts _ _ h.0 in
          of_two v name ws x tests.1 (tagged_is name ws (tag_of ws) x (same_word _ _ tests.0) (tag_is ws) h.1)
      | inr h ↦
          let k = unless _ _ x h.1 in
          plain_is v name ws x (none_left ws (not_false _ k.0)) k.1
    ]

layout_gives : (v : Version) (l : LayoutName) (ws : List Word) (t : Option ℕ) → HasLayout v l → AreTag l ws t
    → layout_and_tag v (layout_name l) ws ≡ Some (l, t)
layout_gives v layout.Tiny ws t h x = rw (x.0, x.1) refl
layout_gives v layout.Wide ws t h x = rw (x.0, x.1) refl
layout_gives version.One layout.Tagged ws t h x = absurd h
layout_gives version.Two layout.Tagged ws None h x = absurd x
layout_gives version.Two layout.Tagged ws (Some t) h x = rw (tag_gives ws t x) refl

-- ---- the words

joined : (ws xs ys zs us vs : List Word) (a b c d e a' b' c' d' e' : Word) → ws ≡ a ∷ xs → xs ≡ b ∷ ys → ys ≡ c ∷ zs
    → zs ≡ d ∷ us → us ≡ e ∷ vs
    → a ≡ a' → b ≡ b' → c ≡ c' → d ≡ d' → e ≡ e' → ws ≡ a' ∷ b' ∷ c' ∷ d' ∷ e' ∷ vs
joined ws xs ys zs us vs a b c d e a' b' c' d' e' p q r s t p' q' r' s' t' = cc

abbrev header_made : LayoutName → Option ℕ → Numbers → Header
header_made l t n = record { layout = l; shape = n; tag = t }

record IsMade (o : Option (LayoutName × Option ℕ)) (n : Numbers) (h : Header) : Type 0 where
  found : LayoutName × Option ℕ
  is : o ≡ Some found
  good : IsGoodShape (layout_of found.0) n
  whole : header_made found.0 found.1 n ≡ h

made_is : (o : Option (LayoutName × Option ℕ)) (n : Numbers) (h : Header)
    → (or_cause cause.Header o >>= λ l. or_trouble trouble.BadShape (shape_of (layout_of l.0) n) >>= λ shape. Ok
    (header_made l.0 l.1 shape)) ≡ Ok h → IsMade o n h
made_is None n h e = cc
made_is (Some l) n h e =
    let g = bind_ok _ _ h e in
    let s = cond_some _ n g.0 (or_ok _ _ _ g.1) in
    record {
      found = l;
      is = refl;
      good = good_shape (layout_of l.0) n s.0;
      whole = ap (header_made l.0 l.1) s.1
          ∙ ok_is (header_made l.0 l.1 g.0) h g.2;
    }

pub header_is : (v : Version) (ws : List Word) (h : Header) → header_of v ws ≡ Ok h → IsHeader v ws h
unfolding header_of
header_is v ws h e =
    let a = bind_ok _ _ h e in
    let b = bind_ok _ _ h a.2 in
    let c = bind_ok _ _ h b.2 in
    let d = bind_ok _ _ h c.2 in
    let f = bind_ok _ _ h d.2 in
    let shards = number_at_ok _ _ c.0 c.1 in
    let segments = number_at_ok _ _ d.0 d.1 in
    let passes = number_at_ok _ _ f.0 f.1 in
    let heap = else_ok _ _ _ h f.2 in
    let n : Numbers = record { shards = (c.0).0; segments = (d.0).0; passes = (f.0).0 } in
    let made = made_is (layout_and_tag v (b.0).0 (f.0).1) n h heap.1 in
    let named = layout_is v (b.0).0 (f.0).1 made.found made.is in
    subst (IsHeader v ws) made.whole (record {
      behind = (f.0).1;
      says =
          joined ws (a.0).1 (b.0).1 (c.0).1 (d.0).1 (f.0).1 (a.0).0 (b.0).0 shards.word segments.word passes.word _ _ _
          _ _ (next_ok _ ws a.0 a.1) (next_ok _ _ b.0 b.1) shards.is segments.is passes.is
          (same_word _ _ (not_false _ heap.0)) named.named ((number_is _ _ shards.number).digits)
          ((number_is _ _ segments.number).digits) ((number_is _ _ passes.number).digits);
      has_layout = named.has_layout;
      is_tag = named.is_tag;
      is_shape = made.good.is_shape;
      fits = made.good.fits;
    })

bits_small : (l : LayoutName) → (2 ^ (layout_of l).shard_bits ≤ 256) × (2 ^ (layout_of l).page_bits ≤ 1024)
bits_small layout.Tiny = (omega arith, omega arith)
bits_small layout.Wide = (omega arith, omega arith)
bits_small layout.Tagged = (omega arith, omega arith)

pub header_gives : (v : Version) (ws : List Word) (h : Header) → IsHeader v ws h → header_of v ws ≡ Ok h
unfolding header_of
header_gives v ws h x =
    let n : Numbers = h.shape in
    let few = bits_small h.layout in
    let shards : n.shards < 2 ^ 64 = omega (arith, x.fits.shards_fit, few.0) in
    let segments : n.segments < 2 ^ 64 = omega (arith, x.fits.pages_fit, few.1) in
    let passes : n.passes < 2 ^ 64 = omega (arith, x.is_shape.is_shape.few_passes) in
    rw (
      x.says,
      number_of_decimal n.shards shards,
      number_of_decimal n.segments segments,
      number_of_decimal n.passes
          passes,
      layout_gives v h.layout x.behind h.tag x.has_layout x.is_tag,
      good_test (layout_of h.layout) n
          x.is_shape x.fits,
    )
    refl

-- ---- the version line

version_in_is : (o : Option (Word × Word)) (ws : List Word) → ((p : Word × Word) → o ≡ Some p → ws ≡ p.0 ∷ p.1 ∷ [])
    → is_version_in o ≡ true → IsVersionLine ws
version_in_is None ws two e = cc
version_in_is (Some p) ws two e = let h = and_parts _ _ e in two p refl
    ∙ ap₂ (λ (x y : Word). x ∷ y ∷ []) (same_word _ _ h.0) (same_word _ _ h.1)

pub version_is : (ws : List Word) → is_version_line ws ≡ true → IsVersionLine ws
version_is ws e = version_in_is (two_of ws) ws (two_is ws) e

pub version_gives : (ws : List Word) → IsVersionLine ws → is_version_line ws ≡ true
version_gives ws e = ap is_version_line e

heap_opens_none : (t : Bool) (w : Word) → is_version_in (cond t (Some (codes "heap", w)) None) ≡ false
heap_opens_none true w = refl
heap_opens_none false w = refl

-- a header is no version line
pub header_no_version : (v : Version) (ws : List Word) (h : Header) → IsHeader v ws h → is_version_line ws ≡ false
header_no_version v ws h x =
    let left = decimal h.shape.shards ∷ decimal h.shape.segments ∷ decimal h.shape.passes ∷ x.behind in
    ap is_version_line x.says ∙ heap_opens_none (length left == 0) (layout_name h.layout)
