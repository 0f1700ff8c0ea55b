-- A line is read as what it means.
use Rattle.std.proofs.Common.{◌≡◌, ℕ, ◌==◌, nat_lt, Bool, true, false, List, [], ◌∷◌, length, Ok, inl, inr, slice_index}
use Rattle.std.proofs.Common.{refl, sym, ap, ◌∙◌, eqb-true, leb-true, le-leb, le-ltb, ltb-false}
use Rattle.std.specs.Bool.{Decides}
use Rattle.std.specs.List.{All, list_all}
use Rattle.std.specs.Int.{is_in_range}
use Rattle.std.proofs.lemmas.Bool.Decides.{Decides-and, Decides-like, Decides-by_and}
use Rattle.sh_script.specs.Words.{Word, words_in}
use Rattle.sh_script.specs.Headers.{is_version_line}
use Rattle.sh_script.specs.Script.{Adds, with_opening, with_body, whole_line, said, says, after_line}
use Rattle.sh_script.specs.Grammar.{Means, SaysNext, Mean, IsPrinted, Says}
use Rattle.sh_script.specs.declared.header.Version.TheVariants as version
use Rattle.sh_script.specs.declared.header.Opening.{Opening}
use Rattle.sh_script.specs.declared.header.Opening.TheVariants as opening
use Rattle.sh_script.specs.declared.reader.Read.{Read}
use Rattle.sh_script.proofs.Steps.{bind_ok, ok_of, ok_is, not_both, if_cases, if_ok, else_ok, Agrees}
use Rattle.sh_script.proofs.WordLemmas.{words_are, words_give}
use Rattle.sh_script.proofs.HeaderLemmas.{header_is, header_gives, version_is, version_gives, header_no_version}

-- ---- the words

first_is : (w : Word) → (slice_index w 0 == 59) ≡ true → (rest : List ℕ) × (w ≡ 59 ∷ rest)
first_is [] e = cc
first_is (b ∷ bs) e = let h : b ≡ 59 = eqb-true _ _ e in (bs, ap (λ x. x ∷ bs) h)

first_gives : (w rest : List ℕ) → w ≡ 59 ∷ rest → (slice_index w 0 == 59) ≡ true
first_gives w rest e = ap (λ x. slice_index x 0 == 59) e

said_is : {S : Type 0} (adds : Adds S) (means : Means S) (agree : Agrees adds means) (before : Read S) (o : Opening)
    (ws : List Word) (now : Read S) → said adds before o ws ≡ Ok now → SaysNext means before o ws now
said_is adds means agree before opening.Unread ws now e =
    let a = bind_ok _ _ now e in
    let same : now ≡ with_opening before a.0 = sym (ok_is (with_opening before a.0) now a.2) in
    elim (if_cases (is_version_line ws) _ _ (Ok a.0) a.1) [
      | inl h ↦ inl (record {
        is = version_is ws h.0;
        now_is = same
            ∙ ap (with_opening before) (sym (ok_is opening.Versioned a.0 h.1));
      })
      | inr h ↦
          let b = bind_ok _ _ a.0 h.1 in
          inr (record {
            header = b.0;
            is = header_is version.One ws b.0 b.1;
            now_is = same
                ∙ ap (with_opening before) (sym (ok_is (opening.Headed b.0) a.0 b.2));
          })
    ]
said_is adds means agree before opening.Versioned ws now e =
    let a = bind_ok _ _ now e in
    record {
      header = a.0;
      is = header_is version.Two ws a.0 a.1;
      now_is = sym
          (ok_is (with_opening before (opening.Headed a.0)) now a.2);
    }
said_is adds means agree before (opening.Headed h) ws now e =
    let a = bind_ok _ _ now e in
    record {
      body = a.0;
      is = agree.is h.shape.passes before.body ws a.0 a.1;
      now_is = sym
          (ok_is (with_body before a.0) now a.2);
    }

said_gives : {S : Type 0} (adds : Adds S) (means : Means S) (agree : Agrees adds means) (before : Read S) (o : Opening)
    (ws : List Word) (now : Read S) → SaysNext means before o ws now → said adds before o ws ≡ Ok now
said_gives adds means agree before opening.Unread ws now (inl x) = rw (version_gives ws x.is) (ap ok_of (sym x.now_is))
said_gives adds means agree before opening.Unread ws now (inr x) = rw
    (header_no_version version.One ws x.header x.is, header_gives version.One ws x.header x.is)
    (ap ok_of (sym x.now_is))
said_gives adds means agree before opening.Versioned ws now x = rw (header_gives version.Two ws x.header x.is)
    (ap ok_of (sym x.now_is))
said_gives adds means agree before (opening.Headed h) ws now x = rw
    (agree.gives h.shape.passes before.body ws x.body x.is) (ap ok_of (sym x.now_is))

mean_is : {S : Type 0} (adds : Adds S) (means : Means S) (agree : Agrees adds means) (before : Read S) (ws : List Word)
    (now : Read S) → says adds before ws ≡ Ok now → Mean means before ws now
mean_is adds means agree before [] now e = inl (tt, sym (ok_is before now e))
mean_is adds means agree before (w ∷ ws) now e =
    elim (if_cases (slice_index w 0 == 59) (Ok before) (said adds before before.opening (w ∷ ws)) (Ok now) e) [
      | inl h ↦ inl (first_is w h.0, sym (ok_is before now h.1))
      | inr h ↦ inr (
        (λ s. not_both _ (first_gives w s.0 s.1) h.0),
        said_is adds means agree before before.opening
            (w ∷ ws) now h.1,
      )
    ]

mean_gives : {S : Type 0} (adds : Adds S) (means : Means S) (agree : Agrees adds means) (before : Read S)
    (ws : List Word) (now : Read S) → Mean means before ws now → says adds before ws ≡ Ok now
mean_gives adds means agree before [] now (inl h) = ap ok_of (sym h.1)
mean_gives adds means agree before [] now (inr h) = absurd (h.0 tt)
mean_gives adds means agree before (w ∷ ws) now (inl h) = rw (first_gives w (h.0).0 (h.0).1) (ap ok_of (sym h.1))
mean_gives adds means agree before (w ∷ ws) now (inr h) = by (slice_index w 0 == 59) refl
  where
    by : (t : Bool) → (slice_index w 0 == 59) ≡ t → says adds before (w ∷ ws) ≡ Ok now
    by true e = absurd (h.0 (first_is w e))
    by false e = rw e (said_gives adds means agree before before.opening (w ∷ ws) now h.1)

-- ---- the bytes

printed : (b : ℕ) → Decides (is_in_range 32 126 b) (IsPrinted b)
printed b =
    Decides-like _ (λ p. record { from_space = p.0; to_tilde = p.1 }) (λ r. (r.from_space, r.to_tilde))
    (Decides-and _ _ (leb-true 32 b, le-leb 32 b) (leb-true b 126, le-leb b 126))

all_printed : (line : List ℕ) → Decides (list_all (is_in_range 32 126) line) (All IsPrinted line)
all_printed line = Decides-by_and (is_in_range 32 126) IsPrinted (list_all (is_in_range 32 126)) printed refl
    (λ _ _. refl) line

pub line_means : {S : Type 0} (adds : Adds S) (means : Means S) (agree : Agrees adds means) (before : Read S)
    (line : List ℕ) (now : Read S) → after_line adds before line ≡ Ok now → Says means before line now
line_means adds means agree before line now e =
    let a = bind_ok (whole_line line) _ now e in
    let b = else_ok (nat_lt 512 (length line)) _ _ a.0 a.1 in
    let c = if_ok (list_all (is_in_range 32 126) line) _ _ _ b.1 in
    record {
      short = ltb-false _ _ b.0;
      printed = (all_printed line).0 c.0;
      words = words_in line;
      are_words = words_are line;
      mean = mean_is adds means agree before (words_in line) now (ap (λ ws. says adds before ws) c.1 ∙ a.2);
    }

pub line_is_read : {S : Type 0} (adds : Adds S) (means : Means S) (agree : Agrees adds means) (before : Read S)
    (line : List ℕ) (now : Read S) → Says means before line now → after_line adds before line ≡ Ok now
line_is_read adds means agree before line now x = rw (
  le-ltb _ _ x.short,
  (all_printed line).1 x.printed,
  words_give
      line x.words x.are_words,
) (mean_gives adds means agree before x.words now x.mean)
