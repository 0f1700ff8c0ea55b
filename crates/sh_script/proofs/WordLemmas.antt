-- The words of a line are its runs of bytes other than space.
use Rattle.std.proofs.Common.{◌≡◌, ◌≢◌, ℕ, ◌==◌, Bool, true, false, not, List, [], ◌∷◌, ◌++◌, length, refl, sym, ap}
use Rattle.std.proofs.Common.{subst, ◌∙◌, eqb-true, eq-eqb, ne_eqb, append_assoc, arith}
use Rattle.std.specs.List.{All, slice_split, filter}
use Rattle.std.proofs.lemmas.List.{append-nil}
use Rattle.std.proofs.lemmas.List.Elements.{All-nil, All-cons, All-head, All-tail, All-weaker}
use Rattle.std.proofs.lemmas.List.Splits.{slice_split-cons_yes, slice_split_none, slice_split_at}
use Rattle.sh_script.specs.Words.{Word, is_space, words_in}
use Rattle.sh_script.specs.Meaning.{IsWord, EndsWord, AreWords}
use Rattle.sh_script.proofs.Steps.{not_both}

abbrev IsSpace : ℕ → Type 0
IsSpace b = b ≡ 32

abbrev IsOther : ℕ → Type 0
IsOther b = b ≢ 32

abbrev is_some_word : Word → Bool
is_some_word w = not (length w == 0)

-- ---- what is read

skips : (b : ℕ) (bs : List ℕ) → b ≡ 32 → words_in (b ∷ bs) ≡ words_in bs
skips b bs e = ap (filter is_some_word) (slice_split-cons_yes is_space b bs (eq-eqb b 32 e))

skips_all : (spaces rest : List ℕ) → All IsSpace spaces → words_in (spaces ++ rest) ≡ words_in rest
skips_all [] rest h = refl
skips_all (b ∷ bs) rest h = skips b (bs ++ rest) (All-head IsSpace b bs h) ∙ skips_all bs rest (All-tail IsSpace b bs h)

keeps : (w : Word) (ws : List Word) → w ≢ [] → filter is_some_word (w ∷ ws) ≡ w ∷ filter is_some_word ws
keeps [] ws some = absurd (some refl)
keeps (b ∷ bs) ws some = let e : (length (b ∷ bs) == 0) ≡ false = ne_eqb (length (b ∷ bs)) 0 (λ z. omega (arith, z))
    in rw e refl

others : (w : Word) → All IsOther w → All (λ b. is_space b ≡ false) w
others w h = All-weaker IsOther (λ b. is_space b ≡ false) (λ b ne. ne_eqb b 32 ne) w h

takes : (w : Word) (behind : List ℕ) → IsWord w → EndsWord behind → words_in (w ++ behind) ≡ w ∷ words_in behind
takes w [] h ends =
    ap words_in (append-nil w) ∙ ap (filter is_some_word) (slice_split_none is_space w (others w h.no_space))
    ∙ keeps w [] h.some
takes w (b ∷ bs) h ends =
    ap (filter is_some_word) (slice_split_at is_space w b bs (others w h.no_space) (eq-eqb b 32 ends))
    ∙ keeps w (slice_split is_space bs) h.some ∙ ap (λ ws. w ∷ ws) (sym (skips b bs ends))

pub words_give : (line : List ℕ) (ws : List Word) → AreWords line ws → words_in line ≡ ws
words_give line [] h = ap words_in (sym (append-nil line)) ∙ skips_all line [] h
words_give line (w ∷ ws) h =
    let x = h.1 in
    let there : line ≡ x.spaces ++ (w ++ h.0) = x.spelled ∙ append_assoc x.spaces w h.0 in
    ap words_in there ∙ skips_all x.spaces (w ++ h.0) x.spaces_are ∙ takes w h.0 x.is_word x.ends
    ∙ ap (λ xs. w ∷ xs) (words_give h.0 ws h.2)

-- ---- each line has words

record HasWords (line : List ℕ) : Type 0 where
  words : List Word
  are : AreWords line words

ends_all : (bs : List ℕ) → All IsSpace bs → EndsWord bs
ends_all [] h = tt
ends_all (b ∷ bs) h = All-head IsSpace b bs h

not_nil : (b : ℕ) (bs : List ℕ) → b ∷ bs ≢ []
not_nil b bs e = cc

byte_is_word : (b : ℕ) → b ≢ 32 → IsWord (b ∷ [])
byte_is_word b ne = record { some = not_nil b []; no_space = All-cons IsOther b [] ne (All-nil IsOther) }

longer : (b : ℕ) (w : Word) → b ≢ 32 → IsWord w → IsWord (b ∷ w)
longer b w ne h = record { some = not_nil b w; no_space = All-cons IsOther b w ne h.no_space }

new_word : (b : ℕ) (bs : List ℕ) (ws : List Word) → b ≢ 32 → EndsWord bs → AreWords bs ws → HasWords (b ∷ bs)
new_word b bs ws ne ends h = record {
  words = (b ∷ []) ∷ ws;
  are = (
    bs,
    record { spaces = []; spelled = refl; spaces_are = All-nil IsSpace; is_word = byte_is_word b ne; ends = ends },
    h,
  );
}

onto_word : (b : ℕ) (bs : List ℕ) (w : Word) (ws : List Word) (behind spaces : List ℕ) → b ≢ 32 → bs ≡ spaces ++ w
    ++ behind → All IsSpace spaces → IsWord w → EndsWord behind
    → AreWords behind ws → HasWords (b ∷ bs)
onto_word b bs w ws behind [] ne e s h ends more = record {
  words = (b ∷ w) ∷ ws;
  are = (
    behind,
    record {
      spaces = [];
      spelled = ap (λ xs. b ∷ xs) e;
      spaces_are = All-nil IsSpace;
      is_word = longer b w
          ne h;
      ends = ends;
    },
    more,
  );
}
onto_word b bs w ws behind (c ∷ cs) ne e s h ends more =
    let begins : EndsWord bs = subst EndsWord (sym e) (All-head IsSpace c cs s) in
    new_word b bs (w ∷ ws) ne begins (
      behind,
      record {
        spaces = c ∷ cs;
        spelled = e;
        spaces_are = s;
        is_word = h;
        ends =
            ends;
      },
      more,
    )

after_other : (b : ℕ) (bs : List ℕ) (ws : List Word) → b ≢ 32 → AreWords bs ws → HasWords (b ∷ bs)
after_other b bs [] ne h = new_word b bs [] ne (ends_all bs h) h
after_other b bs (w ∷ ws) ne h = let x = h.1 in onto_word b bs w ws h.0 x.spaces ne x.spelled x.spaces_are x.is_word
    x.ends h.2

after_space : (b : ℕ) (bs : List ℕ) (ws : List Word) → b ≡ 32 → AreWords bs ws → HasWords (b ∷ bs)
after_space b bs [] e h = record { words = []; are = All-cons IsSpace b bs e h }
after_space b bs (w ∷ ws) e h =
    let x = h.1 in
    record {
      words = w ∷ ws;
      are = (
        h.0,
        record {
          spaces = b ∷ x.spaces;
          spelled = ap (λ xs. b ∷ xs) x.spelled;
          spaces_are = All-cons IsSpace b
              x.spaces e x.spaces_are;
          is_word = x.is_word;
          ends = x.ends;
        },
        h.2,
      );
    }

by_first : (b : ℕ) (bs : List ℕ) (t : Bool) → is_space b ≡ t → HasWords bs → HasWords (b ∷ bs)
by_first b bs true e h = after_space b bs h.words (eqb-true b 32 e) h.are
by_first b bs false e h = after_other b bs h.words (λ same. not_both _ (eq-eqb b 32 same) e) h.are

has_words : (line : List ℕ) → HasWords line
has_words [] = record { words = []; are = All-nil IsSpace }
has_words (b ∷ bs) = by_first b bs (is_space b) refl (has_words bs)

pub words_are : (line : List ℕ) → AreWords line (words_in line)
words_are line = let h = has_words line in subst (AreWords line) (sym (words_give line h.words h.are)) h.are
