-- What reads and writes add up to.
use Rattle.std.proofs.Common.{◌≡◌, ◌≢◌, ℕ, ◌+◌, ◌≤◌, List, [], ◌++◌, length, take, drop, Option, Some, None, refl, sym}
use Rattle.std.proofs.Common.{ap, ◌∙◌, append_assoc, append-nil, arith, take-append-drop, subst, length-append}
use Rattle.std.proofs.lemmas.List.{take_at, take_all, length-take}
use Rattle.std.proofs.KnownBytes.{Appends-nil, Appends-trans, Consumes-trans}
use Rattle.std.specs.Io.KnownBytes.{Appends, Consumes, IsAtEnd, Keeps}
use Rattle.script_output.specs.Ends.{MovesPiece, ReadsAtMostBytes, Wrote, WroteBeginning}

-- a text of the greatest length is the front of what the reader had
pub full : (a b : Option (List ℕ)) (text : List ℕ) (limit : ℕ) → Consumes a b text → length text ≡ limit
    → ((input : List ℕ) → a ≡ Some input → text ≡ take limit input)
full None b text limit h e = λ input is. cc
full (Some x) None text limit h e = absurd h
full (Some x) (Some y) text limit h e = λ input is. let same : x ≡ input = cc
    in sym (ap (take limit) (sym same ∙ h) ∙ take_at text y limit e)

take_short : (xs : List ℕ) (n : ℕ) → length xs ≤ n → take n xs ≡ xs
take_short xs n h = take_all n xs h

-- so is a shorter one, at the reader's end
pub at_end : (a b : Option (List ℕ)) (text : List ℕ) (limit : ℕ) → Consumes a b text → IsAtEnd b → length text ≤ limit
    → ((input : List ℕ) → a ≡ Some input → text ≡ take limit input)
at_end None b text limit h e le = λ input is. cc
at_end (Some x) None text limit h e le = absurd h
at_end (Some x) (Some y) text limit h e le =
    let same : x ≡ text = h ∙ ap (λ l. text ++ l) e ∙ append-nil text in
    λ input is. let this : x ≡ input = cc in sym (ap (take limit) (sym this ∙ same) ∙ take_short text limit le)

pub wrote_none : (a : Option (List ℕ)) (bytes : List ℕ) → Wrote a a bytes bytes
wrote_none a bytes = record { front = []; split = refl; written = Appends-nil a }

pub wrote_more : (a b c : Option (List ℕ)) (bytes rest : List ℕ) (n : ℕ) → Wrote a b bytes rest
    → Appends b c (take n rest) → Wrote a c bytes (drop n rest)
wrote_more a b c bytes rest n w h = record {
  front = w.front ++ take n rest;
  split = w.split ∙ ap (λ l. w.front ++ l) (sym (take-append-drop n rest))
      ∙ sym (append_assoc w.front (take n rest) (drop n rest));
  written = Appends-trans a b c w.front (take n rest) w.written h;
}

-- a read that gave nothing, after the reads before it
pub ends_here : (a b c : Option (List ℕ)) (text more : List ℕ) (n most limit : ℕ) → Consumes a b text
    → MovesPiece b c text more n most → n ≡ 0 → length text ≤ limit
    → ((input : List ℕ) → a ≡ Some input → more ≡ take limit input)
ends_here a b c text more n most limit h p e le =
    let P : List ℕ → Type 0 = λ l. Consumes a c l in
    at_end a c more limit (subst P (sym p.grows) (Consumes-trans a b c text p.piece h p.taken)) (p.none e)
    (omega (arith, p.many, ap length p.grows, length-append text p.piece))

kept_more : (a b : Option (List ℕ)) → Keeps a b → Appends a b []
kept_more None b h = tt
kept_more (Some x) None h = absurd h
kept_more (Some x) (Some y) h = h ∙ sym (append-nil x)

pub wrote_and_failed : (a b c : Option (List ℕ)) (bytes rest : List ℕ) → Wrote a b bytes rest → rest ≢ [] → Keeps b c
    → WroteBeginning a c bytes
wrote_and_failed a b c bytes rest w some h = record {
  rest = rest;
  left = some;
  wrote = record {
    front = w.front ++ [];
    split = w.split ∙ ap (λ l. l ++ rest) (sym (append-nil w.front));
    written =
        Appends-trans a b c w.front [] w.written (kept_more b c h);
  };
}

-- of bytes that are written piece by piece: none, one piece more, and a piece that failed
pub ruleset writes_pieces = (wrote_none, wrote_more, wrote_and_failed)

-- ---- how many bytes were read

consumes_none : (a b : Option (List ℕ)) → Keeps a b → Consumes a b []
consumes_none None b h = tt
consumes_none (Some x) None h = absurd h
consumes_none (Some x) (Some y) h = sym h

pub reads_none : (a b : Option (List ℕ)) (most : ℕ) → Keeps a b → ReadsAtMostBytes a b most
reads_none a b most h = record { bytes = []; taken = consumes_none a b h; few = omega arith }

pub reads_piece : (a b : Option (List ℕ)) (piece : List ℕ) (n most : ℕ) → Consumes a b (take n piece) → n ≤ most
    → ReadsAtMostBytes a b most
reads_piece a b piece n most h le = record {
  bytes = take n piece;
  taken = h;
  few = let e = length-take n piece
      in omega (arith, e);
}

pub reads_done : (a b : Option (List ℕ)) (text : List ℕ) (limit : ℕ) → Consumes a b text → length text ≤ limit
    → ReadsAtMostBytes a b limit
reads_done a b text limit h le = record { bytes = text; taken = h; few = le }

pub reads_more : (a b c : Option (List ℕ)) (text : List ℕ) (most limit : ℕ) → Consumes a b text
    → ReadsAtMostBytes b c most
    → length text + most ≤ limit → ReadsAtMostBytes a c limit
reads_more a b c text most limit h r le = record {
  bytes = text ++ r.bytes;
  taken = Consumes-trans a b c text r.bytes h r.taken;
  few = omega (arith, r.few, length-append text r.bytes);
}
