-- What reads and writes, one after the other, do to the bytes that are known.
use Rattle.std.specs.Prelude.{◌≡◌, ◌≢◌, ℕ, ◌≤◌, List, [], ◌++◌, length, Option}
use Rattle.sh_script.specs.declared.fault.Fault.{Fault}
use Rattle.sh_script.specs.declared.fault.Fault.TheVariants as fault
use Rattle.std.specs.Io.KnownBytes.{Appends, Consumes, IsAtEnd}

-- at most this many bytes were read
pub record ReadsAtMostBytes (old new : Option (List ℕ)) (most : ℕ) : Type 0 where
  pub bytes : List ℕ
  pub taken : Consumes old new bytes
  pub few : length bytes ≤ most

-- n bytes went from the reader to the end of the text, and none only at the reader's end
pub record MovesPiece (left rest : Option (List ℕ)) (old new : List ℕ) (n most : ℕ) : Type 0 where
  pub piece : List ℕ
  pub grows : new ≡ old ++ piece
  pub taken : Consumes left rest piece
  pub many : length piece ≡ n
  pub few : n ≤ most
  pub none : n ≡ 0 → IsAtEnd rest

-- the bytes except these last ones were written
pub record Wrote (old new : Option (List ℕ)) (bytes rest : List ℕ) : Type 0 where
  pub front : List ℕ
  pub split : bytes ≡ front ++ rest
  pub written : Appends old new front

-- a beginning of the bytes was written, and not all of them
pub record WroteBeginning (old new : Option (List ℕ)) (bytes : List ℕ) : Type 0 where
  pub rest : List ℕ
  pub wrote : Wrote old new bytes rest
  pub left : rest ≢ []

-- a fault that has nothing to do with the bytes
abbrev pub IsEndFault : Fault → Type 0
IsEndFault fault.Memory = Unit {0}
IsEndFault fault.Io = Unit {0}
IsEndFault _ = ⊥
