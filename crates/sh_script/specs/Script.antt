-- A whole script as it is read, or its first fault. What a line after the header adds is given by `adds`, from the
-- number of passes and what there was before it.
use Rattle.std.specs.Prelude.{ℕ, ◌+◌, ◌==◌, nat_lt, List, [], ◌∷◌, length, Result, Ok, Err, slice_index, if◌then◌else◌}
use Rattle.std.specs.List.{slice_split, list_all}
use Rattle.std.specs.Int.{is_in_range}
use Rattle.sh_script.specs.Words.{Word, words_in, is_newline}
use Rattle.sh_script.specs.Trouble.{◌>>=◌, placed}
use Rattle.sh_script.specs.Headers.{header_of, opening_of}
use Rattle.sh_script.specs.declared.fault.Cause.TheVariants as cause
use Rattle.sh_script.specs.declared.trouble.Trouble.{Trouble}
use Rattle.sh_script.specs.declared.trouble.Trouble.TheVariants as trouble
use Rattle.sh_script.specs.declared.fault.Fault.{Fault}
use Rattle.sh_script.specs.declared.fault.Fault.TheVariants as fault
use Rattle.sh_script.specs.declared.header.Header.{Header}
use Rattle.sh_script.specs.declared.header.Version.TheVariants as version
use Rattle.sh_script.specs.declared.header.Opening.{Opening}
use Rattle.sh_script.specs.declared.header.Opening.TheVariants as opening
use Rattle.sh_script.specs.declared.reader.Read.{Read}

abbrev pub Adds : Type 0 → Type 0
Adds S = ℕ → S → List Word → Result S Trouble

-- before the first line
abbrev pub begin : {S : Type 0} → S → Read S
begin start = record { opening = opening.Unread; body = start }

abbrev pub with_opening : {S : Type 0} → Read S → Opening → Read S
with_opening before o = record before { opening = o }

abbrev pub with_body : {S : Type 0} → Read S → S → Read S
with_body before b = record before { body = b }

-- ---- a line

-- a line of at most 512 bytes from 32 to 126
abbrev pub whole_line : List ℕ → Result (List Word) Trouble
whole_line line =
    if nat_lt 512 (length line) then Err (trouble.Because cause.Size)
    else if list_all (is_in_range 32 126) line then Ok (words_in line)
    else Err (trouble.Because cause.Byte)

-- a line that says something is the header, perhaps after a version line, or one that adds to the body
abbrev pub said : {S : Type 0} → Adds S → Read S → Opening → List Word → Result (Read S) Trouble
said adds before opening.Unread words = opening_of words >>= λ o. Ok (with_opening before o)
said adds before opening.Versioned words = header_of version.Two words >>= λ h. Ok
    (with_opening before (opening.Headed h))
said adds before (opening.Headed h) words = adds h.shape.passes before.body words >>= λ b. Ok (with_body before b)

-- a line without a word, or that begins with ;, says nothing
abbrev pub says : {S : Type 0} → Adds S → Read S → List Word → Result (Read S) Trouble
says adds before [] = Ok before
says adds before (w ∷ ws) = if slice_index w 0 == 59 then Ok before else said adds before before.opening (w ∷ ws)

abbrev pub after_line : {S : Type 0} → Adds S → Read S → List ℕ → Result (Read S) Trouble
after_line adds before line = whole_line line >>= λ words. says adds before words

-- ---- the script

-- the lines of a text that end in a newline, and then the text after the last newline
abbrev pub pieces_of : List ℕ → List (List ℕ)
pieces_of text = slice_split is_newline text

-- a header was read by the end
abbrev pub headed : {S : Type 0} → ℕ → Opening → S → Result (Header × S) Fault
headed n opening.Unread body = Err (fault.Script n cause.Header)
headed n opening.Versioned body = Err (fault.Script n cause.Header)
headed n (opening.Headed h) body = Ok (h, body)

-- nothing comes after the last newline
abbrev pub ended : {S : Type 0} → Read S → ℕ → List ℕ → Result (Header × S) Fault
ended before n [] = headed n before.opening before.body
ended before n (b ∷ bs) = Err (fault.Script n (if nat_lt 512 (length (b ∷ bs)) then cause.Size else cause.Cut))

-- the result of the lines from number n on, or the first fault
abbrev pub read_from : {S : Type 0} → Adds S → Read S → ℕ → List (List ℕ) → Result (Header × S) Fault
read_from adds before n [] = ended before n []
read_from adds before n (rest ∷ []) = ended before n rest
read_from adds before n (line ∷ next ∷ more) = placed n (after_line adds before line) >>= λ now. read_from adds now
    (n + 1) (next ∷ more)

-- the result of a text, or its first fault
abbrev pub script_of : {S : Type 0} → Adds S → S → List ℕ → Result (Header × S) Fault
script_of adds start text =
    if nat_lt 1048576 (length text) then Err (fault.Script 0 cause.Size)
    else read_from adds (begin start) 1 (pieces_of text)
