-- A script as its lines and what they mean, apart from how it is read. What a line after the header means is given by
-- `means`, from the number of passes, what there was before the line, its words, and what there is after it.
use Rattle.std.specs.Prelude.{◌≡◌, ◌≢◌, ℕ, ◌+◌, ◌<◌, ◌≤◌, ◌⊎◌, List, [], ◌∷◌, ◌++◌, length, Err}
use Rattle.std.specs.List.{All}
use Rattle.sh_script.specs.Words.{Word}
use Rattle.sh_script.specs.Trouble.{at_line}
use Rattle.sh_script.specs.Meaning.{AreWords}
use Rattle.sh_script.specs.HeaderMeaning.{IsHeader, IsVersionLine}
use Rattle.sh_script.specs.Script.{Adds, begin, with_opening, with_body, after_line, ended}
use Rattle.sh_script.specs.declared.fault.Cause.TheVariants as cause
use Rattle.sh_script.specs.declared.trouble.Trouble.{Trouble}
use Rattle.sh_script.specs.declared.fault.Fault.{Fault}
use Rattle.sh_script.specs.declared.fault.Fault.TheVariants as fault
use Rattle.sh_script.specs.declared.header.Header.{Header}
use Rattle.sh_script.specs.declared.header.Version.{Version}
use Rattle.sh_script.specs.declared.header.Version.TheVariants as version
use Rattle.sh_script.specs.declared.header.Opening.{Opening}
use Rattle.sh_script.specs.declared.header.Opening.TheVariants as opening
use Rattle.sh_script.specs.declared.reader.Read.{Read}

abbrev pub Means : Type 0 → Type 1
Means S = ℕ → S → List Word → S → Type 0

-- ---- a line

-- no word, or the first one begins with ;
abbrev pub IsSilent : List Word → Type 0
IsSilent [] = Unit {0}
IsSilent (w ∷ ws) = (rest : List ℕ) × (w ≡ 59 ∷ rest)

-- the words are the version line, which is read now
pub record SaysVersion {S : Type 0} (before : Read S) (words : List Word) (now : Read S) : Type 0 where
  pub is : IsVersionLine words
  pub now_is : now ≡ with_opening before opening.Versioned

-- the words are a header of this version, which is read now
pub record SaysHeader {S : Type 0} (v : Version) (before : Read S) (words : List Word) (now : Read S) : Type 0 where
  pub header : Header
  pub is : IsHeader v words header
  pub now_is : now ≡ with_opening before (opening.Headed header)

-- the words add to the body, under a header
pub record SaysMore {S : Type 0} (means : Means S) (before : Read S) (header : Header) (words : List Word)
    (now : Read S) : Type 0 where
  pub body : S
  pub is : means header.shape.passes before.body words body
  pub now_is : now ≡ with_body before body

-- the lines that say something are `version 2` and then a header, or a header at once, and then those that add to the
-- body
abbrev pub SaysNext : {S : Type 0} → Means S → Read S → Opening → List Word → Read S → Type 0
SaysNext means before opening.Unread words now = SaysVersion before words now ⊎ SaysHeader version.One before words now
SaysNext means before opening.Versioned words now = SaysHeader version.Two before words now
SaysNext means before (opening.Headed h) words now = SaysMore means before h words now

abbrev pub Mean : {S : Type 0} → Means S → Read S → List Word → Read S → Type 0
Mean means before words now = (IsSilent words × (now ≡ before)) ⊎
    ((¬ IsSilent words) × SaysNext means before before.opening words now)

-- a byte from 32 to 126
pub record IsPrinted (b : ℕ) : Type 0 where
  pub from_space : 32 ≤ b
  pub to_tilde : b ≤ 126

-- after what was read before it, the line leads to what is read now
pub record Says {S : Type 0} (means : Means S) (before : Read S) (line : List ℕ) (now : Read S) : Type 0 where
  pub short : length line ≤ 512
  pub printed : All IsPrinted line
  pub words : List Word
  pub are_words : AreWords line words
  pub mean : Mean means before words now

-- ---- a text

-- each line with its newline, and then the text after the last newline
abbrev pub spelling : List (List ℕ) → List ℕ → List ℕ
spelling [] rest = rest
spelling (l ∷ ls) rest = l ++ 10 ∷ spelling ls rest

-- no byte is a newline
abbrev pub IsLine : List ℕ → Type 0
IsLine line = All (λ b. b ≢ 10) line

-- the text has these lines, and then this rest without a newline
pub record IsText (text : List ℕ) (lines : List (List ℕ)) (rest : List ℕ) : Type 0 where
  pub spelled : text ≡ spelling lines rest
  pub lines_are : All IsLine lines
  pub rest_is : IsLine rest
  pub short : length text ≤ 1048576

-- lines that mean something lead from what was read before them to what is read after them
abbrev pub Leads : {S : Type 0} → Means S → Read S → List (List ℕ) → Read S → Type 0
Leads means before [] now = before ≡ now
Leads means before (l ∷ ls) now = (next : Read _) × Says means before l next × Leads means next ls now

-- the text is a script with this header, whose other lines lead from the start to this body
pub record IsScript {S : Type 0} (means : Means S) (start : S) (text : List ℕ) (header : Header) (body : S) : Type 0
  where
    pub lines : List (List ℕ)
    pub now : Read S
    pub is_text : IsText text lines []
    pub leads : Leads means (begin start) lines now
    pub header_is : now.opening ≡ opening.Headed header
    pub body_is : now.body ≡ body

-- ---- the first fault

-- the text is too long
pub record IsTooLong (text : List ℕ) (f : Fault) : Type 0 where
  pub long : 1048576 < length text
  pub is : f ≡ fault.Script 0 cause.Size

-- the first line with a fault is this one
pub record HasBadLine {S : Type 0} (means : Means S) (adds : Adds S) (start : S) (text : List ℕ) (f : Fault) : Type 0
  where
    pub before : List (List ℕ)
    pub bad : List ℕ
    pub after : List (List ℕ)
    pub rest : List ℕ
    pub now : Read S
    pub trouble : Trouble
    pub is_text : IsText text (before ++ bad ∷ after) rest
    pub leads : Leads means (begin start) before now
    pub bad_is : after_line adds now bad ≡ Err trouble
    pub is : f ≡ at_line (1 + length before) trouble

-- no line has a fault, but the end has one
pub record HasBadEnd {S : Type 0} (means : Means S) (start : S) (text : List ℕ) (f : Fault) : Type 0 where
  pub lines : List (List ℕ)
  pub rest : List ℕ
  pub now : Read S
  pub is_text : IsText text lines rest
  pub leads : Leads means (begin start) lines now
  pub is : ended now (1 + length lines) rest ≡ Err f

abbrev pub IsFault : {S : Type 0} → Means S → Adds S → S → List ℕ → Fault → Type 0
IsFault means adds start text f = IsTooLong text f ⊎ (HasBadLine means adds start text f ⊎ HasBadEnd means start text f)
