-- The command line: its description for clap, and the result of clap's rules for the words. The first word is the
-- program's name. clap has the modes by reference, so they are words in borrowed memory (`Bor`).
use Rattle.std.specs.Prelude.{◌≡◌, ◌≢◌, ◌⊎◌, Bool, true, false, List, [], ◌∷◌, map, Option, Some, None, codes}
use Rattle.std.specs.Borrow.{Bor}
use Rattle.clap.specs.Words.{App, Rule, Text, IsAmong, fault_of, first_of, matches_of, new_app, new_rule, one_of, takes}
use Rattle.clap.specs.Words.{with_rule}
use Rattle.clap.specs.declared.builder.action.ArgAction.TheVariants.{Set, SetTrue}
use Rattle.clap.specs.declared.error.kind.ErrorKind.{ErrorKind}
use Rattle.clap.specs.declared.error.kind.ErrorKind.TheVariants.{OutOfMemory}
use Rattle.clap.specs.declared.builder.value_parser.ValueParser.TheVariants.{Names}
use Rattle.script_output.specs.declared.mode.Mode.{Mode}
use Rattle.script_output.specs.declared.mode.Mode.TheVariants.{Plain, Heap, Steps, Threads}

-- how a mode is written
abbrev pub mode_name : Mode → Text
mode_name Plain = codes "plain"
mode_name Heap = codes "heap"
mode_name Steps = codes "steps"
mode_name Threads = codes "threads"

-- the word names no mode
abbrev pub IsNoMode : Text → Type 0
IsNoMode word = (mode : Mode) → word ≢ mode_name mode

-- the modes, in the order of the help
abbrev pub all_modes : List Mode
all_modes = Plain ∷ Heap ∷ Steps ∷ Threads ∷ []

-- the words of the modes, wherever they are in memory
abbrev pub NameModes : Bor (List (Bor Text)) → Type 0
NameModes modes = map (λ w. w.now) modes.now ≡ map mode_name all_modes

-- the mode is required, and is one of these words
abbrev pub mode_rule : Bor (List (Bor Text)) → Rule
mode_rule modes = record (new_rule (codes "mode")) { required = true; action = Some Set; parser = Some (Names modes) }

-- the flag --accounts
abbrev pub accounts_rule : Rule
accounts_rule = record (new_rule (codes "accounts")) { long = Some (codes "accounts"); action = Some SetTrue }

-- the program's name, and that it has a version
abbrev pub program_app : App
program_app = let new = new_app (codes "shardheap") in record new { top = record new.top { has_version = true } }

-- the description of the command line for clap
abbrev pub command_line : Bor (List (Bor Text)) → App
command_line modes = with_rule (with_rule program_app (mode_rule modes)) accounts_rule

-- the word that clap takes for the mode
abbrev pub mode_word : Bor (List (Bor Text)) → List Text → Option Text
mode_word modes words = first_of (codes "mode") (matches_of (command_line modes) words)

-- the text that clap gives for the flag
abbrev pub flag_text : Bor (List (Bor Text)) → List Text → Option Text
flag_text modes words = one_of (codes "accounts") (matches_of (command_line modes) words)

-- a flag is set if its text is "true", and is not set if it has none or "false"
pub record Shows (text : Option Text) (flag : Bool) : Type 0 where
  pub none : text ≡ None → flag ≡ false
  pub yes : text ≡ Some (codes "true") → flag ≡ true
  pub no : text ≡ Some (codes "false") → flag ≡ false

-- clap's rules find no fault with the words, and its matches have this mode and this flag
pub record CommandSays (words : List Text) (mode : Mode) (accounts : Bool) : Type 0 where
  pub modes : Bor (List (Bor Text))
  pub named : NameModes modes
  pub faultless : fault_of (command_line modes) words ≡ []
  pub mode_is : mode_word modes words ≡ Some (mode_name mode)
  pub accounts_is : Shows (flag_text modes words) accounts

-- The words are refused with an error of this kind: memory ran out, or clap's rules find this fault. Words that the
-- rules take are refused only for want of memory.
pub record IsRefused (words : List Text) (kind : ErrorKind) : Type 0 where
  pub modes : Bor (List (Bor Text))
  pub named : NameModes modes
  pub why : (kind ≡ OutOfMemory) ⊎ IsAmong kind (fault_of (command_line modes) words)
  pub taken : takes (command_line modes) words ≡ true → kind ≡ OutOfMemory
