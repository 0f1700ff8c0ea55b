-- How the program ends, by its words, the bytes that it can read and those that it has written.
use Rattle.std.specs.Prelude.{◌≡◌, ◌≢◌, ◌⊎◌, ℕ, Bool, List, [], Option}
use Rattle.std.specs.Io.KnownBytes.{Appends}
use Rattle.clap.specs.Words.{Text}
use Rattle.clap.specs.declared.error.kind.ErrorKind.{ErrorKind}
use Rattle.clap.specs.declared.error.kind.ErrorKind.TheVariants.{DisplayHelp, DisplayVersion, OutOfMemory}
use Rattle.sh_script.specs.declared.fault.Fault.{Fault}
use Rattle.script_output.specs.declared.mode.Mode.{Mode}
use Rattle.script_output.specs.Ends.{IsEndFault, WroteBeginning}
use Rattle.script_output.specs.Faults.{IsFaultOf, IsScriptOf}
use Rattle.sh_replay.specs.Output.{WritesOutput, Stops}
use Rattle.script_program.specs.Faults.{status_of}
use Rattle.script_program.specs.Options.{IsRefused, CommandSays}

-- a text is shown: 0 if all of it was written, and 3 if a write failed and a beginning of it was written
abbrev pub ShowsText : (text : List ℕ) → ℕ → (old new : Option (List ℕ)) → Type 0
ShowsText text status old new = ((status ≡ 0) × Appends old new text) ⊎ ((status ≡ 3) × WroteBeginning old new text)

-- some text is shown, or there was no memory for it and nothing is written
abbrev pub EndsShown : ℕ → (old new : Option (List ℕ)) → Type 0
EndsShown status old new =
    ((text : List ℕ) × (text ≢ []) × ShowsText text status old new) ⊎ ((status ≡ 3) × (new ≡ old))

-- The exit status if clap gave no options for this reason. For help and the version it is that of the text that is
-- shown. It is 3 if memory ran out, and 2 after a mistake in the words.
abbrev pub EndsBy : ErrorKind → ℕ → (old new : Option (List ℕ)) → Type 0
EndsBy DisplayHelp status old new = EndsShown status old new
EndsBy DisplayVersion status old new = EndsShown status old new
EndsBy OutOfMemory status old new = status ≡ 3
EndsBy _ status old new = status ≡ 2

-- the words are refused for a reason, the exit status is that reason's, nothing of the input is read, and only help is
-- output
pub record EndsRefused (words : List Text) (before after : Option (List ℕ)) (old new : Option (List ℕ)) (status : ℕ) :
    Type 0 where
  pub kind : ErrorKind
  pub refused : IsRefused words kind
  pub ends : EndsBy kind status old new
  pub unread : after ≡ before
  pub quiet : kind ≢ DisplayHelp → kind ≢ DisplayVersion → new ≡ old

-- the run ended with a fault, and the exit status is that fault's
pub record EndsFaulty (mode : Mode) (accounts : Bool) (text : List ℕ) (old new : Option (List ℕ)) (status : ℕ) : Type 0
  where
    pub fault : Fault
    pub is : status ≡ status_of fault
    pub may : IsFaultOf mode text fault
    pub answers : IsScriptOf mode text → IsEndFault fault
    pub stops : Stops mode accounts text fault old new

-- the words say a mode, and the script was run in it: to its end, with status 0, or up to a fault
pub record EndsRun (words : List Text) (text : List ℕ) (old new : Option (List ℕ)) (status : ℕ) : Type 0 where
  pub mode : Mode
  pub accounts : Bool
  pub said : CommandSays words mode accounts
  pub ends : ((status ≡ 0) × WritesOutput mode accounts text old new) ⊎ EndsFaulty mode accounts text old new status

-- the exit statuses that there are
abbrev pub IsStatus : ℕ → Type 0
IsStatus status = (status ≡ 0) ⊎ ((status ≡ 2) ⊎ (status ≡ 3))
