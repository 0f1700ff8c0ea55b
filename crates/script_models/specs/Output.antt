-- What modes plain and steps write for a script.
use Rattle.std.specs.Prelude.{◌≡◌, ℕ, Bool, List, Option}
use Rattle.sh_key.specs.Layout.{Layout}
use Rattle.sh_shape.specs.Shape.{Numbers}
use Rattle.sh_step.specs.declared.action.Event.{Event}
use Rattle.sh_script.specs.HeaderMeaning.{layout_of}
use Rattle.sh_script.specs.Scripts.{IsCalls, IsEvents}
use Rattle.sh_script.specs.declared.calls.CallLine.{CallLine}
use Rattle.sh_script.specs.declared.header.Header.{Header}
use Rattle.script_output.specs.declared.answer.Answer.{Answer}
use Rattle.script_output.specs.Replies.{replies_text}
use Rattle.script_models.specs.PlainRun.{Run, Ran, opening_run}
use Rattle.script_models.specs.StepsOutput.{steps_output}

-- ---- mode plain

-- from one state of the run to another, the lines have some answers, and these are the reply lines
pub record Writes (layout : Layout) (before : Run) (lines : List CallLine) (after : Run) (output : List ℕ) : Type 0
  where
    pub answers : List Answer
    pub ran : Ran layout before lines answers after
    pub is : output ≡ replies_text lines answers

-- the output is what mode plain may write for these lines; it is a single text unless memory is refused
abbrev pub IsPlainOutput : Layout → Numbers → Option ℕ → List CallLine → List ℕ → Type 0
IsPlainOutput layout shape tag lines output =
    (after : Run) × Writes layout (opening_run shape.shards shape.passes tag) lines after output

-- the text is a script of calls, and this is what mode plain may write for it
pub record IsPlain (text output : List ℕ) : Type 0 where
  pub header : Header
  pub lines : List CallLine
  pub is_calls : IsCalls text header lines
  pub is_output : IsPlainOutput (layout_of header.layout) header.shape header.tag lines output

-- ---- mode steps

-- the text is a script of events, and this is what mode steps writes for it, with accounts if they are asked for
pub record IsSteps (asked : Bool) (text output : List ℕ) : Type 0 where
  pub header : Header
  pub lines : List Event
  pub is_events : IsEvents text header lines
  pub is_output : output ≡ steps_output (layout_of header.layout) header.shape header.tag lines asked
