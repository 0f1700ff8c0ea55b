-- The shape of a script's header.
use Rattle.std.proofs.Common.{◌≡◌, List, [], subst}
use Rattle.sh_shape.specs.Shape.{IsShape, Fits}
use Rattle.sh_step.specs.declared.action.Event.{Event}
use Rattle.std.specs.Prelude.{ℕ}
use Rattle.sh_script.specs.HeaderMeaning.{layout_of}
use Rattle.sh_script.specs.declared.header.Layout.{Layout as LayoutName}
use Rattle.sh_script.specs.EventMeaning.{SaysEvent}
use Rattle.sh_script.specs.CallMeaning.{SaysCall}
use Rattle.sh_script.specs.CallLines.{no_calls}
use Rattle.sh_script.specs.declared.calls.CallLine.{CallLine}
use Rattle.sh_script.specs.Scripts.{IsEvents, IsCalls}
use Rattle.sh_script.specs.declared.header.Header.{Header}
use Rattle.sh_script.proofs.PassLemmas.{IsLasting, script_keeps}

-- it fits the layout
abbrev Shapes : {A : Type 0} → Header → A → Type 0
Shapes header lines = IsShape header.shape × Fits (layout_of header.layout) header.shape

lasting : IsLasting SaysEvent [] Shapes
lasting = record {
  begins = λ v words header is. (is.is_shape.is_shape, is.fits);
  lasts = λ header before now words kept says. kept;
}

pub shape_of_events : (text : List ℕ) (header : Header) (lines : List Event) → IsEvents text header lines
    → IsShape header.shape × Fits (layout_of header.layout) header.shape
shape_of_events text header lines is = script_keeps SaysEvent [] Shapes lasting text header lines is

-- it fits a layout by its name
pub fits_named : (text : List ℕ) (header : Header) (lines : List Event) (name : LayoutName) → IsEvents text header lines
    → header.layout ≡ name → Fits (layout_of name) header.shape
fits_named text header lines name is e = subst (λ (l : LayoutName). Fits (layout_of l) header.shape) e
    (shape_of_events text header lines is).1

lasting_calls : IsLasting SaysCall no_calls Shapes
lasting_calls = record {
  begins = λ v words header is. (is.is_shape.is_shape, is.fits);
  lasts = λ header before now words kept says. kept;
}

pub shape_of_calls : (text : List ℕ) (header : Header) (lines : List CallLine) → IsCalls text header lines
    → IsShape header.shape × Fits (layout_of header.layout) header.shape
shape_of_calls text header lines is =
    script_keeps SaysCall no_calls Shapes lasting_calls text header (record { names = is.0; lines = lines }) is.1

pub calls_fit_named : (text : List ℕ) (header : Header) (lines : List CallLine) (name : LayoutName)
    → IsCalls text header lines → header.layout ≡ name → Fits (layout_of name) header.shape
calls_fit_named text header lines name is e = subst (λ (l : LayoutName). Fits (layout_of l) header.shape) e
    (shape_of_calls text header lines is).1
