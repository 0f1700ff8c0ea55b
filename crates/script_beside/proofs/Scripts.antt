-- What a script of calls says of its passes and its tag.
use Rattle.std.proofs.Common.{ℕ, ◌<◌, ◌≤◌, List, Option, Some, None, sym, subst, arith}
use Rattle.std.specs.List.{All}
use Rattle.std.proofs.lemmas.List.Elements.{All-nil, All-push}
use Rattle.sh_script.specs.Words.{Word}
use Rattle.sh_script.specs.HeaderMeaning.{AreTag, layout_of}
use Rattle.sh_script.specs.CallMeaning.{SaysCall}
use Rattle.sh_script.specs.CallLines.{CallsSoFar, no_calls}
use Rattle.sh_script.specs.Scripts.{IsCalls}
use Rattle.sh_script.specs.declared.calls.CallLine.{CallLine}
use Rattle.sh_script.specs.declared.header.Header.{Header}
use Rattle.sh_script.specs.declared.header.Layout.{Layout as LayoutName}
use Rattle.sh_script.specs.declared.header.Layout.TheVariants as layout
use Rattle.sh_script.proofs.PassLemmas.{IsLasting, script_keeps}
use Rattle.script_output.specs.Keys.{HasTagRoom}

tag_room : (l : LayoutName) (ws : List Word) (t : Option ℕ) → AreTag l ws t → HasTagRoom (layout_of l) t
tag_room layout.Tiny ws t x = subst (HasTagRoom (layout_of layout.Tiny)) (sym x.1) tt
tag_room layout.Wide ws t x = subst (HasTagRoom (layout_of layout.Wide)) (sym x.1) tt
tag_room layout.Tagged ws None x = tt
tag_room layout.Tagged ws (Some t) x = omega arith

-- few passes, room for the tag, and each line of one of the passes
pub record IsFit (header : Header) (lines : List CallLine) : Type 0 where
  pub few : header.shape.passes ≤ 64
  pub room : HasTagRoom (layout_of header.layout) header.tag
  pub below : All (λ (l : CallLine). l.pass < header.shape.passes) lines

fit_lasts : IsLasting SaysCall no_calls (λ header calls. IsFit header calls.lines)
fit_lasts = record {
  begins = λ version words header is. record {
    few = is.is_shape.is_shape.few_passes;
    room = tag_room header.layout is.behind header.tag is.is_tag;
    below = All-nil (λ (l : CallLine). l.pass < header.shape.passes);
  };
  lasts = λ header before now words fit says. record {
    few = fit.few;
    room = fit.room;
    below = subst (λ (calls : CallsSoFar). All (λ (l : CallLine). l.pass < header.shape.passes) calls.lines)
        (sym says.now_is)
        (All-push (λ (l : CallLine). l.pass < header.shape.passes) before.lines says.line fit.below says.is.below);
  };
}

pub scripts_fit : (text : List ℕ) (header : Header) (lines : List CallLine) → IsCalls text header lines
    → IsFit header lines
scripts_fit text header lines is = script_keeps SaysCall no_calls (λ header calls. IsFit header calls.lines) fit_lasts
    text header (record { names = is.0; lines = lines }) is.1
