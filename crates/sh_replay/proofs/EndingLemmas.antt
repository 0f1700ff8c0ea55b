-- The end of a run, from the output of its lines and the end of writing.
use Rattle.std.proofs.Common.{◌≡◌, ℕ, Bool, List, Option, Result, Ok, Err, OnOk, OnErr, inr, sym, subst}
use Rattle.std.specs.Prelude.{IfErr}
use Rattle.std.specs.Io.KnownBytes.{Appends}
use Rattle.sh_script.specs.declared.fault.Fault.{Fault}
use Rattle.sh_script.specs.declared.fault.Fault.TheVariants as fault
use Rattle.script_output.specs.declared.mode.Mode.{Mode}
use Rattle.script_output.specs.Ends.{WroteBeginning}
use Rattle.sh_replay.specs.Output.{IsOutput, Fails, Replays}

-- the text is what was read, and the bytes that are written are its output
pub replays : (m : Mode) (accounts : Bool) (read text output bytes : List ℕ) (result : Result (Unit {0}) Fault)
    (old new : Option (List ℕ)) → text ≡ read → bytes ≡ output → IsOutput m accounts text output
    → OnOk result (Appends old new bytes) → IfErr result (λ f. f ≡ fault.Io)
    → OnErr result (WroteBeginning old new bytes) → Replays m accounts read result old new
replays m accounts read text output bytes (Ok x) old new reads writes is ok io began = record {
  output = output;
  is_output = subst (λ (t : List ℕ). IsOutput m accounts t output) reads is;
  written = subst (Appends old new) writes ok;
}
replays m accounts read text output bytes (Err f) old new reads writes is ok io began =
    let e : f ≡ fault.Io = io in
    let fails : Fails m accounts read fault.Io old new = record {
      may = tt;
      answers = λ s. tt;
      stops = inr (record {
        output = output;
        is_output = subst (λ (t : List ℕ). IsOutput m accounts t output) reads is;
        written = subst (WroteBeginning old new) writes began;
      });
    } in
    subst (λ (g : Fault). Fails m accounts read g old new) (sym e) fails
