-- How the reading of a command line ends.
use Rattle.std.proofs.Common.{◌≡◌, ◌⊎◌, ◌∙◌, Bool, List, [], ◌∷◌, Option, Some, None, true, false, map}
use Rattle.std.proofs.Common.{refl, sym, subst, ap, codes, drop}
use Rattle.std.specs.Prelude.{option_map, unwrap_or}
use Rattle.std.specs.List.{list_any, slice_index_or}
use Rattle.std.specs.Str.{bytes_eq}
use Rattle.std.specs.Borrow.{Bor}
use Rattle.std.proofs.lemmas.Slice.Eq.{bytes_eq-Decides}
use Rattle.clap.specs.Words.{Accepts, App, Text, IsAmong, HasMatchesOf, app_of, fault_of, first_of, first_value}
use Rattle.clap.specs.Words.{found_of, is_simple, is_simple_and_free, matches_of, one_of, one_text, rows_of, takes}
use Rattle.clap.specs.declared.builder.command.Command.{Command}
use Rattle.clap.specs.declared.builder.value_parser.ValueParser.TheVariants.{Names}
use Rattle.clap.specs.declared.parser.matches.ArgMatches.{ArgMatches}
use Rattle.clap.specs.declared.error.kind.ErrorKind.{ErrorKind}
use Rattle.clap.specs.declared.error.kind.ErrorKind.TheVariants.{OutOfMemory}
use Rattle.clap.proofs.WalkLemmas.{first_value-rows, one_text-rows}
use Rattle.script_output.specs.declared.mode.Mode.{Mode}
use Rattle.script_program.specs.Options.{IsNoMode, IsRefused, NameModes, all_modes, flag_text, command_line, mode_word}
use Rattle.script_program.specs.Options.{mode_name}

simple_and_free : (modes : Bor (List (Bor Text))) → is_simple_and_free (command_line modes) ≡ true
simple_and_free modes = refl

-- this command line is of the kind for which clap's rules are exact about the faults
pub free : (c : Command) (modes : Bor (List (Bor Text))) → app_of c ≡ command_line modes → is_simple_and_free (app_of c)
    ≡ true
free c modes is = ap is_simple_and_free is ∙ simple_and_free modes

simple : (modes : Bor (List (Bor Text))) → is_simple (command_line modes) ≡ true
simple modes = refl

-- the matches are those that clap's rules give
pub rows_are : (c : Command) (modes : Bor (List (Bor Text))) (words : List Text) (m : ArgMatches) → app_of c
    ≡ command_line modes → HasMatchesOf (app_of c) words m
    → rows_of (found_of m) ≡ matches_of (command_line modes) words
rows_are c modes words m is h = (h (ap is_simple is ∙ simple modes)).0 ∙ ap (λ (a : App). matches_of a words) is

pub no_fault : (c : Command) (modes : Bor (List (Bor Text))) (words : List Text) → app_of c ≡ command_line modes
    → fault_of (app_of c) words ≡ [] → fault_of (command_line modes) words ≡ []
no_fault c modes words is h = ap (λ (a : App). fault_of a words) (sym is) ∙ h

-- the word that was read is the one for the mode
pub word_is : (modes : Bor (List (Bor Text))) (words : List Text) (m : ArgMatches) → rows_of (found_of m)
    ≡ matches_of (command_line modes) words
    → first_value (found_of m) (codes "mode") ≡ mode_word modes words
word_is modes words m rows = first_value-rows (found_of m) (codes "mode") ∙ ap (first_of (codes "mode")) rows

-- the text of the flag
pub flag_is : (modes : Bor (List (Bor Text))) (words : List Text) (m : ArgMatches) → rows_of (found_of m)
    ≡ matches_of (command_line modes) words
    → one_text (found_of m) (codes "accounts") ≡ flag_text modes words
flag_is modes words m rows = one_text-rows (found_of m) (codes "accounts") ∙ ap (one_of (codes "accounts")) rows

-- a text that is there is what is read
pub read_word : (o : Option (Bor Text)) (b w : Bor Text) (t : Text) → option_map (λ s. s.now) o ≡ Some t → w
    ≡ unwrap_or o b → w.now ≡ t
read_word (Some s) b w t e is = ap (λ (y : Bor Text). y.now) is ∙ ap (λ (y : Option Text). unwrap_or y []) e
read_word None b w t e is = cc

-- a word that is among the modes' names
pub among : (modes : Bor (List (Bor Text))) (t : Text) → NameModes modes → Accepts false (Names modes) t → IsNoMode t
    → ⊥
among modes t named accepted unnamed = go all_modes modes.now named accepted
  where
    same : (mode : Mode) (x : Text) → x ≡ mode_name mode → bytes_eq x t ≡ false
    same mode x is = differ (bytes_eq x t) refl
      where
        differ : (b : Bool) → bytes_eq x t ≡ b → bytes_eq x t ≡ false
        differ true e = absurd (unnamed mode (sym ((bytes_eq-Decides x t).0 e) ∙ is))
        differ false e = e

    -- it is the name of none of these modes
    go : (ms : List Mode) (names : List (Bor Text)) → map (λ w. w.now) names ≡ map mode_name ms
        → list_any (λ name. bytes_eq name.now t) names ≡ true → ⊥
    go [] [] is e = cc
    go [] (x ∷ xs) is e = cc
    go (m ∷ ms) [] is e = cc
    go (m ∷ ms) (x ∷ xs) is e =
        let here : bytes_eq x.now t ≡ false = same m x.now (ap (λ l. slice_index_or l 0 []) is) in
        let rest : list_any (λ name. bytes_eq name.now t) xs ≡ true = rw here at e in
        go ms xs (ap (drop 1) is) rest

pub refused : (c : Command) (modes : Bor (List (Bor Text))) (words : List Text) (k : ErrorKind) → NameModes modes
    → app_of c ≡ command_line modes
    → (k ≡ OutOfMemory) ⊎ IsAmong k (fault_of (app_of c) words) → (takes (app_of c) words ≡ true → k ≡ OutOfMemory)
    → IsRefused words k
refused c modes words k named is why passes = record {
  modes = modes;
  named = named;
  why = subst (λ (a : App). (k ≡ OutOfMemory) ⊎ IsAmong k (fault_of a words)) is why;
  taken = subst (λ (a : App). takes a words ≡ true → k ≡ OutOfMemory) is passes;
}
