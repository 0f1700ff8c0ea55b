use Rattle.std.proofs.Common.{◌≡◌, ◌∙◌, ap, sym, subst, map, List, Some, rules}
use Rattle.std.proofs.lemmas.Result.{err_from_is_err_and}
use Rattle.clap.specs.Words.{Text, app_of}
use Rattle.script_program.specs.Options.{IsNoMode, NameModes, command_line}
use Rattle.script_program.proofs.ModeLemmas.{mode_found}
use Rattle.script_program.proofs.CommandLine.{among, flag_is, free, no_fault, read_word, refused, rows_are, word_is}
use Rattle.script_program.proofs.options.options.Goals as goal

pub returns-in_err-matches-clause-err : goal.returns-in_err-matches-clause-err
returns-in_err-matches-clause-err c =
    let command = c.in_ok-command.field-0 in
    let modes = c.as_slice.result in
    let command_is : app_of command ≡ command_line modes = c.in_ok-command.ensures in
    let named : NameModes modes = search rules in
    let words : List Text = map (λ w. w.now) c.args.words.now in
    let p = err_from_is_err_and c.from_residual-in_err-matches.result c.from_residual-in_err-matches.ensures.1 in
    rw (p.1, p.2) (refused command modes words _ named command_is
    (c.in_err-matches.ensures.kinds (free command modes command_is)) c.in_err-matches.ensures.passes)

pub unreachable-requires : goal.unreachable-requires
unreachable-requires c =
    let command = c.in_ok-command.field-0 in
    let modes = c.as_slice.result in
    let command_is : app_of command ≡ command_line modes = c.in_ok-command.ensures in
    let named : NameModes modes = search rules in
    let got = mode_found command c.in_ok-matches.matches modes c.in_ok-matches.ensures.parsed command_is in
    let is : c.unwrap_or-word.result.now ≡ got.0 = read_word c.get_str.result _ _ got.0 (c.get_str.ensures ∙ got.1)
    c.unwrap_or-word.ensures in
    among modes got.0 named got.2 (subst IsNoMode is c.in-None.ensures.none)

pub returns-clause-ok : goal.returns-clause-ok
returns-clause-ok c =
    let command = c.in_ok-command.field-0 in
    let modes = c.as_slice.result in
    let command_is : app_of command ≡ command_line modes = c.in_ok-command.ensures in
    let named : NameModes modes = search rules in
    let words : List Text = map (λ w. w.now) c.args.words.now in
    let m = c.in_ok-matches.matches in
    let got = mode_found command m modes c.in_ok-matches.ensures.parsed command_is in
    let is : c.unwrap_or-word.result.now ≡ got.0 = read_word c.get_str.result _ _ got.0 (c.get_str.ensures ∙ got.1)
    c.unwrap_or-word.ensures in
    let rows = rows_are command modes words m command_is c.in_ok-matches.ensures.matches in
    let flag = flag_is modes words m rows in
    record {
      modes = modes;
      named = named;
      faultless = no_fault command modes words command_is (c.in_ok-matches.ensures.kinds
          (free command modes command_is));
      mode_is = sym (word_is modes words m rows) ∙ got.1 ∙ ap Some (sym is ∙ c.in-Some.ensures.some);
      accounts_is = record {
        none = λ e. c.get_flag.ensures.none (flag ∙ e);
        yes = λ e. c.get_flag.ensures.value (flag ∙ e);
        no = λ e. c.get_flag.ensures.other (flag ∙ e);
      };
    }
