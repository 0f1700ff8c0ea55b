use Rattle.std.proofs.Common.{◌≡◌, ◌∙◌, map, List, rules, codes}
use Rattle.std.proofs.lemmas.Result.{err_from_is_err_and}
use Rattle.clap.specs.Words.{Text, app_of}
use Rattle.tool_load.specs.BenchLine.{NameLayouts, NameWorkloads, bench_line}
use Rattle.tool_load.proofs.BenchLemmas.{free, no_fault, no_memory, numbers_by, refused, rows_are, text_is, word_is}
use Rattle.tool_load.proofs.command_line.options_of.Goals as goal

pub returns-in_err-command-clause-err : goal.returns-in_err-command-clause-err
returns-in_err-command-clause-err c =
    let workloads_named : NameWorkloads c.as_slice.result = search rules in
    let layouts_named : NameLayouts c.as_slice-2.result = search rules in
    let p = err_from_is_err_and c.from_residual.result c.from_residual.ensures.1 in
    rw (p.1) (no_memory c.as_slice.result c.as_slice-2.result _ _ workloads_named layouts_named p.2)

pub returns-in_err-matches-clause-err : goal.returns-in_err-matches-clause-err
returns-in_err-matches-clause-err c =
    let command = c.in_ok-command.field-0 in
    let workloads = c.as_slice.result in
    let layouts = c.as_slice-2.result in
    let is : app_of command ≡ bench_line workloads layouts = c.in_ok-command.ensures in
    let workloads_named : NameWorkloads workloads = search rules in
    let layouts_named : NameLayouts layouts = search rules in
    let words : List Text = map (λ w. w.now) c.args.words.now in
    let p = err_from_is_err_and c.from_residual-in_err-matches.result c.from_residual-in_err-matches.ensures.1 in
    rw (p.1, p.2) (refused command workloads layouts words _ workloads_named layouts_named is
    (c.in_err-matches.ensures.kinds (free command workloads layouts is)) c.in_err-matches.ensures.passes)

pub returns-clause-ok : goal.returns-clause-ok
returns-clause-ok c =
    let command = c.in_ok-command.field-0 in
    let workloads = c.as_slice.result in
    let layouts = c.as_slice-2.result in
    let is : app_of command ≡ bench_line workloads layouts = c.in_ok-command.ensures in
    let workloads_named : NameWorkloads workloads = search rules in
    let layouts_named : NameLayouts layouts = search rules in
    let words : List Text = map (λ w. w.now) c.args.words.now in
    let m = c.in_ok-matches.matches in
    let rows = rows_are command workloads layouts words m is c.in_ok-matches.ensures.matches in
    record {
      workloads = workloads;
      layouts = layouts;
      workloads_named = workloads_named;
      layouts_named = layouts_named;
      faultless = no_fault command workloads layouts words is
          (c.in_ok-matches.ensures.kinds (free command workloads layouts is));
      workload = λ w e. c.chosen.ensures.workload
          ∙ c.workload_of.ensures w (word_is workloads layouts words m (codes "workload") rows ∙ e);
      layout = λ l e. c.chosen.ensures.layout
          ∙ c.layout_of.ensures l (word_is workloads layouts words m (codes "layout") rows ∙ e);
      numbers = numbers_by _ _ c.chosen.result (text_is workloads layouts words m rows) c.chosen.ensures.numbers;
    }
