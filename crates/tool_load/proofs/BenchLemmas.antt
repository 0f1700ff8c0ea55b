-- The result of reading a command line.
use Rattle.std.proofs.Common.{◌≡◌, ◌⊎◌, ◌∙◌, List, [], Option, true, ℕ, inl, refl, sym, subst, ap, ap₂, codes}
use Rattle.clap.specs.Words.{AddsArg, App, Rule, Text, IsAmong, HasMatchesOf, app_of, fault_of, first_of, first_value}
use Rattle.clap.specs.Words.{found_of, is_simple, is_simple_and_free, matches_of, one_of, one_text, rows_of, rule_of}
use Rattle.clap.specs.Words.{takes, with_rule}
use Rattle.clap.specs.declared.builder.arg.Arg.{Arg}
use Rattle.clap.specs.declared.builder.command.Command.{Command}
use Rattle.clap.specs.declared.parser.matches.ArgMatches.{ArgMatches}
use Rattle.clap.specs.declared.error.kind.ErrorKind.{ErrorKind}
use Rattle.clap.specs.declared.error.kind.ErrorKind.TheVariants.{OutOfMemory}
use Rattle.clap.proofs.WalkLemmas.{first_value-rows, one_text-rows}
use Rattle.tool_load.specs.declared.options.Options.{Options}
use Rattle.tool_load.specs.BenchLine.{IsRefused, NameLayouts, NameWorkloads, Words, bench_line}
use Rattle.tool_load.specs.CommandLine.{ReadsLengths, ReadsNumber, ReadsNumbers}
use Rattle.tool_load.proofs.ArgumentLemmas.{is_local}

-- the app of a command with one argument more, which has a simple rule
pub added : (app : App) (command more : Command) (argument : Arg) (rule : Rule) → AddsArg command argument more
    → app_of command ≡ app → rule_of argument ≡ rule → rule.is_simple ≡ true → app_of more ≡ with_rule app rule
added app command more argument rule adds is rule_is simple =
    adds.shape (is_local argument (ap (λ (r : Rule). r.is_simple) rule_is ∙ simple)) ∙ ap₂ with_rule is rule_is

simple_and_free : (workloads layouts : Words) → is_simple_and_free (bench_line workloads layouts) ≡ true
simple_and_free workloads layouts = refl

simple : (workloads layouts : Words) → is_simple (bench_line workloads layouts) ≡ true
simple workloads layouts = refl

-- this command line is one for which clap's rules are exact about the faults
pub free : (c : Command) (workloads layouts : Words) → app_of c ≡ bench_line workloads layouts
    → is_simple_and_free (app_of c) ≡ true
free c workloads layouts is = ap is_simple_and_free is ∙ simple_and_free workloads layouts

-- the matches are those that clap's rules give
pub rows_are : (c : Command) (workloads layouts : Words) (words : List Text) (m : ArgMatches)
    → app_of c ≡ bench_line workloads layouts → HasMatchesOf (app_of c) words m
    → rows_of (found_of m) ≡ matches_of (bench_line workloads layouts) words
rows_are c workloads layouts words m is h =
    (h (ap is_simple is ∙ simple workloads layouts)).0 ∙ ap (λ (a : App). matches_of a words) is

pub no_fault : (c : Command) (workloads layouts : Words) (words : List Text) → app_of c ≡ bench_line workloads layouts
    → fault_of (app_of c) words ≡ [] → fault_of (bench_line workloads layouts) words ≡ []
no_fault c workloads layouts words is h = ap (λ (a : App). fault_of a words) (sym is) ∙ h

-- the first word of an id
pub word_is : (workloads layouts : Words) (words : List Text) (m : ArgMatches) (id : Text)
    → rows_of (found_of m) ≡ matches_of (bench_line workloads layouts) words
    → first_value (found_of m) id ≡ first_of id (matches_of (bench_line workloads layouts) words)
word_is workloads layouts words m id rows = first_value-rows (found_of m) id ∙ ap (first_of id) rows

-- the text of an id
pub text_is : (workloads layouts : Words) (words : List Text) (m : ArgMatches)
    → rows_of (found_of m) ≡ matches_of (bench_line workloads layouts) words
    → (id : Text) → one_text (found_of m) id ≡ one_of id (matches_of (bench_line workloads layouts) words)
text_is workloads layouts words m rows id = one_text-rows (found_of m) id ∙ ap (one_of id) rows

-- options that read the numbers of the texts of `f` read those of the texts of `g`, if the texts are equal
pub numbers_by : (f g : Text → Option Text) (options : Options) → ((id : Text) → f id ≡ g id) → ReadsNumbers f options
    → ReadsNumbers g options
numbers_by f g options same reads = record {
  threads = number (codes "threads") 16 options.threads reads.threads;
  operations = number (codes "operations") 1000000000 options.operations reads.operations;
  lengths = subst (λ (t : Option Text). ReadsLengths (g (codes "mixed")) t options.lengths) (same (codes "words"))
      (subst (λ (t : Option Text). ReadsLengths t (f (codes "words")) options.lengths) (same (codes "mixed"))
      reads.lengths);
  live = number (codes "live") 10000000 options.live reads.live;
  freed = number (codes "freed") 10000000 options.freed reads.freed;
  passes = number (codes "passes") 64 options.passes reads.passes;
}
  where
    number : (id : Text) (most n : ℕ) → ReadsNumber (f id) most n → ReadsNumber (g id) most n
    number id most n read = subst (λ (t : Option Text). ReadsNumber t most n) (same id) read

pub refused : (c : Command) (workloads layouts : Words) (words : List Text) (k : ErrorKind) → NameWorkloads workloads
    → NameLayouts layouts → app_of c ≡ bench_line workloads layouts
    → (k ≡ OutOfMemory) ⊎ IsAmong k (fault_of (app_of c) words) → (takes (app_of c) words ≡ true → k ≡ OutOfMemory)
    → IsRefused words k
refused c workloads layouts words k workloads_named layouts_named is why passes = record {
  workloads = workloads;
  layouts = layouts;
  workloads_named = workloads_named;
  layouts_named = layouts_named;
  why = subst (λ (a : App). (k ≡ OutOfMemory) ⊎ IsAmong k (fault_of a words)) is why;
  taken = subst (λ (a : App). takes a words ≡ true → k ≡ OutOfMemory) is passes;
}

pub no_memory : (workloads layouts : Words) (words : List Text) (k : ErrorKind) → NameWorkloads workloads
    → NameLayouts layouts → k ≡ OutOfMemory → IsRefused words k
no_memory workloads layouts words k workloads_named layouts_named is = record {
  workloads = workloads;
  layouts = layouts;
  workloads_named = workloads_named;
  layouts_named = layouts_named;
  why = inl is;
  taken = λ fits. is;
}
