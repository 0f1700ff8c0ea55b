-- The command line of the bench: what clap gets as its definition, with each option's default and its bounds, and the
-- options that follow from the words by clap's rules. The first word is the program's name. clap gets the names of
-- workloads and layouts by reference, so they are borrowed words (`Bor`).
use Rattle.std.specs.Prelude.{◌≡◌, ◌⊎◌, ℕ, List, [], ◌∷◌, map, Some, codes, true}
use Rattle.std.specs.Borrow.{Bor}
use Rattle.clap.specs.Words.{App, Rule, Text, IsAmong, fault_of, first_of, matches_of, new_app, new_rule, one_of, takes}
use Rattle.clap.specs.Words.{with_rule}
use Rattle.clap.specs.declared.builder.action.ArgAction.TheVariants.{Set, SetTrue}
use Rattle.clap.specs.declared.error.kind.ErrorKind.{ErrorKind}
use Rattle.clap.specs.declared.error.kind.ErrorKind.TheVariants.{OutOfMemory}
use Rattle.clap.specs.declared.builder.value_parser.ValueParser.TheVariants.{Names, Unsigned}
use Rattle.tool_load.specs.declared.workload.Workload.{Workload}
use Rattle.tool_load.specs.declared.workload.Workload.TheVariants as workload
use Rattle.tool_load.specs.declared.layout.Layout.{Layout}
use Rattle.tool_load.specs.declared.layout.Layout.TheVariants as layout
use Rattle.tool_load.specs.declared.options.Options.{Options}
use Rattle.tool_load.specs.CommandLine.{ReadsNumbers}
use Rattle.tool_load.specs.Names.{layout_name, workload_name}

-- the workloads and the layouts, in the order of the help
abbrev pub all_workloads : List Workload
all_workloads = workload.Get ∷ workload.Read ∷ workload.ReadInto ∷ workload.GetGuard ∷ workload.ReadGuard
    ∷ workload.Look ∷ workload.Insert ∷ workload.Fill ∷ workload.Remove ∷ workload.Churn ∷ workload.Hand
    ∷ workload.Adopt ∷ workload.Leave ∷ workload.Heed ∷ []

abbrev pub all_layouts : List Layout
all_layouts = layout.Wide ∷ layout.Tagged ∷ layout.Deep ∷ []

-- borrowed words
abbrev pub Words : Type 0
Words = Bor (List (Bor Text))

-- the words of the workloads, and those of the layouts
abbrev pub NameWorkloads : Words → Type 0
NameWorkloads words = map (λ w. w.now) words.now ≡ map workload_name all_workloads

abbrev pub NameLayouts : Words → Type 0
NameLayouts words = map (λ w. w.now) words.now ≡ map layout_name all_layouts

-- the workload has to be given, and is one of these words
abbrev pub workload_rule : Words → Rule
workload_rule words = record (new_rule (codes "workload")) {
  required = true;
  action = Some Set;
  parser = Some (Names words);
}

-- the layout is one of these words, and wide if none is given
abbrev pub layout_rule : Words → Rule
layout_rule words = record (new_rule (codes "layout")) {
  long = Some (codes "layout");
  action = Some Set;
  parser = Some (Names words);
  defaults = codes "wide" ∷ [];
}

-- the flag --mixed
abbrev pub mixed_rule : Rule
mixed_rule = record (new_rule (codes "mixed")) { long = Some (codes "mixed"); action = Some SetTrue }

-- an option that is a number from `least` to `most`, and `usual` if none is given
abbrev pub number_rule : Text → (least most : ℕ) → (usual : Text) → Rule
number_rule id least most usual = record (new_rule id) {
  long = Some id;
  action = Some Set;
  parser = Some (Unsigned least most);
  defaults = usual ∷ [];
}

-- the program's name, and that it has a version
abbrev pub bench_app : App
bench_app = let new = new_app (codes "tool_bench") in record new { top = record new.top { has_version = true } }

-- the numbers, each with its least, its greatest and its usual one
abbrev pub with_numbers : App → App
with_numbers app = with_rule (with_rule (with_rule (with_rule (with_rule (with_rule app
    (number_rule (codes "threads") 1 16 (codes "1")))
    (number_rule (codes "operations") 1 1000000000 (codes "1000")))
    (number_rule (codes "words") 0 16 (codes "1")))
    (number_rule (codes "live") 1 10000000 (codes "1")))
    (number_rule (codes "freed") 0 10000000 (codes "0")))
    (number_rule (codes "passes") 1 64 (codes "1"))

-- the definition of the command line that clap gets
abbrev pub bench_line : (workloads layouts : Words) → App
bench_line workloads layouts = with_numbers (with_rule (with_rule (with_rule bench_app (workload_rule workloads))
    (layout_rule layouts)) mixed_rule)

-- clap's rules find no fault with the words, and the options are those of its matches
pub record LineSays (words : List Text) (options : Options) : Type 0 where
  pub workloads : Words
  pub layouts : Words
  pub workloads_named : NameWorkloads workloads
  pub layouts_named : NameLayouts layouts
  pub faultless : fault_of (bench_line workloads layouts) words ≡ []
  pub workload : (w : Workload)
      → first_of (codes "workload") (matches_of (bench_line workloads layouts) words) ≡ Some (workload_name w)
      → options.workload ≡ w
  pub layout : (l : Layout)
      → first_of (codes "layout") (matches_of (bench_line workloads layouts) words) ≡ Some (layout_name l)
      → options.layout ≡ l
  pub numbers : ReadsNumbers (λ id. one_of id (matches_of (bench_line workloads layouts) words)) options

-- the words are refused with an error of this kind: memory ran out, or clap's rules find this fault. Words in which the
-- rules find no fault are refused only for lack of memory
pub record IsRefused (words : List Text) (kind : ErrorKind) : Type 0 where
  pub workloads : Words
  pub layouts : Words
  pub workloads_named : NameWorkloads workloads
  pub layouts_named : NameLayouts layouts
  pub why : (kind ≡ OutOfMemory) ⊎ IsAmong kind (fault_of (bench_line workloads layouts) words)
  pub taken : takes (bench_line workloads layouts) words ≡ true → kind ≡ OutOfMemory
