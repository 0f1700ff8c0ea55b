-- Facts about an argument that follow from its rule.
use Rattle.std.proofs.Common.{◌≡◌, is_some, not, true, false}
use Rattle.clap.specs.Words.{rule_of}
use Rattle.clap.specs.Walk.{is_empty}
use Rattle.clap.specs.declared.builder.arg.Arg.{Arg}
use Rattle.clap.proofs.SimpleLemmas.{is_false}
use Rattle.clap.proofs.WalkLemmas.{both}

-- an argument with a simple rule is not global, so subcommands do not have it
pub is_local : (a : Arg) → (rule_of a).is_simple ≡ true → a.global ≡ false
is_local a simple =
    let overrides = both (is_empty a.overrides.items) _ simple in
    let defaults = both (is_empty a.default_vals_ifs.items) _ overrides.1 in
    let groups = both (is_empty a.groups.items) _ defaults.1 in
    let delimiter = both (not (is_some a.val_delim)) _ groups.1 in
    let terminator = both (not (is_some a.terminator)) _ delimiter.1 in
    let hyphens = both (not a.allow_hyphen_values) _ terminator.1 in
    let negative = both (not a.allow_negative_numbers) _ hyphens.1 in
    let equals = both (not a.require_equals) _ negative.1 in
    let last = both (not a.last) _ equals.1 in
    is_false _ last.1
