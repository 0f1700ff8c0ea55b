-- The command line: the numbers that the texts of clap's matches are.
use Rattle.std.specs.Prelude.{◌≡◌, ℕ, Option, Some, None, codes}
use Rattle.std.specs.Str.Parse.{digits_value, without_leading_plus}
use Rattle.clap.specs.Words.{Text, IsUnsignedIn}
use Rattle.tool_load.specs.declared.samples.Lengths.{Lengths}
use Rattle.tool_load.specs.declared.samples.Lengths.TheVariants.{Each, Mixed}
use Rattle.tool_load.specs.declared.options.Options.{Options}

-- if the text is a number up to `most`, `n` is that number; without a text it is 0
pub record ReadsNumber (text : Option Text) (most n : ℕ) : Type 0 where
  pub none : text ≡ None → n ≡ 0
  pub some : (t : Text) → text ≡ Some t → IsUnsignedIn 0 most t → n ≡ digits_value 10 (without_leading_plus t)

-- values are mixed if the flag is set, and otherwise each has the number of words that the other text is
pub record ReadsLengths (flag words : Option Text) (lengths : Lengths) : Type 0 where
  pub set : flag ≡ Some (codes "true") → lengths ≡ Mixed
  pub unset : flag ≡ Some (codes "false") → (n : ℕ) × (lengths ≡ Each n) × ReadsNumber words 16 n

-- the numbers are those of the options' texts
pub record ReadsNumbers (text : Text → Option Text) (options : Options) : Type 0 where
  pub threads : ReadsNumber (text (codes "threads")) 16 options.threads
  pub operations : ReadsNumber (text (codes "operations")) 1000000000 options.operations
  pub lengths : ReadsLengths (text (codes "mixed")) (text (codes "words")) options.lengths
  pub live : ReadsNumber (text (codes "live")) 10000000 options.live
  pub freed : ReadsNumber (text (codes "freed")) 10000000 options.freed
  pub passes : ReadsNumber (text (codes "passes")) 64 options.passes
