-- Bundles: what passes and owners end in, and what is known of all of them together.
use Rattle.sh_table.specs.Views.{empty_bundle, bundled_view}
use Rattle.sh_pass.specs.Passes.{Caller}

-- the bundle of no passes that a pass opens
abbrev pub bundle_by : Caller → Caller
bundle_by v = record { heap = v.heap; view = empty_bundle v.view }

-- the bundle, once the pass ended in it
abbrev pub bundled : (bundle pass : Caller) → Caller
bundled b v = record { heap = b.heap; view = bundled_view b.view v.view }
