-- A pass that looks keys up: its book is its log.
use Rattle.std.specs.Prelude.{◌==◌, List}
use Rattle.sh_history.specs.declared.log.LogEntry.{LogEntry}
use Rattle.sh_key.specs.Layout.{Layout}
use Rattle.sh_plain.specs.Store.{Setting}
use Rattle.sh_pass.specs.Passes.{Caller}

abbrev pub caller_book : Caller → List LogEntry
caller_book v = v.view.own.log

-- its book is for its pass alone
abbrev pub caller_setting : Layout → Caller → Setting
caller_setting layout c =
    let v = c.view in
    record {
      pass = v.pass;
      passes = v.shape.passes;
      guard_max = layout.guard_max;
      answers_for = λ pass. pass
          == v.pass;
    }
