use Rattle.std.proofs.Common.{◌≡◌, ℕ, take}
use Rattle.history_timed.specs.Indexes.{changes_in, changes_of}
use Rattle.history_timed.proofs.changes.Changes.new.Given as goal

abbrev pub invariant-loop-call : goal.invariant-loop-call
invariant-loop-call l = (key : ℕ) → changes_in l.changes key ≡ changes_of key (take l.call-index l.calls)
