use Rattle.std.proofs.Common.{refl, map}
use Rattle.history_timed.specs.Placing.{call_of}
use Rattle.history_timed.proofs.PlaceLemmas.{ordered_is_call}
use Rattle.history_timed.proofs.RefusalLemmas.{none_legal}
use Rattle.history_timed.proofs.JudgingLemmas.{refused_is_in}
use Rattle.history_timed.proofs.judging.judge.Goals as goal

pub returns-in-Some : goal.returns-in-Some
returns-in-Some c =
    let ordered = map call_of c.in_ok-placed.placed.items in
    let refused = rw c.as_slice.ensures.value at (rw c.in-Err.is at c.in_ok-keys.ensures.not_allowed) in
    let stands = refused_is_in c.args.passes c.args.guard_max ordered c.in-Err.fault.0.now c.in-Err.fault.1 refused in
    let is_call = ordered_is_call c.args.calls.now ordered c.in-Err.fault.0.now c.in_ok-placed.ensures.order stands in
    let call = c.in-Some.clashing.now in
    let same = c.in_ok-index.ensures in
    let is_in = (rw same at c.in-Some.ensures.is_in) is_call in
    let clashes = rw same at c.in-Some.ensures.clashes in
    record {
      call = call;
      is_in = is_in;
      line_is = refl;
      clashes = clashes;
      none = none_legal c.args.passes c.args.guard_max c.args.calls.now call c.in-Some.clash.why c.in-Some.clash.by
          is_in clashes;
    }

pub returns-in-Some-first_clashing : goal.returns-in-Some-first_clashing
returns-in-Some-first_clashing c =
    let found = c.in-Some-first_clashing in
    let same = c.in_ok-index.ensures in
    let is_in = rw same at found.ensures.is_in in
    let clashes = rw same at found.ensures.clashes in
    record {
      call = found.clashing.now;
      is_in = is_in;
      line_is = refl;
      clashes = clashes;
      none = none_legal c.args.passes c.args.guard_max c.args.calls.now found.clashing.now found.clash.why
          found.clash.by is_in clashes;
    }

pub returns : goal.returns
returns c = record {
  none = rw c.in_ok-index.ensures at c.in-None.ensures.none;
  ordered = map call_of c.in_ok-placed.placed.items;
  tried = c.in_ok-placed.ensures.tried;
  order = c.in_ok-placed.ensures.order;
  call = c.in-Err.fault.0.now;
  line_is = refl;
  refused = rw c.as_slice.ensures.value at (rw c.in-Err.is at c.in_ok-keys.ensures.not_allowed);
}
