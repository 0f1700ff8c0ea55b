use Rattle.std.proofs.Common.{◌≡◌, ◌≤◌, List, None, ℕ, Ok, length, sym, subst}
use Rattle.std.specs.Prelude.{OnOk, Option, Result}
use Rattle.sh_slots.specs.declared.hand.SlotRef.{SlotRef}
use Rattle.sh_value.specs.declared.hold.Hold.{Hold}
use Rattle.sh_value.specs.declared.refusal.Refusal.{Refusal}
use Rattle.sh_pass.specs.Fetching.{GetsAndReads}
use Rattle.sh_pass.specs.Owners.{CallLeaves}
use Rattle.sh_pass.specs.Passes.{GetDoes, ReadIntoDoes, ReleaseDoes, caller_of}
use Rattle.sh_pass.proofs.Fetched.{fetch_does, held_after, read_not_refused}
use Rattle.sh_pass.proofs.OwnCalls.{leaves_then}
use Rattle.sh_pass.proofs.fetching.get_and_read.Goals as goal

-- what was got is held, so its read is not refused
pub unreachable-requires : goal.unreachable-requires
unreachable-requires g c =
    let layout = g.L.KeyLayout.layout in
    let v = caller_of c.args.seat.now in
    let a = caller_of c.get_guard_of-got.new.seat in
    let b = caller_of c.read_key.new.seat in
    let got = subst (λ (r : Result Hold Refusal). GetDoes layout c.args.key v r a) c.in-Ok.is c.get_guard_of-got.ensures.does
    in
    let read = subst (λ (r : Result (Unit {0}) Refusal). ReadIntoDoes c.in-Ok.hold.key a c.from-value.result r
    c.read_key.new.value b) c.in_default.is c.read_key.ensures.does in
    read_not_refused c.in-Ok.hold.key c.from-value.result c.read_key.new.value c.in_default.field-0 a b read
    (held_after layout c.args.key c.in-Ok.hold v a got)

pub put-requires : goal.put-requires
put-requires g c = subst (λ (ws : List ℕ). length ws ≤ 16) (sym c.words.ensures.words) c.words.ensures.few

pub returns-clause-does : goal.returns-clause-does
returns-clause-does g c =
    let layout = g.L.KeyLayout.layout in
    let v = caller_of c.args.seat.now in
    let a = caller_of c.get_guard_of-got.new.seat in
    let b = caller_of c.read_key.new.seat in
    let w = caller_of c.release_key-released.new.seat in
    let P : List ℕ → Type 0 = λ ws. GetsAndReads layout c.args.key v (Ok ws) w in
    let got = subst (λ (r : Result Hold Refusal). GetDoes layout c.args.key v r a) c.in-Ok.is c.get_guard_of-got.ensures.does
    in
    let released = subst (λ (r : Result (Unit {0}) Refusal). ReleaseDoes layout c.in-Ok.hold.key b r w)
    c.in-Ok-released.is c.release_key-released.ensures.does in (
      c.words.result.now,
      subst P (sym c.words.ensures.words) (fetch_does layout c.args.key c.in-Ok.hold c.read_key.new.value v a b w got
          c.in-Ok-read_key.ensures.does released),
      c.put.ensures,
    )

pub returns-clause-leaves : goal.returns-clause-leaves
returns-clause-leaves g c =
    let layout = g.L.KeyLayout.layout in
    let v = caller_of c.args.seat.now in
    let a = caller_of c.get_guard_of-got.new.seat in
    let b = caller_of c.read_key.new.seat in
    let w = caller_of c.release_key-released.new.seat in
    let slot = c.release_key-released.result.1 in
    let none = subst (λ (r : Result Hold Refusal). OnOk r (c.get_guard_of-got.result.1 ≡ None)) c.in-Ok.is
    c.get_guard_of-got.ensures.none in
    let got = subst (λ (r : Option SlotRef). CallLeaves layout r v a) none c.get_guard_of-got.ensures.leaves in
    leaves_then layout v a w slot c.requires.idle got
    (leaves_then layout a b w slot got.idle c.read_key.ensures.leaves c.release_key-released.ensures.leaves)
