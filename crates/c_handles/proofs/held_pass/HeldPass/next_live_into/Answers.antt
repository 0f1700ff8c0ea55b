use Rattle.std.proofs.Common.{Ok, Option, Result, refl}
use Rattle.sh_value.specs.declared.refusal.Refusal.{Refusal}
use Rattle.c_handles.specs.HeldPasses.{HeldNextLive}
use Rattle.sh_chunk.specs.Chunks.{chunk_of}
use Rattle.c_handles.specs.Members.{layout_of}
use Rattle.sh_member.specs.Sides.{SideDoes}
use Rattle.c_handles.specs.declared.held_pass.HeldPass.TheVariants as held
use Rattle.sh_member.specs.Walks.{NextLiveDoes}
use Rattle.sh_member.specs.declared.walking.NextLive.{NextLive}
use Rattle.sh_member.proofs.PlaceWalks.{puts_as, puts_if_as}
use Rattle.sh_grown.specs.Walks.{LiveIn, Walks, chunks_up_to}
use Rattle.c_handles.proofs.Unrefused.{unrefused}
use Rattle.c_handles.proofs.held_pass.HeldPass.next_live_into.Goals as goal

pub returns-in-Wide : goal.returns-in-Wide
returns-in-Wide c =
    let v = held.Wide c.in-Wide.member c.in-Wide.field-1 in
    let w = held.Wide c.next_live_into.new.self c.in-Wide.field-1 in
    let l = layout_of v in
    let does : Option NextLive → Type 0 =
    λ m. SideDoes l (NextLiveDoes l c.args.from c.args.before) c.in-Wide.member m c.next_live_into.new.self in
    rw c.in-Wide.is
    (puts_as does (λ m. HeldNextLive c.args.from c.args.before v (Ok m) w) c.args.value.now c.next_live_into.new.value
    c.next_live_into.result
    (λ m did. record { does_it = record { layout = refl; pool_slot = refl; does_it = unrefused _ _ _ _ _ did } })
    c.next_live_into.ensures)

pub returns-in-Tagged : goal.returns-in-Tagged
returns-in-Tagged c =
    let v = held.Tagged c.in-Tagged.member c.in-Tagged.field-1 in
    let w = held.Tagged c.next_live_into-in-Tagged.new.self c.in-Tagged.field-1 in
    let l = layout_of v in
    let does : Option NextLive → Type 0 =
    λ m. SideDoes l (NextLiveDoes l c.args.from c.args.before) c.in-Tagged.member m c.next_live_into-in-Tagged.new.self in
    rw c.in-Tagged.is
    (puts_as does (λ m. HeldNextLive c.args.from c.args.before v (Ok m) w) c.args.value.now c.next_live_into-in-Tagged.new.value
    c.next_live_into-in-Tagged.result
    (λ m did. record { does_it = record { layout = refl; pool_slot = refl; does_it = unrefused _ _ _ _ _ did } })
    c.next_live_into-in-Tagged.ensures)

pub returns-in-Deep : goal.returns-in-Deep
returns-in-Deep c =
    let v = held.Deep c.in-Deep.member c.in-Deep.field-1 in
    let w = held.Deep c.next_live_into-in-Deep.new.self c.in-Deep.field-1 in
    let l = layout_of v in
    let does : Option NextLive → Type 0 =
    λ m. SideDoes l (NextLiveDoes l c.args.from c.args.before) c.in-Deep.member m c.next_live_into-in-Deep.new.self in
    rw c.in-Deep.is
    (puts_as does (λ m. HeldNextLive c.args.from c.args.before v (Ok m) w) c.args.value.now c.next_live_into-in-Deep.new.value
    c.next_live_into-in-Deep.result
    (λ m did. record { does_it = record { layout = refl; pool_slot = refl; does_it = unrefused _ _ _ _ _ did } })
    c.next_live_into-in-Deep.ensures)

pub returns-in-Tiny : goal.returns-in-Tiny
returns-in-Tiny c =
    let v = held.Tiny c.in-Tiny.member c.in-Tiny.field-1 in
    let w = held.Tiny c.next_live_into-in-Tiny.new.self c.in-Tiny.field-1 in
    let l = layout_of v in
    let does : Option NextLive → Type 0 =
    λ m. SideDoes l (NextLiveDoes l c.args.from c.args.before) c.in-Tiny.member m c.next_live_into-in-Tiny.new.self in
    rw c.in-Tiny.is
    (puts_as does (λ m. HeldNextLive c.args.from c.args.before v (Ok m) w) c.args.value.now c.next_live_into-in-Tiny.new.value
    c.next_live_into-in-Tiny.result
    (λ m did. record { does_it = record { layout = refl; pool_slot = refl; does_it = unrefused _ _ _ _ _ did } })
    c.next_live_into-in-Tiny.ensures)

pub returns-in-Growing : goal.returns-in-Growing
returns-in-Growing c =
    let v = c.in-Growing.caller in
    let w = c.next_live_into-in-Growing.new.self in
    let from = c.args.from in
    let before = c.args.before in
    let did = c.next_live_into-in-Growing.ensures in
    let does : Result (Option NextLive) Refusal → Type 0 = λ m. Walks (LiveIn from before) v.growing v.number
    (chunk_of from) (chunks_up_to v.growing before) v.met.items m w.met.items in
    rw c.in-Growing.is
    (puts_if_as does (λ m. HeldNextLive from before (held.Growing v) m (held.Growing w)) c.args.value.now
    c.next_live_into-in-Growing.new.value c.next_live_into-in-Growing.result
    (λ m walk. record { does_it = (walk, did.stays) }) did.does)
