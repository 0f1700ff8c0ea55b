use Rattle.std.proofs.Common.{List, ℕ, Result, refl}
use Rattle.sh_value.specs.declared.refusal.Refusal.{Refusal}
use Rattle.sh_pass.specs.Fetching.{FetchDoes}
use Rattle.sh_pass.proofs.Fetched.{fills_as}
use Rattle.sh_chunk.specs.Chunks.{chunked, chunk_of, key_within}
use Rattle.sh_member.specs.Sides.{SideDoes}
use Rattle.sh_grown.specs.Callers.{GrownDoes}
use Rattle.c_handles.specs.declared.held_pass.HeldPass.TheVariants as held
use Rattle.c_handles.specs.HeldPasses.{HeldFetches}
use Rattle.c_handles.specs.Members.{layout_of}
use Rattle.c_handles.proofs.held_pass.HeldPass.look_into.Goals as goal

pub returns-in-Wide : goal.returns-in-Wide
returns-in-Wide g c =
    let v = held.Wide c.in-Wide.member c.in-Wide.field-1 in
    let w = held.Wide c.look_into.new.self c.in-Wide.field-1 in
    let l = layout_of v in
    let does : Result (List ℕ) Refusal → Type 0 =
    λ r. SideDoes l (FetchDoes l c.args.key) c.in-Wide.member r c.look_into.new.self in
    rw c.in-Wide.is
    (fills_as g.M.Room.takes does (λ r. HeldFetches c.args.key v r w) c.args.room.now c.look_into.new.room
    c.look_into.result
    (λ r did. record { does_it = record { layout = refl; pool_slot = refl; does_it = did } }) c.look_into.ensures)

pub returns-in-Tagged : goal.returns-in-Tagged
returns-in-Tagged g c =
    let v = held.Tagged c.in-Tagged.member c.in-Tagged.field-1 in
    let w = held.Tagged c.look_into-in-Tagged.new.self c.in-Tagged.field-1 in
    let l = layout_of v in
    let does : Result (List ℕ) Refusal → Type 0 =
    λ r. SideDoes l (FetchDoes l c.args.key) c.in-Tagged.member r c.look_into-in-Tagged.new.self in
    rw c.in-Tagged.is
    (fills_as g.M.Room.takes does (λ r. HeldFetches c.args.key v r w) c.args.room.now c.look_into-in-Tagged.new.room
    c.look_into-in-Tagged.result
    (λ r did. record { does_it = record { layout = refl; pool_slot = refl; does_it = did } }) c.look_into-in-Tagged.ensures)

pub returns-in-Deep : goal.returns-in-Deep
returns-in-Deep g c =
    let v = held.Deep c.in-Deep.member c.in-Deep.field-1 in
    let w = held.Deep c.look_into-in-Deep.new.self c.in-Deep.field-1 in
    let l = layout_of v in
    let does : Result (List ℕ) Refusal → Type 0 =
    λ r. SideDoes l (FetchDoes l c.args.key) c.in-Deep.member r c.look_into-in-Deep.new.self in
    rw c.in-Deep.is
    (fills_as g.M.Room.takes does (λ r. HeldFetches c.args.key v r w) c.args.room.now c.look_into-in-Deep.new.room
    c.look_into-in-Deep.result
    (λ r did. record { does_it = record { layout = refl; pool_slot = refl; does_it = did } }) c.look_into-in-Deep.ensures)

pub returns-in-Tiny : goal.returns-in-Tiny
returns-in-Tiny g c =
    let v = held.Tiny c.in-Tiny.member c.in-Tiny.field-1 in
    let w = held.Tiny c.look_into-in-Tiny.new.self c.in-Tiny.field-1 in
    let l = layout_of v in
    let does : Result (List ℕ) Refusal → Type 0 =
    λ r. SideDoes l (FetchDoes l c.args.key) c.in-Tiny.member r c.look_into-in-Tiny.new.self in
    rw c.in-Tiny.is
    (fills_as g.M.Room.takes does (λ r. HeldFetches c.args.key v r w) c.args.room.now c.look_into-in-Tiny.new.room
    c.look_into-in-Tiny.result
    (λ r did. record { does_it = record { layout = refl; pool_slot = refl; does_it = did } }) c.look_into-in-Tiny.ensures)

pub returns-in-Growing : goal.returns-in-Growing
returns-in-Growing g c =
    let v = c.in-Growing.caller in
    let w = c.look_into-in-Growing.new.self in
    let key = c.args.key in
    let does : Result (List ℕ) Refusal → Type 0 =
    λ r. GrownDoes (SideDoes chunked (FetchDoes chunked (key_within key))) v.growing v.number (chunk_of key) v.met.items
    r w.met.items in
    rw c.in-Growing.is
    (fills_as g.M.Room.takes does (λ r. HeldFetches key (held.Growing v) r (held.Growing w)) c.args.room.now
    c.look_into-in-Growing.new.room c.look_into-in-Growing.result
    (λ r did. record { does_it = (did, c.look_into-in-Growing.ensures.stays) }) c.look_into-in-Growing.ensures.does)
