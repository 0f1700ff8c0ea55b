use Rattle.std.proofs.Common.{sym, subst}
use Rattle.sh_key.specs.Layouts.{tiny, wide, tagged, deep}
use Rattle.sh_table.specs.Seats.{Heap}
use Rattle.sh_whole.specs.Homes.{TellsNextKey}
use Rattle.c_handles.specs.declared.heap.AnyHeap.{AnyHeap}
use Rattle.c_handles.specs.Heaps.{heap_layout, heap_of}
use Rattle.c_handles.proofs.heap.AnyHeap.next_key.Goals as goal

pub returns-in-Wide : goal.returns-in-Wide
returns-in-Wide c =
    let r = c.pool_next_key.result in
    let told : TellsNextKey wide c.in-Wide.share c.args.from r =
    subst (λ (p : Heap). TellsNextKey wide p c.args.from r) c.pool.ensures c.pool_next_key.ensures in
    subst (λ (h : AnyHeap). TellsNextKey (heap_layout h) (heap_of h) c.args.from r) (sym c.in-Wide.is) told

pub returns-in-Tagged : goal.returns-in-Tagged
returns-in-Tagged c =
    let r = c.pool_next_key-in-Tagged.result in
    let told : TellsNextKey tagged c.in-Tagged.share c.args.from r =
    subst (λ (p : Heap). TellsNextKey tagged p c.args.from r) c.pool-in-Tagged.ensures
    c.pool_next_key-in-Tagged.ensures in
    subst (λ (h : AnyHeap). TellsNextKey (heap_layout h) (heap_of h) c.args.from r) (sym c.in-Tagged.is) told

pub returns-in-Deep : goal.returns-in-Deep
returns-in-Deep c =
    let r = c.pool_next_key-in-Deep.result in
    let told : TellsNextKey deep c.in-Deep.share c.args.from r =
    subst (λ (p : Heap). TellsNextKey deep p c.args.from r) c.pool-in-Deep.ensures c.pool_next_key-in-Deep.ensures in
    subst (λ (h : AnyHeap). TellsNextKey (heap_layout h) (heap_of h) c.args.from r) (sym c.in-Deep.is) told

pub returns-in-Tiny : goal.returns-in-Tiny
returns-in-Tiny c =
    let r = c.pool_next_key-in-Tiny.result in
    let told : TellsNextKey tiny c.in-Tiny.share c.args.from r =
    subst (λ (p : Heap). TellsNextKey tiny p c.args.from r) c.pool-in-Tiny.ensures c.pool_next_key-in-Tiny.ensures in
    subst (λ (h : AnyHeap). TellsNextKey (heap_layout h) (heap_of h) c.args.from r) (sym c.in-Tiny.is) told
