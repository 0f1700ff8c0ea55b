use Rattle.std.proofs.Common.{◌≡◌, ◌∙◌, ap, slice_get}
use Rattle.once_cell.specs.Once.{cell_name}
use Rattle.sh_grown.proofs.Wholes.{covered_found, if_some, uncovered_found}
use Rattle.sh_grown.proofs.growing.Growing.chunk_told.Goals as goal

pub chunk_by-requires : goal.chunk_by-requires
chunk_by-requires c =
    let told = c.in-Some.ensures.covers in
    if_some (slice_get c.args.self.now.cells.items c.args.number) (λ x. c.in-Some.note.cell ≡ cell_name x)
    (λ x found. ap (λ n. n.cell) told.2 ∙ (c.requires c.args.number told.0 told.1).cell x found)

pub returns-in-Some-clause-finds : goal.returns-in-Some-clause-finds
returns-in-Some-clause-finds c =
    let told = c.in-Some.ensures.covers in
    covered_found c.args.self.now c.args.receipt.now.chunks.items c.args.number told.0 c.in-Some.note.known
    c.chunk_by.result c.requires told.1 (ap (λ n. n.known) told.2) c.chunk_by.ensures.number c.chunk_by.ensures.of
    c.chunk_by.ensures.known

pub returns-in-None-clause-finds : goal.returns-in-None-clause-finds
returns-in-None-clause-finds c =
    uncovered_found c.args.self.now c.args.receipt.now.chunks.items c.args.number c.chunk.result
    c.in-None.ensures.covers c.chunk.ensures.number c.chunk.ensures.of
