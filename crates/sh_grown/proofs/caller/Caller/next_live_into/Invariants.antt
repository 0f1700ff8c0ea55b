use Rattle.std.proofs.Common.{◌≡◌, ◌-◌, ◌≤◌, ◌⊎◌}
use Rattle.sh_chunk.specs.Chunks.{chunk_of}
use Rattle.sh_grown.specs.Callers.{Stays}
use Rattle.sh_grown.specs.Walks.{LiveIn, SkipsChunks, chunks_up_to}
use Rattle.sh_grown.proofs.caller.Caller.next_live_into.Given as goal

-- no key was found in the chunks so far, and the room is as it was
abbrev pub invariant-loop-chunk : goal.invariant-loop-chunk
invariant-loop-chunk l = record {
  low : chunk_of l.fn.from ≤ l.chunk;
  end : l.chunk-end ≡ chunks_up_to l.initial.self.growing l.fn.before;
  few : l.chunk-end ≤ 256;
  reached : (l.chunk ≤ l.chunk-end) ⊎ (l.chunk ≡ chunk_of l.fn.from);
  room : l.value ≡ l.fn.value;
  stays : Stays l.initial.self l.self;
  passed : SkipsChunks (LiveIn l.fn.from l.fn.before) l.initial.self.growing l.initial.self.number (chunk_of l.fn.from)
      (l.chunk - chunk_of l.fn.from) l.initial.self.met.items l.self.met.items;
}
