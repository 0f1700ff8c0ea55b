-- Keys that go from one caller to another with a receipt of their insert.
use Rattle.std.specs.Prelude.{◌≡◌, ℕ, ◌⊎◌, List, Option, Some, None, Result, Ok, Err, get_or, length}
use Rattle.sh_chunk.specs.Chunks.{chunked, chunk_of, key_within}
use Rattle.sh_value.specs.declared.refusal.Refusal.{Refusal}
use Rattle.sh_value.specs.declared.refusal.Refusal.TheVariants as refusal
use Rattle.sh_pass.specs.Passes.{Caller}
use Rattle.sh_pass.specs.Fetching.{LookDoes}
use Rattle.sh_member.specs.ToldKeys.{CoversInsert, GoneIfRemoved}
use Rattle.sh_grown.specs.declared.growing.Growing.{Growing}
use Rattle.sh_grown.specs.declared.chunk_member.ChunkMember.{ChunkMember}
use Rattle.sh_grown.specs.declared.caller.Caller.{Caller as SeenCaller}
use Rattle.sh_grown.specs.declared.receipts.ChunkReceipt.{ChunkReceipt}
use Rattle.sh_grown.specs.declared.receipts.GrownReceipt.{GrownReceipt}
use Rattle.sh_grown.specs.Receipts.{Heeds, HeedsBelow}

-- the receipt of the key's chunk covers an insert of this value there that returned this key
pub record CoversKey (key : ℕ) (value : List ℕ) (given : List (Option ChunkReceipt)) : Type 0 where
  pub one : ChunkReceipt
  pub there : get_or given (chunk_of key) None ≡ Some one
  pub covers : CoversInsert (key_within key) value one.receipt

-- it covers an insert that returned this key
abbrev pub TellsOfKey : ℕ → List (Option ChunkReceipt) → Type 0
TellsOfKey key given = (value : List ℕ) × CoversKey key value given

-- if it covers an insert that returned this key, then this value was inserted
abbrev pub IsAsTold : ℕ → List ℕ → List (Option ChunkReceipt) → Type 0
IsAsTold key value given = (inserted : List ℕ) → CoversKey key inserted given → value ≡ inserted

-- the key that was returned with its receipt
abbrev pub key_told : Result (ℕ × GrownReceipt) Refusal → Result ℕ Refusal
key_told (Ok told) = Ok told.0
key_told (Err why) = Err why

-- a look that decides; it is Gone only after a removal of the key
abbrev pub LooksTold : ℕ → Caller → Result (List ℕ) Refusal → Caller → Type 0
LooksTold key v answer w = LookDoes chunked key v answer w × GoneIfRemoved chunked key answer w

-- The caller heeds the receipt, and then does this. Or the heed is refused as Taken, and so is the call.
abbrev pub HeedsThen : List (Option ChunkReceipt)
    → (next : Growing → (number : ℕ) → List (Option ChunkMember) → Result (List ℕ) Refusal → List (Option ChunkMember)
    → Type 0)
    → SeenCaller → Result (List ℕ) Refusal → SeenCaller → Type 0
HeedsThen given next c answer d =
    ((heeded : List (Option ChunkMember))
    × HeedsBelow c.growing c.number (length given) given c.met.items heeded
    × next c.growing c.number heeded answer d.met.items)
    ⊎ ((answer ≡ Err refusal.Taken) × Heeds c.growing c.number given c.met.items (Err refusal.Taken) d.met.items)
