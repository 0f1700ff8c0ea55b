-- One map: what callers know of their chunks is one legal history, on keys with the chunk's number above them.
use Rattle.std.specs.Prelude.{◌≡◌, ℕ, ◌^◌, ◌<◌, List, Option, Some, None, get_or}
use Rattle.std.specs.List.{All}
use Rattle.std.specs.Option.{ForSome}
use Rattle.sh_chunk.specs.Chunks.{chunked, chunk_of}
use Rattle.sh_chunk.specs.Histories.{fitting, in_chunk, of_chunk}
use Rattle.history_local.specs.Groups.{entries_in, key_of}
use Rattle.sh_history.specs.declared.entry.Entry.{Entry}
use Rattle.sh_history.specs.History.{Legal}
use Rattle.sh_history.specs.declared.log.LogEntry.{LogEntry}
use Rattle.sh_history.specs.declared.log.LogEntry.TheVariants.{Known, Unread}
use Rattle.sh_step.specs.Plans.{plan_of}
use Rattle.sh_table.specs.declared.view.Own.{Own}
use Rattle.sh_core.specs.Worlds.{run}
use Rattle.sh_table.specs.Tales.{IsLogOf, IsTale}
use Rattle.sh_table.specs.Together.{LeadsTogether}
use Rattle.sh_table.specs.declared.view.View.{View}
use Rattle.sh_member.specs.declared.member.Side.TheVariants.{Pass, Shard}
use Rattle.sh_member.specs.Sides.{SeenSide, SideIsValid}
use Rattle.sh_grown.specs.declared.chunk_member.ChunkMember.{ChunkMember}

-- the key that an entry of a log is on
abbrev pub key_logged : LogEntry → ℕ
key_logged (Known entry) = key_of entry
key_logged (Unread pass key) = key

-- each entry of the log is on a key below 2^56, as each key of `Chunked` is
abbrev pub LogFits : List LogEntry → Type 0
LogFits log = All (λ entry. key_logged entry < 2 ^ 56) log

-- The history of all has for this chunk the entries on keys below 2^56 of a history that tells what the view knows. A
-- log of that history that has no other keys is one of the entries of the chunk.
pub record HasChunk (Tells : View → List Entry → Type 0) (all : List Entry) (chunk : ℕ) (v : View) : Type 0 where
  pub history : List Entry
  pub tells : Tells v history
  pub entries : entries_in chunk_of chunk all ≡ of_chunk chunk (fitting history)
  pub log : (pass : ℕ) (own : Own) → LogFits own.log → IsLogOf pass own history → IsLogOf pass own (in_chunk chunk all)

-- one legal history has what each of these views, of the first `count` chunks, knows
pub record IsOneMap (Tells : View → List Entry → Type 0) (passes count : ℕ) (views : ℕ → Option View) : Type 0 where
  pub all : List Entry
  pub legal : Legal passes chunked.guard_max all
  pub each : (chunk : ℕ) → chunk < count → ForSome (views chunk) (λ v. HasChunk Tells all chunk v)

-- ---- a caller

-- what a member knows, and what a caller knows in a chunk
abbrev pub view_by : SeenSide → Option View
view_by (Pass v) = Some v.view
view_by (Shard o) = Some o.pages.owner.view

abbrev pub view_at : Option ChunkMember → Option View
view_at None = None
view_at (Some m) = view_by m.member

-- all that the member knows is true, in a heap of this many passes
pub record StandsIn (passes : ℕ) (m : SeenSide) : Type 0 where
  pub valid : SideIsValid chunked m
  pub of : ForSome (view_by m) (λ v. v.shape.passes ≡ passes)

-- there is one history for a caller, whose members are as they are between its calls
abbrev pub CallersHaveOneMap : Type 0
CallersHaveOneMap = (passes count : ℕ) (members : List (Option ChunkMember))
    → ((chunk : ℕ) → ForSome (get_or members chunk None) (λ m. StandsIn passes m.member))
    → IsOneMap (IsTale chunked) passes count (λ chunk. view_at (get_or members chunk None))

-- ---- callers that ended together

-- it is the log of a run that leads to all parts of the bundle
abbrev pub IsLogOfAll : View → List Entry → Type 0
IsLogOfAll v history =
    (together : LeadsTogether chunked v) × (history ≡ (run (plan_of chunked v.shape) together.events).log)

-- there is one history for callers that ended in a bundle of each chunk
abbrev pub BundlesHaveOneMap : Type 0
BundlesHaveOneMap = (passes count : ℕ) (bundles : ℕ → Option View)
    → ((chunk : ℕ) → ForSome (bundles chunk) (λ v. LeadsTogether chunked v × (v.shape.passes ≡ passes)))
    → IsOneMap IsLogOfAll passes count bundles
