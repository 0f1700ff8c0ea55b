-- An owner's shard as a store: its book is the log of its pass, including what came before it owned the shard.
use Rattle.std.specs.Prelude.{List}
use Rattle.sh_history.specs.declared.log.LogEntry.{LogEntry}
use Rattle.sh_key.specs.Layout.{Layout}
use Rattle.sh_plain.specs.Store.{Setting}
use Rattle.sh_pass.specs.Lookups.{caller_book, caller_setting}
use Rattle.sh_shard.specs.Shards.{Sharded}

abbrev pub shard_book : Sharded → List LogEntry
shard_book o = caller_book o.pages.owner

abbrev pub shard_setting : Layout → Sharded → Setting
shard_setting layout o = caller_setting layout o.pages.owner
