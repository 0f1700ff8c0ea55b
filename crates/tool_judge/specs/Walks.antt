-- Walks that miss a key.
use Rattle.std.specs.Prelude.{ℕ, ◌==◌, ◌&&◌, ◌||◌, not, Bool, List}
use Rattle.std.specs.List.{list_any, list_all}
use Rattle.history_timed.specs.Calls.{inserts, removes}
use Rattle.history_timed.specs.Times.{ends_before}
use Rattle.history_timed.specs.declared.call.Call.{Call}
use Rattle.tool_judge.specs.declared.walk.Walk.{Walk}

-- the key was inserted before the walk began
abbrev pub follows_insert : Walk → ℕ → List Call → Bool
follows_insert walk key calls = list_any (λ (c : Call). inserts key c.said && ends_before c.times walk.times) calls

-- no call that removed the key began before the walk ended
abbrev pub precedes_removals : Walk → ℕ → List Call → Bool
precedes_removals walk key calls =
    list_all (λ (c : Call). not (removes key c.said) || ends_before walk.times c.times) calls

abbrev pub has_met : Walk → ℕ → Bool
has_met walk key = list_any (λ met. met == key) walk.met.items

-- the key was live all the while, and the walk did not meet it
abbrev pub misses : Walk → ℕ → List Call → Bool
misses walk key calls = (follows_insert walk key calls && precedes_removals walk key calls) && not (has_met walk key)
