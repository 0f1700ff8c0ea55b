-- The ends of keys, as calls report them.
use Rattle.std.specs.Prelude.{ℕ, ◌==◌, ◌&&◌, ◌||◌, Bool, false, List, Option, Some, None}
use Rattle.std.specs.List.{list_any}
use Rattle.std.specs.Option.{is_some}
use Rattle.history_timed.specs.Calls.{finds, releases}
use Rattle.history_timed.specs.Clashes.{inserts_value}
use Rattle.history_timed.specs.Times.{ends_before}
use Rattle.history_timed.specs.declared.call.Call.{Call}
use Rattle.tool_judge.specs.declared.end.End.{End}

-- a call reported that it ended this key
abbrev pub is_told : ℕ → End → Bool
is_told key end = (end.key == key) && is_some end.words

-- a call that used, removed or released the key began after its end was reported
abbrev pub is_early : End → List Call → Bool
is_early end calls = list_any
    (λ (c : Call). (finds end.key c.said || releases end.key c.said) && ends_before end.times c.times) calls

-- the key was inserted with these words
abbrev pub is_inserted_with : ℕ → List ℕ → List Call → Bool
is_inserted_with key words calls = list_any (λ (c : Call). inserts_value key words c.said) calls

-- the same with these words, if there are any
abbrev pub is_of_words : ℕ → Option (List ℕ) → List Call → Bool
is_of_words key None calls = false
is_of_words key (Some words) calls = is_inserted_with key words calls

-- the key was inserted with the words that were reported
abbrev pub is_of_value : End → List Call → Bool
is_of_value end calls = is_of_words end.key end.words calls
