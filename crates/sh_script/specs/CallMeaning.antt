-- What a line with a call means, in the words of the format.
use Rattle.std.specs.Prelude.{◌≡◌, ℕ, ◌<◌, ◌^◌, List, [], ◌∷◌, map, take, Option, Some, None, codes, decimal, slice_get}
use Rattle.std.specs.List.{All, Contains}
use Rattle.sh_script.specs.Words.{Word}
use Rattle.sh_script.specs.Names.{Binding, names_of}
use Rattle.sh_script.specs.Meaning.{IsNumber, IsName}
use Rattle.sh_script.specs.CallLines.{CallsSoFar, with_call}
use Rattle.sh_script.specs.declared.names.Binder.{Binder}
use Rattle.sh_script.specs.declared.names.Binder.TheVariants as binder
use Rattle.sh_script.specs.declared.calls.Reference.{Reference}
use Rattle.sh_script.specs.declared.calls.Reference.TheVariants as reference
use Rattle.sh_script.specs.declared.calls.Call.{Call}
use Rattle.sh_script.specs.declared.calls.Call.TheVariants as call
use Rattle.sh_script.specs.declared.calls.CallLine.{CallLine}

-- ---- calls, when these names are bound

-- the word is a name that is bound, and this is its place and what binds it
pub record IsBoundName (names : List Binding) (word : Word) (i : ℕ) (by : Binder) : Type 0 where
  pub is_name : IsName word
  pub stands : slice_get names i ≡ Some (record { name = word; by = by })
  pub first : ¬ Contains (names_of (take i names)) word

-- the word is a name that isn't bound yet
pub record IsNewName (names : List Binding) (word : Word) : Type 0 where
  pub is_name : IsName word
  pub new : ¬ Contains (names_of names) word

-- the word is # and the digits of a key
pub record IsKey (word : Word) (key : ℕ) : Type 0 where
  pub digits : Word
  pub is : word ≡ 35 ∷ digits
  pub key_is : IsNumber digits key

-- the word is a name bound by an insert, or a key
abbrev pub IsReference : List Binding → Word → Reference → Type 0
IsReference names word (reference.Name i) = IsBoundName names word i binder.Insert
IsReference names word (reference.Key k) = IsKey word k

-- the words are `adopt` and the shard's number
pub record IsAdopt (words : List Word) (shard : ℕ) (binds : Option Binding) : Type 0 where
  pub says : words ≡ codes "adopt" ∷ decimal shard ∷ []
  pub small : shard < 2 ^ 64
  pub binds_none : binds ≡ None

-- the word is `leave`
pub record IsLeave (words : List Word) (binds : Option Binding) : Type 0 where
  pub says : words ≡ codes "leave" ∷ []
  pub binds_none : binds ≡ None

-- the words are `insert`, a name that isn't bound yet, and the numbers of the value
pub record IsInsert (names : List Binding) (words : List Word) (value : List ℕ) (binds : Option Binding) : Type 0 where
  pub name : Word
  pub says : words ≡ codes "insert" ∷ name ∷ map decimal value
  pub is_new : IsNewName names name
  pub small : All (λ n. n < 2 ^ 64) value
  pub binds_name : binds ≡ Some (record { name = name; by = binder.Insert })

-- the words are a command and the name or key that it is about
pub record IsAbout (command : Word) (names : List Binding) (words : List Word) (r : Reference)
    (binds : Option Binding) : Type 0 where
  pub word : Word
  pub says : words ≡ command ∷ word ∷ []
  pub about : IsReference names word r
  pub binds_none : binds ≡ None

-- the words are `post` and a name that isn't bound yet
pub record IsPost (names : List Binding) (words : List Word) (binds : Option Binding) : Type 0 where
  pub name : Word
  pub says : words ≡ codes "post" ∷ name ∷ []
  pub is_new : IsNewName names name
  pub binds_name : binds ≡ Some (record { name = name; by = binder.Post })

-- the words are `wait` and a name that is bound by an insert or a post
pub record IsWait (names : List Binding) (words : List Word) (i : ℕ) (binds : Option Binding) : Type 0 where
  pub word : Word
  pub by : Binder
  pub says : words ≡ codes "wait" ∷ word ∷ []
  pub bound : IsBoundName names word i by
  pub binds_none : binds ≡ None

-- the words say this call, which binds this name, if any
abbrev pub IsCall : List Binding → List Word → Call → Option Binding → Type 0
IsCall names words (call.Adopt shard) binds = IsAdopt words shard binds
IsCall names words call.Leave binds = IsLeave words binds
IsCall names words (call.Insert value) binds = IsInsert names words value binds
IsCall names words (call.Get r) binds = IsAbout (codes "get") names words r binds
IsCall names words (call.Read r) binds = IsAbout (codes "read") names words r binds
IsCall names words (call.Remove r) binds = IsAbout (codes "remove") names words r binds
IsCall names words (call.Release r) binds = IsAbout (codes "release") names words r binds
IsCall names words call.Post binds = IsPost names words binds
IsCall names words (call.Wait i) binds = IsWait names words i binds

-- the words are the number of a pass below the passes, and a call
pub record IsCallLine (passes : ℕ) (names : List Binding) (words : List Word) (line : CallLine)
    (binds : Option Binding) : Type 0 where
  pub first : Word
  pub others : List Word
  pub says : words ≡ first ∷ others
  pub pass_is : IsNumber first line.pass
  pub below : line.pass < passes
  pub calls : IsCall names others line.call binds

-- the words are a call, which joins those before it
pub record SaysCall (passes : ℕ) (before : CallsSoFar) (words : List Word) (now : CallsSoFar) : Type 0 where
  pub line : CallLine
  pub binds : Option Binding
  pub is : IsCallLine passes before.names words line binds
  pub now_is : now ≡ with_call before line binds
