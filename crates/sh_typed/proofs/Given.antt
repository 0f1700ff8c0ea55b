-- A record whose insert is in the book is given back.
use Rattle.std.proofs.Common.{◌≡◌, ℕ, List, [], ◌∷◌, ◌++◌, Option, Some, None, refl, sym, ◌∙◌, ap, subst, arith, Ok}
use Rattle.std.proofs.Common.{Err, Result, map, append_assoc, inl, inr}
use Rattle.std.specs.List.{Contains}
use Rattle.std.specs.Prelude.{IfNone, IfSome, OnSome}
use Rattle.std.proofs.lemmas.List.{map-append}
use Rattle.sh_value.specs.declared.hold.Hold.{Hold}
use Rattle.sh_value.specs.declared.refusal.Refusal.{Refusal}
use Rattle.sh_value.specs.declared.refusal.Refusal.TheVariants.{BadKey, Gone, Crowded, HoldsFull, NotHeld, Memory}
use Rattle.sh_value.specs.declared.refusal.Refusal.TheVariants.{WrongKind}
use Rattle.sh_history.specs.declared.entry.Entry.{Entry}
use Rattle.sh_history.specs.declared.entry.Entry.TheVariants.{Insert, Got, Released, Seen}
use Rattle.sh_history.specs.declared.log.LogEntry.{LogEntry}
use Rattle.sh_history.specs.declared.log.LogEntry.TheVariants.{Known}
use Rattle.sh_history.specs.Log.{filled, logged_holds_by}
use Rattle.sh_history.proofs.LogLaws.{same_value}
use Rattle.sh_plain.proofs.SeenValue.{seen_value}
use Rattle.sh_history.proofs.Standing.{splits_at}
use Rattle.sh_plain.specs.Store.{Setting, IsBook, LookLeaves, ReleaseLeaves}
use Rattle.sh_typed.specs.Typed.{AsRecord, FetchLeaves, GotValue, GivesBack, RecordLeaves, SeesBack}

-- an entry that is known stays when a value is read and entries are added behind
pub kept : (key : ℕ) (value : List ℕ) (book more front rest : List LogEntry) (e : Entry) → book ≡ front
    ++ Known e ∷ rest
    → map (filled key value) book ++ more ≡ map (filled key value) front
    ++ Known e ∷ (map (filled key value) rest ++ more)
kept key value book more front rest e is =
    rw is (ap (λ l. l ++ more) (map-append (filled key value) front (Known e ∷ rest))
    ∙ append_assoc (map (filled key value) front) (Known e ∷ map (filled key value) rest) more)

-- if a got value was read, a release of its hold is refused for memory only
pub refused_for_memory : (s t : Setting) (key k : ℕ) (value : List ℕ) (start book after : List LogEntry)
    (refusal : Refusal)
    → t ≡ s → k ≡ key → GotValue s key value start book → ReleaseLeaves t k book (Err refusal) after → refusal ≡ Memory
refused_for_memory s t key k value start book after Memory same same_key got leaves = refl
refused_for_memory s t key k value start book after NotHeld same same_key got leaves =
    let free : logged_holds_by book s.pass key ≡ 0 = rw (same, same_key) at leaves.0 in
    let held = got.held in absurd (omega arith)
refused_for_memory s t key k value start book after _ same same_key got leaves = absurd leaves

-- what a get of a record leaves, for every way to read the value
module _ {R : Type 0} (read : List ℕ → Option R) where
  pub release_refused : (s t : Setting) (key k : ℕ) (value : List ℕ) (start book after : List LogEntry)
      (refusal : Refusal)
      → t ≡ s → k ≡ key → GotValue s key value start book → read value ≡ None
      → ReleaseLeaves t k book (Err refusal) after
      → RecordLeaves read s key start (Err refusal) after
  release_refused s t key k value start book after refusal same same_key got none leaves =
      let for_memory = refused_for_memory s t key k value start book after refusal same same_key got leaves in
      let P : Refusal → Type 0 = λ r. ReleaseLeaves t k book (Err r) after in
      let left = subst P for_memory leaves in
      rw for_memory (inr (value, record { got = left.1 ∙ got.got; held = rw left.1 got.held }, none))

  same_read : (s t : Setting) (key pass : ℕ) (value got : List ℕ) (book after more : List LogEntry)
      → after ≡ map (filled key got) book ++ Known (Got s.pass key got) ∷ more → IsBook t after
      → Contains book (Known (Insert pass key value)) → got ≡ value
  same_read s t key pass value got book after more is stands inserted =
      let (front, rest, at) = splits_at book (Known (Insert pass key value)) inserted in
      same_value t.passes t.guard_max t.answers_for after (map (filled key got) front)
      (map (filled key got) rest ++ Known (Got s.pass key got) ∷ more)
      (map (filled key got) book) more pass s.pass key value got stands
      (is ∙ kept key got book (Known (Got s.pass key got) ∷ more) front rest (Insert pass key value) at) is

  pub given_back : (s t : Setting) (key pass : ℕ) (value : List ℕ) (given : R) (book after : List LogEntry)
      (result : Result (Hold × R) Refusal)
      → RecordLeaves read s key book result after → IsBook t after → Contains book (Known (Insert pass key value))
      → read value ≡ Some given → GivesBack given result
  given_back s t key pass value given book after (Ok (hold, found)) leaves stands inserted reads =
      let got = leaves.1 in
      let same = same_read s t key pass value got.0 book after [] got.1.got stands inserted in
      let found_is : Some found ≡ Some given = sym got.2 ∙ ap read same ∙ reads in cc
  given_back s t key pass value given book after (Err WrongKind) (got, is, unread) stands inserted reads =
      let is' = is ∙ append_assoc (map (filled key got) book) (Known (Got s.pass key got) ∷ [])
      (Known (Released s.pass key) ∷ []) in
      let same = same_read s t key pass value got book after (Known (Released s.pass key) ∷ []) is' stands inserted in
      let none : None ≡ Some given = sym unread ∙ ap read same ∙ reads in absurd (let n : ⊥ = cc in n)
  given_back s t key pass value given book after (Err BadKey) leaves stands inserted reads = tt
  given_back s t key pass value given book after (Err Gone) leaves stands inserted reads = tt
  given_back s t key pass value given book after (Err Crowded) leaves stands inserted reads = tt
  given_back s t key pass value given book after (Err HoldsFull) leaves stands inserted reads = tt
  given_back s t key pass value given book after (Err Memory) leaves stands inserted reads = tt
  given_back s t key pass value given book after (Err _) leaves stands inserted reads = leaves

  -- the value that a look returns is the inserted one
  same_seen : (s t : Setting) (key pass : ℕ) (value seen : List ℕ) (book after : List LogEntry)
      → LookLeaves s key book (Ok seen) after → IsBook t after → Contains book (Known (Insert pass key value))
      → seen ≡ value
  same_seen s t key pass value seen book after (inl is) stands inserted =
      let (front, rest, at) = splits_at book (Known (Insert pass key value)) inserted in
      let last : List LogEntry = Known (Seen s.pass key seen) ∷ [] in
      seen_value t.passes t.guard_max t.answers_for after front (rest ++ last) book [] pass s.pass key value seen stands
      (is ∙ (ap (λ l. l ++ last) at ∙ append_assoc front (Known (Insert pass key value) ∷ rest) last)) is
  same_seen s t key pass value seen book after (inr (is, all)) stands inserted =
      same_read s t key pass value seen book after (Known (Released s.pass key) ∷ []) is stands inserted

  pub seen_back : (s t : Setting) (key pass : ℕ) (value : List ℕ) (given : R) (book after : List LogEntry)
      (result : Result R Refusal)
      → AsRecord read (λ answer. LookLeaves s key book answer after) result → IsBook t after
      → Contains book (Known (Insert pass key value)) → read value ≡ Some given → SeesBack given result
  seen_back s t key pass value given book after (Ok found) leaves stands inserted reads =
      let same = same_seen s t key pass value leaves.0 book after leaves.1 stands inserted in
      let found_is : Some found ≡ Some given = sym leaves.2 ∙ ap read same ∙ reads in cc
  seen_back s t key pass value given book after (Err WrongKind) leaves stands inserted reads =
      let same = same_seen s t key pass value leaves.0 book after leaves.1 stands inserted in
      let none : None ≡ Some given = sym leaves.2 ∙ ap read same ∙ reads in absurd (let n : ⊥ = cc in n)
  seen_back s t key pass value given book after (Err _) leaves stands inserted reads = tt

  -- ---- the same of a store that may have no book

  -- the release of a hold on a value that is no record was refused
  pub refused_there : (o p : Option Setting) (key : ℕ) (hold : Hold) (value : List ℕ) (book mid after : List LogEntry)
      (why : Refusal)
      → p ≡ o → IfSome o (λ s. FetchLeaves s key book (Ok (hold, value)) mid) → read value ≡ None
      → IfSome p (λ s. ReleaseLeaves s hold.key mid (Err why) after)
      → IfSome o (λ s. RecordLeaves read s key book (Err why) after)
  refused_there None p key hold value book mid after why same fetched none released = tt
  refused_there (Some s) p key hold value book mid after why same fetched none released =
      let here = subst (λ (q : Option Setting). IfSome q (λ t. ReleaseLeaves t hold.key mid (Err why) after)) same
      released in
      release_refused s s key hold.key value book mid after why refl fetched.0 fetched.1 none here

  pub given_back_there : (o p : Option Setting) (key : ℕ) (book after : List LogEntry)
      (result : Result (Hold × R) Refusal)
      → IfSome o (λ s. RecordLeaves read s key book result after) → IfSome p (λ s. IsBook s after) → p ≡ o
      → OnSome o ((pass : ℕ) (value : List ℕ) (given : R) → Contains book (Known (Insert pass key value))
      → read value ≡ Some given → GivesBack given result)
  given_back_there None p key book after result leaves stands same = tt
  given_back_there (Some s) p key book after result leaves stands same = λ pass value given inserted reads.
      given_back s s key pass value given book after result leaves
      (subst (λ (q : Option Setting). IfSome q (λ t. IsBook t after)) same stands) inserted reads

  pub seen_back_there : (o p : Option Setting) (key : ℕ) (book after : List LogEntry) (result : Result R Refusal)
      → IfSome o (λ s. AsRecord read (λ answer. LookLeaves s key book answer after) result)
      → IfSome p (λ s. IsBook s after) → p ≡ o
      → OnSome o ((pass : ℕ) (value : List ℕ) (given : R) → Contains book (Known (Insert pass key value))
      → read value ≡ Some given → SeesBack given result)
  seen_back_there None p key book after result leaves stands same = tt
  seen_back_there (Some s) p key book after result leaves stands same = λ pass value given inserted reads.
      seen_back s s key pass value given book after result leaves
      (subst (λ (q : Option Setting). IfSome q (λ t. IsBook t after)) same stands) inserted reads

-- if a got value was read, a release of its hold is refused for memory only: by the book, or by what holds without one
pub for_memory_there : (o p : Option Setting) (L : Type 0) (key : ℕ) (hold : Hold) (value : List ℕ)
    (book mid after : List LogEntry) (why : Refusal)
    → p ≡ o → IfSome o (λ s. FetchLeaves s key book (Ok (hold, value)) mid)
    → IfSome p (λ s. ReleaseLeaves s hold.key mid (Err why) after) → IfNone o L → (L → why ≡ Memory) → why ≡ Memory
for_memory_there None p L key hold value book mid after why same fetched released law without = without law
for_memory_there (Some s) p L key hold value book mid after why same fetched released law without =
    let here = subst (λ (q : Option Setting). IfSome q (λ t. ReleaseLeaves t hold.key mid (Err why) after)) same
    released in
    refused_for_memory s s key hold.key value book mid after why refl fetched.0 fetched.1 here
