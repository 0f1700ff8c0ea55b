-- What the codes mean for calls on a heap as a whole, and for tags on keys.
use Rattle.std.specs.Prelude.{◌≡◌, ℕ, ◌<◌, ◌^◌, ◌⊎◌, Result, Ok, Err, Option, Some, None}
use Rattle.sh_key.specs.Tag.{with_tag, IsTaggedKey}
use Rattle.sh_core.specs.declared.accounts.Accounts.{Accounts}
use Rattle.sh_gather.specs.declared.totals.Totals.{Totals}
use Rattle.sh_whole.specs.declared.refusal.NotTold.{NotTold}
use Rattle.sh_whole.specs.declared.refusal.NotTold.TheVariants as untold
use Rattle.c_handles.specs.declared.held_heap.HeldHeap.{HeldHeap}
use Rattle.c_exports.specs.declared.accounts.PageReport.{PageReport}
use Rattle.c_exports.specs.declared.accounts.SumsReport.{SumsReport}

-- the code of a refusal of a call on the whole heap
abbrev pub why_code : NotTold → ℕ
why_code untold.Away = 21
why_code untold.Memory = 8
why_code untold.NoPage = 22

abbrev pub told_code : {A : Type 0} → Result A NotTold → ℕ
told_code (Ok _) = 0
told_code (Err why) = why_code why

-- a call on the heap behind a handle, which stays there: if there is none the code is 14; otherwise there is a result
-- with this code
abbrev pub HeapAsked : {A : Type 0} → (HeldHeap → Result A NotTold → Type 0) → ℕ → Option HeldHeap → Option HeldHeap
    → Type 0
HeapAsked does code None after = (code ≡ 14) × (after ≡ None)
HeapAsked {A} does code (Some heap) after = (after ≡ Some heap)
    × ((answer : Result A NotTold) × (code ≡ told_code answer) × does heap answer)

-- what is in the caller's room: the result as C sees it, or what was there before if the call was refused
abbrev pub told_in : {A R : Type 0} → (A → R) → R → Result A NotTold → R
told_in told old (Ok a) = told a
told_in told old (Err _) = old

-- the same for a call that writes its result
abbrev pub HeapTells : {A R : Type 0} → (HeldHeap → Result A NotTold → Type 0) → (A → R) → ℕ → (old new : R)
    → Option HeldHeap → Option HeldHeap → Type 0
HeapTells does told code old new None after = (code ≡ 14) × (after ≡ None) × (new ≡ old)
HeapTells {A} does told code old new (Some heap) after = (after ≡ Some heap)
    × ((answer : Result A NotTold) × (code ≡ told_code answer) × (new ≡ told_in told old answer) × does heap answer)

-- the accounts of a page, as C sees them
abbrev pub page_report : Accounts → PageReport
page_report a = record {
  used = elim (a.class) [ Some c ↦ 1 | None ↦ 0 ];
  size_class = elim (a.class) [ Some c ↦ c | None ↦ 0 ];
  live = a.live;
  marked = a.marked;
  retired = a.retired;
  queued = a.queued;
}

-- the sums over all pages, as C sees them
abbrev pub sums_report : Totals → SumsReport
sums_report t = record {
  live = t.live;
  marked = t.marked;
  retired = t.retired;
  queued = t.queued;
  used_pages = t.used_pages;
  blank_pages = t.blank_pages;
}

-- ---- tags

-- a key with a tag, if both are in their ranges
abbrev pub TagTold : (key tag code old new : ℕ) → Type 0
TagTold key tag code old new = ((key < 2 ^ 52) × (tag < 2 ^ 8) × (code ≡ 0) × (new ≡ with_tag key tag))
    ⊎ ((¬ ((key < 2 ^ 52) × (tag < 2 ^ 8))) × (code ≡ 1) × (new ≡ old))

-- the key and the tag of a number, if it has them
abbrev pub UntagTold : (number code key_old key_new tag_old tag_new : ℕ) → Type 0
UntagTold number code key_old key_new tag_old tag_new = ((code ≡ 0) × IsTaggedKey number tag_new key_new)
    ⊎ (((tag key : ℕ) → ¬ IsTaggedKey number tag key) × (code ≡ 1) × (key_new ≡ key_old) × (tag_new ≡ tag_old))
