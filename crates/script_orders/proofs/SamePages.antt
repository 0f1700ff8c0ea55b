-- Two worlds with the same words and parts have the same accounts, whatever led to them.
use Rattle.std.proofs.Common.{◌≡◌, ℕ, zero, suc, ◌+◌, ◌<◌, ◌≤◌, List, ◌++◌, refl, sym, ap, ◌∙◌, arith, Option, Some}
use Rattle.std.proofs.Common.{None}
use Rattle.std.specs.List.{flat_map, range_with_len}
use Rattle.sh_history.specs.declared.entry.Entry.{Entry}
use Rattle.sh_key.specs.Layout.{Layout}
use Rattle.sh_shape.specs.Classes.{slots}
use Rattle.sh_shape.specs.Places.{all_pages, page_number, pages_of}
use Rattle.sh_shape.specs.Shape.{Numbers}
use Rattle.sh_shape.proofs.PlaceLaws.{page_is_below}
use Rattle.sh_step.specs.declared.action.Event.{Event}
use Rattle.sh_step.specs.Plans.{plan_of}
use Rattle.sh_core.specs.declared.accounts.Accounts.{Accounts}
use Rattle.sh_core.specs.Kept.{KeptWorld, HoldsWords, Represents, FromEvents}
use Rattle.sh_core.specs.Lists.{accounts, class_named, lists_of}
use Rattle.sh_core.specs.Refines.{Always, OneKind}
use Rattle.sh_core.specs.Worlds.{run}
use Rattle.sh_core.proofs.Clauses.RunTheorem.{theorem}
use Rattle.sh_accounts.specs.Accounts.{AreAccounts, class_word, counted, no_slots}
use Rattle.sh_accounts.proofs.PageCounts.{are_counted, are_none}
use Rattle.script_output.specs.AccountLines.{accounts_text, accounts_after, shard_text, page_text}
use Rattle.script_orders.specs.declared.found.Program.{Program}
use Rattle.script_orders.specs.declared.state.State.{State}
use Rattle.script_orders.proofs.Listed.{listed}
use Rattle.script_orders.specs.Reached.{plan_in, done_by, world_by, pages_by, IsReached, IsWorldOf, IsHeap}

-- ---- the same pages have the same lines

flat_same : (f g : ℕ → List ℕ) (from k : ℕ) → ((i : ℕ) → from ≤ i → i < from + k → f i ≡ g i)
    → flat_map f (range_with_len from k) ≡ flat_map g (range_with_len from k)
flat_same f g from zero h = refl
flat_same f g from (suc k) h =
    let here : f from ≡ g from = h from (omega arith) (omega arith) in
    let rest = flat_same f g (from + 1) k (λ i low high. h i (omega arith) (omega arith)) in
    λ i. here i ++ rest i

text_same : (shape : Numbers) (f g : ℕ → Accounts) → ((q : ℕ) → q < all_pages shape → f q ≡ g q)
    → accounts_text shape f ≡ accounts_text shape g
text_same shape f g h =
    flat_same (shard_text shape f) (shard_text shape g) 0 shape.shards (λ shard low high.
    flat_same (λ page. page_text shard page (f (page_number shape shard page)))
    (λ page. page_text shard page (g (page_number shape shard page))) 0 (pages_of shape) (λ page low' high'.
    ap (page_text shard page) (h (page_number shape shard page)
    (page_is_below shape shard page (omega arith) (omega arith)))))

-- ---- what is counted does not depend on the log

kinds : Always (λ plan w l. OneKind w l)
kinds layout shape a b f es = (theorem layout shape a b f es).one_kind

module _ (layout : Layout) (k : KeptWorld) (log : List Entry) (q : ℕ) (reached : FromEvents layout k)
    (also : FromEvents layout (record k { log = log })) (there : q < all_pages k.shape) where
  abbrev other : KeptWorld
  other = record k { log = log }

  counts : (o : Option ℕ) → o ≡ class_named (class_word k q)
      → (a : Accounts) × AreAccounts layout k q a × AreAccounts layout other q a
  unfolding counted
  counts (Some c) named =
      let a : Accounts = counted k q c (slots c) in (
        a,
        are_counted layout k q kinds reached there c a named refl,
        are_counted layout other q kinds also there c a named refl,
      )
  counts None named =
      let a : Accounts = no_slots None in
      (a, are_none layout k q kinds reached there a named refl, are_none layout other q kinds also there a named refl)

  pub accounts_same : (es fs : List Event) → Represents k (run (plan_of layout k.shape) es)
      → Represents other (run (plan_of layout k.shape) fs)
      → accounts (run (plan_of layout k.shape) es) (lists_of (plan_of layout k.shape) es) q
      ≡ accounts (run (plan_of layout k.shape) fs) (lists_of (plan_of layout k.shape) fs) q
  accounts_same es fs stands stood =
      let both = counts (class_named (class_word k q)) refl in sym (both.1 es stands) ∙ both.2 fs stood

-- ---- a state, and an order that comes to it

pub pages_same : (layout : Layout) (p : Program) (s : State) (order : List ℕ) → IsHeap layout p → IsReached layout p s
    → IsWorldOf layout p s (world_by layout p order) → pages_by layout p s.order.items ≡ pages_by layout p order
pages_same layout p s order heap reached is =
    let w = world_by layout p s.order.items in
    let v = world_by layout p order in
    let list = listed layout p.shape heap.is_layout heap.is_shape heap.fits (done_by p s.order.items) in
    let k : KeptWorld = record { shape = p.shape; words = list.0; parts = w.parts; log = w.log } in
    let stands : Represents k w = record { words = list.1; parts = refl; log = refl } in
    let also_holds : HoldsWords p.shape list.0 v.words = record {
      count = (list.1).count;
      at = λ place within.
          (list.1).at place within ∙ sym (reached.changed.at place within) ∙ is.changed.at place within;
    } in
    let stood : Represents (record k { log = v.log }) v =
    record { words = also_holds; parts = sym is.parts; log = refl } in
    let from : FromEvents layout k = record {
      is_layout = heap.is_layout;
      is_shape = heap.is_shape;
      fits = heap.fits;
      events = done_by p s.order.items;
      stands = stands;
    } in
    let also : FromEvents layout (record k { log = v.log }) = record {
      is_layout = heap.is_layout;
      is_shape = heap.is_shape;
      fits = heap.fits;
      events = done_by p order;
      stands = stood;
    } in
    text_same p.shape (accounts_after (plan_in layout p) (done_by p s.order.items))
    (accounts_after (plan_in layout p) (done_by p order)) (λ q there.
    accounts_same layout k v.log q from also there (done_by p s.order.items) (done_by p order) stands stood)
