-- The accounts of one page more.
use Rattle.std.proofs.Common.{◌≡◌, ℕ, ◌+◌, ◌-◌, ◌*◌, ◌<◌, ◌≤◌, ◌⊎◌, ⊎_elim, inl, inr, List, [], ◌∷◌, ◌++◌}
use Rattle.std.proofs.Common.{length, get_or, Option, Some, None, refl, sym, ap, ◌∙◌, subst, arith}
use Rattle.std.proofs.Common.{length-append}
use Rattle.std.specs.Prelude.{slice_get, sum_by}
use Rattle.std.proofs.lemmas.Bool.{cases_lt}
use Rattle.std.proofs.lemmas.Option.{slice_get_within, get_or_from_slice_get, slice_get-get_or}
use Rattle.std.proofs.lemmas.List.{get_or_append_left}
use Rattle.std.proofs.lemmas.List.Sums.{sum_by-append}
use Rattle.std.proofs.Math.Seq.{get_or-append_seam}
use Rattle.sh_key.specs.Layout.{Layout}
use Rattle.sh_shape.specs.Classes.{slots, class_count}
use Rattle.sh_shape.proofs.ClassLaws.{slots_few}
use Rattle.sh_core.specs.declared.accounts.Accounts.{Accounts}
use Rattle.sh_accounts.specs.Accounts.{FillPage, all_slots, no_slots}
use Rattle.sh_pass.specs.Passes.{Caller}
use Rattle.sh_gather.specs.Gathering.{NotedMore}
use Rattle.sh_gather.specs.declared.accounts_by_page.PageAccounts.{PageAccounts}
use Rattle.sh_gather.specs.declared.totals.Totals.{Totals}
use Rattle.sh_gather.specs.PageLists.{IsPage, ToldBetween, AreFirst}
use Rattle.sh_gather.specs.Sums.{used, sums, with_page, AtMost}
use Rattle.sh_gather.proofs.Walking.{later_again, later_same}

-- ---- more notes

-- ---- an item of a list with one more

last_or_before : {X : Type 0} (xs : List X) (y : X) (i : ℕ) (x : X) → slice_get (xs ++ y ∷ []) i ≡ Some x
    → ((slice_get xs i ≡ Some x) ⊎ ((i ≡ length xs) × (x ≡ y)))
last_or_before xs y i x is =
    let within : i < length (xs ++ y ∷ []) = slice_get_within (xs ++ y ∷ []) i x is in
    let few : i < length xs + 1 = subst (λ n. i < n) (length-append xs (y ∷ [])) within in
    let got : get_or (xs ++ y ∷ []) i x ≡ x = get_or_from_slice_get (xs ++ y ∷ []) i x x is in
    ⊎_elim
    (λ (before : i < length xs).
    let same : get_or xs i x ≡ x = sym (get_or_append_left xs (y ∷ []) x i before) ∙ got in
    inl (slice_get-get_or xs i x before ∙ ap (λ z. Some z) same))
    (λ (past : length xs ≤ i).
    let last : i ≡ length xs = (let e : i ≡ length xs = omega (arith, few, past) in e) in
    inr (last, sym (subst (λ k. get_or (xs ++ y ∷ []) k x ≡ x) last got) ∙ get_or-append_seam xs y [] x))
    (cases_lt i (length xs))

-- ---- pages

pub first_none : (layout : Layout) (old new : Caller) → AreFirst layout old new 0 []
first_none layout old new = record { many = refl; each = λ i p is. absurd (let e : None ≡ Some p = is in cc) }

pub first_more : (layout : Layout) (old at new : Caller) (n : ℕ) (pages : List PageAccounts) (p : PageAccounts)
    → at.heap ≡ old.heap → new.heap ≡ at.heap → NotedMore old.view at.view → NotedMore at.view new.view
    → AreFirst layout old at n pages → IsPage layout new n p
    → AreFirst layout old new (n + 1) (pages ++ p ∷ [])
first_more layout old at new n pages p heap heap' since more first is =
    let end : NotedMore new.view new.view = later_same new.view in
    let now : ToldBetween layout old new n p = record {
      moment = new;
      heap = heap' ∙ heap;
      since = later_again old.view at.view new.view since more;
      until = end;
      is = is;
    } in record {
      many = length-append pages (p ∷ []) ∙ ap (λ k. k + 1) first.many;
      each = λ i x got. ⊎_elim
          (λ (before : slice_get pages i ≡ Some x). let t = first.each i x before in record {
            moment = t.moment;
            heap = t.heap;
            since = t.since;
            until = later_again t.moment.view at.view new.view t.until more;
            is = t.is;
          })
          (λ (last : (i ≡ length pages) × (x ≡ p)).
          subst (λ k. ToldBetween layout old new k x) (sym (last.0 ∙ first.many))
          (subst (λ z. ToldBetween layout old new n z) (sym last.1) now))
          (last_or_before pages p i x got);
    }

-- ---- sums

sum_more : (f : PageAccounts → ℕ) (pages : List PageAccounts) (p : PageAccounts)
    → sum_by f (pages ++ p ∷ []) ≡ sum_by f pages + f p
sum_more f pages p = sum_by-append f pages (p ∷ [])
    ∙ ap (λ (n : ℕ). sum_by f pages + n) (let e : 0 + f p ≡ f p = omega arith in e)

pub sums_more : (pages : List PageAccounts) (p : PageAccounts) → with_page p (sums pages) ≡ sums (pages ++ p ∷ [])
sums_more pages p =
    let live = sum_more (λ q. q.accounts.live) pages p in
    let marked = sum_more (λ q. q.accounts.marked) pages p in
    let retired = sum_more (λ q. q.accounts.retired) pages p in
    let queued = sum_more (λ q. q.accounts.queued) pages p in
    let used_pages = sum_more used pages p in
    let blank_pages = sum_more (λ q. 1 - used q) pages p in
    λ i. record {
      live = sym live i;
      marked = sym marked i;
      retired = sym retired i;
      queued = sym queued i;
      used_pages = sym used_pages i;
      blank_pages = sym blank_pages i;
    }

-- a page has at most 48 slots
abbrev ByClass : Accounts → Option ℕ → Type 0
ByClass a class = elim class [ Some c ↦ (c < class_count) × (all_slots a ≡ slots c) | None ↦ a ≡ no_slots None ]

fills_few : (class : Option ℕ) (a : Accounts) → ByClass a class → all_slots a ≤ 48
fills_few (Some c) a fill = subst (λ n. n ≤ 48) (sym fill.1) (slots_few c)
fills_few None a fill = subst (λ (b : Accounts). all_slots b ≤ 48) (sym fill) (let e : 0 ≤ 48 = omega arith in e)

pub page_few : (a : Accounts) → FillPage a → all_slots a ≤ 48
page_few a fill = fills_few a.class a fill

-- a page counts at most once as used
used_few : (class : Option ℕ) → elim class [ Some c ↦ 1 | None ↦ 0 ] ≤ 1
used_few (Some c) = let e : 1 ≤ 1 = omega arith in e
used_few None = let e : 0 ≤ 1 = omega arith in e

-- each page adds at most 48 to a sum
pub at_most_more : (n : ℕ) (t : Totals) (p : PageAccounts) → FillPage p.accounts → AtMost (48 * n) t
    → AtMost (48 * (n + 1)) (with_page p t)
at_most_more n t p fill most =
    let few = page_few p.accounts fill in
    let one = used_few p.accounts.class in record {
      live = omega (arith, few, most.live);
      marked = omega (arith, few, most.marked);
      retired = omega (arith, few, most.retired);
      queued = omega (arith, few, most.queued);
      used_pages = omega (arith, one, most.used_pages);
      blank_pages = omega (arith, one, most.blank_pages);
    }
