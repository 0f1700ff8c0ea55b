-- The sums of the accounts of some pages, as `total` returns them, and a bound that keeps them from wrapping.
use Rattle.std.specs.Prelude.{ℕ, ◌+◌, ◌-◌, ◌≤◌, List, Some, None, sum_by}
use Rattle.sh_gather.specs.declared.accounts_by_page.PageAccounts.{PageAccounts}
use Rattle.sh_gather.specs.declared.totals.Totals.{Totals}

-- 1 if the page has a class, and 0 otherwise
abbrev pub used : PageAccounts → ℕ
used p = elim (p.accounts.class) [ Some c ↦ 1 | None ↦ 0 ]

-- the sums over these pages
abbrev pub sums : List PageAccounts → Totals
sums pages = record {
  live = sum_by (λ p. p.accounts.live) pages;
  marked = sum_by (λ p. p.accounts.marked) pages;
  retired = sum_by (λ p. p.accounts.retired) pages;
  queued = sum_by (λ p. p.accounts.queued) pages;
  used_pages = sum_by used pages;
  blank_pages = sum_by (λ p. 1 - used p) pages;
}

-- with a page more
abbrev pub with_page : PageAccounts → Totals → Totals
with_page p t = record {
  live = t.live + p.accounts.live;
  marked = t.marked + p.accounts.marked;
  retired = t.retired + p.accounts.retired;
  queued = t.queued + p.accounts.queued;
  used_pages = t.used_pages + used p;
  blank_pages = t.blank_pages + (1 - used p);
}

-- none of the sums is above n
pub record AtMost (n : ℕ) (t : Totals) : Type 0 where
  pub live : t.live ≤ n
  pub marked : t.marked ≤ n
  pub retired : t.retired ≤ n
  pub queued : t.queued ≤ n
  pub used_pages : t.used_pages ≤ n
  pub blank_pages : t.blank_pages ≤ n
