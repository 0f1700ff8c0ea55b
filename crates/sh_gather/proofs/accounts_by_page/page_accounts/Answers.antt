use Rattle.std.proofs.Common.{◌≡◌, ◌+◌, ◌*◌, ◌/◌, ◌%◌, ◌<◌, ap, sym, ◌∙◌, subst}
use Rattle.std.proofs.lemmas.Nat.{div-add-mod'}
use Rattle.sh_shape.specs.Shape.{Numbers}
use Rattle.sh_shape.specs.Places.{pages_of, page_number}
use Rattle.sh_table.specs.Seats.{Heap}
use Rattle.sh_gather.specs.Gathering.{AreWholeAccounts}
use Rattle.sh_gather.proofs.accounts_by_page.page_accounts.Goals as goal

pub returns-clause-is : goal.returns-clause-is
returns-clause-is g c =
    let n = c.args.number in
    let old = c.args.whole.now in
    let new = c.accounts.new.self in
    let pages : c.pages-pages.result ≡ pages_of old.heap.shape =
    c.pages-pages.ensures.pages ∙ ap (λ (s : Numbers). pages_of s) c.shape.ensures.is in
    let q = page_number old.heap.shape (n / c.pages-pages.result) (n % c.pages-pages.result) in
    let is : q ≡ n = subst (λ k. n / c.pages-pages.result * k + n % c.pages-pages.result ≡ n) pages
    (div-add-mod' n c.pages-pages.result) in
    let heap = c.accounts.ensures.heap in record {
      page = subst (λ (h : Heap). n % c.pages-pages.result < pages_of h.shape) (sym heap) c.in-Some.ensures.there.1;
      number = subst (λ (h : Heap). page_number h.shape (n / c.pages-pages.result) (n % c.pages-pages.result) ≡ n)
          (sym heap) is;
      are = subst (λ k. AreWholeAccounts g.L.KeyLayout.layout new.view k c.in-Some.accounts) is c.in-Some.ensures.are;
    }
