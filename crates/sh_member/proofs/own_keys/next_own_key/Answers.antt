use Rattle.std.proofs.Common.{◌≡◌, ℕ, ◌+◌, ◌∙◌, Option, ap, subst, sym}
use Rattle.std.specs.Prelude.{min}
use Rattle.sh_pass.specs.declared.next_key.NextKey.{NextKey}
use Rattle.sh_shard.specs.Places.{first_place, place_count}
use Rattle.sh_member.specs.Walks.{NextOwnKeyDoes, Skips}
use Rattle.sh_member.proofs.PlaceWalks.{skips_from}
use Rattle.sh_member.proofs.own_keys.next_own_key.Goals as goal

pub returns-in_err-key-clause-does : goal.returns-in_err-key-clause-does
returns-in_err-key-clause-does g c =
    let layout = g.L.KeyLayout.layout in
    let o = c.args.owner.now.pages in
    let n = c.next_live_by_owner.new.owner.pages in
    let least : c.min.result ≡ min c.args.from (place_count o) = c.min.ensures
    ∙ ap (λ k. min c.args.from k) c.places-places.ensures in
    subst (λ (r : Option NextKey). NextOwnKeyDoes layout c.args.from o r n) (sym c.from_residual.ensures)
    (skips_from layout 21 (first_place o) c.args.from (place_count o) o.owner n.owner
    (subst (λ (z : ℕ × ℕ × ℕ). Skips layout 21 (z.0 + z.2) (z.0 + z.1) o.owner n.owner)
    (λ i. (c.first_place-first.ensures.is i, c.places-places.ensures i, least i)) c.in_err-key.ensures.does.0))
