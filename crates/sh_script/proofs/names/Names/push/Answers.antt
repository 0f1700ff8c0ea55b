use Rattle.std.proofs.Common.{◌≡◌, length, map, Some, None, rules, ap, ◌∙◌}
use Rattle.std.proofs.lemmas.Map.Text.{btree_map_updates_str}
use Rattle.sh_script.specs.Names.{binding_of, find_from}
use Rattle.sh_script.specs.declared.names.Bound.{Bound}
use Rattle.sh_script.proofs.FindLemmas.{found_at, grown_finds}
use Rattle.sh_script.proofs.names.Names.push.Goals as goal

pub invariant_of-self-in-Ok : goal.invariant_of-self-in-Ok
invariant_of-self-in-Ok c = λ q.
    let old = c.self.inside.bound.items in
    let b : Bound = record { name = c.args.name; by = c.args.by } in
    let place : c.len-place.result ≡ length old = search rules in
    let fresh : find_from 0 (map binding_of old) c.args.name.now ≡ None = ap (λ ns. find_from 0 ns c.args.name.now)
    c.self.view_is ∙ c.requires in
    grown_finds old c.push.new.self.items b c.len-place.result q _ _ c.in_ok-push.ensures.items place fresh
    (c.self.invariant q)
    (btree_map_updates_str c.args.name.now c.self.inside.found c.insert.new.self
    (Some (found_at c.len-place.result c.args.by)) c.in-Ok.ensures.updates q)
