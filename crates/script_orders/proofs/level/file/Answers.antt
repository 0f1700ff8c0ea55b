use Rattle.std.proofs.Common.{◌==◌, ◌∷◌, ◌++◌, [], ap, ◌∙◌}
use Rattle.std.specs.Prelude.{nat_eq}
use Rattle.std.specs.HashMap.{get}
use Rattle.std.proofs.lemmas.Bool.{eqb-true}
use Rattle.script_orders.specs.Filed.{places_of}
use Rattle.script_orders.proofs.Marked.{files_longer}
use Rattle.script_orders.proofs.level.file.Goals as goal

pub returns-clause-ok : goal.returns-clause-ok
returns-clause-ok c = λ m.
    let old = c.args.places.now in
    let mark = c.args.mark in
    let list = c.push.new.self in
    files_longer (mark == m) (get nat_eq old m) (get nat_eq c.insert.new.self m) list c.args.place
    (c.in_ok-insert.ensures.updates.0 m)
    (λ same. c.in_ok-push.ensures.items ∙ ap (λ xs. xs ++ c.args.place ∷ []) c.in_ok-list.ensures
    ∙ ap (λ n. places_of old n ++ c.args.place ∷ []) (eqb-true mark m same))
