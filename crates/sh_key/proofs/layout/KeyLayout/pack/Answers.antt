use Rattle.std.proofs.Common.{arith, rules, sym, ap, ◌∙◌, ◌<◌, ◌^◌}
use Rattle.sh_key.proofs.Packing.{digits-fit, unpacked_only}
use Rattle.sh_key.proofs.layout.KeyLayout.pack.Goals as goal

pub joined-requires-clause-fits : goal.joined-requires-clause-fits
joined-requires-clause-fits g c =
    let p = c.args.parts in
    let r = c.requires in
    let n = g.Self.KeyLayout.numbers in
    let lawful = n.lawful in
    let small : p.generation < 2 ^ 32 = let a = r.generation_fits in let b = lawful.generations_fit in omega arith in
    digits-fit g.Self.KeyLayout.layout.shard_bits g.Self.KeyLayout.layout.page_bits c.power_of_two-shards.result
    c.power_of_two-pages.result
    p.generation p.shard p.page p.slot
    (c.power_of_two-shards.ensures.power ∙ ap (λ x. 2 ^ x) (c.SHARD_BITS.ensures ∙ n.shard_bits_is))
    (c.power_of_two-pages.ensures.power ∙ ap (λ x. 2 ^ x) (c.PAGE_BITS.ensures ∙ n.page_bits_is))
    lawful.few_bits small r.shard_fits r.page_fits r.slot_fits

pub returns-clause-unpacks : goal.returns-clause-unpacks
returns-clause-unpacks g c = unpacked_only g.Self.KeyLayout.layout c.args.parts c.joined.result
    (record { in_range = c.requires; is = sym (search rules) })
