use Rattle.std.proofs.Common.{◌≡◌, ◌++◌, [], ◌∷◌, sym, ap, ◌∙◌, subst}
use Rattle.std.specs.Option.{option_to_list}
use Rattle.sh_table.specs.Whole.{IsWhole}
use Rattle.sh_pass.specs.Passes.{AreAll, AreOf, Caller}
use Rattle.sh_gather.proofs.Meeting.{all_met, front_is_of}
use Rattle.sh_gather.proofs.gathering.gather.Goals as goal

pub unreachable-requires-in-Err : goal.unreachable-requires-in-Err
unreachable-requires-in-Err g c =
    let items : c.args.passes.items ≡ c.pop.new.self.items ++ c.in-Some.last ∷ [] =
    c.pop.ensures.items ∙ ap (λ o. c.pop.new.self.items ++ option_to_list o) c.in-Some.is in
    let all = subst (AreAll c.args.heap.now) (c.deref.ensures.value ∙ items) c.if-not-are_all.ensures.all in
    let of = front_is_of c.args.heap.now c.pop.new.self.items c.in-Some.last
    (subst (AreOf c.args.heap.now) items c.requires) in
    let shape = c.shape-known.ensures.rest.shape ∙ ap (λ h. h.shape) of.1 in
    c.in-Err.ensures.1 (subst IsWhole (sym c.met.ensures.tale)
    (all_met c.args.heap.now c.pop.new.self.items c.in-Some.last shape all))

pub returns : goal.returns
returns g c =
    let items : c.args.passes.items ≡ c.pop.new.self.items ++ c.in-Some.last ∷ [] =
    c.pop.ensures.items ∙ ap (λ o. c.pop.new.self.items ++ option_to_list o) c.in-Some.is in
    let all = subst (AreAll c.args.heap.now) c.deref.ensures.value c.if-not-are_all.ensures.all in
    let of = front_is_of c.args.heap.now c.pop.new.self.items c.in-Some.last
    (subst (AreOf c.args.heap.now) items c.requires) in
    let is = c.in-Ok.ensures.0 in
    let whole = subst (λ (p : Caller). IsWhole p.view) (sym is) c.in-Ok.ensures.1 in (
      ap (λ p. p.heap) is ∙ (c.met.ensures.heap ∙ of.1),
      whole,
      all,
      (c.pop.new.self.items, (c.in-Some.last, items, ap (λ p. p.view) is ∙ c.met.ensures.tale)),
    )
