use Rattle.std.proofs.Common.{rules, ◌≡◌, ◌==◌, ◌∙◌, sym, ap, false}
use Rattle.sh_step.specs.declared.body.Body.{Body}
use Rattle.sh_step.specs.Collections.{has, without, off}
use Rattle.sh_step.proofs.HoldLaws.{freed_last}
use Rattle.sh_step.proofs.part.Part.free.Goals as goal

pub returns-then-not-has_number : goal.returns-then-not-has_number
returns-then-not-has_number c =
    let k = c.args.key in
    let p = c.args.self.now in
    let holds = c.remove_number.ensures ∙ ap (λ (b : Body). without (λ j. j == k) b.holds) c.self.view_is in
    let last : has (λ j. j == k) (without (λ j. j == k) p.holds) ≡ false =
    ap (λ xs. has (λ j. j == k) xs) (sym holds) ∙ (sym c.has_number.ensures ∙ c.if-not-has_number.true) in
    let left = record p {
      holds = without (λ j. j == k) p.holds;
      class_words = off (λ x. x.0 == k) p.class_words;
      lengths = off
          (λ x. x.0 == k) p.lengths;
      contents = off (λ x. x.0 == k) p.contents;
    } in
    let e : _ ≡ left = search rules in
    e ∙ sym (freed_last p k last)
