use Rattle.std.proofs.Common.{◌≡◌, ◌∙◌, ℕ, ◌+◌, ◌-◌, ◌*◌, ap, arith}
use Rattle.std.specs.List.{slice_range}
use Rattle.sh_shape.specs.declared.places.Place.TheVariants.{Class, Length, Payload}
use Rattle.sh_shape.specs.Classes.{width}
use Rattle.sh_shape.specs.Places.{number}
use Rattle.sh_core.specs.Kept.{word_at}
use Rattle.sh_core.proofs.Words.KeptValues.{payload_range, row_within}
use Rattle.sh_core.proofs.entry.value_in.Goals as goal

pub returns : goal.returns
returns c =
    let shape = c.args.shape.now in
    let list = c.args.words.now in
    let x = c.args.slot_ref in
    let v = c.requires.value in
    let class : ℕ = word_at shape list (Class x.page) - 1 in
    let some = v.has_class in
    let few = v.is_class in
    let within = row_within class x.slot (word_at shape list (Length x.page x.slot)) (omega arith) v.slot v.length in
    let page = v.page in
    let count = c.requires.count in
    let words = payload_range shape list x.page (x.slot * width class) (word_at shape list (Length x.page x.slot))
    (omega arith) in
    let wide : c.from.result ≡ width class = c.from.ensures ∙
    (c.width.ensures.is ∙ ap (λ (k : ℕ). width (k - 1)) c.word_at-class.ensures) in
    let start : c.index-start.result ≡ number shape (Payload x.page (x.slot * width class)) = c.index-start.ensures.is
    ∙ ap (λ (k : ℕ). number shape (Payload x.page (x.slot * k))) wide in
    let range : (k n : ℕ) → c.index-start.result ≡ k → c.word_at-length.result ≡ n
    → slice_range list c.index-start.result (c.index-start.result + c.word_at-length.result)
    ≡ slice_range list k (k + n) = λ k n a b. λ i. slice_range list (a i) (a i + b i) in
    c.in-Ok.ensures.ok.0 ∙ (range (number shape (Payload x.page (x.slot * width class)))
    (word_at shape list (Length x.page x.slot)) start c.word_at-length.ensures ∙ words)
