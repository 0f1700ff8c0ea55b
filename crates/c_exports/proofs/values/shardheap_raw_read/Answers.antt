use Rattle.std.proofs.Common.{◌≡◌, ◌∙◌, List, ℕ, length, refl, subst, sym}
use Rattle.c_exports.specs.Told.{WordsTold}
use Rattle.c_exports.proofs.Asking.{read_told, unread}
use Rattle.c_exports.proofs.ReadingInto.{reads_into}
use Rattle.c_exports.proofs.values.shardheap_raw_read.Goals as goal

pub returns-then-not-is_full : goal.returns-then-not-is_full
returns-then-not-is_full c = unread _ _ _ _ (sym c.is_full.ensures ∙ c.if-not-is_full.true)

pub returns-in-Ok : goal.returns-in-Ok
returns-in-Ok c =
    let value = c.read_into-answer.new.value in
    let count : c.write_words.new.count ≡ length value =
    subst (λ (ws : List ℕ). c.write_words.new.count ≡ length ws) c.words.ensures.words c.write_words.ensures.count in
    let words : WordsTold value c.args.words.now c.write_words.result c.write_words.new.words =
    subst (λ (ws : List ℕ). WordsTold ws c.args.words.now c.write_words.result c.write_words.new.words)
    c.words.ensures.words c.write_words.ensures.words in
    read_told _ _ _ _ _ _ _ _ _ _ _ c.held.ensures.value refl (count, words) (reads_into _ _ _ _ _ _ c.in-Ok.ensures)

pub returns-in-Err : goal.returns-in-Err
returns-in-Err c = read_told _ _ _ _ _ _ _ _ _ _ _ c.held.ensures.value refl (c.number.ensures, refl, refl)
    (reads_into _ _ _ _ _ _ c.in-Err.ensures)
