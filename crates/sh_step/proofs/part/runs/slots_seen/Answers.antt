use Rattle.std.proofs.Common.{arith, ◌≡◌, ◌∙◌, ◌||◌, ◌+◌, ◌++◌, ◌∷◌, [], sym, ap, take}
use Rattle.std.proofs.lemmas.List.{take_more, take_all}
use Rattle.sh_slots.specs.declared.hand.SlotRef.{SlotRef}
use Rattle.sh_slots.specs.Slots.{same_slot}
use Rattle.sh_step.specs.declared.part.run.Run.{Run}
use Rattle.sh_step.specs.Collections.{has}
use Rattle.sh_step.specs.Runs.{slots_in, slots_of}
use Rattle.sh_step.proofs.RunsLaws.{slots_in_more, none_seen_yet}
use Rattle.sh_step.proofs.part.runs.slots_seen.Goals as goal

pub loop-i-init : goal.loop-i-init
loop-i-init c = λ slot low. none_seen_yet (record { page = c.args.page; slot = slot }) 48 slot

pub loop-i-preserved : goal.loop-i-preserved
loop-i-preserved c = λ slot low.
    let x : SlotRef = record { page = c.args.page; slot = slot } in
    let items = c.args.runs.now.items in
    let run = c.index.result.now in
    let many = c.len-i-end.ensures in
    let ok = c.args.runs.now.ok in
    let less = c.loop-i-test.true in
    let more : take (c.loop-i.i + 1) items ≡ take c.loop-i.i items
    ++ run ∷ [] = take_more items c.loop-i.i run (omega arith)
    ∙ ap (λ (r : Run). take c.loop-i.i items ++ r ∷ []) (sym c.index.ensures) in
    c.see_run.ensures slot low ∙ (ap (λ b. b || has (same_slot x) (slots_of run)) (c.loop-i.invariant slot low)
    ∙ (sym (slots_in_more (take c.loop-i.i items) run x) ∙ sym (ap (λ rs. has (same_slot x) (slots_in rs)) more)))

pub returns : goal.returns
returns c = λ slot low.
    let items = c.args.runs.now.items in
    let many = c.len-i-end.ensures in
    let ok = c.args.runs.now.ok in
    let past = c.loop-i-test.false in
    let all : take c.loop-i.i items ≡ items = take_all c.loop-i.i items (omega arith) in
    c.loop-i.invariant slot low
    ∙ ap (λ rs. has (same_slot (record { page = c.args.page; slot = slot })) (slots_in rs)) all
