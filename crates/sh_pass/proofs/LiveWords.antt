-- The words of live slots, and what a get learns from them.
use Rattle.std.proofs.Common.{◌≡◌, ◌∙◌, ℕ, ◌+◌, ◌-◌, ◌%◌, ◌^◌, ◌<◌, ◌≤◌, ◌==◌, ◌&&◌, Bool, true, false, cond, ap}
use Rattle.std.proofs.Common.{refl, arith, eq-eqb, lt-ltb}
use Rattle.std.proofs.lemmas.Bool.Decides.{nat_tests}
use Rattle.std.specs.Int.{bit_at}
use Rattle.std.specs.Prelude.{◌/◌, ◌*◌, nat_lt, not}
use Rattle.sh_word.specs.Fields.{Fields, fields_of, word_of}
use Rattle.sh_word.proofs.Words.{fields_of-word_of}
use Rattle.sh_slots.specs.declared.enter.GetAnswer.{GetAnswer}
use Rattle.sh_slots.specs.declared.enter.GetAnswer.TheVariants.{Got, Crowded, Gone}
use Rattle.sh_slots.specs.Slots.{answer_to_get, live_at}
use Rattle.sh_key.specs.Layout.{Layout, IsLayout}
use Rattle.sh_step.specs.Plans.{keys_of}

abbrev pub live : (g n : ℕ) → Fields
live g n = record { generation = g; marked = false; present = true; count = n }

-- the word found is that of a live slot with n on it
word_is : (g n most live_word found : ℕ) → g < 2 ^ 32 → found < 2 ^ 64 → most ≤ 2 ^ 30 → live_word ≡ word_of (live g 0)
    → n ≡ (found + (2 ^ 64 - live_word)) % 2 ^ 64 → n < most → found ≡ word_of (live g n)
unfolding word_of
word_is g n most live_word found fits bits few is by less = omega arith

pub got_by_one_test : (g guard_max live_word found : ℕ) → g < 2 ^ 32 → found < 2 ^ 64 → guard_max ≤ 2 ^ 30 → live_word
    ≡ word_of (live g 0) → (found + (2 ^ 64 - live_word)) % 2 ^ 64 < guard_max → answer_to_get g guard_max found ≡ Got
got_by_one_test g guard_max live_word found fits bits few is less =
    let n : ℕ = (found + (2 ^ 64 - live_word)) % 2 ^ 64 in
    let fields : fields_of found ≡ live g n = ap fields_of
    (word_is g n guard_max live_word found fits bits few is refl less)
    ∙ fields_of-word_of (live g n) (let room : n < 2 ^ 30 = omega arith in room) in
    let A : Fields → GetAnswer = λ f. cond (f.present && not f.marked && (f.generation == g))
    (cond (nat_lt f.count guard_max) Got Crowded) Gone in
    ap A fields ∙ (ap (λ (b : Bool). cond b (cond (nat_lt n guard_max) Got Crowded) Gone) (eq-eqb g g refl)
    ∙ ap (λ (b : Bool). cond b Got Crowded) (lt-ltb n guard_max less))

-- the limit of holds on a key is small
pub few_holds : (layout : Layout) (n : ℕ) → IsLayout layout
    → ((shards pages : ℕ) → n ≡ (keys_of layout shards pages).guard_max) → n ≤ 2 ^ 30
unfolding keys_of
few_holds layout n lawful is =
    let fits = lawful.guards_fit in
    let same : n ≡ layout.guard_max = is 1 1 in
    omega arith

-- the bits above the count say at once whether the slot is live in the generation
pub live_by_one_test : (g found : ℕ) → (found / 2 ^ 30 == g * 4 + 1) ≡ live_at g found
unfolding fields_of
live_by_one_test g found = go (bit_at found 30 == 1) (bit_at found 31 == 1) (found / 2 ^ 32 == g)
    (found / 2 ^ 30 == g * 4 + 1) refl refl refl refl where
      go : (present marked same test : Bool) → (bit_at found 30 == 1) ≡ present → (bit_at found 31 == 1) ≡ marked
          → (found / 2 ^ 32 == g) ≡ same → (found / 2 ^ 30 == g * 4 + 1) ≡ test
          → test ≡ (present && not marked && same)
      go true false true true p m s t = refl
      go true false true false p m s t = absurd (grind (arith, nat_tests))
      go true false false true p m s t = absurd (grind (arith, nat_tests))
      go true false false false p m s t = refl
      go true true same true p m s t = absurd (grind (arith, nat_tests))
      go true true same false p m s t = refl
      go false marked same true p m s t = absurd (grind (arith, nat_tests))
      go false marked same false p m s t = refl
