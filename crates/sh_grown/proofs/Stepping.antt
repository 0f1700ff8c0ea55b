-- How many steps are taken at most over several calls, and over the chunks.
use Rattle.std.proofs.Common.{◌≡◌, ◌≢◌, ℕ, zero, suc, ◌+◌, ◌-◌, ◌*◌, ◌≤◌, List, Option, Some, None}
use Rattle.std.proofs.Common.{refl, inl, inr, ⊎_elim, arith, get_or, length, subst, sym, ◌∙◌}
use Rattle.std.specs.Prelude.{◌==◌, Bool, true, false, ltb, if◌then◌else◌, Result, Ok, Err, IfSome, IsSome, MatchResult}
use Rattle.std.specs.Option.{ForSome}
use Rattle.std.proofs.Math.Nat.{add-mul, mul-le-mul_right}
use Rattle.std.proofs.lemmas.Bool.{cases_eq, eqb-true, lt-ltb, ltb-true, ne_eqb}
use Rattle.sh_shape.specs.Places.{pages_of}
use Rattle.sh_value.specs.declared.refusal.Refusal.{Refusal}
use Rattle.sh_shard.specs.Bounds.{adopt_steps, insert_steps, leave_steps}
use Rattle.sh_shard.specs.Pages.{sum_below}
use Rattle.sh_shard.specs.RemoteFrees.{collect_steps}
use Rattle.sh_grown.specs.declared.growing.Growing.{Growing}
use Rattle.sh_grown.specs.declared.chunk_member.ChunkMember.{ChunkMember}
use Rattle.sh_grown.specs.declared.caller.Caller.{Caller as SeenCaller}
use Rattle.sh_grown.specs.Callers.{IsNewcomer, Meets, Stays, WhyUnmet, met_in}
use Rattle.sh_grown.specs.Growing.{shape_in}
use Rattle.sh_grown.specs.Inserts.{HasMet}
use Rattle.sh_grown.specs.OfChunks.{AreOfChunks, IsOfChunk}
use Rattle.sh_grown.specs.Steps.{StepsThere, Takes, TakesEach, TakesIn, TakesInAll, Took, bound_of, chunk_most}
use Rattle.sh_grown.specs.Steps.{steps_by, steps_of}
use Rattle.sh_grown.proofs.Keeping.{stays_then}
use Rattle.sh_grown.proofs.Meeting.{met_here, met_other}

-- ---- numbers

as_many : (a : ℕ) → a ≤ a
as_many a = omega arith

pub none_least : (a : ℕ) → 0 ≤ a
none_least a = omega arith

none_after : (a : ℕ) → a + 0 ≤ a
none_after a = omega arith

none_first : (a b : ℕ) → a ≤ b → 0 + a ≤ b
none_first a b few = omega (arith, few)

pub less_then : (a b c : ℕ) → a ≤ b → b ≤ c → a ≤ c
less_then a b c p q = omega arith

both_less : (a b c d : ℕ) → a ≤ b → c ≤ d → a + c ≤ b + d
both_less a b c d p q = omega arith

pub less_by : (a b most : ℕ) → b ≤ a + most → b - a ≤ most
less_by a b most few = omega arith

minus_same : (a : ℕ) → 0 ≡ a - a
minus_same a = omega arith

-- from a over b to c
less_over : (a b c s t most : ℕ) → s ≡ b - a → t ≡ c - b → s + t ≤ most → c - a ≤ most
less_over a b c s t most p q few = omega arith

less_first : (s t u most : ℕ) → u ≡ t → s + t ≤ most → u ≤ most
less_first s t u most is few = omega arith

times_both : (i j x a : ℕ) → i + j ≤ x → i * a + j * a ≤ x * a
times_both i j x a few =
    subst (λ (y : ℕ). y ≤ x * a) (add-mul i j a) (mul-le-mul_right {m = i + j} {n = x} a few)

three_both : (a b c d e f x y z : ℕ) → a + d ≤ x → b + e ≤ y → c + f ≤ z → (a + b + c) + (d + e + f) ≤ x + y + z
three_both a b c d e f x y z p q r = omega arith

-- so many calls, and then so many
pub calls_then : (i j x k l y m n z words pages : ℕ) → i + j ≤ x → k + l ≤ y → m + n ≤ z
    → steps_of i k m words pages + steps_of j l n words pages ≤ steps_of x y z words pages
calls_then i j x k l y m n z words pages p q r =
    let one = insert_steps pages words in
    let two = collect_steps pages in
    let three = leave_steps pages + adopt_steps pages in
    three_both (i * one) (k * two) (m * three) (j * one) (l * two) (n * three) (x * one) (y * two) (z * three)
    (times_both i j x one p) (times_both k l y two q) (times_both m n z three r)

-- at most so many calls
pub calls_within : (i x k y m z words pages : ℕ) → i ≤ x → k ≤ y → m ≤ z
    → steps_of i k m words pages ≤ steps_of x y z words pages
calls_within i x k y m z words pages p q r =
    let one = insert_steps pages words in
    let two = collect_steps pages in
    let three = leave_steps pages + adopt_steps pages in
    both_less (i * one + k * two) (x * one + y * two) (m * three) (z * three)
    (both_less (i * one) (x * one) (k * two) (y * two) (mul-le-mul_right {m = i} {n = x} one p)
    (mul-le-mul_right {m = k} {n = y} two q)) (mul-le-mul_right {m = m} {n = z} three r)

-- ---- in a chunk

pub no_steps : (new : ChunkMember → Type 0) (a : Option ChunkMember) → StepsThere new 0 a a
no_steps new (Some m) = minus_same (steps_by m.member)
no_steps new None = refl

-- two calls, one after the other
steps_then : (new : ChunkMember → Type 0) (s t most : ℕ) (a b c : Option ChunkMember) → StepsThere new s a b
    → StepsThere new t b c → s + t ≤ most → (u : ℕ) × StepsThere new u a c × (u ≤ most)
steps_then new s t most (Some m) (Some n) (Some o) p q few = (
  steps_by o.member - steps_by m.member,
  refl,
  less_over (steps_by m.member) (steps_by n.member) (steps_by o.member) s t most p q few,
)
steps_then new s t most (Some m) (Some n) None p q few = absurd q
steps_then new s t most (Some m) None c p q few = absurd p
steps_then new s t most None (Some n) (Some o) p q few = (
  steps_by o.member - steps_by p.0.member,
  (p.0, p.1, refl),
  less_over (steps_by p.0.member) (steps_by n.member) (steps_by o.member) s t most p.2 q few,
)
steps_then new s t most None (Some n) None p q few = absurd q
steps_then new s t most None None c p q few = (t, q, less_first s t t most refl few)

-- ---- bounds of some chunks

only_then : (t : Bool) (x y z : ℕ) → x + y ≤ z
    → (if t then x else 0) + (if t then y else 0) ≤ (if t then z else 0)
only_then true x y z few = few
only_then false x y z few = as_many 0

only_at : (t : Bool) (x z : ℕ) → (t ≡ true → x ≤ z) → (if t then x else 0) ≤ (if t then z else 0)
only_at true x z few = few refl
only_at false x z few = as_many 0

only_few : (t : Bool) (x z : ℕ) → x ≤ z → (if t then x else 0) ≤ z
only_few true x z few = few
only_few false x z few = none_least z

pub chosen_most : (t : Bool) (x : ℕ) → t ≡ true → x ≤ (if t then x else 0)
chosen_most true x is = as_many x
chosen_most false x is = absurd (cc)

-- those below a number, with the chunk of this number
with_one : (t u v : Bool) (x : ℕ) → (t ≡ true → u ≡ false) → (t ≡ true → v ≡ true) → (u ≡ true → v ≡ true)
    → (if t then x else 0) + (if u then x else 0) ≤ (if v then x else 0)
with_one true true v x apart first last = absurd (let no = apart refl in cc)
with_one true false v x apart first last =
    less_then (x + 0) x (if v then x else 0) (none_after x) (chosen_most v x (first refl))
with_one false true v x apart first last = none_first x (if v then x else 0) (chosen_most v x (last refl))
with_one false false v x apart first last = none_least (if v then x else 0)

next_below : (k n x : ℕ)
    → (if ltb k n then x else 0) + (if k == n then x else 0) ≤ (if ltb k (n + 1) then x else 0)
next_below k n x =
    with_one (ltb k n) (k == n) (ltb k (n + 1)) x
    (λ less. ne_eqb k n (λ e. let l = ltb-true k n less in omega (arith, l, e)))
    (λ less. lt-ltb k (n + 1) (let l = ltb-true k n less in omega (arith, l)))
    (λ same. lt-ltb k (n + 1) (let e = eqb-true k n same in omega (arith, e)))

-- ---- of a caller

stays_took : (a b : SeenCaller) (chosen : ℕ → Bool) (most : ℕ → ℕ → ℕ) (xs ys : List (Option ChunkMember))
    → Stays a b → Took b.growing b.number chosen most xs ys → Took a.growing a.number chosen most xs ys
stays_took a b chosen most xs ys stays p =
    subst (λ (g : Growing). Took g a.number chosen most xs ys) stays.growing
    (subst (λ (k : ℕ). Took b.growing k chosen most xs ys) stays.number p)

takes_then : (t u v : ℕ → Bool) (f g h : ℕ → ℕ → ℕ) (a b c : SeenCaller)
    → ((k s p : ℕ) → (if t k then f s p else 0) + (if u k then g s p else 0) ≤ (if v k then h s p else 0))
    → Stays a b → Takes t f a b → Takes u g b c → Takes v h a c
takes_then t u v f g h a b c few stays p q =
    λ k.
    let new : ChunkMember → Type 0 = IsNewcomer a.growing a.number k in
    let x = get_or a.met.items k None in
    let y = get_or b.met.items k None in
    let z = get_or c.met.items k None in
    let first = p k in
    let next = stays_took a b u g b.met.items c.met.items stays q k in
    let shards = (shape_in a.growing k).shards in
    let pages = pages_of (shape_in a.growing k) in
    steps_then new first.0 next.0 (if v k then bound_of a.growing h k else 0) x y z first.1 next.1
    (less_then (first.0 + next.0)
    ((if t k then bound_of a.growing f k else 0) + (if u k then bound_of a.growing g k else 0))
    (if v k then bound_of a.growing h k else 0)
    (both_less first.0 (if t k then bound_of a.growing f k else 0) next.0 (if u k then bound_of a.growing g k else 0)
    first.2 next.2) (few k shards pages))

takes_more : (t v : ℕ → Bool) (f h : ℕ → ℕ → ℕ) (a b : SeenCaller)
    → ((k : ℕ) → (if t k then bound_of a.growing f k else 0) ≤ (if v k then bound_of a.growing h k else 0))
    → Takes t f a b → Takes v h a b
takes_more t v f h a b few p =
    λ k.
    let took = p k in (
      took.0,
      took.1,
      less_then took.0 (if t k then bound_of a.growing f k else 0) (if v k then bound_of a.growing h k else 0) took.2
          (few k),
    )

-- nothing was done
pub takes_none : (chosen : ℕ → Bool) (most : ℕ → ℕ → ℕ) (a : SeenCaller) → Takes chosen most a a
takes_none chosen most a =
    λ k. (
      0,
      no_steps (IsNewcomer a.growing a.number k) (get_or a.met.items k None),
      none_least (if chosen k then bound_of a.growing most k else 0),
    )

-- ---- in one chunk

pub one_then : (chunk : ℕ) (f g h : ℕ → ℕ → ℕ) (a b c : SeenCaller) → ((s p : ℕ) → f s p + g s p ≤ h s p)
    → Stays a b → TakesIn chunk f a b → TakesIn chunk g b c → TakesIn chunk h a c
one_then chunk f g h a b c few stays p q =
    takes_then (λ k. k == chunk) (λ k. k == chunk) (λ k. k == chunk) f g h a b c
    (λ k s z. only_then (k == chunk) (f s z) (g s z) (h s z) (few s z)) stays p q

-- one shard more of a walk
pub shard_more : (chunk count all words : ℕ) (a b c : SeenCaller) → count + 1 ≤ all → Stays a b
    → TakesIn chunk (λ s. steps_of count count count words) a b → TakesIn chunk (λ s. steps_of 1 1 1 words) b c
    → TakesIn chunk (λ s. steps_of all all all words) a c
shard_more chunk count all words a b c few stays p q =
    one_then chunk (λ s. steps_of count count count words) (λ s. steps_of 1 1 1 words)
    (λ s. steps_of all all all words) a b c
    (λ s p. calls_then count 1 all count 1 all count 1 all words p few few few) stays p q

pub one_within : (chunk : ℕ) (f h : ℕ → ℕ → ℕ) (a b : SeenCaller) → ((s p : ℕ) → f s p ≤ h s p)
    → TakesIn chunk f a b → TakesIn chunk h a b
one_within chunk f h a b few p =
    takes_more (λ k. k == chunk) (λ k. k == chunk) f h a b
    (λ k. only_at (k == chunk) (bound_of a.growing f k) (bound_of a.growing h k)
    (λ same. few (shape_in a.growing k).shards (pages_of (shape_in a.growing k)))) p

-- a walk over so many shards is one over at most those of the chunk
has_shards : (growing : Growing) (chunk shards : ℕ) (a : Option ChunkMember) → IsSome a
    → IfSome a (λ m. shards ≡ m.shards) → ForSome a (λ m. IsOfChunk growing chunk m)
    → shards ≡ (shape_in growing chunk).shards
has_shards growing chunk shards (Some m) some is of =
    let one : IsOfChunk growing chunk m = of m refl in is ∙ one.shards
has_shards growing chunk shards None some is of = absurd (cc)

pub one_walk : (chunk words count shards : ℕ) (a b : SeenCaller) → count ≤ shards → HasMet a.met.items chunk
    → IfSome (get_or a.met.items chunk None) (λ m. shards ≡ m.shards) → AreOfChunks a.growing a.met.items
    → TakesIn chunk (λ s. steps_of count count count words) a b → TakesIn chunk (λ s. steps_of s s s words) a b
one_walk chunk words count shards a b few has is of p =
    let within : count ≤ (shape_in a.growing chunk).shards =
    subst (λ (n : ℕ). count ≤ n) (has_shards a.growing chunk shards (get_or a.met.items chunk None) has is (of chunk))
    few in
    let f : ℕ → ℕ → ℕ = λ s. steps_of count count count words in
    let h : ℕ → ℕ → ℕ = λ s. steps_of s s s words in
    takes_more (λ k. k == chunk) (λ k. k == chunk) f h a b
    (λ k. only_at (k == chunk) (bound_of a.growing f k) (bound_of a.growing h k)
    (λ same.
    let all = (shape_in a.growing k).shards in
    let low : count ≤ all =
    subst (λ (n : ℕ). count ≤ (shape_in a.growing n).shards) (sym (eqb-true k chunk same)) within in
    calls_within count all count all count all words (pages_of (shape_in a.growing k)) low low low)) p

-- ---- in each chunk

pub each_then : (f g h : ℕ → ℕ → ℕ) (a b c : SeenCaller) → ((s p : ℕ) → f s p + g s p ≤ h s p) → Stays a b
    → TakesEach f a b → TakesEach g b c → TakesEach h a c
each_then f g h a b c few stays p q =
    takes_then (λ k. true) (λ k. true) (λ k. true) f g h a b c (λ k s z. few s z) stays p q

pub each_more : (f h : ℕ → ℕ → ℕ) (a b : SeenCaller) → ((s p : ℕ) → f s p ≤ h s p) → TakesEach f a b
    → TakesEach h a b
each_more f h a b few p =
    takes_more (λ k. true) (λ k. true) f h a b
    (λ k. few (shape_in a.growing k).shards (pages_of (shape_in a.growing k))) p

pub one_each : (chunk : ℕ) (f h : ℕ → ℕ → ℕ) (a b : SeenCaller) → ((s p : ℕ) → f s p ≤ h s p)
    → TakesIn chunk f a b → TakesEach h a b
one_each chunk f h a b few p =
    takes_more (λ k. k == chunk) (λ k. true) f h a b
    (λ k. only_few (k == chunk) (bound_of a.growing f k) (bound_of a.growing h k)
    (few (shape_in a.growing k).shards (pages_of (shape_in a.growing k)))) p

-- all steps, and the sum of the bounds
sum_less : (f g : ℕ → ℕ) → ((k : ℕ) → f k ≤ g k) → (n : ℕ) → sum_below f n ≤ sum_below g n
sum_less f g few zero = none_least 0
sum_less f g few (suc n) =
    both_less (f n) (g n) (sum_below f n) (sum_below g n) (few n) (sum_less f g few n)

in_all : (most : ℕ → ℕ → ℕ) (a b : SeenCaller) → TakesEach most a b → TakesInAll most a b
in_all most a b p = (
  p,
  sum_less (λ chunk. (p chunk).0) (bound_of a.growing most) (λ chunk. (p chunk).2) (length a.growing.cells.items),
)

-- an insert that ended with the first walk
pub open_in_all : (w : ℕ) (a b : SeenCaller) → TakesEach (λ s. steps_of (3 + s) (1 + s) s w) a b
    → TakesInAll (chunk_most w) a b
open_in_all w a b p =
    in_all (chunk_most w) a b
    (each_more (λ s. steps_of (3 + s) (1 + s) s w) (chunk_most w) a b
    (λ s p. calls_within (3 + s) (3 + 2 * s) (1 + s) (1 + 2 * s) s (2 * s) w p (omega arith) (omega arith)
    (omega arith)) p)

-- an insert that walked twice
pub both_in_all : (w : ℕ) (a b c : SeenCaller) → Stays a b → TakesEach (λ s. steps_of (3 + s) (1 + s) s w) a b
    → TakesEach (λ s. steps_of s s s w) b c → TakesInAll (chunk_most w) a c
both_in_all w a b c stays p q =
    in_all (chunk_most w) a c
    (each_then (λ s. steps_of (3 + s) (1 + s) s w) (λ s. steps_of s s s w) (chunk_most w) a b c
    (λ s p. calls_then (3 + s) s (3 + 2 * s) (1 + s) s (1 + 2 * s) s s (2 * s) w p (omega arith) (omega arith)
    (omega arith)) stays p q)

-- ---- a meeting

newcomer_took : (growing : Growing) (number chunk : ℕ) (most : ℕ → ℕ → ℕ) (xs : List (Option ChunkMember))
    (m : ChunkMember)
    → get_or xs chunk None ≡ None → IsNewcomer growing number chunk m
    → Took growing number (λ k. false) most xs (met_in chunk m xs)
newcomer_took growing number chunk most xs m none is =
    λ other.
    ⊎_elim
    (λ (e : other ≡ chunk). (
      0,
      subst (λ (k : ℕ). StepsThere (IsNewcomer growing number k) 0 (get_or xs k None)
          (get_or (met_in chunk m xs) k None)) (sym e)
          (subst (λ (o : Option ChunkMember). StepsThere (IsNewcomer growing number chunk) 0 o
          (get_or (met_in chunk m xs) chunk None)) (sym none)
          (subst (λ (o : Option ChunkMember). StepsThere (IsNewcomer growing number chunk) 0 None o)
          (sym (met_here chunk m xs)) (m, is, minus_same (steps_by m.member)))),
      as_many 0,
    ))
    (λ (ne : other ≢ chunk). (
      0,
      subst (λ (o : Option ChunkMember). StepsThere (IsNewcomer growing number other) 0 (get_or xs other None) o)
          (sym (met_other chunk other m xs ne)) (no_steps (IsNewcomer growing number other) (get_or xs other None)),
      as_many 0,
    ))
    (cases_eq other chunk)

same_took : (most : ℕ → ℕ → ℕ) (a : SeenCaller) (ys : List (Option ChunkMember)) → ys ≡ a.met.items
    → Took a.growing a.number (λ k. false) most a.met.items ys
same_took most a ys same =
    subst (λ (zs : List (Option ChunkMember)). Took a.growing a.number (λ k. false) most a.met.items zs) (sym same)
    (takes_none (λ k. false) most a)

meets_took : (chunk : ℕ) (most : ℕ → ℕ → ℕ) (a : SeenCaller) (ys : List (Option ChunkMember))
    → Meets a.growing a.number chunk a.met.items ys → Took a.growing a.number (λ k. false) most a.met.items ys
meets_took chunk most a ys (inl h) = same_took most a ys h.1
meets_took chunk most a ys (inr h) =
    subst (λ (zs : List (Option ChunkMember)). Took a.growing a.number (λ k. false) most a.met.items zs) (sym h.3)
    (newcomer_took a.growing a.number chunk most a.met.items h.1 h.0 h.2)

-- no step is taken, whatever the answer is
pub met_each : (chunk : ℕ) (most : ℕ → ℕ → ℕ) (a b : SeenCaller) (answer : Result (Unit {0}) Refusal)
    → MatchResult answer (λ x. Meets a.growing a.number chunk a.met.items b.met.items)
    (λ why. WhyUnmet why × (get_or a.met.items chunk None ≡ None) × (b.met.items ≡ a.met.items))
    → Takes (λ k. false) most a b
met_each chunk most a b (Ok x) h = meets_took chunk most a b.met.items h
met_each chunk most a b (Err why) h = same_took most a b.met.items h.2

pub opened_each : (chunk : ℕ) (most : ℕ → ℕ → ℕ) (a b : SeenCaller) (answer : Result (Unit {0}) Refusal)
    → MatchResult answer (λ x. Meets a.growing a.number chunk a.met.items b.met.items)
    (λ why. (get_or a.met.items chunk None ≡ None) × (b.met.items ≡ a.met.items)) → Takes (λ k. false) most a b
opened_each chunk most a b (Ok x) h = meets_took chunk most a b.met.items h
opened_each chunk most a b (Err why) h = same_took most a b.met.items h.1

-- ---- chunk by chunk

-- one chunk more
pub below_one : (n : ℕ) (most : ℕ → ℕ → ℕ) (a b c : SeenCaller) → Stays a b → Takes (λ k. ltb k n) most a b
    → TakesIn n most b c → Takes (λ k. ltb k (n + 1)) most a c
below_one n most a b c stays p q =
    takes_then (λ k. ltb k n) (λ k. k == n) (λ k. ltb k (n + 1)) most most most a b c
    (λ k s z. next_below k n (most s z)) stays p q

-- a chunk is met
pub below_met : (n : ℕ) (most : ℕ → ℕ → ℕ) (a b c : SeenCaller) → Stays a b → Takes (λ k. ltb k n) most a b
    → Takes (λ k. false) most b c → Takes (λ k. ltb k n) most a c
below_met n most a b c stays p q =
    takes_then (λ k. ltb k n) (λ k. false) (λ k. ltb k n) most most most a b c
    (λ k s z. none_after (if ltb k n then most s z else 0)) stays p q

-- a chunk is met, and then tried
pub below_next : (n : ℕ) (most : ℕ → ℕ → ℕ) (a b m c : SeenCaller) → Stays a b → Stays b m
    → Takes (λ k. ltb k n) most a b → Takes (λ k. false) most b m → TakesIn n most m c
    → Takes (λ k. ltb k (n + 1)) most a c
below_next n most a b m c stays stays_next p q r =
    below_one n most a m c (stays_then a b m stays stays_next) (below_met n most a b m stays p q) r

pub below_each : (n : ℕ) (most : ℕ → ℕ → ℕ) (a b : SeenCaller) → Takes (λ k. ltb k n) most a b → TakesEach most a b
below_each n most a b p =
    takes_more (λ k. ltb k n) (λ k. true) most most a b
    (λ k. only_few (ltb k n) (bound_of a.growing most k) (bound_of a.growing most k)
    (as_many (bound_of a.growing most k))) p
