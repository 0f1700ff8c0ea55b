-- Pages over the whole heap and in their shards.
use Rattle.std.proofs.Common.{◌≡◌, ℕ, ◌+◌, ◌-◌, ◌%◌, ◌<◌, ◌==◌, Bool, true, false, cond, refl, arith}
use Rattle.std.proofs.lemmas.Nat.{div-add-mod'}
use Rattle.std.specs.Prelude.{nat_lt}
use Rattle.std.proofs.lemmas.Bool.Decides.{nat_tests}
use Rattle.sh_step.specs.Plans.{Plan, page_number, shard_of, local, over_heap}

-- the number over the whole heap of a page's number in its shard is the page
pub over_local : (plan : Plan) (q : ℕ) → over_heap plan (shard_of plan q) 1 (local plan q + 1) ≡ q + 1
unfolding over_heap page_number shard_of local
over_local plan q =
    let e : nat_lt (q % plan.pages + 1) 1 ≡ false = grind (arith, nat_tests) in
    let d : q % plan.pages + 1 - 1 ≡ q % plan.pages = omega arith in
    rw (e, d, div-add-mod' q plan.pages) refl

-- a link names what the word below it named
pub over_next : (plan : Plan) (n m : ℕ) → over_heap plan n 2 (m + 1) ≡ over_heap plan n 1 m + 1
unfolding over_heap
over_next plan n m = go (nat_lt m 1) refl where
  go : (b : Bool) → nat_lt m 1 ≡ b → cond (nat_lt (m + 1) 2) (m + 1) (page_number plan n (m + 1 - 2) + 2)
      ≡ cond b m (page_number plan n (m - 1) + 1) + 1
  go true e = let f : nat_lt (m + 1) 2 ≡ true = grind (arith, nat_tests) in rw f refl
  go false e =
      let f : nat_lt (m + 1) 2 ≡ false = grind (arith, nat_tests) in
      let d : m + 1 - 2 ≡ m - 1 = omega arith in rw (f, d) (omega arith)

pub over_none : (plan : Plan) (n k : ℕ) → 0 < k → over_heap plan n k 0 ≡ 0
unfolding over_heap
over_none plan n k some = let e : nat_lt 0 k ≡ true = grind (arith, nat_tests) in rw e refl

-- only 0 is a word that names no item and is no end
pub over_some : (plan : Plan) (n m : ℕ) → (m == 0) ≡ false → (over_heap plan n 2 m == 0) ≡ false
unfolding over_heap
over_some plan n m some = go (nat_lt m 2) where
  go : (b : Bool) → (cond b m (page_number plan n (m - 2) + 2) == 0) ≡ false
  go true = some
  go false = grind (arith, nat_tests)
