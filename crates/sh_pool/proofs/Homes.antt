-- Which pass each pool slot is for.
use Rattle.std.proofs.Common.{◌≡◌, ℕ, zero, suc, ◌<◌, List, [], ◌∷◌, ◌++◌, length, get_or, refl, arith}
use Rattle.std.proofs.Common.{length-append, ◌∙◌}
use Rattle.sh_table.specs.Seats.{Heap}
use Rattle.sh_table.specs.Views.{newly}
use Rattle.sh_pass.specs.Passes.{Caller, newcomers}
use Rattle.sh_pool.specs.PoolSlots.{AreLast, ArePoolSlots, Home}

-- with one pass more behind them
last_more : (heap : Heap) (total : ℕ) (ps : List Caller) (p : Caller) → AreLast heap total ps → p.heap ≡ heap
    → p.view.pass ≡ total → AreLast heap (suc total) (ps ++ p ∷ [])
last_more heap total [] p all is number = (is, omega (arith, number), tt)
last_more heap total (q ∷ ps) p all is number = (
  all.0,
  omega (arith, length-append ps (p ∷ []), all.1),
  last_more heap total ps p all.2 is number,
)

-- the first n passes of a heap are the last of n
pub newcomers_are_last : (heap : Heap) (n : ℕ) → AreLast heap n (newcomers heap n)
newcomers_are_last heap zero = tt
newcomers_are_last heap (suc n) =
    last_more heap n (newcomers heap n) (record { heap = heap; view = newly heap.shape n }) (newcomers_are_last heap n)
    refl refl

-- what each place has, with one place more
item_more : {X : Type 0} (f : ℕ → X) (xs : List X) (x : X) (n : ℕ) (d : X)
    → ((k : ℕ) (e : X) → k < length xs → get_or xs k e ≡ f k) → x ≡ f (length xs) → n < length (xs ++ x ∷ [])
    → get_or (xs ++ x ∷ []) n d ≡ f n
item_more f [] x zero d all is lt = is
item_more f [] x (suc n) d all is lt = absurd (omega (arith, lt))
item_more f (y ∷ ys) x zero d all is lt = all zero d (omega arith)
item_more f (y ∷ ys) x (suc n) d all is lt =
    item_more (λ k. f (suc k)) ys x n d (λ k e l. all (suc k) e (omega (arith, l))) is (omega (arith, lt))

-- with one pool slot more, pool slot n is for pass n
pub homes_more : (heap : Heap) (homes : List Home) (home : Home) (n : ℕ) (d : Home)
    → ((k : ℕ) (e : Home) → k < length homes → get_or homes k e ≡ (heap, k)) → home ≡ (heap, length homes)
    → n < length (homes ++ home ∷ []) → get_or (homes ++ home ∷ []) n d ≡ (heap, n)
homes_more heap homes home n d all is lt = item_more (λ k. (heap, k)) homes home n d all is lt

-- what is read at place n is the pool slot for pass n
pub cell_is : (heap : Heap) (homes : List Home) (n : ℕ) (cell : Home) → ArePoolSlots heap homes → n < length homes
    → cell ≡ get_or homes n cell → cell ≡ (heap, n)
cell_is heap homes n cell all lt is = is ∙ all.of n cell lt
