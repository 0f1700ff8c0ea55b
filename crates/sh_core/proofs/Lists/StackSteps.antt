-- The stacks and chains of numbered items, over a push, a tie, a take and a follow.
use Rattle.std.proofs.Common.{◌≡◌, ℕ, zero, suc, ◌+◌, ◌<◌, ◌≤◌, ◌==◌, ◌&&◌, Bool, true, false, List, [], ◌∷◌, refl, ap}
use Rattle.std.proofs.Common.{◌∙◌, arith, eqb-true, eq-eqb}
use Rattle.std.specs.Prelude.{not}
use Rattle.std.proofs.lemmas.Bool.Decides.{nat_tests}
use Rattle.sh_core.specs.Words.{put}
use Rattle.sh_step.specs.Collections.{total, if1}
use Rattle.sh_core.specs.Lists.{times}
use Rattle.sh_core.specs.Stacks.{link_to, top, first_is, Chained, Chains}
use Rattle.sh_core.proofs.Sums.Tests.{eqb-comm, if1_self, if1_zero}
use Rattle.sh_core.proofs.Sums.ListCounts.{times_cons, times_none, apart_item}
use Rattle.sh_core.proofs.Sums.Writes.{put_same, put_other}

-- a list whose items' links and debts add up to what they did before
pub chained_same : (word word' owed owed' : ℕ → ℕ) (xs : List ℕ) → Chained word owed xs
    → ((s : ℕ) → 0 < times s xs → word' s + owed' s ≡ word s + owed s) → Chained word' owed' xs
unfolding total
chained_same word word' owed owed' [] old same = tt
chained_same word word' owed owed' (s ∷ xs) old same =
    let e : (s == s) ≡ true = eq-eqb s s refl in
    (same s (rw e (omega arith)) ∙ old.0, chained_same word word' owed owed' xs old.1 (λ t h. same t (omega arith)))

pub link_to_top : (xs : List ℕ) → link_to xs ≡ top xs + 1
link_to_top [] = refl
link_to_top (s ∷ xs) = omega arith

-- nothing changes
pub chains_same : (h h' : ℕ → ℕ) (k k' o o' t t' c c' : ℕ → ℕ → ℕ) (st st' ch ch' : ℕ → List ℕ) → Chains h k o t c st ch
    → ((q : ℕ) → h' q ≡ h q) → ((q s : ℕ) → k' q s ≡ k q s) → ((q s : ℕ) → o' q s ≡ o q s)
    → ((q s : ℕ) → t' q s ≡ t q s) → ((q s : ℕ) → c' q s ≡ c q s)
    → ((q : ℕ) → st' q ≡ st q) → ((q : ℕ) → ch' q ≡ ch q) → Chains h' k' o' t' c' st' ch'
chains_same h h' k k' o o' t t' c c' st st' ch ch' old hs ks os ts cs ss es = record {
  tops = λ q. rw (ss q) (hs q ∙ old.tops q);
  stacks = λ q. rw (ss q) (chained_same (k q) (k' q) (o q) (o' q) (st q) (old.stacks q)
      (λ s _. let a = ks q s in let b = os q s in omega arith));
  chains = λ q. rw (es q) (chained_same (k q) (k' q) (o q) (o' q) (ch q) (old.chains q)
      (λ s _. let a = ks q s in let b = os q s in omega arith));
  ties = λ q s. rw (ks q s, ts q s, ss q, es q) (old.ties q s);
  cursors = λ q s. rw (es q) (cs q s ∙ old.cursors q s);
}

-- A push: the item becomes the top, and its pass owes its link
module _ (h h' : ℕ → ℕ) (k o o' t t' c c' : ℕ → ℕ → ℕ) (st ch : ℕ → List ℕ) (q s : ℕ) (old : Chains h k o t c st ch)
    (no_debt : t q s ≡ 0 → o q s ≡ 0) (none : times s (st q) + times s (ch q) ≡ 0)
    (head_new : h' q ≡ s + 1) (heads : (g : ℕ) → (g == q) ≡ false → h' g ≡ h g) (owed_new : o' q s ≡ o q s + (h q + 1))
    (tied_new : t' q s ≡ t q s + 1)
    (others : (g i : ℕ) → ((g == q) && (i == s)) ≡ false → (o' g i ≡ o g i) × (t' g i ≡ t g i))
    (cursors_same : (g i : ℕ) → c' g i ≡ c g i) where
  unlinked : k q s ≡ 0
  unlinked = let a = old.ties q s in if1_zero (k q s) (omega arith)

  owes_nothing : o q s ≡ 0
  owes_nothing = let a = old.ties q s in no_debt (omega arith)

  chained_push : (g : ℕ) (xs : List ℕ) → (g ≡ q → times s xs ≡ 0) → Chained (k g) (o g) xs → Chained (k g) (o' g) xs
  chained_push g xs out old' = chained_same (k g) (k g) (o g) (o' g) xs old'
      (λ i some. let z = (others g i (apart g i xs out some)).0 in omega arith) where
        apart : (g i : ℕ) (xs : List ℕ) → (g ≡ q → times s xs ≡ 0) → 0 < times i xs → ((g == q) && (i == s)) ≡ false
        apart g i xs out some = go (g == q) refl where
          go : (b : Bool) → (g == q) ≡ b → (b && (i == s)) ≡ false
          go true e = apart_item s i xs (out (eqb-true g q e)) some
          go false e = refl

  at_top : Chained (k q) (o' q) (s ∷ st q)
  at_top =
      let a = old.tops q in
      let b = link_to_top (st q) in
      let u = unlinked in
      let v = owes_nothing in
      let w = owed_new in (omega arith, chained_push q (st q) (λ _. omega arith) (old.stacks q))

  push_stacks : (g : ℕ) → Chained (k g) (o' g) (put st q (s ∷ st q) g)
  push_stacks g = go (g == q) refl where
    go : (b : Bool) → (g == q) ≡ b → Chained (k g) (o' g) (put st q (s ∷ st q) g)
    go true e = let i = eqb-true g q e in rw (i, put_same st q (s ∷ st q)) at_top
    go false e = rw (put_other st q g (s ∷ st q) e) (chained_push g (st g)
        (λ i. absurd (let z : (g == q) ≡ true = rw i (eq-eqb q q refl) in cc)) (old.stacks g))

  push_tops : (g : ℕ) → h' g ≡ top (put st q (s ∷ st q) g)
  push_tops g = go (g == q) refl where
    go : (b : Bool) → (g == q) ≡ b → h' g ≡ top (put st q (s ∷ st q) g)
    go true e = let i = eqb-true g q e in rw (i, put_same st q (s ∷ st q)) head_new
    go false e = rw (put_other st q g (s ∷ st q) e) (heads g e ∙ old.tops g)

  push_ties : (g i : ℕ) → if1 (not (k g i == 0)) + t' g i ≡ times i (put st q (s ∷ st q) g) + times i (ch g)
  push_ties g i = go (g == q) (i == s) refl refl where
    go : (b d : Bool) → (g == q) ≡ b → (i == s) ≡ d → if1 (not (k g i == 0)) + t' g i
        ≡ times i (put st q (s ∷ st q) g) + times i (ch g)
    go true true e f =
        let a = eqb-true g q e in
        let b = eqb-true i s f in
        let o = old.ties q s in
        let m = if1_self s in
        rw (a, b, put_same st q (s ∷ st q), times_cons s s (st q)) (omega arith)
    go true false e f =
        let a = eqb-true g q e in
        let x : ((q == q) && (i == s)) ≡ false = rw (eq-eqb q q refl) f in
        let z = (others q i x).1 in
        let o = old.ties q i in
        let m : if1 (s == i) ≡ 0 = rw (eqb-comm s i, f) (omega arith) in
        rw (a, put_same st q (s ∷ st q), times_cons i s (st q)) (omega arith)
    go false d e f =
        let x : ((g == q) && (i == s)) ≡ false = rw e refl in
        let z = (others g i x).1 in
        let o = old.ties g i in
        rw (put_other st q g (s ∷ st q) e) (omega arith)

  pub chains_push : Chains h' k o' t' c' (put st q (s ∷ st q)) ch
  chains_push = record {
    tops = push_tops;
    stacks = push_stacks;
    chains = λ g. chained_push g (ch g) (λ i. rw i (omega arith)) (old.chains g);
    ties = push_ties;
    cursors = λ g i. cursors_same g i ∙ old.cursors g i;
  }

-- A tie: what was owed is stored
module _ (h : ℕ → ℕ) (k k' o o' t t' c c' : ℕ → ℕ → ℕ) (st ch : ℕ → List ℕ) (q s n : ℕ) (old : Chains h k o t c st ch)
    (once : times s (st q) + times s (ch q) ≤ 1) (some : 0 < n)
    (link_new : k' q s ≡ n) (owed_new : o' q s + n ≡ o q s) (tied_new : t' q s + 1 ≡ t q s)
    (others : (g i : ℕ) → ((g == q) && (i == s)) ≡ false → (k' g i ≡ k g i) × (o' g i ≡ o g i) × (t' g i ≡ t g i))
    (cursors_same : (g i : ℕ) → c' g i ≡ c g i) where
  was_unlinked : k q s ≡ 0
  was_unlinked = let a = old.ties q s in if1_zero (k q s) (omega arith)

  sums_stay : (g i : ℕ) → k' g i + o' g i ≡ k g i + o g i
  sums_stay g i = go (g == q) (i == s) refl refl where
    go : (b d : Bool) → (g == q) ≡ b → (i == s) ≡ d → k' g i + o' g i ≡ k g i + o g i
    go true true e f = let a = eqb-true g q e in let b = eqb-true i s f in let u = was_unlinked in let v = link_new
        in let w = owed_new in rw (a, b) (omega arith)
    go true false e f = let z = others g i (rw (e, f) refl) in let y = z.0 in let x = z.1 in omega arith
    go false d e f = let z = others g i (rw e refl) in let y = z.0 in let x = z.1 in omega arith

  tie_ties : (g i : ℕ) → if1 (not (k' g i == 0)) + t' g i ≡ times i (st g) + times i (ch g)
  tie_ties g i = go (g == q) (i == s) refl refl where
    stored : if1 (not (n == 0)) ≡ 1
    stored = grind (arith, nat_tests)

    away : ((g == q) && (i == s)) ≡ false → if1 (not (k' g i == 0)) + t' g i ≡ times i (st g) + times i (ch g)
    away e = let z = others g i e in rw (z.0, z.2) (old.ties g i)

    go : (b d : Bool) → (g == q) ≡ b → (i == s) ≡ d → if1 (not (k' g i == 0)) + t' g i ≡ times i (st g) + times i (ch g)
    go true true e f =
        let a = eqb-true g q e in
        let b = eqb-true i s f in
        let u = was_unlinked in
        let m = old.ties q s in
        let z : if1 (not (k q s == 0)) ≡ 0 = rw u refl in
        let y = stored in
        let x = tied_new in
        rw (a, b, link_new) (omega arith)
    go true false e f = away (rw (e, f) refl)
    go false d e f = away (rw e refl)

  pub chains_tie : Chains h k' o' t' c' st ch
  chains_tie = record {
    tops = old.tops;
    stacks = λ g. chained_same (k g) (k' g) (o g) (o' g) (st g) (old.stacks g) (λ i _. sums_stay g i);
    chains = λ g. chained_same (k g) (k' g) (o g) (o' g) (ch g) (old.chains g) (λ i _. sums_stay g i);
    ties = tie_ties;
    cursors = λ g i. cursors_same g i ∙ old.cursors g i;
  }

-- A take: the stack becomes the chain
module _ (h h' : ℕ → ℕ) (k o o' t t' c c' : ℕ → ℕ → ℕ) (st ch : ℕ → List ℕ) (q : ℕ) (old : Chains h k o t c st ch)
    (empty : ch q ≡ [])
    (head_new : h' q ≡ 0) (heads : (g : ℕ) → (g == q) ≡ false → h' g ≡ h g) (os : (g i : ℕ) → o' g i ≡ o g i)
    (ts : (g i : ℕ) → t' g i ≡ t g i)
    (cursor_new : (i : ℕ) → c' q i ≡ c q i + first_is (st q) i)
    (cursors_else : (g i : ℕ) → (g == q) ≡ false → c' g i ≡ c g i) where
  chained_take : (g : ℕ) (xs : List ℕ) → Chained (k g) (o g) xs → Chained (k g) (o' g) xs
  chained_take g xs x = chained_same (k g) (k g) (o g) (o' g) xs x (λ i _. let z = os g i in omega arith)

  pub chains_take : Chains h' k o' t' c' (put st q []) (put ch q (st q))
  chains_take = record { tops = tops; stacks = stacks; chains = chains; ties = ties; cursors = cursors } where
    tops : (g : ℕ) → h' g ≡ top (put st q [] g)
    tops g = go (g == q) refl where
      go : (b : Bool) → (g == q) ≡ b → h' g ≡ top (put st q [] g)
      go true e = let i = eqb-true g q e in rw (i, put_same st q []) head_new
      go false e = rw (put_other st q g [] e) (heads g e ∙ old.tops g)

    stacks : (g : ℕ) → Chained (k g) (o' g) (put st q [] g)
    stacks g = go (g == q) refl where
      go : (b : Bool) → (g == q) ≡ b → Chained (k g) (o' g) (put st q [] g)
      go true e = let i = eqb-true g q e in rw (i, put_same st q []) tt
      go false e = rw (put_other st q g [] e) (chained_take g (st g) (old.stacks g))

    chains : (g : ℕ) → Chained (k g) (o' g) (put ch q (st q) g)
    chains g = go (g == q) refl where
      go : (b : Bool) → (g == q) ≡ b → Chained (k g) (o' g) (put ch q (st q) g)
      go true e = let i = eqb-true g q e in rw (i, put_same ch q (st q)) (chained_take q (st q) (old.stacks q))
      go false e = rw (put_other ch q g (st q) e) (chained_take g (ch g) (old.chains g))

    ties : (g i : ℕ) → if1 (not (k g i == 0)) + t' g i ≡ times i (put st q [] g) + times i (put ch q (st q) g)
    ties g i = go (g == q) refl where
      go : (b : Bool) → (g == q) ≡ b → if1 (not (k g i == 0)) + t' g i
          ≡ times i (put st q [] g) + times i (put ch q (st q) g)
      go true e =
          let j = eqb-true g q e in
          let x = old.ties q i in
          let y = ts q i in
          let z : times i (ch q) ≡ 0 = rw empty (times_none i) in
          let v = times_none i in
          rw (j, put_same st q [], put_same ch q (st q)) (omega arith)
      go false e = rw (put_other st q g [] e, put_other ch q g (st q) e, ts g i) (old.ties g i)

    cursors : (g i : ℕ) → c' g i ≡ first_is (put ch q (st q) g) i
    cursors g i = go (g == q) refl where
      go : (b : Bool) → (g == q) ≡ b → c' g i ≡ first_is (put ch q (st q) g) i
      go true e =
          let j = eqb-true g q e in
          let x = old.cursors q i in
          let y = cursor_new i in
          let z : first_is (ch q) i ≡ 0 = rw empty refl in
          rw (j, put_same ch q (st q)) (omega arith)
      go false e = rw (put_other ch q g (st q) e) (cursors_else g i e ∙ old.cursors g i)

-- A follow that finds a link: the chain's first item comes off
module _ (h : ℕ → ℕ) (k k' o o' t t' c c' : ℕ → ℕ → ℕ) (st ch : ℕ → List ℕ) (q s : ℕ) (rest : List ℕ)
    (old : Chains h k o t c st ch) (is : ch q ≡ s ∷ rest) (no_debt : t q s ≡ 0 → o q s ≡ 0)
    (once : times s (st q) + times s (ch q) ≤ 1) (found : (k q s == 0) ≡ false)
    (link_new : k' q s ≡ 0) (links : (g i : ℕ) → ((g == q) && (i == s)) ≡ false → k' g i ≡ k g i)
    (os : (g i : ℕ) → o' g i ≡ o g i) (ts : (g i : ℕ) → t' g i ≡ t g i) where
  counts_first : times s (ch q) ≡ 1 + times s rest
  counts_first = let e = if1_self s in rw (is, times_cons s s rest) (omega arith)

  out : (times s (st q) ≡ 0) × (times s rest ≡ 0) × (t q s ≡ 0)
  out = let a = counts_first in let b = old.ties q s in let d : if1 (not (k q s == 0)) ≡ 1 = rw found refl
      in (omega arith, omega arith, omega arith)

  -- the link that it found
  pub chain_link : k q s ≡ link_to rest
  chain_link =
      let x : Chained (k q) (o q) (s ∷ rest) = rw is at (old.chains q) in
      let y = x.0 in
      let z = no_debt out.2 in omega arith

  chained_follow : (g : ℕ) (xs : List ℕ) → (g ≡ q → times s xs ≡ 0) → Chained (k g) (o g) xs → Chained (k' g) (o' g) xs
  chained_follow g xs none x = chained_same (k g) (k' g) (o g) (o' g) xs x
      (λ i some. let z = os g i in let y = links g i (apart i some) in omega arith) where
        apart : (i : ℕ) → 0 < times i xs → ((g == q) && (i == s)) ≡ false
        apart i some = go (g == q) refl where
          go : (b : Bool) → (g == q) ≡ b → (b && (i == s)) ≡ false
          go true e = apart_item s i xs (none (eqb-true g q e)) some
          go false e = refl

  pub chains_follow : ((i : ℕ) → c' q i + if1 (s == i) ≡ c q i + first_is rest i)
      → ((g i : ℕ) → (g == q) ≡ false → c' g i ≡ c g i) → Chains h k' o' t' c' st (put ch q rest)
  chains_follow cursor_new cursors_else = record {
    tops = old.tops;
    stacks = λ g. chained_follow g (st g) (λ i. rw i out.0) (old.stacks g);
    chains = chains;
    ties = ties;
    cursors = cursors;
  } where
    chains : (g : ℕ) → Chained (k' g) (o' g) (put ch q rest g)
    chains g = go (g == q) refl where
      go : (b : Bool) → (g == q) ≡ b → Chained (k' g) (o' g) (put ch q rest g)
      go true e =
          let i = eqb-true g q e in
          let x : Chained (k q) (o q) (s ∷ rest) = rw is at (old.chains q) in
          rw (i, put_same ch q rest) (chained_follow q rest (λ _. out.1) x.1)
      go false e = rw (put_other ch q g rest e) (chained_follow g (ch g)
          (λ i. absurd (let z : (g == q) ≡ true = rw i (eq-eqb q q refl) in cc)) (old.chains g))

    ties : (g i : ℕ) → if1 (not (k' g i == 0)) + t' g i ≡ times i (st g) + times i (put ch q rest g)
    ties g i = go (g == q) (i == s) refl refl where
      go : (b d : Bool) → (g == q) ≡ b → (i == s) ≡ d → if1 (not (k' g i == 0)) + t' g i
          ≡ times i (st g) + times i (put ch q rest g)
      go true true e f =
          let a = eqb-true g q e in
          let b = eqb-true i s f in
          let x = out in
          let x0 = x.0 in
          let x1 = x.1 in
          let x2 = x.2 in
          let y = ts q s in
          rw (a, b, link_new, put_same ch q rest) (omega arith)
      go true false e f =
          let a = eqb-true g q e in
          let x = old.ties q i in
          let z : times i (ch q) ≡ times i rest = rw (is, times_cons i s rest, eqb-comm s i, f) (omega arith) in
          let y : ((q == q) && (i == s)) ≡ false = rw (eq-eqb q q refl) f in
          rw (a, links q i y, ts q i, put_same ch q rest) (omega arith)
      go false d e f = let y : ((g == q) && (i == s)) ≡ false = rw e refl
          in rw (links g i y, ts g i, put_other ch q g rest e) (old.ties g i)

    cursors : (g i : ℕ) → c' g i ≡ first_is (put ch q rest g) i
    cursors g i = go (g == q) refl where
      go : (b : Bool) → (g == q) ≡ b → c' g i ≡ first_is (put ch q rest g) i
      go true e =
          let j = eqb-true g q e in
          let x = old.cursors q i in
          let y = cursor_new i in
          let z : first_is (ch q) i ≡ if1 (s == i) = rw is refl in
          rw (j, put_same ch q rest) (omega arith)
      go false e = rw (put_other ch q g rest e) (cursors_else g i e ∙ old.cursors g i)

-- each item of a list has a link or a debt
pub chained_pos : (word owed : ℕ → ℕ) (s : ℕ) (xs : List ℕ) → Chained word owed xs → 0 < times s xs
    → 0 < word s + owed s
unfolding total
chained_pos word owed s [] x m = absurd (omega arith)
chained_pos word owed s (i ∷ xs) x m = go (i == s) refl m (λ n. chained_pos word owed s xs x.1 n) where
  go : (b : Bool) → (i == s) ≡ b → 0 < if1 b + times s xs → (0 < times s xs → 0 < word s + owed s) → 0 < word s + owed s
  go true e m rest = let j = eqb-true i s e in let y = x.0 in let f = link_to_top xs in let z : word i + owed i
      ≡ word s + owed s = ap (λ n. word n + owed n) j in omega arith
  go false e m rest = rest (omega arith)

-- what is tied has no link yet, and owes one
pub tied_owes : (h : ℕ → ℕ) (k o t c : ℕ → ℕ → ℕ) (st ch : ℕ → List ℕ) (q s : ℕ) → Chains h k o t c st ch
    → times s (st q) + times s (ch q) ≤ 1 → 0 < t q s → 0 < o q s
tied_owes h k o t c st ch q s old once tied =
    let a = old.ties q s in
    let z : k q s ≡ 0 = if1_zero (k q s) (omega arith) in
    go (times s (st q)) refl z where
      go : (n : ℕ) → times s (st q) ≡ n → k q s ≡ 0 → 0 < o q s
      go zero e z = let a = old.ties q s in let m = chained_pos (k q) (o q) s (ch q) (old.chains q) (omega arith)
          in omega arith
      go (suc n) e z = let m = chained_pos (k q) (o q) s (st q) (old.stacks q) (omega arith) in omega arith
