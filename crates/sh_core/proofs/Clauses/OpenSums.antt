-- All that is kept holds as the heap opens.
use Rattle.std.proofs.Common.{◌≡◌, ℕ, zero, suc, ◌+◌, ◌^◌, ◌≤◌, length, refl, subst, arith, Some, None, slice_get}
use Rattle.std.proofs.Common.{replicate}
use Rattle.std.proofs.lemmas.List.{length-replicate}
use Rattle.sh_word.specs.Fields.{fields_of}
use Rattle.sh_step.specs.Plans.{Plan, Lawful}
use Rattle.sh_step.specs.Collections.{total}
use Rattle.sh_step.specs.declared.body.Body.{Body}
use Rattle.sh_core.specs.Worlds.{open_world}
use Rattle.sh_step.specs.Parts.{newcomer}
use Rattle.sh_core.specs.Lists.{no_lists, mine_at, in_hand, times}
use Rattle.sh_core.specs.Tallies.{held, visits, lost}
use Rattle.sh_core.specs.Stories.{values}
use Rattle.sh_core.specs.Sums.{Sums, FillAgrees}

pub none_new : (f : Body → ℕ) (n : ℕ) → f newcomer ≡ 0 → total f (replicate n newcomer) ≡ 0
unfolding total
none_new f zero h = refl
none_new f (suc n) h = let r = none_new f n h in omega arith

pub part_new : (n a : ℕ) (p : Body) → slice_get (replicate n newcomer) a ≡ Some p → newcomer ≡ p
part_new zero a p e = absurd (let z : None ≡ Some p = e in cc)
part_new (suc n) zero p e = cc
part_new (suc n) (suc a) p e = part_new n a p e

pub sums_open : (plan : Plan) → Lawful plan → Sums plan (open_world plan) no_lists
unfolding total fields_of values
sums_open plan laws = record {
  legal = tt;
  slots = λ x.
      let a = none_new (mine_at x) plan.passes refl in
      let b = none_new (in_hand x) plan.passes refl in
      let c = none_new (held plan x) plan.passes refl in
      let d = none_new (visits plan x) plan.passes refl in
      let e = none_new (lost plan x (fields_of (2 ^ 32))) plan.passes refl in
      record { kinds = omega arith; counts = omega arith; none_lost = e; owed = λ p m n. cc };
  keys = λ k n h. let g = laws.begins k n h in record {
    before = λ c. absurd (omega arith);
    value = λ c d. cc;
    fresh = λ
        c d. refl;
    mark = λ c. refl;
    later = λ c. (refl, refl);
  };
  holds = λ a p h k. let e = part_new plan.passes a p h in let P : Body → Type 0 = λ q. 0 ≡ 0 + times k q.holds
      in subst P e (omega arith);
  all_holds = λ k. let z = none_new (λ p. times k p.holds) plan.passes refl in omega arith;
  parts = λ a p h. let e = part_new plan.passes a p h in let P : Body → Type 0 = λ q. (length q.holds ≤ 16)
      × FillAgrees (open_world plan).words q q.hand in subst P e (omega arith, tt);
  passes = length-replicate plan.passes newcomer;
}
