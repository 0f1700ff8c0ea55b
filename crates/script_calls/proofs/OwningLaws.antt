-- The calls by which a pass becomes the owner of a shard, inserts into it, and leaves it, as a run of calls sees them.
use Rattle.std.proofs.Common.{◌≡◌, ℕ, ◌+◌, ◌<◌, ◌≤◌, true, false, List, refl, sym, ap, subst, arith, Option, Some}
use Rattle.std.proofs.Common.{None, Result, Ok, Err}
use Rattle.std.specs.Prelude.{nat_le, IfOk, MatchResult}
use Rattle.std.proofs.lemmas.Bool.Decides.{nat_tests}
use Rattle.sh_value.specs.declared.refusal.Refusal.{Refusal}
use Rattle.sh_value.specs.declared.refusal.Refusal.TheVariants as refusal
use Rattle.sh_key.specs.Layout.{Layout, first_key, key_count}
use Rattle.sh_key.proofs.Packing.{keys_are_consecutive}
use Rattle.sh_pass.specs.Owners.{IsKeyIn}
use Rattle.sh_shard.specs.Pages.{ShardLeft}
use Rattle.sh_shard.specs.Shards.{Sharded, AdoptServes, LeaveServes, InsertServes}
use Rattle.sh_member.specs.SideBounds.{AdoptTakes}
use Rattle.sh_pass.specs.Passes.{Caller}
use Rattle.sh_member.specs.declared.member.Side.TheVariants.{Pass, Shard}
use Rattle.script_calls.specs.Parts.{PassPart, SeenPass, SamePass, Becomes}
use Rattle.script_calls.specs.Calls.{UnlessRefused, AdoptAnswers, PartAdopted, adopt_refusal, LeaveAnswers, PartLeft}
use Rattle.script_calls.specs.Calls.{ValueInserted, IsOwnKey}
use Rattle.script_calls.specs.Running.{part_of_caller, seen_of_caller, seen_of_shard}
use Rattle.script_calls.proofs.PlacedKeys.{unpacks, of_shard}
use Rattle.script_calls.proofs.RunningLaws.{same_of, same_unchanged}

module _ (layout : Layout) (v : Caller) where
  abbrev seen_caller : SeenPass
  seen_caller = seen_of_caller layout v

  kept : (w : Caller) → w ≡ v → SamePass seen_caller (seen_of_caller layout w)
  kept w e = same_unchanged layout v w (Pass v) (Pass w) e

  there_is : (k : ℕ) → k < v.view.shape.shards → adopt_refusal seen_caller.terms None k ≡ None
  there_is k l = let few : nat_le v.view.shape.shards k ≡ false = grind (arith, nat_tests) in rw few refl

  there_is_not : (k : ℕ) → v.view.shape.shards ≤ k
      → adopt_refusal seen_caller.terms None k ≡ Some refusal.NoShard
  there_is_not k l = let many : nat_le v.view.shape.shards k ≡ true = grind (arith, nat_tests) in rw many refl

  abbrev AdoptIs : ℕ → Result (Unit {0}) Refusal → PassPart → Option Refusal → Type 0
  AdoptIs k r w first = UnlessRefused first r (Becomes seen_caller.part w) (PartAdopted seen_caller.part k r w)

  part_as_was : (w : Caller) → ShardLeft v w → Becomes seen_caller.part (part_of_caller w (Pass w))
  part_as_was w l = λ i. record { log = l.log i; shard = None; stands = Pass w }

  -- (what is served, and in how many steps, is the contract of adopting itself)
  pub adopt_answers : (k : ℕ) (r : Result Sharded (Caller × Refusal)) → AdoptServes k v r
      → MatchResult r (λ n. AdoptTakes (Pass v) (Shard n)) (λ e. AdoptTakes (Pass v) (Pass e.0))
      → MatchResult r
      (λ n. AdoptAnswers seen_caller.terms seen_caller.part k (Ok tt) (seen_of_shard layout n).part
      × SamePass seen_caller (seen_of_shard layout n))
      (λ e. AdoptAnswers seen_caller.terms seen_caller.part k (Err e.1) (seen_of_caller layout e.0).part
      × SamePass seen_caller (seen_of_caller layout e.0))
  adopt_answers k (Ok n) h b = (
    (
      subst (AdoptIs k (Ok tt) (part_of_caller n.pages.owner (Shard n))) (sym (there_is k h.0))
          (λ i. record { log = h.1.log i; shard = Some (h.1.shard i); stands = Shard n }),
      h,
      b,
    ),
    same_of layout v n.pages.owner (Pass v) (Shard n) h.1.heap h.1.same,
  )
  adopt_answers k (Err (w, refusal.NoShard)) h b = (
    (
      subst (AdoptIs k (Err refusal.NoShard) (part_of_caller w (Pass w))) (sym (there_is_not k h.0))
          (refl, ap (λ (c : Caller). part_of_caller c (Pass w)) h.1),
      h,
      b,
    ),
    kept w h.1,
  )
  adopt_answers k (Err (w, refusal.Taken)) h b = (
    (
      subst (AdoptIs k (Err refusal.Taken) (part_of_caller w (Pass w))) (sym (there_is k h.0)) (part_as_was w h.1),
      h,
      b,
    ),
    same_of layout v w (Pass v) (Pass w) h.1.heap h.1.same,
  )
  adopt_answers k (Err (w, refusal.Memory)) h b = (
    (
      subst (AdoptIs k (Err refusal.Memory) (part_of_caller w (Pass w))) (sym (there_is k h.0)) (part_as_was w h.1),
      h,
      b,
    ),
    same_of layout v w (Pass v) (Pass w) h.1.heap h.1.same,
  )
  adopt_answers k (Err (w, _)) h b = absurd h

-- ---- an owner

module _ (layout : Layout) (o : Sharded) where
  abbrev seen_owner : SeenPass
  seen_owner = seen_of_shard layout o

  pub leave_answers : (r : Result Caller (Sharded × Refusal)) → LeaveServes o r
      → MatchResult r
      (λ w. LeaveAnswers seen_owner.part (Ok tt) (seen_of_caller layout w).part
      × SamePass seen_owner (seen_of_caller layout w))
      (λ e. LeaveAnswers seen_owner.part (Err e.1) (seen_of_shard layout e.0).part
      × SamePass seen_owner (seen_of_shard layout e.0))
  leave_answers (Ok w) h = (
    ((λ i. record { log = h.log i; shard = None; stands = Pass w }), h),
    same_of layout o.pages.owner w (Shard o) (Pass w) h.heap h.same,
  )
  leave_answers (Err (n, r)) h =
      let c = h.1.collects.through in
      let w = n.pages.owner in
      let part : Becomes seen_owner.part (part_of_caller w (Shard n)) =
      (λ i. record { log = c.log i; shard = Some (c.shard i); stands = Shard n }) in
      let L : Refusal → Type 0 = λ x. PartLeft seen_owner.part (Err x) (part_of_caller w (Shard n)) in (
        (subst L (sym h.0) part, h),
        same_of layout o.pages.owner w (Shard o) (Shard n) c.aside.heap c.aside.same,
      )

  abbrev InsertIs : List ℕ → Result ℕ Refusal → Sharded → Type 0
  InsertIs words r n = ValueInserted seen_owner.terms seen_owner.pass seen_owner.part words r
      (seen_of_shard layout n).part

  part_unchanged : (n : Sharded) → n.pages.owner.view.own.log ≡ o.pages.owner.view.own.log
      → n.pages.shard ≡ o.pages.shard → Becomes seen_owner.part (seen_of_shard layout n).part
  part_unchanged n log shard = λ i. record { log = log i; shard = Some (shard i); stands = Shard n }

  own_key : (key : ℕ) → IsKeyIn layout o.pages.owner o.pages.shard key
      → IsOwnKey seen_owner.terms seen_owner.part.shard key
  own_key key k = record {
    own = of_shard layout o.pages.owner.view.shape key o.pages.shard k.0 k.1 k.2;
    small = ((keys_are_consecutive layout key).0 (unpacks layout o.pages.owner.view.shape key k.0 k.1)).1;
  }

  pub insert_answers : (c : ℕ) (words : List ℕ) (r : Result ℕ Refusal) (n : Sharded) → InsertServes layout c words o r n
      → InsertIs words r n × SamePass seen_owner (seen_of_shard layout n)
  insert_answers c words (Ok key) n h = (
    (own_key key h.1, λ i. record { log = h.0.log i; shard = Some (h.0.shard i); stands = Shard n }),
    same_of layout o.pages.owner n.pages.owner (Shard o) (Shard n) h.0.aside.heap h.0.aside.same,
  )
  insert_answers c words (Err refusal.Full) n h =
      let t = h.left.through in (
        part_unchanged n t.log t.shard,
        same_of layout o.pages.owner n.pages.owner (Shard o) (Shard n) t.aside.heap t.aside.same,
      )
  insert_answers c words (Err refusal.Memory) n h = (
    part_unchanged n h.0.log h.0.shard,
    same_of layout o.pages.owner n.pages.owner (Shard o) (Shard n) h.0.aside.heap h.0.aside.same,
  )
  insert_answers c words (Err _) n h = absurd h

  pub key_is_small : (c : ℕ) (words : List ℕ) (r : Result ℕ Refusal) (n : Sharded) → InsertServes layout c words o r n
      → IfOk r (λ key. key < first_key layout + key_count layout)
  key_is_small c words (Ok key) n h = (own_key key h.1).small
  key_is_small c words (Err e) n h = tt
