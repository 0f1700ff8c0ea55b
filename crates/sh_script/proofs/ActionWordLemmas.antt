-- The words of an action are read as that action.
use Rattle.std.proofs.Common.{◌≡◌, ◌+◌, ◌-◌, ◌≤◌, ◌==◌, false, List, [], ◌∷◌, length, map, Ok, codes, decimal, refl}
use Rattle.std.proofs.Common.{ap, arith, le-ltb, ne_eqb}
use Rattle.std.proofs.lemmas.List.{length-map}
use Rattle.sh_step.specs.Kinds.{kind_name}
use Rattle.sh_step.specs.declared.action.Action.{Action}
use Rattle.sh_step.specs.declared.action.Action.TheVariants as action
use Rattle.sh_step.specs.declared.kind.ActionKind.{ActionKind}
use Rattle.sh_step.specs.declared.kind.ActionKind.TheVariants as kind
use Rattle.sh_script.specs.Words.{Word}
use Rattle.sh_script.specs.EventLines.{enter_of, drop_of, put_of, fill_of, read_of, set_class_of, action_of}
use Rattle.sh_script.specs.EventMeaning.{IsAction}
use Rattle.sh_script.proofs.NumberLemmas.{number_of_decimal}
use Rattle.sh_script.proofs.ArgumentLemmas.{numbers_give}
use Rattle.sh_script.proofs.PlaceLemmas.{page_gives, slot_gives}
use Rattle.sh_script.proofs.Steps.{ok_of}

pub record IsActionRead (words : List Word) (a : Action) : Type 0 where
  pub kind : ActionKind
  pub others : List Word
  pub says : words ≡ kind_name kind ∷ others
  pub reads : action_of kind others ≡ Ok a

pub action_gives : (words : List Word) (a : Action) → IsAction words a → IsActionRead words a
unfolding action_of enter_of drop_of put_of fill_of read_of set_class_of
action_gives words (action.EnterGet k) x = record {
  kind = kind.Enter;
  others = codes "get" ∷ decimal k ∷ [];
  says =
      x.says;
  reads = rw (number_of_decimal k x.small) refl;
}
action_gives words (action.EnterRemove k) x = record {
  kind = kind.Enter;
  others = codes "remove" ∷ decimal k ∷ [];
  says = x.says;
  reads = rw (number_of_decimal k x.small) refl;
}
action_gives words action.Mark x = record { kind = kind.Mark; others = []; says = x; reads = refl }
action_gives words action.Drop x = record { kind = kind.Drop; others = []; says = x; reads = refl }
action_gives words (action.DropHold k) x = record {
  kind = kind.Drop;
  others = decimal k ∷ [];
  says = x.says;
  reads = rw
      (number_of_decimal k x.small) refl;
}
action_gives words action.Finish x = record { kind = kind.Finish; others = []; says = x; reads = refl }
action_gives words (action.FillSlot slot value) x =
    let count : length (map decimal value) ≡ length value = length-map value decimal in
    let short : length (map decimal value) ≤ 16 = omega (arith, count, x.few) in
    record {
      kind = kind.Fill;
      others = x.place ∷ map decimal value;
      says = x.says;
      reads = rw
          (le-ltb _ _ short, slot_gives x.place slot x.is, numbers_give value [] x.small) refl;
    }
action_gives words action.Fill x = record { kind = kind.Fill; others = []; says = x; reads = refl }
action_gives words action.Publish x = record { kind = kind.Publish; others = []; says = x; reads = refl }
action_gives words (action.ReadClass k) x = record {
  kind = kind.Read;
  others = decimal k ∷ decimal 0 ∷ [];
  says =
      x.says;
  reads = rw (number_of_decimal k x.key_small, number_of_decimal 0 x.part_small) refl;
}
action_gives words (action.ReadLength k) x = record {
  kind = kind.Read;
  others = decimal k ∷ decimal 1 ∷ [];
  says =
      x.says;
  reads = rw (number_of_decimal k x.key_small, number_of_decimal 1 x.part_small) refl;
}
action_gives words (action.ReadWord k i) x =
    let back : (2 + i) - 2 ≡ i = omega arith in
    let zero_not : (2 + i == 0) ≡ false = ne_eqb (2 + i) 0 (λ e. omega (arith, e)) in
    let one_not : (2 + i == 1) ≡ false = ne_eqb (2 + i) 1 (λ e. omega (arith, e)) in
    record {
      kind = kind.Read;
      others = decimal k ∷ decimal (2 + i) ∷ [];
      says = x.says;
      reads = rw (number_of_decimal k x.key_small, number_of_decimal (2 + i) x.part_small, zero_not, one_not)
          (ap (λ n. ok_of (action.ReadWord k n)) back);
    }
action_gives words (action.ReadPage page) x = record {
  kind = kind.Read;
  others = x.place ∷ [];
  says = x.says;
  reads =
      rw (page_gives x.place page x.is) refl;
}
action_gives words (action.SetClass page class) x = record {
  kind = kind.SetClass;
  others = x.place ∷ decimal class ∷
      [];
  says = x.says;
  reads = rw (page_gives x.place page x.is, number_of_decimal class x.small) refl;
}
action_gives words (action.Take page) x = record {
  kind = kind.Take;
  others = x.place ∷ [];
  says = x.says;
  reads = rw
      (page_gives x.place page x.is) refl;
}
action_gives words (action.Follow page) x = record {
  kind = kind.Follow;
  others = x.place ∷ [];
  says = x.says;
  reads =
      rw (page_gives x.place page x.is) refl;
}
action_gives words action.Put x = record { kind = kind.Put; others = []; says = x; reads = refl }
action_gives words (action.PutSlot slot) x = record {
  kind = kind.Put;
  others = x.place ∷ [];
  says = x.says;
  reads = rw
      (slot_gives x.place slot x.is) refl;
}
action_gives words action.Tie x = record { kind = kind.Tie; others = []; says = x; reads = refl }
action_gives words (action.Adopt n) x = record {
  kind = kind.Adopt;
  others = decimal n ∷ [];
  says = x.says;
  reads = rw
      (number_of_decimal n x.small) refl;
}
action_gives words action.Leave x = record { kind = kind.Leave; others = []; says = x; reads = refl }
action_gives words (action.Arm page) x = record {
  kind = kind.Arm;
  others = x.place ∷ [];
  says = x.says;
  reads = rw
      (page_gives x.place page x.is) refl;
}
action_gives words action.Ring x = record { kind = kind.Ring; others = []; says = x; reads = refl }
action_gives words action.RingTie x = record { kind = kind.RingTie; others = []; says = x; reads = refl }
action_gives words action.TakeBell x = record { kind = kind.TakeBell; others = []; says = x; reads = refl }
action_gives words action.FollowBell x = record { kind = kind.FollowBell; others = []; says = x; reads = refl }
action_gives words action.ReadEnding x = absurd x
action_gives words (action.Peek slot) x = absurd x
action_gives words (action.Look k) x = absurd x
action_gives words action.LookOn x = absurd x
action_gives words action.LookAgain x = absurd x
