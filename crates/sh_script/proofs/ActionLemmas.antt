-- Words that are read as an action are the words of that action.
use Rattle.std.proofs.Common.{◌≡◌, ℕ, ◌+◌, ◌-◌, ◌^◌, ◌<◌, ◌≤◌, ◌==◌, nat_lt, zero, suc, false, List, [], ◌∷◌, ◌++◌}
use Rattle.std.proofs.Common.{length, Option, Some, None, Ok, inl, inr, codes, decimal, refl, sym, ap, ap₂, subst, ◌∙◌}
use Rattle.std.proofs.Common.{arith, ltb-false, ne_eqb}
use Rattle.std.specs.Str.{bytes_eq}
use Rattle.std.proofs.lemmas.List.{length-map}
use Rattle.std.proofs.lemmas.Slice.Eq.{bytes_eq-Decides}
use Rattle.sh_step.specs.Kinds.{kind_name}
use Rattle.sh_step.specs.declared.action.Action.{Action}
use Rattle.sh_step.specs.declared.action.Action.TheVariants as action
use Rattle.sh_step.specs.declared.action.PageName.{PageName}
use Rattle.sh_step.specs.declared.kind.ActionKind.{ActionKind}
use Rattle.sh_step.specs.declared.kind.ActionKind.TheVariants as kind
use Rattle.sh_step.proofs.ListLaws.{none_left}
use Rattle.sh_script.specs.Words.{Word}
use Rattle.sh_script.specs.Trouble.{◌>>=◌}
use Rattle.sh_script.specs.Arguments.{two_of}
use Rattle.sh_script.specs.Meaning.{IsPage}
use Rattle.sh_script.specs.EventLines.{number_alone, page_alone, bare, enter_of, drop_of, put_of, fill_of, part_of}
use Rattle.sh_script.specs.EventLines.{read_by, read_of, set_class_of, action_of}
use Rattle.sh_script.specs.EventMeaning.{IsWithNumber, IsReadKey, IsAction}
use Rattle.sh_script.proofs.NumberLemmas.{number_is}
use Rattle.sh_script.proofs.ArgumentLemmas.{numbers_are}
use Rattle.sh_script.proofs.PlaceLemmas.{page_is, slot_is}
use Rattle.sh_script.proofs.Steps.{bind_ok, or_ok, ok_is, if_cases, if_read, else_ok, next_ok, only_ok}
use Rattle.sh_script.proofs.Steps.{two_is, none_is}

-- ---- the arguments

record IsNumberAlone (ws : List Word) (n : ℕ) : Type 0 where
  says : ws ≡ decimal n ∷ []
  small : n < 2 ^ 64

alone_is : (ws : List Word) (n : ℕ) → number_alone ws ≡ Ok n → IsNumberAlone ws n
alone_is ws n e =
    let a = bind_ok _ _ n e in
    let h = number_is a.0 n (or_ok _ _ _ a.2) in
    record { says = only_ok ws a.0 a.1 ∙ ap (λ w. w ∷ []) h.digits; small = h.small }

-- an action of a number
number_action : (front ws : List Word) (f : ℕ → Action) (a : Action)
    → ((n : ℕ) (words : List Word) → IsWithNumber front words n → IsAction words (f n))
    → (number_alone ws >>= λ n. Ok (f n)) ≡ Ok a
    → IsAction (front ++ ws) a
number_action front ws f a means e =
    let x = bind_ok _ _ a e in
    let n = alone_is ws x.0 x.1 in
    subst (IsAction (front ++ ws)) (ok_is (f x.0) a x.2) (means x.0 (front ++ ws)
    (record { says = ap (λ xs. front ++ xs) n.says; small = n.small }))

record IsPageAlone (ws : List Word) (page : PageName) : Type 0 where
  place : Word
  says : ws ≡ place ∷ []
  is : IsPage place page

page_alone_is : (ws : List Word) (page : PageName) → page_alone ws ≡ Ok page → IsPageAlone ws page
page_alone_is ws page e = let a = bind_ok _ _ page e in record
    { place = a.0; says = only_ok ws a.0 a.1; is = page_is a.0 page a.2 }

-- ---- the kinds that have arguments

enter_is : (ws : List Word) (a : Action) → enter_of ws ≡ Ok a → IsAction (codes "Enter" ∷ ws) a
unfolding enter_of
enter_is ws a e =
    let x = bind_ok _ _ a e in
    let whole : ws ≡ (x.0).0 ∷ (x.0).1 = next_ok _ ws x.0 x.1 in
    let P : List Word → Type 0 = λ xs. IsAction (codes "Enter" ∷ xs) a in
    subst P (sym whole)
    (elim (if_cases (bytes_eq (x.0).0 (codes "get")) _ _ (Ok a) x.2) [
      | inl h ↦
          let way : (x.0).0 ≡ codes "get" = (bytes_eq-Decides _ _).0 h.0 in
          let Q : Word → Type 0 = λ w. IsAction (codes "Enter" ∷ w ∷ (x.0).1) a in
          subst Q (sym way) (number_action (codes "Enter" ∷ codes "get" ∷ []) (x.0).1 (λ n. action.EnterGet n) a
          (λ n words h. h) h.1)
      | inr h ↦
          let k = if_read (bytes_eq (x.0).0 (codes "remove")) _ _ a h.1 in
          let way : (x.0).0 ≡ codes "remove" = (bytes_eq-Decides _ _).0 k.0 in
          let Q : Word → Type 0 = λ w. IsAction (codes "Enter" ∷ w ∷ (x.0).1) a in
          subst Q (sym way) (number_action (codes "Enter" ∷ codes "remove" ∷ []) (x.0).1 (λ n. action.EnterRemove n) a
          (λ n words h. h) k.1)
    ])

drop_is : (ws : List Word) (a : Action) → drop_of ws ≡ Ok a → IsAction (codes "Drop" ∷ ws) a
unfolding drop_of
drop_is ws a e =
    elim (if_cases (length ws == 0) _ _ (Ok a) e) [
      | inl h ↦ subst (IsAction (codes "Drop" ∷ ws)) (ok_is action.Drop a h.1)
          (ap (λ xs. codes "Drop" ∷ xs) (none_left ws h.0))
      | inr h ↦ number_action (codes "Drop" ∷ []) ws (λ n. action.DropHold n) a (λ n words h. h) h.1
    ]

put_is : (ws : List Word) (a : Action) → put_of ws ≡ Ok a → IsAction (codes "Put" ∷ ws) a
unfolding put_of
put_is ws a e =
    elim (if_cases (length ws == 0) _ _ (Ok a) e) [
      | inl h ↦ subst (IsAction (codes "Put" ∷ ws)) (ok_is action.Put a h.1)
          (ap (λ xs. codes "Put" ∷ xs) (none_left ws h.0))
      | inr h ↦
          let w = bind_ok _ _ a h.1 in
          let s = bind_ok _ _ a w.2 in
          subst (IsAction (codes "Put" ∷ ws)) (ok_is (action.PutSlot s.0) a s.2)
          (record { place = w.0; says = ap (λ xs. codes "Put" ∷ xs) (only_ok ws w.0 w.1); is = slot_is w.0 s.0 s.1 })
    ]

fill_is : (ws : List Word) (a : Action) → fill_of ws ≡ Ok a → IsAction (codes "Fill" ∷ ws) a
unfolding fill_of
fill_is [] a e = subst (IsAction (codes "Fill" ∷ [])) (ok_is action.Fill a e) refl
fill_is (w ∷ ws) a e =
    let few = else_ok (nat_lt 16 (length ws)) _ _ a e in
    let s = bind_ok _ _ a few.1 in
    let v = bind_ok _ _ a s.2 in
    let n = numbers_are ws [] v.0 v.1 in
    let count : length ws ≡ length n.value = ap length n.says ∙ length-map n.value decimal in
    let short : length ws ≤ 16 = ltb-false _ _ few.0 in
    let same : action.FillSlot s.0 n.value ≡ a = ap (λ xs. action.FillSlot s.0 xs) (sym n.is)
    ∙ ok_is (action.FillSlot s.0 v.0) a v.2 in
    subst (IsAction (codes "Fill" ∷ w ∷ ws)) same
    (record {
      place = w;
      says = ap (λ xs. codes "Fill" ∷ w ∷ xs) n.says;
      is = slot_is w s.0 s.1;
      few = omega
          (arith, count, short);
      small = n.small;
    })

above_zero : (i : ℕ) → (suc (suc i) == 0) ≡ false
above_zero i = ne_eqb (suc (suc i)) 0 (λ e. omega (arith, e))

above_one : (i : ℕ) → (suc (suc i) == 1) ≡ false
above_one i = ne_eqb (suc (suc i)) 1 (λ e. omega (arith, e))

part_is : (words : List Word) (k j : ℕ) → IsReadKey words k j → IsAction words (part_of k j)
part_is words k zero x = x
part_is words k (suc zero) x = x
part_is words k (suc (suc i)) x =
    let two : 2 + (suc (suc i) - 2) ≡ suc (suc i) = omega arith in
    let P : ℕ → Type 0 = λ j. IsReadKey words k j in
    rw (above_zero i, above_one i) (subst P (sym two) x)

read_by_is : (o : Option (Word × Word)) (ws : List Word) (a : Action)
    → ((p : Word × Word) → o ≡ Some p → ws ≡ p.0 ∷ p.1 ∷ []) → read_by o ws ≡ Ok a → IsAction (codes "Read" ∷ ws) a
read_by_is None ws a two e =
    let p = bind_ok _ _ a e in
    let x = page_alone_is ws p.0 p.1 in
    subst (IsAction (codes "Read" ∷ ws)) (ok_is (action.ReadPage p.0) a p.2)
    (record { place = x.place; says = ap (λ xs. codes "Read" ∷ xs) x.says; is = x.is })
read_by_is (Some p) ws a two e =
    let k = bind_ok _ _ a e in
    let j = bind_ok _ _ a k.2 in
    let key = number_is p.0 k.0 (or_ok _ _ _ k.1) in
    let part = number_is p.1 j.0 (or_ok _ _ _ j.1) in
    subst (IsAction (codes "Read" ∷ ws)) (ok_is (part_of k.0 j.0) a j.2)
    (part_is (codes "Read" ∷ ws) k.0 j.0
    (record {
      says = ap (λ xs. codes "Read" ∷ xs) (two p refl) ∙ ap₂ (λ (x y : Word). codes "Read" ∷ x ∷ y ∷ [])
          key.digits part.digits;
      key_small = key.small;
      part_small = part.small;
    }))

read_is : (ws : List Word) (a : Action) → read_of ws ≡ Ok a → IsAction (codes "Read" ∷ ws) a
unfolding read_of
read_is ws a e = read_by_is (two_of ws) ws a (two_is ws) e

set_class_is : (ws : List Word) (a : Action) → set_class_of ws ≡ Ok a → IsAction (codes "SetClass" ∷ ws) a
unfolding set_class_of
set_class_is ws a e =
    let p = bind_ok _ _ a e in
    let page = bind_ok _ _ a p.2 in
    let class = bind_ok _ _ a page.2 in
    let number = number_is (p.0).1 class.0 (or_ok _ _ _ class.1) in
    let two : ws ≡ (p.0).0 ∷ (p.0).1 ∷ [] = two_is ws p.0 (or_ok _ _ _ p.1) in
    subst (IsAction (codes "SetClass" ∷ ws)) (ok_is (action.SetClass page.0 class.0) a class.2)
    (record {
      place = (p.0).0;
      says = ap (λ xs. codes "SetClass" ∷ xs) two
          ∙ ap (λ w. codes "SetClass" ∷ (p.0).0 ∷ w ∷ []) number.digits;
      is = page_is (p.0).0 page.0 page.1;
      small =
          number.small;
    })

bare_is : (name : Word) (ws : List Word) (a b : Action) → bare a ws ≡ Ok b → (name ∷ ws ≡ name ∷ []) × (a ≡ b)
bare_is name ws a b e = let x = bind_ok _ _ b e in (ap (λ xs. name ∷ xs) (none_is ws x.0 x.1), ok_is a b x.2)

page_action : (name : Word) (ws : List Word) (f : PageName → Action) (a : Action)
    → ((page : PageName) → IsPageAlone ws page → IsAction (name ∷ ws) (f page)) → (page_alone ws >>= λ p. Ok (f p))
    ≡ Ok a
    → IsAction (name ∷ ws) a
page_action name ws f a means e =
    let p = bind_ok _ _ a e in
    subst (IsAction (name ∷ ws)) (ok_is (f p.0) a p.2) (means p.0 (page_alone_is ws p.0 p.1))

-- ---- the action

pub action_is : (k : ActionKind) (ws : List Word) (a : Action) → action_of k ws ≡ Ok a → IsAction (kind_name k ∷ ws) a
unfolding action_of
action_is kind.Enter ws a e = enter_is ws a e
action_is kind.Mark ws a e = let x = bare_is (codes "Mark") ws action.Mark a e
    in subst (IsAction (codes "Mark" ∷ ws)) x.1 x.0
action_is kind.Drop ws a e = drop_is ws a e
action_is kind.Finish ws a e = let x = bare_is (codes "Finish") ws action.Finish a e
    in subst (IsAction (codes "Finish" ∷ ws)) x.1 x.0
action_is kind.Fill ws a e = fill_is ws a e
action_is kind.Publish ws a e = let x = bare_is (codes "Publish") ws action.Publish a e
    in subst (IsAction (codes "Publish" ∷ ws)) x.1 x.0
action_is kind.Read ws a e = read_is ws a e
action_is kind.SetClass ws a e = set_class_is ws a e
action_is kind.Take ws a e = page_action (codes "Take") ws (λ p. action.Take p) a
    (λ p x. record { place = x.place; says = ap (λ xs. codes "Take" ∷ xs) x.says; is = x.is }) e
action_is kind.Follow ws a e = page_action (codes "Follow") ws (λ p. action.Follow p) a
    (λ p x. record { place = x.place; says = ap (λ xs. codes "Follow" ∷ xs) x.says; is = x.is }) e
action_is kind.Put ws a e = put_is ws a e
action_is kind.Tie ws a e = let x = bare_is (codes "Tie") ws action.Tie a e
    in subst (IsAction (codes "Tie" ∷ ws)) x.1 x.0
action_is kind.Adopt ws a e = number_action (codes "Adopt" ∷ []) ws (λ n. action.Adopt n) a (λ n words h. h) e
action_is kind.Leave ws a e = let x = bare_is (codes "Leave") ws action.Leave a e
    in subst (IsAction (codes "Leave" ∷ ws)) x.1 x.0
action_is kind.Arm ws a e = page_action (codes "Arm") ws (λ p. action.Arm p) a
    (λ p x. record { place = x.place; says = ap (λ xs. codes "Arm" ∷ xs) x.says; is = x.is }) e
action_is kind.Ring ws a e = let x = bare_is (codes "Ring") ws action.Ring a e
    in subst (IsAction (codes "Ring" ∷ ws)) x.1 x.0
action_is kind.RingTie ws a e = let x = bare_is (codes "RingTie") ws action.RingTie a e
    in subst (IsAction (codes "RingTie" ∷ ws)) x.1 x.0
action_is kind.TakeBell ws a e = let x = bare_is (codes "TakeBell") ws action.TakeBell a e
    in subst (IsAction (codes "TakeBell" ∷ ws)) x.1 x.0
action_is kind.FollowBell ws a e = let x = bare_is (codes "FollowBell") ws action.FollowBell a e
    in subst (IsAction (codes "FollowBell" ∷ ws)) x.1 x.0
