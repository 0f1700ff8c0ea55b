-- The words of a call are read as that call, and no others are.
use Rattle.std.proofs.Common.{◌≡◌, ℕ, ◌+◌, ◌==◌, Bool, true, false, List, [], ◌∷◌, map, take, drop, slice_get, cond}
use Rattle.std.proofs.Common.{Option, Some, None, Ok, inl, inr, codes, decimal, slice_index, refl, sym, ap, subst, ◌∙◌}
use Rattle.std.proofs.Common.{arith, eqb-true, ne_eqb, lt-ltb}
use Rattle.std.specs.List.{Contains}
use Rattle.std.specs.Str.{bytes_eq}
use Rattle.std.proofs.lemmas.Slice.Eq.{bytes_eq-Decides}
use Rattle.std.proofs.lemmas.Option.{same_Some}
use Rattle.sh_script.specs.Words.{Word, is_name}
use Rattle.sh_script.specs.Names.{Binding, names_of}
use Rattle.sh_script.specs.CallLines.{found_of, has_key, key_from, keyed_of, reference_of, new_name, command_of}
use Rattle.sh_script.specs.CallLines.{about_of, call_of, line_of, CallsSoFar, with_call, call_added}
use Rattle.sh_script.specs.Meaning.{IsName}
use Rattle.sh_script.specs.CallMeaning.{IsNewName, IsBoundName, IsReference, IsAbout, IsCall, IsCallLine, SaysCall}
use Rattle.sh_script.specs.declared.calls.Reference.{Reference}
use Rattle.sh_script.specs.declared.calls.Reference.TheVariants as reference
use Rattle.sh_script.specs.declared.names.Binder.{Binder}
use Rattle.sh_script.specs.declared.names.Binder.TheVariants as binder
use Rattle.sh_script.specs.declared.names.Found.{Found}
use Rattle.sh_script.specs.declared.call.Command.{Command}
use Rattle.sh_script.specs.declared.call.Command.TheVariants as command
use Rattle.sh_script.specs.declared.calls.Call.{Call}
use Rattle.sh_script.specs.declared.calls.Call.TheVariants as call
use Rattle.sh_script.specs.declared.calls.CallLine.{CallLine}
use Rattle.sh_script.proofs.NumberLemmas.{number_is, number_gives, number_of_decimal}
use Rattle.sh_script.proofs.NameLemmas.{name_is, name_gives}
use Rattle.sh_script.proofs.FindLemmas.{find_is, find_none, find_gives, find_gives_none}
use Rattle.sh_script.proofs.ArgumentLemmas.{numbers_are, numbers_give}
use Rattle.sh_script.proofs.Steps.{bind_ok, or_ok, ok_is, if_cases, if_ok, if_read, else_ok, ok_of, not_false}
use Rattle.sh_script.proofs.Steps.{none_of_some, next_ok, pass_at_ok, only_ok, none_is, Agrees}

-- ---- what a word refers to

pub found_is : (names : List Binding) (word : Word) (f : Found) → found_of names word ≡ Ok f
    → IsBoundName names word f.place f.by
unfolding found_of
found_is names word f e =
    let k = if_read (is_name word) _ _ f e in
    let x = find_is names 0 word f (or_ok _ _ _ k.1) in
    let there : x.index ≡ f.place = omega (arith, x.place) in
    record {
      is_name = name_is word k.0;
      stands = ap (slice_get names) (sym there) ∙ x.stands;
      first = subst (λ i. ¬ Contains (names_of (take i names)) word) there x.first;
    }

pub found_gives : (names : List Binding) (word : Word) (i : ℕ) (by : Binder) → IsBoundName names word i by
    → found_of names word ≡ Ok (record { place = i; by = by })
unfolding found_of
found_gives names word i by x =
    let start : 0 + i ≡ i = omega arith in
    rw (name_gives word x.is_name, find_gives names 0 i word by x.stands x.first)
    (ap (λ k. ok_of {A = Found} (record { place = k; by = by })) start)

key_word : (word : Word) → (slice_index word 0 == 35) ≡ true → word ≡ 35 ∷ drop 1 word
key_word [] e = cc
key_word (b ∷ bs) e = let h : b ≡ 35 = eqb-true _ _ e in ap (λ x. x ∷ bs) h

has_key_is : (by : Binder) → has_key by ≡ true → by ≡ binder.Insert
has_key_is binder.Insert e = refl
has_key_is binder.Post e = cc

pub reference_is : (names : List Binding) (word : Word) (r : Reference) → reference_of names word ≡ Ok r
    → IsReference names word r
unfolding reference_of
reference_is names word r e =
    elim (if_cases (slice_index word 0 == 35) (key_from word) (keyed_of names word) (Ok r) e) [
      | inl h ↦
          let a = bind_ok _ _ r h.1 in
          let same : reference.Key a.0 ≡ r = ok_is (reference.Key a.0) r a.2 in
          subst (IsReference names word) same (record {
            digits = drop 1 word;
            is = key_word word h.0;
            key_is = number_is
                _ _ (or_ok _ _ _ a.1);
          })
      | inr h ↦
          let a = bind_ok _ _ r h.1 in
          let k = if_ok (has_key (a.0).by) _ _ _ a.2 in
          let x = found_is names word a.0 a.1 in
          subst (IsReference names word) k.1 (subst (IsBoundName names word (a.0).place) (has_key_is (a.0).by k.0) x)
    ]

no_key_word : (word : Word) → IsName word → (slice_index word 0 == 35) ≡ false
no_key_word word h = let low = h.letter in ap (λ w. slice_index w 0 == 35) h.is
    ∙ ne_eqb h.first 35 (λ e. omega (arith, e, low.from_a))

pub reference_gives : (names : List Binding) (word : Word) (r : Reference) → IsReference names word r
    → reference_of names word ≡ Ok r
unfolding reference_of
reference_gives names word (reference.Key k) x = ap (reference_of names) x.is
    ∙ rw (number_gives x.digits k x.key_is) refl
reference_gives names word (reference.Name i) x = rw (
  no_key_word word x.is_name,
  found_gives names word i binder.Insert
      x,
) refl

-- ---- a new name, and the numbers of a value

record IsNew (names : List Binding) (word name : Word) : Type 0 where
  same : word ≡ name
  is_new : IsNewName names word

new_name_is : (names : List Binding) (word name : Word) → new_name names word ≡ Ok name → IsNew names word name
unfolding new_name
new_name_is names word name e =
    let a = else_ok _ _ _ _ e in
    let b = else_ok _ _ _ _ a.1 in
    record {
      same = ok_is word name b.1;
      is_new = record {
        is_name = name_is word (not_false _ a.0);
        new = find_none
            names 0 word (none_of_some _ b.0);
      };
    }

new_name_gives : (names : List Binding) (name : Word) → IsNewName names name → new_name names name ≡ Ok name
unfolding new_name
new_name_gives names name h = rw (name_gives name h.is_name, find_gives_none names 0 name h.new) refl

-- ---- the command

abbrev spelled : Command → Word
spelled command.Adopt = codes "adopt"
spelled command.Leave = codes "leave"
spelled command.Insert = codes "insert"
spelled command.Get = codes "get"
spelled command.Read = codes "read"
spelled command.Remove = codes "remove"
spelled command.Release = codes "release"
spelled command.Post = codes "post"
spelled command.Wait = codes "wait"

pick : (w v : Word) (c k : Command) (rest : Option Command) → cond (bytes_eq w v) (Some c) rest ≡ Some k → v ≡ spelled c
    → (rest ≡ Some k → w ≡ spelled k) → w ≡ spelled k
pick w v c k rest e s next = by (bytes_eq w v) refl e
  where
    by : (t : Bool) → bytes_eq w v ≡ t → cond t (Some c) rest ≡ Some k → w ≡ spelled k
    by true h e = (bytes_eq-Decides w v).0 h ∙ s ∙ ap spelled (same_Some c k e)
    by false h e = next e

command_is : (w : Word) (k : Command) → command_of w ≡ Some k → w ≡ spelled k
command_is w k e =
    pick w _ command.Adopt k _ e refl (λ e. pick w _ command.Leave k _ e refl
    (λ e. pick w _ command.Insert k _ e refl (λ e. pick w _ command.Get k _ e refl
    (λ e. pick w _ command.Read k _ e refl (λ e. pick w _ command.Remove k _ e refl
    (λ e. pick w _ command.Release k _ e refl (λ e. pick w _ command.Post k _ e refl
    (λ e. pick w _ command.Wait k _ e refl (λ e. cc)))))))))

command_gives : (k : Command) → command_of (spelled k) ≡ Some k
command_gives command.Adopt = refl
command_gives command.Leave = refl
command_gives command.Insert = refl
command_gives command.Get = refl
command_gives command.Read = refl
command_gives command.Remove = refl
command_gives command.Release = refl
command_gives command.Post = refl
command_gives command.Wait = refl

-- ---- the call

abbrev Called : Type 0
Called = Call × Option Binding

is_pair : (c d : Call) (o p : Option Binding) → ok_of {A = Called} (c, o) ≡ ok_of {A = Called} (d, p) → (c ≡ d)
    × (p ≡ o)
is_pair c d o p e = let h = ok_is {A = Called} (c, o) (d, p) e in
    (ap (λ (x : Called). x.0) h, sym (ap (λ (x : Called). x.1) h))

about_is : (names : List Binding) (command : Word) (ws : List Word) (r : Reference) (binds : Option Binding)
    → about_of names ws ≡ Ok r → binds ≡ None → IsAbout command names (command ∷ ws) r binds
unfolding about_of
about_is names command ws r binds e none =
    let a = bind_ok _ _ _ e in
    record {
      word = a.0;
      says = ap (λ xs. command ∷ xs) (only_ok ws a.0 a.1);
      about = reference_is names a.0 r a.2;
      binds_none = none;
    }

about_gives : (names : List Binding) (word : Word) (r : Reference) → IsReference names word r
    → about_of names (word ∷ []) ≡ Ok r
unfolding about_of
about_gives names word r x = reference_gives names word r x

call_is : (names : List Binding) (k : Command) (ws : List Word) (c : Call) (binds : Option Binding) → call_of names k ws
    ≡ Ok (c, binds) → IsCall names (spelled k ∷ ws) c binds
unfolding call_of
call_is names command.Adopt ws c binds e =
    let a = bind_ok _ _ _ e in
    let b = bind_ok _ _ _ a.2 in
    let n = number_is _ _ (or_ok _ _ _ b.1) in
    let p = is_pair (call.Adopt b.0) c None binds b.2 in
    subst (λ x. IsCall names (codes "adopt" ∷ ws) x binds) p.0
    (record {
      says = ap (λ xs. codes "adopt" ∷ xs) (only_ok ws a.0 a.1 ∙ ap (λ x. x ∷ []) n.digits);
      small = n.small;
      binds_none = p.1;
    })
call_is names command.Leave ws c binds e =
    let a = bind_ok _ _ _ e in
    let p = is_pair call.Leave c None binds a.2 in
    subst (λ x. IsCall names (codes "leave" ∷ ws) x binds) p.0
    (record { says = ap (λ xs. codes "leave" ∷ xs) (none_is ws a.0 a.1); binds_none = p.1 })
call_is names command.Insert ws c binds e =
    let a = bind_ok _ _ _ e in
    let b = bind_ok _ _ _ a.2 in
    let d = bind_ok _ _ _ b.2 in
    let name = new_name_is names (a.0).0 b.0 b.1 in
    let v = numbers_are (a.0).1 [] d.0 d.1 in
    let p = is_pair (call.Insert d.0) c (Some (record { name = b.0; by = binder.Insert })) binds d.2 in
    subst (λ x. IsCall names (codes "insert" ∷ ws) x binds) (ap (λ xs. call.Insert xs) (sym v.is) ∙ p.0)
    (record {
      name = (a.0).0;
      says = ap (λ xs. codes "insert" ∷ xs) (next_ok _ ws a.0 a.1 ∙ ap (λ xs. (a.0).0 ∷ xs) v.says);
      is_new = name.is_new;
      small = v.small;
      binds_name = p.1 ∙ ap (λ (x : Word). Some (record { name = x; by = binder.Insert })) (sym name.same);
    })
call_is names command.Get ws c binds e =
    let a = bind_ok _ _ _ e in
    let p = is_pair (call.Get a.0) c None binds a.2 in
    subst (λ x. IsCall names (codes "get" ∷ ws) x binds) p.0 (about_is names (codes "get") ws a.0 binds a.1 p.1)
call_is names command.Read ws c binds e =
    let a = bind_ok _ _ _ e in
    let p = is_pair (call.Read a.0) c None binds a.2 in
    subst (λ x. IsCall names (codes "read" ∷ ws) x binds) p.0 (about_is names (codes "read") ws a.0 binds a.1 p.1)
call_is names command.Remove ws c binds e =
    let a = bind_ok _ _ _ e in
    let p = is_pair (call.Remove a.0) c None binds a.2 in
    subst (λ x. IsCall names (codes "remove" ∷ ws) x binds) p.0 (about_is names (codes "remove") ws a.0 binds a.1 p.1)
call_is names command.Release ws c binds e =
    let a = bind_ok _ _ _ e in
    let p = is_pair (call.Release a.0) c None binds a.2 in
    subst (λ x. IsCall names (codes "release" ∷ ws) x binds) p.0 (about_is names (codes "release") ws a.0 binds a.1 p.1)
call_is names command.Post ws c binds e =
    let a = bind_ok _ _ _ e in
    let b = bind_ok _ _ _ a.2 in
    let name = new_name_is names a.0 b.0 b.1 in
    let p = is_pair call.Post c (Some (record { name = b.0; by = binder.Post })) binds b.2 in
    subst (λ x. IsCall names (codes "post" ∷ ws) x binds) p.0
    (record {
      name = a.0;
      says = ap (λ xs. codes "post" ∷ xs) (only_ok ws a.0 a.1);
      is_new = name.is_new;
      binds_name = p.1 ∙ ap (λ (x : Word). Some (record { name = x; by = binder.Post })) (sym name.same);
    })
call_is names command.Wait ws c binds e =
    let a = bind_ok _ _ _ e in
    let b = bind_ok _ _ _ a.2 in
    let p = is_pair (call.Wait (b.0).place) c None binds b.2 in
    subst (λ x. IsCall names (codes "wait" ∷ ws) x binds) p.0
    (record {
      word = a.0;
      by = (b.0).by;
      says = ap (λ xs. codes "wait" ∷ xs) (only_ok ws a.0 a.1);
      bound = found_is
          names a.0 b.0 b.1;
      binds_none = p.1;
    })

record IsCallRead (names : List Binding) (words : List Word) (c : Call) (binds : Option Binding) : Type 0 where
  command : Command
  others : List Word
  says : words ≡ spelled command ∷ others
  reads : call_of names command others ≡ Ok (c, binds)

call_gives : (names : List Binding) (words : List Word) (c : Call) (binds : Option Binding) → IsCall names words c binds
    → IsCallRead names words c binds
unfolding call_of
call_gives names words (call.Adopt shard) binds x = record {
  command = command.Adopt;
  others = decimal shard ∷ [];
  says = x.says;
  reads = rw (number_of_decimal shard x.small, x.binds_none) refl;
}
call_gives names words call.Leave binds x = record {
  command = command.Leave;
  others = [];
  says = x.says;
  reads = rw
      x.binds_none refl;
}
call_gives names words (call.Insert value) binds x = record {
  command = command.Insert;
  others = x.name ∷ map decimal value;
  says = x.says;
  reads = rw (new_name_gives names x.name x.is_new, numbers_give value [] x.small, x.binds_name) refl;
}
call_gives names words (call.Get r) binds x = record {
  command = command.Get;
  others = x.word ∷ [];
  says = x.says;
  reads = rw (about_gives names x.word r x.about, x.binds_none) refl;
}
call_gives names words (call.Read r) binds x = record {
  command = command.Read;
  others = x.word ∷ [];
  says = x.says;
  reads = rw (about_gives names x.word r x.about, x.binds_none) refl;
}
call_gives names words (call.Remove r) binds x = record {
  command = command.Remove;
  others = x.word ∷ [];
  says = x.says;
  reads = rw (about_gives names x.word r x.about, x.binds_none) refl;
}
call_gives names words (call.Release r) binds x = record {
  command = command.Release;
  others = x.word ∷ [];
  says =
      x.says;
  reads = rw (about_gives names x.word r x.about, x.binds_none) refl;
}
call_gives names words call.Post binds x = record {
  command = command.Post;
  others = x.name ∷ [];
  says = x.says;
  reads =
      rw (new_name_gives names x.name x.is_new, x.binds_name) refl;
}
call_gives names words (call.Wait i) binds x = record {
  command = command.Wait;
  others = x.word ∷ [];
  says = x.says;
  reads = rw (found_gives names x.word i x.by x.bound, x.binds_none) refl;
}

-- ---- the line

abbrev Lined : Type 0
Lined = CallLine × Option Binding

line_is : (passes : ℕ) (names : List Binding) (ws : List Word) (line : CallLine) (binds : Option Binding)
    → line_of passes names ws ≡ Ok (line, binds) → IsCallLine passes names ws line binds
unfolding line_of
line_is passes names ws line binds e =
    let a = bind_ok _ _ _ e in
    let c = bind_ok _ _ _ a.2 in
    let d = bind_ok _ _ _ c.2 in
    let f = bind_ok _ _ _ d.2 in
    let pass = pass_at_ok passes ws a.0 a.1 in
    let whole = ok_is {A = Lined} (record { pass = (a.0).0; call = (f.0).0 }, (f.0).1) (line, binds) f.2 in
    let spoken : (a.0).1 ≡ spelled d.0 ∷ (c.0).1 = next_ok _ (a.0).1 c.0 c.1
    ∙ ap (λ x. x ∷ (c.0).1) (command_is (c.0).0 d.0 (or_ok _ _ _ d.1)) in
    subst (λ (x : Lined). IsCallLine passes names ws x.0 x.1) whole (record {
      first = pass.first.word;
      others = (a.0).1;
      says = pass.first.is;
      pass_is = number_is _ _ pass.first.number;
      below = pass.below;
      calls = subst (λ xs. IsCall names xs (f.0).0 (f.0).1) (sym spoken)
          (call_is names d.0 (c.0).1 (f.0).0 (f.0).1 f.1);
    })

line_gives : (passes : ℕ) (names : List Binding) (ws : List Word) (line : CallLine) (binds : Option Binding)
    → IsCallLine passes names ws line binds → line_of passes names ws ≡ Ok (line, binds)
unfolding line_of
line_gives passes names ws line binds x =
    let r = call_gives names x.others line.call binds x.calls in
    rw (x.says, r.says, number_gives x.first line.pass x.pass_is, lt-ltb _ _ x.below, command_gives r.command, r.reads)
    refl

-- ---- the calls so far

call_added_is : (passes : ℕ) (before : CallsSoFar) (ws : List Word) (now : CallsSoFar) → call_added passes before ws
    ≡ Ok now → SaysCall passes before ws now
call_added_is passes before ws now e =
    let a = bind_ok _ _ now e in
    record {
      line = (a.0).0;
      binds = (a.0).1;
      is = line_is passes before.names ws (a.0).0 (a.0).1 a.1;
      now_is = sym
          (ok_is (with_call before (a.0).0 (a.0).1) now a.2);
    }

call_added_gives : (passes : ℕ) (before : CallsSoFar) (ws : List Word) (now : CallsSoFar)
    → SaysCall passes before ws now → call_added passes before ws ≡ Ok now
call_added_gives passes before ws now x = rw (line_gives passes before.names ws x.line x.binds x.is)
    (ap ok_of (sym x.now_is))

pub calls_agree : Agrees call_added SaysCall
calls_agree = record { is = call_added_is; gives = call_added_gives }
