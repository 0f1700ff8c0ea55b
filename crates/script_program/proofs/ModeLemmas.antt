-- The word that a parse finds for the mode is one of those that clap was given.
use Rattle.std.proofs.Common.{◌≡◌, ◌⊎◌, ◌∙◌, ◌<◌, ◌≤◌, ℕ, zero, suc, Bool, true, false, List, [], ◌∷◌, length}
use Rattle.std.proofs.Common.{map, is_some, Option, Some, None, not, refl, sym, ap, subst, inl, inr, arith, codes}
use Rattle.std.proofs.Common.{slice_index, slice_get}
use Rattle.std.specs.List.{All, slice_index_or}
use Rattle.std.specs.Str.{bytes_eq}
use Rattle.std.specs.Prelude.{option_and_then, option_map}
use Rattle.std.specs.Borrow.{Bor}
use Rattle.std.proofs.lemmas.Slice.Eq.{bytes_eq-Decides}
use Rattle.clap.specs.Words.{App, Rule, Text, Accepts, app_of, args_of, first_value, found_of, groups_of, matched_of}
use Rattle.clap.specs.Words.{rule_of}
use Rattle.clap.specs.Facts.{Entry, EntryPasses, EntryValuesPass, IsGroupEntry, IsKnownGroup, PassesArg, least_values}
use Rattle.clap.specs.Facts.{parser_of, parser_of_value, unwrap_or_range}
use Rattle.clap.specs.Built.{IsAuto, IsParsedFrom, IsPlain, IsPlainArg, SameRules}
use Rattle.clap.specs.declared.builder.arg.Arg.{Arg}
use Rattle.clap.specs.declared.builder.command.Command.{Command}
use Rattle.clap.specs.declared.builder.command.Command.TheViews.{out-Command}
use Rattle.clap.specs.declared.builder.value_parser.ValueParser.{ValueParser}
use Rattle.clap.specs.declared.builder.range.ValueRange.{ValueRange}
use Rattle.clap.specs.declared.builder.value_parser.ValueParser.TheVariants.{Names}
use Rattle.clap.specs.declared.parser.matches.ArgMatches.{ArgMatches}
use Rattle.clap.specs.declared.parser.matches.Found.{Found}
use Rattle.clap.specs.declared.parser.matches.MatchedArg.{MatchedArg}
use Rattle.clap.proofs.CallerLemmas.{entry_by_id, required_has_value, same_rules_by_id}
use Rattle.clap.proofs.SimpleLemmas.{is_false, is_nil}
use Rattle.clap.proofs.WalkLemmas.{both}
use Rattle.script_program.specs.Options.{accounts_rule, command_line, mode_rule}

is_none : {X : Type 0} (o : Option X) → not (is_some o) ≡ true → o ≡ None
is_none None e = refl
is_none (Some x) e = cc

-- an argument with a simple rule that names no other argument
plain_arg : (a : Arg) → (rule_of a).is_simple ≡ true → (rule_of a).is_free ≡ true → IsPlainArg a × (a.val_delim ≡ None)
plain_arg a simple free =
    let p = both _ _ simple in
    let q = both _ _ p.1 in
    let r = both _ _ q.1 in
    let s = both _ _ r.1 in
    let t = both _ _ free in
    let u = both _ _ t.1 in
    ((is_false _ t.0, is_nil _ u.0, is_nil _ p.0, is_nil _ r.0), is_none _ s.0)

other_letter : (x y : ℕ) → x ≡ 109 → (y ≡ 0) ⊎ ((y ≡ 104) ⊎ (y ≡ 118)) → x ≡ y → ⊥
other_letter x y m (inl h) e = omega (arith, m, h, e)
other_letter x y m (inr (inl h)) e = omega (arith, m, h, e)
other_letter x y m (inr (inr h)) e = omega (arith, m, h, e)

-- words with other first letters
apart : (xs ys : Text) → slice_index xs 0 ≡ 109 → (slice_index ys 0 ≡ 0)
    ⊎ ((slice_index ys 0 ≡ 104) ⊎ (slice_index ys 0 ≡ 118)) → xs ≡ ys → ⊥
apart xs ys m h e = other_letter _ _ m h (ap (λ (t : Text). slice_index t 0) e)

-- the first of some words, all of which have a property
first_passes : (P : Text → Type 0) (vs : List (Bor Text)) → All (λ v. P v.now) vs
    → is_some (option_map (λ s. s.now) (slice_get vs 0)) ≡ true
    → (t : Text) × (option_map (λ s. s.now) (slice_get vs 0) ≡ Some t) × P t
first_passes P [] h some = cc
first_passes P (v ∷ vs) h some = (v.now, refl, h 0 v (omega arith))

first_of_entry : (f : Found) (id : Text) (x : MatchedArg) (P : Text → Type 0) → matched_of f id ≡ Some x
    → is_some (first_value f id) ≡ true → All (λ v. P v.now) x.vals.items
    → (t : Text) × (first_value f id ≡ Some t) × P t
first_of_entry f id x P e h all =
    let same : first_value f id ≡ option_map (λ s. s.now) (slice_get x.vals.items 0) = ap
    (option_and_then (λ (y : MatchedArg). option_map (λ s. s.now) (slice_get y.vals.items 0))) e in
    let first = first_passes P x.vals.items all (ap is_some (sym same) ∙ h) in
    (first.0, same ∙ first.1, first.2)

-- an id with a first value has an entry
some_entry : (f : Found) (id : Text) (o : Option MatchedArg) → matched_of f id ≡ o → is_some (first_value f id) ≡ true
    → (x : MatchedArg) × (matched_of f id ≡ Some x)
some_entry f id (Some x) e h = (x, e)
some_entry f id None e h = let no : false ≡ true = rw e at h in cc

least_one : (x : Arg) → x.num_vals ≡ None → 1 ≤ least_values x
least_one x e = subst (λ (o : Option ValueRange). 1 ≤ (unwrap_or_range o).start_inclusive) (sym e) (omega arith)

module _ (old : Command) (m : ArgMatches) (modes : Bor (List (Bor Text))) (p : IsParsedFrom old m) (a b : Arg)
    (args : args_of old ≡ a ∷ b ∷ [])
    (mode : rule_of a ≡ mode_rule modes) (accounts : rule_of b ≡ accounts_rule) where
  elem : slice_index_or (args_of old) 0 a ≡ a
  elem = ap (λ (l : List Arg). slice_index_or l 0 a) args

  id_is : a.id.now ≡ codes "mode"
  id_is = ap (λ (r : Rule). r.id) mode

  other_id : b.id.now ≡ codes "accounts"
  other_id = ap (λ (r : Rule). r.id) accounts

  within : 0 < length (args_of old)
  within = rw args (omega arith)

  alone : (j : ℕ) (e : Arg) → j < length (a ∷ b ∷ []) → bytes_eq (slice_index_or (a ∷ b ∷ []) j e).id.now
      (slice_index_or (a ∷ b ∷ []) 0 a).id.now ≡ true → j ≡ 0
  alone zero e lt same = refl
  alone (suc zero) e lt same = let no : false ≡ true = rw (other_id, id_is) at same in cc
  alone (suc (suc j)) e lt same = absurd (omega arith)

  unique : (j : ℕ) (e : Arg) → j < length (args_of old) → bytes_eq (slice_index_or (args_of old) j e).id.now
      (slice_index_or (args_of old) 0 a).id.now ≡ true → j ≡ 0
  unique = subst (λ (l : List Arg). (j : ℕ) (e : Arg) → j < length l
      → bytes_eq (slice_index_or l j e).id.now (slice_index_or l 0 a).id.now ≡ true → j ≡ 0) (sym args) alone

  here : (slice_index_or (args_of old) 0 a).id.now ≡ codes "mode"
  here = ap (λ (x : Arg). x.id.now) elem ∙ id_is

  letter : slice_index (slice_index_or (args_of old) 0 a).id.now 0 ≡ 109
  letter = ap (λ (t : Text). slice_index t 0) here

  own : IsAuto (slice_index_or (args_of old) 0 a) → ⊥
  own (inl h) = apart _ _ letter (inr (inl refl)) h
  own (inr h) = apart _ _ letter (inr (inr refl)) h

  named : (slice_index_or (args_of old) 0 a).id.now ≡ [] → ⊥
  named h = apart _ [] letter (inl refl) h

  parser : (slice_index_or (args_of old) 0 a).value_parser ≡ Some (Names modes)
  parser = ap (λ (x : Arg). x.value_parser) elem ∙ ap (λ (r : Rule). r.parser) mode

  exact_case : (slice_index_or (args_of old) 0 a).ignore_case ≡ false
  exact_case = ap (λ (x : Arg). x.ignore_case) elem ∙ ap (λ (r : Rule). r.ignore_case) mode

  accepted : (t : Text) → PassesArg p.built (slice_index_or (args_of old) 0 a).id.now t → Accepts false (Names modes) t
  accepted t pass =
      let s : SameRules (slice_index_or (args_of old) 0 a) pass.1 = same_rules_by_id old m p 0 a within unique own
      pass.0 pass.1 pass.2 pass.3 pass.4.0 in
      let is : parser_of pass.1 ≡ Names modes = ap parser_of_value (s.parser (Names modes) parser) in
      let as_is : Accepts pass.1.ignore_case (Names modes) t = subst
      (λ (q : ValueParser). Accepts pass.1.ignore_case q t) is pass.4.1 in
      subst (λ (c : Bool). Accepts c (Names modes) t) (s.ignore_case ∙ exact_case) as_is

  plain : groups_of old ≡ [] → IsPlain old
  plain none =
      let first = plain_arg a (ap (λ (r : Rule). r.is_simple) mode) (ap (λ (r : Rule). r.is_free) mode) in
      let second = plain_arg b (ap (λ (r : Rule). r.is_simple) accounts) (ap (λ (r : Rule). r.is_free) accounts) in
      let each : (k : ℕ) (d : Arg) → k < length (a ∷ b ∷ []) → IsPlainArg (slice_index_or (a ∷ b ∷ []) k d) = two
      first.0 second.0 in
      (subst (All IsPlainArg) (sym args) each, none)
    where
      two : IsPlainArg a → IsPlainArg b → (k : ℕ) (d : Arg) → k < length (a ∷ b ∷ [])
          → IsPlainArg (slice_index_or (a ∷ b ∷ []) k d)
      two x y zero d lt = x
      two x y (suc zero) d lt = y
      two x y (suc (suc k)) d lt = absurd (omega arith)

  no_group : IsPlain p.built → (id : Text) → id ≡ (slice_index_or (args_of old) 0 a).id.now → IsKnownGroup p.built id
      → ⊥
  no_group plain id is (inl empty) = named (sym is ∙ empty)
  no_group plain id is (inr lots) = let bad : 0 < 0 = rw plain.1 at lots in absurd (omega arith)

  all_pass : IsPlain p.built → (e : Entry) (id : Text) → e.0.now ≡ id → id ≡ (slice_index_or (args_of old) 0 a).id.now
      → IsGroupEntry p.built e → EntryValuesPass p.built e
      → All (λ v. PassesArg p.built id v.now) e.1.vals.items
  all_pass plain e id key is group (inl g) = absurd (no_group plain e.0.now (key ∙ is) (group g))
  all_pass plain e id key is group (inr vals) = subst (λ (w : Text). All (λ v. PassesArg p.built w v.now)
      e.1.vals.items) key vals

  entry_accepted : groups_of old ≡ [] → (out-Command old).has_globals ≡ false → (x : MatchedArg)
      → matched_of (found_of m) (slice_index_or (args_of old) 0 a).id.now ≡ Some x
      → is_some (first_value (found_of m) (slice_index_or (args_of old) 0 a).id.now) ≡ true
      → (t : Text) × (first_value (found_of m) (slice_index_or (args_of old) 0 a).id.now ≡ Some t)
      × Accepts false (Names modes) t
  entry_accepted none globals x e h =
      let id : Text = (slice_index_or (args_of old) 0 a).id.now in
      let parsed = p.parsed (p.from.globals ∙ globals) in
      let got = entry_by_id (EntryPasses p.built) (found_of m).entries.items id x parsed.values e in
      let key : got.0.0.now ≡ id = (bytes_eq-Decides got.0.0.now id).0 got.2 in
      let all = all_pass (p.from.plain (plain none)) got.0 id key refl got.3.3 got.3.0 in
      let same : All (λ v. PassesArg p.built id v.now) x.vals.items = subst
      (λ (y : MatchedArg). All (λ v. PassesArg p.built id v.now) y.vals.items) got.1 all in
      let first = first_of_entry (found_of m) id x (PassesArg p.built id) e h same in
      (first.0, first.1, accepted first.0 first.2)

  found : groups_of old ≡ [] → (out-Command old).has_globals ≡ false → (out-Command old).subcommand_negates_reqs ≡ false
      → (t : Text) × (first_value (found_of m) (codes "mode") ≡ Some t) × Accepts false (Names modes) t
  found none globals negates =
      let id : Text = (slice_index_or (args_of old) 0 a).id.now in
      let least : 1 ≤ least_values (slice_index_or (args_of old) 0 a) =
      let range : (slice_index_or (args_of old) 0 a).num_vals ≡ None = ap (λ (x : Arg). x.num_vals) elem
      ∙ ap (λ (r : Rule). r.range) mode in
      least_one (slice_index_or (args_of old) 0 a) range in
      let has : is_some (first_value (found_of m) id) ≡ true = required_has_value old m p (plain none) globals negates 0
      a within
      (ap (λ (x : Arg). x.required) elem ∙ ap (λ (r : Rule). r.required) mode)
      (ap (λ (x : Arg). x.action) elem ∙ ap (λ (r : Rule). r.action) mode)
      (ap (λ (x : Arg). x.val_delim) elem ∙ (plain_arg a (ap (λ (r : Rule). r.is_simple) mode)
      (ap (λ (r : Rule). r.is_free) mode)).1)
      least unique named own in
      let entry = some_entry (found_of m) id (matched_of (found_of m) id) refl has in
      let r = entry_accepted none globals entry.0 entry.1 has in
      (r.0, ap (first_value (found_of m)) (sym here) ∙ r.1, r.2)

-- of a command with these rules
pub mode_found : (old : Command) (m : ArgMatches) (modes : Bor (List (Bor Text))) → IsParsedFrom old m → app_of old
    ≡ command_line modes
    → (t : Text) × (first_value (found_of m) (codes "mode") ≡ Some t) × Accepts false (Names modes) t
mode_found old m modes p is =
    let fields = both _ _ (ap (λ (x : App). x.top.is_plain) is) in
    go (is_nil _ fields.0) (is_false _ (both _ _ (both _ _ fields.1).1).0) (args_of old) refl
    (ap (λ (x : App). x.top.rules) is)
  where
    go : groups_of old ≡ [] → (out-Command old).has_globals ≡ false → (xs : List Arg) → args_of old ≡ xs
        → map rule_of xs ≡ mode_rule modes ∷ accounts_rule ∷ []
        → (t : Text) × (first_value (found_of m) (codes "mode") ≡ Some t) × Accepts false (Names modes) t
    go none globals [] args rules = cc
    go none globals (a ∷ []) args rules = cc
    go none globals (a ∷ b ∷ []) args rules = found old m modes p a b args
        (ap (λ l. slice_index_or l 0 accounts_rule) rules) (ap (λ l. slice_index_or l 1 accounts_rule) rules)
        none globals (ap (λ (x : App). x.top.subcommand_negates_reqs) is)
    go none globals (a ∷ b ∷ c ∷ xs) args rules = cc
