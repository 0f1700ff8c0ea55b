-- An audit of calls in their order.
use Rattle.std.proofs.Common.{◌≡◌, ◌∙◌, ℕ, ◌+◌, ◌<◌, List, [], ◌∷◌, ◌++◌, map, take, length, get_or, refl, sym, subst}
use Rattle.std.proofs.Common.{ap, drop}
use Rattle.std.specs.List.{AllZip, Contains}
use Rattle.std.proofs.lemmas.List.Elements.{Contains-append_right}
use Rattle.std.proofs.lemmas.List.{take_more, take-append-drop, drop_more, map-append}
use Rattle.sh_history.specs.declared.entry.Entry.{Entry}
use Rattle.sh_history.specs.declared.checker.Why.{Why}
use Rattle.history_audit.specs.declared.audit.Audit.{Audit}
use Rattle.history_audit.specs.Lines.{entries_in}
use Rattle.history_audit.specs.declared.clash.Clash.{Clash}
use Rattle.history_audit.specs.Noted.{IsClash}
use Rattle.history_audit.specs.Followed.{Follows}
use Rattle.history_audit.proofs.LineLemmas.{entries_in-push}
use Rattle.history_timed.specs.declared.call.Call.{Call}
use Rattle.history_timed.specs.declared.call.Said.{Said}
use Rattle.history_timed.specs.declared.call.Said.TheVariants.{Known, Unread}
use Rattle.history_timed.specs.declared.order.Placed.{Placed}
use Rattle.history_timed.specs.Calls.{MayBe, entry_said}
use Rattle.history_timed.specs.Placing.{call_of}
use Rattle.history_timed.specs.Verdicts.{IsRefusedAt}
use Rattle.history_timed.proofs.ListLemmas.{contained}

-- the audit has taken in what these calls say
pub record HasHeard (audit : Audit) (passes guard_max : ℕ) (calls : List Call) : Type 0 where
  pub passes_are : audit.passes ≡ passes
  pub guard_max_is : audit.guard_max ≡ guard_max
  pub lines : List (ℕ × Entry)
  pub follows : Follows audit lines
  pub says : AllZip (λ (c : Call). MayBe c.said) calls (entries_in lines)

may_be : (before : List Entry) (s : Said) → MayBe s (entry_said before s)
may_be before (Known e) = refl
may_be before (Unread p k) = (_, refl)

zip_push : {X Y : Type 0} (R : X → Y → Type 0) (xs : List X) (ys : List Y) (x : X) (y : Y) → AllZip R xs ys → R x y
    → AllZip R (xs ++ x ∷ []) (ys ++ y ∷ [])
zip_push R [] [] x y z h = (h, tt)
zip_push R [] (b ∷ ys) x y z h = absurd z
zip_push R (a ∷ xs) [] x y z h = absurd z
zip_push R (a ∷ xs) (b ∷ ys) x y z h = (z.0, zip_push R xs ys x y z.1 h)

-- one call more
pub heard_more : (a b : Audit) (passes guard_max : ℕ) (placed : List Placed) (n : ℕ) (p : Placed) (line : ℕ) (e : Entry)
    → n < length placed → p ≡ get_or placed n p
    → (heard : HasHeard a passes guard_max (map call_of (take n placed)))
    → b.passes ≡ a.passes → b.guard_max ≡ a.guard_max → e ≡ entry_said (entries_in heard.lines) p.call.now.said
    → Follows b (heard.lines ++ (line, e) ∷ []) → HasHeard b passes guard_max (map call_of (take (n + 1) placed))
heard_more a b passes guard_max placed n p line e below is heard same_passes same_max says follows = record {
  passes_are = same_passes ∙ heard.passes_are;
  guard_max_is = same_max ∙ heard.guard_max_is;
  lines = heard.lines ++ (line, e) ∷ [];
  follows = follows;
  says =
      let front : map call_of (take (n + 1) placed) ≡ map call_of (take n placed) ++ call_of p ∷ [] =
      ap (map call_of) (take_more placed n p below ∙ ap (λ (x : Placed). take n placed ++ x ∷ []) (sym is))
      ∙ map-append call_of (take n placed) (p ∷ []) in
      rw (front, entries_in-push heard.lines line e)
      (zip_push (λ (c : Call). MayBe c.said) (map call_of (take n placed)) (entries_in heard.lines) (call_of p) e
      heard.says (subst (MayBe p.call.now.said) (sym says) (may_be (entries_in heard.lines) p.call.now.said)));
}

-- the call that the audit refuses, between those before it and those behind it
pub refused_at : (a : Audit) (passes guard_max : ℕ) (placed : List Placed) (n : ℕ) (p : Placed) (e : Entry)
    (clash : Clash) → n < length placed → p ≡ get_or placed n p
    → (heard : HasHeard a passes guard_max (map call_of (take n placed)))
    → e ≡ entry_said (entries_in heard.lines) p.call.now.said
    → IsClash a.passes a.guard_max heard.lines e clash
    → IsRefusedAt passes guard_max (map call_of placed) (call_of p) clash.why
refused_at a passes guard_max placed n p e clash below is heard says clashes = record {
  front = map call_of (take n placed);
  back = map call_of (drop (n + 1) placed);
  ordered_is =
      ap (map call_of) (sym (take-append-drop n placed) ∙ ap (λ (xs : List Placed). take n placed ++ xs)
      (drop_more placed n p below ∙ ap (λ (x : Placed). x ∷ drop (n + 1) placed) (sym is)))
      ∙ map-append call_of (take n placed) (p ∷ drop (n + 1) placed);
  history = entries_in heard.lines;
  says = heard.says;
  legal = rw (heard.passes_are, heard.guard_max_is) at heard.follows.legal;
  is_why = rw (heard.passes_are, heard.guard_max_is, says) at clashes.is_why;
}

-- it is one of them
pub refused_is_in : (passes guard_max : ℕ) (ordered : List Call) (c : Call) (why : Why)
    → IsRefusedAt passes guard_max ordered c why → Contains ordered c
refused_is_in passes guard_max ordered c why at =
    rw at.ordered_is (Contains-append_right at.front (c ∷ at.back) c (contained (c ∷ at.back) 0 c refl))
