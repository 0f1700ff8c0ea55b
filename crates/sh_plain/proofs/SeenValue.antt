-- What a look saw is what was inserted.
use Rattle.std.proofs.Common.{◌≡◌, ℕ, Bool, List, ◌∷◌, ◌++◌, Some, sym, ◌∙◌, subst}
use Rattle.std.specs.List.{AllZip}
use Rattle.sh_history.specs.declared.entry.Entry.TheVariants.{Insert, Seen}
use Rattle.sh_history.specs.declared.log.LogEntry.{LogEntry}
use Rattle.sh_history.specs.declared.log.LogEntry.TheVariants.{Known}
use Rattle.sh_history.specs.History.{value_of}
use Rattle.sh_history.specs.Log.{Agrees, IsLegalLog, entries_of, pass_of}
use Rattle.sh_history.proofs.LogLaws.{filter_splits, zip_splits, value_of_insert, value_of_seen}

pub seen_value : (passes guard_max : ℕ) (of_pass : ℕ → Bool) (log front rest front' rest' : List LogEntry)
    (p q key : ℕ) (given seen : List ℕ) → IsLegalLog passes guard_max of_pass log
    → log ≡ front ++ Known (Insert p key given) ∷ rest → log ≡ front' ++ Known (Seen q key seen) ∷ rest'
    → seen ≡ given
seen_value passes guard_max of_pass log front rest front' rest' p q key given seen book is is' =
    let P : List LogEntry → Type 0 = λ l. AllZip Agrees l (entries_of of_pass book.history) in
    let i = filter_splits (λ entry. of_pass (pass_of entry)) book.history _ _ (Insert p key given)
    (zip_splits front rest (Insert p key given) _ (subst P is book.agrees)).2 in
    let s = filter_splits (λ entry. of_pass (pass_of entry)) book.history _ _ (Seen q key seen)
    (zip_splits front' rest' (Seen q key seen) _ (subst P is' book.agrees)).2 in
    let given_is = value_of_insert passes guard_max i.0 i.1 p key given (rw (← i.2) book.legal) in
    let seen_is = value_of_seen passes guard_max s.0 s.1 q key seen (rw (← s.2) book.legal) in
    let given_is' : value_of book.history key ≡ Some given = rw i.2 given_is in
    let seen_is' : value_of book.history key ≡ Some seen = rw s.2 seen_is in
    let both : Some seen ≡ Some given = sym seen_is' ∙ given_is' in cc
