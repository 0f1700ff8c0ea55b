-- A whole script keeps what each of its lines keeps.
use Rattle.std.proofs.Common.{◌≡◌, ℕ, List, [], ◌∷◌, inl, inr, refl, sym, subst}
use Rattle.sh_script.specs.Words.{Word}
use Rattle.sh_script.specs.HeaderMeaning.{IsHeader}
use Rattle.sh_script.specs.Script.{begin}
use Rattle.sh_script.specs.Grammar.{Means, SaysNext, Mean, Leads, IsScript}
use Rattle.sh_script.specs.declared.header.Header.{Header}
use Rattle.sh_script.specs.declared.header.Version.{Version}
use Rattle.sh_script.specs.declared.header.Version.TheVariants as version
use Rattle.sh_script.specs.declared.header.Opening.{Opening}
use Rattle.sh_script.specs.declared.header.Opening.TheVariants as opening
use Rattle.sh_script.specs.declared.reader.Read.{Read}

-- before the header the body is what it was at the start, and under a header it is of the kind that is kept
abbrev Kept : {S : Type 0} → (Header → S → Type 0) → S → Opening → S → Type 0
Kept keeps start opening.Unread body = body ≡ start
Kept keeps start opening.Versioned body = body ≡ start
Kept keeps start (opening.Headed h) body = keeps h body

abbrev IsKept : {S : Type 0} → (Header → S → Type 0) → S → Read S → Type 0
IsKept keeps start r = Kept keeps start r.opening r.body

-- the kind holds at the start, and each line keeps it
pub record IsLasting {S : Type 0} (means : Means S) (start : S) (keeps : Header → S → Type 0) : Type 0 where
  pub begins : (v : Version) (ws : List Word) (h : Header) → IsHeader v ws h → keeps h start
  pub lasts : (h : Header) (before now : S) (ws : List Word) → keeps h before → means h.shape.passes before ws now
      → keeps h now

after_next : {S : Type 0} (means : Means S) (start : S) (keeps : Header → S → Type 0)
    (lasting : IsLasting means start keeps) (before now : Read S) (o : Opening) (ws : List Word) → before.opening ≡ o
    → SaysNext means before o ws now → IsKept keeps start before → IsKept keeps start now
after_next means start keeps lasting before now opening.Unread ws e (inl x) k =
    let same : before.body ≡ start = subst (λ o. Kept keeps start o before.body) e k in
    subst (IsKept keeps start) (sym x.now_is) same
after_next means start keeps lasting before now opening.Unread ws e (inr x) k =
    let same : before.body ≡ start = subst (λ o. Kept keeps start o before.body) e k in
    subst (IsKept keeps start) (sym x.now_is) (subst (keeps x.header) (sym same)
    (lasting.begins version.One ws x.header x.is))
after_next means start keeps lasting before now opening.Versioned ws e x k =
    let same : before.body ≡ start = subst (λ o. Kept keeps start o before.body) e k in
    subst (IsKept keeps start) (sym x.now_is) (subst (keeps x.header) (sym same)
    (lasting.begins version.Two ws x.header x.is))
after_next means start keeps lasting before now (opening.Headed h) ws e x k =
    let kept : keeps h before.body = subst (λ o. Kept keeps start o before.body) e k in
    let next : keeps h x.body = lasting.lasts h before.body x.body ws kept x.is in
    subst (IsKept keeps start) (sym x.now_is) (subst (λ o. Kept keeps start o x.body) (sym e) next)

after_words : {S : Type 0} (means : Means S) (start : S) (keeps : Header → S → Type 0)
    (lasting : IsLasting means start keeps) (before now : Read S) (ws : List Word) → Mean means before ws now
    → IsKept keeps start before
    → IsKept keeps start now
after_words means start keeps lasting before now ws (inl h) k = subst (IsKept keeps start) (sym h.1) k
after_words means start keeps lasting before now ws (inr h) k = after_next means start keeps lasting before now
    before.opening ws refl h.1 k

after_lines : {S : Type 0} (means : Means S) (start : S) (keeps : Header → S → Type 0)
    (lasting : IsLasting means start keeps) (lines : List (List ℕ)) (before now : Read S) → Leads means before lines now
    → IsKept keeps start before → IsKept keeps start now
after_lines means start keeps lasting [] before now h k = subst (IsKept keeps start) h k
after_lines means start keeps lasting (l ∷ ls) before now h k =
    after_lines means start keeps lasting ls h.0 now h.2 (after_words means start keeps lasting before h.0 h.1.words
    h.1.mean k)

pub script_keeps : {S : Type 0} (means : Means S) (start : S) (keeps : Header → S → Type 0)
    (lasting : IsLasting means start keeps) (text : List ℕ) (h : Header) (body : S) → IsScript means start text h body
    → keeps h body
script_keeps means start keeps lasting text h body x =
    let all : IsKept keeps start x.now = after_lines means start keeps lasting x.lines (begin start) x.now x.leads refl
    in
    subst (keeps h) x.body_is (subst (λ o. Kept keeps start o (x.now).body) x.header_is all)
