-- Which outcomes have which replies, and what is printed of that.
use Rattle.std.specs.Prelude.{ℕ, ◌≡◌, ◌+◌, ◌==◌, ◌||◌, cond, Bool, true, false, List, [], ◌∷◌, ◌++◌, codes, decimal}
use Rattle.std.specs.Prelude.{length, map, vec_items, Option, Some, None, slice_get}
use Rattle.std.specs.List.{All, filter, flat_map, list_any, range_with_len, starts_with}
use Rattle.std.specs.Str.{bytes_eq}
use Rattle.sh_script.specs.Script.{pieces_of}
use Rattle.sh_script.specs.Words.{Word, words_in}
use Rattle.script_orders.specs.declared.found.Found.{Found}
use Rattle.script_orders.specs.declared.found.Whole.{Whole}
use Rattle.script_orders.specs.Comments.{Reply, Asks}
use Rattle.script_orders.specs.Printed.{counts_text, found_text}

-- ---- outcomes that have a reply

-- these words begin with those of the reply
abbrev pub begins : List Word → Reply → Bool
begins words reply = starts_with bytes_eq words reply

-- one of the lines has the reply
abbrev pub lines_have : Reply → List (List ℕ) → Bool
lines_have reply lines = list_any (λ line. begins (words_in line) reply) lines

-- a pass is replied so, by the reply lines of each pass
abbrev pub is_replied : Reply → List (List ℕ) → Bool
is_replied reply replies = list_any (λ lines. lines_have reply (pieces_of lines)) replies

abbrev pub has_reply : Reply → Found → Bool
has_reply reply f = is_replied reply (map vec_items f.replies.items)

-- the outcome at this place has the reply
abbrev pub has_at : List Found → Reply → (place : ℕ) → Bool
has_at found reply place = elim (slice_get found place) [ Some f ↦ has_reply reply f | None ↦ false ]

-- one of the replies
abbrev pub has_some : List Found → List Reply → (place : ℕ) → Bool
has_some found replies place = list_any (λ reply. has_at found reply place) replies

-- those of these places whose outcome has the reply, each of the replies, one of the replies
abbrev pub having : List Found → Reply → (places : List ℕ) → List ℕ
having found reply places = filter (has_at found reply) places

abbrev pub having_all : List Found → List Reply → (places : List ℕ) → List ℕ
having_all found [] places = places
having_all found (r ∷ rs) places = having_all found rs (having found r places)

abbrev pub having_some : List Found → List Reply → (places : List ℕ) → List ℕ
having_some found replies places = filter (has_some found replies) places

-- ---- what is asked

-- the outcomes that are looked at
abbrev pub looked_at : List Found → Asks → List ℕ
looked_at found a = having_all found a.wheres (range_with_len 0 (length found))

-- those that are printed: if some are never to have a reply, those that have one
abbrev pub shown : List Found → Asks → List ℕ
shown found a = cond (length a.nevers == 0) (looked_at found a) (having_some found a.nevers (looked_at found a))

-- none that is looked at has a reply that it is never to have
abbrev pub is_as_asked : List Found → Asks → Bool
is_as_asked found a = length a.nevers == 0 || length (having_some found a.nevers (looked_at found a)) == 0

-- an order with these replies is as is asked: with each reply that is asked for, it has none that it is never to have
abbrev pub IsAsAsked : Asks → (replies : List (List ℕ)) → Type 0
IsAsAsked a replies = All (λ r. is_replied r replies ≡ true) a.wheres
    → All (λ r. is_replied r replies ≡ false) a.nevers

-- ---- what is printed

abbrev pub reply_text : Reply → List ℕ
reply_text reply = flat_map (λ w. codes " " ++ w) reply

abbrev pub few_text : ℕ → List ℕ
few_text n = cond (n == 0) (codes "none") (decimal n)

-- so many of all outcomes have the reply
abbrev pub asked_line : (what : List ℕ) → Reply → (count all : ℕ) → List ℕ
asked_line what reply count all =
    what ++ (reply_text reply ++ (codes ": " ++ (few_text count ++ (codes " of " ++ (decimal all ++ codes "\n")))))

abbrev pub asked_text : (what : List ℕ) → List Found → Reply → (places : List ℕ) → List ℕ
asked_text what found r places = asked_line what r (length (having found r places)) (length places)

-- each of those that have the replies before it
abbrev pub wheres_text : List Found → List Reply → (places : List ℕ) → List ℕ
wheres_text found [] places = []
wheres_text found (r ∷ rs) places =
    asked_text (codes "where") found r places ++ wheres_text found rs (having found r places)

abbrev pub nevers_text : List Found → List Reply → (places : List ℕ) → List ℕ
nevers_text found [] places = []
nevers_text found (r ∷ rs) places = asked_text (codes "never") found r places ++ nevers_text found rs places

-- the outcome at this place, numbered from 1
abbrev pub text_at : (place : ℕ) → Option Found → List ℕ
text_at place (Some f) = found_text (place + 1) f
text_at place None = []

abbrev pub numbered_text : List Found → (place : ℕ) → List ℕ
numbered_text found place = text_at place (slice_get found place)

-- the counts, how many have each reply, and the outcomes that are printed
abbrev pub answer_text : Whole → Asks → List ℕ
answer_text w a =
    counts_text w
    ++ wheres_text w.found.items a.wheres (range_with_len 0 (length w.found.items))
    ++ nevers_text w.found.items a.nevers (looked_at w.found.items a)
    ++ flat_map (numbered_text w.found.items) (shown w.found.items a)
