-- What words and lines are, in the words of the format.
use Rattle.std.specs.Prelude.{◌≡◌, ◌≢◌, ℕ, ◌<◌, ◌≤◌, ◌^◌, ◌⊎◌, List, [], ◌∷◌, ◌++◌, length, decimal}
use Rattle.std.specs.List.{All}
use Rattle.sh_step.specs.declared.action.PageName.{PageName}
use Rattle.sh_step.specs.declared.action.SlotName.{SlotName}
use Rattle.sh_script.specs.Words.{Word}

-- ---- the words of a line

-- one byte or more, and no space
pub record IsWord (word : Word) : Type 0 where
  pub some : word ≢ []
  pub no_space : All (λ b. b ≢ 32) word

-- the text after a word: nothing, or a space first
abbrev pub EndsWord : List ℕ → Type 0
EndsWord [] = Unit {0}
EndsWord (b ∷ bs) = b ≡ 32

-- the line is spaces, if any, then the word, and then this, which ends the word
pub record HasFirstWord (line : List ℕ) (word : Word) (behind : List ℕ) : Type 0 where
  pub spaces : List ℕ
  pub spelled : line ≡ spaces ++ word ++ behind
  pub spaces_are : All (λ b. b ≡ 32) spaces
  pub is_word : IsWord word
  pub ends : EndsWord behind

-- the line is these words, with spaces between them and around them
abbrev pub AreWords : List ℕ → List Word → Type 0
AreWords line [] = All (λ b. b ≡ 32) line
AreWords line (w ∷ ws) = (behind : List ℕ) × HasFirstWord line w behind × AreWords behind ws

-- ---- kinds of words

-- the word is the decimal digits of a number below 2^64
pub record IsNumber (word : Word) (n : ℕ) : Type 0 where
  pub digits : word ≡ decimal n
  pub small : n < 2 ^ 64

-- a to z
pub record IsSmallLetter (b : ℕ) : Type 0 where
  pub from_a : 97 ≤ b
  pub to_z : b ≤ 122

-- 0 to 9
pub record IsDigit (b : ℕ) : Type 0 where
  pub from_0 : 48 ≤ b
  pub to_9 : b ≤ 57

-- a to z, 0 to 9 or _
abbrev pub IsNameByte : ℕ → Type 0
IsNameByte b = IsSmallLetter b ⊎ (IsDigit b ⊎ (b ≡ 95))

-- the word is a small letter, followed by at most 31 small letters, digits and _
pub record IsName (word : Word) : Type 0 where
  pub first : ℕ
  pub others : List ℕ
  pub is : word ≡ first ∷ others
  pub letter : IsSmallLetter first
  pub few : length others ≤ 31
  pub others_are : All IsNameByte others

-- the word is the numbers of a page, joined by a dot
pub record IsPage (word : Word) (page : PageName) : Type 0 where
  pub joined : word ≡ decimal page.shard ++ 46 ∷ decimal page.page
  pub shard_small : page.shard < 2 ^ 64
  pub page_small : page.page < 2 ^ 64

-- the word is the numbers of a slot, joined by dots
pub record IsSlot (word : Word) (slot : SlotName) : Type 0 where
  pub joined : word ≡ decimal slot.shard ++ 46 ∷ (decimal slot.page ++ 46 ∷ decimal slot.slot)
  pub shard_small : slot.shard < 2 ^ 64
  pub page_small : slot.page < 2 ^ 64
  pub slot_small : slot.slot < 2 ^ 64
