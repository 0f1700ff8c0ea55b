-- One list of numbers that is linked both ways through an array of pairs. It begins with 0 and ends with 10.
use Rattle.std.specs.Prelude.{◌≡◌, ℕ, ◌≤◌, List, [], ◌∷◌, length, get_or, map}
use Rattle.sh_lists.specs.Numbers.{Distinct, AllBelow}
use Rattle.sh_lists.specs.Lists.{LastFrom}
use Rattle.sh_queue.specs.declared.chain.Link.{Link}

-- what a contract sees of a chain: its numbers in order, and the bound below which each number is
pub record ChainNumbers : Type 0 where
  pub numbers : List ℕ
  pub size : ℕ

-- the number behind each number, and the one ahead of it
abbrev pub nexts : List Link → List ℕ
nexts links = map (λ (l : Link). l.next) links

abbrev pub prevs : List Link → List ℕ
prevs links = map (λ (l : Link). l.prev) links

-- what a number has before it is put in
abbrev pub ends : Link
ends = record { next = 10; prev = 0 }

-- each number leads to the next one and back, from a on
abbrev pub ChainLinked : List ℕ → List ℕ → ℕ → List ℕ → Type 0
ChainLinked next prev a [] = Unit {0}
ChainLinked next prev a (b ∷ rest) = (get_or next a 0 ≡ b) × (get_or prev b 0 ≡ a) × ChainLinked next prev b rest

-- the links hold 0 and then these numbers, none twice, and the last is 10
pub record Links (next prev rest : List ℕ) : Type 0 where
  pub size : length next ≤ length prev
  pub small : AllBelow (length next) (0 ∷ rest)
  pub distinct : Distinct (0 ∷ rest)
  pub linked : ChainLinked next prev 0 rest
  pub last : LastFrom 0 rest 10
