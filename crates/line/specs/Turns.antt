-- Inner: The turn of one row of the line: which cells it makes, and from which.
use Rattle.std.specs.Prelude.{◌≡◌, List, cond, ℕ, ◌+◌, ◌*◌, ◌%◌, ◌≤◌, ◌<◌, max, leb, length, get_or, drop}
use Rattle.basics.specs.Limits.{max_rows}
use Rattle.labels.specs.Permission.{permits}
use Rattle.line.specs.declared.Receiver.{Receiver}
use Rattle.line.specs.declared.Receiver.TheVariants.{One, Two}
use Rattle.line.specs.Line.{when, gain}
use Rattle.line.specs.Cells.{across, cell_bytes, core_bytes, cell_at, high_at, next_at}

-- the label of a receiver, and that of the other one
abbrev pub label : Receiver → ℕ
label One = 1
label Two = 2

abbrev pub other : Receiver → ℕ
other One = 2
other Two = 1

-- the index of the cell where receiver x is free from row a on and the other one from row b on
abbrev pub place : Receiver → ℕ → ℕ → ℕ
place One a b = a * across + b
place Two a b = b * across + a

abbrev pub side_at : Receiver → List ℕ → ℕ → ℕ → ℕ
side_at x space a b = get_or space (place x a b) 0

-- one row more is heard, in a byte
abbrev pub gain_byte : ℕ → ℕ
gain_byte v = gain v % 256

-- The last row from which on the other receiver may be free where a row of permission p and next row u is heard on
-- receiver x, 0 where it may not have it. The rows before both are free, those before the smaller of u and that row,
-- are then left out, and `must` may not be.
unfoldable pub last_heard : Receiver → ℕ → ℕ → ℕ → ℕ
last_heard x p u must = cond (permits p (label x)) (cond (leb u must) max_rows must) 0

-- what the space has for the turn of row j
pub record Ready (space : List ℕ) (j : ℕ) : Type 0 where
  pub long : core_bytes ≤ length space
  pub few : j < max_rows
  pub later : j < next_at space j
  pub within : next_at space j ≤ max_rows
  pub low : (x : Receiver) → j ≤ high_at space (label x) j
  pub high : (x : Receiver) → high_at space (label x) j ≤ max_rows

-- the new value of the cell where receiver x is free from row j on, and the other one from the later row b on
abbrev pub new_value : Receiver → ℕ → ℕ → ℕ → ℕ → List ℕ → ℕ → ℕ
new_value x p j u last space b = max (when (permits p 0) (side_at x space (j + 1) b)) (when (leb b last) (gain_byte (side_at x space u b)))

-- the new value of the cell where both are free from row j on
abbrev pub both_value : ℕ → ℕ → ℕ → List ℕ → ℕ
both_value p j u space =
    max (when (permits p 0) (cell_at space (j + 1) (j + 1)))
    (max (when (permits p 1) (gain_byte (cell_at space u (j + 1)))) (when (permits p 2) (gain_byte (cell_at space (j + 1) u))))

-- the new value of the cell where receiver x is free from row j on, and the other one from the next row on
abbrev pub next_value : Receiver → ℕ → ℕ → ℕ → List ℕ → ℕ
next_value x p j u space = max (when (permits p 0) (side_at x space (j + 1) (j + 1))) (when (permits p (label x)) (gain_byte (side_at x space u (j + 1))))

-- space' is space with the cells made new where each receiver is free from row j or the next one on, and one of them
-- from row j on
pub record FirstMade (p j u : ℕ) (space space' : List ℕ) : Type 0 where
  pub both : cell_at space' j j ≡ both_value p j u space
  pub next : (x : Receiver) → side_at x space' j (j + 1) ≡ next_value x p j u space
  pub kept : (x y : ℕ) → j < x → j < y → x ≤ max_rows → y ≤ max_rows → cell_at space' x y ≡ cell_at space x y
  pub rest : drop cell_bytes space' ≡ drop cell_bytes space

-- space' is space with the cells made new where receiver x is free from row j on, and the other one from a row after
-- the next before m on
pub record SideMade (x : Receiver) (p j u last m : ℕ) (space space' : List ℕ) : Type 0 where
  pub new : (b : ℕ) → j + 1 < b → b < m → side_at x space' j b ≡ new_value x p j u last space b
  pub kept : (a b : ℕ) → a ≤ max_rows → b ≤ max_rows → (a ≡ j → j + 1 < b → ⊥) → side_at x space' a b ≡ side_at x space a b
  pub rest : drop cell_bytes space' ≡ drop cell_bytes space

-- space' is space with such cells made new for both receivers, the other one free from rows up to h1 and h2
abbrev pub SidesMade : ℕ → ℕ → ℕ → ℕ → ℕ → ℕ → List ℕ → List ℕ → Type 0
SidesMade p j u must h1 h2 space space' =
    (between : List ℕ) × SideMade One p j u (last_heard One p u must) (h2 + 1) space between × SideMade Two p j u (last_heard Two p u must) (h1 + 1) between space'

-- space' is space with the cells of row j's turn made new, where the row has the permission p and `must` is the first
-- row after it that may not be left out
pub record TurnMade (p j must : ℕ) (space space' : List ℕ) : Type 0 where
  pub both : cell_at space' j j ≡ both_value p j (next_at space j) space
  pub sides : (x : Receiver) (b : ℕ) → j < b → b ≤ high_at space (other x) j
      → side_at x space' j b ≡ new_value x p j (next_at space j) (last_heard x p (next_at space j) must) space b
  pub kept : (x y : ℕ) → j < x → j < y → x ≤ max_rows → y ≤ max_rows → cell_at space' x y ≡ cell_at space x y
  pub rest : drop cell_bytes space' ≡ drop cell_bytes space
