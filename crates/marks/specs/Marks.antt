-- Believed: What a row's mark says (docs/RULES.md, Marks). Of an even mark the row may be heard, of an odd one it must
-- be; of 0 and 1 by either receiver, of 2 and 3 by receiver 1 alone, of 4 and 5 by receiver 2 alone.
use Rattle.std.specs.Prelude.{ℕ, ◌≡◌, ◌⊎◌, Bool, cond, not, ◌&&◌, ◌||◌, eqb}
use Rattle.basics.specs.Tests.{◌⇒◌}

-- the highest mark; what is above it is refused with 7
abbrev pub max_mark : ℕ
max_mark = 5

-- the row must be heard: marks 1, 3 and 5
abbrev pub Must : ℕ → Type 0
Must mark = (mark ≡ 1) ⊎ (mark ≡ 3) ⊎ (mark ≡ 5)

-- only receiver 1 can hear the row: marks 2 and 3
abbrev pub Receiver1Only : ℕ → Type 0
Receiver1Only mark = (mark ≡ 2) ⊎ (mark ≡ 3)

-- only receiver 2 can hear the row: marks 4 and 5
abbrev pub Receiver2Only : ℕ → Type 0
Receiver2Only mark = (mark ≡ 4) ⊎ (mark ≡ 5)

-- ---- the tests, clause for clause

abbrev pub is_must : ℕ → Bool
is_must mark = eqb mark 1 || (eqb mark 3 || eqb mark 5)

abbrev pub is_receiver1_only : ℕ → Bool
is_receiver1_only mark = eqb mark 2 || eqb mark 3

abbrev pub is_receiver2_only : ℕ → Bool
is_receiver2_only mark = eqb mark 4 || eqb mark 5

-- a row with this mark may have the label
unfoldable pub mark_allows : ℕ → ℕ → Bool
mark_allows mark label =
    (is_must mark ⇒ not (eqb label 0))
    && (is_receiver1_only mark ⇒ not (eqb label 2))
    && (is_receiver2_only mark ⇒ not (eqb label 1))

-- the mark of the same row as one that must be heard: 1, 3 and 5 for 0, 2 and 4; others stay
unfoldable pub raised : ℕ → ℕ
raised mark = cond (eqb mark 0) 1 (cond (eqb mark 2) 3 (cond (eqb mark 4) 5 mark))
