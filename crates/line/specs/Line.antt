-- Inner: Rows on a line, in order of their starts, and the most of them that two receivers can hear.
use Rattle.std.specs.Prelude.{◌≡◌, ◌⊎◌, List, [], ◌∷◌, Bool, true, false, ◌&&◌, ℕ, zero, suc, ◌≤◌, ◌<◌, max, leb, length, drop}
use Rattle.std.specs.List.{range_with_len}
use Rattle.basics.specs.Limits.{max_rows}
use Rattle.basics.specs.Lists.{at}
use Rattle.labels.specs.Labels.{Assignment}
use Rattle.labels.specs.Permission.{permits}

pub record Row : Type 0 where
  pub start : ℕ
  pub end : ℕ
  pub perm : ℕ

abbrev pub row : ℕ → ℕ → ℕ → Row
row s e p = record { start = s; end = e; perm = p }

-- the rows of three lists side by side
unfoldable pub rows : List ℕ → List ℕ → List ℕ → List Row
rows [] es ps = []
rows (s ∷ ss) [] ps = []
rows (s ∷ ss) (e ∷ es) [] = []
rows (s ∷ ss) (e ∷ es) (p ∷ ps) = row s e p ∷ rows ss es ps

-- the value where a test holds, else 0: it cannot be
abbrev pub when : Bool → ℕ → ℕ
when true v = v
when false v = 0

-- one row more is heard; what cannot be stays so
unfoldable pub gain : ℕ → ℕ
gain zero = 0
gain (suc v) = suc (suc v)

-- one row of start s and permission p, from the values of leaving it out, of receiver 1, busy until e1, and of receiver
-- 2, busy until e2
unfoldable pub cell : ℕ → ℕ → ℕ → ℕ → ℕ → ℕ → ℕ → ℕ
cell p s e1 e2 v0 v1 v2 = max (when (permits p 0) v0) (max (when (permits p 1 && leb e1 s) (gain v1)) (when (permits p 2 && leb e2 s) (gain v2)))

-- 0 where the rows cannot all be settled, and c + 1 where c is the most that can be heard, receiver 1 busy until e1 and
-- receiver 2 until e2
unfoldable pub best : List Row → ℕ → ℕ → ℕ
best [] e1 e2 = 1
best (r ∷ rs) e1 e2 = cell r.perm r.start e1 e2 (best rs e1 e2) (best rs r.end e2) (best rs e1 r.end)

-- rows on a line: at most 64, in order of their starts, none empty
pub record LineRows (starts ends : List ℕ) : Type 0 where
  pub few : length starts ≤ max_rows
  pub each_end : length ends ≡ length starts
  pub order : (i j : ℕ) → i < j → j < length starts → at starts i ≤ at starts j
  pub proper : (i : ℕ) → i < length starts → at starts i < at ends i

-- the same, with a permission for each
pub record Line (starts ends perms : List ℕ) : Type 0 where
  pub on_line : LineRows starts ends
  pub each_perm : length perms ≡ length starts

-- labels that obey every permission and leave no two rows of one receiver with a tick in common
abbrev pub Settled : List ℕ → List ℕ → List ℕ → List ℕ → Type 0
Settled starts ends perms =
    Assignment (length starts) (λ i x. permits (at perms i) x ≡ true) (λ i j. (at ends i ≤ at starts j) ⊎ (at ends j ≤ at starts i) → ⊥)

-- ---- rows by number: row j starts at j and is over at its next row, the first that starts when it is over

-- the starts of n rows by number
abbrev pub numbers : ℕ → List ℕ
numbers n = range_with_len 0 n

-- what is best of the rows from j on, receiver 1 free from row x on and receiver 2 from row y on
abbrev pub best_from : List ℕ → List ℕ → ℕ → ℕ → ℕ → ℕ
best_from nexts perms j x y = best (drop j (rows (numbers (length perms)) nexts perms)) x y
