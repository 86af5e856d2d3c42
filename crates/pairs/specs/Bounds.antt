-- Inner: How many rows a receiver could hear with one crossing row, whatever the other receiver does, and so what no
-- labels of a pair pass; and what the value of a pair is.
use Rattle.std.specs.Prelude.{◌≡◌, Bool, true, List, [], ◌∷◌, ℕ, suc, ◌+◌, ◌-◌, ◌≤◌, ◌<◌, ◌&&◌, ◌||◌, cond, eqb, length, drop}
use Rattle.basics.specs.Limits.{max_rows}
use Rattle.basics.specs.Lists.{at}
use Rattle.labels.specs.Labels.{heard}
use Rattle.labels.specs.Permission.{permits}
use Rattle.line.specs.Line.{best_from}
use Rattle.line.specs.Filled.{Filled, nexts_of}
use Rattle.pairs.specs.Pairs.{beside, PairFit, LeftAll, twice, with_pair}
use Rattle.pairs.specs.Ready.{Most}

-- how many rows have the label x
unfoldable pub labelled : ℕ → List ℕ → ℕ
labelled x [] = 0
labelled x (y ∷ labels) = cond (eqb y x) 1 0 + labelled x labels

-- labels by which receiver x hears w of the crossing rows, or none where w is m: the rows that it hears are permitted,
-- lie beside w, and no two overlap
pub record HearsWith (positions ends perms : List ℕ) (m x w : ℕ) (labels : List ℕ) : Type 0 where
  pub each : length labels ≡ length positions
  pub allowed : (k : ℕ) → k < length positions → at labels k ≡ x → permits (at perms k) x ≡ true
  pub has : w < m → at labels w ≡ x
  pub alone : (k : ℕ) → k < m → at labels k ≡ x → k ≡ w
  pub beside_it : (k : ℕ) → m ≤ k → k < length positions → at labels k ≡ x → beside positions ends m w k ≡ true
  pub apart : (i j : ℕ) → m ≤ i → i < j → j < length positions → at labels i ≡ x → at labels j ≡ x → at ends i ≤ at positions j

-- whether row k of those that do not cross may be heard by receiver x with w
abbrev pub hearable : List ℕ → List ℕ → List ℕ → ℕ → ℕ → ℕ → ℕ → Bool
hearable positions ends perms m x w k = permits (at perms k) x && beside positions ends m w k

-- From a count of rows and the end of the last of them to the same with one row more: if it overlaps the last one, then
-- in place of it where it ends first.
pub record WithRow (count last start end count' last' : ℕ) : Type 0 where
  pub more : last ≤ start → count' ≡ count + 1
  pub same : start < last → count' ≡ count
  pub in_place : start < last → last' ≤ last
  pub ends : last' ≤ end

-- what comes out for a receiver is at most this: a crossing row, the rows of the line, and one more
abbrev pub max_worth : ℕ
max_worth = max_rows + 2

-- receiver x can hear fewer than r rows with w, whatever the other receiver does
abbrev pub Worth : List ℕ → List ℕ → List ℕ → ℕ → ℕ → ℕ → ℕ → Type 0
Worth positions ends perms m x w r = (labels : List ℕ) → HearsWith positions ends perms m x w labels → suc (labelled x labels) ≤ r

-- labels of the pair (w1, w2) hear fewer than r rows
abbrev pub Bound : List ℕ → List ℕ → List ℕ → ℕ → ℕ → ℕ → ℕ → Type 0
Bound positions ends perms m w1 w2 r = (labels : List ℕ) → PairFit positions ends perms m w1 w2 labels → suc (heard labels) ≤ r

-- the bound for a pair, from what receiver 1 could hear with w1 and receiver 2 with w2: 0 where one of them cannot have
-- its row, and where the pair has one row twice
abbrev pub bound_of : ℕ → ℕ → ℕ → ℕ → ℕ → ℕ
bound_of m w1 w2 one two = cond (eqb one 0 || eqb two 0 || twice m w1 w2) 0 (one + two - 1)

-- What is known of a pair from its value r: the most that its labels hear and one more; where it has any, what it
-- leaves of the permissions stands in `left`, the cells of its line in the space, and the value is that of the line and
-- the pair's rows.
pub record PairValue (positions ends perms : List ℕ) (m w1 w2 : ℕ) (left space : List ℕ) (r : ℕ) : Type 0 where
  pub most : Most (PairFit positions ends perms m w1 w2) r
  pub leaves : 0 < r → LeftAll positions ends perms m w1 w2 (length positions) left
  pub filled : 0 < r → Filled (drop m left) space
  pub value : 0 < r → r ≡ with_pair m w1 w2 (best_from (nexts_of space (length (drop m left))) (drop m left) 0 0 0)
