-- Inner: Arcs of a circle of C ticks, when two of them meet, and two-track assignments of arcs under permissions.
use Rattle.std.specs.Prelude.{ℕ, ◌+◌, ◌%◌, ◌≤◌, ◌<◌, ◌≡◌, true, List, length}
use Rattle.basics.specs.Limits.{max_rows}
use Rattle.basics.specs.Lists.{at}
use Rattle.labels.specs.Labels.{Assignment}
use Rattle.labels.specs.Permission.{permits}

-- the arc of n ticks from s on covers the tick t: t is reached from s by fewer than n steps
pub record Covers (C s n t : ℕ) : Type 0 where
  pub steps : ℕ
  pub short : steps < n
  pub reached : (s + steps) % C ≡ t

-- two arcs meet: some tick of the circle lies in both
pub record Meet (C s n s' n' : ℕ) : Type 0 where
  pub tick : ℕ
  pub below : tick < C
  pub in_first : Covers C s n tick
  pub in_second : Covers C s' n' tick

-- rows that tracks can be assigned to: at most 64 arcs of a circle of C ticks, each of at least one tick and at most
-- the whole circle
pub record Arcs (C : ℕ) (starts lengths : List ℕ) : Type 0 where
  pub some : 1 ≤ C
  pub few : length starts ≤ max_rows
  pub each : length lengths ≡ length starts
  pub start : (i : ℕ) → i < length starts → at starts i < C
  pub proper : (i : ℕ) → i < length starts → 1 ≤ at lengths i
  pub whole : (i : ℕ) → i < length starts → at lengths i ≤ C

-- labels that leave no two meeting arcs of different rows on one receiver, and obey every permission
abbrev pub Assigned : ℕ → List ℕ → List ℕ → List ℕ → List ℕ → Type 0
Assigned C starts lengths perms =
    Assignment (length starts) (λ i x. permits (at perms i) x ≡ true) (λ i j. Meet C (at starts i) (at lengths i) (at starts j) (at lengths j))
