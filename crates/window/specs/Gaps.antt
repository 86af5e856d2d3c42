-- Believed: When two windows are too close for one receiver, which needs g ticks between them, for a round and a run
-- together (docs/RULES.md, Gap).
use Rattle.std.specs.Prelude.{ℕ, ◌+◌, ◌<◌, ◌≡◌, Bool, cond, ◌&&◌, ◌||◌, leb, ltb}
use Rattle.window.specs.declared.Kind.{Kind}
use Rattle.window.specs.declared.Kind.TheVariants.{Round, Run}
use Rattle.window.specs.Windows.{walk, Overlap, covers}

-- the longest gap; a longer one is refused with 14
abbrev pub max_gap : ℕ
max_gap = 600

-- ---- the meaning

-- Fewer than g ticks lie between the end of one window and the start of the other: walking on from that end, the start
-- is reached in fewer than g steps, in none where the windows touch. In a round the walk goes on past the last tick, in
-- a run it does not come back.
pub record Near (kind : Kind) (R g end start : ℕ) : Type 0 where
  pub steps : ℕ
  pub fewer : steps < g
  pub reached : walk kind R end steps ≡ start

-- two windows overlap, or fewer than g ticks lie between the end of one of them and the start of the other
pub data TooClose (kind : Kind) (R g s e s' e' : ℕ) : Type 0 where
  overlap : Overlap kind R s e s' e' → TooClose kind R g s e s' e'
  after : Near kind R g e s' → TooClose kind R g s e s' e'
  before : Near kind R g e' s → TooClose kind R g s e s' e'

-- ---- the test: total, and right for windows that pass check 6 (proofs/Gaps.antt)

-- the start comes at or after the end, by fewer than g ticks; in a round also once past the last tick
unfoldable pub is_near : Kind → ℕ → ℕ → ℕ → ℕ → Bool
is_near Round R g end start = ltb (cond (leb end start) start (start + R)) (end + g)
is_near Run R g end start = leb end start && ltb start (end + g)

-- the window, or one of the g ticks after it, is at the tick
unfoldable pub reaches : Kind → ℕ → ℕ → ℕ → ℕ → ℕ → Bool
unfolding covers is_near
reaches kind R g s e t = covers s e t || is_near kind R g e t

-- one of the two windows, with the g ticks after it, reaches the other's start
unfoldable pub too_close : Kind → ℕ → ℕ → ℕ → ℕ → ℕ → ℕ → Bool
unfolding reaches
too_close kind R g s e s' e' = reaches kind R g s e s' || reaches kind R g s' e' s
