-- Believed: Ticks of a circle, 0 to R - 1, and how far one lies after another (docs/RULES.md, Ticks and windows).
use Rattle.std.specs.Prelude.{ℕ, ◌+◌, ◌-◌, ◌%◌, ◌<◌}

-- the longest round or run, in ticks
abbrev pub max_ticks : ℕ
max_ticks = 43200

-- two ticks of the circle
pub record Ticks (R start tick : ℕ) : Type 0 where
  pub start_below : start < R
  pub tick_below : tick < R

-- how many ticks after the start the tick lies, going on from tick R - 1 to tick 0: 0 where the two are equal
unfoldable pub distance : ℕ → ℕ → ℕ → ℕ
distance R start tick = (tick + R - start) % R
