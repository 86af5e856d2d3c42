-- Part-day windows: those whose start and end differ. What covering, overlapping and the test for a window say of them
-- in plain words, in which an end at the start has no place: AllDay.antt proves that they say the same.
use Rattle.std.specs.Prelude.{ℕ, ◌≤◌, ◌<◌, ◌≡◌, ◌≢◌, Bool, not, ◌&&◌, leb, ltb, eqb}
use Rattle.window.specs.declared.Kind.{Kind}
use Rattle.window.specs.declared.Kind.TheVariants.{Round, Run}
use Rattle.window.specs.Windows.{walk}

-- walking on from the start, the tick t is reached before the end is
pub record CoversPartDay (kind : Kind) (R start end t : ℕ) : Type 0 where
  pub steps : ℕ
  pub reached : walk kind R start steps ≡ t
  pub before : (k : ℕ) → k ≤ steps → walk kind R start k ≢ end

-- both windows cover some tick
pub record OverlapPartDay (kind : Kind) (R s e s' e' : ℕ) : Type 0 where
  pub tick : ℕ
  pub below : tick < R
  pub in_first : CoversPartDay kind R s e tick
  pub in_second : CoversPartDay kind R s' e' tick

-- in a round start and end are ticks and differ; in a run the start comes before the end, which is at most R
abbrev pub is_part_day_window : Kind → ℕ → ℕ → ℕ → Bool
is_part_day_window Round R s e = ltb s R && ltb e R && not (eqb s e)
is_part_day_window Run R s e = ltb s e && leb e R
