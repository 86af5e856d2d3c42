-- Believed: Windows of a round or a run of R ticks: which ticks a window covers, and when two windows overlap, for both
-- kinds together (docs/RULES.md, Ticks and windows).
use Rattle.std.specs.Prelude.{ℕ, zero, suc, ◌-◌, ◌≤◌, ◌<◌, ◌≡◌, ◌≢◌, Bool, cond, ◌&&◌, ◌||◌, leb, ltb, eqb}
use Rattle.window.specs.Ticks.{distance}
use Rattle.window.specs.declared.Kind.{Kind}
use Rattle.window.specs.declared.Kind.TheVariants.{Round, Run}

-- ---- the meaning

-- the tick after t: in a round 0 comes after the last one, R - 1
abbrev pub next : Kind → ℕ → ℕ → ℕ
next Round R t = cond (eqb (suc t) R) 0 (suc t)
next Run R t = suc t

-- the tick k steps after s
abbrev pub walk : Kind → ℕ → ℕ → ℕ → ℕ
walk kind R s zero = s
walk kind R s (suc k) = next kind R (walk kind R s k)

-- A window covers its start and each tick that the walk on from there comes to before it comes to the end; the end
-- itself is not covered. The end stops the walk only after a step: where it is the start, as it may be in a round,
-- every tick is covered.
pub record Covers (kind : Kind) (R start end t : ℕ) : Type 0 where
  pub steps : ℕ
  pub reached : walk kind R start steps ≡ t
  pub before : (k : ℕ) → 1 ≤ k → k ≤ steps → walk kind R start k ≢ end

-- two windows overlap: both cover some tick
pub record Overlap (kind : Kind) (R s e s' e' : ℕ) : Type 0 where
  pub tick : ℕ
  pub below : tick < R
  pub in_first : Covers kind R s e tick
  pub in_second : Covers kind R s' e' tick

-- What check 6 asks of a start s and an end e. In a round both are ticks, and may be equal; in a run the start comes
-- before the end, which is at most R.
abbrev pub Window : Kind → ℕ → ℕ → ℕ → Type 0
Window Round R s e = (s < R) × (e < R)
Window Run R s e = (s < e) × (e ≤ R)

-- ---- the tests: total, and right for windows that pass check 6 (proofs/Meaning.antt)

abbrev pub is_window : Kind → ℕ → ℕ → ℕ → Bool
is_window Round R s e = ltb s R && ltb e R
is_window Run R s e = ltb s e && leb e R

-- At or after the start and before the end. Where the end does not come after the start, as only in a round, one of the
-- two is enough, and of an end at the start one always holds.
unfoldable pub covers : ℕ → ℕ → ℕ → Bool
covers s e t = cond (ltb s e) (leb s t && ltb t e) (leb s t || ltb t e)

-- How many ticks a window covers: as many as the end lies after the start. In a round an end at the start lies at a
-- distance of 0, and the window covers all R ticks.
unfoldable pub ticks_in : Kind → ℕ → ℕ → ℕ → ℕ
ticks_in Round R s e = cond (eqb s e) R (distance R s e)
ticks_in Run R s e = e - s

-- start and end make a window, and the tick lies in it: its distance from the start is less than the number of ticks
-- that the window covers
unfoldable pub lies_in : Kind → ℕ → ℕ → ℕ → ℕ → Bool
unfolding distance ticks_in
lies_in kind R s e t = is_window kind R s e && ltb t R && ltb (distance R s t) (ticks_in kind R s e)

-- one of the two windows covers the other's start
unfoldable pub overlaps : ℕ → ℕ → ℕ → ℕ → Bool
unfolding covers
overlaps s e s' e' = covers s e s' || covers s' e' s
