-- Inner: Arcs as positions from a cut: the circle is opened at a tick, and positions are counted from there.
use Rattle.std.specs.Prelude.{ℕ, ◌+◌, ◌-◌, ◌<◌, ◌≡◌, Bool, false, cond, ◌&&◌, ◌||◌, List, leb, length}
use Rattle.basics.specs.Lists.{at}
use Rattle.window.specs.Ticks.{distance}

-- where an arc of n ticks at position p ends: past the end of the circle it goes on at position 0
unfoldable pub end_of : ℕ → ℕ → ℕ → ℕ
end_of C p n = cond (leb (p + n) C) (p + n) (p + n - C)

-- the arc from position p to the end e goes past the cut: only then does it end at or before its start
abbrev pub crosses : ℕ → ℕ → Bool
crosses p e = leb e p

-- two arcs, given by position and end, have no tick in common: by cases, whether the one and the other cross the cut
unfoldable pub clear : ℕ → ℕ → ℕ → ℕ → Bool
clear p e p' e' =
    cond (crosses p e)
    (cond (crosses p' e') false (leb e p' && leb e' p))
    (cond (crosses p' e') (leb e' p && leb e p') (leb e p' || leb e' p))

-- the positions and the ends of the arcs, counted from the tick `cut`
pub record Placed (C cut : ℕ) (starts lengths positions ends : List ℕ) : Type 0 where
  pub each_position : length positions ≡ length starts
  pub each_end : length ends ≡ length starts
  pub position : (i : ℕ) → i < length starts → at positions i ≡ distance C cut (at starts i)
  pub end : (i : ℕ) → i < length starts → at ends i ≡ end_of C (at positions i) (at lengths i)
