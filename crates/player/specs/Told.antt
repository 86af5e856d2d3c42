-- Believed: What the player tells of one receiver at a tick: that it is idle, or listening to a row, and until which
-- tick (docs/RULES.md, Player).
use Rattle.std.specs.Prelude.{ℕ, ◌≡◌, ◌↔◌, cond}
use mathlib.Core.List.{List, [], ◌∷◌, Memᴰ}
use Rattle.window.specs.declared.Kind.{Kind}
use Rattle.window.specs.Windows.{Covers, lies_in}
use Rattle.plan_tape.specs.Stated.{Listen, listen_of}
use Rattle.player.specs.declared.Receiver.{Receiver}
use Rattle.player.specs.declared.Receiver.TheVariants.{Idle, Listening}

-- what is told of a receiver with these LISTENs on a tape of this kind and R is right at the tick
pub record Tells (kind : Kind) (R tick : ℕ) (listens : List Listen) (told : Receiver) : Type 0 where
  -- listening to a row until `end` exactly if a LISTEN has this row and this end and its window covers the tick,
  pub listening : (row end : ℕ)
      → (told ≡ Listening row end)
      ↔ ((start : ℕ) × Memᴰ (listen_of row start end) listens × Covers kind R start end tick)
  -- and idle exactly if no LISTEN's window does
  pub idle : (told ≡ Idle) ↔ ((w : Listen) → Memᴰ w listens → Covers kind R w.start w.end tick → ⊥)

-- What a step computes, on any LISTENs: the last of them that is a window in which the tick lies, and `told` if none
-- is. On a tape that the writer can make at most one is.
unfoldable pub telling : Kind → ℕ → ℕ → Receiver → List Listen → Receiver
unfolding lies_in
telling kind R tick told [] = told
telling kind R tick told (w ∷ ws) =
    telling kind R tick (cond (lies_in kind R w.start w.end tick) (Listening w.row w.end) told) ws
