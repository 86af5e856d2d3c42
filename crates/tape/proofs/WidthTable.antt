-- The widths of the operands as a table by command byte, as the code has it.
use Prim.Native.Nat.{ℕ}
use mathlib.Core.List.{List, ◌∷◌, ◌++◌}
use lib.ListN.{replicate}

-- sixteen places a line, from command 00
abbrev pub widths : List ℕ
widths =
    replicate 16 0
    ++ (2 ∷ 2 ∷ replicate 14 0)
    ++ (1 ∷ replicate 15 0)
    ++ (5 ∷ replicate 15 0)
    ++ (replicate 6 4 ++ replicate 10 0)
    ++ (8 ∷ replicate 15 0)
    ++ replicate 32 0
