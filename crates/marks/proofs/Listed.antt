-- What each mark says, and how each is raised, written out by computing.
use Prim.Native.Nat.{ℕ}
use mathlib.Core.Path.{◌≡◌, refl}
use mathlib.Core.Bool.{Bool, true, false}
use Rattle.marks.specs.Marks.{is_must, mark_allows, raised}

-- whether a row with the mark may be left out, heard by receiver 1, heard by receiver 2
abbrev Allows : ℕ → Bool → Bool → Bool → Type 0
Allows mark out one two = (mark_allows mark 0 ≡ out) × (mark_allows mark 1 ≡ one) × (mark_allows mark 2 ≡ two)

-- even marks may be left out, odd ones not; 2 and 3 have receiver 1 alone, 4 and 5 receiver 2
pub labels_listed :
    Allows 0 true true true
    × Allows 1 false true true
    × Allows 2 true true false
    × Allows 3 false true false
    × Allows 4 true false true
    × Allows 5 false false true
unfolding mark_allows
labels_listed = ((refl, refl, refl), (refl, refl, refl), (refl, refl, refl), (refl, refl, refl), (refl, refl, refl), (refl, refl, refl))

-- odd marks must be heard; above 5 there is no mark
pub musts_listed :
    (is_must 0 ≡ false)
    × (is_must 1 ≡ true)
    × (is_must 2 ≡ false)
    × (is_must 3 ≡ true)
    × (is_must 4 ≡ false)
    × (is_must 5 ≡ true)
    × (is_must 7 ≡ false)
musts_listed = (refl, refl, refl, refl, refl, refl, refl)

-- even marks are raised by one, all others stay
pub raised_listed :
    (raised 0 ≡ 1)
    × (raised 1 ≡ 1)
    × (raised 2 ≡ 3)
    × (raised 3 ≡ 3)
    × (raised 4 ≡ 5)
    × (raised 5 ≡ 5)
    × (raised 6 ≡ 6)
    × (raised 255 ≡ 255)
unfolding raised
raised_listed = (refl, refl, refl, refl, refl, refl, refl, refl)
