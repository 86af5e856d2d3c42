-- Windows written out by computing: which are proper, which ticks they cover, how many they have, which overlap and
-- which are too close.
use mathlib.Core.Path.{◌≡◌, refl}
use mathlib.Core.Bool.{true, false}
use mathlib.Core.List.{[], ◌∷◌, map}
use Rattle.window.specs.declared.Kind.TheVariants.{Round, Run}
use Rattle.window.specs.Ticks.{distance}
use Rattle.window.specs.Windows.{next, is_window, covers, ticks_in, lies_in, overlaps}
use Rattle.window.specs.Gaps.{too_close}

-- after the last tick of a round comes tick 0
nexts_listed : (next Round 100 0 ≡ 1) × (next Round 100 98 ≡ 99) × (next Round 100 99 ≡ 0) × (next Run 100 99 ≡ 100)
nexts_listed = (refl, refl, refl, refl)

-- in a round both are ticks and may be equal; in a run the start comes before the end, which may be R
proper_listed :
    (is_window Round 100 10 30 ≡ true)
    × (is_window Round 100 90 10 ≡ true)
    × (is_window Round 100 90 0 ≡ true)
    × (is_window Round 100 30 30 ≡ true)
    × (is_window Round 100 10 100 ≡ false)
    × (is_window Round 100 100 100 ≡ false)
    × (is_window Run 100 10 30 ≡ true)
    × (is_window Run 100 10 100 ≡ true)
    × (is_window Run 100 10 101 ≡ false)
    × (is_window Run 100 30 30 ≡ false)
    × (is_window Run 100 90 10 ≡ false)
proper_listed = (refl, refl, refl, refl, refl, refl, refl, refl, refl, refl, refl)

-- the start is covered and the end is not, also over the end of the day; an end at the start leaves no tick out
covers_listed :
    (map (λ t. covers 10 30 t) (9 ∷ 10 ∷ 29 ∷ 30 ∷ []) ≡ false ∷ true ∷ true ∷ false ∷ [])
    × (map (λ t. covers 90 10 t) (89 ∷ 90 ∷ 99 ∷ 0 ∷ 9 ∷ 10 ∷ []) ≡ false ∷ true ∷ true ∷ true ∷ true ∷ false ∷ [])
    × (map (λ t. covers 90 0 t) (89 ∷ 90 ∷ 99 ∷ 0 ∷ []) ≡ false ∷ true ∷ true ∷ false ∷ [])
    × (map (λ t. covers 7 8 t) (6 ∷ 7 ∷ 8 ∷ []) ≡ false ∷ true ∷ false ∷ [])
    × (map (λ t. covers 30 30 t) (0 ∷ 29 ∷ 30 ∷ 31 ∷ 99 ∷ []) ≡ true ∷ true ∷ true ∷ true ∷ true ∷ [])
unfolding covers
covers_listed = (refl, refl, refl, refl, refl)

-- how many ticks they have
lengths_listed :
    (ticks_in Round 100 10 30 ≡ 20)
    × (ticks_in Round 100 90 10 ≡ 20)
    × (ticks_in Round 100 90 0 ≡ 10)
    × (ticks_in Round 100 30 30 ≡ 100)
    × (ticks_in Run 100 10 100 ≡ 90)
unfolding ticks_in distance
lengths_listed = (refl, refl, refl, refl, refl)

-- on any numbers: what is no window and what is no tick have nothing in them
lies_listed :
    (lies_in Round 100 90 10 9 ≡ true)
    × (lies_in Round 100 90 10 10 ≡ false)
    × (lies_in Round 100 90 10 109 ≡ false)
    × (lies_in Round 100 30 30 29 ≡ true)
    × (lies_in Run 100 90 10 9 ≡ false)
    × (lies_in Run 100 10 100 99 ≡ true)
    × (lies_in Run 100 10 100 100 ≡ false)
unfolding lies_in
lies_listed = (refl, refl, refl, refl, refl, refl, refl)

-- windows that touch do not overlap, equal ones do
overlaps_listed :
    (overlaps 10 30 20 40 ≡ true)
    × (overlaps 10 30 30 40 ≡ false)
    × (overlaps 10 30 10 30 ≡ true)
    × (overlaps 90 10 0 5 ≡ true)
    × (overlaps 90 10 10 90 ≡ false)
    × (overlaps 30 30 50 51 ≡ true)
unfolding overlaps
overlaps_listed = (refl, refl, refl, refl, refl, refl)

-- with a gap of 5: 5 ticks between are enough and 4 are not, in a round also from the last window on to the first
close_listed :
    (too_close Round 100 5 10 30 35 40 ≡ false)
    × (too_close Round 100 5 10 30 34 40 ≡ true)
    × (too_close Round 100 5 35 40 10 30 ≡ false)
    × (too_close Round 100 5 34 40 10 30 ≡ true)
    × (too_close Round 100 5 0 30 50 95 ≡ false)
    × (too_close Round 100 5 0 30 50 96 ≡ true)
    × (too_close Run 100 5 0 30 50 96 ≡ false)
    × (too_close Run 100 5 10 30 34 40 ≡ true)
    × (too_close Run 100 0 10 30 30 40 ≡ false)
    × (too_close Run 100 1 10 30 30 40 ≡ true)
unfolding too_close
close_listed = (refl, refl, refl, refl, refl, refl, refl, refl, refl, refl)
