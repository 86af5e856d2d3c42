-- Labels, their order and the best of few lists, written out by computing.
use Prim.Native.Nat.{ℕ}
use mathlib.Core.Path.{◌≡◌, refl}
use mathlib.Core.Logic.{inl, inr}
use mathlib.Core.Bool.{Bool, true, not, ◌&&◌, ◌||◌}
use mathlib.Core.List.{List, [], ◌∷◌}
use mathlib.Core.Option.{none, some}
use native.Mathlib.Omega.{arith}
use lib.Dec.{eqb}
use Rattle.basics.specs.Lists.{at}
use Rattle.labels.specs.Labels.{hears, heard, place, Earlier, first_best}

-- labels 1 and 2 are heard
heard_listed : (hears 0 ≡ 0) × (hears 1 ≡ 1) × (hears 2 ≡ 1) × (hears 3 ≡ 0) × (heard (1 ∷ 0 ∷ 2 ∷ 3 ∷ 2 ∷ 0 ∷ []) ≡ 3)
unfolding hears heard
heard_listed = (refl, refl, refl, refl, refl)

-- 1 comes before 2, and 2 before 0
places_listed : (place 1 ≡ 0) × (place 2 ≡ 1) × (place 0 ≡ 2) × (place 3 ≡ 3)
unfolding place
places_listed = (refl, refl, refl, refl)

-- the first row where two lists differ decides, whatever comes after it
order_listed :
    Earlier (1 ∷ 0 ∷ []) (2 ∷ 1 ∷ [])
    × Earlier (2 ∷ 0 ∷ []) (0 ∷ 1 ∷ [])
    × Earlier (1 ∷ 2 ∷ 0 ∷ 1 ∷ []) (1 ∷ 0 ∷ 2 ∷ 1 ∷ [])
unfolding place
order_listed = (inl (omega arith), inl (omega arith), inr (refl, inl (omega arith)))

-- ---- the best of lists of three labels

-- whether no two neighbours are on one receiver, and the first row and the last are not
abbrev ring : List ℕ → Bool
ring l = apart (at l 0) (at l 1) && apart (at l 1) (at l 2) && apart (at l 2) (at l 0)
  where
    apart : ℕ → ℕ → Bool
    apart x y = eqb x 0 || not (eqb x y)

-- of all lists the first; of three rows of which any two clash; where the first of them must be left out; and none
best_listed :
    (first_best 3 (λ l. true) ≡ some (1 ∷ 1 ∷ 1 ∷ []))
    × (first_best 3 ring ≡ some (1 ∷ 2 ∷ 0 ∷ []))
    × (first_best 3 (λ l. ring l && eqb (at l 0) 0) ≡ some (0 ∷ 1 ∷ 2 ∷ []))
    × (first_best 3 (λ l. not (eqb (at l 1) (at l 1))) ≡ none)
unfolding first_best
best_listed = (refl, refl, refl, refl)
