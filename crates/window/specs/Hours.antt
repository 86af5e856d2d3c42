-- Believed: The receivers' open hours, as they are lent.
use Rattle.std.specs.Prelude.{ℕ, List, [], ◌∷◌, get_or}

-- Each receiver is open from tick p up to tick q: receiver 1 is at r = 0, receiver 2 at r = 1; p at k = 0, q at k = 1.
abbrev pub hour : List (List ℕ) → ℕ → ℕ → ℕ
hour hours r k = get_or (get_or hours r []) k 0

abbrev pub hours_from : ℕ → ℕ → ℕ → ℕ → List (List ℕ)
hours_from p1 q1 p2 q2 = (p1 ∷ q1 ∷ []) ∷ (p2 ∷ q2 ∷ []) ∷ []

-- what stands for the hours in a round: both receivers are always open there, and hours are neither checked nor used
abbrev pub no_hours : List (List ℕ)
no_hours = hours_from 0 0 0 0
