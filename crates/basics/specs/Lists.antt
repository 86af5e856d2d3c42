-- Believed: Lists of numbers: the entry at a place, the list of so many entries, a text at the front, an entry taken
-- out, bytes stored at a place, neighbours exchanged.
use Rattle.std.specs.Prelude.{ℕ, zero, suc, ◌+◌, ◌≡◌, List, [], ◌∷◌, ◌++◌, length, get_or, drop}
use Rattle.std.proofs.lemmas.List.Edits.{sets}

-- the entry at place i, counted from 0; 0 past the end
abbrev pub at : List ℕ → ℕ → ℕ
at l i = get_or l i 0

-- the list of f 0, f 1, .., f (n - 1)
unfoldable pub list_of : ℕ → (ℕ → ℕ) → List ℕ
list_of zero f = []
list_of (suc n) f = f 0 ∷ list_of n (λ i. f (suc i))

-- the text stands at the front of a list that held `before`; the places after it are untouched
abbrev pub front : List ℕ → List ℕ → List ℕ
front text before = text ++ drop (length text) before

-- the list without its entry k: later entries move up one
unfoldable pub without : ℕ → List ℕ → List ℕ
without k [] = []
without zero (x ∷ l) = l
without (suc k) (x ∷ l) = x ∷ without k l

-- the bytes are stored from `place` on, the others are left, and `next` is the place after the bytes
pub record Put (before : List ℕ) (place : ℕ) (bytes after : List ℕ) (next : ℕ) : Type 0 where
  pub stored : after ≡ sets before place bytes
  pub ends : next ≡ place + length bytes

-- a list with the entries k and k + 1 exchanged
unfoldable pub swap : ℕ → List ℕ → List ℕ
swap k [] = []
swap k (x ∷ []) = x ∷ []
swap zero (x ∷ (y ∷ l)) = y ∷ x ∷ l
swap (suc k) (x ∷ (y ∷ l)) = x ∷ swap k (y ∷ l)
