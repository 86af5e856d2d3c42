-- Believed: Lists of labels, one label a row, whatever the rows are: how many rows are heard, the order of label lists,
-- two-track assignments and the best of a class of label lists (docs/RULES.md, Plans and their order).
use Rattle.std.specs.Prelude.{ℕ, zero, suc, ◌+◌, ◌≤◌, ◌<◌, ◌≡◌, ◌≢◌, ◌⊎◌, Bool, cond, List, [], ◌∷◌, length, ltb}
use Rattle.std.proofs.Math.Option.{Option, none, some, map}
use Rattle.basics.specs.Lists.{at}

-- 1 for a label that is 1 or 2, else 0
unfoldable pub hears : ℕ → ℕ
hears zero = 0
hears (suc zero) = 1
hears (suc (suc zero)) = 1
hears (suc (suc (suc x))) = 0

-- how many rows are heard: those labelled 1 or 2
unfoldable pub heard : List ℕ → ℕ
unfolding hears
heard [] = 0
heard (x ∷ labels) = hears x + heard labels

-- a label's place in the order of labels: 1 is first, then 2, then 0; what is no label is last
unfoldable pub place : ℕ → ℕ
place zero = 2
place (suc zero) = 0
place (suc (suc zero)) = 1
place (suc (suc (suc x))) = 3

-- the label list a comes before b: where they first differ, a has the label that is earlier in the order
abbrev pub Earlier : List ℕ → List ℕ → Type 0
Earlier [] b = ⊥
Earlier (x ∷ a) [] = ⊥
Earlier (x ∷ a) (y ∷ b) = (place x < place y) ⊎ ((x ≡ y) × Earlier a b)

-- A two-track assignment (report CS-TR-149-88) of n rows, a label for each: 0 where it is not heard, else its receiver,
-- 1 or 2. Row i may have the label x if `may i x`, and rows i and j of which `clash i j` are not on one receiver.
pub record Assignment (n : ℕ) (may clash : ℕ → ℕ → Type 0) (labels : List ℕ) : Type 0 where
  pub each : length labels ≡ n
  pub allowed : (i : ℕ) → i < n → may i (at labels i)
  pub apart : (i j : ℕ) → i < n → j < n → i ≢ j → at labels i ≢ 0 → at labels i ≡ at labels j → clash i j → ⊥

-- The best of the label lists in C: it hears as many as any, and each other that hears as many comes later.
pub record Best (C : List ℕ → Type 0) (labels : List ℕ) : Type 0 where
  pub member : C labels
  pub most : (rival : List ℕ) → C rival → heard rival ≤ heard labels
  pub first : (rival : List ℕ) → C rival → heard rival ≡ heard labels → rival ≢ labels → Earlier labels rival

-- ---- the best, by trying all

-- of two, the one that hears more, and the first where they hear as many
unfoldable pub better : Option (List ℕ) → Option (List ℕ) → Option (List ℕ)
unfolding heard
better none b = b
better (some a) none = some a
better (some a) (some b) = cond (ltb (heard a) (heard b)) (some b) (some a)

-- a label before the others
abbrev pub put : ℕ → Option (List ℕ) → Option (List ℕ)
put x = map (λ labels. x ∷ labels)

-- Of all lists of n labels that pass a test, the first that hears most: 1, 2 and 0 are tried in each place, in this
-- order.
unfoldable pub first_best : ℕ → (List ℕ → Bool) → Option (List ℕ)
unfolding better
first_best zero p = cond (p []) (some []) none
first_best (suc n) p =
    better (put 1 (first_best n (λ a. p (1 ∷ a))))
    (better (put 2 (first_best n (λ a. p (2 ∷ a))))
    (put 0 (first_best n (λ a. p (0 ∷ a)))))
