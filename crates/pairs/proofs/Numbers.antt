-- The rows that do not cross are a line, and the same line by number: a row starts when another is over exactly if it
-- is not before that one's next row, so the same labels settle both.
use Prim.Native.Nat.{ℕ, ◌+◌, ◌≤◌, ◌<◌}
use mathlib.Core.Path.{◌≡◌, ◌∙◌}
use mathlib.Core.Logic.Iff
use mathlib.Core.Logic.{◌↔◌, ◌⊎◌, inl, inr, ⊎_elim}
use mathlib.Core.List.{List}
use native.Mathlib.Decide.{dec_le}
use native.Mathlib.Omega.{arith}
use lib.ListN.{length, drop, length-drop}
use lib.Seq.{get_or-drop}
use Rattle.basics.specs.Limits.{max_rows}
use Rattle.std.proofs.lemmas.List.{get_or-take, length-take-le}
use Rattle.std.proofs.lemmas.List.FromFn.{length-range_with_len}
use Rattle.basics.specs.Lists.{at}
use Rattle.labels.proofs.Best.{assignment_iff}
use Rattle.arcs.specs.Order.{InOrder, Crossing}
use Rattle.line.specs.Line.{LineRows, Line, Settled, numbers, best_from}
use Rattle.line.specs.Cells.{next_at, next_from}
use Rattle.line.specs.Filled.{NextRows, Numbered, nexts_of}
use Rattle.line.proofs.BestFrom.{number, from_le}
use Rattle.pairs.proofs.Bounds.{rises}

-- the rows that do not cross
pub line_rows : {positions ends : List ℕ} {m : ℕ} → length positions ≤ max_rows → length ends ≡ length positions → Crossing positions ends m → InOrder positions ends
    → LineRows (drop m positions) (drop m ends)
line_rows {positions} {ends} {m} few each_end crossing ordered =
    record {
      few = omega (arith, length-drop m positions);
      each_end = simp length-drop (omega arith);
      order = λ i j h k. simp get_or-drop (rises crossing ordered (m + i) (m + j) (omega arith) (omega arith) (omega (arith, length-drop m positions)));
      proper = λ i h. simp get_or-drop (crossing.rest (m + i) (omega arith) (omega (arith, length-drop m positions)));
    }

not_either : {P P' Q Q' : Type 0} → P ↔ P' → Q ↔ Q' → (P ⊎ Q → ⊥) ↔ (P' ⊎ Q' → ⊥)
not_either f g = (λ c s. c (⊎_elim (λ p. inl (f.1 p)) (λ q. inr (g.1 q)) s), λ c s. c (⊎_elim (λ p. inl (f.0 p)) (λ q. inr (g.0 q)) s))

module _ {starts ends space : List ℕ} (L : LineRows starts ends) (N : NextRows starts ends space) (perms : List ℕ) (each : length perms ≡ length starts) where
  -- what the line program is lent
  pub numbered : Numbered perms space
  numbered =
      record {
        few = omega (arith, L.few);
        long = N.long;
        later = λ j h. later j (omega arith) (dec_le (next_at space j) j);
        within = λ j h. omega (arith, N.within j (omega arith));
      }
    where
      later : (j : ℕ) → j < length starts → Dec (next_at space j ≤ j) → j < next_at space j
      later j h (yes k) = absurd (omega (arith, L.proper j h, (N.over j j h h).1 k))
      later j h (no k) = omega arith

  length_numbers : length (numbers (length perms)) ≡ length starts
  length_numbers = length-range_with_len 0 (length perms) ∙ each

  at_nexts : (i : ℕ) → i < length starts → at (nexts_of space (length perms)) i ≡ next_at space i
  at_nexts i h = get_or-take (length perms) (drop next_from space) i 0 (omega arith) ∙ get_or-drop next_from space i 0

  at_numbers : (i : ℕ) → i < length starts → at (numbers (length perms)) i ≡ i
  at_numbers i h = number ends perms i (omega arith)

  pub line_numbers : Line (numbers (length perms)) (nexts_of space (length perms)) perms
  line_numbers =
      record {
        on_line = record {
          few = omega (arith, length_numbers, L.few);
          each_end = omega (arith, length_numbers, length-take-le (length perms) (drop next_from space) (omega (arith, length-drop next_from space, N.long, L.few)));
          order = λ i j h k. omega (arith, length_numbers, at_numbers i (omega (arith, length_numbers)), at_numbers j (omega (arith, length_numbers)));
          proper = λ i h. omega (arith, at_numbers i (omega (arith, length_numbers)), at_nexts i (omega (arith, length_numbers)), numbered.later i (omega (arith, length_numbers)));
        };
        each_perm = omega (arith, length_numbers);
      }

  -- row j starts when row i is over, by number and by ticks
  over_iff : (i j : ℕ) → i < length starts → j < length starts
      → (at (nexts_of space (length perms)) i ≤ at (numbers (length perms)) j) ↔ (at ends i ≤ at starts j)
  over_iff i j h k = rw (at_nexts i h, at_numbers j k) (Iff.symm (N.over i j h k))

  pub settled_iff : (l : List ℕ) → Settled (numbers (length perms)) (nexts_of space (length perms)) perms l ↔ Settled starts ends perms l
  settled_iff l = rw length_numbers (assignment_iff (length starts) (λ i x h. Iff.rfl) (λ i j h k d. not_either (over_iff i j h k) (over_iff j i k h)) l)

  pub value_le : best_from (nexts_of space (length perms)) perms 0 0 0 ≤ max_rows + 1
  value_le = omega (arith, from_le (nexts_of space (length perms)) perms 0 0 0, L.few)
