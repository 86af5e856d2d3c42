-- How long a plan tape is: 8 bytes, and 6 for each heard row.
use Prim.Native.Nat.{ℕ, zero, suc, ◌+◌, ◌*◌, ◌≤◌}
use mathlib.Core.Path.{◌≡◌, refl}
use mathlib.Core.Bool.{cond}
use mathlib.Core.List.{List, [], ◌∷◌}
use native.Mathlib.Omega.{arith}
use native.Mathlib.Numerals.{add-one}
use native.Mathlib.Nat.{le_refl}
use borrow.Author.Tests.{ne_eqb}
use lib.Dec.{eqb}
use lib.ListN.{length, take, length-append}
use Rattle.basics.specs.Lists.{at}
use Rattle.labels.specs.Labels.{heard, hears}
use Rattle.labels.proofs.Heard.{heard_nil, heard_more, heard_all}
use Rattle.window.specs.declared.Kind.{Kind}
use Rattle.plan_tape.specs.PlanTapes.{rows_by_start, rows_of, listens, plan_tape, tape_bytes}
use Rattle.plan_tape.proofs.Order.{rows_length}

pub listens_length : (starts ends rows : List ℕ) → length (listens starts ends rows) ≡ 6 * length rows
unfolding listens
listens_length starts ends [] = refl
listens_length starts ends (i ∷ rows) = omega (arith, listens_length starts ends rows)

-- a label is 1, is 2, or is not heard
hears_which : (x : ℕ) → cond (eqb x 1) 1 0 + cond (eqb x 2) 1 0 ≡ hears x
unfolding hears
hears_which zero = refl
hears_which (suc zero) = refl
hears_which (suc (suc zero)) = refl
hears_which (suc (suc (suc x))) = simp (ne_eqb (suc (suc (suc x))) 1 (omega arith), ne_eqb (suc (suc (suc x))) 2 (omega arith))

module _ (starts labels : List ℕ) where
  -- the rows of the two receivers are the heard ones
  heard_rows : (n : ℕ) → n ≤ length labels → length (rows_by_start starts labels 1 n) + length (rows_by_start starts labels 2 n) ≡ heard (take n labels)
  unfolding rows_by_start
  heard_rows zero h = omega (arith, heard_nil)
  heard_rows (suc n) h =
      let more : heard (take (suc n) labels) ≡ heard (take n labels) + hears (at labels n) = rw add-one at (heard_more labels n (omega arith)) in
      omega (arith, heard_rows n (omega arith), rows_length starts labels 1 n, rows_length starts labels 2 n, hears_which (at labels n))

  pub listens_heard : (ends : List ℕ) → length (listens starts ends (rows_of starts labels 1)) + length (listens starts ends (rows_of starts labels 2)) ≡ 6 * heard labels
  listens_heard ends =
      omega (
        arith,
        listens_length starts ends (rows_of starts labels 1),
        listens_length starts ends (rows_of starts labels 2),
        heard_rows (length labels) (le_refl (length labels)),
        heard_all labels (length labels) refl,
      )

  pub tape_length : (kind : Kind) (R : ℕ) (ends : List ℕ) → length (plan_tape kind R starts ends labels) ≡ tape_bytes labels
  unfolding plan_tape
  tape_length kind R ends = simp length-append (omega (arith, listens_heard ends))
