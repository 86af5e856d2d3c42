-- The rows of a tape in pieces of five bytes, and the lists that are filled with them.
use Rattle.std.proofs.Common.{ℕ, zero, suc, ◌+◌, ◌*◌, ◌/◌, ◌≤◌, ◌<◌, ◌≡◌, Bool, true, false, cond, ◌&&◌, List, [], ◌∷◌, ◌++◌, map, length, get_or, take, drop, set, refl, arith}
use Rattle.std.proofs.Math.Option.{Option, none, some}
use Rattle.std.proofs.lemmas.List.{length-map, length-take-le, append_assoc, take_more, drop_more, map_push, set_at}
use Rattle.std.specs.Simd.{first_chunks}
use Rattle.std.proofs.Math.Bool.{and-true, and-false}
use Rattle.window.specs.declared.Row.{Row}
use Rattle.basics.specs.Lists.{front}
use Rattle.tape.specs.Commands.{operand_bytes, begins, stop_last}
use Rattle.fleet_tape.specs.Form.{is_row, put, rows_in}
use Rattle.fleet_tape.specs.Scan.{all_rows, row_of}

-- bytes in k pieces and what is left are rows if STOP is left and each piece begins with a row's command
abbrev pub in_pieces : ℕ → List ℕ → Option (List Row)
in_pieces k s = cond (stop_last (drop (k * 5) s) && all_rows (first_chunks 5 k s)) (some (map row_of (first_chunks 5 k s))) none

put_piece : (row : Row) (first last others : Bool) (rows : List Row)
    → cond first (put row (cond (last && others) (some rows) none)) none ≡ cond (last && (first && others)) (some (row ∷ rows)) none
put_piece row true true true rows = refl
put_piece row true true false rows = refl
put_piece row true false others rows = refl
put_piece row false true others rows = refl
put_piece row false false others rows = refl

more_five : (k : ℕ) → suc k * 5 ≡ suc (suc (suc (suc (suc (k * 5)))))
more_five k = omega arith

rows_split : (k : ℕ) (s : List ℕ) → k * 5 ≤ length s → length s < k * 5 + 5 → rows_in s ≡ in_pieces k s
unfolding rows_in begins operand_bytes
rows_split zero [] h g = refl
rows_split zero (x ∷ []) h g = simp and-true
rows_split zero (x ∷ a ∷ []) h g = simp and-false
rows_split zero (x ∷ a ∷ b ∷ []) h g = simp and-false
rows_split zero (x ∷ a ∷ b ∷ c ∷ []) h g = simp and-false
rows_split zero (x ∷ a ∷ b ∷ c ∷ d ∷ rest) h g = absurd (omega arith)
rows_split (suc k) [] h g = absurd (omega arith)
rows_split (suc k) (x ∷ []) h g = absurd (omega arith)
rows_split (suc k) (x ∷ a ∷ []) h g = absurd (omega arith)
rows_split (suc k) (x ∷ a ∷ b ∷ []) h g = absurd (omega arith)
rows_split (suc k) (x ∷ a ∷ b ∷ c ∷ []) h g = absurd (omega arith)
rows_split (suc k) (x ∷ a ∷ b ∷ c ∷ d ∷ rest) h g =
    rw (more_five k, rows_split k rest (omega arith) (omega arith)) (put_piece (row_of (x ∷ a ∷ b ∷ c ∷ d ∷ [])) (is_row x) (stop_last (drop (k * 5) rest)) (all_rows (first_chunks 5 k rest)) (map row_of (first_chunks 5 k rest)))

pub rows_of_pieces : (s : List ℕ) → rows_in s ≡ in_pieces (length s / 5) s
rows_of_pieces s = rows_split (length s / 5) s (omega arith) (omega arith)

-- ---- filling

-- what a list holds once the first i rows are written to the front of it
abbrev pub filled : (Row → ℕ) → List (List ℕ) → ℕ → List ℕ → List ℕ
filled f rows i before = front (map f (map row_of (take i rows))) before

module _ (f : Row → ℕ) (rows : List (List ℕ)) (before : List ℕ) where
  abbrev texts : ℕ → List ℕ
  texts i = map f (map row_of (take i rows))

  length_texts : (i : ℕ) → i ≤ length rows → length (texts i) ≡ i
  length_texts i h = simp (length-map, length-take-le i rows h)

  -- one row more
  pub fill_more : (i : ℕ) (l : List ℕ) (v : ℕ) → l ≡ filled f rows i before → v ≡ f (row_of (get_or rows i [])) → i < length rows → length rows ≤ length before
      → set l i v ≡ filled f rows (i + 1) before
  fill_more i l v e g h room =
      let row = get_or rows i [] in
      let t : texts (i + 1) ≡ texts i ++ f (row_of row) ∷ [] = rw (take_more rows i [] h, map_push row_of, map_push f) in
      rw (e, g, length_texts i (omega arith), drop_more before i 0 (omega arith), set_at (texts i) (get_or before i 0) (drop (i + 1) before) (f (row_of row)) i (length_texts i (omega arith)), length_texts (i + 1) (omega arith), t, append_assoc)
