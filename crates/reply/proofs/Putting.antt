-- Laws of the numbers and lines that are put into the output.
use Prim.Native.Nat.{ℕ, zero, suc, ◌+◌, ◌/◌, ◌%◌, ◌≤◌, ◌<◌}
use mathlib.Core.Path.{◌≡◌, refl, sym, ap, ◌∙◌, subst}
use mathlib.Core.Bool.{Bool, true, false}
use mathlib.Core.List.{List, [], ◌∷◌, ◌++◌, append_assoc, append-nil}
use native.Mathlib.Omega.{arith}
use native.Mathlib.Numerals.{add-one}
use native.Mathlib.Nat.{add-zero}
use lib.Dec.{ltb}
use lib.ListN.{length, take, length-append}
use lib.Seq.{take-suc, length-take-le}
use borrow.Author.Tests.{lt-ltb, le-ltb, ltb-true, ltb-false}
use Rattle.basics.specs.Lists.{at, Put}
use Rattle.basics.proofs.Puts.{put_then, put_length}
use Rattle.reply.specs.Lines.{digits, decimal, word_line, row_line, row_lines}

-- ---- numbers

pub one_digit : (n : ℕ) → n < 10 → decimal n ≡ (48 + n) ∷ []
unfolding decimal digits
one_digit n h = rw (lt-ltb n 10 h) refl

pub two_digits : (n : ℕ) → 10 ≤ n → n < 100 → decimal n ≡ (48 + n / 10) ∷ (48 + n % 10) ∷ []
unfolding decimal digits
two_digits zero h k = absurd (omega arith)
two_digits (suc n) h k = rw (le-ltb (suc n) 10 h, lt-ltb (suc n / 10) 10 (omega arith)) refl

pub decimal_length : (n : ℕ) → n < 100 → length (decimal n) ≤ 2
decimal_length n h = go (ltb n 10) refl
  where
    go : (b : Bool) → ltb n 10 ≡ b → length (decimal n) ≤ 2
    go true e = rw (one_digit n (ltb-true n 10 e)) (omega arith)
    go false e = rw (two_digits n (ltb-false n 10 e) h) (omega arith)

-- where a number ends
pub number_ends : {l m : List ℕ} {place n r : ℕ} → n < 100 → Put l place (decimal n) m r → (r ≤ place + 2) × (length m ≡ length l)
number_ends {n = n} h p = (omega (arith, p.ends, decimal_length n h), put_length p)

-- ---- lines

pub row_length : (row label : ℕ) → row < 100 → label < 100 → length (row_line row label) ≤ 6
unfolding row_line
row_length row label h k = simp length-append (omega (arith, decimal_length row h, decimal_length label k))

pub word_length : (word : List ℕ) (n : ℕ) → n < 100 → length (word_line word n) ≤ length word + 4
unfolding word_line
word_length word n h = simp length-append (omega (arith, decimal_length n h))

lines_more : (row x : ℕ) (labels : List ℕ) → row_lines row (labels ++ (x ∷ [])) ≡ row_lines row labels ++ row_line (row + length labels) x
unfolding row_lines
lines_more row x [] = append-nil (row_line row x) ∙ ap (λ n. row_line n x) (sym (add-zero row))
lines_more row x (y ∷ labels) =
    let e : suc row + length labels ≡ row + suc (length labels) = omega arith in
    ap (λ l. row_line row y ++ l) (lines_more (suc row) x labels ∙ ap (λ n. row_lines (suc row) labels ++ row_line n x) e)
    ∙ sym (append_assoc (row_line row y) (row_lines (suc row) labels) (row_line (row + suc (length labels)) x))

-- one line more of the rows
pub put_row_more : {l m n : List ℕ} {place j k : ℕ} (labels : List ℕ) (i : ℕ) → Put l place (row_lines 0 (take i labels)) m j → i < length labels
    → Put m j (row_line i (at labels i)) n k → Put l place (row_lines 0 (take (i + 1) labels)) n k
put_row_more {l} {n = n} {place} {k = k} labels i p h q =
    subst (λ (text : List ℕ). Put l place text n k) (sym e) (put_then p q)
  where
    e : row_lines 0 (take (i + 1) labels) ≡ row_lines 0 (take i labels) ++ row_line i (at labels i)
    e =
        let c : 0 + length (take i labels) ≡ i = omega (arith, length-take-le i labels (omega arith)) in
        ap (row_lines 0) (ap (λ n. take n labels) (add-one i) ∙ take-suc labels i 0 h)
        ∙ lines_more 0 (at labels i) (take i labels)
        ∙ ap (λ n. row_lines 0 (take i labels) ++ row_line n (at labels i)) c
