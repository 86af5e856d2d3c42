-- A command at the front of bytes: what it means that one stands there, and the bytes from a place on.
use Prim.Native.Nat.{ℕ, zero, suc, ◌+◌, ◌≤◌, ◌<◌}
use mathlib.Core.Path.{◌≡◌, refl, sym, ap, ◌∙◌}
use mathlib.Core.Logic.{◌↔◌, ◌≢◌}
use mathlib.Core.Bool.{true, false, and-false}
use mathlib.Core.List.{List, [], ◌∷◌, ◌++◌}
use native.Mathlib.Nat.{add-zero, add_assoc, add-suc, suc-add}
use native.Mathlib.Omega.{arith}
use borrow.Author.Tests.{lt-ltb, le-ltb, ne_eqb}
use lib.Dec.{eqb}
use lib.ListN.{length, get_or, drop}
use lib.Seq.{get_or-drop, drop-cons}
use Rattle.std.proofs.lemmas.Bool.Decides.{Decides-ltb, Decides-eqb}
use Rattle.basics.proofs.Tests.{and_iff}
use Rattle.tape.specs.Commands.{operand_bytes, begins}
use Rattle.tape.specs.Words.{word_at, Bytes}

pub begins_iff : (c : ℕ) (s : List ℕ) → (begins c s ≡ true) ↔ ((operand_bytes c < length s) × (get_or s 0 0 ≡ c))
unfolding begins
begins_iff c s = and_iff (Decides-ltb (operand_bytes c) (length s)) (Decides-eqb (get_or s 0 0) c)

module _ (c : ℕ) (s : List ℕ) where
  pub long : operand_bytes c < length s → begins c s ≡ eqb (get_or s 0 0) c
  unfolding begins
  long h = rw (lt-ltb (operand_bytes c) (length s) h) refl

  pub fits : operand_bytes c < length s → get_or s 0 0 ≡ c → begins c s ≡ true
  fits h e = (begins_iff c s).1 (h, e)

  pub short : length s ≤ operand_bytes c → begins c s ≡ false
  unfolding begins
  short h = rw (le-ltb (operand_bytes c) (length s) h)

  pub other : get_or s 0 0 ≢ c → begins c s ≡ false
  unfolding begins
  other n = rw (ne_eqb (get_or s 0 0) c n, and-false)

-- ---- bytes

-- the 16-bit operand at a place is that of the bytes from there on
pub word_at_drop : (s : List ℕ) (at : ℕ) (i : ℕ) → word_at s (at + i) ≡ word_at (drop at s) i
word_at_drop s at i = simp (get_or-drop, add_assoc)

pub bytes_drop : (n : ℕ) (s : List ℕ) → Bytes s → Bytes (drop n s)
bytes_drop n s h i = rw (get_or-drop n s i 0) (h (n + i))

-- n bytes from place i on
abbrev pub bytes_from : ℕ → ℕ → List ℕ → List ℕ
bytes_from i zero s = []
bytes_from i (suc n) s = get_or s i 0 ∷ bytes_from (suc i) n s

pub spread : (s : List ℕ) (i n : ℕ) → i + n ≤ length s → drop i s ≡ bytes_from i n s ++ drop (i + n) s
spread s i zero h = rw (add-zero i)
spread s i (suc n) h =
    drop-cons s i 0 (omega arith)
    ∙ ap (λ (t : List ℕ). get_or s i 0 ∷ t) (spread s (suc i) n (omega arith) ∙ ap (λ (k : ℕ). bytes_from (suc i) n s ++ drop k s) (suc-add i n ∙ sym (add-suc i n)))
