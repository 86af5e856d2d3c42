-- The LISTENs of a tape one after the other: what is known of bytes where a LISTEN stands first, and where none does.
use Prim.Native.Nat.{ℕ, ◌<◌}
use mathlib.Core.Path.{◌≡◌, refl, sym, ap, ◌∙◌}
use mathlib.Core.Bool.{true, false}
use mathlib.Core.List.{List, [], ◌∷◌}
use native.Mathlib.Omega.{arith}
use borrow.Author.Tests.{eq-eqb, lt-ltb}
use lib.ListN.{length, get_or, drop}
use Rattle.tape.specs.Commands.{LISTEN, operand_bytes, begins, after}
use Rattle.tape.specs.Words.{word_at}
use Rattle.tape.proofs.Heads.{begins_iff}
use Rattle.plan_tape.specs.Stated.{listen_of, listens_in, after_listens}
use Rattle.plan_reader.specs.declared.Listen.{Listen as Read}
use Rattle.plan_reader.specs.Items.{stated_listen, listen_at}

-- ---- LISTENs at the front of bytes

-- a LISTEN stands first: it is the first of those read, and the rest is read after it
listens_more : (s : List ℕ) → 5 < length s → get_or s 0 0 ≡ LISTEN
    → (listens_in s ≡ listen_of (get_or s 1 0) (word_at s 2) (word_at s 4) ∷ listens_in (drop 6 s)) × (after_listens s ≡ after_listens (drop 6 s))
unfolding listens_in after_listens
listens_more [] h e = absurd (omega arith)
listens_more (command ∷ []) h e = absurd (omega arith)
listens_more (command ∷ row ∷ []) h e = absurd (omega arith)
listens_more (command ∷ row ∷ a ∷ []) h e = absurd (omega arith)
listens_more (command ∷ row ∷ a ∷ b ∷ []) h e = absurd (omega arith)
listens_more (command ∷ row ∷ a ∷ b ∷ c ∷ []) h e = absurd (omega arith)
listens_more (command ∷ row ∷ a ∷ b ∷ c ∷ d ∷ rest) h e = let t = eq-eqb command LISTEN e in (rw t, rw t)

-- no LISTEN stands first: none is read, and all is left
pub no_listen : (s : List ℕ) → begins LISTEN s ≡ false → (listens_in s ≡ []) × (after_listens s ≡ s)
unfolding listens_in after_listens begins operand_bytes
no_listen [] e = (refl, refl)
no_listen (command ∷ []) e = (refl, refl)
no_listen (command ∷ row ∷ []) e = (refl, refl)
no_listen (command ∷ row ∷ a ∷ []) e = (refl, refl)
no_listen (command ∷ row ∷ a ∷ b ∷ []) e = (refl, refl)
no_listen (command ∷ row ∷ a ∷ b ∷ c ∷ []) e = (refl, refl)
no_listen (command ∷ row ∷ a ∷ b ∷ c ∷ d ∷ rest) e =
    let t = rw (lt-ltb 5 (length (command ∷ row ∷ a ∷ b ∷ c ∷ d ∷ rest)) (omega arith)) at e in
    (rw t, rw t)

-- ---- a LISTEN that is taken

module _ (s : List ℕ) where
  pub listen_taken : {w : Read} {rest : List ℕ} → begins LISTEN s ≡ true → w ≡ listen_at s → rest ≡ after LISTEN s
      → (listens_in s ≡ stated_listen w ∷ listens_in rest) × (after_listens s ≡ after_listens rest)
  unfolding operand_bytes
  listen_taken b e r =
      let begun = (begins_iff LISTEN s).0 b in
      let front = listens_more s begun.0 begun.1 in
      (front.0 ∙ (λ j. stated_listen (sym e j) ∷ listens_in (sym r j)), front.1 ∙ ap after_listens (sym r))
