-- Laws of the next rows, which are written one after the other.
use mathlib.Core.Path.{◌≡◌, refl, ◌∙◌}
use mathlib.Core.Logic.{◌↔◌, ⊎_elim}
use mathlib.Core.List.{List}
use Prim.Native.Nat.{ℕ, ◌+◌, ◌≤◌, ◌<◌}
use native.Mathlib.Nat.{eq-or-lt_of_le}
use native.Mathlib.Omega.{arith}
use borrow.Author.Count.{below_more}
use lib.ListN.{length, drop, set}
use lib.Seq.{get_or-set_same, get_or-set_other, drop-set-lt}
use Rattle.std.proofs.lemmas.Bool.{cases_lt}
use Rattle.basics.specs.Lists.{at}
use Rattle.line.specs.Line.{LineRows}
use Rattle.line.specs.Cells.{core_bytes, next_at, next_from}
use Rattle.line.specs.Filled.{NextRows}

-- row j starts when row i is over exactly if it is not before row i's next row v
abbrev Over : List ℕ → List ℕ → ℕ → ℕ → Type 0
Over ss es i v = (j : ℕ) → j < length ss → (at es i ≤ at ss j) ↔ (v ≤ j)

-- the next rows of the rows before m are written in t'
pub record NextsMade (ss es : List ℕ) (m : ℕ) (t t' : List ℕ) : Type 0 where
  pub within : (i : ℕ) → i < m → next_at t' i ≤ length ss
  pub over : (i : ℕ) → i < m → Over ss es i (next_at t' i)
  pub rest : drop core_bytes t' ≡ drop core_bytes t

module _ {ss es t : List ℕ} where
  pub nexts_none : NextsMade ss es 0 t t
  nexts_none = record { within = λ i h. absurd (omega arith); over = λ i h. absurd (omega arith); rest = refl }

  pub nexts_more : {m : ℕ} {t' : List ℕ} (v : ℕ) → LineRows ss es → NextsMade ss es m t t' → m < length ss → core_bytes ≤ length t' → m < v → v ≤ length ss
      → ((j : ℕ) → m < j → j < length ss → (at es m ≤ at ss j) ↔ (v ≤ j)) → NextsMade ss es (m + 1) t (set t' (next_from + m) v)
  nexts_more {m} {t'} v line s hm hl hv hw o =
      record {
        within = below_more (λ i. next_at (set t' (next_from + m) v) i ≤ length ss) m (λ i k. rw (before i k) (s.within i k)) (rw here hw);
        over = below_more (λ i. Over ss es i (next_at (set t' (next_from + m) v) i)) m (λ i k. rw (before i k) (s.over i k)) (rw here own);
        rest = drop-set-lt core_bytes t' (next_from + m) v (omega (arith, line.few)) ∙ s.rest;
      }
    where
      here : next_at (set t' (next_from + m) v) m ≡ v
      here = get_or-set_same t' (next_from + m) v 0 (omega (arith, line.few))

      before : (i : ℕ) → i < m → next_at (set t' (next_from + m) v) i ≡ next_at t' i
      before i k = get_or-set_other t' (next_from + m) (next_from + i) v 0 (λ q. omega arith)

      -- a row that is not after row m starts before row m is over
      own : Over ss es m v
      own j k = ⊎_elim (λ w. o j w k) (λ w. (λ q. absurd (omega (arith, q, line.proper m hm, starts j w)), λ q. absurd (omega arith))) (cases_lt m j)
        where
          starts : (j : ℕ) → j ≤ m → at ss j ≤ at ss m
          starts j w = ⊎_elim (λ (e : j ≡ m). rw e (omega arith)) (λ (e : j < m). line.order j m e hm) (eq-or-lt_of_le w)

  pub nexts_done : {m : ℕ} {t' : List ℕ} → NextsMade ss es m t t' → m ≡ length ss → core_bytes ≤ length t' → NextRows ss es t'
  nexts_done s e h = record { long = h; within = λ i k. s.within i (omega arith); over = λ i j k. s.over i (omega arith) j }
