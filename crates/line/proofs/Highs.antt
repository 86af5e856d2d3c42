-- Laws of the rows from which on a receiver can be free: they are written one after the other, each of both receivers.
use mathlib.Core.Path.{◌≡◌, refl, ◌∙◌}
use mathlib.Core.List.{List}
use mathlib.Core.Bool.{true}
use Prim.Native.Nat.{ℕ, ◌+◌, ◌≤◌, ◌<◌, max}
use native.Mathlib.Omega.{arith}
use borrow.Author.Count.{below_more}
use lib.ListN.{length, drop, set, length-set}
use lib.Seq.{get_or-set_same, get_or-set_other, drop-set-lt}
use Rattle.basics.specs.Limits.{max_rows}
use Rattle.basics.specs.Lists.{at}
use Rattle.labels.specs.Permission.{permits}
use Rattle.line.specs.declared.Receiver.{Receiver}
use Rattle.line.specs.declared.Receiver.TheVariants.{One, Two}
use Rattle.line.specs.Cells.{line_bytes, core_bytes, high_at, next_at, cell_bytes, next_from}
use Rattle.line.specs.Filled.{Numbered, Highs}
use Rattle.line.specs.Turns.{label}
use Rattle.line.proofs.Turns.{rest_at}

-- the bytes of the rows before m are written in t', and h is the last of the next rows of those that may have the
-- receiver
pub record HighsMade (perms : List ℕ) (x : Receiver) (m h : ℕ) (t t' : List ℕ) : Type 0 where
  pub few : h ≤ length perms
  pub last : (i : ℕ) → i < m → permits (at perms i) (label x) ≡ true → next_at t i ≤ h
  pub low : (j : ℕ) → j < m → j ≤ high_at t' (label x) j
  pub within : (j : ℕ) → j < m → high_at t' (label x) j ≤ length perms
  pub most : (j : ℕ) → j < m → high_at t' (label x) j ≤ max h m
  pub rising : (i j : ℕ) → i ≤ j → j < m → high_at t' (label x) i ≤ high_at t' (label x) j
  pub next : (i j : ℕ) → i < j → j < m → permits (at perms i) (label x) ≡ true → next_at t i ≤ high_at t' (label x) j

highs_none : {perms : List ℕ} {x : Receiver} {t : List ℕ} → HighsMade perms x 0 0 t t
highs_none =
    record {
      few = omega arith;
      last = λ i k. absurd (omega arith);
      low = λ j k. absurd (omega arith);
      within = λ j k. absurd (omega arith);
      most = λ j k. absurd (omega arith);
      rising = λ i j w k. absurd (omega arith);
      next = λ i j w k. absurd (omega arith);
    }

-- one row more, of one receiver, where h' is the last of the next rows then
module _ {perms : List ℕ} (x : Receiver) {m h : ℕ} {t t' : List ℕ} (h' : ℕ) (t'' : List ℕ) (s : HighsMade perms x m h t t') (hm : m < length perms)
    (here : high_at t'' (label x) m ≡ max h m) (before : (j : ℕ) → j < m → high_at t'' (label x) j ≡ high_at t' (label x) j) where
  highs_more : h ≤ h' → h' ≤ length perms → (permits (at perms m) (label x) ≡ true → next_at t m ≤ h') → HighsMade perms x (m + 1) h' t t''
  highs_more hh hw hp =
      record {
        few = hw;
        last = below_more (λ i. permits (at perms i) (label x) ≡ true → next_at t i ≤ h') m (λ i k w. omega (arith, s.last i k w)) hp;
        low = below_more (λ j. j ≤ high_at t'' (label x) j) m (λ j k. rw (before j k) (s.low j k)) (rw here (omega arith));
        within = below_more (λ j. high_at t'' (label x) j ≤ length perms) m (λ j k. rw (before j k) (s.within j k)) (rw here (omega (arith, s.few)));
        most = below_more (λ j. high_at t'' (label x) j ≤ max h' (m + 1)) m (λ j k. rw (before j k) (omega (arith, s.most j k))) (rw here (omega arith));
        rising = λ i j w k. below_more (λ j. i ≤ j → high_at t'' (label x) i ≤ high_at t'' (label x) j) m
            (λ j k w. rw (before i (omega arith), before j k) (s.rising i j w k))
            (λ w. rw here (below_more (λ i. high_at t'' (label x) i ≤ max h m) m (λ i k. rw (before i k) (s.most i k)) (rw here (omega arith)) i (omega arith)))
            j k w;
        next = λ i j w k. below_more (λ j. i < j → permits (at perms i) (label x) ≡ true → next_at t i ≤ high_at t'' (label x) j) m
            (λ j k w p. rw (before j k) (s.next i j w k p))
            (λ w p. rw here (omega (arith, s.last i w p)))
            j k w;
      }

highs_done : {perms : List ℕ} (x : Receiver) {m h : ℕ} {t t' : List ℕ} → HighsMade perms x m h t t' → m ≡ length perms → drop line_bytes t' ≡ drop line_bytes t → Highs perms t' (label x)
highs_done {perms} x {m} {h} {t} {t'} s e rest =
    record {
      low = λ j k. s.low j (omega arith);
      within = λ j k. s.within j (omega arith);
      rising = λ i j w k. s.rising i j w (omega arith);
      next = λ i j w k p. rw (rest_at t t' line_bytes (next_from + i) rest (omega arith)) (s.next i j w (omega arith) p);
    }

-- ---- both receivers

pub record BothMade (perms : List ℕ) (m h1 h2 : ℕ) (t t' : List ℕ) : Type 0 where
  pub one : HighsMade perms One m h1 t t'
  pub two : HighsMade perms Two m h2 t t'
  pub rest : drop line_bytes t' ≡ drop line_bytes t

pub both_none : {perms t : List ℕ} → BothMade perms 0 0 0 t t
both_none = record { one = highs_none; two = highs_none; rest = refl }

-- `next` is the row's next row; that it stands in the space is known of the space at the beginning
pub both_more : {perms t t' : List ℕ} {m h1 h2 : ℕ} (h1' h2' v1 v2 : ℕ) → BothMade perms m h1 h2 t t' → Numbered perms t → m < length perms → core_bytes ≤ length t' → v1 ≡ max h1 m → v2 ≡ max h2 m
    → h1 ≤ h1' → h1' ≤ max h1 (next_at t' m) → (permits (at perms m) 1 ≡ true → next_at t' m ≤ h1')
    → h2 ≤ h2' → h2' ≤ max h2 (next_at t' m) → (permits (at perms m) 2 ≡ true → next_at t' m ≤ h2')
    → BothMade perms (m + 1) h1' h2' t (set (set t' (cell_bytes + m) v1) (cell_bytes + max_rows + m) v2)
both_more {perms} {t} {t'} {m} {h1} {h2} h1' h2' v1 v2 s n hm hl e1 e2 r1 b1 p1 r2 b2 p2 =
    record {
      one =
          highs_more One h1' (set (set t' (cell_bytes + m) v1) (cell_bytes + max_rows + m) v2) s.one hm
          (get_or-set_other (set t' (cell_bytes + m) v1) (cell_bytes + max_rows + m) (cell_bytes + m) v2 0 (λ q. omega arith) ∙ get_or-set_same t' (cell_bytes + m) v1 0 (omega (arith, few)) ∙ e1)
          (λ j k. get_or-set_other (set t' (cell_bytes + m) v1) (cell_bytes + max_rows + m) (cell_bytes + j) v2 0 (λ q. omega (arith, few)) ∙ get_or-set_other t' (cell_bytes + m) (cell_bytes + j) v1 0 (λ q. omega arith))
          r1 (omega (arith, b1, s.one.few, n.within m hm, same)) (λ p. omega (arith, p1 p, same));
      two =
          highs_more Two h2' (set (set t' (cell_bytes + m) v1) (cell_bytes + max_rows + m) v2) s.two hm
          (get_or-set_same (set t' (cell_bytes + m) v1) (cell_bytes + max_rows + m) v2 0 (omega (arith, few, length-set t' (cell_bytes + m) v1)) ∙ e2)
          (λ j k. get_or-set_other (set t' (cell_bytes + m) v1) (cell_bytes + max_rows + m) (cell_bytes + max_rows + j) v2 0 (λ q. omega arith) ∙ get_or-set_other t' (cell_bytes + m) (cell_bytes + max_rows + j) v1 0 (λ q. omega (arith, few)))
          r2 (omega (arith, b2, s.two.few, n.within m hm, same)) (λ p. omega (arith, p2 p, same));
      rest = drop-set-lt line_bytes (set t' (cell_bytes + m) v1) (cell_bytes + max_rows + m) v2 (omega (arith, few)) ∙ drop-set-lt line_bytes t' (cell_bytes + m) v1 (omega (arith, few)) ∙ s.rest;
    }
  where
    few : m < max_rows
    few = omega (arith, n.few)

    same : next_at t' m ≡ next_at t m
    same = rest_at t t' line_bytes (next_from + m) s.rest (omega arith)

pub both_done : {perms : List ℕ} {m h1 h2 : ℕ} {t t' : List ℕ} → BothMade perms m h1 h2 t t' → m ≡ length perms → (x : Receiver) → Highs perms t' (label x)
both_done s e One = highs_done One s.one e s.rest
both_done s e Two = highs_done Two s.two e s.rest
