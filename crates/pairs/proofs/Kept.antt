-- What stays of the working space from pair to pair: the worths and the next rows, and of a pair that reaches the cap
-- what the line program left.
use Prim.Native.Nat.{ℕ, ◌+◌, ◌-◌, ◌*◌, ◌≤◌, ◌<◌, min}
use mathlib.Core.Path.{◌≡◌, refl, sym, ap, ◌∙◌}
use mathlib.Core.Bool.{Bool, true, false}
use mathlib.Core.List.{List}
use native.Mathlib.Omega.{arith}
use lib.ListN.{length, take, drop}
use Rattle.std.proofs.lemmas.List.{get_or-take}
use Rattle.basics.specs.Limits.{max_rows}
use Rattle.basics.specs.Lists.{at}
use Rattle.line.specs.Line.{best_from}
use Rattle.line.specs.Cells.{across, cell_at, high_at, worth_at, found_at, next_at, cell_bytes, line_bytes, found_from, next_from}
use Rattle.line.specs.Filled.{Numbered, Highs, Made, Filled}
use Rattle.line_labels.specs.Found.{LineFound}
use Rattle.pairs.specs.Finding.{SameButFound, Begun}
use Rattle.pairs.proofs.Trials.{same_later, entry_kept}

same_before : (n : ℕ) (s t : List ℕ) → take n t ≡ take n s → (i : ℕ) → i < n → at t i ≡ at s i
same_before n s t e i h = sym (get_or-take n t i 0 h) ∙ ap (λ (l : List ℕ). at l i) e ∙ get_or-take n s i 0 h

-- the worths and the next rows are as they were
pub record WorthsKept (s t : List ℕ) : Type 0 where
  pub worths : (w : ℕ) → w ≤ max_rows → worth_at t w ≡ worth_at s w
  pub nexts : drop next_from t ≡ drop next_from s

pub kept_then : {s t u : List ℕ} → WorthsKept s t → WorthsKept t u → WorthsKept s u
kept_then a b = record { worths = λ w h. b.worths w h ∙ a.worths w h; nexts = b.nexts ∙ a.nexts }

pub pair_kept : (s t : List ℕ) → drop line_bytes t ≡ drop line_bytes s → WorthsKept s t
pair_kept s t e = record { worths = λ w h. entry_kept line_bytes s t e w; nexts = same_later line_bytes next_from s t (omega arith) e }

pub others_kept : (s t : List ℕ) → SameButFound s t → WorthsKept s t
others_kept s t S = record { worths = λ w h. same_before found_from s t S.before (line_bytes + w) (omega arith); nexts = S.after }

pub line_kept : {perms order s t : List ℕ} → LineFound perms order s t → WorthsKept s t
line_kept L = record { worths = λ w h. L.kept (line_bytes + w) (omega arith) (omega arith); nexts = L.rest }

pub found_kept : (s t : List ℕ) → drop line_bytes t ≡ drop line_bytes s → (r : ℕ) → found_at t r ≡ found_at s r
found_kept s t e = entry_kept found_from s t (same_later line_bytes found_from s t (omega arith) e)

pub begun_others : {reached : Bool} {s t : List ℕ} → Begun reached s t → SameButFound s t
begun_others {reached = true} B = rw (B.yes refl) (record { before = refl; after = refl })
begun_others {reached = false} B = (B.none refl).others

-- the next rows, and what the line program left
module _ (s t : List ℕ) (each : length t ≡ length s) (nexts : drop next_from t ≡ drop next_from s) where
  next_same : (j : ℕ) → next_at t j ≡ next_at s j
  next_same j = entry_kept next_from s t nexts j

  module _ (before : take found_from t ≡ take found_from s) where
    high_same : (x j : ℕ) → x ≤ 2 → j < max_rows → high_at t x j ≡ high_at s x j
    high_same x j h k = same_before found_from s t before (cell_bytes + (x - 1) * max_rows + j) (omega arith)

    highs_same : (x : ℕ) → x ≤ 2 → {perms : List ℕ} → length perms ≤ max_rows → Highs perms s x → Highs perms t x
    highs_same x b few H =
        record {
          low = λ j h. omega (arith, H.low j h, high_same x j b (omega arith));
          within = λ j h. omega (arith, H.within j h, high_same x j b (omega arith));
          rising = λ i j h k. omega (arith, H.rising i j h k, high_same x i b (omega arith), high_same x j b (omega arith));
          next = λ i j h k p. omega (arith, H.next i j h k p, next_same i, high_same x j b (omega arith));
        }

    pub filled_same : {perms : List ℕ} → Filled perms s → Filled perms t
    filled_same {perms} F =
        record {
          numbered = record {
            few = N.few;
            long = omega (arith, N.long);
            later = λ j h. omega (arith, N.later j h, next_same j);
            within = λ j h. omega (arith, N.within j h, next_same j);
          };
          highs_1 = highs_same 1 (omega arith) N.few F.highs_1;
          highs_2 = highs_same 2 (omega arith) N.few F.highs_2;
          cells = λ x y M.
              cell_same x y M ∙ F.cells x y (made x y M) ∙ ap (λ (l : List ℕ). best_from (take (length perms) l) perms (min x y) x y) (sym nexts);
        }
      where
        N : Numbered perms s
        N = F.numbered

        cell_same : (x y : ℕ) → Made perms t x y → cell_at t x y ≡ cell_at s x y
        cell_same x y M = same_before found_from s t before (x * across + y) (omega (arith, M.one, M.two, N.few))

        made : (x y : ℕ) → Made perms t x y → Made perms s x y
        made x y M =
            record {
              one = M.one;
              two = M.two;
              high_1 = λ h. omega (arith, M.high_1 h, M.one, N.few, high_same 1 y (omega arith) (omega (arith, M.one, N.few)));
              high_2 = λ h. omega (arith, M.high_2 h, M.two, N.few, high_same 2 x (omega arith) (omega (arith, M.two, N.few)));
            }

pub filled_begun : {reached : Bool} {s t perms : List ℕ} → length t ≡ length s → Begun reached s t → Filled perms s → Filled perms t
filled_begun {s = s} {t} each B = let S = begun_others B in filled_same s t each S.after S.before
