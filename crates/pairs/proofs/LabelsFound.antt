-- The labels that rows have in the lists of a class that reach the cap are found, and with the labels of one pair more.
use Prim.Native.Nat.{ℕ, zero, suc, ◌+◌, ◌-◌, ◌≤◌, ◌<◌}
use mathlib.Core.Path.{◌≡◌, refl, sym, subst, ◌∙◌}
use mathlib.Core.Logic.{◌⊎◌, inl, inr, ⊎_elim}
use mathlib.Core.Bool.{true}
use mathlib.Core.List.{List}
use native.Mathlib.Decide.{dec_lt}
use native.Mathlib.Omega.{arith}
use lib.ListN.{length, take, drop, length-drop}
use lib.Seq.{get_or-drop}
use Rattle.basics.specs.Limits.{max_rows}
use Rattle.basics.specs.Lists.{at}
use Rattle.basics.proofs.Lists.{at_map}
use Rattle.labels.specs.Labels.{heard}
use Rattle.labels.specs.Permission.{permits}
use Rattle.labels.proofs.Permissions.{none_permitted}
use Rattle.line.specs.Line.{best_from}
use Rattle.line.specs.Cells.{found_at, next_from}
use Rattle.line.specs.Filled.{nexts_of}
use Rattle.line_labels.specs.Found.{HearsMost}
use Rattle.pairs.specs.Pairs.{gathered, PairFit, LeftAll, one, with_pair}
use Rattle.pairs.specs.Ready.{Ready}
use Rattle.pairs.specs.Bounds.{PairValue}
use Rattle.pairs.specs.Found.{LabelsFound}
use Rattle.pairs.specs.Finding.{NoneFound, PairAdded}
use Rattle.pairs.proofs.Leaves.{left_iff}
use Rattle.pairs.proofs.Numbers.{line_rows, settled_iff}
use Rattle.pairs.proofs.Value.{behind, settled, heard_pair}

-- a value that is not 0
with_pair_some : (m w1 w2 v : ℕ) → 0 < with_pair m w1 w2 v → with_pair m w1 w2 v ≡ v + one m w1 + one m w2
unfolding with_pair
with_pair_some m w1 w2 zero h = absurd (omega arith)
with_pair_some m w1 w2 (suc v) h = refl

-- the same labels found, for a class whose lists that reach the cap are among those of C
pub labels_same : {order perms : List ℕ} {n cap : ℕ} {C D : List ℕ → Type 0} {s t : List ℕ} → ((r : ℕ) → found_at t r ≡ found_at s r)
    → ((l : List ℕ) → D l → suc (heard l) ≡ cap → C l) → LabelsFound order perms n cap C s → LabelsFound order perms n cap D t
labels_same {order} same f P =
    record {
      labels = λ l d e k h. rw (same (at order k)) (P.labels l (f l d e) e k h);
      only = λ r x h p. P.only r x h (rw (same r) at p);
      small = λ r h. rw (same r) (P.small r h);
    }

-- none is found, where no list of C reaches the cap
pub labels_begun : {order perms : List ℕ} {n cap : ℕ} {C : List ℕ → Type 0} {s t : List ℕ} → n ≤ max_rows → ((l : List ℕ) → C l → suc (heard l) < cap)
    → NoneFound max_rows s t → LabelsFound order perms n cap C t
labels_begun few f N =
    record {
      labels = λ l c e. absurd (omega (arith, f l c));
      only = λ r x h p. absurd (none_permitted _ x (N.zero r (omega arith)) p);
      small = λ r h. omega (arith, N.zero r (omega arith));
    }

-- A pair that reaches the cap: its permissions stand in `left` and its line in s, and t with its labels is v.
module _ {positions ends order perms left s t v : List ℕ} {m w1 w2 cap : ℕ} (some : 1 ≤ cap) (R : Ready positions ends order perms m left s)
    (V : PairValue positions ends (gathered order perms) m w1 w2 left s cap) (nexts : drop next_from t ≡ drop next_from s) (Z : PairAdded order left m t v) where
  abbrev Fits : List ℕ → Type 0
  Fits = PairFit positions ends (gathered order perms) m w1 w2

  leaves : LeftAll positions ends (gathered order perms) m w1 w2 (length positions) left
  leaves = V.leaves some

  -- on the line, labels of the pair that reach the cap hear the most
  hears_most : (l : List ℕ) → Fits l → suc (heard l) ≡ cap → HearsMost (drop m left) (nexts_of s (length (drop m left))) (drop m l)
  hears_most l F e =
      record {
        settled =
            (settled_iff (line_rows R.rows.few R.rows.each_end R.rows.crossing R.rows.ordered) R.next_rows (drop m left)
            (simp length-drop (omega (arith, R.each_left))) (drop m l)).1
            (settled positions ends (gathered order perms) left m w1 w2 R.each_left R.rows.crossing leaves l F);
        most =
            omega (
              arith,
              e,
              V.value some,
              with_pair_some m w1 w2 (best_from (nexts_of s (length (drop m left))) (drop m left) 0 0 0) (omega (arith, V.value some)),
              heard_pair positions ends (gathered order perms) left m w1 w2 R.each_left R.rows.crossing leaves l F,
            );
      }

  -- the labels of the rows of the line
  in_line : (l : List ℕ) → Fits l → suc (heard l) ≡ cap → (k : ℕ) → k < length (drop m left) → permits (found_at v (at (drop m order) k)) (at (drop m l) k) ≡ true
  in_line l F e k h =
      Z.line.labels (drop m l)
      (subst (λ (a : List ℕ). HearsMost (drop m left) (take (length (drop m left)) a) (drop m l)) (sym (Z.crossing.others.after ∙ nexts)) (hears_most l F e)) k h

  below : (k : ℕ) → k < length positions → at order k < max_rows
  below k h = omega (arith, R.rows.row k h, R.rows.few)

  -- of all rows
  found_row : (l : List ℕ) → Fits l → suc (heard l) ≡ cap → (k : ℕ) → k < length positions → permits (found_at v (at order k)) (at l k) ≡ true
  found_row l F e k h = go (dec_lt k m)
    where
      go : Dec (k < m) → permits (found_at v (at order k)) (at l k) ≡ true
      go (yes a) = Z.line.grown (at order k) (at l k) (below k h) (Z.crossing.labels k (at l k) a (rw (leaves.each k h) (F.fit.allowed k h)))
      go (no a) =
          rw (behind m order k (omega arith), behind m l k (omega arith)) at (in_line l F e (k - m) (omega (arith, length-drop m left, R.each_left)))

  -- what the pair leaves a row is permitted
  permitted : (k x : ℕ) → k < length positions → permits (at left k) x ≡ true → permits (at perms (at order k)) x ≡ true
  permitted k x h p =
      let q = (left_iff positions ends m w1 w2 k (at (gathered order perms) k) x).0 (rw (leaves.each k h) at p) in
      let k_in : k < length order = omega (arith, R.rows.each_order) in
      rw (at_map (at perms) order k k_in) at q.0

  found_only : (r x : ℕ) → r < max_rows → permits (found_at v r) x ≡ true → (permits (found_at t r) x ≡ true) ⊎ (permits (at perms r) x ≡ true)
  found_only r x h p =
      ⊎_elim
      (λ a. ⊎_elim inl (λ q. inr (any_row q.0 (omega (arith, q.1, R.rows.crossing.within)) q.2 q.3)) (Z.crossing.only r x h a))
      (λ q. inr (line_row q.0 q.1 q.2 q.3))
      (Z.line.only r x h p)
    where
      any_row : (k : ℕ) → k < length positions → at order k ≡ r → permits (at left k) x ≡ true → permits (at perms r) x ≡ true
      any_row k b e q = rw e at (permitted k x b q)

      line_row : (k : ℕ) → k < length (drop m left) → at (drop m order) k ≡ r → permits (at (drop m left) k) x ≡ true → permits (at perms r) x ≡ true
      line_row k b e q = any_row (m + k) (omega (arith, length-drop m left, R.each_left)) (sym (get_or-drop m order k 0) ∙ e) (rw (get_or-drop m left k 0) at q)

  pub labels_added : {C : List ℕ → Type 0} → LabelsFound order perms (length positions) cap C t
      → LabelsFound order perms (length positions) cap (λ l. C l ⊎ PairFit positions ends (gathered order perms) m w1 w2 l) v
  labels_added P =
      record {
        labels = λ l c e k h. ⊎_elim (λ d. Z.line.grown _ _ (below k h) (Z.crossing.grown _ _ (below k h) (P.labels l d e k h))) (λ F. found_row l F e k h) c;
        only = λ r x h p. ⊎_elim (P.only r x h) (λ q. q) (found_only r x (omega (arith, R.rows.few)) p);
        small = λ r h. Z.line.small r (omega (arith, R.rows.few)) (Z.crossing.small r (omega (arith, R.rows.few)) (P.small r h));
      }
