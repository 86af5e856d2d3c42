-- The pass over the rows of a line: what has been added to the labels found before the turn of a row.
use Prim.Native.Nat.{ℕ, ◌+◌, ◌-◌, ◌≤◌, ◌<◌}
use mathlib.Core.Path.{◌≡◌, refl, sym, ap, ◌∙◌}
use mathlib.Core.Logic.{◌≢◌, ◌⊎◌, ◌↔◌, inl, inr, ⊎_elim}
use mathlib.Core.Bool.{true}
use mathlib.Core.List.{List}
use native.Mathlib.Decide.{ℕ_discrete}
use native.Mathlib.Nat.{eq-or-lt_of_le}
use native.Mathlib.Omega.{arith}
use lib.ListN.{length, drop, get_or, set}
use lib.Seq.{get_or-set_same, get_or-set_other, get_or-drop, drop-set-lt}
use Rattle.std.proofs.lemmas.List.{drop-drop}
use Rattle.basics.specs.Limits.{max_rows}
use Rattle.basics.specs.Lists.{at}
use Rattle.labels.specs.Permission.{permits, join}
use Rattle.labels.proofs.Permissions.{join_iff, restrict_iff, permission_small}
use Rattle.line.specs.Cells.{found_at, high_at, next_at, cell_bytes, found_from, next_from, core_bytes}
use Rattle.line.specs.Filled.{Filled, nexts_of}
use Rattle.line_labels.specs.declared.Turn.{Turn}
use Rattle.line_labels.specs.declared.Reached.{Reached}
use Rattle.line_labels.specs.Added.{NotLeftOut, Added, permitted}
use Rattle.line_labels.specs.Found.{HearsMost, LineFound}
use Rattle.line_labels.specs.Marks.{InCells, unmarked, RowMarked, ColumnMarked, mark}
use Rattle.line_labels.proofs.Paths.{label_allowed}
use Rattle.line_labels.proofs.Turns.{SameValues, On, on_start, on_more, is_nexts}

-- lists that are the same from n on
same_rest : (n : ℕ) (t t' : List ℕ) → drop n t' ≡ drop n t → (i : ℕ) → n ≤ i → get_or t' i 0 ≡ get_or t i 0
same_rest n t t' e i h =
    let q : n + (i - n) ≡ i = omega arith in
    rw q at (sym (get_or-drop n t' (i - n) 0) ∙ ap (λ (l : List ℕ). get_or l (i - n) 0) e ∙ get_or-drop n t (i - n) 0)

further : (t t' : List ℕ) → drop cell_bytes t' ≡ drop cell_bytes t → drop next_from t' ≡ drop next_from t
further t t' e = sym (drop-drop 257 cell_bytes t') ∙ ap (λ (l : List ℕ). drop 257 l) e ∙ drop-drop 257 cell_bytes t

-- ---- labels added for a row of the table

module _ {perm labels r : ℕ} {t t' : List ℕ} (added : Added perm labels r t t') where
  added_other : (i : ℕ) → i ≢ found_from + r → get_or t' i 0 ≡ get_or t i 0
  added_other i h =
      let new = join (found_at t r) (permitted perm labels) in
      ap (λ (l : List ℕ). get_or l i 0) added.written ∙ get_or-set_other t (found_from + r) i new 0 h

  added_rest : r < max_rows → drop next_from t' ≡ drop next_from t
  added_rest h =
      let new = join (found_at t r) (permitted perm labels) in
      ap (λ (l : List ℕ). drop next_from l) added.written ∙ drop-set-lt next_from t (found_from + r) new (omega arith)

  module _ (h : r < max_rows) (long : core_bytes ≤ length t) where
    added_here : found_at t' r ≡ join (found_at t r) (permitted perm labels)
    added_here =
        let new = join (found_at t r) (permitted perm labels) in
        ap (λ (l : List ℕ). get_or l (found_from + r) 0) added.written ∙ get_or-set_same t (found_from + r) new 0 (omega arith)

    -- row q of the table is row r, and the label x is one of those that are added
    abbrev Here : ℕ → ℕ → Type 0
    Here q x = (q ≡ r) × (permits perm x ≡ true) × (permits labels x ≡ true)

    added_iff : (q x : ℕ) → (permits (found_at t' q) x ≡ true) ↔ ((permits (found_at t q) x ≡ true) ⊎ Here q x)
    added_iff q x = go (ℕ_discrete q r)
      where
        joined : (permits (join (found_at t r) (permitted perm labels)) x ≡ true)
            ↔ ((permits (found_at t r) x ≡ true) ⊎ (permits (permitted perm labels) x ≡ true))
        joined = join_iff (found_at t r) (permitted perm labels) x

        go : Dec (q ≡ r) → (permits (found_at t' q) x ≡ true) ↔ ((permits (found_at t q) x ≡ true) ⊎ Here q x)
        go (yes z) = (
          λ m. ⊎_elim (λ u. inl (rw z u)) (λ u. let w = (restrict_iff perm (permits labels) x).0 u in inr (z, w.0, w.1)) (joined.0 (rw (z, added_here) at m)),
          λ m. rw (z, added_here) (joined.1 (⊎_elim (λ u. inl (rw z at u)) (λ u. inr ((restrict_iff perm (permits labels) x).1 (u.1, u.2))) m)),
        )
        go (no n) =
            let e : found_at t' q ≡ found_at t q = added_other (found_from + q) (λ z. n (omega arith)) in
            (λ m. inl (rw e at m), ⊎_elim (λ u. rw e u) (λ u. absurd (n u.0)))

    added_small : (q : ℕ) → found_at t q < 8 → found_at t' q < 8
    added_small q = go (ℕ_discrete q r)
      where
        go : Dec (q ≡ r) → found_at t q < 8 → found_at t' q < 8
        go (yes z) m = rw (z, added_here) (permission_small _ _ _)
        go (no n) m = rw (added_other (found_from + q) (λ z. n (omega arith))) m

-- ---- the rows before row `row` have had their turns

module _ (perms order t0 : List ℕ) (filled : Filled perms t0) where
  pub record Progress (row reached : ℕ) (t : List ℕ) : Type 0 where
    pub values : SameValues t0 t
    pub kept : (i : ℕ) → cell_bytes ≤ i → i < found_from → get_or t i 0 ≡ get_or t0 i 0
    pub rest : drop next_from t ≡ drop next_from t0
    pub grown : (r x : ℕ) → r < max_rows → permits (found_at t0 r) x ≡ true → permits (found_at t r) x ≡ true
    pub small : (r : ℕ) → r < max_rows → found_at t0 r < 8 → found_at t r < 8
    pub only : (r x : ℕ) → r < max_rows → permits (found_at t r) x ≡ true
        → (permits (found_at t0 r) x ≡ true) ⊎ ((k : ℕ) × (k < row) × (at order k ≡ r) × (permits (at perms k) x ≡ true))
    pub on : (l : List ℕ) → (m : HearsMost perms (nexts_of t0 (length perms)) l) → On perms t0 filled l m.settled row reached t
    pub labels : (l : List ℕ) → HearsMost perms (nexts_of t0 (length perms)) l → (k : ℕ) → k < row → permits (found_at t (at order k)) (at l k) ≡ true

  -- the first cell is marked
  pub progress_none : (t : List ℕ) → t ≡ set t0 0 (unmarked (get_or t0 0 0) + mark) → Progress 0 0 t
  progress_none t e =
      record {
        values = λ i h. values i (ℕ_discrete i 0);
        kept = λ i h k. other i (λ q. omega arith);
        rest = ap (λ (l : List ℕ). drop next_from l) e ∙ drop-set-lt next_from t0 0 first (omega arith);
        grown = λ r x h m. rw (other (found_from + r) (λ q. omega arith)) m;
        small = λ r h m. rw (other (found_from + r) (λ q. omega arith)) m;
        only = λ r x h m. inl (rw (other (found_from + r) (λ q. omega arith)) at m);
        on = λ l m. on_start perms t0 filled l m.settled m.most t here;
        labels = λ l m k h. absurd (omega arith);
      }
    where
      first : ℕ
      first = unmarked (get_or t0 0 0) + mark

      here : get_or t 0 0 ≡ first
      here = ap (λ (l : List ℕ). get_or l 0 0) e ∙ get_or-set_same t0 0 first 0 (omega (arith, filled.numbered.long))

      other : (i : ℕ) → i ≢ 0 → get_or t i 0 ≡ get_or t0 i 0
      other i h = ap (λ (l : List ℕ). get_or l i 0) e ∙ get_or-set_other t0 0 i first 0 h

      values : (i : ℕ) → Dec (i ≡ 0) → unmarked (get_or t i 0) ≡ unmarked (get_or t0 i 0)
      values i (yes z) = rw (z, here) (omega arith)
      values i (no n) = rw (other i n) refl

  -- what the pass reads for a row is what the line program left
  module _ {row reached : ℕ} {t : List ℕ} (p : Progress row reached t) (h : row < length perms) where
    next_same : next_at t row ≡ next_at t0 row
    next_same = same_rest next_from t0 t p.rest (next_from + row) (omega arith)

    high_same : (high_at t 1 row ≡ high_at t0 1 row) × (high_at t 2 row ≡ high_at t0 2 row)
    high_same = (
      p.kept (cell_bytes + row) (omega arith) (omega (arith, filled.numbered.few)),
      p.kept (cell_bytes + max_rows + row) (omega arith) (omega (arith, filled.numbered.few)),
    )

    pub next_within : next_at t row ≤ max_rows
    next_within = rw next_same (omega (arith, filled.numbered.within row h, filled.numbered.few))

    pub highs_within : cell_bytes ≤ length t → InCells (high_at t 1 row) (high_at t 2 row) t
    highs_within k =
        record {
          one = rw high_same.0 (omega (arith, filled.highs_1.within row h, filled.numbered.few));
          two = rw high_same.1 (omega (arith, filled.highs_2.within row h, filled.numbered.few));
          long = k;
        }

  -- one turn more
  module _ {turn : Turn} (h : turn.row < length perms) {t : List ℕ} {reached : ℕ} (p : Progress turn.row reached t) where
    pub progress_more : {t1 t2 : List ℕ} {r r1 : Reached} {high_1 high_2 place : ℕ}
        → turn.perm ≡ at perms turn.row → turn.next ≡ next_at t turn.row
        → NotLeftOut perms (turn.row + 1) turn.must → high_1 ≡ high_at t 1 turn.row → high_2 ≡ high_at t 2 turn.row
        → RowMarked turn (high_2 + 1) t r t1 r1 → ColumnMarked turn (high_1 + 1) t r t1 r1
        → (turn.row < reached → permits r.labels 0 ≡ true) → r.stage ≡ reached
        → place ≡ at order turn.row → place < max_rows → core_bytes ≤ length t1 → Added (at perms turn.row) r1.labels place t1 t2
        → Progress (turn.row + 1) r1.stage t2
    progress_more {t1} {t2} {r} {r1} {place = place} perm next must e1 e2 rows columns start same here small long added =
        record {
          values = λ i k. ap unmarked (added_other added i (λ q. omega arith)) ∙ rows.more.values i ∙ p.values i k;
          kept = λ i k u. added_other added i (λ q. omega arith) ∙ after i k ∙ p.kept i k u;
          rest = added_rest added small ∙ further t t1 rows.more.rest ∙ p.rest;
          grown = λ q x k u. (found q x).1 (inl (rw (after (found_from + q) (omega arith)) (p.grown q x k u)));
          small = λ q k u. added_small added small long q (rw (after (found_from + q) (omega arith)) (p.small q k u));
          only = λ q x k u. ⊎_elim
              (λ w. ⊎_elim inl (λ z. inr (z.0, omega (arith, z.1), z.2, z.3)) (p.only q x k (rw (after (found_from + q) (omega arith)) at w)))
              (λ w. inr (turn.row, omega arith, sym (w.0 ∙ here), w.1))
              ((found q x).0 u);
          on = λ l m. (on l m).0;
          labels = λ l m k u. (found (at order k) (at l k)).1
              (⊎_elim (label_here l m k) (λ w. inl (rw (after (found_from + at order k) (omega arith)) (p.labels l m k w))) (eq-or-lt_of_le (omega arith)));
        }
      where
        after : (i : ℕ) → cell_bytes ≤ i → get_or t1 i 0 ≡ get_or t i 0
        after = same_rest cell_bytes t t1 rows.more.rest

        here_now : ℕ → ℕ → Type 0
        here_now q x = (q ≡ place) × (permits (at perms turn.row) x ≡ true) × (permits r1.labels x ≡ true)

        found : (q x : ℕ) → (permits (found_at t2 q) x ≡ true) ↔ ((permits (found_at t1 q) x ≡ true) ⊎ here_now q x)
        found = added_iff added small long

        on : (l : List ℕ) (m : HearsMost perms (nexts_of t0 (length perms)) l)
            → On perms t0 filled l m.settled (turn.row + 1) r1.stage t2 × (permits r1.labels (at l turn.row) ≡ true)
        on l m =
            on_more perms t0 filled l m.settled turn perm (next ∙ next_same p h) must h p.values (p.on l m) (rw (e2, (high_same p h).1) at rows) (rw (e1, (high_same p h).0) at columns)
            start same (λ i k. added_other added i (λ q. omega arith))

        label_here : (l : List ℕ) → HearsMost perms (nexts_of t0 (length perms)) l → (k : ℕ) → k ≡ turn.row
            → (permits (found_at t1 (at order k)) (at l k) ≡ true) ⊎ here_now (at order k) (at l k)
        label_here l m k e =
            inr (ap (at order) e ∙ sym here, rw e (label_allowed perms (nexts_of t0 (length perms)) (is_nexts perms t0 filled) l m.settled turn.row h), rw e (on l m).1)

  pub progress_done : {n reached : ℕ} {t : List ℕ} → n ≡ length perms → Progress n reached t → LineFound perms order t0 t
  progress_done {t = t} e p =
      record {
        kept = λ i h k. p.kept i (omega arith) k;
        rest = p.rest;
        grown = p.grown;
        small = p.small;
        only = rw e at p.only;
        labels = λ l m k h. p.labels l m k (omega arith);
      }
