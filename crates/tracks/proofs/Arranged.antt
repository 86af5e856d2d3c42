-- Arcs that `arrange` has put in order: the assignments of the rows in order are those of the arcs as they came, and
-- what the functions of `line` and `pairs` are lent.
use Prim.Native.Nat.{ℕ, ◌+◌, ◌≤◌, ◌<◌}
use mathlib.Core.Path.{◌≡◌, sym, ap, ◌∙◌}
use mathlib.Core.Logic.Iff
use mathlib.Core.Logic.{◌↔◌}
use mathlib.Core.List.{List}
use native.Mathlib.Omega.{arith}
use lib.ListN.{length, take, drop, length-map, length-drop}
use lib.Seq.{ext_get_or, take_all}
use Rattle.basics.specs.Lists.{at, swap}
use Rattle.basics.proofs.Lists.{at_map}
use Rattle.basics.proofs.Swaps.{length_swap, map_swap, partner, partner_below, partner_twice, at_swap_of, swap_twice, swap_each}
use Rattle.labels.specs.Labels.{heard}
use Rattle.labels.proofs.Best.{assignment_iff}
use Rattle.arcs.specs.Arcs.{Arcs, Assigned}
use Rattle.arcs.specs.Positions.{Placed}
use Rattle.arcs.specs.Order.{Rearranged, same, exchanged, Counted, Arranged}
use Rattle.arcs.proofs.Cut.{meet_clear}
use Rattle.arcs.proofs.Rearranging.{rearranged_length}
use Rattle.line.specs.Line.{LineRows}
use Rattle.line.specs.Filled.{NextRows}
use Rattle.pairs.specs.Pairs.{gathered, Cleared}
use Rattle.pairs.specs.Ready.{Rows, Ready}
use Rattle.pairs.proofs.Numbers.{line_rows}
use Rattle.tracks.specs.Narrowing.{Ordered, Permuted}
use Rattle.tracks.proofs.Exchange.{heard_swap, exchange_iff}

pub gathered_length : (order l : List ℕ) → length (gathered order l) ≡ length order
gathered_length order l = length-map order (λ i. at l i)

-- ---- neighbours exchanged

gathered_swap : (k : ℕ) (order l : List ℕ) → gathered (swap k order) l ≡ swap k (gathered order l)
gathered_swap k order l = map_swap (λ i. at l i) k order

permuted_swap : (k : ℕ) (order : List ℕ) {n : ℕ} → length order ≡ n → Permuted n order → Permuted n (swap k order)
permuted_swap k order {n} e P =
    record {
      place = λ r h. let w = P.place r h in
          (partner n k w.0, partner_below n k w.0 w.1, at_swap_of k order e (partner n k w.0) ∙ ap (at order) (partner_twice n k w.0) ∙ w.2);
      labels = λ l h. let w = P.labels (swap k l) (length_swap k l ∙ h) in
          (w.0, w.1, gathered_swap k order w.0 ∙ ap (swap k) w.2 ∙ swap_twice k l);
      heard_same = λ l h. ap heard (gathered_swap k order l) ∙ heard_swap k (gathered order l) ∙ P.heard_same l h;
    }

module _ {xs ys zs : List ℕ} where
  -- what holds of every entry holds in another order
  rearranged_each : (P : ℕ → Type 0) {xs' ys' zs' : List ℕ} → Rearranged xs ys zs xs' ys' zs' → ((i : ℕ) → i < length zs → P (at zs i)) → (i : ℕ) → i < length zs → P (at zs' i)
  rearranged_each P same f i h = f i h
  rearranged_each P (exchanged k {zs'} R) f i h =
      let e : length zs' ≡ length zs = (rearranged_length R).2 in
      swap_each P k zs' (λ j g. rearranged_each P R f j (omega arith)) i (omega arith)

  rearranged_permuted : {n : ℕ} {xs' ys' zs' : List ℕ} → Rearranged xs ys zs xs' ys' zs' → length zs ≡ n → Permuted n zs → Permuted n zs'
  rearranged_permuted same e P = P
  rearranged_permuted (exchanged k {zs'} R) e P = permuted_swap k zs' ((rearranged_length R).2 ∙ e) (rearranged_permuted R e P)

  -- assignments stay, each row with its permission and its label
  module _ (each_end : length ys ≡ length xs) (each_order : length zs ≡ length xs) (perms l : List ℕ) where
    rearranged_iff : {xs' ys' zs' : List ℕ} → Rearranged xs ys zs xs' ys' zs'
        → Cleared xs ys (gathered zs perms) (gathered zs l) ↔ Cleared xs' ys' (gathered zs' perms) (gathered zs' l)
    rearranged_iff same = (λ a. a, λ a. a)
    rearranged_iff (exchanged k {xs'} {ys'} {zs'} R) =
        let e = rearranged_length R in
        Iff.trans (rearranged_iff R)
        (rw (gathered_swap k zs' perms, gathered_swap k zs' l)
        (exchange_iff k xs' ys' (gathered zs' perms) (e.1 ∙ each_end ∙ sym e.0) (gathered_length zs' perms ∙ e.2 ∙ each_order ∙ sym e.0) (gathered zs' l)))

-- ---- rows as they came

counted_gathered : {order : List ℕ} {n : ℕ} (l : List ℕ) → length l ≡ n → Counted n order → gathered order l ≡ l
counted_gathered {order} l e K =
    ext_get_or 0 (gathered order l) l (gathered_length order l ∙ K.each ∙ sym e)
    (λ i h. let g : i < length order = omega (arith, gathered_length order l) in
    at_map (λ j. at l j) order i g ∙ ap (at l) (K.row i (omega (arith, K.each))))

counted_permuted : {order : List ℕ} {n : ℕ} → Counted n order → Permuted n order
counted_permuted K =
    record {
      place = λ r h. (r, h, K.row r h);
      labels = λ l e. (l, e, counted_gathered l e K);
      heard_same = λ l e. ap heard (counted_gathered l e K);
    }

-- arcs and their positions from a cut have the same assignments
placed_iff : {C cut : ℕ} {ss ls ps es : List ℕ} (perms : List ℕ) → Arcs C ss ls → cut < C → Placed C cut ss ls ps es → (l : List ℕ) → Assigned C ss ls perms l ↔ Cleared ps es perms l
placed_iff {ss} perms A h P = rw P.each_position (assignment_iff (length ss) (λ i x g. (λ q. q, λ q. q)) (λ i j g k d. meet_clear A h P i j g k))

-- ---- what `arrange` leaves

module _ {C : ℕ} {ss ls ps es order : List ℕ} {m : ℕ} (A : Arcs C ss ls) (R : Arranged C ss ls ps es order m) where
  lengths : (length R.ends₀ ≡ length R.positions₀) × (length R.order₀ ≡ length R.positions₀) × (length ps ≡ length ss)
  lengths = (R.placed.each_end ∙ sym R.placed.each_position, R.counted.each ∙ sym R.placed.each_position, (rearranged_length R.rearranged).0 ∙ R.placed.each_position)

  pub arranged_permuted : Permuted (length ps) order
  arranged_permuted = rw lengths.2 (rearranged_permuted R.rearranged R.counted.each (counted_permuted R.counted))

  -- the assignments of the rows in order are those of the arcs
  pub arranged_iff : (perms : List ℕ) → length perms ≡ length ss → (l : List ℕ) → Ordered ps es order perms l ↔ Assigned C ss ls perms l
  arranged_iff perms e l = (λ O. (placed l).1 (back (O.each ∙ lengths.2) O.cleared), λ a. record { each = a.each ∙ sym lengths.2; cleared = there a.each ((placed l).0 a) })
    where
      placed : (l : List ℕ) → Assigned C ss ls perms l ↔ Cleared R.positions₀ R.ends₀ perms l
      placed = placed_iff perms A R.cut_below R.placed

      moved : Cleared R.positions₀ R.ends₀ (gathered R.order₀ perms) (gathered R.order₀ l) ↔ Cleared ps es (gathered order perms) (gathered order l)
      moved = rearranged_iff lengths.0 lengths.1 perms l R.rearranged

      back : length l ≡ length ss → Cleared ps es (gathered order perms) (gathered order l) → Cleared R.positions₀ R.ends₀ perms l
      back h c = rw (counted_gathered perms e R.counted, counted_gathered l h R.counted) at (moved.1 c)

      there : length l ≡ length ss → Cleared R.positions₀ R.ends₀ perms l → Cleared ps es (gathered order perms) (gathered order l)
      there h c = moved.0 (rw (counted_gathered perms e R.counted, counted_gathered l h R.counted) c)

  -- every place has a row of the table
  arranged_row : (k : ℕ) → k < length ps → at order k < length ps
  arranged_row k h =
      rw lengths.2 (rearranged_each (λ x. x < length ss) R.rearranged
      (λ i g. let e : i < length ss = omega (arith, R.counted.each) in rw (R.counted.row i e) e)
      k (omega (arith, R.counted.each, lengths.2)))

  pub arranged_rows : (perms : List ℕ) → length perms ≡ length ss → Rows ps es order perms m
  arranged_rows perms e =
      let g = rearranged_length R.rearranged in
      record {
        few = rw lengths.2 A.few;
        each_end = g.1 ∙ lengths.0 ∙ sym g.0;
        each_order = g.2 ∙ lengths.1 ∙ sym g.0;
        each_perm = e ∙ sym lengths.2;
        ordered = R.ordered;
        crossing = R.crossing;
        row = arranged_row;
      }

  -- what the functions of `pairs` are lent, once the next rows are set
  pub arranged_ready : (perms left : List ℕ) {space : List ℕ} → length perms ≡ length ss → length left ≡ length ss → NextRows (drop m ps) (drop m es) space
      → Ready ps es order perms m left space
  arranged_ready perms left e f N = record { rows = arranged_rows perms e; each_left = f ∙ sym lengths.2; next_rows = N }

  -- and what `set_nexts` is lent: the parts of both lists to their ends
  pub arranged_line : (a b : ℕ) → length ps ≤ a + m → length es ≤ b + m → LineRows (take a (drop m ps)) (take b (drop m es))
  arranged_line a b h k =
      let r = arranged_rows (R.ends₀) (lengths.0 ∙ R.placed.each_position) in
      rw (take_all a (drop m ps) (omega (arith, length-drop m ps)), take_all b (drop m es) (omega (arith, length-drop m es))) (line_rows r.few r.each_end R.crossing R.ordered)
