-- The stages of the line program: before the turn of row j - 1 the cells where both receivers are free from row j or a
-- later one on have what is best of the rows from then on.
use mathlib.Core.Path.{◌≡◌, refl, sym, ap, ◌∙◌}
use mathlib.Core.Logic.{◌⊎◌, ⊎_elim, inl, inr}
use mathlib.Core.List.{List}
use mathlib.Core.Bool.{Bool, true, false, cond}
use Prim.Native.Nat.{ℕ, ◌+◌, ◌-◌, ◌*◌, ◌≤◌, ◌<◌, min}
use native.Mathlib.Omega.{arith}
use native.Mathlib.Nat.{mod-eq_of_lt, eq-or-lt_of_le}
use borrow.Author.Tests.{leb-true, leb-false, le-leb, lt-leb}
use lib.Dec.{leb}
use lib.ListN.{length, get_or, take, drop, set, length-drop, length-set}
use lib.Seq.{get_or-set_same, drop-set-lt, get_or-drop, length-take-le}
use Rattle.basics.specs.Limits.{max_rows}
use Rattle.std.proofs.lemmas.List.{get_or-take}
use Rattle.basics.specs.Lists.{at}
use Rattle.labels.specs.Permission.{permits}
use Rattle.line.specs.declared.Receiver.{Receiver}
use Rattle.line.specs.declared.Receiver.TheVariants.{One, Two}
use Rattle.line.specs.Line.{when, gain, best_from}
use Rattle.line.specs.Cells.{cell_bytes, core_bytes, next_from, cell_at, high_at, next_at, across}
use Rattle.line.specs.Filled.{Numbered, Highs, Made, Filled, nexts_of}
use Rattle.line.specs.Turns.{label, other, side_at, last_heard, Ready, gain_byte, new_value, both_value, TurnMade}
use Rattle.line.proofs.Laws.{gain_le}
use Rattle.line.proofs.BestFrom.{best_of, Must, from_end, from_le, both_step, own_step, best_skipped, best_none}
use Rattle.line.proofs.Turns.{drop_later, rest_at}

-- ---- the next rows and highs, while other bytes are written

module _ {perms t t' : List ℕ} where
  pub numbered_same : core_bytes ≤ length t' → ((j : ℕ) → next_at t' j ≡ next_at t j) → Numbered perms t → Numbered perms t'
  numbered_same h e n = record { few = n.few; long = h; later = λ j k. rw (e j) (n.later j k); within = λ j k. rw (e j) (n.within j k) }

  pub highs_same : (y : ℕ) → ((j : ℕ) → next_at t' j ≡ next_at t j) → ((j : ℕ) → j < length perms → high_at t' y j ≡ high_at t y j) → Highs perms t y → Highs perms t' y
  highs_same y e f h =
      record {
        low = λ j k. rw (f j k) (h.low j k);
        within = λ j k. rw (f j k) (h.within j k);
        rising = λ i j w k. rw (f i (omega arith), f j k) (h.rising i j w k);
        next = λ i j w k p. rw (e i, f j k) (h.next i j w k p);
      }

pub nexts_same : (t t' : List ℕ) (n : ℕ) → drop cell_bytes t' ≡ drop cell_bytes t → nexts_of t' n ≡ nexts_of t n
nexts_same t t' n e = ap (take n) (drop_later t t' cell_bytes next_from (omega arith) e)

pub at_nexts : (t : List ℕ) (n j : ℕ) → j < n → at (nexts_of t n) j ≡ next_at t j
at_nexts t n j h = get_or-take n (drop next_from t) j 0 h ∙ get_or-drop next_from t j 0

pub length_nexts : (t : List ℕ) (n : ℕ) → n ≤ max_rows → core_bytes ≤ length t → length (nexts_of t n) ≡ n
length_nexts t n h k = length-take-le n (drop next_from t) (omega (arith, length-drop next_from t))

-- ---- the stages

-- The cells where both receivers are free from row k on, or from a later one, have what is best.
pub record FilledFrom (perms t : List ℕ) (k : ℕ) : Type 0 where
  pub numbered : Numbered perms t
  pub highs : (x : Receiver) → Highs perms t (label x)
  pub cells : (x y : ℕ) → k ≤ x → k ≤ y → Made perms t x y → cell_at t x y ≡ best_from (nexts_of t (length perms)) perms (min x y) x y

highs_other : {perms t : List ℕ} → ((x : Receiver) → Highs perms t (label x)) → (x : Receiver) → Highs perms t (other x)
highs_other h One = h Two
highs_other h Two = h One

-- the same, said of either receiver
side_is : {perms t : List ℕ} {k : ℕ} → FilledFrom perms t k → (x : Receiver) (a b : ℕ) → k ≤ a → k ≤ b → a ≤ length perms → b ≤ length perms
    → (b < a → a ≤ high_at t (label x) b) → (a < b → b ≤ high_at t (other x) a) → side_at x t a b ≡ best_of x (nexts_of t (length perms)) perms (min a b) a b
side_is f One a b ka kb ha hb p q = f.cells a b ka kb (record { one = ha; two = hb; high_1 = p; high_2 = q })
side_is {perms} {t} f Two a b ka kb ha hb p q =
    let e : min a b ≡ min b a = omega arith in
    rw e (f.cells b a kb ka (record { one = hb; two = ha; high_1 = q; high_2 = p }))

gain_small : (v : ℕ) → v < 255 → gain_byte v ≡ gain v
gain_small v h = mod-eq_of_lt (omega (arith, gain_le v))

-- ---- the turn of row j

module _ (perms t : List ℕ) (j must : ℕ) (f : FilledFrom perms t (j + 1)) (h : j < length perms) (m : Must perms (j + 1) must) where
  each : length (nexts_of t (length perms)) ≡ length perms
  each = length_nexts t (length perms) f.numbered.few f.numbered.long

  next_is : at (nexts_of t (length perms)) j ≡ next_at t j
  next_is = at_nexts t (length perms) j h

  module _ (x : Receiver) (b : ℕ) (hb : j < b) (wb : b ≤ length perms) (high : j + 1 < b → b ≤ high_at t (other x) j) where
    -- the cell that is read where the row is left out
    read_out : side_at x t (j + 1) b ≡ best_of x (nexts_of t (length perms)) perms (j + 1) (j + 1) b
    read_out =
        let e : min (j + 1) b ≡ j + 1 = omega arith in
        rw e at
        (side_is f x (j + 1) b (omega arith) (omega arith) (omega arith) wb (λ k. absurd (omega arith))
        (λ k. omega (arith, high k, (highs_other f.highs x).rising j (j + 1) (omega arith) (omega arith))))

    -- the cell that is read where it is heard on x
    read_heard : permits (at perms j) (label x) ≡ true → min (next_at t j) b ≤ must
        → side_at x t (next_at t j) b ≡ best_of x (nexts_of t (length perms)) perms (j + 1) (next_at t j) b
    read_heard p w =
        side_is f x (next_at t j) b (omega (arith, f.numbered.later j h)) (omega arith) (f.numbered.within j h) wb
        (λ k. (f.highs x).next j b hb (omega (arith, f.numbered.within j h)) p)
        (λ k. omega (arith, high (omega (arith, f.numbered.later j h)), (highs_other f.highs x).rising j (next_at t j) (omega (arith, f.numbered.later j h)) (omega arith)))
        ∙ sym (best_skipped (nexts_of t (length perms)) perms each (j + 1) must m x (next_at t j) b (omega (arith, f.numbered.later j h)) (omega arith) w)

    heard_small : (v : ℕ) → v ≡ best_of x (nexts_of t (length perms)) perms (j + 1) (next_at t j) b → gain_byte v ≡ gain v
    heard_small v e = gain_small v (omega (arith, e, f.numbered.few, of_le x))
      where
        of_le : (x : Receiver) → best_of x (nexts_of t (length perms)) perms (j + 1) (next_at t j) b ≤ length perms + 1
        of_le One = from_le (nexts_of t (length perms)) perms (j + 1) (next_at t j) b
        of_le Two = from_le (nexts_of t (length perms)) perms (j + 1) b (next_at t j)

    can_hear : permits (at perms j) (label x) ≡ true → min (next_at t j) b ≤ must
        → gain_byte (side_at x t (next_at t j) b) ≡ gain (best_of x (nexts_of t (length perms)) perms (j + 1) (next_at t j) b)
    can_hear p w = let e = read_heard p w in heard_small _ e ∙ ap gain e

    -- the value of hearing it, where the rows before the smaller of both can be left out
    may_hear : min (next_at t j) b ≤ must → when (permits (at perms j) (label x)) (gain_byte (side_at x t (next_at t j) b))
        ≡ when (permits (at perms j) (label x)) (gain (best_of x (nexts_of t (length perms)) perms (j + 1) (next_at t j) b))
    may_hear w = by (permits (at perms j) (label x)) refl
      where
        by : (p : Bool) → permits (at perms j) (label x) ≡ p
            → when p (gain_byte (side_at x t (next_at t j) b)) ≡ when p (gain (best_of x (nexts_of t (length perms)) perms (j + 1) (next_at t j) b))
        by false q = refl
        by true q = can_hear q w

    -- the same with the test for it
    heard_is : when (leb b (last_heard x (at perms j) (next_at t j) must)) (gain_byte (side_at x t (next_at t j) b))
        ≡ when (permits (at perms j) (label x)) (gain (best_of x (nexts_of t (length perms)) perms (j + 1) (next_at t j) b))
    unfolding last_heard gain
    heard_is = by (permits (at perms j) (label x)) refl (leb (next_at t j) must) refl (leb b must) refl
      where
        by : (p : Bool) → permits (at perms j) (label x) ≡ p → (e : Bool) → leb (next_at t j) must ≡ e → (c : Bool) → leb b must ≡ c
            → when (leb b (cond p (cond e max_rows must) 0)) (gain_byte (side_at x t (next_at t j) b)) ≡ when p (gain (best_of x (nexts_of t (length perms)) perms (j + 1) (next_at t j) b))
        by false q e v c w = rw (lt-leb b 0 (omega arith))
        by true q true v c w = rw (le-leb b max_rows (omega (arith, f.numbered.few))) (can_hear q (omega (arith, leb-true (next_at t j) must v)))
        by true q false v true w = rw w (can_hear q (omega (arith, leb-true b must w)))
        by true q false v false w =
            rw (
              w,
              best_none (nexts_of t (length perms)) perms each (j + 1) must m x (next_at t j) b (omega (arith, leb-false (next_at t j) must v, leb-false b must w))
                  (omega arith),
            )

    -- what is made new is what is best
    new_is : new_value x (at perms j) j (next_at t j) (last_heard x (at perms j) (next_at t j) must) t b ≡ best_of x (nexts_of t (length perms)) perms j j b
    new_is = rw (read_out, heard_is) (sym (rw next_is at (own_step (nexts_of t (length perms)) perms each x j b h hb)))

  both_is : both_value (at perms j) j (next_at t j) t ≡ best_from (nexts_of t (length perms)) perms j j j
  both_is =
      let w : min (next_at t j) (j + 1) ≤ must = omega (arith, m.from) in
      let none : (x : Receiver) → j + 1 < j + 1 → j + 1 ≤ high_at t (other x) j = λ x k. absurd (omega arith) in
      rw (
        read_out One (j + 1) (omega arith) (omega arith) (none One),
        may_hear One (j + 1) (omega arith) (omega arith) (none One) w,
        may_hear Two (j + 1) (omega arith) (omega arith) (none Two) w,
      )
      (sym (rw next_is at (both_step (nexts_of t (length perms)) perms each j h)))

  module _ (t' : List ℕ) (made : TurnMade (at perms j) j must t t') (long : core_bytes ≤ length t') where
    next_same : (i : ℕ) → next_at t' i ≡ next_at t i
    next_same i = rest_at t t' cell_bytes (next_from + i) made.rest (omega arith)

    high_same : (y i : ℕ) → high_at t' y i ≡ high_at t y i
    high_same y i = rest_at t t' cell_bytes (cell_bytes + (y - 1) * max_rows + i) made.rest (omega arith)

    -- one stage more
    filled_more : FilledFrom perms t' j
    filled_more =
        record {
          numbered = numbered_same long next_same f.numbered;
          highs = λ x. highs_same (label x) next_same (λ i k. high_same (label x) i) (f.highs x);
          cells = cells;
        }
      where
        before : (x y : ℕ) → Made perms t' x y → Made perms t x y
        before x y d = record { one = d.one; two = d.two; high_1 = λ k. rw high_same at (d.high_1 k); high_2 = λ k. rw high_same at (d.high_2 k) }

        by : (x y : ℕ) → Made perms t x y → (j ≡ x) ⊎ (j < x) → (j ≡ y) ⊎ (j < y) → cell_at t' x y ≡ best_from (nexts_of t (length perms)) perms (min x y) x y
        by x y d (inl p) (inl q) = let e : min x y ≡ j = omega arith in rw e (rw (← p, ← q) (made.both ∙ both_is))
        by x y d (inl p) (inr q) =
            let e : min x y ≡ j = omega arith in
            let k : y ≤ high_at t 2 j = rw p (d.high_2 (omega arith)) in
            rw e (rw (← p) (made.sides One y q k ∙ new_is One y q d.two (λ _. k)))
        by x y d (inr p) (inl q) =
            let e : min x y ≡ j = omega arith in
            let k : x ≤ high_at t 1 j = rw q (d.high_1 (omega arith)) in
            rw e (rw (← q) (made.sides Two x p k ∙ new_is Two x p d.one (λ _. k)))
        by x y d (inr p) (inr q) = made.kept x y p q (omega (arith, d.one, f.numbered.few)) (omega (arith, d.two, f.numbered.few)) ∙ f.cells x y (omega arith) (omega arith) d

        cells : (x y : ℕ) → j ≤ x → j ≤ y → Made perms t' x y → cell_at t' x y ≡ best_from (nexts_of t' (length perms)) perms (min x y) x y
        cells x y hx hy d = rw (nexts_same t t' (length perms) made.rest) (by x y (before x y d) (eq-or-lt_of_le hx) (eq-or-lt_of_le hy))

pub stage_more : {perms t t' : List ℕ} {k must : ℕ} (j : ℕ) → k ≡ j + 1 → FilledFrom perms t k → j < length perms → Must perms k must → TurnMade (at perms j) j must t t'
    → core_bytes ≤ length t' → FilledFrom perms t' j
stage_more {perms} {t} {t'} {must = must} j e f h m made long = filled_more perms t j must (rw e at f) h (rw e at m) t' made long

-- ---- the first stage and the last

module _ {perms t : List ℕ} (numbered : Numbered perms t) (highs : (x : Receiver) → Highs perms t (label x)) where
  first_rest : drop cell_bytes (set t (length perms * across + length perms) 1) ≡ drop cell_bytes t
  first_rest = drop-set-lt cell_bytes t (length perms * across + length perms) 1 (omega (arith, numbered.few))

  -- after the last row nothing is left to be heard
  pub filled_first : FilledFrom perms (set t (length perms * across + length perms) 1) (length perms)
  filled_first =
      record {
        numbered = numbered_same long next numbered;
        highs = λ x. highs_same (label x) next (λ i k. rest_at t (set t (length perms * across + length perms) 1) cell_bytes (cell_bytes + (label x - 1) * max_rows + i) first_rest (omega arith)) (highs x);
        cells = λ x y hx hy d.
            let p : x ≡ length perms = omega (arith, d.one) in
            let q : y ≡ length perms = omega (arith, d.two) in
            let w : min (length perms) (length perms) ≡ length perms = omega arith in
            rw (p, q, w)
            (get_or-set_same t (length perms * across + length perms) 1 0 (omega (arith, numbered.few, numbered.long))
            ∙ sym (from_end (nexts_of (set t (length perms * across + length perms) 1) (length perms)) perms (length perms) (length perms)));
      }
    where
      long : core_bytes ≤ length (set t (length perms * across + length perms) 1)
      long = omega (arith, length-set t (length perms * across + length perms) 1, numbered.long)

      next : (i : ℕ) → next_at (set t (length perms * across + length perms) 1) i ≡ next_at t i
      next i = rest_at t (set t (length perms * across + length perms) 1) cell_bytes (next_from + i) first_rest (omega arith)

pub filled_last : {perms t : List ℕ} → FilledFrom perms t 0 → Filled perms t
filled_last f = record { numbered = f.numbered; highs_1 = f.highs One; highs_2 = f.highs Two; cells = λ x y d. f.cells x y (omega arith) (omega arith) d }

pub filled_value : {perms t : List ℕ} → FilledFrom perms t 0 → get_or t 0 0 ≡ best_from (nexts_of t (length perms)) perms 0 0 0
filled_value f = f.cells 0 0 (omega arith) (omega arith) (record { one = omega arith; two = omega arith; high_1 = λ k. absurd (omega arith); high_2 = λ k. absurd (omega arith) })

-- ---- what a turn needs, and the first row that may not be left out

pub ready : {perms t : List ℕ} {k : ℕ} (j : ℕ) → FilledFrom perms t k → j < length perms → Ready t j
ready j f h =
    record {
      long = f.numbered.long;
      few = omega (arith, f.numbered.few);
      later = f.numbered.later j h;
      within = omega (arith, f.numbered.within j h, f.numbered.few);
      low = λ x. (f.highs x).low j h;
      high = λ x. omega (arith, (f.highs x).within j h, f.numbered.few);
    }

pub must_within : {perms t : List ℕ} {k must j : ℕ} → FilledFrom perms t j → Must perms k must → must ≤ max_rows
must_within f m = omega (arith, m.within, f.numbered.few)

pub must_none : (perms : List ℕ) → Must perms (length perms) (length perms)
must_none perms = record { from = omega arith; within = omega arith; before = λ i k w. absurd (omega arith); not = λ k. absurd (omega arith) }

module _ {perms : List ℕ} {k must : ℕ} (j : ℕ) (m : Must perms k must) (e : k ≡ j + 1) where
  pub must_same : permits (at perms j) 0 ≡ true → Must perms j must
  must_same p =
      record {
        from = omega (arith, m.from);
        within = m.within;
        before = λ i w v. ⊎_elim (λ (q : j ≡ i). rw (← q) p) (λ (q : j < i). m.before i (omega arith) v) (eq-or-lt_of_le w);
        not = m.not;
      }

  pub must_here : j < length perms → permits (at perms j) 0 ≡ false → Must perms j j
  must_here h p = record { from = omega arith; within = omega arith; before = λ i w v. absurd (omega arith); not = λ w. p }
