-- Settled labels of a line that hear the most: from each row on they hear what is best of the rows from there on, by
-- the rows from which the receivers are free then.
use Prim.Native.Nat.{ℕ, zero, suc, ◌+◌, ◌-◌, ◌≤◌, ◌<◌}
use mathlib.Core.Path.{◌≡◌, refl, sym, ap}
use mathlib.Core.Logic.{◌≢◌, ⊎_elim}
use mathlib.Core.Bool.{Bool, true, false≢true}
use mathlib.Core.List.{List}
use native.Mathlib.Decide.{ℕ_discrete}
use native.Mathlib.Nat.{eq-or-lt_of_le}
use native.Mathlib.Omega.{arith}
use lib.ListN.{length, drop, drop_of_length-le}
use lib.Seq.{drop-cons}
use Rattle.std.proofs.lemmas.List.FromFn.{length-range_with_len}
use Rattle.basics.specs.Lists.{at}
use Rattle.basics.proofs.Tests.{Test, pass, fail, test}
use Rattle.labels.specs.Labels.{hears, heard}
use Rattle.labels.specs.Permission.{permits}
use Rattle.line.specs.Line.{Row, row, rows, best, numbers, best_from, Settled}
use Rattle.line.proofs.BestFrom.{rows_from, number, rows_most, from_cons}
use Rattle.line.proofs.Optimum.{put, put_same, put_other, rest, value_le, value_more}

-- a row that may have its label and finds its receiver free is left out, if both are busy
left_out : (f : ℕ → ℕ) (p j x : ℕ) → permits p x ≡ true → (x ≢ 0 → f x ≤ j) → j < f 1 → j < f 2 → x ≡ 0
left_out f p j zero m g h k = refl
left_out f p j (suc zero) m g h k = absurd (omega (arith, g (λ q. omega arith)))
left_out f p j (suc (suc zero)) m g h k = absurd (omega (arith, g (λ q. omega arith)))
left_out f p j (suc (suc (suc x))) m g h k = absurd (false≢true m)

-- the next rows of a line, each after its row
pub record Nexts (perms nexts : List ℕ) : Type 0 where
  pub each : length nexts ≡ length perms
  pub later : (j : ℕ) → j < length perms → j < at nexts j

module _ (perms nexts : List ℕ) (v : Nexts perms nexts) where
  -- the rows from j on
  abbrev from : ℕ → List Row
  from = rows_from nexts perms

  count : length (numbers (length perms)) ≡ length perms
  count = length-range_with_len 0 (length perms)

  module _ (l : List ℕ) (a : Settled (numbers (length perms)) nexts perms l) where
    -- each row from j on that has a receiver finds it free, where receiver y is free from row f y on
    abbrev Free : ℕ → (ℕ → ℕ) → Type 0
    Free j f = (k : ℕ) → j ≤ k → k < length perms → at l k ≢ 0 → f (at l k) ≤ k

    pub label_allowed : (j : ℕ) → j < length perms → permits (at perms j) (at l j) ≡ true
    label_allowed j h = a.allowed j (omega (arith, count))

    free_more : (j : ℕ) (f : ℕ → ℕ) → j < length perms → Free j f → Free (suc j) (put f (at l j) (at nexts j))
    free_more j f h g k i m q = go (ℕ_discrete (at l j) (at l k))
      where
        -- a later row of the same receiver starts when row j is over
        over : at l j ≡ at l k → {b : Bool} → Test (at nexts j) k b → at nexts j ≤ k
        over z (pass d) = d
        over z (fail d) =
            absurd
            (a.apart j k (omega (arith, count)) (omega (arith, count)) (λ o. omega arith) (rw z q) z
            (⊎_elim (λ u. omega (arith, rw (number nexts perms k m) at u)) (λ u. omega (arith, rw (number nexts perms j h) at u, v.later k m))))

        go : Dec (at l j ≡ at l k) → put f (at l j) (at nexts j) (at l k) ≤ k
        go (yes z) = rw (put_same f (at l j) (at nexts j) (at l k) z) (over z (test (at nexts j) k))
        go (no z) = rw (put_other f (at l j) (at nexts j) (at l k) z) (g k (omega arith) m q)

    pub heard_cons : (j : ℕ) → j < length perms → heard (drop j l) ≡ hears (at l j) + heard (drop (suc j) l)
    unfolding heard
    heard_cons j h = rw (drop-cons l j 0 (omega (arith, a.each, count))) refl

    -- no labels pass what is best
    heard_most : (d j : ℕ) (f : ℕ → ℕ) → j + d ≡ length perms → Free j f → suc (heard (drop j l)) ≤ best_from nexts perms j (f 1) (f 2)
    unfolding best heard
    heard_most zero j f e g =
        let rs = rows (numbers (length perms)) nexts perms in
        rw (drop_of_length-le l {i = j} (omega (arith, a.each, count)), drop_of_length-le rs {i = j} (omega (arith, rows_most nexts perms)))
        (omega arith)
    heard_most (suc d) j f e g =
        let h : j < length perms = omega arith in
        let ih = heard_most d (suc j) (put f (at l j) (at nexts j)) (omega arith) (free_more j f h g) in
        let r = row j (at nexts j) (at perms j) in
        rw (heard_cons j h, from_cons nexts perms v.each j h)
        (omega (arith, ih, value_more f r (from (suc j)) (at l j) (label_allowed j h) (g j (omega arith) h) (omega (arith, ih)), value_le f r (from (suc j)) (at l j)))

    -- what the labels need to be heard before row j: each receiver free, and no more to be had than they hear
    pub record Path (j : ℕ) (f : ℕ → ℕ) : Type 0 where
      pub free : Free j f
      pub most : best_from nexts perms j (f 1) (f 2) ≤ suc (heard (drop j l))

    pub path_best : (j : ℕ) (f : ℕ → ℕ) → j ≤ length perms → Path j f → best_from nexts perms j (f 1) (f 2) ≡ suc (heard (drop j l))
    path_best j f h p = omega (arith, p.most, heard_most (length perms - j) j f (omega arith) p.free)

    pub path_more : (j : ℕ) (f : ℕ → ℕ) → j < length perms → Path j f → Path (suc j) (put f (at l j) (at nexts j))
    path_more j f h p = record { free = free_more j f h p.free; most = most }
      where
        r : Row
        r = row j (at nexts j) (at perms j)

        ih : suc (heard (drop (suc j) l)) ≤ rest f r (from (suc j)) (at l j)
        ih = heard_most (length perms - suc j) (suc j) (put f (at l j) (at nexts j)) (omega arith) (free_more j f h p.free)

        most : rest f r (from (suc j)) (at l j) ≤ suc (heard (drop (suc j) l))
        most =
            omega (
              arith,
              ih,
              heard_cons j h,
              rw (from_cons nexts perms v.each j h) at p.most,
              value_le f r (from (suc j)) (at l j),
              value_more f r (from (suc j)) (at l j) (label_allowed j h) (p.free j (omega arith) h) (omega (arith, ih)),
            )

    -- both receivers are busy: the row is left out
    path_past : (j : ℕ) (f : ℕ → ℕ) → j < length perms → j < f 1 → j < f 2 → Path j f → (at l j ≡ 0) × Path (suc j) f
    path_past j f h k1 k2 p =
        let e = left_out f (at perms j) j (at l j) (label_allowed j h) (p.free j (omega arith) h) k1 k2 in
        (e, record { free = λ k u m q. p.free k (omega arith) m q; most = (rw e at (path_more j f h p)).most })

    pub record Past (j m : ℕ) (f : ℕ → ℕ) : Type 0 where
      pub path : Path m f
      pub out : (k : ℕ) → j ≤ k → k < m → at l k ≡ 0
      pub same : heard (drop m l) ≡ heard (drop j l)

    pub past : (d j m : ℕ) (f : ℕ → ℕ) → j + d ≡ m → m ≤ length perms → (j < m → m ≤ f 1) → (j < m → m ≤ f 2) → Path j f → Past j m f
    unfolding hears
    past zero j m f e h k1 k2 p =
        let q : j ≡ m = omega arith in
        record { path = rw q at p; out = λ k u w. absurd (omega arith); same = ap (λ i. heard (drop i l)) (sym q) }
    past (suc d) j m f e h k1 k2 p =
        let s = path_past j f (omega arith) (omega arith) (omega arith) p in
        let i = past d (suc j) m f (omega arith) h (λ u. omega arith) (λ u. omega arith) s.1 in
        record {
          path = i.path;
          out = λ k u w. ⊎_elim (λ q. rw (← q) s.0) (λ q. i.out k (omega arith) w) (eq-or-lt_of_le u);
          same = omega (arith, i.same, rw s.0 at (heard_cons j (omega arith)));
        }
