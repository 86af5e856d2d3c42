-- `best` is the optimum over all settled labels of a line: some labels reach it, and none pass it.
use mathlib.Core.Path.{◌≡◌, refl, sym, ◌∙◌}
use mathlib.Core.List.{List, [], ◌∷◌}
use mathlib.Core.Bool.{Bool, true, false, cond, ◌&&◌, and-eq-true_iff, false≢true}
use mathlib.Core.Logic.{◌≢◌, ◌⊎◌, ⊎_elim, inl, inr}
use Prim.Native.Nat.{ℕ, zero, suc, ◌+◌, ◌≤◌, ◌<◌, max}
use native.Mathlib.Decide.{ℕ_discrete}
use native.Mathlib.Nat.{le_trans}
use native.Mathlib.Omega.{arith}
use borrow.Author.Tests.{eqb-true, eqb-false, eq-eqb, ne_eqb, leb-true, leb-false, le-leb}
use lib.Dec.{eqb, leb}
use lib.ListN.{length}
use Rattle.basics.specs.Lists.{at}
use Rattle.labels.specs.Labels.{hears, heard}
use Rattle.labels.specs.Permission.{permits}
use Rattle.line.specs.Line.{Row, row, rows, when, gain, cell, best, Line, Settled}

-- Receiver y is busy until f y; so it is after a row that ends at e got the label x.
abbrev pub put : (ℕ → ℕ) → ℕ → ℕ → ℕ → ℕ
put f x e y = cond (eqb x y) e (f y)

pub put_same : (f : ℕ → ℕ) (x e y : ℕ) → x ≡ y → put f x e y ≡ e
put_same f x e y h = rw (eq-eqb x y h)

pub put_other : (f : ℕ → ℕ) (x e y : ℕ) → (x ≡ y → ⊥) → put f x e y ≡ f y
put_other f x e y h = rw (ne_eqb x y h)

-- every row with a receiver starts when the receiver is no longer busy
abbrev Free : (ℕ → ℕ) → List ℕ → List ℕ → Type 0
Free f ss l = (j : ℕ) → j < length ss → at l j ≢ 0 → f (at l j) ≤ at ss j

-- ---- one row

-- the best of the rows rs after row r got the label x
abbrev pub rest : (ℕ → ℕ) → Row → List Row → ℕ → ℕ
rest f r rs x = best rs (put f x r.end 1) (put f x r.end 2)

-- what the label x is worth to row r before the rows rs
abbrev pub value : (ℕ → ℕ) → Row → List Row → ℕ → ℕ
value f r rs zero = when (permits r.perm 0) (rest f r rs 0)
value f r rs (suc x) = when (permits r.perm (suc x) && leb (f (suc x)) r.start) (gain (rest f r rs (suc x)))

hears_of : (p x : ℕ) → permits p (suc x) ≡ true → hears (suc x) ≡ 1
unfolding hears
hears_of p zero h = refl
hears_of p (suc zero) h = refl
hears_of p (suc (suc x)) h = absurd (false≢true h)

gain_of : (v : ℕ) → 0 < v → gain v ≡ suc v
unfolding gain
gain_of zero h = absurd (omega arith)
gain_of (suc v) h = refl

gain_inv : (v c : ℕ) → gain v ≡ suc c → (d : ℕ) × (v ≡ suc d) × (c ≡ 1 + d)
unfolding gain
gain_inv zero c h = absurd (omega arith)
gain_inv (suc v) c h = (v, refl, omega arith)

when_inv : (b : Bool) (v c : ℕ) → when b v ≡ suc c → (b ≡ true) × (v ≡ suc c)
when_inv true v c h = (refl, h)
when_inv false v c h = absurd (omega arith)

max_hits : (W : ℕ → ℕ) (v : ℕ) → v ≡ max (W 0) (max (W 1) (W 2)) → (x : ℕ) × (W x ≡ v)
max_hits W v h = by (eqb (W 0) v) refl (eqb (W 1) v) refl
  where
    by : (b0 : Bool) → eqb (W 0) v ≡ b0 → (b1 : Bool) → eqb (W 1) v ≡ b1 → (x : ℕ) × (W x ≡ v)
    by true q0 b1 q1 = (0, eqb-true (W 0) v q0)
    by false q0 true q1 = (1, eqb-true (W 1) v q1)
    by false q0 false q1 = (2, omega (arith, h, eqb-false (W 0) v q0, eqb-false (W 1) v q1))

module _ (f : ℕ → ℕ) (r : Row) (rs : List Row) where
  best_value : best (r ∷ rs) (f 1) (f 2) ≡ max (value f r rs 0) (max (value f r rs 1) (value f r rs 2))
  unfolding best cell
  best_value = refl

  pub value_le : (x : ℕ) → value f r rs x ≤ best (r ∷ rs) (f 1) (f 2)
  value_le zero = omega (arith, best_value)
  value_le (suc zero) = omega (arith, best_value)
  value_le (suc (suc zero)) = omega (arith, best_value)
  value_le (suc (suc (suc x))) = omega arith

  -- a label that the row may have is worth what it hears and what it leaves
  pub value_more : (x : ℕ) → permits r.perm x ≡ true → (x ≢ 0 → f x ≤ r.start) → 0 < rest f r rs x → hears x + rest f r rs x ≤ value f r rs x
  unfolding hears
  value_more zero m g h = rw m (omega arith)
  value_more (suc x) m g h =
      let e = hears_of r.perm x m in
      rw (m, le-leb (f (suc x)) r.start (g (λ q. omega arith))) (omega (arith, gain_of (rest f r rs (suc x)) h))

  value_of : (x : ℕ) (l : List ℕ) → permits r.perm x ≡ true → (x ≢ 0 → f x ≤ r.start) → suc (heard l) ≤ rest f r rs x → suc (heard (x ∷ l)) ≤ value f r rs x
  unfolding heard
  value_of x l m g h = omega (arith, value_more x m g (omega arith))

  -- a label that is worth c + 1: the row may have it, and it leaves what it is worth
  value_inv : (x c : ℕ) → value f r rs x ≡ suc c
      → (permits r.perm x ≡ true) × (x ≢ 0 → f x ≤ r.start) × (d : ℕ) × (rest f r rs x ≡ suc d) × (c ≡ hears x + d)
  unfolding hears
  value_inv zero c h = let i = when_inv (permits r.perm 0) _ c h in (i.0, λ q. absurd (q refl), c, i.1, omega arith)
  value_inv (suc x) c h =
      let i = when_inv (permits r.perm (suc x) && leb (f (suc x)) r.start) _ c h in
      let b = (and-eq-true_iff (permits r.perm (suc x)) _).0 i.0 in
      let g = gain_inv _ c i.1 in
      (b.0, λ q. leb-true (f (suc x)) r.start b.1, g.0, g.1, omega (arith, g.2, hears_of r.perm x b.0))

-- ---- the first row and the others

module _ (s e p : ℕ) (ss es ps : List ℕ) where
  line_tail : Line (s ∷ ss) (e ∷ es) (p ∷ ps) → Line ss es ps
  line_tail n =
      record {
        on_line = record {
          few = omega (arith, n.on_line.few);
          each_end = omega (arith, n.on_line.each_end);
          order = λ i j h k. n.on_line.order (suc i) (suc j) (omega arith) (omega arith);
          proper = λ i h. n.on_line.proper (suc i) (omega arith);
        };
        each_perm = omega (arith, n.each_perm);
      }

  module _ (x : ℕ) (l : List ℕ) where
    settled_tail : Settled (s ∷ ss) (e ∷ es) (p ∷ ps) (x ∷ l) → Settled ss es ps l
    settled_tail a =
        record {
          each = omega (arith, a.each);
          allowed = λ i h. a.allowed (suc i) (omega arith);
          apart = λ i j h k n. a.apart (suc i) (suc j) (omega arith) (omega arith) (λ q. n (omega arith));
        }

    -- a later row of the first row's receiver starts after the first has ended
    free_tail : (f : ℕ → ℕ) → Line (s ∷ ss) (e ∷ es) (p ∷ ps) → Settled (s ∷ ss) (e ∷ es) (p ∷ ps) (x ∷ l) → Free f (s ∷ ss) (x ∷ l) → Free (put f x e) ss l
    free_tail f n a h j k q = go (ℕ_discrete x (at l j))
      where
        other : (x ≡ at l j → ⊥) → put f x e (at l j) ≤ at ss j
        other z = rw (put_other f x e (at l j) z) (h (suc j) (omega arith) q)

        late : (b : Bool) → leb e (at ss j) ≡ b → x ≡ at l j → e ≤ at ss j
        late true t z = leb-true e (at ss j) t
        late false t z =
            absurd
            (a.apart 0 (suc j) (omega arith) (omega arith) (λ o. omega arith) (rw z q) z
            (⊎_elim
            (λ u. omega (arith, leb-false e (at ss j) t))
            (λ u. omega (arith, n.on_line.order 0 (suc j) (omega arith) (omega arith), n.on_line.proper (suc j) (omega arith)))))

        same : x ≡ at l j → put f x e (at l j) ≤ at ss j
        same z = rw (put_same f x e (at l j) z) (late (leb e (at ss j)) refl z)

        go : Dec (x ≡ at l j) → put f x e (at l j) ≤ at ss j
        go (yes z) = same z
        go (no z) = other z

    free_cons : (f : ℕ → ℕ) → Line (s ∷ ss) (e ∷ es) (p ∷ ps) → (x ≢ 0 → f x ≤ s) → Free (put f x e) ss l → Free f (s ∷ ss) (x ∷ l)
    free_cons f n g h zero k q = g q
    free_cons f n g h (suc j) k q = go (ℕ_discrete x (at l j))
      where
        go : Dec (x ≡ at l j) → f (at l j) ≤ at ss j
        go (yes z) = rw (← z) (le_trans (g (rw z q)) (n.on_line.order 0 (suc j) (omega arith) (omega arith)))
        go (no z) = rw (put_other f x e (at l j) z) at (h j (omega arith) q)

    settled_cons : (f : ℕ → ℕ) → permits p x ≡ true → Settled ss es ps l → Free (put f x e) ss l → Settled (s ∷ ss) (e ∷ es) (p ∷ ps) (x ∷ l)
    settled_cons f m a h = record { each = omega (arith, a.each); allowed = allowed; apart = apart }
      where
        allowed : (i : ℕ) → i < suc (length ss) → permits (at (p ∷ ps) i) (at (x ∷ l) i) ≡ true
        allowed zero k = m
        allowed (suc i) k = a.allowed i (omega arith)

        -- the first row ends before a later one of its receiver starts
        after : (j : ℕ) → j < length ss → x ≢ 0 → x ≡ at l j → e ≤ at ss j
        after j k q z = rw (put_same f x e (at l j) z) at (h j k (rw (← z) q))

        apart : (i j : ℕ) → i < suc (length ss) → j < suc (length ss) → i ≢ j → at (x ∷ l) i ≢ 0 → at (x ∷ l) i ≡ at (x ∷ l) j
            → ((at (e ∷ es) i ≤ at (s ∷ ss) j) ⊎ (at (e ∷ es) j ≤ at (s ∷ ss) i) → ⊥) → ⊥
        apart zero zero u v d q z t = d refl
        apart zero (suc j) u v d q z t = t (inl (after j (omega arith) q z))
        apart (suc i) zero u v d q z t = t (inr (after i (omega arith) (rw (← z) q) (sym z)))
        apart (suc i) (suc j) u v d q z t = a.apart i j (omega arith) (omega arith) (λ o. d (omega arith)) q z t

-- ---- all rows

complete : (ss es ps : List ℕ) (f : ℕ → ℕ) (l : List ℕ) → Line ss es ps → Settled ss es ps l → Free f ss l → suc (heard l) ≤ best (rows ss es ps) (f 1) (f 2)
unfolding best rows heard
complete [] es ps f [] n a h = omega arith
complete [] es ps f (x ∷ l) n a h = absurd (omega (arith, a.each))
complete (s ∷ ss) [] ps f l n a h = absurd (omega (arith, n.on_line.each_end))
complete (s ∷ ss) (e ∷ es) [] f l n a h = absurd (omega (arith, n.each_perm))
complete (s ∷ ss) (e ∷ es) (p ∷ ps) f [] n a h = absurd (omega (arith, a.each))
complete (s ∷ ss) (e ∷ es) (p ∷ ps) f (x ∷ l) n a h =
    le_trans
    (value_of f (row s e p) (rows ss es ps) x l (a.allowed 0 (omega arith)) (h 0 (omega arith))
    (complete ss es ps (put f x e) l (line_tail s e p ss es ps n) (settled_tail s e p ss es ps x l a) (free_tail s e p ss es ps x l f n a h)))
    (value_le f (row s e p) (rows ss es ps) x)

sound : (ss es ps : List ℕ) (f : ℕ → ℕ) (c : ℕ) → Line ss es ps → best (rows ss es ps) (f 1) (f 2) ≡ suc c
    → (l : List ℕ) × Settled ss es ps l × (heard l ≡ c) × Free f ss l
unfolding best rows heard
sound [] es ps f c n h = (
  [],
  record { each = refl; allowed = λ i k. absurd (omega arith); apart = λ i j k. absurd (omega arith) },
  omega arith,
  λ j k. absurd (omega arith),
)
sound (s ∷ ss) [] ps f c n h = absurd (omega (arith, n.on_line.each_end))
sound (s ∷ ss) (e ∷ es) [] f c n h = absurd (omega (arith, n.each_perm))
sound (s ∷ ss) (e ∷ es) (p ∷ ps) f c n h =
    let r = row s e p in
    let w = max_hits (value f r (rows ss es ps)) (suc c) (sym h ∙ best_value f r (rows ss es ps)) in
    let i = value_inv f r (rows ss es ps) w.0 c w.1 in
    let t = sound ss es ps (put f w.0 e) i.2 (line_tail s e p ss es ps n) i.3 in (
      w.0 ∷ t.0,
      settled_cons s e p ss es ps w.0 t.0 f i.0 t.1 t.3,
      omega (arith, t.2, i.4),
      free_cons s e p ss es ps w.0 t.0 f n i.1 t.3,
    )

pub line_sound : (ss es ps : List ℕ) → Line ss es ps → (c : ℕ) → best (rows ss es ps) 0 0 ≡ suc c → (l : List ℕ) × Settled ss es ps l × (heard l ≡ c)
line_sound ss es ps n c h = let t = sound ss es ps (λ y. 0) c n h in (t.0, t.1, t.2)

pub line_complete : (ss es ps : List ℕ) → Line ss es ps → (l : List ℕ) → Settled ss es ps l → suc (heard l) ≤ best (rows ss es ps) 0 0
line_complete ss es ps n l a = complete ss es ps (λ y. 0) l n a (λ j k q. omega arith)
