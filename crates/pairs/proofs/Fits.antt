-- The pair theorem: labels of rows in order leave no two arcs of one receiver with a common tick exactly if some pair
-- of crossing rows fits them.
use Prim.Native.Nat.{ℕ, zero, suc, ◌≤◌, ◌<◌}
use mathlib.Core.Path.{◌≡◌, refl, sym, ap, ◌∙◌}
use mathlib.Core.Logic.{◌↔◌, ◌⊎◌, inl, inr, ⊎_elim, ◌≢◌}
use mathlib.Core.Bool.{Bool, true, false, cond, ◌&&◌, ◌||◌, false≢true}
use mathlib.Core.List.{List}
use native.Mathlib.Decide.{ℕ_discrete, dec_lt}
use native.Mathlib.Nat.{eq-or-lt_of_le, le_of_suc-le-suc}
use native.Mathlib.Omega.{arith}
use borrow.Author.Tests.{eqb-true, eqb-false, le-leb, lt-leb}
use lib.Dec.{leb, eqb}
use lib.ListN.{length}
use Rattle.std.proofs.lemmas.Bool.{true_from_ne_false, false_from_ne_true}
use Rattle.basics.specs.Lists.{at}
use Rattle.labels.proofs.Permissions.{permits_label}
use Rattle.labels.specs.Permission.{permits}
use Rattle.basics.proofs.Tests.{leb_iff, or_iff}
use Rattle.arcs.specs.Positions.{clear}
use Rattle.arcs.specs.Order.{Crossing}
use Rattle.pairs.specs.Pairs.{Cleared, beside, pair_label, leaves, PairFit, Within, SecondFit}
use Rattle.pairs.proofs.Leaves.{left_iff, chosen, leaves_front, leaves_rest, rest_leaves, given_chosen}

-- labels that any pair fits
abbrev pub AnyFit : List ℕ → List ℕ → List ℕ → ℕ → List ℕ → Type 0
AnyFit positions ends perms m = Within (SecondFit positions ends perms m) 0 m

-- ---- arcs by position and end

module _ (p e p' e' : ℕ) where
  front_front : e ≤ p → e' ≤ p' → clear p e p' e' ≡ false
  unfolding clear
  front_front h k = simp (le-leb e p h, le-leb e' p' k)

  front_rest : e ≤ p → p' < e' → clear p e p' e' ≡ (leb e p' && leb e' p)
  unfolding clear
  front_rest h k = simp (le-leb e p h, lt-leb e' p' k)

  rest_front : p < e → e' ≤ p' → clear p e p' e' ≡ (leb e' p && leb e p')
  unfolding clear
  rest_front h k = simp (lt-leb e p h, le-leb e' p' k)

  rest_rest : p < e → p' < e' → clear p e p' e' ≡ (leb e p' || leb e' p)
  unfolding clear
  rest_rest h k = simp (lt-leb e p h, lt-leb e' p' k)

-- ---- the crossing row of a receiver

-- w is the one row below m with the label x, or m where there is none
record Holder (l : List ℕ) (m x w : ℕ) : Type 0 where
  within : w ≤ m
  has : w < m → at l w ≡ x
  only : (k : ℕ) → k < m → at l k ≡ x → k ≡ w

looked : (l : List ℕ) (x n : ℕ) → ((w : ℕ) × (w < n) × (at l w ≡ x)) ⊎ ((k : ℕ) → k < n → at l k ≢ x)
looked l x zero = inr (λ k h. absurd (omega arith))
looked l x (suc n) = go (ℕ_discrete (at l n) x) (looked l x n)
  where
    go : Dec (at l n ≡ x) → ((w : ℕ) × (w < n) × (at l w ≡ x)) ⊎ ((k : ℕ) → k < n → at l k ≢ x)
        → ((w : ℕ) × (w < suc n) × (at l w ≡ x)) ⊎ ((k : ℕ) → k < suc n → at l k ≢ x)
    go (yes e) s = inl (n, omega arith, e)
    go (no e) (inl f) = inl (f.0, omega (arith, f.1), f.2)
    go (no e) (inr f) = inr (λ k h. ⊎_elim (λ q. rw q e) (f k) (eq-or-lt_of_le (le_of_suc-le-suc h)))

holder : (l : List ℕ) (m x : ℕ) → ((i j : ℕ) → i < m → j < m → at l i ≡ x → at l j ≡ x → i ≡ j) → (w : ℕ) × Holder l m x w
holder l m x f = go (looked l x m)
  where
    go : ((w : ℕ) × (w < m) × (at l w ≡ x)) ⊎ ((k : ℕ) → k < m → at l k ≢ x) → (w : ℕ) × Holder l m x w
    go (inl s) = (s.0, record { within = omega (arith, s.1); has = λ h. s.2; only = λ k h e. f k s.0 h s.1 e s.2 })
    go (inr s) = (m, record { within = omega arith; has = λ h. absurd (omega arith); only = λ k h e. absurd (s k h e) })

-- ---- the theorem

module _ (positions ends qs : List ℕ) (m : ℕ) (crossing : Crossing positions ends m) (l : List ℕ) where
  -- a pair's labels leave every two rows of one receiver clear of each other
  module _ (w1 w2 : ℕ) (F : PairFit positions ends qs m w1 w2 l) where
    pub left : (k : ℕ) → k < length positions → (permits (at qs k) (at l k) ≡ true) × (leaves positions ends m w1 w2 k (at l k) ≡ true)
    left k h = (left_iff positions ends m w1 w2 k (at qs k) (at l k)).0 (F.fit.allowed k h)

    pub front : (k : ℕ) → k < m → at l k ≢ 0 → k ≡ chosen positions ends m w1 w2 (at l k)
    front k h n =
        given_chosen positions ends m w1 w2 k (at l k) n
        ((leaves_front positions ends m w1 w2 k (at l k) h).0 (left k (omega (arith, crossing.within))).1)

    -- a crossing row and one that does not cross
    across : (i j : ℕ) → i < m → m ≤ j → j < length positions → at l i ≢ 0 → at l i ≡ at l j → (leb (at ends i) (at positions j) && leb (at ends j) (at positions i)) ≡ true
    across i j h k b n e =
        let s : beside positions ends m (chosen positions ends m w1 w2 (at l j)) j ≡ true = leaves_rest positions ends m w1 w2 j (at l j) k (λ z. n (e ∙ z)) (left j b).1 in
        rw (← e, ← front i h n, lt-leb m i h) at s

    apart : (i j : ℕ) → i < length positions → j < length positions → i ≢ j → at l i ≢ 0 → at l i ≡ at l j
        → clear (at positions i) (at ends i) (at positions j) (at ends j) ≡ false → ⊥
    apart i j hi hj d n e c = go (dec_lt i m) (dec_lt j m)
      where
        go : Dec (i < m) → Dec (j < m) → ⊥
        go (yes a) (yes b) = d (front i a n ∙ ap (chosen positions ends m w1 w2) e ∙ sym (front j b (λ z. n (e ∙ z))))
        go (yes a) (no b) =
            false≢true (sym c ∙ front_rest _ _ _ _ (crossing.front i a) (crossing.rest j (omega arith) hj) ∙ across i j a (omega arith) hj n e)
        go (no a) (yes b) =
            false≢true (sym c ∙ rest_front _ _ _ _ (crossing.rest i (omega arith) hi) (crossing.front j b) ∙ across j i b (omega arith) hi (λ z. n (e ∙ z)) (sym e))
        go (no a) (no b) =
            F.fit.apart i j hi hj d n e (
              omega arith,
              omega arith,
              λ s. false≢true (sym c ∙ rest_rest _ _ _ _ (crossing.rest i (omega arith) hi) (crossing.rest j (omega arith) hj) ∙ (or_iff (leb_iff _ _) (leb_iff _ _)).1 s),
            )

  pub fit_cleared : AnyFit positions ends qs m l → Cleared positions ends qs l
  fit_cleared W =
      let w1 = W.choice in
      let w2 = W.member.choice in
      let F = W.member.member in
      record { each = F.fit.each; allowed = λ k h. (left w1 w2 F k h).0; apart = apart w1 w2 F }

  -- and labels that do are those of the pair of crossing rows that they hear
  module _ (A : Cleared positions ends qs l) where
    unique : (x : ℕ) → x ≢ 0 → (i j : ℕ) → i < m → j < m → at l i ≡ x → at l j ≡ x → i ≡ j
    unique x n i j h k a b = go (ℕ_discrete i j)
      where
        go : Dec (i ≡ j) → i ≡ j
        go (yes e) = e
        go (no d) =
            absurd
            (A.apart i j (omega (arith, crossing.within)) (omega (arith, crossing.within)) d (λ z. n (sym a ∙ z)) (a ∙ sym b)
            (front_front _ _ _ _ (crossing.front i h) (crossing.front j k)))

    held : (x w : ℕ) → Holder l m x w → x ≢ 0 → (k : ℕ) → m ≤ k → k < length positions → at l k ≡ x → beside positions ends m w k ≡ true
    held x w H n k h b e = go (dec_lt w m)
      where
        go : Dec (w < m) → beside positions ends m w k ≡ true
        go (yes a) =
            rw (lt-leb m w a)
            (sym (front_rest _ _ _ _ (crossing.front w a) (crossing.rest k h b))
            ∙ true_from_ne_false _ (A.apart w k (omega (arith, crossing.within)) b (omega arith) (λ z. n (sym (H.has a) ∙ z)) (H.has a ∙ sym e)))
        go (no a) = rw (le-leb m w (omega arith))

    module _ (w1 w2 : ℕ) (H1 : Holder l m 1 w1) (H2 : Holder l m 2 w2) where
      is_given : (k : ℕ) → k < m → pair_label positions ends m w1 w2 k ≡ at l k
      is_given k h = go (eqb k w1) refl (eqb k w2) refl
        where
          other : (x : ℕ) → at l k ≡ x → x ≤ 2 → k ≢ w1 → k ≢ w2 → 0 ≡ x
          other zero e b f g = refl
          other (suc zero) e b f g = absurd (f (H1.only k h e))
          other (suc (suc zero)) e b f g = absurd (g (H2.only k h e))
          other (suc (suc (suc x))) e b f g = absurd (omega arith)

          go : (a : Bool) → eqb k w1 ≡ a → (b : Bool) → eqb k w2 ≡ b → cond a 1 (cond b 2 0) ≡ at l k
          go true p b q = let e = eqb-true k w1 p in sym (H1.has (rw e at h)) ∙ ap (at l) (sym e)
          go false p true q = let e = eqb-true k w2 q in sym (H2.has (rw e at h)) ∙ ap (at l) (sym e)
          go false p false q = other (at l k) refl (permits_label (at qs k) _ (A.allowed k (omega (arith, crossing.within)))) (eqb-false k w1 p) (eqb-false k w2 q)

      leaves_it : (k : ℕ) → k < length positions → leaves positions ends m w1 w2 k (at l k) ≡ true
      leaves_it k h = go (dec_lt k m)
        where
          besides : m ≤ k → (x : ℕ) → at l k ≡ x → x ≤ 2 → x ≢ 0 → beside positions ends m (chosen positions ends m w1 w2 x) k ≡ true
          besides a zero e b n = absurd (n refl)
          besides a (suc zero) e b n = held 1 w1 H1 n k a h e
          besides a (suc (suc zero)) e b n = held 2 w2 H2 n k a h e
          besides a (suc (suc (suc x))) e b n = absurd (omega arith)

          go : Dec (k < m) → leaves positions ends m w1 w2 k (at l k) ≡ true
          go (yes a) = (leaves_front positions ends m w1 w2 k (at l k) a).1 (is_given k a)
          go (no a) =
              let b = permits_label (at qs k) (at l k) (A.allowed k h) in
              rest_leaves positions ends m w1 w2 k (at l k) (omega arith) b (besides (omega arith) (at l k) refl b)

      pair_fit : PairFit positions ends qs m w1 w2 l
      pair_fit =
          record {
            distinct = λ e. separate e (dec_lt w1 m);
            fit = record {
              each = A.each;
              allowed = λ k h. (left_iff positions ends m w1 w2 k (at qs k) (at l k)).1 (A.allowed k h, leaves_it k h);
              apart = λ i j hi hj d n e c. A.apart i j hi hj d n e (false_from_ne_true _ (λ t. c.2 (clear_or i j c.0 c.1 hi hj t)));
            };
          }
        where
          separate : w1 ≡ w2 → Dec (w1 < m) → m ≤ w1
          separate e (yes h) = absurd (omega (arith, H1.has h, H2.has (rw e at h), ap (at l) e))
          separate e (no h) = omega arith

          clear_or : (i j : ℕ) → m ≤ i → m ≤ j → i < length positions → j < length positions → clear (at positions i) (at ends i) (at positions j) (at ends j) ≡ true
              → (at ends i ≤ at positions j) ⊎ (at ends j ≤ at positions i)
          clear_or i j a b hi hj t =
              (or_iff (leb_iff _ _) (leb_iff _ _)).0 (sym (rest_rest _ _ _ _ (crossing.rest i a hi) (crossing.rest j b hj)) ∙ t)

    pub cleared_fit : AnyFit positions ends qs m l
    cleared_fit =
        let a = holder l m 1 (unique 1 (omega arith)) in
        let b = holder l m 2 (unique 2 (omega arith)) in
        record {
          choice = a.0;
          low = omega arith;
          high = a.1.within;
          member = record { choice = b.0; low = omega arith; high = b.1.within; member = pair_fit a.0 b.0 a.1 b.1 };
        }

  pub fit_iff : AnyFit positions ends qs m l ↔ Cleared positions ends qs l
  fit_iff = (fit_cleared, cleared_fit)
