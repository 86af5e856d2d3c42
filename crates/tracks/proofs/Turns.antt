-- The steps of narrowing, one after the other: what the next call is lent, the loop that leaves rows their first
-- labels, and the loop over the rows.
use Prim.Native.Nat.{ℕ, suc, ◌+◌, ◌-◌, ◌≤◌, ◌<◌}
use mathlib.Core.Path.{◌≡◌, refl, sym, ap, subst, ◌∙◌}
use mathlib.Core.Logic.{◌⊎◌, inl, inr}
use mathlib.Core.Bool.{Bool, false}
use mathlib.Core.List.{List}
use native.Mathlib.Omega.{arith}
use native.Mathlib.Nat.{eq-or-lt_of_le}
use lib.ListN.{length, set, drop, length-set}
use lib.Seq.{ext_get_or, get_or-set_same, get_or-set_other}
use Rattle.std.specs.List.{between}
use Rattle.std.proofs.lemmas.List.{set-get_or}
use Rattle.std.proofs.lemmas.List.Edits.{get_or-between}
use Rattle.basics.specs.Lists.{at}
use Rattle.labels.specs.Labels.{heard}
use Rattle.labels.specs.Permission.{only}
use Rattle.line.specs.Cells.{found_from, next_from}
use Rattle.pairs.specs.Ready.{Rows}
use Rattle.pairs.proofs.Trials.{ready_again}
use Rattle.tracks.specs.Tracks.{Answered}
use Rattle.tracks.specs.Narrowing.{Ordered, OneAt, Narrowed, Taken, Kept, Outcome, first_in, Fixed, FixedFrom, Advanced, FindReady, NarrowReady, RowReady}
use Rattle.tracks.proofs.Rows.{Family, ordered_family}
use Rattle.tracks.proofs.Firsts.{first_le, only_le}
use Rattle.tracks.proofs.Narrowed.{
  one_at,
  narrowed_same,
  narrowed_trans,
  narrowed_more,
  narrowed_fewer,
  narrowed_reached,
  narrowed_twice,
  narrowed_answered,
  outcome_taken,
  first_allowed,
  fixed_within,
  fixed_narrowed,
  struck_within,
  struck_reached,
  struck_narrowed,
  struck_advanced,
}

-- ---- what the next call is lent

-- the rows with other permissions
with_perms : {positions ends order perms perms' : List ℕ} {m : ℕ} → Rows positions ends order perms m → length perms' ≡ length perms → Rows positions ends order perms' m
with_perms R e =
    record {
      few = R.few;
      each_end = R.each_end;
      each_order = R.each_order;
      each_perm = e ∙ R.each_perm;
      ordered = R.ordered;
      crossing = R.crossing;
      row = R.row;
    }

module _ {positions ends order perms perms' : List ℕ} {m cap : ℕ} {left left' space space' : List ℕ}
    (e : length perms' ≡ length perms) (f : length left' ≡ length left) (g : length space' ≡ length space) (d : drop next_from space' ≡ drop next_from space) where
  -- under permissions that permit no other assignment
  pub find_again : FindReady positions ends order perms m cap left space → ((l : List ℕ) → Ordered positions ends order perms' l → Ordered positions ends order perms l)
      → FindReady positions ends order perms' m cap left' space'
  find_again R within =
      let again = ready_again R.ready f g d in
      record {
        ready = record { rows = with_perms again.rows e; each_left = again.each_left; next_rows = again.next_rows };
        permuted = R.permuted;
        most = λ l a. R.most l (within l a);
        some = R.some;
      }

  -- in the turn of row i, where the rows before it are narrowed
  pub row_again : {i : ℕ} → NarrowReady positions ends order perms m cap left space → Narrowed (Ordered positions ends order) cap perms perms' i → Kept perms' space' → i < length perms'
      → RowReady positions ends order perms' m cap left' space' i
  row_again R N K h =
      record {
        narrow = record { find = find_again R.find N.within; reached = narrowed_reached (ordered_family R.find.ready.rows R.find.permuted) R.reached N };
        kept = K;
        one = N.one;
        inside = h;
      }

-- ---- permissions beside the labels found

pub kept_between : (perms space : List ℕ) → between found_from (found_from + length perms) space ≡ perms → Kept perms space
kept_between perms space e r h = sym (get_or-between space found_from (found_from + length perms) r 0 (omega arith)) ∙ ap (λ l. at l r) e

-- ---- the loop of `fix`: none of the rows, one more that is changed, one more that is not

module _ {perms : List ℕ} {i : ℕ} where
  pub fixed_none : i ≤ length perms → Fixed perms perms i i
  fixed_none h = record { each = refl; inside = h; first = λ r a b. absurd (omega arith); lower = λ r a. refl; upper = λ r a. refl }

  module _ {perms' : List ℕ} {e x : ℕ} (X : Fixed perms perms' i e) (low : i ≤ e) (inside : e < length perms') (is : x ≡ only (first_in (at perms' e))) where
    pub fixed_more : Fixed perms (set perms' e x) i (e + 1)
    fixed_more =
        record {
          each = length-set perms' e x ∙ X.each;
          inside = omega (arith, X.each);
          first = λ r a b. go r a (eq-or-lt_of_le (omega arith));
          lower = λ r a. get_or-set_other perms' e r x 0 (λ q. omega arith) ∙ X.lower r a;
          upper = λ r a. get_or-set_other perms' e r x 0 (λ q. omega arith) ∙ X.upper r (omega arith);
        }
      where
        go : (r : ℕ) → i ≤ r → (r ≡ e) ⊎ (r < e) → at (set perms' e x) r ≡ only (first_in (at perms r))
        go r a (inl q) = rw (q, get_or-set_same perms' e x 0 inside, ← X.upper e (omega arith)) is
        go r a (inr q) = get_or-set_other perms' e r x 0 (λ p. omega arith) ∙ X.first r a q

    pub fixed_same : at perms' e ≡ x → Fixed perms perms' i (e + 1)
    fixed_same h = subst (λ (l : List ℕ). Fixed perms l i (e + 1)) (ap (set perms' e) (sym h) ∙ set-get_or perms' e 0) fixed_more

-- ---- attempts in the turn of row i

module _ {positions ends order perms : List ℕ} {m cap : ℕ} {left space : List ℕ} {i : ℕ} (R : RowReady positions ends order perms m cap left space i) where
  family : Family (length positions) (Ordered positions ends order)
  family = ordered_family R.narrow.find.ready.rows R.narrow.find.permuted

  long : length perms ≡ length positions
  long = R.narrow.find.ready.rows.each_perm

  inside : i < length positions
  inside = omega (arith, R.inside, long)

  -- an attempt that does not reach the cap leaves the permissions as they were
  pub attempt_back : {perms' perms'' : List ℕ} {r : Bool} → Outcome (Ordered positions ends order) cap perms' perms'' space r → length perms'' ≡ length perms → r ≡ false
      → perms'' ≡ perms
  attempt_back {perms'} {perms''} O e f = ext_get_or 0 perms'' perms e (λ j h. sym (O.before f j h) ∙ R.kept j (omega arith))

  pub row_back : {perms' left' space' : List ℕ} → perms' ≡ perms → length left' ≡ length left → length space' ≡ length space → drop next_from space' ≡ drop next_from space
      → Kept perms' space' → RowReady positions ends order perms' m cap left' space' i
  row_back e f g d K = row_again (ap length e) f g d R.narrow (rw e (narrowed_same family R.one)) K (rw e R.inside)

  module _ {perms' : List ℕ} (X : FixedFrom perms perms' i) where
    pub fixed_ready : FindReady positions ends order perms' m cap left space
    fixed_ready = find_again X.2.each refl refl refl R.narrow.find (λ l a. fixed_within family long R.narrow.reached X.2 a)

    pub fixed_taken : {perms'' : List ℕ} → Taken (Ordered positions ends order) cap perms' perms'' → Narrowed (Ordered positions ends order) cap perms perms'' (i + 1)
    fixed_taken T = narrowed_fewer family (omega (arith, X.1)) (fixed_narrowed family long R.narrow.reached X.2 R.one T)

  -- row i alone
  module _ {x : ℕ} (is : x ≡ only (first_in (at perms i))) where
    pub first_fixed : FixedFrom perms (set perms i x) i
    first_fixed = (i + 1, omega arith, fixed_more (fixed_none (omega (arith, R.inside))) (omega arith) R.inside is)

    pub first_taken : {perms' : List ℕ} → Taken (Ordered positions ends order) cap (set perms i x) perms'
        → Narrowed (Ordered positions ends order) cap perms perms' i × Advanced perms perms' i
    first_taken T = let N = fixed_taken first_fixed T in (narrowed_fewer family (omega arith) N, inl (N.one i (omega arith)))

    pub first_below : x ≤ at perms i
    first_below = rw is (only_le (at perms i) (first_in (at perms i)) (first_allowed family long R.narrow.reached i inside))

    -- its first label does not reach the cap
    module _ {perms' : List ℕ} {r : Bool}
        (O : Outcome (Ordered positions ends order) cap (set perms i x) perms' space r) (e : length perms' ≡ length (set perms i x)) (f : r ≡ false) where
      back : perms' ≡ perms
      back = attempt_back O (e ∙ length-set perms i x) f

      none : (l : List ℕ) → Ordered positions ends order (set perms i (only (first_in (at perms i)))) l → suc (heard l) < cap
      none l a = O.none f l (rw is a)

      pub struck_ready : {left' space' : List ℕ} → length left' ≡ length left → length space' ≡ length space → drop next_from space' ≡ drop next_from space
          → FindReady positions ends order (set perms' i (at perms i - x)) m cap left' space'
      struck_ready g h d =
          rw (back, is)
          (find_again (length-set perms i (at perms i - only (first_in (at perms i)))) g h d R.narrow.find (λ l a. struck_within family long R.narrow.reached inside none a))

      pub struck_taken : {perms'' space' : List ℕ} {q : Bool} → Outcome (Ordered positions ends order) cap (set perms' i (at perms i - x)) perms'' space' q
          → Narrowed (Ordered positions ends order) cap perms perms'' i × Advanced perms perms'' i
      struck_taken {perms''} {space'} {q} S =
          let T = outcome_taken family (rw (back, is) at S) (struck_reached family long R.narrow.reached inside none) in
          (struck_narrowed family long R.narrow.reached inside none R.one T, struck_advanced family long R.narrow.reached inside none R.one T)

  -- a row of one label
  module _ (is : at perms i ≡ only (first_in (at perms i))) where
    pub first_one : OneAt perms i
    first_one = one_at perms i (first_in (at perms i)) (first_le (at perms i)) is

    pub row_same : Narrowed (Ordered positions ends order) cap perms perms i × Advanced perms perms i
    row_same = (narrowed_same family R.one, inl first_one)

    pub row_done : Narrowed (Ordered positions ends order) cap perms perms (i + 1)
    row_done = narrowed_more family (narrowed_same family R.one) first_one

  -- two attempts
  pub row_twice : {perms' perms'' : List ℕ} → Narrowed (Ordered positions ends order) cap perms perms' i × Advanced perms perms' i
      → Narrowed (Ordered positions ends order) cap perms' perms'' i × Advanced perms' perms'' i → Narrowed (Ordered positions ends order) cap perms perms'' (i + 1)
  row_twice N M = narrowed_twice family inside R.narrow.reached N.0 M.0 N.1 M.1

-- ---- the loop of `narrow`

module _ {positions ends order perms₀ : List ℕ} {m cap : ℕ} {left₀ space₀ : List ℕ} (R : NarrowReady positions ends order perms₀ m cap left₀ space₀) where
  pub narrow_none : Narrowed (Ordered positions ends order) cap perms₀ perms₀ 0
  narrow_none = narrowed_same (ordered_family R.find.ready.rows R.find.permuted) (λ j h. absurd (omega arith))

  pub narrow_more : {perms perms' : List ℕ} {i : ℕ} → Narrowed (Ordered positions ends order) cap perms₀ perms i → Narrowed (Ordered positions ends order) cap perms perms' (i + 1)
      → Narrowed (Ordered positions ends order) cap perms₀ perms' (i + 1)
  narrow_more N M = narrowed_trans (ordered_family R.find.ready.rows R.find.permuted) N M

  pub narrow_done : {perms : List ℕ} {i : ℕ} → length perms₀ ≤ i → Narrowed (Ordered positions ends order) cap perms₀ perms i → Answered (Ordered positions ends order perms₀) cap perms
  narrow_done h N =
      let F = ordered_family R.find.ready.rows R.find.permuted in
      let long = R.find.ready.rows.each_perm in
      narrowed_answered F long R.find.some R.find.most R.reached (narrowed_fewer F (omega (arith, long)) N)
