-- Assignments by rows of the table and by places in order: `Ordered` gives the assignments under any permissions, and
-- what `pairs` says of places holds of rows.
use Prim.Native.Nat.{ℕ, suc, ◌≤◌, ◌<◌}
use mathlib.Core.Path.{◌≡◌, refl, sym, ap, subst, ◌∙◌}
use mathlib.Core.Bool.{Bool, true}
use mathlib.Core.List.{List}
use native.Mathlib.Omega.{arith}
use lib.ListN.{length}
use Rattle.basics.specs.Limits.{max_rows}
use Rattle.basics.specs.Lists.{at}
use Rattle.basics.proofs.Lists.{at_map}
use Rattle.labels.specs.Labels.{heard}
use Rattle.labels.specs.Permission.{permits}
use Rattle.line.specs.Cells.{found_at}
use Rattle.pairs.specs.Pairs.{gathered, Cleared}
use Rattle.pairs.specs.Ready.{Most, Rows}
use Rattle.pairs.specs.Found.{LabelsFound, Found}
use Rattle.tracks.specs.Narrowing.{Ordered, Permuted, Kept, Taken, Outcome}

-- A gives the assignments of n rows under permissions: a row has a label that is permitted, and nothing else depends on
-- the permissions.
pub record Family (n : ℕ) (A : List ℕ → List ℕ → Type 0) : Type 0 where
  pub each : {perms l : List ℕ} → A perms l → length l ≡ n
  pub allowed : {perms l : List ℕ} → A perms l → (r : ℕ) → r < n → permits (at perms r) (at l r) ≡ true
  pub other : {perms perms' l : List ℕ} → A perms l → ((r : ℕ) → r < n → permits (at perms' r) (at l r) ≡ true) → A perms' l

module _ {positions ends order perms₀ : List ℕ} {m : ℕ} (R : Rows positions ends order perms₀ m) (P : Permuted (length positions) order) where
  -- the entry of a place is that of its row
  at_place : (l : List ℕ) {r : ℕ} (k : ℕ) → k < length positions → at order k ≡ r → at (gathered order l) k ≡ at l r
  at_place l k h e = at_map (λ i. at l i) order k (omega (arith, R.each_order)) ∙ ap (at l) e

  -- what holds of the permission and the label of each place holds of those of each row
  by_row : (Q : ℕ → ℕ → Type 0) (p l : List ℕ) → ((k : ℕ) → k < length positions → Q (at (gathered order p) k) (at (gathered order l) k))
      → (r : ℕ) → r < length positions → Q (at p r) (at l r)
  by_row Q p l f r h =
      let w = P.place r h in
      subst (λ x. Q x (at l r)) (at_place p w.0 w.1 w.2) (subst (λ x. Q (at (gathered order p) w.0) x) (at_place l w.0 w.1 w.2) (f w.0 w.1))

  pub ordered_family : Family (length positions) (Ordered positions ends order)
  ordered_family =
      record {
        each = λ O. O.each;
        allowed = λ {perms} {l} O. by_row (λ p x. permits p x ≡ true) perms l O.cleared.allowed;
        other = λ {perms} {perms'} {l} O f. record {
          each = O.each;
          cleared = record {
            each = O.cleared.each;
            allowed = λ k h. rw (at_place perms' k h refl, at_place l k h refl) (f (at order k) (R.row k h));
            apart = O.cleared.apart;
          };
        };
      }

  module _ {perms : List ℕ} where
    -- labels of the places are those of labels of the rows
    of_places : (t : List ℕ) → Cleared positions ends (gathered order perms) t → (l : List ℕ) × Ordered positions ends order perms l × (heard l ≡ heard t)
    of_places t c =
        let w = P.labels t c.each in
        (w.0, record { each = w.1; cleared = rw w.2 c }, sym (P.heard_same w.0 w.1) ∙ ap heard w.2)

    pub ordered_most : {r : ℕ} → Most (Cleared positions ends (gathered order perms)) r → Most (Ordered positions ends order perms) r
    ordered_most M =
        record {
          reached = λ h. let w = M.reached h in
              let t = of_places w.0 w.1 in
              (t.0, t.1, omega (arith, t.2, w.2));
          bound = λ l O. omega (arith, M.bound (gathered order l) O.cleared, P.heard_same l O.each);
        }

    -- a cap that no labels of the rows pass is passed by none of the places
    pub places_most : {cap : ℕ} → ((l : List ℕ) → Ordered positions ends order perms l → suc (heard l) ≤ cap)
        → (t : List ℕ) → Cleared positions ends (gathered order perms) t → suc (heard t) ≤ cap
    places_most f t c =
        let w = of_places t c in
        omega (arith, f w.0 w.1, w.2)

    module _ {cap : ℕ} {space : List ℕ} {perms' : List ℕ} (each : length perms ≡ length positions) (each' : length perms' ≡ length perms) where
      -- the labels found, where they are taken
      found_taken : (t : List ℕ) → Cleared positions ends (gathered order perms) t → suc (heard t) ≡ cap
          → LabelsFound order perms (length positions) cap (Cleared positions ends (gathered order perms)) space → Kept perms' space → Taken (Ordered positions ends order) cap perms perms'
      found_taken t c e F K =
          let w = of_places t c in
          record {
            each = each';
            reached = (w.0, w.1, omega (arith, w.2, e));
            labels = λ l O e r h. rw (is r h) (labels l O e r (omega arith));
            permitted = λ r x h q. F.only r x (omega arith) (rw (is r h) at q);
            small = λ r h. rw (is r h) (F.small r (omega arith));
          }
        where
          is : (r : ℕ) → r < length perms → at perms' r ≡ found_at space r
          is r h = sym (K r (omega arith))

          labels : (l : List ℕ) → Ordered positions ends order perms l → suc (heard l) ≡ cap → (r : ℕ) → r < length positions → permits (found_at space r) (at l r) ≡ true
          labels l O e r h =
              let w = P.place r h in
              rw (w.2, at_place l w.0 w.1 w.2) at (F.labels (gathered order l) O.cleared (omega (arith, P.heard_same l O.each)) w.0 w.1)

      pub found_outcome : {space₀ : List ℕ} {r : Bool} → length positions ≤ max_rows
          → Found order perms (length positions) cap (Cleared positions ends (gathered order perms)) space₀ space r → Kept perms' space
          → Outcome (Ordered positions ends order) cap perms perms' space₀ r
      found_outcome few F K =
          record {
            yes = λ e. let y = F.yes e in found_taken y.0.0 y.0.1 y.0.2 y.1 K;
            none = λ e l O. omega (arith, F.none e (gathered order l) O.cleared, P.heard_same l O.each);
            before = λ e r h. sym (F.kept e r (omega arith)) ∙ K r h;
          }
