-- What one receiver could hear with a crossing row: where rows in order of their starts cannot all be heard, the one
-- that ends first is kept, and so no labels hear more.
use Prim.Native.Nat.{ℕ, zero, suc, ◌+◌, ◌≤◌, ◌<◌}
use mathlib.Core.Path.{◌≡◌, refl, sym, ◌∙◌}
use mathlib.Core.Logic.{◌≢◌}
use mathlib.Core.Bool.{Bool, false, cond, and-eq-true_iff, false≢true}
use mathlib.Core.List.{List}
use native.Mathlib.Decide.{ℕ_discrete}
use native.Mathlib.Omega.{arith}
use native.Mathlib.Numerals.{add-one}
use borrow.Author.Tests.{eq-eqb, ne_eqb}
use lib.Dec.{eqb}
use lib.ListN.{length, take}
use Rattle.basics.specs.Lists.{at}
use Rattle.labels.specs.Permission.{permits}
use Rattle.pairs.specs.Pairs.{one}
use Rattle.pairs.specs.Bounds.{labelled, HearsWith, hearable, WithRow}
use Rattle.pairs.proofs.Bounds.{labelled_more, one_more, one_le}

-- How many can be heard of the rows below k, the count less one: where labels hear as many of them, the next row that
-- they hear starts no earlier than the last end.
pub record Scheduled (positions ends perms : List ℕ) (m x w k count last : ℕ) : Type 0 where
  pub small : count + m ≤ k + 2
  pub most : (l : List ℕ) → HearsWith positions ends perms m x w l → suc (labelled x (take k l)) ≤ count
  pub free : (l : List ℕ) → HearsWith positions ends perms m x w l → suc (labelled x (take k l)) ≡ count → (j : ℕ) → k ≤ j → j < length positions → at l j ≡ x
      → last ≤ at positions j

module _ {positions ends perms : List ℕ} {m x w : ℕ} where
  -- of the crossing rows the receiver hears at most w
  front_le : (l : List ℕ) → HearsWith positions ends perms m x w l → (i : ℕ) → i ≤ m → m ≤ length positions → labelled x (take i l) ≤ one i w
  unfolding labelled
  front_le l H zero h b = omega arith
  front_le l H (suc i) h b =
      rw (← add-one i)
      (omega (
        arith,
        front_le l H i (omega arith) b,
        labelled_more x l i (omega (arith, H.each)),
        one_more i w,
        only (ℕ_discrete (at l i) x),
      ))
    where
      only : Dec (at l i ≡ x) → cond (eqb (at l i) x) 1 0 ≤ cond (eqb i w) 1 0
      only (yes e) = rw (eq-eqb (at l i) x e, eq-eqb i w (H.alone i h e)) (omega arith)
      only (no e) = rw (ne_eqb (at l i) x e) (omega arith)

  module _ (within : m ≤ length positions) where
    pub scheduled_none : {count : ℕ} → count ≡ 1 + one m w → Scheduled positions ends perms m x w m count 0
    scheduled_none e =
        record {
          small = omega (arith, one_le m w);
          most = λ l H. omega (arith, front_le l H m (omega arith) within);
          free = λ l H q j a b f. omega arith;
        }

  module _ {k count last : ℕ} (S : Scheduled positions ends perms m x w k count last) (rest : m ≤ k) (inside : k < length positions) where
    -- labels that give row k the receiver, and labels that do not
    with_row : (l : List ℕ) → HearsWith positions ends perms m x w l → at l k ≡ x → labelled x (take (k + 1) l) ≡ labelled x (take k l) + 1
    with_row l H e = rw (labelled_more x l k (omega (arith, H.each)), eq-eqb (at l k) x e) refl

    without_row : (l : List ℕ) → HearsWith positions ends perms m x w l → at l k ≢ x → labelled x (take (k + 1) l) ≡ labelled x (take k l)
    without_row l H n = omega (arith, rw (ne_eqb (at l k) x n) at (labelled_more x l k (omega (arith, H.each))))

    pub scheduled_same : {b : Bool} → b ≡ hearable positions ends perms m x w k → b ≡ false → Scheduled positions ends perms m x w (k + 1) count last
    scheduled_same d e =
        record {
          small = omega (arith, S.small);
          most = λ l H. rw (without_row l H (not_it l H)) (S.most l H);
          free = λ l H q j a b f. S.free l H (omega (arith, without_row l H (not_it l H))) j (omega arith) b f;
        }
      where
        not_it : (l : List ℕ) → HearsWith positions ends perms m x w l → at l k ≢ x
        not_it l H f =
            false≢true (sym e ∙ d ∙ (and-eq-true_iff (permits (at perms k) x) _).1 (H.allowed k inside f, H.beside_it k rest inside f))

    -- labels that give row k the receiver, where the row overlaps the last one, hear fewer of the rows before
    fewer : (l : List ℕ) → HearsWith positions ends perms m x w l → at l k ≡ x → at positions k < last → suc (labelled x (take k l)) < count
    fewer l H e h =
        let as_many : suc (labelled x (take k l)) ≡ count → last ≤ at positions k = λ q. S.free l H q k (omega arith) inside e in
        grind (arith, S.most l H)

    pub scheduled_more : {count' last' : ℕ} → WithRow count last (at positions k) (at ends k) count' last' → Scheduled positions ends perms m x w (k + 1) count' last'
    scheduled_more {count'} {last'} R =
        record {
          small = grind (arith, S.small);
          most = λ l H. most l H (ℕ_discrete (at l k) x);
          free = λ l H q j a b f. free l H q j (omega arith) b f (ℕ_discrete (at l k) x);
        }
      where
        most : (l : List ℕ) → HearsWith positions ends perms m x w l → Dec (at l k ≡ x) → suc (labelled x (take (k + 1) l)) ≤ count'
        most l H (yes e) = grind (arith, with_row l H e, S.most l H, fewer l H e)
        most l H (no n) = grind (arith, without_row l H n, S.most l H)

        free : (l : List ℕ) → HearsWith positions ends perms m x w l → suc (labelled x (take (k + 1) l)) ≡ count' → (j : ℕ) → k < j → j < length positions → at l j ≡ x
            → Dec (at l k ≡ x) → last' ≤ at positions j
        free l H q j a b f (yes e) = omega (arith, H.apart k j rest a b e f)
        free l H q j a b f (no n) =
            let as_many : suc (labelled x (take k l)) ≡ count → last ≤ at positions j = λ z. S.free l H z j (omega arith) b f in
            grind (arith, without_row l H n, S.most l H)
