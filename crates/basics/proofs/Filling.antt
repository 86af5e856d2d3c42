-- A list that is filled from the front, one entry a turn.
use Prim.Native.Nat.{ℕ, ◌+◌, ◌≤◌, ◌<◌}
use mathlib.Core.Path.{◌≡◌, refl, sym, ◌∙◌}
use mathlib.Core.Logic.{◌⊎◌, inl, inr}
use mathlib.Core.List.{List}
use native.Mathlib.Omega.{arith}
use native.Mathlib.Nat.{eq-or-lt_of_le}
use lib.ListN.{length, set, length-set}
use lib.Seq.{get_or-set_same, get_or-set_other, ext_get_or}
use Rattle.basics.specs.Lists.{at, list_of}
use Rattle.basics.proofs.Lists.{length_list, at_list}

-- the first n entries are those of f, and the others as they were
pub record Filled (f : ℕ → ℕ) (n : ℕ) (old new : List ℕ) : Type 0 where
  pub each : length new ≡ length old
  pub done : (i : ℕ) → i < n → at new i ≡ f i
  pub rest : (i : ℕ) → n ≤ i → at new i ≡ at old i

pub filled_none : (f : ℕ → ℕ) (l : List ℕ) → Filled f 0 l l
filled_none f l = record { each = refl; done = λ i h. absurd (omega arith); rest = λ i h. refl }

pub filled_more : {f : ℕ → ℕ} {n : ℕ} {old new : List ℕ} {x : ℕ} → Filled f n old new → n < length old → x ≡ f n → Filled f (n + 1) old (set new n x)
filled_more {f} {n} {old} {new} {x} w h e =
    record {
      each = length-set new n x ∙ w.each;
      done = λ i k. go i (eq-or-lt_of_le (omega arith));
      rest = λ i k. get_or-set_other new n i x 0 (λ q. omega arith) ∙ w.rest i (omega arith);
    }
  where
    go : (i : ℕ) → (i ≡ n) ⊎ (i < n) → at (set new n x) i ≡ f i
    go i (inl q) = rw q (get_or-set_same new n x 0 (omega (arith, w.each)) ∙ e)
    go i (inr q) = get_or-set_other new n i x 0 (λ r. omega arith) ∙ w.done i q

-- all entries are those of f
pub filled_list : {f : ℕ → ℕ} {old new : List ℕ} {i : ℕ} (n : ℕ) → length old ≡ n → n ≤ i → Filled f i old new → new ≡ list_of n f
filled_list {f} {old} {new} n e h w =
    ext_get_or 0 new (list_of n f) (w.each ∙ e ∙ sym (length_list n f))
    (λ k b. w.done k (omega (arith, w.each)) ∙ sym (at_list n f k (omega (arith, w.each))))
