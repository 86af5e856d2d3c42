-- Where each row of a table stands by what a plan tape states: under a receiver, with its window, or nowhere; and that
-- such rows pass check 6, lie in the hours 0 to R and are apart.
use Prim.Native.Nat.{ℕ, zero, suc, ◌≤◌}
use mathlib.Core.Path.{◌≡◌, refl, sym, ◌∙◌}
use mathlib.Core.Logic.{◌≢◌, ◌⊎◌, inl, inr}
use mathlib.Core.List.Memᴰ
use mathlib.Core.List.{List, [], ◌∷◌, Memᴰ}
use native.Mathlib.Decide.{ℕ_discrete}
use native.Mathlib.Nat.{le_refl}
use native.Mathlib.Omega.{arith}
use Rattle.basics.proofs.Tests.{leb_iff, and_iff}
use Rattle.window.specs.declared.Kind.{Kind}
use Rattle.window.specs.declared.Kind.TheVariants.{Round, Run}
use Rattle.window.specs.declared.Row.{Row}
use Rattle.window.specs.Hours.{hours_from}
use Rattle.window.specs.Windows.{Window, Overlap}
use Rattle.refusals.proofs.Refusals.{Passed}
use Rattle.table.specs.Tables.{Open}
use Rattle.table.specs.Checks.{hours_refusal}
use Rattle.plan_tape.specs.Stated.{Listen, Stated}
use Rattle.plan_reader.proofs.Parts.{Part, Judged}

-- ---- where a row stands

-- a LISTEN of the row, or none
Named : List Listen → ℕ → Type 0
Named ws i = ((w : Listen) × Memᴰ w ws × (w.row ≡ i)) ⊎ ((w : Listen) → Memᴰ w ws → w.row ≢ i)

named : (ws : List Listen) (i : ℕ) → Named ws i
unfolding Named
named [] i = inr (λ w m. absurd (Memᴰ.not-nil m))
named (v ∷ ws) i = go (ℕ_discrete v.row i) (named ws i)
  where
    go : Dec (v.row ≡ i) → Named ws i → Named (v ∷ ws) i
    go (yes e) n = inl (v, Memᴰ.head refl, e)
    go (no d) (inl f) = inl (f.0, Memᴰ.tail f.1, f.2)
    go (no d) (inr f) = inr none
      where
        none : (w : Listen) → Memᴰ w (v ∷ ws) → w.row ≢ i
        none w (Memᴰ.head q) = rw q d
        none w (Memᴰ.tail m) = f w m

-- the receivers, with their numbers
pub data Receiver : Type 0 where
  one : Receiver
  two : Receiver

abbrev pub number : Receiver → ℕ
number one = 1
number two = 2

abbrev pub under : Stated → Receiver → List Listen
under s one = s.first
under s two = s.second

pub number_some : (r : Receiver) → (1 ≤ number r) × (number r ≤ 2)
number_some one = (omega arith, omega arith)
number_some two = (omega arith, omega arith)

pub number_same : (r r' : Receiver) → number r ≡ number r' → r ≡ r'
number_same one one e = refl
number_same one two e = absurd (omega arith)
number_same two one e = absurd (omega arith)
number_same two two e = refl

-- where row i stands
pub data Place (s : Stated) (i : ℕ) : Type 0 where
  heard : (r : Receiver) (w : Listen) → Memᴰ w (under s r) → w.row ≡ i → Place s i
  free : ((r : Receiver) (w : Listen) → Memᴰ w (under s r) → w.row ≢ i) → Place s i

pub place : (s : Stated) (i : ℕ) → Place s i
unfolding Named
place s i = go (named s.first i) (named s.second i)
  where
    neither : ((w : Listen) → Memᴰ w s.first → w.row ≢ i) → ((w : Listen) → Memᴰ w s.second → w.row ≢ i)
        → (r : Receiver) (w : Listen) → Memᴰ w (under s r) → w.row ≢ i
    neither f g one = f
    neither f g two = g

    go : Named s.first i → Named s.second i → Place s i
    go (inl f) n = heard one f.0 f.1 f.2
    go (inr f) (inl g) = heard two g.0 g.1 g.2
    go (inr f) (inr g) = free (neither f g)

-- the row of a table: its LISTEN's window, and for a free row one that passes check 6
module _ {s : Stated} {i : ℕ} where
  abbrev pub start_at : Place s i → ℕ
  start_at (heard r w m e) = w.start
  start_at (free f) = 0

  abbrev pub end_at : Place s i → ℕ
  end_at (heard r w m e) = w.end
  end_at (free f) = 1

  abbrev pub label_at : Place s i → ℕ
  label_at (heard r w m e) = number r
  label_at (free f) = 0

-- ---- what holds of a row

free_window : (kind : Kind) (R : ℕ) → 2 ≤ R → Window kind R 0 1
free_window Round R h = (omega arith, omega arith)
free_window Run R h = (omega arith, omega arith)

-- in a run both receivers are open from 0 to R: every window lies in that
pub opened : (kind : Kind) (R : ℕ) (row : Row) (label : ℕ) → label ≤ 2 → row.end ≤ R → Open kind (hours_from 0 R 0 R) row label
opened Round R row label k h = tt
opened Run R row zero k h = tt
opened Run R row (suc zero) k h = (omega arith, h)
opened Run R row (suc (suc zero)) k h = (omega arith, h)
opened Run R row (suc (suc (suc label))) k h = absurd (omega arith)

pub hours_pass : (kind : Kind) (R : ℕ) → Passed (hours_refusal kind R (hours_from 0 R 0 R))
unfolding hours_refusal
hours_pass Round R = refl
hours_pass Run R =
    let each = (and_iff (leb_iff 0 R) (leb_iff R R)).1 (omega arith, le_refl R) in
    rw each refl

module _ (s : Stated) (J : Judged s) where
  pub part : (r : Receiver) → Part s.kind s.ticks (under s r)
  part one = J.first
  part two = J.second

  -- a row has one LISTEN
  pub sole : (r r' : Receiver) (w w' : Listen) → Memᴰ w (under s r) → Memᴰ w' (under s r') → w.row ≡ w'.row → (r ≡ r') × (w ≡ w')
  sole one one w w' m m' e = (refl, J.first.once w w' m m' e)
  sole one two w w' m m' e = absurd (J.others w w' m m' e)
  sole two one w w' m m' e = absurd (J.others w' w m' m (sym e))
  sole two two w w' m m' e = (refl, J.second.once w w' m m' e)

  module _ {i : ℕ} where
    pub fits : (q : Place s i) → Window s.kind s.ticks (start_at q) (end_at q)
    fits (heard r w m e) = (part r).window w m
    fits (free f) = free_window s.kind s.ticks J.ticks_least

    pub known : (q : Place s i) → label_at q ≤ 2
    known (heard r w m e) = (number_some r).1
    known (free f) = omega arith

    module _ {j : ℕ} where
      pub apart : (q : Place s i) (q' : Place s j) → i ≢ j → label_at q ≢ 0 → label_at q ≡ label_at q'
          → Overlap s.kind s.ticks (start_at q) (end_at q) (start_at q') (end_at q') → ⊥
      apart (heard one w m e) (heard one w' m' e') d n l o = J.first.apart w w' m m' (λ x. d (sym e ∙ x ∙ e')) o
      apart (heard two w m e) (heard two w' m' e') d n l o = J.second.apart w w' m m' (λ x. d (sym e ∙ x ∙ e')) o
      apart (heard one w m e) (heard two w' m' e') d n l o = omega arith
      apart (heard two w m e) (heard one w' m' e') d n l o = omega arith
      apart (heard r w m e) (free f) d n l o = n l
      apart (free f) q' d n l o = n refl
