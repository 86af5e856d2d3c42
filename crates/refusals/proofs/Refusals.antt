-- Laws of checks that are made one after the other: which refusal comes out, what is known once all have passed, and
-- what holds of every refusal that can come out.
use Prim.Native.Nat.{◌≤◌, ◌<◌}
use mathlib.Core.Path.{◌≡◌, refl}
use mathlib.Core.Bool.{Bool, true, false, cond, not}
use native.Mathlib.Omega.{arith}
use borrow.Author.Tests.{eq-eqb, ne_eqb, eqb-true, eqb-false, not-false}
use Rattle.refusals.specs.declared.Refusal.{Refusal}
use Rattle.refusals.specs.declared.Refusal.TheVariants as refusal
use Rattle.std.specs.Prelude.{Ok, Err}
use Rattle.std.specs.Result.{is_err}
use Rattle.refusals.specs.Numbers.{number}
use Rattle.refusals.specs.Refusals.{Outcome, Accepted, Lists, Rows, Space, Ticks, Hours, Window, Mark, NoPlan, NotPlan, Buffer, Form, Tape, FirstTick, Gap, NoRow, Candidates, number_of, asked, passes, ◌then◌}

-- a check that refuses nothing
abbrev pub Passed : Outcome → Type 0
Passed r = number_of r ≡ 0

-- a refusal has a number above 0, of at most two digits
pub number_within : (r : Refusal) → (0 < number r) × (number r < 100)
number_within refusal.Lists = (omega arith, omega arith)
number_within refusal.Rows = (omega arith, omega arith)
number_within refusal.Space = (omega arith, omega arith)
number_within refusal.Ticks = (omega arith, omega arith)
number_within refusal.Hours = (omega arith, omega arith)
number_within refusal.Window = (omega arith, omega arith)
number_within refusal.Mark = (omega arith, omega arith)
number_within refusal.NoPlan = (omega arith, omega arith)
number_within refusal.NotPlan = (omega arith, omega arith)
number_within refusal.Buffer = (omega arith, omega arith)
number_within refusal.Form = (omega arith, omega arith)
number_within refusal.Tape = (omega arith, omega arith)
number_within refusal.FirstTick = (omega arith, omega arith)
number_within refusal.Gap = (omega arith, omega arith)
number_within refusal.NoRow = (omega arith, omega arith)
number_within refusal.Candidates = (omega arith, omega arith)

-- a number has at most two digits
pub number_below : (r : Outcome) → number_of r < 100
number_below (Ok _) = omega arith
number_below (Err r) = (number_within r).1

-- only an accepted call has the number 0
pub passed_accepted : (r : Outcome) → Passed r → r ≡ Accepted
passed_accepted (Ok _) p = refl
passed_accepted (Err r) p = absurd (omega (arith, (number_within r).0))

-- a check that gives an error refuses, any other passes
pub err_refuses : (r : Outcome) → is_err r ≡ true → Passed r → ⊥
err_refuses (Ok _) e p = cc e
err_refuses (Err r) e p = omega (arith, (number_within r).0)

pub ok_passes : (r : Outcome) → is_err r ≡ false → Passed r
ok_passes (Ok _) e = refl
ok_passes (Err r) e = cc e

-- ---- what comes out, from what a function that makes the check returned

module _ {a r : Outcome} (e : r ≡ a) where
  -- the first check refuses
  pub then_first : (b : Outcome) → (number_of r ≡ 0 → ⊥) → r ≡ (a then b)
  then_first b n = rw (← e, ne_eqb (number_of r) 0 n) refl

  -- the first check passes
  pub then_next : {b x : Outcome} → number_of r ≡ 0 → x ≡ b → x ≡ (a then b)
  then_next n q = rw (← e, eq-eqb (number_of r) 0 n) q

module _ {a b : Bool} (r : Outcome) (e : a ≡ b) where
  -- the test of a check holds
  pub asked_held : not a ≡ false → Accepted ≡ asked b r
  asked_held n = rw (← e, not-false a n) refl

-- ---- the same, of a check whose refusal is handed on by `?`

-- the first check passes
pub passed_next : {a r b x : Outcome} {u : Unit {0}} → r ≡ a → r ≡ Ok u → x ≡ b → x ≡ (a then b)
passed_next h k = then_next h (rw k refl)

-- ---- all checks passed

pub asked_passes : (x : Bool) (r : Outcome) → x ≡ true → Passed (asked x r)
asked_passes x r e = rw e refl

-- three checks, whichever two are taken together
pub then_assoc : (a b c : Outcome) → ((a then b) then c) ≡ (a then b then c)
then_assoc a b c = go (passes a) refl
  where
    go : (x : Bool) → passes a ≡ x → (cond x b a then c) ≡ cond x (b then c) a
    go true e = refl
    go false e = rw e refl

pub then_passes : (a b : Outcome) → Passed a → Passed b → Passed (a then b)
then_passes a b p q = rw (eq-eqb (number_of a) 0 p) q

pub then_passed : (a b : Outcome) → Passed (a then b) → Passed a × Passed b
then_passed a b = go (passes a) refl
  where
    go : (x : Bool) → passes a ≡ x → Passed (cond x b a) → Passed a × Passed b
    go true e p = (eqb-true (number_of a) 0 e, p)
    go false e p = absurd (eqb-false (number_of a) 0 e p)

pub asked_passed : (x : Bool) (r : Outcome) → 1 ≤ number_of r → Passed (asked x r) → x ≡ true
asked_passed true r h p = refl
asked_passed false r h p = absurd (omega arith)

-- ---- what holds of each refusal that can come out holds of the one that does

pub then_either : (P : Outcome → Type 0) {a b : Outcome} → P a → P b → P (a then b)
then_either P {a} {b} f g = go (passes a)
  where
    go : (x : Bool) → P (cond x b a)
    go true = g
    go false = f

pub asked_either : (P : Outcome → Type 0) (x : Bool) {r : Outcome} → P Accepted → P r → P (asked x r)
asked_either P true f g = f
asked_either P false f g = g

-- ---- the numbers, written out

pub numbers :
    (number_of Accepted ≡ 0)
    × (number_of Lists ≡ 1)
    × (number_of Rows ≡ 2)
    × (number_of Space ≡ 3)
    × (number_of Ticks ≡ 4)
    × (number_of Hours ≡ 5)
    × (number_of Window ≡ 6)
    × (number_of Mark ≡ 7)
    × (number_of NoPlan ≡ 8)
    × (number_of NotPlan ≡ 9)
    × (number_of Buffer ≡ 10)
    × (number_of Form ≡ 11)
    × (number_of Tape ≡ 12)
    × (number_of FirstTick ≡ 13)
    × (number_of Gap ≡ 14)
    × (number_of NoRow ≡ 15)
    × (number_of Candidates ≡ 16)
numbers = (refl, refl, refl, refl, refl, refl, refl, refl, refl, refl, refl, refl, refl, refl, refl, refl, refl)
