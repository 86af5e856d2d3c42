-- What a writer call gives when its checks refuse and when they pass. A call that passes has a plan, whose rows on one
-- receiver start at different ticks, and a buffer that is long enough.
use Prim.Native.Nat.{ℕ, ◌≤◌, ◌<◌}
use mathlib.Core.Path.{◌≡◌, refl, sym, ◌∙◌}
use mathlib.Core.List.{List}
use native.Mathlib.Nat.{le_refl}
use native.Mathlib.Omega.{arith}
use borrow.Author.Tests.{le-leb, lt-leb, leb-true, eq-eqb, ne_eqb}
use lib.Dec.{leb}
use lib.ListN.{length}
use Rattle.basics.specs.Lists.{Put}
use Rattle.std.specs.Prelude.{Result, Ok, Err, IsErrAnd}
use Rattle.refusals.specs.declared.Refusal.{Refusal}
use Rattle.refusals.specs.Numbers.{number}
use Rattle.refusals.specs.Refusals.{number_of, answered, answer_of, asked, ◌then◌, Accepted, NotPlan, Buffer}
use Rattle.table.specs.Tables.{Table, rows, row_at, Plan, Valid, is_plan}
use Rattle.table.specs.Checks.{lists_refusal, table_looked}
use Rattle.refusals.proofs.Refusals.{Passed, number_within, then_passed, asked_passed}
use Rattle.table.proofs.Checked.{lists_passed, table_passed}
use Rattle.table.proofs.Plans.{plan_iff, clash_start}
use Rattle.plan_tape.specs.PlanTapes.{rows_of, tape_bytes}
use Rattle.plan_tape.specs.Written.{tape_of, labelled, write_refusal, writing, written}
use Rattle.plan_tape.specs.Parts.{Differ, Writable}
use Rattle.basics.proofs.Puts.{put_front}
use Rattle.plan_tape.proofs.Order.{Rising, rising_rows}
use Rattle.plan_tape.proofs.Length.{tape_length}

-- ---- calls that pass

pub tape_bytes_heard : (t : Table) (labels : List ℕ) → length (tape_of t labels) ≡ tape_bytes labels
unfolding tape_of
tape_bytes_heard t labels = tape_length t.starts labels t.setting.kind t.setting.ticks t.ends

module _ (t : Table) (labels : List ℕ) (buffer : ℕ) where
  -- check 10 by the length as it is computed
  pub buffer_short : buffer < tape_bytes labels → Buffer ≡ asked (leb (length (tape_of t labels)) buffer) Buffer
  buffer_short h = rw (tape_bytes_heard t labels, lt-leb (tape_bytes labels) buffer h) refl

  pub buffer_long : tape_bytes labels ≤ buffer → Accepted ≡ asked (leb (length (tape_of t labels)) buffer) Buffer
  buffer_long h = rw (tape_bytes_heard t labels, le-leb (tape_bytes labels) buffer h) refl

module _ (t : Table) (labels : List ℕ) where
  -- what is known once the checks before 9 pass
  pub labelled_passed : Passed (labelled t labels) → Valid t × (length labels ≡ rows t)
  unfolding labelled
  labelled_passed p =
      let f = then_passed (lists_refusal t labels) (table_looked t).refusal p in
      let l = lists_passed t labels f.0 in
      (table_passed t f.1 l.1, l.0.2)

  plan_differ : Valid t → Plan t labels → (receiver : ℕ) → 1 ≤ receiver → Differ t.starts labels receiver
  plan_differ v P receiver h i j a b d x y s =
      P.apart i j (omega (arith, P.each)) (omega (arith, P.each)) d (omega arith) (x ∙ sym y)
      (clash_start t.setting (row_at t i) (row_at t j) (v.row i (omega (arith, P.each))) (v.row j (omega (arith, P.each))) s)

  -- of a plan, the starts of a receiver's rows rise from one LISTEN to the next
  pub plan_rising : Valid t → Plan t labels → (receiver : ℕ) → 1 ≤ receiver → Rising t.starts 0 (rows_of t.starts labels receiver)
  plan_rising v P receiver h = rising_rows t.starts labels receiver (plan_differ v P receiver h) (length labels) (le_refl (length labels))

  -- what the call has, if all checks pass
  pub record Fit (buffer : ℕ) : Type 0 where
    pub valid : Valid t
    pub plan : Plan t labels
    pub room : length (tape_of t labels) ≤ buffer

  pub write_fit : (buffer : ℕ) → Passed (write_refusal t labels buffer) → Fit buffer
  unfolding write_refusal
  write_fit buffer p =
      let tested = asked (is_plan t labels) NotPlan in
      let long = asked (leb (length (tape_of t labels)) buffer) Buffer in
      let f = then_passed (labelled t labels) (tested then long) p in
      let h = then_passed tested long f.1 in
      let v = (labelled_passed f.0).0 in
      record {
        valid = v;
        plan = (plan_iff t v labels).0 (asked_passed (is_plan t labels) NotPlan (omega arith) h.0);
        room = leb-true (length (tape_of t labels)) buffer (asked_passed (leb (length (tape_of t labels)) buffer) Buffer (omega arith) h.1);
      }

  pub writable : (buffer : ℕ) → Passed (write_refusal t labels buffer) → Writable t.starts t.ends labels buffer
  writable buffer p =
      let f = write_fit buffer p in
      record {
        sized = record { each_end = f.valid.each_end; each_label = f.plan.each; few = f.valid.few };
        differ = plan_differ f.valid f.plan;
        room = omega (arith, f.room, tape_bytes_heard t labels);
      }

  -- ---- the two kinds of answer

  module _ (before : List ℕ) where
    -- of the result that hands on a refusal
    pub written_refused : {e : Refusal} (r : Result ℕ Refusal) → IsErrAnd r (λ y. y ≡ e) → Err e ≡ write_refusal t labels (length before) → writing (answer_of r) before ≡ written t labels before
    unfolding written
    written_refused (Ok n) h q = absurd h
    written_refused (Err y) h q = rw (← q, ← h, ne_eqb (number y) 0 (λ z. absurd (omega (arith, z, (number_within y).0)))) refl

    pub written_passed : Passed (write_refusal t labels (length before)) → (after : List ℕ) (next : ℕ) → Put before 0 (tape_of t labels) after next
        → writing (answered Accepted next) after ≡ written t labels before
    unfolding written
    written_passed p after next q =
        let f = put_front q (write_fit (length before) p).room in
        rw (eq-eqb (number_of (write_refusal t labels (length before))) 0 p) (λ i. writing (answered Accepted (f.0 i)) (f.1 i))
