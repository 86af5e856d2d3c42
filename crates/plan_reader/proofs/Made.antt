-- A tape that the writer makes, with any gap and any hours, passes the test of a plan tape.
use Rattle.refusals.specs.Refusals.{Accepted}
use Prim.Native.Nat.{ℕ, ◌+◌, ◌≤◌, ◌<◌}
use mathlib.Core.Path.{◌≡◌, sym, ap, ◌∙◌}
use mathlib.Core.Bool.{true}
use mathlib.Core.List.{List, [], ◌∷◌, map, Memᴰ}
use native.Mathlib.Omega.{arith}
use lib.ListN.{length, take}
use Rattle.basics.specs.Lists.{at}
use Rattle.window.specs.declared.Kind.{Kind}
use Rattle.window.specs.Gaps.{overlap}
use Rattle.table.specs.Tables.{Table, Valid, Plan}
use Rattle.plan_tape.specs.PlanTapes.{rows_of}
use Rattle.plan_tape.specs.Stated.{Listen, listen_of}
use Rattle.plan_tape.specs.Written.{tape_of, written}
use Rattle.plan_tape.proofs.Order.{Rising}
use Rattle.plan_tape.proofs.Accepted.{plan_rising}
use Rattle.plan_tape.proofs.Reading.{bytes_of, window, plan_stated, plan_bytes, bytes_read, Heard, past_end, windows_stated}
use Rattle.plan_tape.proofs.Same.{accepted_tape}
use Rattle.plan_reader.specs.Judged.{is_plan_tape}
use Rattle.plan_reader.proofs.Rises.{Rises}
use Rattle.plan_reader.proofs.Parts.{Part, Others, Judged, plan_tape_iff}
use Rattle.plan_reader.proofs.Formed.{bytes_formed}

pub rising_windows : (starts ends : List ℕ) (b : ℕ) (rows : List ℕ) → Rising starts b rows → Rises b (map (window starts ends) rows)
rising_windows starts ends b [] r = tt
rising_windows starts ends b (i ∷ rows) r = (r.0, rising_windows starts ends (at starts i + 1) rows r.1)

module _ (t : Table) (labels : List ℕ) (valid : Valid t) (plan : Plan t labels) where
  abbrev kind : Kind
  kind = t.setting.kind

  abbrev R : ℕ
  R = t.setting.ticks

  -- the LISTENs of a receiver
  abbrev windows : ℕ → List Listen
  windows receiver = map (window t.starts t.ends) (rows_of t.starts labels receiver)

  module _ (receiver : ℕ) (some : 1 ≤ receiver) where
    hears : (w : Listen) → Memᴰ w (windows receiver) → Heard t.starts t.ends labels receiver w
    hears w = (windows_stated t.starts t.ends labels receiver some w).0

    below : (w : Listen) → Memᴰ w (windows receiver) → w.row < length t.starts
    below w m = omega (arith, past_end labels w.row receiver some (hears w m).0, plan.each)

    plan_part : Part kind R (windows receiver)
    plan_part =
        record {
          row = λ w m. omega (arith, below w m, valid.few);
          window = λ w m. let h = hears w m in rw (h.1, h.2) (valid.row w.row (below w m)).window;
          apart = λ w w' m m' d o.
              let h = hears w m in
              let h' = hears w' m' in
              plan.apart w.row w'.row (below w m) (below w' m') d (λ z. omega (arith, h.0)) (h.0 ∙ sym h'.0) (overlap (rw (h.1, h.2, h'.1, h'.2) at o));
          once = λ w w' m m' e.
              let h = hears w m in
              let h' = hears w' m' in
              λ i. listen_of (e i) ((h.1 ∙ ap (at t.starts) e ∙ sym h'.1) i) ((h.2 ∙ ap (at t.ends) e ∙ sym h'.2) i);
          rises = rising_windows t.starts t.ends 0 (rows_of t.starts labels receiver) (plan_rising t labels valid plan receiver some);
        }

  plan_others : Others (windows 1) (windows 2)
  plan_others w u m n e = omega (arith, (hears 1 (omega arith) w m).0, (hears 2 (omega arith) u n).0, ap (at labels) e)

  plan_judged : Judged (plan_stated t.starts t.ends kind R labels)
  plan_judged =
      record {
        ticks_least = valid.setting.ticks_least;
        ticks_most = valid.setting.ticks_most;
        first = plan_part 1 (omega arith);
        second = plan_part 2 (omega arith);
        others = plan_others;
      }

  tape_is : tape_of t labels ≡ bytes_of (plan_stated t.starts t.ends kind R labels)
  unfolding tape_of
  tape_is = plan_bytes t.starts t.ends kind R labels

  plan_taken : is_plan_tape (tape_of t labels) ≡ true
  plan_taken =
      let s = plan_stated t.starts t.ends kind R labels in
      ap is_plan_tape tape_is ∙ (plan_tape_iff (bytes_of s)).1 (bytes_formed s, rw (bytes_read s) plan_judged)

-- an accepted call's tape
pub made_taken : (t : Table) (labels before : List ℕ) → (written t labels before).answer.refusal ≡ Accepted
    → is_plan_tape (take (written t labels before).answer.count (written t labels before).buffer) ≡ true
made_taken t labels before a =
    let f = accepted_tape t labels before a in
    rw f.1 (plan_taken t labels f.0.valid f.0.plan)
