-- The table and the labels that a plan tape tells of, with 64 rows: the table is valid, the labels are a plan of it,
-- and its tape states what the plan tape does.
use Prim.Native.Nat.{ℕ, ◌≤◌, ◌<◌}
use mathlib.Core.Path.{◌≡◌, refl, sym, ap, ◌∙◌}
use mathlib.Core.Logic.Iff
use mathlib.Core.Logic.{◌↔◌}
use mathlib.Core.List.Memᴰ
use mathlib.Core.List.{List, map, Memᴰ}
use native.Mathlib.Omega.{arith}
use lib.ListN.{length}
use Rattle.basics.specs.Limits.{max_rows}
use Rattle.basics.specs.Lists.{at, list_of}
use Rattle.basics.proofs.Lists.{length_list, at_list}
use Rattle.window.specs.Hours.{hours_from}
use Rattle.window.proofs.Meaning.{window_end}
use Rattle.window.proofs.Gaps.{too_close_0}
use Rattle.table.specs.Tables.{setting_of, Table, table, row_at, Plan, Valid}
use Rattle.table.proofs.Plans.{unmarked}
use Rattle.plan_tape.specs.PlanTapes.{rows_of}
use Rattle.plan_tape.specs.Stated.{Listen, listen_of, Stated}
use Rattle.plan_tape.specs.Written.{tape_of}
use Rattle.plan_tape.proofs.Accepted.{plan_rising}
use Rattle.plan_tape.proofs.Reading.{bytes_of, window, plan_bytes, Heard, past_end, windows_stated}
use Rattle.plan_reader.proofs.Rises.{rises_same}
use Rattle.plan_reader.proofs.Parts.{Judged}
use Rattle.plan_reader.proofs.Made.{rising_windows}
use Rattle.plan_reader.proofs.Places.{Receiver, one, two, number, number_some, number_same, under, Place, heard, free, place, start_at, end_at, label_at, opened, part, sole, fits, known, apart}

-- ---- the table and its labels

module _ (s : Stated) where
  pub starts : List ℕ
  starts = list_of max_rows (λ i. start_at (place s i))

  pub ends : List ℕ
  ends = list_of max_rows (λ i. end_at (place s i))

  -- no row must be heard, and any receiver may hear it
  pub marks : List ℕ
  marks = list_of max_rows (λ i. 0)

  pub labels : List ℕ
  labels = list_of max_rows (λ i. label_at (place s i))

  unfoldable pub witness : Table
  witness = table (setting_of s.kind s.ticks 0 (hours_from 0 s.ticks 0 s.ticks)) starts ends marks

  each_start : length starts ≡ max_rows
  unfolding starts
  each_start = length_list max_rows (λ i. start_at (place s i))

  each_label : length labels ≡ max_rows
  unfolding labels
  each_label = length_list max_rows (λ i. label_at (place s i))

  module _ (i : ℕ) (h : i < max_rows) where
    start_at_place : at starts i ≡ start_at (place s i)
    unfolding starts
    start_at_place = at_list max_rows (λ i. start_at (place s i)) i h

    end_at_place : at ends i ≡ end_at (place s i)
    unfolding ends
    end_at_place = at_list max_rows (λ i. end_at (place s i)) i h

    label_at_place : at labels i ≡ label_at (place s i)
    unfolding labels
    label_at_place = at_list max_rows (λ i. label_at (place s i)) i h

  module _ (J : Judged s) where
    pub witness_valid : Valid witness
    unfolding witness ends marks
    witness_valid =
        record {
          few = omega (arith, each_start);
          each_end = length_list max_rows (λ i. end_at (place s i)) ∙ sym each_start;
          each_mark = length_list max_rows (λ i. 0) ∙ sym each_start;
          setting = record { ticks_least = J.ticks_least; ticks_most = J.ticks_most; gap_most = omega arith };
          row = λ i h.
              let l : i < max_rows = omega (arith, each_start) in
              record {
                window = rw (start_at_place i l, end_at_place i l) (fits s J (place s i));
                mark = omega (arith, at_list max_rows (λ i. 0) i l);
              };
        }

    pub witness_plan : Plan witness labels
    unfolding witness marks
    witness_plan =
        record {
          each = each_label ∙ sym each_start;
          allowed = λ i h.
              let l : i < max_rows = omega (arith, each_start) in
              let low : at labels i ≤ 2 = rw (label_at_place i l) (known s J (place s i)) in
              unmarked witness.setting (row_at witness i) (at_list max_rows (λ i. 0) i l) (at labels i) low
              (opened s.kind s.ticks (row_at witness i) (at labels i) low (window_end s.kind s.ticks (at starts i) (at ends i) (witness_valid.row i h).window));
          apart = λ i j h k d n e o.
              let l : i < max_rows = omega (arith, each_start) in
              let l' : j < max_rows = omega (arith, each_start) in
              apart s J (place s i) (place s j) d (λ z. n (label_at_place i l ∙ z)) (sym (label_at_place i l) ∙ e ∙ label_at_place j l')
              (rw (start_at_place i l, end_at_place i l, start_at_place j l', end_at_place j l') at ((too_close_0 s.kind s.ticks (at starts i) (at ends i) (at starts j) (at ends j)).0 o));
        }

    -- ---- its tape states what is stated

    heard_iff : (r : Receiver) (w : Listen) → Memᴰ w (under s r) ↔ Heard starts ends labels (number r) w
    heard_iff r w = (there, back)
      where
        at_place : Memᴰ w (under s r) → (q : Place s w.row) → (label_at q ≡ number r) × (w.start ≡ start_at q) × (w.end ≡ end_at q)
        at_place m (heard r' w' m' e) =
            let same = sole s J r' r w' w m' m e in
            (ap number same.0, ap (λ (x : Listen). x.start) (sym same.1), ap (λ (x : Listen). x.end) (sym same.1))
        at_place m (free f) = absurd (f r w m refl)

        there : Memᴰ w (under s r) → Heard starts ends labels (number r) w
        there m =
            let l = (part s J r).row w m in
            let p = at_place m (place s w.row) in
            (label_at_place w.row l ∙ p.0, p.1 ∙ sym (start_at_place w.row l), p.2 ∙ sym (end_at_place w.row l))

        from_place : (q : Place s w.row) → label_at q ≡ number r → w.start ≡ start_at q → w.end ≡ end_at q → Memᴰ w (under s r)
        from_place (heard r' w' m e) n x y =
            let same : w ≡ w' = λ i. listen_of (sym e i) (x i) (y i) in
            Memᴰ.cast same (rw (number_same r' r n) at m)
        from_place (free f) n x y = absurd (omega (arith, (number_some r).0))

        back : Heard starts ends labels (number r) w → Memᴰ w (under s r)
        back h =
            let l : w.row < max_rows = omega (arith, past_end labels w.row (number r) (number_some r).0 h.0, each_label) in
            from_place (place s w.row) (sym (label_at_place w.row l) ∙ h.0) (h.1 ∙ start_at_place w.row l) (h.2 ∙ end_at_place w.row l)

    -- a receiver's rows of the table are its LISTENs
    rows_stated : (r : Receiver) → map (window starts ends) (rows_of starts labels (number r)) ≡ under s r
    unfolding witness
    rows_stated r =
        rises_same 0 0 (map (window starts ends) (rows_of starts labels (number r))) (under s r)
        (rising_windows starts ends 0 (rows_of starts labels (number r)) (plan_rising witness labels witness_valid witness_plan (number r) (number_some r).0))
        (part s J r).rises
        (λ w. Iff.trans (windows_stated starts ends labels (number r) (number_some r).0 w) (Iff.symm (heard_iff r w)))

    pub witness_stated : tape_of witness labels ≡ bytes_of s
    unfolding witness tape_of
    witness_stated =
        plan_bytes starts ends s.kind s.ticks labels
        ∙ (λ i. bytes_of (record { kind = s.kind; ticks = s.ticks; first = rows_stated one i; second = rows_stated two i }))
