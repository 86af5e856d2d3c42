-- Laws of candidates: what a candidate is answered, what a call gives, and which rows it visits.
use Prim.Native.Nat.{ℕ, ◌+◌, ◌≤◌, ◌<◌}
use mathlib.Core.Path.{◌≡◌, refl, sym, ap, subst, ◌∙◌}
use mathlib.Core.Logic.{◌≢◌, ◌↔◌, ◌⊎◌}
use mathlib.Core.Bool.{Bool, true, false, cond}
use mathlib.Core.List.{List, [], ◌∷◌}
use mathlib.Core.Option.{Option, none, some}
use native.Mathlib.Omega.{arith}
use lib.Dec.{leb}
use lib.ListN.{length, length-append, length-replicate}
use borrow.Author.Tests.{eq-eqb, ne_eqb, eqb-true, eqb-false, le-leb, leb-true}
use Rattle.std.proofs.lemmas.List.{take_all, take_at}
use Rattle.basics.specs.Limits.{max_rows}
use Rattle.basics.specs.Lists.{at}
use Rattle.basics.proofs.Lists.{at_list}
use Rattle.labels.specs.Labels.{heard}
use Rattle.marks.specs.Marks.{max_mark, raised}
use Rattle.marks.proofs.Raising.{raised_within}
use Rattle.window.specs.declared.Row.{Row}
use Rattle.refusals.specs.Refusals.{number_of, answered, passes, ◌then◌, Accepted, Space, NoPlan, Answer, Outcome}
use Rattle.refusals.proofs.Refusals.{Passed, passed_accepted, then_assoc, then_passed, asked_passed}
use Rattle.table.specs.declared.Looked.{Looked}
use Rattle.table.specs.Tables.{Table, rows, Plan, Valid}
use Rattle.table.specs.Checks.{lists_refusal, setting_refusal, looked, row_check, rows_looked, table_looked}
use Rattle.table.specs.Planned.{space_bytes, space_refusal, checked, best_plan, given, plan_refusal, Planned, planned, space_after, plan_call}
use Rattle.table.specs.Changes.{with_row}
use Rattle.table.proofs.Checked.{checked_8, checked_valid, table_passed}
use Rattle.table.proofs.Looking.{stops_at}
use Rattle.table.proofs.Passing.{lengths_pass}
use Rattle.table.proofs.Calls.{accepted_given, answer_anyhow}
use Rattle.table.proofs.Rivals.{best_plan_iff, no_plan, planned_passed, planned_refused}
use Rattle.table.proofs.Changes.{rows_with_row, row_last, planned_ends}
use Rattle.best_plan.specs.Rows.{count_of}
use Rattle.planner.proofs.Answering.{table_checked}
use Rattle.candidates.specs.Tried.{Tried, must_row, table_with, tried, CandidateLists, size, candidate_at, numbers_tried, counts_tried, answers_refusal, table_refusal, lent_refusal, Visit, candidate_check, visit, report, CandidatesCalled, called, answers, candidates_call}
use Rattle.candidates.specs.Lent.{TableLent}
use Rattle.candidates.proofs.Trying.{answer, labels, answered_so, refused_so, tried_counted, told_number, tried_full}
use Rattle.candidates.proofs.Visiting.{rows_with, table_tried, reported, visit_reported, table_rows, candidate_rows, in_order, length_table_rows, length_in_order, VisitsFirst, visits_first}
use Rattle.candidates.proofs.Answering.{reports_so, planning_reported, table_stops, table_8_reported, lent_so, table_lent}
use Rattle.candidates.proofs.Hearing.{plan_heard}

-- ---- one candidate

module _ (t : Table) (candidate : Row) where
  abbrev longer : Table
  longer = table_with t candidate

  module _ (before space : List ℕ) (l : length before ≡ rows longer) (s : space_bytes ≤ length space) where
    called_so : (planned longer (labels t candidate) space_bytes).answer ≡ (plan_call longer before space).answer
    unfolding plan_call
    called_so = answer_anyhow longer (labels t candidate) before space_bytes (length space) (length-replicate (rows longer) 0 ∙ sym l) (omega arith) s

    -- A CANDIDATE IS ANSWERED AS THE PLANNER ANSWERS THE TABLE WITH IT, number and count, whatever the planner's label
    -- list and working space hold
    pub as_planned : tried t candidate ≡ answer (number_of (plan_call longer before space).answer.refusal) (plan_call longer before space).answer.count
    as_planned = answered_so t candidate refl ∙ ap (λ (a : Answer). answer (number_of a.refusal) a.count) called_so

-- A candidate that is answered 0 with this count can be cast.
pub record CanBeCast (t : Table) (candidate : Row) (count : ℕ) : Type 0 where
  -- the planner, given the longer table, accepts with exactly this count;
  pub accepts : (before space : List ℕ) → length before ≡ rows (table_with t candidate) → space_bytes ≤ length space → (plan_call (table_with t candidate) before space).answer ≡ answered Accepted count
  -- some plan of the table with the candidate in it, with its mark as lent, hears so many, the candidate among them;
  pub reached : (plan : List ℕ) × Plan (with_row t candidate) plan × (at plan (rows t) ≢ 0) × (heard plan ≡ count)
  -- and every one that hears the candidate hears at most so many
  pub most : (plan : List ℕ) → Plan (with_row t candidate) plan → at plan (rows t) ≢ 0 → heard plan ≤ count

module _ (t : Table) (candidate : Row) where
  -- the longer table passes its checks: then so far do the table's lists and the candidate's mark
  module _ (valid : Valid (table_with t candidate)) where
    even_ends : length t.ends ≡ rows t
    even_ends = omega (arith, valid.each_end, length-append t.ends (candidate.end ∷ []), rows_with_row t (must_row candidate))

    even_marks : length t.marks ≡ rows t
    even_marks = omega (arith, valid.each_mark, length-append t.marks ((must_row candidate).mark ∷ []), rows_with_row t (must_row candidate))

    mark_most : candidate.mark ≤ max_mark
    mark_most =
        let last = ap (λ (r : Row). r.mark) (row_last t (must_row candidate) even_ends even_marks) in
        let h = (valid.row (rows t) (omega (arith, rows_with_row t (must_row candidate)))).mark in
        leb-true candidate.mark max_mark (sym (raised_within candidate.mark) ∙ le-leb (raised candidate.mark) max_mark (omega (arith, last)))

    heard_iff : (plan : List ℕ) → Plan (table_with t candidate) plan ↔ (Plan (with_row t candidate) plan × (at plan (rows t) ≢ 0))
    heard_iff = plan_heard t even_ends even_marks candidate mark_most

  -- ANSWERED 0 WITH A COUNT
  pub can_be_cast : (count : ℕ) → tried t candidate ≡ answer 0 count → CanBeCast t candidate count
  can_be_cast count e =
      let said = sym (answered_so t candidate refl) ∙ e in
      let g = accepted_given (longer t candidate) (labels t candidate) space_bytes (ap (λ (x : Tried). x.number) said) in
      let plan = (planned (longer t candidate) (labels t candidate) space_bytes).labels in
      let same : heard plan ≡ count = sym (ap (λ (a : Answer). a.count) g.answer) ∙ ap (λ (x : Tried). x.count) said in
      let b = (best_plan_iff (longer t candidate) g.valid plan).0 g.best in
      let p = (heard_iff g.valid plan).0 b.member in
      record {
        accepts = λ before space l s. sym (called_so t candidate before space l s) ∙ g.answer ∙ ap (answered Accepted) same;
        reached = (plan, p.0, p.1, same);
        most = λ rival P n. omega (arith, b.most rival ((heard_iff g.valid rival).1 (P, n)));
      }

  -- ANSWERED 8: no plan of the table with the candidate in it hears the candidate
  pub cannot_be_cast : (tried t candidate).number ≡ 8 → (plan : List ℕ) → Plan (with_row t candidate) plan → at plan (rows t) ≢ 0 → ⊥
  unfolding given
  cannot_be_cast e = go (passes checks) refl
    where
      checks : Outcome
      checks = checked (longer t candidate) (labels t candidate) space_bytes

      said : number_of (planned (longer t candidate) (labels t candidate) space_bytes).answer.refusal ≡ 8
      said = sym (ap (λ (x : Tried). x.number) (answered_so t candidate refl)) ∙ e

      none_fits : (o : Option (List ℕ)) → best_plan (longer t candidate) ≡ o → number_of (given o (labels t candidate)).answer.refusal ≡ 8 → best_plan (longer t candidate) ≡ none
      none_fits none q n = q
      none_fits (some plan) q n = absurd (omega arith)

      go : (x : Bool) → passes checks ≡ x → (plan : List ℕ) → Plan (with_row t candidate) plan → at plan (rows t) ≢ 0 → ⊥
      go true q plan P n =
          let p = eqb-true (number_of checks) 0 q in
          let v = (checked_valid (longer t candidate) (labels t candidate) space_bytes p).0 in
          let g = ap (λ (x : Planned). number_of x.answer.refusal) (planned_passed (longer t candidate) (labels t candidate) space_bytes p) in
          (no_plan (longer t candidate) v).0 (none_fits (best_plan (longer t candidate)) refl (sym g ∙ said)) plan ((heard_iff v plan).1 (P, n))
      go false q plan P n =
          let r = ap (λ (x : Planned). number_of x.answer.refusal) (planned_refused (longer t candidate) (labels t candidate) space_bytes (eqb-false (number_of checks) 0 q)) in
          (checked_8 (longer t candidate) (labels t candidate) space_bytes).not (sym r ∙ said)

-- ---- a call

module _ (t : Table) (c : CandidateLists) (numbers counts space : List ℕ) where
  abbrev call : CandidatesCalled
  call = candidates_call t c numbers counts space

  -- the checks of what is lent: 1, 2, 3 and 16
  abbrev lent : Outcome
  lent = lent_refusal t c (length numbers) (length counts) (length space)

  -- the rows that the call visits, and what it reports of them
  abbrev pub visiting : Visit
  visiting = visit t c (length numbers) (length counts) (length space)

  abbrev reports : Looked
  reports = report visiting

  visited_first : VisitsFirst (in_order t c) visiting
  visited_first = visits_first t c (length numbers) (length counts) (length space)

  -- what an accepted and a refused call give
  call_so : call ≡ cond (passes reports.refusal) (called reports (numbers_tried t c) (counts_tried t c) (space_after reports.refusal space)) (called reports numbers counts (space_after reports.refusal space))
  unfolding candidates_call answers
  call_so = refl

  call_either : (P : CandidatesCalled → Type 0)
      → (Passed reports.refusal → P (called reports (numbers_tried t c) (counts_tried t c) (space_after reports.refusal space)))
      → ((number_of reports.refusal ≡ 0 → ⊥) → P (called reports numbers counts (space_after reports.refusal space)))
      → P call
  call_either P f g = subst P (sym call_so) (go (passes reports.refusal) refl)
    where
      go : (x : Bool) → passes reports.refusal ≡ x → P (cond x (called reports (numbers_tried t c) (counts_tried t c) (space_after reports.refusal space)) (called reports numbers counts (space_after reports.refusal space)))
      go true e = f (eqb-true (number_of reports.refusal) 0 e)
      go false e = g (eqb-false (number_of reports.refusal) 0 e)

  -- what a call reports is what the visit does
  pub call_reports : call.reports ≡ reports
  call_reports = call_either (λ g. g.reports ≡ reports) (λ p. refl) (λ n. refl)

  -- ---- the answers

  -- a refused call leaves the answers
  pub refused_left : (number_of reports.refusal ≡ 0 → ⊥) → (call.numbers ≡ numbers) × (call.counts ≡ counts)
  refused_left n = call_either (λ g. (g.numbers ≡ numbers) × (g.counts ≡ counts)) (λ p. absurd (n p)) (λ m. (refl, refl))

  -- EACH CANDIDATE ALONE, as if the others did not exist
  pub answers_each : Passed reports.refusal → (j : ℕ) → j < size c → answer (at call.numbers j) (at call.counts j) ≡ tried t (candidate_at c j)
  answers_each p j h =
      call_either (λ g. answer (at g.numbers j) (at g.counts j) ≡ tried t (candidate_at c j))
      (λ q i. answer (at_list (size c) (λ k. (tried t (candidate_at c k)).number) j h i) (at_list (size c) (λ k. (tried t (candidate_at c k)).count) j h i))
      (λ n. absurd (n p))

  -- ---- the order of the refusals

  refusal_either : (x : Bool) (a b : Looked) → (cond x a b).refusal ≡ cond x a.refusal b.refusal
  refusal_either true a b = refl
  refusal_either false a b = refl

  report_so : reports ≡ cond (passes lent) (table_tried t c) (looked lent 0)
  unfolding reported
  report_so = visit_reported t c (length numbers) (length counts) (length space)

  table_order : (table_looked t).refusal ≡ (setting_refusal t.setting then (rows_looked t).refusal)
  unfolding table_looked
  table_order = refusal_either (passes (setting_refusal t.setting)) (rows_looked t) (looked (setting_refusal t.setting) 0)

  tried_order : (table_tried t c).refusal ≡ ((table_looked t).refusal then plan_refusal t)
  tried_order =
      ap (λ (x : Looked). x.refusal) (reports_so t c)
      ∙ refusal_either (passes (table_looked t).refusal) (looked (plan_refusal t) (cond (passes (plan_refusal t)) (rows_with t c) (rows t))) (table_looked t)

  report_order : reports.refusal ≡ (lent then (table_looked t).refusal then plan_refusal t)
  report_order =
      ap (λ (x : Looked). x.refusal) report_so
      ∙ refusal_either (passes lent) (table_tried t c) (looked lent 0)
      ∙ ap (λ r. lent then r) tried_order

  -- 1, 2, 3 and 16; 4, 5 and 14; the rows for 6 and 7; 8
  pub order : reports.refusal
      ≡ ((table_refusal t then space_refusal (length space) then answers_refusal c (length numbers) (length counts))
      then setting_refusal t.setting then (rows_looked t).refusal then plan_refusal t)
  order =
      report_order
      ∙ ap (λ r. lent then r then plan_refusal t) table_order
      ∙ ap (λ r. lent then r) (then_assoc (setting_refusal t.setting) (rows_looked t).refusal (plan_refusal t))
      ∙ ap (λ r. r then setting_refusal t.setting then (rows_looked t).refusal then plan_refusal t) (lent_so t c numbers counts space)

  -- ---- the rows looked at

  table_past : Passed (setting_refusal t.setting) → table_looked t ≡ rows_looked t
  unfolding table_looked
  table_past p = rw (eq-eqb (number_of (setting_refusal t.setting)) 0 p) refl

  table_sooner : (number_of (setting_refusal t.setting) ≡ 0 → ⊥) → table_looked t ≡ looked (setting_refusal t.setting) 0
  unfolding table_looked
  table_sooner n = rw (ne_eqb (number_of (setting_refusal t.setting)) 0 n) refl

  space_enough : Passed (space_refusal (length space)) → space_bytes ≤ length space
  unfolding space_refusal
  space_enough p = leb-true space_bytes (length space) (asked_passed (leb space_bytes (length space)) Space (omega arith) p)

  module _ (p : Passed lent) where
    past_lent : reports ≡ table_tried t c
    past_lent = report_so ∙ rw (eq-eqb (number_of lent) 0 p) refl

    known : TableLent t space
    known =
        let f = then_passed (table_refusal t) _ (ap number_of (sym (lent_so t c numbers counts space)) ∙ p) in
        table_lent t c numbers counts space f.0 (space_enough (then_passed (space_refusal (length space)) _ f.1).0)

    -- THE TABLE STOPS AT ROW K: k + 1 rows
    pub rows_stopped : Passed (setting_refusal t.setting) → (k : ℕ) → k < rows t → ((i : ℕ) → i < k → Passed (row_check t i)) → (number_of (row_check t k) ≡ 0 → ⊥) → reports ≡ looked (row_check t k) (k + 1)
    rows_stopped s k h before n =
        let stop = table_past s ∙ stops_at t known.each_end known.each_mark k h before n in
        past_lent ∙ table_stops t c (λ z. n (sym (ap (λ (x : Looked). number_of x.refusal) stop) ∙ z)) ∙ stop

    -- THE TABLE HAS NO PLAN: 8, with its rows alone
    pub rows_without_plan : Passed (table_looked t).refusal → ((rival : List ℕ) → Plan t rival → ⊥) → reports ≡ looked NoPlan (rows t)
    unfolding count_of
    rows_without_plan q f = past_lent ∙ table_8_reported t c q (ap count_of ((no_plan t (table_passed t q known.few)).1 f))

    -- THE WORKING SPACE fares as in planning the table
    pub space_as_planned : (labels : List ℕ) → length labels ≡ rows t → call.space ≡ (plan_call t labels space).space
    unfolding plan_call
    space_as_planned labels l =
        let lists : Passed (lists_refusal t labels) = lengths_pass (rows t) (length t.ends) (length t.marks) (length labels) known.few known.each_end known.each_mark l in
        let here : reports.refusal ≡ ((table_looked t).refusal then plan_refusal t) = ap (λ (x : Looked). x.refusal) past_lent ∙ tried_order in
        let there = planned_ends t labels (length space) ∙ ap (λ r. r then plan_refusal t) (sym (table_checked t labels space lists known.room)) in
        call_either (λ g. g.space ≡ space_after reports.refusal space) (λ p. refl) (λ n. refl) ∙ ap (λ r. space_after r space) (here ∙ sym there)

  -- REFUSED SOONER, by what is lent or by 4, 5 or 14: no row
  pub rows_sooner : (number_of (lent then setting_refusal t.setting) ≡ 0 → ⊥) → reports ≡ looked (lent then setting_refusal t.setting) 0
  rows_sooner = go (passes lent) refl
    where
      S : Outcome
      S = setting_refusal t.setting

      go : (x : Bool) → passes lent ≡ x → (number_of (cond x S lent) ≡ 0 → ⊥) → reports ≡ looked (cond x S lent) 0
      go true e n =
          let sooner = table_sooner n in
          past_lent (eqb-true (number_of lent) 0 e) ∙ table_stops t c (λ z. n (sym (ap (λ (x : Looked). number_of x.refusal) sooner) ∙ z)) ∙ sooner
      go false e n = report_so ∙ rw e refl

  module _ (p : Passed reports.refusal) where
    accepted : reports ≡ looked Accepted (rows_with t c)
    accepted =
        let f = then_passed lent ((table_looked t).refusal then plan_refusal t) (ap number_of (sym report_order) ∙ p) in
        let g = then_passed (table_looked t).refusal (plan_refusal t) f.1 in
        past_lent f.0 ∙ planning_reported t c g.0 ∙ ap (λ r. looked r (cond (passes r) (rows_with t c) (rows t))) (passed_accepted (plan_refusal t) g.1)

    -- ACCEPTED beside a table with a place: the table's rows and the candidates
    pub rows_taken : rows t < max_rows → reports.rows ≡ rows t + size c
    rows_taken h = ap (λ (x : Looked). x.rows) accepted ∙ rw (ne_eqb (rows t) max_rows (λ e. omega arith)) refl

    -- ACCEPTED beside a full table: 64 rows, and each candidate is answered 2 with the count 0
    pub rows_full : rows t ≡ max_rows → (reports.rows ≡ max_rows) × ((j : ℕ) → j < size c → answer (at call.numbers j) (at call.counts j) ≡ answer 2 0)
    rows_full e =
        let f = then_passed lent ((table_looked t).refusal then plan_refusal t) (ap number_of (sym report_order) ∙ p) in
        let k = known f.0 in (
          ap (λ (x : Looked). x.rows) accepted ∙ rw (eq-eqb (rows t) max_rows e) refl,
          λ j h. answers_each p j h ∙ tried_full t (candidate_at c j) k.each_end k.each_mark e,
        )

    -- ---- the rows visited

    -- EACH ROW OF THE TABLE AND THEN EACH CANDIDATE IS VISITED ONCE, in order, with what its own check finds
    pub visited_all : rows t < max_rows → visiting.visited ≡ in_order t c
    visited_all h = visited_first.first ∙ take_all visiting.rows (in_order t c) (omega (arith, rows_taken h, length_in_order t c))

    -- beside a full table no candidate is visited
    pub visited_full : rows t ≡ max_rows → visiting.visited ≡ table_rows t
    visited_full e = visited_first.first ∙ take_at (table_rows t) (candidate_rows t c) visiting.rows (omega (arith, (rows_full e).0, length_table_rows t))

    -- ---- each candidate's answer, from what its own check finds

    module _ (below : rows t < max_rows) (j : ℕ) (h : j < size c) where
      looked_at : Passed (table_looked t).refusal
      looked_at =
          let f = then_passed lent ((table_looked t).refusal then plan_refusal t) (ap number_of (sym report_order) ∙ p) in
          (then_passed (table_looked t).refusal (plan_refusal t) f.1).0

      -- it refuses the candidate: the answer is its number, 6 or 7, with the count 0
      pub check_refuses : (number_of (candidate_check t c j) ≡ 0 → ⊥) → answer (at call.numbers j) (at call.counts j) ≡ answer (number_of (candidate_check t c j)) 0
      check_refuses n = answers_each p j h ∙ refused_so t (candidate_at c j) looked_at below n

      -- it passes the candidate: the answer is 0 or 8
      pub check_passes : Passed (candidate_check t c j) → (at call.numbers j ≡ 0) ⊎ (at call.numbers j ≡ 8)
      check_passes q =
          rw (ap (λ (x : Tried). x.number) (answers_each p j h ∙ tried_counted t (candidate_at c j) looked_at below q))
          (told_number (count_of (best_plan (table_with t (candidate_at c j)))))
