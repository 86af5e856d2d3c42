-- What the parts of a call report is what `candidates_call` yields: a refusal changes nothing, and the working space is
-- cleared where planning the table clears it.
use Prim.Native.Nat.{ℕ, ◌+◌, ◌≤◌}
use mathlib.Core.Path.{◌≡◌, refl, sym, ap, ◌∙◌}
use mathlib.Core.Bool.{Bool, true, false, cond, not, ◌&&◌}
use mathlib.Core.List.{List, []}
use mathlib.Core.Option.{Option, none, some}
use native.Mathlib.Omega.{arith}
use lib.Dec.{leb, eqb}
use lib.ListN.{length}
use borrow.Author.Tests.{eq-eqb, ne_eqb, leb-true}
use Rattle.std.specs.Prelude.{Option as Maybe, Some, None, is_some, is_err}
use Rattle.std.proofs.lemmas.Bool.Decides.{Decides-eqb}
use Rattle.basics.proofs.Tests.{leb_iff, and_iff}
use Rattle.refusals.specs.Refusals.{number_of, passes, ◌then◌, Accepted, Space, NoPlan, Candidates, Outcome}
use Rattle.refusals.proofs.Refusals.{Passed, passed_accepted, err_refuses, ok_passes, asked_passed, then_passed, then_either}
use Rattle.table.specs.declared.Looked.{Looked}
use Rattle.table.specs.Tables.{Table, rows}
use Rattle.table.specs.Checks.{looked, table_looked}
use Rattle.table.specs.Planned.{space_bytes, space_refusal, best_plan, given, plan_refusal, space_after}
use Rattle.table.proofs.Checked.{Not8, asked_8, lists_8, lists_passed, table_8, table_looked_rows}
use Rattle.table.proofs.Calls.{space_kept}
use Rattle.best_plan.specs.Rows.{count_of}
use Rattle.candidates.specs.Tried.{max_candidates, CandidateLists, size, numbers_tried, counts_tried, candidates_refusal, answers_refusal, table_refusal, lent_refusal, candidates_visit, Visit, ends_in, table_visit, visit, report, CandidatesCalled, called, answers, candidates_call}
use Rattle.candidates.specs.Lent.{CandidatesLent, TableLent}
use Rattle.candidates.proofs.Visiting.{rows_with, table_tried, rows_visited, table_reported, visits_first}

-- ---- what is reported of the table

none_there : (o : Maybe ℕ) → is_some o ≡ false → o ≡ None
none_there None e = refl
none_there (Some n) e = cc e

some_there : (o : Maybe ℕ) → is_some o ≡ true → o ≡ None → ⊥
some_there o e q = cc (e, q)

-- its checks pass, from what was asked
pub checks_passed : (t : Table) {l : Looked} → l ≡ table_looked t → is_err l.refusal ≡ false → Passed (table_looked t).refusal
checks_passed t {l} e k = sym (ap (λ (x : Looked). number_of x.refusal) e) ∙ ok_passes l.refusal k

module _ (t : Table) (c : CandidateLists) where
  -- from what the checks and the planning of the table end in
  abbrev reports : Looked → Outcome → Looked
  reports l r = cond (passes l.refusal) (looked r (cond (passes r) (rows_with t c) (rows t))) l

  pub reports_so : table_tried t c ≡ reports (table_looked t) (plan_refusal t)
  unfolding table_tried
  reports_so = refl

  pub table_stops : (number_of (table_looked t).refusal ≡ 0 → ⊥) → table_tried t c ≡ table_looked t
  table_stops n = reports_so ∙ rw (ne_eqb (number_of (table_looked t).refusal) 0 n) refl

  plan_none : count_of (best_plan t) ≡ None → plan_refusal t ≡ NoPlan
  unfolding count_of given
  plan_none = go (best_plan t)
    where
      go : (o : Option (List ℕ)) → count_of o ≡ None → (given o []).answer.refusal ≡ NoPlan
      go none e = refl
      go (some plan) e = cc e

  plan_some : (count_of (best_plan t) ≡ None → ⊥) → plan_refusal t ≡ Accepted
  unfolding count_of given
  plan_some = go (best_plan t)
    where
      go : (o : Option (List ℕ)) → (count_of o ≡ None → ⊥) → (given o []).answer.refusal ≡ Accepted
      go none n = absurd (n refl)
      go (some plan) n = refl

  module _ (p : Passed (table_looked t).refusal) where
    pub planning_reported : table_tried t c ≡ looked (plan_refusal t) (cond (passes (plan_refusal t)) (rows_with t c) (rows t))
    planning_reported = reports_so ∙ rw (eq-eqb (number_of (table_looked t).refusal) 0 p) refl

    pub table_8_reported : count_of (best_plan t) ≡ None → table_tried t c ≡ looked NoPlan (rows t)
    table_8_reported e = planning_reported ∙ ap (λ r. looked r (cond (passes r) (rows_with t c) (rows t))) (plan_none e)

    pub table_taken : (count_of (best_plan t) ≡ None → ⊥) → table_tried t c ≡ looked Accepted (rows_with t c)
    table_taken n = planning_reported ∙ ap (λ r. looked r (cond (passes r) (rows_with t c) (rows t))) (plan_some n)

-- ---- what a call gives

module _ (t : Table) (c : CandidateLists) (numbers counts space : List ℕ) where
  abbrev gives : Looked → CandidatesCalled
  gives l = answers t c l numbers counts space

  -- a refusal other than 8
  pub refused_so : (l : Looked) → (number_of l.refusal ≡ 0 → ⊥) → Not8 l.refusal → called l numbers counts space ≡ gives l
  unfolding answers
  refused_so l n h = ap (called l numbers counts) (space_kept l.refusal space n h) ∙ sym (refused_part _ _)
    where
      refused_part : (a b : CandidatesCalled) → cond (passes l.refusal) a b ≡ b
      refused_part a b = rw (ne_eqb (number_of l.refusal) 0 n) refl

  -- 8
  pub no_plan_so : (n : ℕ) {space' : List ℕ} → space' ≡ space_after NoPlan space → called (looked NoPlan n) numbers counts space' ≡ gives (looked NoPlan n)
  unfolding answers
  no_plan_so n s = ap (called (looked NoPlan n) numbers counts) s

  -- each candidate is answered
  pub accepted_so : (n : ℕ) {numbers' counts' space' : List ℕ} → numbers' ≡ numbers_tried t c → counts' ≡ counts_tried t c → space' ≡ space_after Accepted space
      → called (looked Accepted n) numbers' counts' space' ≡ gives (looked Accepted n)
  unfolding answers
  accepted_so n a b s = λ i. called (looked Accepted n) (a i) (b i) (s i)

  -- from what checking the table gave
  module _ (known : TableLent t space) {l : Looked} (e : l ≡ table_looked t) where
    -- what the table ends in, case by case, is what visiting it ends in
    visited : gives (table_tried t c) ≡ gives (report (table_visit t c))
    visited = ap gives (sym (table_reported t c known.each_end known.each_mark))

    pub stopped : is_err l.refusal ≡ true → called l numbers counts space ≡ gives (report (table_visit t c))
    stopped k =
        let n : number_of (table_looked t).refusal ≡ 0 → ⊥ = λ z. err_refuses l.refusal k (ap (λ (x : Looked). number_of x.refusal) e ∙ z) in
        ap (λ x. called x numbers counts space) e ∙ refused_so (table_looked t) n (table_8 t) ∙ ap gives (sym (table_stops t c n)) ∙ visited

    all : is_err l.refusal ≡ false → l.rows ≡ rows t
    all k = ap (λ (x : Looked). x.rows) e ∙ table_looked_rows t (checks_passed t e k)

    -- and counting for it
    module _ (k : is_err l.refusal ≡ false) {best : Maybe ℕ} (b : best ≡ count_of (best_plan t)) {none_left : Bool} (told : is_some best ≡ not none_left) where
      pub no_plan_given : none_left ≡ true → {space' : List ℕ} → space' ≡ space_after NoPlan space → called (looked NoPlan l.rows) numbers counts space' ≡ gives (report (table_visit t c))
      no_plan_given n s = rw (all k) (no_plan_so (rows t) s ∙ ap gives (sym (table_8_reported t c (checks_passed t e k) (sym b ∙ none_there best (told ∙ ap not n)))) ∙ visited)

      pub all_given : none_left ≡ false → {read : ℕ} → read ≡ (candidates_visit t c).rows → {numbers' counts' space' : List ℕ} → numbers' ≡ numbers_tried t c → counts' ≡ counts_tried t c → space' ≡ space_after Accepted space
          → called (looked l.refusal (l.rows + read)) numbers' counts' space' ≡ gives (report (table_visit t c))
      all_given n r x y s =
          rw (passed_accepted l.refusal (ok_passes l.refusal k), all k, r, rows_visited t c)
          (accepted_so (rows_with t c) x y s ∙ ap gives (sym (table_taken t c (checks_passed t e k) (λ z. some_there best (told ∙ ap not n) (b ∙ z)))) ∙ visited)

  -- ---- the checks of what is lent

  abbrev lent : Outcome
  lent = lent_refusal t c (length numbers) (length counts) (length space)

  abbrev lists : Outcome
  lists = table_refusal t

  abbrev check_16 : Outcome
  check_16 = answers_refusal c (length numbers) (length counts)

  pub lent_so : lent ≡ (lists then space_refusal (length space) then check_16)
  unfolding lent_refusal
  lent_so = refl

  lent_8 : Not8 lent
  unfolding lent_refusal space_refusal candidates_refusal
  lent_8 =
      then_either Not8 (lists_8 t t.starts)
      (then_either Not8 (asked_8 (leb space_bytes (length space)) {r = Space} (record { not = λ e. omega arith }))
      (asked_8 (eqb (length c.ends) (size c) && eqb (length c.marks) (size c) && eqb (length numbers) (size c) && eqb (length counts) (size c) && leb (size c) max_candidates) {r = Candidates} (record { not = λ e. omega arith })))

  -- what a call reports is what its visit ends in
  abbrev visiting : Visit
  visiting = visit t c (length numbers) (length counts) (length space)

  -- a check of what is lent refuses: no row was looked at
  pub lent_refused : {r : Outcome} → r ≡ lent → is_err r ≡ true → called (looked r 0) numbers counts space ≡ candidates_call t c numbers counts space
  unfolding candidates_call visit
  lent_refused {r} e k =
      let m : number_of lent ≡ 0 → ⊥ = λ z. err_refuses r k (ap number_of e ∙ z) in
      ap (λ x. called (looked x 0) numbers counts space) e ∙ refused_so (looked lent 0) m lent_8 ∙ ap gives (sym (go m))
    where
      go : (number_of lent ≡ 0 → ⊥) → report (cond (passes lent) (table_visit t c) (ends_in lent)) ≡ looked lent 0
      go m = rw (ne_eqb (number_of lent) 0 m) refl

  pub lent_accepts : {r : Outcome} → r ≡ lent → is_err r ≡ false → Passed lent
  lent_accepts {r} e k = sym (ap number_of e) ∙ ok_passes r k

  pub lent_passed : Passed lent → gives (report (table_visit t c)) ≡ candidates_call t c numbers counts space
  unfolding candidates_call visit
  lent_passed p = ap gives (sym go)
    where
      go : report (cond (passes lent) (table_visit t c) (ends_in lent)) ≡ report (table_visit t c)
      go = rw (eq-eqb (number_of lent) 0 p) refl

  -- the count that a call reports is how many rows were visited
  pub call_counts : {l : Looked} {numbers' counts' space' : List ℕ} → called l numbers' counts' space' ≡ candidates_call t c numbers counts space → l.rows ≡ length visiting.visited
  unfolding candidates_call answers
  call_counts e = ap (λ (x : CandidatesCalled). x.reports.rows) e ∙ go (passes visiting.refusal) ∙ sym (visits_first t c (length numbers) (length counts) (length space)).counted
    where
      go : (x : Bool)
          → (cond x (called (report visiting) (numbers_tried t c) (counts_tried t c) (space_after visiting.refusal space)) (called (report visiting) numbers counts (space_after visiting.refusal space))).reports.rows
          ≡ visiting.rows
      go true = refl
      go false = refl

  -- ---- and what they leave known

  pub table_lent : Passed lists → space_bytes ≤ length space → TableLent t space
  table_lent p h = let l = lists_passed t t.starts p in record { few = l.1; each_end = l.0.0; each_mark = l.0.1; room = h }

  candidates_lent : Passed check_16 → CandidatesLent c numbers counts
  unfolding candidates_refusal
  candidates_lent p =
      let n = size c in
      let ok = eqb (length c.ends) n && eqb (length c.marks) n && eqb (length numbers) n && eqb (length counts) n && leb n max_candidates in
      let f =
      (and_iff (and_iff (and_iff (and_iff (Decides-eqb (length c.ends) n) (Decides-eqb (length c.marks) n)) (Decides-eqb (length numbers) n)) (Decides-eqb (length counts) n)) (leb_iff n max_candidates)
      ).0 (asked_passed ok Candidates (omega arith) p) in
      record { few = f.1; each_end = f.0.0.0.0; each_mark = f.0.0.0.1; each_number = f.0.0.1; each_count = f.0.1 }

  pub known_lent : Passed lent → TableLent t space × CandidatesLent c numbers counts
  unfolding lent_refusal space_refusal
  known_lent p =
      let f = then_passed lists _ p in
      let g = then_passed (space_refusal (length space)) check_16 f.1 in
      (table_lent f.0 (leb-true space_bytes (length space) (asked_passed (leb space_bytes (length space)) Space (omega arith) g.0)), candidates_lent g.1)
