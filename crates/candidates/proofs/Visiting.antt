-- The visit of a call: the count and refusal that a call reports, case by case; and which rows are visited, each once
-- and in order.
use Prim.Native.Nat.{ℕ, zero, suc, ◌+◌, ◌≤◌}
use mathlib.Core.Path.{◌≡◌, refl, sym, ap, ◌∙◌}
use mathlib.Core.Bool.{Bool, true, false, cond}
use mathlib.Core.List.{List, [], ◌∷◌, ◌++◌}
use native.Mathlib.Omega.{arith}
use native.Mathlib.Numerals.{add-one}
use lib.Dec.{eqb}
use lib.ListN.{length, length-append, take}
use borrow.Author.Tests.{eq-eqb, ne_eqb, eqb-true}
use Rattle.std.specs.Prelude.{map}
use Rattle.std.specs.List.{range_with_len}
use Rattle.std.proofs.lemmas.List.FromFn.{length-map-range_with_len}
use Rattle.basics.specs.Limits.{max_rows}
use Rattle.refusals.specs.Refusals.{number_of, passes, Accepted, Outcome}
use Rattle.refusals.proofs.Refusals.{Passed, passed_accepted, then_passed}
use Rattle.table.specs.declared.Looked.{Looked}
use Rattle.table.specs.Tables.{Table, rows}
use Rattle.table.specs.Checks.{setting_refusal, looked, look_from, row_check, rows_looked, table_looked}
use Rattle.table.specs.Planned.{plan_refusal}
use Rattle.table.proofs.Checked.{lists_passed}
use Rattle.candidates.specs.Tried.{CandidateLists, size, table_refusal, lent_refusal, TableRow, Candidate, Seen, saw, Visit, ends_in, sees, ◌before◌, visit_rows, visit_candidates, candidate_check, candidates_visit, table_visit, visit, report}

-- ---- what a call reports, case by case

-- accepted: table rows plus candidates, or the rows alone beside a full table
abbrev pub rows_with : Table → CandidateLists → ℕ
rows_with t c = cond (eqb (rows t) max_rows) max_rows (rows t + size c)

-- the table stops at row k: k + 1; it is refused sooner: 0; it has no plan: its rows alone
unfoldable pub table_tried : Table → CandidateLists → Looked
table_tried t c =
    cond (passes (table_looked t).refusal)
    (looked (plan_refusal t) (cond (passes (plan_refusal t)) (rows_with t c) (rows t)))
    (table_looked t)

-- what is lent is refused: 0
unfoldable pub reported : Table → CandidateLists → ℕ → ℕ → ℕ → Looked
reported t c numbers counts space =
    cond (passes (lent_refusal t c numbers counts space))
    (table_tried t c)
    (looked (lent_refusal t c numbers counts space) 0)

-- ---- the visit comes to the same

-- the walk over the table's rows is that of the table's own checks, with the rest after it
walked : (check : ℕ → Outcome) (i n : ℕ) (rest : Visit)
    → looked (visit_rows check i n rest).refusal (i + (visit_rows check i n rest).rows)
    ≡ cond (passes (look_from check i n).refusal) (looked rest.refusal (i + n + rest.rows)) (look_from check i n)
unfolding visit_rows look_from
walked check i zero rest = ap (looked rest.refusal) (omega arith)
walked check i (suc n) rest = go (passes (check i)) refl (walked check (i + 1) n rest)
  where
    go : (x : Bool) → passes (check i) ≡ x
        → looked (visit_rows check (i + 1) n rest).refusal (i + 1 + (visit_rows check (i + 1) n rest).rows)
        ≡ cond (passes (look_from check (i + 1) n).refusal) (looked rest.refusal (i + 1 + n + rest.rows)) (look_from check (i + 1) n)
        → looked (cond x (visit_rows check (i + 1) n rest) (ends_in (check i))).refusal (i + ((cond x (visit_rows check (i + 1) n rest) (ends_in (check i))).rows + 1))
        ≡ cond (passes (cond x (look_from check (i + 1) n) (looked (check i) (i + 1))).refusal) (looked rest.refusal (i + suc n + rest.rows)) (cond x (look_from check (i + 1) n) (looked (check i) (i + 1)))
    go true e later =
        ap (looked (visit_rows check (i + 1) n rest).refusal) (omega arith)
        ∙ later
        ∙ ap (λ k. cond (passes (look_from check (i + 1) n).refusal) (looked rest.refusal k) (look_from check (i + 1) n)) (omega arith)
    go false e later = rw e refl

-- the candidates, each once
candidates_counted : (check : ℕ → Outcome) (j m : ℕ) → report (visit_candidates check j m) ≡ looked Accepted m
unfolding visit_candidates
candidates_counted check j zero = refl
candidates_counted check j (suc m) =
    ap (λ (x : Looked). looked x.refusal (x.rows + 1)) (candidates_counted check (j + 1) m) ∙ ap (looked Accepted) (omega arith)

module _ (t : Table) (c : CandidateLists) where
  -- how many candidates are looked at beside the table
  abbrev pub read_beside : ℕ
  read_beside = cond (eqb (rows t) max_rows) 0 (size c)

  pub candidates_reported : report (candidates_visit t c) ≡ looked Accepted read_beside
  unfolding candidates_visit
  candidates_reported = go (eqb (rows t) max_rows)
    where
      go : (x : Bool) → report (cond x (ends_in Accepted) (visit_candidates (candidate_check t c) 0 (size c))) ≡ looked Accepted (cond x 0 (size c))
      go true = refl
      go false = candidates_counted (candidate_check t c) 0 (size c)

  pub none_visited : rows t ≡ max_rows → 0 ≡ (candidates_visit t c).rows
  none_visited e = sym (ap (λ (x : Looked). x.rows) candidates_reported ∙ ap (λ b. cond b 0 (size c)) (eq-eqb (rows t) max_rows e))

  pub each_visited : (rows t ≡ max_rows → ⊥) → size c ≡ (candidates_visit t c).rows
  each_visited n = sym (ap (λ (x : Looked). x.rows) candidates_reported ∙ ap (λ b. cond b 0 (size c)) (ne_eqb (rows t) max_rows n))

  -- the rows of the table and the candidates that are looked at
  rows_read : rows t + read_beside ≡ rows_with t c
  rows_read = go (eqb (rows t) max_rows) refl
    where
      go : (x : Bool) → eqb (rows t) max_rows ≡ x → rows t + cond x 0 (size c) ≡ cond x max_rows (rows t + size c)
      go true e = omega (arith, eqb-true (rows t) max_rows e)
      go false e = refl

  pub rows_visited : rows t + (candidates_visit t c).rows ≡ rows_with t c
  rows_visited = ap (λ (x : Looked). rows t + x.rows) candidates_reported ∙ rows_read

  pub read_most : (candidates_visit t c).rows ≤ size c
  read_most = omega (arith, ap (λ (x : Looked). x.rows) candidates_reported, go (eqb (rows t) max_rows))
    where
      go : (x : Bool) → cond x 0 (size c) ≤ size c
      go true = omega arith
      go false = omega arith

  -- after the table's rows
  abbrev rest : Visit
  rest = plan_refusal t before candidates_visit t c

  after_rows : looked rest.refusal (rows t + rest.rows) ≡ looked (plan_refusal t) (cond (passes (plan_refusal t)) (rows_with t c) (rows t))
  after_rows = go (passes (plan_refusal t)) refl
    where
      go : (x : Bool) → passes (plan_refusal t) ≡ x
          → looked (cond x (candidates_visit t c) (ends_in (plan_refusal t))).refusal (rows t + (cond x (candidates_visit t c) (ends_in (plan_refusal t))).rows)
          ≡ looked (plan_refusal t) (cond x (rows_with t c) (rows t))
      go true e =
          ap (λ (x : Looked). looked x.refusal (rows t + x.rows)) candidates_reported
          ∙ (λ i. looked (sym (passed_accepted (plan_refusal t) (eqb-true (number_of (plan_refusal t)) 0 e)) i) (rows_read i))
      go false e = ap (looked (plan_refusal t)) (omega arith)

  -- of a table whose lists are equally long
  module _ (ends : length t.ends ≡ rows t) (marks : length t.marks ≡ rows t) where
    rows_so : rows_looked t ≡ look_from (row_check t) 0 (rows t)
    unfolding rows_looked
    rows_so = rw (eq-eqb (length t.ends) (rows t) ends, eq-eqb (length t.marks) (rows t) marks) refl

    rows_walked : report (visit_rows (row_check t) 0 (rows t) rest)
        ≡ cond (passes (rows_looked t).refusal) (looked (plan_refusal t) (cond (passes (plan_refusal t)) (rows_with t c) (rows t))) (rows_looked t)
    rows_walked =
        let V = visit_rows (row_check t) 0 (rows t) rest in
        ap (looked V.refusal) (omega arith)
        ∙ walked (row_check t) 0 (rows t) rest
        ∙ rw rows_so (ap (λ l. cond (passes (look_from (row_check t) 0 (rows t)).refusal) l (look_from (row_check t) 0 (rows t))) (ap (looked rest.refusal) (omega arith) ∙ after_rows))

    pub table_reported : report (table_visit t c) ≡ table_tried t c
    unfolding table_visit table_tried table_looked
    table_reported = go (passes (setting_refusal t.setting)) refl
      where
        S : Outcome
        S = setting_refusal t.setting

        stop : Looked
        stop = looked (plan_refusal t) (cond (passes (plan_refusal t)) (rows_with t c) (rows t))

        go : (x : Bool) → passes S ≡ x
            → report (cond x (visit_rows (row_check t) 0 (rows t) rest) (ends_in S))
            ≡ cond (passes (cond x (rows_looked t) (looked S 0)).refusal) stop (cond x (rows_looked t) (looked S 0))
        go true e = rows_walked
        go false e = rw e refl

-- what is lent passes: the table's lists are equally long
even_lists : (t : Table) (c : CandidateLists) (numbers counts space : ℕ) → Passed (lent_refusal t c numbers counts space) → (length t.ends ≡ rows t) × (length t.marks ≡ rows t)
unfolding lent_refusal
even_lists t c numbers counts space p = let l = (lists_passed t t.starts (then_passed (table_refusal t) _ p).0).0 in (l.0, l.1)

-- THE VISIT'S REFUSAL AND COUNT are these, on every input
pub visit_reported : (t : Table) (c : CandidateLists) (numbers counts space : ℕ) → report (visit t c numbers counts space) ≡ reported t c numbers counts space
unfolding visit reported
visit_reported t c numbers counts space = go (passes lent) refl
  where
    lent : Outcome
    lent = lent_refusal t c numbers counts space

    go : (x : Bool) → passes lent ≡ x → report (cond x (table_visit t c) (ends_in lent)) ≡ cond x (table_tried t c) (looked lent 0)
    go true e = let l = even_lists t c numbers counts space (eqb-true (number_of lent) 0 e) in table_reported t c l.0 l.1
    go false e = refl

-- ---- which rows are visited

-- the table's rows from 0, each with what its check finds
abbrev pub table_rows : Table → List Seen
table_rows t = map (λ i. saw (TableRow i) (row_check t i)) (range_with_len 0 (rows t))

-- the candidates from 0
abbrev pub candidate_rows : Table → CandidateLists → List Seen
candidate_rows t c = map (λ j. saw (Candidate j) (candidate_check t c j)) (range_with_len 0 (size c))

-- THE ORDER of the rows
abbrev pub in_order : Table → CandidateLists → List Seen
in_order t c = table_rows t ++ candidate_rows t c

pub length_table_rows : (t : Table) → length (table_rows t) ≡ rows t
length_table_rows t = length-map-range_with_len (λ i. saw (TableRow i) (row_check t i)) 0 (rows t)

pub length_in_order : (t : Table) (c : CandidateLists) → length (in_order t c) ≡ rows t + size c
length_in_order t c =
    omega (arith, length-append (table_rows t) (candidate_rows t c), length_table_rows t, length-map-range_with_len (λ j. saw (Candidate j) (candidate_check t c j)) 0 (size c))

-- a visit of the first of these rows, which counts them
pub record VisitsFirst (order : List Seen) (v : Visit) : Type 0 where
  pub counted : length v.visited ≡ v.rows
  pub first : v.visited ≡ take v.rows order

none_first : (order : List Seen) (r : Outcome) → VisitsFirst order (ends_in r)
none_first order r = record { counted = refl; first = refl }

one_more : (row : Seen) (order : List Seen) (v : Visit) → VisitsFirst order v → VisitsFirst (row ∷ order) (sees row v)
one_more row order v h =
    record {
      counted = omega (arith, h.counted);
      first = ap (λ l. row ∷ l) h.first ∙ ap (λ k. take k (row ∷ order)) (sym (add-one v.rows));
    }

stopped_first : (r : Outcome) (order : List Seen) (v : Visit) → VisitsFirst order v → VisitsFirst order (r before v)
stopped_first r order v h = go (passes r)
  where
    go : (x : Bool) → VisitsFirst order (cond x v (ends_in r))
    go true = h
    go false = none_first order r

rows_first : (check : ℕ → Outcome) (i n : ℕ) (last : Visit) (order : List Seen) → VisitsFirst order last
    → VisitsFirst (map (λ k. saw (TableRow k) (check k)) (range_with_len i n) ++ order) (visit_rows check i n last)
unfolding visit_rows
rows_first check i zero last order h = h
rows_first check i (suc n) last order h =
    one_more (saw (TableRow i) (check i)) _ _ (stopped_first (check i) _ (visit_rows check (i + 1) n last) (rows_first check (i + 1) n last order h))

candidates_first : (check : ℕ → Outcome) (j m : ℕ) → VisitsFirst (map (λ k. saw (Candidate k) (check k)) (range_with_len j m)) (visit_candidates check j m)
unfolding visit_candidates
candidates_first check j zero = none_first [] Accepted
candidates_first check j (suc m) = one_more (saw (Candidate j) (check j)) _ (visit_candidates check (j + 1) m) (candidates_first check (j + 1) m)

module _ (t : Table) (c : CandidateLists) where
  offered_first : VisitsFirst (candidate_rows t c) (candidates_visit t c)
  unfolding candidates_visit
  offered_first = go (eqb (rows t) max_rows)
    where
      go : (x : Bool) → VisitsFirst (candidate_rows t c) (cond x (ends_in Accepted) (visit_candidates (candidate_check t c) 0 (size c)))
      go true = none_first _ Accepted
      go false = candidates_first (candidate_check t c) 0 (size c)

  table_first : VisitsFirst (in_order t c) (table_visit t c)
  unfolding table_visit
  table_first = stopped_first (setting_refusal t.setting) _ _ (rows_first (row_check t) 0 (rows t) _ _ (stopped_first (plan_refusal t) _ (candidates_visit t c) offered_first))

  -- ON EVERY INPUT the rows visited are so many of the first in this order as are counted
  pub visits_first : (numbers counts space : ℕ) → VisitsFirst (in_order t c) (visit t c numbers counts space)
  unfolding visit
  visits_first numbers counts space = stopped_first (lent_refusal t c numbers counts space) _ (table_visit t c) table_first
