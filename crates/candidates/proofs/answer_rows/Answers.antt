-- `candidates::answer_rows` meets its contract: beside a full table each candidate is refused 2, and else tried.
use Rattle.std.proofs.Common.{◌≡◌, refl, sym, ap, ◌∙◌, replicate}
use Rattle.basics.specs.Limits.{max_rows}
use Rattle.basics.proofs.Lists.{list_same}
use Rattle.window.specs.declared.Row.{Row}
use Rattle.table.specs.Tables.{lent, rows}
use Rattle.candidates.specs.Tried.{Tried, tried, offered, candidate_at, size}
use Rattle.candidates.proofs.Trying.{answer, tried_full}
use Rattle.candidates.proofs.Visiting.{none_visited, each_visited}
use Rattle.candidates.proofs.answer_rows.Goals as goal

pub returns-then-len-eq-MAX_ROWS : goal.returns-then-len-eq-MAX_ROWS
returns-then-len-eq-MAX_ROWS c =
    let t = lent c.args.table in
    let l = offered c.args.candidates in
    let p = c.requires.table_passed.lent in
    let full : rows t ≡ max_rows =
    sym c.len.ensures ∙ c.if-len-eq-MAX_ROWS.true in
    let each : (r : Row) → tried t r ≡ answer 2 0 = λ r. tried_full t r p.each_end p.each_mark full in
    let r = c.refuse_rows.ensures in
    record {
      value = none_visited t l full;
      numbers_after = r.numbers_after ∙ ap (λ k. replicate k 2) c.requires.candidates_lent.each_number ∙ list_same (size l) _ 2 (λ j. ap (λ (x : Tried). x.number) (each (candidate_at l j)));
      counts_after = r.counts_after ∙ ap (λ k. replicate k 0) c.requires.candidates_lent.each_count ∙ list_same (size l) _ 0 (λ j. ap (λ (x : Tried). x.count) (each (candidate_at l j)));
      space_unchanged = refl;
    }

pub returns-clause-value : goal.returns-clause-value
returns-clause-value c =
    c.len-2.ensures ∙ each_visited (lent c.args.table) (offered c.args.candidates) (λ e. c.if-len-eq-MAX_ROWS.false (c.len.ensures ∙ e))
