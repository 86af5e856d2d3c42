-- `candidates::try_each` meets its contract: each way through the checks is a way to compute `candidates_call`, and the
-- count is that of the rows visited.
use Rattle.std.proofs.Common.{sym, ◌∙◌}
use Rattle.table.specs.Tables.{lent}
use Rattle.candidates.specs.Tried.{offered}
use Rattle.candidates.proofs.Answering.{lent_refused, lent_accepts, lent_passed, known_lent, call_counts}
use Rattle.candidates.proofs.try_each.Goals as goal

pub returns-then-is_err : goal.returns-then-is_err
returns-then-is_err c =
    let same = lent_refused _ _ _ _ _ c.check_lent-refusal.ensures (sym c.is_err.ensures.value ∙ c.if-is_err.true) in
    record { computed = same; visited = call_counts _ _ _ _ _ same }

pub try_table-requires : goal.try_table-requires
try_table-requires c =
    let g = c.args in
    let known = known_lent (lent g.table) (offered g.candidates) g.numbers.now g.counts.now g.space.now (lent_accepts _ _ _ _ _ c.check_lent-refusal.ensures (sym c.is_err.ensures.value ∙ c.if-is_err.false)) in
    record { table_lent = known.0; candidates_lent = known.1 }

pub returns : goal.returns
returns c =
    let same = c.try_table.ensures ∙ lent_passed _ _ _ _ _ (lent_accepts _ _ _ _ _ c.check_lent-refusal.ensures (sym c.is_err.ensures.value ∙ c.if-is_err.false)) in
    record { computed = same; visited = call_counts _ _ _ _ _ same }
