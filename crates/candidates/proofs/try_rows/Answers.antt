-- `candidates::try_rows` meets its contract: the candidates passed have their answers.
use Rattle.std.proofs.Common.{ap, ◌∙◌, arith}
use Rattle.basics.proofs.Filling.{filled_more, filled_list}
use Rattle.table.specs.Tables.{lent}
use Rattle.candidates.specs.Tried.{Tried, tried}
use Rattle.candidates.proofs.try_rows.Goals as goal

pub loop-j-preserved : goal.loop-j-preserved
loop-j-preserved c =
    let l = c.loop-j.invariant in
    let p = c.requires.candidates_lent in
    let r = c.try_row-tried in
    let s = c.set_answer.ensures in
    let e = r.ensures.value ∙ ap (tried (lent c.args.table)) c.row.ensures in
    rw (s.numbers_after, s.counts_after)
    (record {
      numbers = filled_more l.numbers (omega (arith, p.each_number)) (ap (λ (x : Tried). x.number) e);
      counts = filled_more l.counts (omega (arith, p.each_count)) (ap (λ (x : Tried). x.count) e);
      space = r.auto.space ∙ l.space;
      rest = r.ensures.space_unchanged ∙ l.rest;
    })

pub returns-clause-numbers_after : goal.returns-clause-numbers_after
returns-clause-numbers_after c = filled_list _ c.requires.candidates_lent.each_number (omega arith) c.loop-j.invariant.numbers

pub returns-clause-counts_after : goal.returns-clause-counts_after
returns-clause-counts_after c = filled_list _ c.requires.candidates_lent.each_count (omega arith) c.loop-j.invariant.counts
