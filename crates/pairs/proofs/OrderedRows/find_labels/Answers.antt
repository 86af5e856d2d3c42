-- `find_labels` meets its contract: over the pairs from (m, m) downwards, the labels of the assignments that reach the
-- cap are found.
use mathlib.Core.Path.{◌∙◌}
use native.Mathlib.Omega.{arith}
use Rattle.line.specs.Cells.{line_bytes, next_from}
use Rattle.pairs.proofs.Trials.{same_later, ready_again}
use Rattle.pairs.proofs.Kept.{filled_begun}
use Rattle.pairs.proofs.Finding.{finding_begun, finding_first, finding_past, finding_more, finding_all, finding_done}
use Rattle.pairs.proofs.OrderedRows.find_labels.Goals as goal

pub loop-w1-init : goal.loop-w1-init
loop-w1-init c = let set = c.set_worths.ensures in finding_begun c.requires.ready.rows set.worths set.small set.space_unchanged

pub loop-w2-init : goal.loop-w2-init
loop-w2-init c = finding_first c.loop-w1.invariant (omega arith)

pub loop-w1-preserved : goal.loop-w1-preserved
loop-w1-preserved c = finding_all c.loop-w2.invariant c.loop-w2-test.false (omega arith)

pub reaches-requires-clause-ready : goal.reaches-requires-clause-ready
reaches-requires-clause-ready c = ready_again c.requires.ready (omega arith) (omega arith) c.loop-w2.invariant.nexts

pub reaches-requires-clause-worth_2 : goal.reaches-requires-clause-worth_2
reaches-requires-clause-worth_2 c = c.loop-w2.invariant.worths _ (omega arith)

pub loop-w2-preserved-then-not-reaches : goal.loop-w2-preserved-then-not-reaches
loop-w2-preserved-then-not-reaches c =
    let one = c.reaches.ensures in
    finding_past c.loop-w2.invariant c.requires.ready.rows c.loop-w2-test.true c.loop-w2.auto.w2 one.space_unchanged one.reaching (cc)

pub add_found-requires-clause-filled : goal.add_found-requires-clause-filled
add_found-requires-clause-filled c =
    filled_begun (omega arith) c.clear_found.ensures ((c.reaches.ensures.reaching.yes (cc)).filled c.requires.cap_some)

pub loop-w2-preserved : goal.loop-w2-preserved
loop-w2-preserved c =
    let one = c.reaches.ensures in
    finding_more c.loop-w2.invariant c.requires.ready.rows c.loop-w2-test.true c.loop-w2.auto.w2 one.space_unchanged one.reaching (cc) c.requires.cap_some
    (ready_again c.requires.ready (omega arith) (omega arith)
    (same_later line_bytes next_from c.loop-w2.space c.reaches.new.space (omega arith) one.space_unchanged ∙ c.loop-w2.invariant.nexts))
    c.clear_found.ensures c.add_found.ensures

pub returns-clause-found : goal.returns-clause-found
returns-clause-found c = finding_done c.requires.ready.rows (omega arith) c.loop-w1.invariant
