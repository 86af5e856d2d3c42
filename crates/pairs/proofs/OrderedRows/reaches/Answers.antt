-- `reaches` meets its contract: no labels of the pair pass its bound, and its value is the most that they hear.
use Rattle.pairs.proofs.Finding.{reaching_bounded, reaching_tried}
use Rattle.pairs.proofs.OrderedRows.reaches.Goals as goal

pub returns-then-bound-cap-clause-reaching : goal.returns-then-bound-cap-clause-reaching
returns-then-bound-cap-clause-reaching c =
    reaching_bounded c.requires.ready.rows _ _ c.requires.worth_1 c.requires.worth_2 c.bound.ensures c.if-bound-cap.true

pub returns-clause-reaching : goal.returns-clause-reaching
returns-clause-reaching c =
    reaching_tried c.requires.ready.rows c.requires.within.0 c.requires.within.1 c.requires.cap_some c.requires.cap_most c.pair_best.ensures.value
