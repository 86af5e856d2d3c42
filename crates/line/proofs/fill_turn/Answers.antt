-- `fill_turn`: the cells of the turn are made, the first three before the others.
use native.Mathlib.Omega.{arith}
use Rattle.line.specs.declared.Receiver.TheVariants.{One, Two}
use Rattle.line.proofs.Turns.{turn_made, first_alone}
use Rattle.line.proofs.fill_turn.Goals as goal

pub fill_sides-requires-clause-high : goal.fill_sides-requires-clause-high
fill_sides-requires-clause-high c = (omega (arith, c.requires.ready.high One), omega (arith, c.requires.ready.high Two))

pub returns-then-j-max : goal.returns-then-j-max
returns-then-j-max c = turn_made c.requires.ready c.requires.must_within c.from-next.ensures c.from-high_1.ensures c.from-high_2.ensures c.fill_first.ensures c.fill_sides.ensures

pub returns-else-j-max : goal.returns-else-j-max
returns-else-j-max c =
    first_alone c.requires.ready c.requires.must_within c.from-next.ensures c.from-high_1.ensures c.from-high_2.ensures c.fill_first.ensures (omega arith) (omega arith)
