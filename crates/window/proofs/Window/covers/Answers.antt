-- `Window::covers` means what its contract says, as it computes `covers`.
use native.Mathlib.Omega.{arith}
use Rattle.window.specs.Windows.{covers}
use Rattle.window.proofs.Meaning.{covers_meaning}
use Rattle.window.proofs.Window.covers.Goals as goal

pub returns-then-self-tick-clause-meaning : goal.returns-then-self-tick-clause-meaning
unfolding covers
returns-then-self-tick-clause-meaning c = covers_meaning (grind arith)

pub returns-else-self-tick-clause-meaning : goal.returns-else-self-tick-clause-meaning
unfolding covers
returns-else-self-tick-clause-meaning c = covers_meaning (grind arith)

pub returns-then-self-tick-2-clause-meaning : goal.returns-then-self-tick-2-clause-meaning
unfolding covers
returns-then-self-tick-2-clause-meaning c = covers_meaning (grind arith)

pub returns-else-self-tick-2-clause-meaning : goal.returns-else-self-tick-2-clause-meaning
unfolding covers
returns-else-self-tick-2-clause-meaning c = covers_meaning (grind arith)
