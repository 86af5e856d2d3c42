-- `Window::overlaps` means what its contract says, as it computes `overlaps`.
use native.Mathlib.Omega.{arith}
use Rattle.window.specs.Windows.{overlaps}
use Rattle.window.proofs.Meaning.{overlaps_meaning}
use Rattle.window.proofs.Window.overlaps.Goals as goal

pub returns-then-covers-clause-meaning : goal.returns-then-covers-clause-meaning
unfolding overlaps
returns-then-covers-clause-meaning c = overlaps_meaning (grind arith)

pub returns-else-covers-clause-meaning : goal.returns-else-covers-clause-meaning
unfolding overlaps
returns-else-covers-clause-meaning c = overlaps_meaning (grind arith)
