-- `Window::is_too_close` means what its contract says, as it computes `too_close`.
use native.Mathlib.Omega.{arith}
use Rattle.window.specs.Gaps.{too_close}
use Rattle.window.proofs.Gaps.{too_close_meaning}
use Rattle.window.proofs.Window.is_too_close.Goals as goal

pub returns-then-reaches-clause-meaning : goal.returns-then-reaches-clause-meaning
unfolding too_close
returns-then-reaches-clause-meaning c = too_close_meaning (grind arith)

pub returns-else-reaches-clause-meaning : goal.returns-else-reaches-clause-meaning
unfolding too_close
returns-else-reaches-clause-meaning c = too_close_meaning (grind arith)
