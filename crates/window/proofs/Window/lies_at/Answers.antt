-- `Window::lies_at` means what its contract says, as it computes `lies_in`.
use Rattle.std.proofs.Common.{◌∙◌, rules}
use Rattle.window.proofs.Meaning.{lies_meaning, lies_within}
use Rattle.window.proofs.Window.lies_at.Goals as goal

pub returns-then-tick-ticks-clause-meaning : goal.returns-then-tick-ticks-clause-meaning
returns-then-tick-ticks-clause-meaning c =
    let w = c.args.self in
    lies_meaning (c.covers.ensures.computed ∙ lies_within c.args.kind c.args.ticks w.start w.end c.args.tick (search rules) (search rules))
