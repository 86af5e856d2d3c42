-- `set_highs`: the bytes of the rows before j are written.
use mathlib.Core.Path.{◌∙◌}
use native.Mathlib.Omega.{arith}
use Rattle.line.proofs.Highs.{both_more, both_done}
use Rattle.line.proofs.set_highs.Goals as goal

pub loop-j-preserved : goal.loop-j-preserved
loop-j-preserved c =
    let one = c.high_after-high_1.ensures in
    let two = c.high_after-high_2.ensures in
    both_more _ _ _ _ c.loop-j.invariant c.requires (omega arith) (omega arith) c.max.ensures c.max-in-loop-j.ensures
    one.rising one.bound (λ p. one.next (c.may_have.ensures ∙ p)) two.rising two.bound (λ p. two.next (c.may_have-in-loop-j.ensures ∙ p))

pub returns-clause-highs : goal.returns-clause-highs
returns-clause-highs c = both_done c.loop-j.invariant (omega arith)
