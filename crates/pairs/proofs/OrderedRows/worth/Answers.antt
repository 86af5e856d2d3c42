-- `worth` meets its contract: no labels hear more of the rows below k than the schedule.
use native.Mathlib.Omega.{arith}
use Rattle.pairs.proofs.Worths.{scheduled_none, scheduled_same, scheduled_more}
use Rattle.pairs.proofs.OrderedRows.worth.Goals as goal
use Rattle.pairs.proofs.OrderedRows.worth.Goals.{then-may_hear, else-may_hear}

pub loop-k-init : goal.loop-k-init
loop-k-init c = scheduled_none c.args.self.within (omega arith)

pub loop-k-preserved : goal.loop-k-preserved
loop-k-preserved c =
    let S = c.loop-k.invariant in
    elim c.if-may_hear.branch [
      | then-may_hear w ↦ rw w.schedule-is (scheduled_more S (omega arith) (omega arith) w.with_row-schedule.ensures)
      | else-may_hear w ↦ rw w.schedule-is (scheduled_same S (omega arith) (omega arith) c.may_hear.ensures w.if-may_hear.false)
    ]
