-- `narrow` meets its contract: a turn narrows one row more.
use mathlib.Core.Path.{◌∙◌}
use native.Mathlib.Omega.{arith}
use Rattle.tracks.proofs.Turns.{row_again, narrow_none, narrow_more, narrow_done}
use Rattle.tracks.proofs.narrowing.narrow.Goals as goal

pub loop-i-init : goal.loop-i-init
loop-i-init c = record { narrowed = narrow_none c.requires; kept = c.keep.ensures.kept; frame = c.keep.ensures.space_unchanged; ahead_few = omega arith }

pub narrow_ahead-ahead-requires-clause-row : goal.narrow_ahead-ahead-requires-clause-row
narrow_ahead-ahead-requires-clause-row c =
    let l = c.loop-i in
    row_again (omega arith) (omega arith) (omega arith) l.invariant.frame c.requires l.invariant.narrowed l.invariant.kept (omega arith)

pub loop-i-preserved : goal.loop-i-preserved
loop-i-preserved c =
    let I = c.loop-i.invariant in
    let n = c.narrow_ahead-ahead.ensures in
    record { narrowed = narrow_more c.requires I.narrowed n.narrowed; kept = n.kept; frame = n.space_unchanged ∙ I.frame; ahead_few = n.ahead_few }

pub returns-clause-answered : goal.returns-clause-answered
returns-clause-answered c = narrow_done c.requires (omega arith) c.loop-i.invariant.narrowed
