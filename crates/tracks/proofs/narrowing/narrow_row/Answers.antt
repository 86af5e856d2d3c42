-- `narrow_row` meets its contract: after two attempts one label is left.
use native.Mathlib.Omega.{arith}
use Rattle.tracks.proofs.Turns.{row_again, row_twice}
use Rattle.tracks.proofs.narrowing.narrow_row.Goals as goal

pub try_first-requires-2 : goal.try_first-requires-2
try_first-requires-2 c =
    let t = c.try_first in
    row_again t.auto.perms t.auto.left t.auto.space t.ensures.space_unchanged c.requires.narrow t.ensures.narrowed t.ensures.kept (omega (arith, c.requires.inside))

pub returns-clause-narrowed : goal.returns-clause-narrowed
returns-clause-narrowed c =
    let t = c.try_first.ensures in
    let u = c.try_first-2.ensures in
    row_twice c.requires (t.narrowed, t.advanced) (u.narrowed, u.advanced)
