-- `take_all`: a label that is taken stays so.
use mathlib.Core.Path.{◌≡◌}
use native.Mathlib.Omega.{arith}
use Prim.Native.Nat.{◌-◌}
use Rattle.line.specs.Cells.{cell_at}
use Rattle.line_labels.specs.Marks.{unmarked, mark}
use Rattle.line_labels.proofs.Marking.{all_taken}
use Rattle.line_labels.proofs.Turn.take_all.Goals as goal

pub returns-clause-taken : goal.returns-clause-taken
returns-clause-taken c =
    λ m. let e : unmarked (cell_at c.args.space.now c.args.x c.args.y) ≡ cell_at c.args.space.now c.args.x c.args.y - mark = omega arith in
    all_taken c.args.self e c.left-one.ensures c.left-two.ensures c.max-x.ensures c.max-y.ensures
    c.take-with_out.ensures.more c.take-with_out.ensures.taken c.take-with_one.ensures.more c.take-with_one.ensures.taken c.take.ensures.more c.take.ensures.taken
