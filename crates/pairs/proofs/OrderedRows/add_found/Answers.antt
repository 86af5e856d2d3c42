-- `add_found` meets its contract: what the line program left still stands when the labels of the crossing rows are
-- added.
use Prim.Native.Nat.{◌+◌}
use native.Mathlib.Omega.{arith}
use lib.ListN.{length-drop}
use lib.Seq.{get_or-drop}
use Rattle.std.proofs.lemmas.List.{take_rest}
use Rattle.pairs.proofs.Kept.{filled_same}
use Rattle.pairs.proofs.OrderedRows.add_found.Goals as goal

pub find_line_labels-requires-clause-filled : goal.find_line_labels-requires-clause-filled
find_line_labels-requires-clause-filled c =
    let kept = c.add_crossing.ensures.others in
    simp take_rest (filled_same c.args.space.now c.add_crossing.new.space (omega arith) kept.after kept.before c.requires.filled)

pub find_line_labels-requires-clause-row : goal.find_line_labels-requires-clause-row
find_line_labels-requires-clause-row c k h =
    let m = c.args.self.m in
    simp (take_rest, get_or-drop) (c.requires.row (m + k) (omega (arith, simp take_rest at h, length-drop m c.args.left.now)))
