-- `row_lists::move_from` meets its contract.
use Rattle.std.proofs.Common.{◌+◌, arith}
use Rattle.row_lists.proofs.Moving.{copied}
use Rattle.row_lists.proofs.move_from.Goals as goal

pub returns : goal.returns
returns g c =
    let q = c.requires in
    rw c.copy_within.ensures.after (copied c.args.list.now c.args.k c.args.n (c.args.k + 1) q.below (omega (arith, q.most)) (omega (arith, q.below, q.most)))
