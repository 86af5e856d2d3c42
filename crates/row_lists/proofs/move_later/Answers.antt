-- `row_lists::move_later` meets its contract.
use Rattle.std.proofs.Common.{◌+◌, arith}
use Rattle.row_lists.proofs.Moving.{copied}
use Rattle.row_lists.proofs.move_later.Goals as goal

pub returns : goal.returns
returns g c =
    let q = c.requires in
    rw c.copy_within.ensures.after (copied c.args.list.now (c.args.k + 1) c.args.n c.args.k (omega (arith, q.below)) q.most (omega (arith, q.below, q.most)))
