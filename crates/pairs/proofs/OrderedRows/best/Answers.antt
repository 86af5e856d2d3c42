-- `best` meets its contract: the loops have tried or passed over the pairs from (m, m) downwards, and labels leave no
-- meeting arcs on one receiver exactly if some pair fits them.
use Prim.Native.Nat.{◌-◌}
use mathlib.Core.Path.{◌≡◌}
use native.Mathlib.Omega.{arith}
use Rattle.pairs.specs.Pairs.{gathered}
use Rattle.line.specs.Cells.{found_from, next_from}
use Rattle.pairs.proofs.Bounds.{bound_holds}
use Rattle.pairs.proofs.Classes.{most_iff}
use Rattle.pairs.proofs.Fits.{fit_iff}
use Rattle.pairs.proofs.Trials.{same_later, ready_again, tried_none, tried_first, tried_more, tried_passed, tried_all}
use Rattle.pairs.proofs.OrderedRows.best.Goals as goal

pub loop-w1-init : goal.loop-w1-init
loop-w1-init c =
    let set = c.set_worths.ensures in
    tried_none (record { worth = λ w h. set.worths w (omega arith); small = λ w h. set.small w (omega arith); frame = set.space_unchanged })

pub loop-w2-init : goal.loop-w2-init
loop-w2-init c = tried_first c.loop-w1.invariant (omega arith)

pub loop-w1-preserved : goal.loop-w1-preserved
loop-w1-preserved c = tried_all c.loop-w2.invariant c.loop-w2-test.false (omega arith)

pub pair_best-requires : goal.pair_best-requires
pair_best-requires c =
    ready_again c.requires (omega arith) (omega arith) (same_later found_from next_from c.args.space.now c.loop-w2.space (omega arith) c.loop-w2.invariant.lent.frame)

pub loop-w2-preserved-then-best-bound : goal.loop-w2-preserved-then-best-bound
loop-w2-preserved-then-best-bound c =
    let one = c.pair_best.ensures in
    tried_more c.loop-w2.invariant c.loop-w2-test.true c.loop-w2.auto.w2 one.value.most one.space_unchanged c.max-best.ensures

pub loop-w2-preserved : goal.loop-w2-preserved
loop-w2-preserved c =
    let rows = c.requires.rows in
    tried_passed c.loop-w2.invariant c.loop-w2-test.true c.loop-w2.auto.w2
    (bound_holds rows.crossing rows.ordered c.worth-one.ensures.worth (c.loop-w2.invariant.lent.worth (c.loop-w2.w2 - 1) (omega arith)))
    (omega arith)

pub returns-clause-most : goal.returns-clause-most
returns-clause-most c =
    let none : c.loop-w1.w1 ≡ 0 = omega arith in
    most_iff (fit_iff c.args.self.positions.now c.args.self.ends.now (gathered c.args.self.order.now c.args.perms.now) c.args.self.m c.requires.rows.crossing)
    (rw none at c.loop-w1.invariant.most)
