-- `player::Moment::tell_listens` meets its contract. The loop's invariant: what all LISTENs tell is what those that are
-- left tell after what was told so far.
use Rattle.std.proofs.Common.{◌≡◌, length}
use Rattle.plan_tape.specs.Stated.{listens_in, after_listens}
use Rattle.player.specs.declared.Receiver.TheVariants.{Idle}
use Rattle.player.specs.Told.{telling}
use Rattle.player.proofs.Walking.{IsLeft}
use Rattle.player.proofs.Moment.tell_listens.Given as goal

abbrev pub invariant-loop-listen : goal.invariant-loop-listen
invariant-loop-listen l =
    (telling l.self.head.kind l.self.head.ticks l.self.tick Idle (listens_in l.left)
    ≡ telling l.self.head.kind l.self.head.ticks l.self.tick l.receiver (listens_in l.rest))
    × (after_listens l.left ≡ after_listens l.rest)
    × IsLeft l.left l.rest

abbrev pub decreases-loop-listen : goal.decreases-loop-listen
decreases-loop-listen l = length l.rest
