-- `best_plan::set_labels` meets its contract: the labels passed are those of the permissions.
use Rattle.basics.proofs.Filling.{Filled}
use Rattle.labels.specs.Permission.{label_of}
use Rattle.basics.specs.Lists.{at}
use Rattle.best_plan.proofs.set_labels.Given as goal

abbrev pub invariant-loop-i : goal.invariant-loop-i
invariant-loop-i l = Filled (λ k. label_of (at l.perms k)) l.i l.initial.labels l.labels
