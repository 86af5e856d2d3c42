-- `try_first` meets its contract: the first label stays where the cap is still reached with it alone; else no
-- assignment that reaches the cap has it.
use mathlib.Core.Path.{◌∙◌}
use native.Mathlib.Omega.{arith}
use Rattle.tracks.proofs.Turns.{fixed_ready, first_fixed, first_taken, first_below, struck_ready, struck_taken, row_same}
use Rattle.tracks.proofs.narrowing.try_first.Goals as goal

pub returns-then-perm-label-clause-advanced : goal.returns-then-perm-label-clause-advanced
returns-then-perm-label-clause-advanced c = (row_same c.requires (c.if-perm-label.true ∙ c.first_label-label.ensures)).1

pub take_found-requires : goal.take_found-requires
take_found-requires c = fixed_ready c.requires (first_fixed c.requires c.first_label-label.ensures)

pub returns-then-take_found-clause-narrowed : goal.returns-then-take_found-clause-narrowed
returns-then-take_found-clause-narrowed c = (first_taken c.requires c.first_label-label.ensures (c.take_found.ensures.found.yes c.if-take_found.true)).0

pub returns-then-take_found-clause-advanced : goal.returns-then-take_found-clause-advanced
returns-then-take_found-clause-advanced c = (first_taken c.requires c.first_label-label.ensures (c.take_found.ensures.found.yes c.if-take_found.true)).1

pub overflow_sub-perms : goal.overflow_sub-perms
overflow_sub-perms c = first_below c.requires c.first_label-label.ensures

pub take_found-requires-2 : goal.take_found-requires-2
take_found-requires-2 c =
    struck_ready c.requires c.first_label-label.ensures c.take_found.ensures.found (omega arith) c.if-take_found.false (omega arith) (omega arith)
    (c.keep.ensures.space_unchanged ∙ c.take_found.ensures.space_unchanged)

pub returns-clause-narrowed : goal.returns-clause-narrowed
returns-clause-narrowed c = (struck_taken c.requires c.first_label-label.ensures c.take_found.ensures.found (omega arith) c.if-take_found.false c.take_found-2.ensures.found).0

pub returns-clause-advanced : goal.returns-clause-advanced
returns-clause-advanced c = (struck_taken c.requires c.first_label-label.ensures c.take_found.ensures.found (omega arith) c.if-take_found.false c.take_found-2.ensures.found).1
