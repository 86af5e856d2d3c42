-- `pair_best` meets its contract: a row without a label leaves no labels; else the value is that of the line and the
-- pair's rows.
use mathlib.Core.Path.{sym, ◌∙◌}
use Rattle.std.proofs.lemmas.List.{take_rest}
use Rattle.pairs.proofs.Leaves.{leaving_none}
use Rattle.pairs.proofs.Trials.{value_none, line_lent, line_value_le, value_line}
use Rattle.pairs.proofs.OrderedRows.pair_best.Goals as goal

pub returns-then-not-leave-clause-value : goal.returns-then-not-leave-clause-value
returns-then-not-leave-clause-value c = value_none (leaving_none c.leave.ensures (cc c.if-not-leave.true))

pub line_best-rest-requires : goal.line_best-rest-requires
line_best-rest-requires c = line_lent c.requires c.leave.new.left c.leave.auto.left (take_rest c.leave.new.left c.args.self.m)

pub value-requires : goal.value-requires
value-requires c =
    let line = c.line_best-rest in
    line_value_le c.requires c.leave.new.left c.leave.auto.left (take_rest c.leave.new.left c.args.self.m) line.new.space line.auto.space line.ensures.space_unchanged line.ensures.value

pub returns-clause-value : goal.returns-clause-value
returns-clause-value c =
    let line = c.line_best-rest in
    value_line c.requires c.leave.new.left c.leave.auto.left (take_rest c.leave.new.left c.args.self.m) line.new.space line.auto.space line.ensures.space_unchanged line.ensures.value
    (c.leave.ensures.all c.if-not-leave.false) (sym c.is_twice.ensures ∙ c.if-is_twice.false) line.ensures.filled c.value.ensures
