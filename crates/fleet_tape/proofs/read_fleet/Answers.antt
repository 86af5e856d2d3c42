-- `fleet_tape::read_fleet` meets its contract: the promise follows from what each return gives.
use Rattle.std.proofs.Common.{rules, arith}
use Rattle.fleet_tape.proofs.Judged.{answers}
use Rattle.fleet_tape.proofs.Exact.{read_said}
use Rattle.fleet_tape.proofs.read_fleet.Goals as goal

pub returns-in_err-head-clause-taken : goal.returns-in_err-head-clause-taken
returns-in_err-head-clause-taken c = read_said (λ i. omega (arith, c.type_inv.tape i)) (search (rules, answers))

pub returns-in_err-rows-clause-taken : goal.returns-in_err-rows-clause-taken
returns-in_err-rows-clause-taken c = read_said (λ i. omega (arith, c.type_inv.tape i)) (search (rules, answers))

pub returns-then-rows-gt-MAX_ROWS-clause-taken : goal.returns-then-rows-gt-MAX_ROWS-clause-taken
returns-then-rows-gt-MAX_ROWS-clause-taken c = read_said (λ i. omega (arith, c.type_inv.tape i)) (search (rules, answers))

pub returns-clause-taken : goal.returns-clause-taken
returns-clause-taken c = read_said (λ i. omega (arith, c.type_inv.tape i)) (search (rules, answers))
