-- `plan_reader::PlanReader::listen` meets its contract: the LISTEN that is taken is the first of those read.
use Rattle.std.proofs.Common.{rules, refl, ap, ◌∙◌, ◌+◌, arith, length}
use Rattle.std.proofs.lemmas.List.{length-drop}
use Rattle.tape.specs.Commands.{LISTEN, operand_bytes}
use Rattle.plan_reader.specs.Items.{left}
use Rattle.plan_reader.proofs.Items.{listen_whole, rest_fits, rest_count, rest_stands}
use Rattle.plan_reader.proofs.Listens.{listen_taken}
use Rattle.plan_reader.proofs.PlanReader.listen.Goals as goal

pub overflow_sub-self : goal.overflow_sub-self
overflow_sub-self c = rest_fits c.left-left.result.now (1 + operand_bytes LISTEN) (search rules)

pub overflow_add-self : goal.overflow_add-self
overflow_add-self c = omega (arith, ap length c.left-left.ensures, length-drop c.args.self.now.at c.args.self.now.tape.now)

pub returns : goal.returns
unfolding operand_bytes
returns c =
    let moved = rest_stands c.left-left.result.now {rest = c.in_ok-listen.rest.now} (1 + operand_bytes LISTEN) (search rules) c.args.self.now.tape.now c.args.self.now.at c.left-left.ensures in
    let bytes = c.left-left.result.now in
    let count = rest_count bytes {rest = c.in_ok-listen.rest.now} (1 + operand_bytes LISTEN) (search rules) (listen_whole bytes (search rules)) in
    let further = ap (λ k. c.args.self.now.at + k) count in
    let taken = listen_taken (left c.args.self.now) (search rules) (search rules) (moved ∙ search rules) in
    record {
      reads = (search rules, search rules, moved ∙ search rules, refl, further);
      takes = (taken.0, taken.1, refl, further);
    }
