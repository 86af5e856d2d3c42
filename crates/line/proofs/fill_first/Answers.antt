-- `fill_first`: the three cells are made.
use native.Mathlib.Omega.{arith}
use Rattle.line.proofs.Turns.{first_made}
use Rattle.line.proofs.fill_first.Goals as goal

pub returns : goal.returns
returns c =
    let out = c.out_value-out.ensures in
    let one = c.heard_value-one.ensures in
    let two = c.heard_value-two.ensures in
    first_made c.requires.long (omega arith)
    (rw (c.max.ensures, c.max-out_one.ensures, two, one, out, c.may_have.ensures, c.may_have-2.ensures, c.may_have-3.ensures) (omega arith))
    (rw (c.max-out_one.ensures, one, out, c.may_have.ensures, c.may_have-2.ensures) (omega arith))
    (rw (c.max-2.ensures, two, out, c.may_have.ensures, c.may_have-3.ensures) (omega arith))
