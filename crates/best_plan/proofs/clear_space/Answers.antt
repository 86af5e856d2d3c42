-- `best_plan::clear_space` meets its contract: the bytes that are filled are 0.
use Rattle.std.proofs.Common.{◌++◌, ◌∙◌, ap, replicate, drop, rules}
use Rattle.table.specs.Planned.{space_bytes}
use lib.Seq.{length-take-le}
use Rattle.best_plan.proofs.clear_space.Goals as goal

pub returns : goal.returns
returns c =
    let s = c.args.space.now in
    let zeros = c.fill.ensures.after (λ y h. search rules) ∙ ap (λ n. replicate n 0) (length-take-le space_bytes s c.requires) in
    ap (λ bytes. bytes ++ drop space_bytes s) zeros
