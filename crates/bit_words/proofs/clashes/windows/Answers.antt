-- `bit_words::clashes::windows` meets its contract: so many zeros are marks of 0.
use Rattle.std.proofs.Common.{ap, List, ℕ, length}
use Rattle.table.specs.Tables.{table}
use Rattle.std.proofs.lemmas.List.{take-replicate}
use Rattle.bit_words.proofs.clashes.windows.Goals as goal

pub returns : goal.returns
returns c =
    let g = c.args in
    ap (λ (marks : List ℕ). table g.setting g.starts.now g.ends.now marks) (take-replicate (length g.starts.now) 64 0 c.requires)
