-- `labels::count_heard` meets its contract: it counts the labels that pass its test, and so does `heard`.
use Rattle.std.proofs.Common.{rules}
use Rattle.labels.proofs.Heard.{heard_count}
use Rattle.labels.proofs.count_heard.Goals as goal

pub returns : goal.returns
returns c = rw heard_count (search rules)
