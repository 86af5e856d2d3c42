-- `plan_reader::judged::is_row_free` meets its contract: the walk gives each LISTEN.
use Rattle.std.proofs.Common.{rules, tests, refl}
use Rattle.std.proofs.lemmas.Iterator.Search.{all_from_yields_List}
use Rattle.std.proofs.lemmas.Iterator.Consumers.{YieldsList-from_first}
use Rattle.plan_reader.specs.Items.{stated_listen}
use Rattle.plan_reader.specs.Judged.{listens_left, is_other}
use Rattle.plan_reader.proofs.judged.is_row_free.Goals as goal

pub returns : goal.returns
returns c = all_from_yields_List {s = c.args.listens} (is_other c.args.row) c.all.new.self _ c.all.result c.all.ensures.ran (YieldsList-from_first stated_listen listens_left {s = c.args.listens} _ refl) (λ x b q k. search (rules, tests))
