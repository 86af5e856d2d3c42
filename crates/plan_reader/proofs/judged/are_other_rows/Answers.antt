-- `plan_reader::judged::are_other_rows` meets its contract: the walk gives each LISTEN.
use Rattle.std.proofs.Common.{◌≡◌, List, [], ◌∷◌, ◌&&◌, rules, tests, refl, ap, ◌∙◌}
use Rattle.std.specs.List.{list_all}
use Rattle.std.proofs.lemmas.Iterator.Search.{all_from_yields_List}
use Rattle.std.proofs.lemmas.Iterator.Consumers.{YieldsList-from_first}
use Rattle.plan_tape.specs.Stated.{Listen}
use Rattle.plan_reader.specs.Items.{stated_listen}
use Rattle.plan_reader.specs.Judged.{listens_left, is_other, are_other}
use Rattle.plan_reader.proofs.judged.are_other_rows.Goals as goal

all_other : (ws us : List Listen) → list_all (λ w. list_all (is_other w.row) us) ws ≡ are_other ws us
unfolding are_other
all_other [] us = refl
all_other (w ∷ ws) us = ap (λ b. list_all (is_other w.row) us && b) (all_other ws us)

pub returns : goal.returns
returns c =
    let us = listens_left c.args.others in
    all_from_yields_List {s = c.args.listens} (λ w. list_all (is_other w.row) us) c.all.new.self _ c.all.result c.all.ensures.ran (YieldsList-from_first stated_listen listens_left {s = c.args.listens} _ refl) (λ x b q k. search (rules, tests))
    ∙ all_other (listens_left c.args.listens) us
