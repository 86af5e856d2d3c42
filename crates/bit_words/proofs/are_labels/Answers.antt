-- `bit_words::are_labels` meets its contract.
use Rattle.std.proofs.Common.{◌∙◌, leb, rules, tests}
use Rattle.std.proofs.lemmas.Iterator.{YieldsList-from_slice}
use Rattle.std.proofs.lemmas.Iterator.Search.{all_from_yields_List}
use Rattle.bit_words.proofs.Carrying.{all_labels}
use Rattle.bit_words.proofs.are_labels.Goals as goal

pub returns : goal.returns
returns c =
    all_from_yields_List (λ x. leb x 2) _ _ _ c.all.ensures.ran (YieldsList-from_slice c.args.labels.now cc) (λ x b q k. search (rules, tests))
    ∙ all_labels c.args.labels.now
