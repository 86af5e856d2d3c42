-- `bit_words::set_labels` meets its contract: the rows passed have their labels.
use Rattle.basics.proofs.Filling.{Filled}
use Rattle.bit_words.specs.Bits.{is_set}
use Rattle.bit_words.specs.Words.{label_by}
use Rattle.bit_words.proofs.set_labels.Given as goal

abbrev pub invariant-loop-i : goal.invariant-loop-i
invariant-loop-i l = Filled (λ k. label_by (is_set l.words.heard k) (is_set l.words.receiver k)) l.i l.initial.labels l.labels
