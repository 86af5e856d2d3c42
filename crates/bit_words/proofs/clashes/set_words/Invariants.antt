-- `bit_words::clashes::set_words` meets its contract: the rows passed have their words.
use Rattle.basics.proofs.Filling.{Filled}
use Rattle.table.specs.Tables.{lent}
use Rattle.bit_words.specs.Clashes.{clash_word}
use Rattle.bit_words.proofs.clashes.set_words.Given as goal

abbrev pub invariant-loop-i : goal.invariant-loop-i
invariant-loop-i l = Filled (clash_word (lent l.table)) l.i l.initial.words l.words
