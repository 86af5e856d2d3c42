-- `bit_words::bits::word_of` meets its contract: the word made so far is that of the rows passed.
use Rattle.std.proofs.Common.{◌≡◌, ℕ, Bool, ◌<◌, ◌^◌}
use Rattle.bit_words.specs.Bits.{word_of}
use Rattle.bit_words.proofs.bits.word_of.Given as goal

abbrev pub invariant-loop-i : goal.invariant-loop-i
invariant-loop-i g l =
    record {
      below : l.word < 2 ^ l.i;
      made : (test : ℕ → Bool) → ((k : ℕ) (b : Bool) → k < l.n → goal.F-post g l.test k b → b ≡ test k) → l.word ≡ word_of l.i test;
    }
