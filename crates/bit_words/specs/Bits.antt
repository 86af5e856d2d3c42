-- Believed: Words of bits: the bit of a word at a place, and the word with a bit for each row (docs/RULES.md, Words).
use Rattle.std.specs.Prelude.{ℕ, zero, suc, ◌+◌, ◌/◌, ◌%◌, ◌^◌, Bool, cond, eqb}

-- how many bits a word has
abbrev pub word_bits : ℕ
word_bits = 64

-- bit i of a word: how often 2 to the i goes into it, odd or even
abbrev pub bit : ℕ → ℕ → ℕ
bit word i = word / 2 ^ i % 2

-- the test that it is 1
abbrev pub is_set : ℕ → ℕ → Bool
is_set word i = eqb (bit word i) 1

-- the word of n rows whose bit i is 1 exactly if the test holds of row i; bit i is worth 2 to the i
unfoldable pub word_of : ℕ → (ℕ → Bool) → ℕ
word_of zero test = 0
word_of (suc i) test = word_of i test + cond (test i) (2 ^ i) 0
