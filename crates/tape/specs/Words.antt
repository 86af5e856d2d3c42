-- Believed: A 16-bit operand of a tape as two bytes, high byte first; what a list of bytes is, and a place on it.
use Rattle.std.specs.Prelude.{ℕ, ◌+◌, ◌*◌, ◌/◌, ◌%◌, ◌<◌, List, [], ◌∷◌, length, get_or}

abbrev pub high_byte : ℕ → ℕ
high_byte n = n / 256

abbrev pub low_byte : ℕ → ℕ
low_byte n = n % 256

-- the two bytes of a 16-bit operand, high byte first
abbrev pub word : ℕ → List ℕ
word n = high_byte n ∷ low_byte n ∷ []

-- the number that two bytes are, high byte first
abbrev pub joined : ℕ → ℕ → ℕ
joined high low = high * 256 + low

-- the 16-bit operand at place i
abbrev pub word_at : List ℕ → ℕ → ℕ
word_at s i = joined (get_or s i 0) (get_or s (i + 1) 0)

-- a tape is a list of bytes
abbrev pub Bytes : List ℕ → Type 0
Bytes s = (i : ℕ) → get_or s i 0 < 256

-- the place lies on the tape
pub record Inside (tape : List ℕ) (at : ℕ) : Type 0 where
  pub inside : at < length tape
