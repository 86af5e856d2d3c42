-- A 16-bit number and its two bytes: each gives back the other.
use Prim.Native.Nat.{ℕ, ◌<◌}
use mathlib.Core.Path.{◌≡◌}
use native.Mathlib.Omega.{arith}
use native.Mathlib.Nat.{div-add-mod'}
use Rattle.tape.specs.Words.{high_byte, low_byte, joined}

pub joined_word : (n : ℕ) → joined (high_byte n) (low_byte n) ≡ n
joined_word n = div-add-mod' n 256

-- the two bytes of the number that two bytes are
pub high_joined : (a b : ℕ) → b < 256 → a ≡ high_byte (joined a b)
high_joined a b h = omega arith

pub low_joined : (a b : ℕ) → b < 256 → b ≡ low_byte (joined a b)
low_joined a b h = omega arith

pub joined_16 : (a b : ℕ) → a < 256 → b < 256 → joined a b < 65536
joined_16 a b h k = omega arith
