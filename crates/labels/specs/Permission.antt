-- Inner: Which labels a row may have: a permission is a number whose bit x says that the label x (0, 1 or 2) is
-- permitted.
use Rattle.std.specs.Prelude.{ℕ, zero, suc, ◌+◌, ◌*◌, ◌/◌, ◌%◌, Bool, false, cond, ◌&&◌, ◌||◌, eqb}

abbrev pub permits : ℕ → ℕ → Bool
permits p zero = eqb (p % 2) 1
permits p (suc zero) = eqb (p / 2 % 2) 1
permits p (suc (suc zero)) = eqb (p / 4 % 2) 1
permits p (suc (suc (suc x))) = false

abbrev pub bit : Bool → ℕ
bit test = cond test 1 0

-- the permission of the labels 0, 1 and 2 that the three tests say
unfoldable pub permission : Bool → Bool → Bool → ℕ
permission a b c = bit a + bit b * 2 + bit c * 4

-- what is left of the permission p where the three tests say which labels may stay
abbrev pub restrict : ℕ → Bool → Bool → Bool → ℕ
restrict p a b c = permission (permits p 0 && a) (permits p 1 && b) (permits p 2 && c)

-- what one of two permissions permits
abbrev pub join : ℕ → ℕ → ℕ
join p q = permission (permits p 0 || permits q 0) (permits p 1 || permits q 1) (permits p 2 || permits q 2)

-- the permission of the label x alone
unfoldable pub only : ℕ → ℕ
only zero = 1
only (suc zero) = 2
only (suc (suc zero)) = 4
only (suc (suc (suc x))) = 0

-- the label of a permission that permits one label alone
unfoldable pub label_of : ℕ → ℕ
label_of zero = 3
label_of (suc zero) = 0
label_of (suc (suc zero)) = 1
label_of (suc (suc (suc p))) = 2
