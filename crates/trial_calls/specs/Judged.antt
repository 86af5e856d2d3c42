-- Inner: What is to stand in a list after a call, by numbers alone: of the product's definitions only the numbers of
-- the refusals are used.
use Rattle.std.specs.Prelude.{ℕ, Bool, ◌&&◌, Option, None, Some, Result, Ok, Err, List, length, take, drop, ◌==◌, cond, nat_eq}
use Rattle.std.specs.List.{list_all}
use Rattle.std.specs.Cmp.Lexicographic.{pointwise}
use Rattle.refusals.specs.declared.Refusal.{Refusal}
use Rattle.refusals.specs.Numbers.{number}

-- what a call answers, a refusal as its number
abbrev pub numbered : {A : Type 0} → Result A Refusal → Result A ℕ
numbered (Ok answer) = Ok answer
numbered (Err refusal) = Err (number refusal)

-- the first places hold what is to be written, as far as there are places, and those after them what all held before a
-- call
abbrev pub are_written : {A : Type 0} → (A → A → Bool) → List A → List A → A → Bool
are_written eq list written before =
    pointwise eq (take (length written) list) (take (length list) written) && list_all (λ place. eq place before) (drop (length written) list)

-- the same of numbers, in a list that held 90 at each place
abbrev pub is_written : List ℕ → List ℕ → Bool
is_written list written = are_written nat_eq list written 90

-- so many bytes of the working space are cleared by a call that is accepted, and by one that is refused by this number:
-- 8 clears the same
abbrev pub cleared : Option ℕ → ℕ
cleared None = 4608
cleared (Some refusal) = cond (refusal == 8) 4608 0
