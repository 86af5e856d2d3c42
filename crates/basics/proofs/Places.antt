-- What the test for lists of 64 places says.
use Prim.Native.Nat.{ℕ}
use mathlib.Core.Path.{◌≡◌}
use mathlib.Core.Logic.{◌↔◌}
use mathlib.Core.Bool.{true}
use mathlib.Core.List.{List}
use lib.ListN.{length}
use Rattle.basics.specs.Limits.{max_rows, Places, has_places}
use Rattle.std.proofs.lemmas.Bool.Decides.{Decides-eqb}
use Rattle.basics.proofs.Tests.{and_iff}

pub places_iff : (starts ends marks : List ℕ) → (has_places (length starts) (length ends) (length marks) ≡ true) ↔ Places starts ends marks
places_iff starts ends marks =
    let test = and_iff (and_iff (Decides-eqb (length starts) max_rows) (Decides-eqb (length ends) max_rows)) (Decides-eqb (length marks) max_rows) in (
      λ e. let p = test.0 e in record { starts_64 = p.0.0; ends_64 = p.0.1; marks_64 = p.1 },
      λ p. test.1 ((p.starts_64, p.ends_64), p.marks_64),
    )
