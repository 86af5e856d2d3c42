-- The test of check 6 says which starts and ends make a window, and where a window starts and ends. Run and round
-- together.
use Prim.Native.Nat.{ℕ, ◌≤◌, ◌<◌}
use mathlib.Core.Path.{◌≡◌}
use mathlib.Core.Logic.{◌↔◌}
use mathlib.Core.Bool.{true}
use native.Mathlib.Omega.{arith}
use native.Mathlib.Nat.{le_of_lt}
use Rattle.std.proofs.lemmas.Bool.Decides.{Decides-ltb}
use Rattle.basics.proofs.Tests.{leb_iff, and_iff}
use Rattle.window.specs.declared.Kind.{Kind}
use Rattle.window.specs.declared.Kind.TheVariants.{Round, Run}
use Rattle.window.specs.Windows.{Window, is_window}

pub window_iff : (kind : Kind) (R s e : ℕ) → (is_window kind R s e ≡ true) ↔ Window kind R s e
window_iff Round R s e = and_iff (Decides-ltb s R) (Decides-ltb e R)
window_iff Run R s e = and_iff (Decides-ltb s e) (leb_iff e R)

pub window_end : (kind : Kind) (R s e : ℕ) → Window kind R s e → e ≤ R
window_end Round R s e w = le_of_lt w.1
window_end Run R s e w = w.1

pub window_start : (kind : Kind) (R s e : ℕ) → Window kind R s e → s < R
window_start Round R s e w = w.0
window_start Run R s e w = omega arith
