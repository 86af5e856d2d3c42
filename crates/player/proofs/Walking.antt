-- A walk over the LISTENs that stand first: what is left of the bytes is what stands as many places further on as are
-- no longer left.
use Prim.Native.Nat.{ℕ, ◌+◌, ◌-◌, ◌≤◌, ◌<◌}
use mathlib.Core.Path.{◌≡◌, sym, ap, ◌∙◌}
use mathlib.Core.Bool.{true}
use mathlib.Core.List.{List}
use native.Mathlib.Omega.{arith}
use lib.ListN.{length, drop, length-drop}
use lib.Seq.{drop-drop}
use Rattle.tape.specs.Commands.{LISTEN, operand_bytes, begins, after}
use Rattle.plan_reader.proofs.Items.{rest_fits, rest_count, listen_whole}

abbrev pub IsLeft : List ℕ → List ℕ → Type 0
IsLeft bytes rest = (length rest ≤ length bytes) × (rest ≡ drop (length bytes - length rest) bytes)

pub one_taken : (bytes : List ℕ) {rest next : List ℕ} → IsLeft bytes rest → begins LISTEN rest ≡ true → next ≡ after LISTEN rest → IsLeft bytes next
unfolding operand_bytes
one_taken bytes {rest} {next} l b e =
    let taken = length bytes - length rest in
    let further : next ≡ drop (taken + 6) bytes = e ∙ ap (drop 6) l.1 ∙ drop-drop 6 taken bytes in
    let inside : taken + 6 ≤ length bytes = omega (arith, l.0, listen_whole rest b) in
    (rest_fits bytes (taken + 6) further, further ∙ ap (λ n. drop n bytes) (sym (rest_count bytes (taken + 6) further inside)))

pub one_fewer : (rest : List ℕ) {next : List ℕ} → begins LISTEN rest ≡ true → next ≡ after LISTEN rest → length next < length rest
unfolding operand_bytes
one_fewer rest {next} b e = omega (arith, listen_whole rest b, ap length e, length-drop 6 rest)
