-- LISTENs by rising start: what it says of two of them, and that the members tell the list.
use Prim.Native.Nat.{ℕ, ◌+◌, ◌≤◌}
use mathlib.Core.Path.{◌≡◌, refl, sym, ap, ◌∙◌}
use mathlib.Core.Logic.{◌↔◌, ⊎_elim}
use mathlib.Core.List.Memᴰ
use mathlib.Core.List.{List, [], ◌∷◌, Memᴰ}
use native.Mathlib.Omega.{arith}
use Rattle.plan_tape.specs.Stated.{Listen}

-- the starts rise strictly, from b on
abbrev pub Rises : ℕ → List Listen → Type 0
Rises b [] = Unit {0}
Rises b (w ∷ ws) = (b ≤ w.start) × Rises (w.start + 1) ws

pub rises_from : (b : ℕ) (w : Listen) (ws : List Listen) → Rises b ws → Memᴰ w ws → b ≤ w.start
rises_from b w [] r m = absurd (Memᴰ.not-nil m)
rises_from b w (v ∷ ws) r (Memᴰ.head q) = rw q r.0
rises_from b w (v ∷ ws) r (Memᴰ.tail m) = omega (arith, r.0, rises_from (v.start + 1) w ws r.1 m)

-- what rises, and starts at or after c, rises from c on
pub raised : (b c : ℕ) (ws : List Listen) → ((w : Listen) → Memᴰ w ws → c ≤ w.start) → Rises b ws → Rises c ws
raised b c [] f r = tt
raised b c (w ∷ ws) f r = (f w (Memᴰ.head refl), r.1)

-- two lists that rise and have the same members are one
pub rises_same : (b c : ℕ) (ws us : List Listen) → Rises b ws → Rises c us → ((w : Listen) → Memᴰ w ws ↔ Memᴰ w us) → ws ≡ us
rises_same b c [] [] r q f = refl
rises_same b c [] (u ∷ us) r q f = absurd (Memᴰ.not-nil ((f u).1 (Memᴰ.head refl)))
rises_same b c (w ∷ ws) [] r q f = absurd (Memᴰ.not-nil ((f w).0 (Memᴰ.head refl)))
rises_same b c (w ∷ ws) (u ∷ us) r q f =
    λ i. first i ∷ rises_same (w.start + 1) (u.start + 1) ws us r.1 q.1 rest i
  where
    first : w ≡ u
    first =
        ⊎_elim (λ e. e)
        (λ m. ⊎_elim (λ e. sym e)
        (λ n. absurd (omega (arith, rises_from (u.start + 1) w us q.1 m, rises_from (w.start + 1) u ws r.1 n)))
        (Memᴰ.cases_cons ((f u).1 (Memᴰ.head refl))))
        (Memᴰ.cases_cons ((f w).0 (Memᴰ.head refl)))

    rest : (v : Listen) → Memᴰ v ws ↔ Memᴰ v us
    rest v = (
      λ m. ⊎_elim (λ e. absurd (omega (arith, rises_from (w.start + 1) v ws r.1 m, ap (λ (x : Listen). x.start) (e ∙ sym first)))) (λ n. n) (Memᴰ.cases_cons ((f v).0 (Memᴰ.tail m))),
      λ m. ⊎_elim (λ e. absurd (omega (arith, rises_from (u.start + 1) v us q.1 m, ap (λ (x : Listen). x.start) (e ∙ first)))) (λ n. n) (Memᴰ.cases_cons ((f v).1 (Memᴰ.tail m))),
    )
