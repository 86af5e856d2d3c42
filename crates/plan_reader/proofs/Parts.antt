-- What the tests of a plan tape say: of the LISTENs of one receiver, of the two receivers beside each other, and of
-- all that is stated.
use Prim.Native.Nat.{ℕ, ◌+◌, ◌≤◌, ◌<◌}
use mathlib.Core.Path.{◌≡◌, refl, sym, ap, ◌∙◌}
use mathlib.Core.Logic.Iff
use mathlib.Core.Logic.{◌≢◌, ◌↔◌}
use mathlib.Core.Bool.{Bool, true, false, ◌&&◌, and-eq-true_iff}
use mathlib.Core.List.Memᴰ
use mathlib.Core.List.{List, [], ◌∷◌, Memᴰ}
use native.Mathlib.Omega.{arith}
use lib.Dec.{leb}
use Rattle.basics.specs.Limits.{max_rows}
use Rattle.std.proofs.lemmas.Bool.Decides.{Decides-ltb, Decides-eqb}
use Rattle.basics.proofs.Tests.{leb_iff, and_iff, not_iff}
use Rattle.window.specs.declared.Kind.{Kind}
use Rattle.window.specs.Windows.{Window, Overlap}
use Rattle.window.proofs.Meaning.{window_iff, overlaps_iff}
use Rattle.refusals.specs.Refusals.{asked, passes, Ticks}
use Rattle.table.specs.Checks.{ticks_refusal}
use Rattle.plan_tape.specs.Stated.{Listen, Stated, stated}
use Rattle.std.specs.List.{list_all}
use Rattle.plan_reader.specs.Judged.{is_listen, is_other, is_before, is_part, are_other, are_parts, is_judged, is_formed, is_plan_tape}
use Rattle.plan_reader.proofs.Rises.{Rises, rises_from, raised}

-- the test holds of each member
pub all_iff : (p : Listen → Bool) (ws : List Listen) → (list_all p ws ≡ true) ↔ ((w : Listen) → Memᴰ w ws → p w ≡ true)
all_iff p ws = (there ws, back ws)
  where
    there : (ws : List Listen) → list_all p ws ≡ true → (w : Listen) → Memᴰ w ws → p w ≡ true
    there [] e w m = absurd (Memᴰ.not-nil m)
    there (v ∷ ws) e w (Memᴰ.head q) = ap p q ∙ ((and-eq-true_iff (p v) (list_all p ws)).0 e).0
    there (v ∷ ws) e w (Memᴰ.tail m) = there ws ((and-eq-true_iff (p v) (list_all p ws)).0 e).1 w m

    back : (ws : List Listen) → ((w : Listen) → Memᴰ w ws → p w ≡ true) → list_all p ws ≡ true
    back [] f = refl
    back (v ∷ ws) f = (and-eq-true_iff (p v) (list_all p ws)).1 (f v (Memᴰ.head refl), back ws (λ w m. f w (Memᴰ.tail m)))

-- the LISTENs that one receiver can have
pub record Part (kind : Kind) (R : ℕ) (ws : List Listen) : Type 0 where
  pub row : (w : Listen) → Memᴰ w ws → w.row < max_rows
  pub window : (w : Listen) → Memᴰ w ws → Window kind R w.start w.end
  pub apart : (w w' : Listen) → Memᴰ w ws → Memᴰ w' ws → w.row ≢ w'.row → Overlap kind R w.start w.end w'.start w'.end → ⊥
  pub once : (w w' : Listen) → Memᴰ w ws → Memᴰ w' ws → w.row ≡ w'.row → w ≡ w'
  pub rises : Rises 0 ws

-- ---- one LISTEN before another

module _ (kind : Kind) (R : ℕ) where
  -- what `is_before` says of two LISTENs whose windows pass check 6
  record Before (w w' : Listen) : Type 0 where
    earlier : w.start < w'.start
    apart : Overlap kind R w.start w.end w'.start w'.end → ⊥
    other : w.row ≢ w'.row

  before_iff : (w w' : Listen) → Window kind R w.start w.end → Window kind R w'.start w'.end → (is_before w w' ≡ true) ↔ Before w w'
  before_iff w w' v v' = (
    λ e. let f = tests.0 e in record { earlier = f.0.0; apart = f.0.1; other = f.1 },
    λ b. tests.1 ((b.earlier, b.apart), b.other),
  )
    where
      tests : (is_before w w' ≡ true) ↔ (((w.start < w'.start) × (Overlap kind R w.start w.end w'.start w'.end → ⊥)) × (w.row ≢ w'.row))
      tests =
          and_iff
          (and_iff (Decides-ltb w.start w'.start) (not_iff (overlaps_iff kind R w.start w.end w'.start w'.end v v')))
          (not_iff (Decides-eqb w.row w'.row))

  listen_iff : (w : Listen) → (is_listen kind R w ≡ true) ↔ ((w.row < max_rows) × Window kind R w.start w.end)
  listen_iff w = and_iff (Decides-ltb w.row max_rows) (window_iff kind R w.start w.end)

  part_cons : (w : Listen) (ws : List Listen)
      → (is_part kind R (w ∷ ws) ≡ true) ↔ ((((w.row < max_rows) × Window kind R w.start w.end) × ((w' : Listen) → Memᴰ w' ws → is_before w w' ≡ true)) × (is_part kind R ws ≡ true))
  unfolding is_part
  part_cons w ws = and_iff (and_iff (listen_iff w) (all_iff (is_before w) ws)) Iff.rfl

  -- ---- the LISTENs of one receiver

  -- one LISTEN more in front
  module _ (w : Listen) (ws : List Listen) (low : w.row < max_rows) (shape : Window kind R w.start w.end) (first : (w' : Listen) → Memᴰ w' ws → Before w w') (P : Part kind R ws) where
    more : Part kind R (w ∷ ws)
    more = record { row = row; window = window; apart = apart; once = once; rises = (omega arith, raised 0 (w.start + 1) ws (λ v m. omega (arith, (first v m).earlier)) P.rises) }
      where
        row : (v : Listen) → Memᴰ v (w ∷ ws) → v.row < max_rows
        row v (Memᴰ.head q) = rw q low
        row v (Memᴰ.tail m) = P.row v m

        window : (v : Listen) → Memᴰ v (w ∷ ws) → Window kind R v.start v.end
        window v (Memᴰ.head q) = rw q shape
        window v (Memᴰ.tail m) = P.window v m

        apart : (v v' : Listen) → Memᴰ v (w ∷ ws) → Memᴰ v' (w ∷ ws) → v.row ≢ v'.row → Overlap kind R v.start v.end v'.start v'.end → ⊥
        apart v v' (Memᴰ.head q) (Memᴰ.head q') d o = d (ap (λ (x : Listen). x.row) (q ∙ sym q'))
        apart v v' (Memᴰ.head q) (Memᴰ.tail m') d o = (first v' m').apart (rw q at o)
        apart v v' (Memᴰ.tail m) (Memᴰ.head q') d o =
            (first v m).apart (rw (← q') (record { tick = o.tick; below = o.below; in_first = o.in_second; in_second = o.in_first }))
        apart v v' (Memᴰ.tail m) (Memᴰ.tail m') d o = P.apart v v' m m' d o

        once : (v v' : Listen) → Memᴰ v (w ∷ ws) → Memᴰ v' (w ∷ ws) → v.row ≡ v'.row → v ≡ v'
        once v v' (Memᴰ.head q) (Memᴰ.head q') e = q ∙ sym q'
        once v v' (Memᴰ.head q) (Memᴰ.tail m') e = absurd ((first v' m').other (ap (λ (x : Listen). x.row) (sym q) ∙ e))
        once v v' (Memᴰ.tail m) (Memᴰ.head q') e = absurd ((first v m).other (ap (λ (x : Listen). x.row) (sym q') ∙ sym e))
        once v v' (Memᴰ.tail m) (Memᴰ.tail m') e = P.once v v' m m' e

  pub part_known : (ws : List Listen) → is_part kind R ws ≡ true → Part kind R ws
  part_known [] e =
      record {
        row = λ w m. absurd (Memᴰ.not-nil m);
        window = λ w m. absurd (Memᴰ.not-nil m);
        apart = λ w w' m. absurd (Memᴰ.not-nil m);
        once = λ w w' m. absurd (Memᴰ.not-nil m);
        rises = tt;
      }
  part_known (w ∷ ws) e =
      let f = (part_cons w ws).0 e in
      let P = part_known ws f.1 in
      more w ws f.0.0.0 f.0.0.1 (λ w' m. (before_iff w w' f.0.0.1 (P.window w' m)).0 (f.0.1 w' m)) P

  pub known_part : (ws : List Listen) → Part kind R ws → is_part kind R ws ≡ true
  unfolding is_part
  known_part ws P = go 0 ws P.rises (λ w m. m)
    where
      go : (b : ℕ) (vs : List Listen) → Rises b vs → ((w : Listen) → Memᴰ w vs → Memᴰ w ws) → is_part kind R vs ≡ true
      go b [] r f = refl
      go b (v ∷ vs) r f =
          let here = f v (Memᴰ.head refl) in
          (part_cons v vs).1 (
            ((P.row v here, P.window v here), λ w m. before v w here (f w (Memᴰ.tail m)) (rises_from (v.start + 1) w vs r.1 m)),
            go (v.start + 1) vs r.1 (λ w m. f w (Memᴰ.tail m)),
          )
        where
          before : (v w : Listen) → Memᴰ v ws → Memᴰ w ws → v.start + 1 ≤ w.start → is_before v w ≡ true
          before v w m n h =
              let other : v.row ≢ w.row = λ e. omega (arith, ap (λ (x : Listen). x.start) (P.once v w m n e)) in
              (before_iff v w (P.window v m) (P.window w n)).1 (record { earlier = omega arith; apart = P.apart v w m n other; other = other })

-- ---- the two receivers

-- no row stands in both
abbrev pub Others : List Listen → List Listen → Type 0
Others ws us = (w u : Listen) → Memᴰ w ws → Memᴰ u us → w.row ≢ u.row

module _ (w : Listen) (ws us : List Listen) where
  others_cons : Others (w ∷ ws) us ↔ (((u : Listen) → Memᴰ u us → is_other w.row u ≡ true) × Others ws us)
  others_cons = (
    λ f. (λ u n. (not_iff (Decides-eqb w.row u.row)).1 (f w u (Memᴰ.head refl) n), λ v u m n. f v u (Memᴰ.tail m) n),
    λ f. back f.0 f.1,
  )
    where
      back : ((u : Listen) → Memᴰ u us → is_other w.row u ≡ true) → Others ws us → Others (w ∷ ws) us
      back f g v u (Memᴰ.head q) n = rw q ((not_iff (Decides-eqb w.row u.row)).0 (f u n))
      back f g v u (Memᴰ.tail m) n = g v u m n

pub others_iff : (ws us : List Listen) → (are_other ws us ≡ true) ↔ Others ws us
unfolding are_other
others_iff [] us = (λ e w u m. absurd (Memᴰ.not-nil m), λ f. refl)
others_iff (w ∷ ws) us = Iff.trans (and_iff (all_iff (is_other w.row) us) (others_iff ws us)) (Iff.symm (others_cons w ws us))

-- ---- what is stated

-- what the writer can state: R passes check 4, and the receivers' LISTENs are parts with no row in both
pub record Judged (s : Stated) : Type 0 where
  pub ticks_least : 2 ≤ s.ticks
  pub ticks_most : s.ticks ≤ 43200
  pub first : Part s.kind s.ticks s.first
  pub second : Part s.kind s.ticks s.second
  pub others : Others s.first s.second

ticks_iff : (R : ℕ) → (passes (ticks_refusal R) ≡ true) ↔ ((2 ≤ R) × (R ≤ 43200))
unfolding ticks_refusal
ticks_iff R = go (leb 2 R && leb R 43200) (and_iff (leb_iff 2 R) (leb_iff R 43200))
  where
    go : (b : Bool) → (b ≡ true) ↔ ((2 ≤ R) × (R ≤ 43200)) → (passes (asked b Ticks) ≡ true) ↔ ((2 ≤ R) × (R ≤ 43200))
    go true f = f
    go false f = f

pub judged_iff : (s : Stated) → (is_judged s ≡ true) ↔ Judged s
unfolding are_parts
judged_iff s = (
  λ e. let f = clauses.0 e in record { ticks_least = f.0.0.0.0; ticks_most = f.0.0.0.1; first = f.0.0.1; second = f.0.1; others = f.1 },
  λ j. clauses.1 ((((j.ticks_least, j.ticks_most), j.first), j.second), j.others),
)
  where
    part : (ws : List Listen) → (is_part s.kind s.ticks ws ≡ true) ↔ Part s.kind s.ticks ws
    part ws = (part_known s.kind s.ticks ws, known_part s.kind s.ticks ws)

    clauses : (is_judged s ≡ true)
        ↔ (((((2 ≤ s.ticks) × (s.ticks ≤ 43200)) × Part s.kind s.ticks s.first) × Part s.kind s.ticks s.second) × Others s.first s.second)
    clauses = and_iff (and_iff (and_iff (ticks_iff s.ticks) (part s.first)) (part s.second)) (others_iff s.first s.second)

pub plan_tape_iff : (tape : List ℕ) → (is_plan_tape tape ≡ true) ↔ ((is_formed tape ≡ true) × Judged (stated tape))
unfolding is_plan_tape
plan_tape_iff tape = and_iff Iff.rfl (judged_iff (stated tape))
