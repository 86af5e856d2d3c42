-- What the search for labels keeps from pair to pair: over the pairs that were tried, the labels that rows have in some
-- assignment that reaches the cap are found.
use Prim.Native.Nat.{ℕ, suc, ◌+◌, ◌-◌, ◌≤◌, ◌<◌}
use mathlib.Core.Path.{◌≡◌, refl, subst, ◌∙◌}
use mathlib.Core.Logic.{◌↔◌, ◌⊎◌, inl, inr, ⊎_elim}
use mathlib.Core.Bool.{Bool, true, false, false≢true}
use mathlib.Core.List.{List}
use native.Mathlib.Omega.{arith}
use borrow.Author.Tests.{leb-true, leb-false}
use lib.Dec.{leb}
use lib.ListN.{length, drop}
use Rattle.std.proofs.lemmas.Bool.{true≢false}
use Rattle.labels.specs.Labels.{heard}
use Rattle.line.specs.Cells.{worth_at, line_bytes, found_from, next_from}
use Rattle.pairs.specs.Pairs.{gathered, Cleared, PairFit}
use Rattle.pairs.specs.Ready.{Rows, Ready}
use Rattle.pairs.specs.Bounds.{Worth, bound_of, PairValue, max_worth}
use Rattle.pairs.specs.Found.{LabelsFound, Found}
use Rattle.pairs.specs.Finding.{Reaching, Begun, PairAdded}
use Rattle.pairs.proofs.Fits.{AnyFit, fit_iff}
use Rattle.pairs.proofs.Bounds.{bound_holds}
use Rattle.pairs.proofs.Classes.{split, both}
use Rattle.pairs.proofs.Trials.{same_later, entry_kept, FirstFrom, SecondFrom}
use Rattle.pairs.proofs.Kept.{WorthsKept, kept_then, pair_kept, others_kept, line_kept, found_kept, begun_others}
use Rattle.pairs.proofs.LabelsFound.{labels_same, labels_begun, labels_added}

-- ---- whether a pair reaches the cap

module _ {positions ends order perms : List ℕ} {m : ℕ} (rows : Rows positions ends order perms m) {w1 w2 cap : ℕ} where
  -- its bound does not
  pub reaching_bounded : {one two b : ℕ} (left space : List ℕ) → Worth positions ends (gathered order perms) m 1 w1 one
      → Worth positions ends (gathered order perms) m 2 w2 two → b ≡ bound_of m w1 w2 one two → b < cap
      → Reaching positions ends (gathered order perms) m w1 w2 cap left space false
  reaching_bounded left space f g e h =
      record { yes = λ q. absurd (false≢true q); none = λ q l F. omega (arith, bound_holds rows.crossing rows.ordered f g l F, e) }

  -- by its value
  pub reaching_tried : {v : ℕ} {left space : List ℕ} → w1 ≤ m → w2 ≤ m → 1 ≤ cap
      → ((l : List ℕ) → Cleared positions ends (gathered order perms) l → suc (heard l) ≤ cap)
      → PairValue positions ends (gathered order perms) m w1 w2 left space v → Reaching positions ends (gathered order perms) m w1 w2 cap left space (leb cap v)
  reaching_tried {v} {left} {space} a b some most V =
      record {
        yes = λ e. subst (λ (x : ℕ). PairValue positions ends (gathered order perms) m w1 w2 left space x) (equal (leb-true cap v e)) V;
        none = λ e l F. omega (arith, V.most.bound l F, leb-false cap v e);
      }
    where
      any : (l : List ℕ) → PairFit positions ends (gathered order perms) m w1 w2 l → AnyFit positions ends (gathered order perms) m l
      any l F = record { choice = w1; low = omega arith; high = a; member = record { choice = w2; low = omega arith; high = b; member = F } }

      equal : cap ≤ v → v ≡ cap
      equal h =
          let g = V.most.reached (omega arith) in
          omega (arith, g.2, most g.0 ((fit_iff positions ends (gathered order perms) m rows.crossing g.0).0 (any g.0 g.1)))

-- ---- the loops over pairs, from (m, m) downwards

-- The lists of C are tried: whether one reaches the cap, and if so the labels found; the worths and the next rows stay.
pub record Finding (positions ends order perms : List ℕ) (m cap : ℕ) (C : List ℕ → Type 0) (s₀ s : List ℕ) (reached : Bool) : Type 0 where
  pub worths : (w : ℕ) → w ≤ m → Worth positions ends (gathered order perms) m 2 w (worth_at s w)
  pub small : (w : ℕ) → w ≤ m → worth_at s w ≤ max_worth
  pub nexts : drop next_from s ≡ drop next_from s₀
  pub found : Found order perms (length positions) cap C s₀ s reached

-- a class with the same lists
finding_iff : {positions ends order perms s₀ s : List ℕ} {m cap : ℕ} {C D : List ℕ → Type 0} {reached : Bool} → ((l : List ℕ) → C l ↔ D l)
    → Finding positions ends order perms m cap C s₀ s reached → Finding positions ends order perms m cap D s₀ s reached
finding_iff f P =
    record {
      worths = P.worths;
      small = P.small;
      nexts = P.nexts;
      found = record {
        yes = λ q. let y = P.found.yes q in ((y.0.0, (f y.0.0).0 y.0.1, y.0.2), labels_same (λ x. refl) (λ l d e. (f l).1 d) y.1);
        none = λ q l d. P.found.none q l ((f l).1 d);
        kept = P.found.kept;
      };
    }

worth_kept : {positions ends order perms : List ℕ} {m : ℕ} → Rows positions ends order perms m → {s t : List ℕ} → WorthsKept s t
    → (w : ℕ) → w ≤ m → worth_at t w ≡ worth_at s w
worth_kept rows K w h = K.worths w (omega (arith, rows.crossing.within, rows.few))

module _ {positions ends order perms s₀ : List ℕ} {m cap : ℕ} (rows : Rows positions ends order perms m) where
  -- no pair
  pub finding_begun : {s : List ℕ} → ((w : ℕ) → w ≤ m → Worth positions ends (gathered order perms) m 2 w (worth_at s w))
      → ((w : ℕ) → w ≤ m → worth_at s w ≤ max_worth) → drop found_from s ≡ drop found_from s₀
      → Finding positions ends order perms m cap (FirstFrom positions ends (gathered order perms) m (m + 1)) s₀ s false
  finding_begun {s} f g e =
      record {
        worths = f;
        small = g;
        nexts = same_later found_from next_from s₀ s (omega arith) e;
        found = record {
          yes = λ q. absurd (false≢true q);
          none = λ q l w. absurd (omega (arith, w.low, w.high));
          kept = λ q i h. entry_kept found_from s₀ s e i;
        };
      }

  -- beside the lists of C: those of the pair (w1, w2)
  module _ {C : List ℕ → Type 0} {s : List ℕ} {reached : Bool} (P : Finding positions ends order perms m cap C s₀ s reached)
      {w1 w2 : ℕ} {left s₁ : List ℕ} (same : drop line_bytes s₁ ≡ drop line_bytes s) where
    -- they do not reach the cap
    finding_passed : Reaching positions ends (gathered order perms) m w1 w2 cap left s₁ false
        → Finding positions ends order perms m cap (λ l. C l ⊎ PairFit positions ends (gathered order perms) m w1 w2 l) s₀ s₁ reached
    finding_passed F =
        let K = pair_kept s s₁ same in
        record {
          worths = λ w h. rw (worth_kept rows K w h) (P.worths w h);
          small = λ w h. rw (worth_kept rows K w h) (P.small w h);
          nexts = K.nexts ∙ P.nexts;
          found = record {
            yes = λ q. let y = P.found.yes q in
                ((y.0.0, inl y.0.1, y.0.2), labels_same (found_kept s s₁ same) (λ l c g. ⊎_elim (λ d. d) (λ d. absurd (omega (arith, F.none refl l d))) c) y.1);
            none = λ q l. ⊎_elim (P.found.none q l) (F.none refl l);
            kept = λ q i h. found_kept s s₁ same i ∙ P.found.kept q i h;
          };
        }

    -- they do
    finding_added : {t v : List ℕ} → 1 ≤ cap → Ready positions ends order perms m left s₁ → PairValue positions ends (gathered order perms) m w1 w2 left s₁ cap
        → Begun reached s₁ t → PairAdded order left m t v
        → Finding positions ends order perms m cap (λ l. C l ⊎ PairFit positions ends (gathered order perms) m w1 w2 l) s₀ v true
    finding_added {t} {v} some R V B Z =
        record {
          worths = λ w h. rw (worth_kept rows K w h) (P.worths w h);
          small = λ w h. rw (worth_kept rows K w h) (P.small w h);
          nexts = K.nexts ∙ P.nexts;
          found = record {
            yes = λ q. let g = V.most.reached some in ((g.0, inr g.1, g.2), labels_added some R V (begun_others B).after Z (before reached P.found B));
            none = λ q. absurd (true≢false q);
            kept = λ q. absurd (true≢false q);
          };
        }
      where
        K : WorthsKept s v
        K = kept_then (pair_kept s s₁ same) (kept_then (others_kept s₁ t (begun_others B)) (kept_then (others_kept t Z.between Z.crossing.others) (line_kept Z.line)))

        before : (b : Bool) → Found order perms (length positions) cap C s₀ s b → Begun b s₁ t → LabelsFound order perms (length positions) cap C t
        before true Q A = rw (A.yes refl) (labels_same (found_kept s s₁ same) (λ l d g. d) (Q.yes refl).1)
        before false Q A = labels_begun rows.few (Q.none refl) (A.none refl)

-- the pairs in their order
module _ {positions ends order perms s₀ s : List ℕ} {m cap : ℕ} {reached : Bool} where
  -- no pair with w1
  pub finding_first : {w1 n : ℕ} → Finding positions ends order perms m cap (FirstFrom positions ends (gathered order perms) m n) s₀ s reached → n ≡ w1 + 1
      → Finding positions ends order perms m cap (SecondFrom positions ends (gathered order perms) m w1 (m + 1)) s₀ s reached
  finding_first P e = finding_iff (λ l. (inl, ⊎_elim (λ c. c) (λ w. absurd (omega (arith, w.low, w.high))))) (rw e at P)

  module _ {w1 n : ℕ} (P : Finding positions ends order perms m cap (SecondFrom positions ends (gathered order perms) m w1 n) s₀ s reached) where
    -- all pairs with w1
    pub finding_all : n ≤ 0 → w1 ≤ m → Finding positions ends order perms m cap (FirstFrom positions ends (gathered order perms) m w1) s₀ s reached
    finding_all h k = let z : n ≡ 0 = omega arith in finding_iff (split w1 (w1 + 1) refl k) (rw z at P)

    module _ (rows : Rows positions ends order perms m) (some : 0 < n) (few : n ≤ m + 1) {left s₁ : List ℕ} (same : drop line_bytes s₁ ≡ drop line_bytes s)
        {r : Bool} (F : Reaching positions ends (gathered order perms) m w1 (n - 1) cap left s₁ r) where
      -- one pair more, that does not reach the cap
      pub finding_past : r ≡ false → Finding positions ends order perms m cap (SecondFrom positions ends (gathered order perms) m w1 (n - 1)) s₀ s₁ reached
      finding_past e = finding_iff (both _ (n - 1) n (omega arith) (omega arith)) (finding_passed rows P same (rw e at F))

      -- one pair more, that does
      pub finding_more : r ≡ true → {t v : List ℕ} → 1 ≤ cap → Ready positions ends order perms m left s₁ → Begun reached s₁ t → PairAdded order left m t v
          → Finding positions ends order perms m cap (SecondFrom positions ends (gathered order perms) m w1 (n - 1)) s₀ v true
      finding_more e b R B Z = finding_iff (both _ (n - 1) n (omega arith) (omega arith)) (finding_added rows P same b R (F.yes e) B Z)

  -- all pairs
  pub finding_done : {n : ℕ} → Rows positions ends order perms m → n ≤ 0
      → Finding positions ends order perms m cap (FirstFrom positions ends (gathered order perms) m n) s₀ s reached
      → Found order perms (length positions) cap (Cleared positions ends (gathered order perms)) s₀ s reached
  finding_done {n} R h P = let z : n ≡ 0 = omega arith in (finding_iff (fit_iff positions ends (gathered order perms) m R.crossing) (rw z at P)).found
