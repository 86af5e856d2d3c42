-- A player that starts on a tape which the writer can make follows it: each step is at its tick, tells what the tape's
-- windows say there, and after the end of a run nothing moves.
use Prim.Native.Nat.{ℕ, zero, suc, ◌+◌, ◌%◌, ◌≤◌, ◌<◌}
use mathlib.Core.Path.{◌≡◌, refl, sym, ap, ◌∙◌}
use mathlib.Core.List.{List}
use native.Mathlib.Decide.{ℕ_discrete, dec_lt}
use native.Mathlib.Nat.{add-zero, add-suc, mod-lt, mod-eq_of_lt, mod_self, suc-mod}
use native.Mathlib.Omega.{arith}
use borrow.Author.Tests.{eq-eqb, ne_eqb}
use Rattle.window.specs.declared.Kind.{Kind}
use Rattle.window.specs.declared.Kind.TheVariants.{Round, Run}
use Rattle.window.specs.Windows.{next}
use Rattle.plan_tape.specs.Stated.{stated}
use Rattle.plan_reader.proofs.Parts.{Judged}
use Rattle.player.specs.Played.{player_at, told_at, moving, stepped}
use Rattle.player.specs.Follows.{after_steps, step_at, tick_of, Playing, Agrees, Follows}
use Rattle.player.proofs.Steps.{step_rests, step_tells}
use Rattle.player.proofs.Telling.{telling_tells}

-- ---- the tick of a step

module _ (R first : ℕ) (below : first < R) where
  tick_first : (kind : Kind) → first ≡ tick_of kind R first 0
  tick_first Round = sym (ap (λ (n : ℕ). n % R) (add-zero first) ∙ mod-eq_of_lt below)
  tick_first Run = sym (add-zero first)

  tick_below : (kind : Kind) (n : ℕ) → Playing kind R first n → tick_of kind R first n < R
  tick_below Round n p = mod-lt (first + n) (omega (arith, below))
  tick_below Run n p = p

  -- one step on, modulo R
  wraps : (m : ℕ) → next Round R (m % R) ≡ suc m % R
  wraps m = go (ℕ_discrete (suc (m % R)) R)
    where
      inside : m % R < R
      inside = mod-lt m (omega (arith, below))

      go : Dec (suc (m % R) ≡ R) → next Round R (m % R) ≡ suc m % R
      go (yes e) = rw (eq-eqb (suc (m % R)) R e) (sym (suc-mod m R ∙ ap (λ (n : ℕ). n % R) e ∙ mod_self R))
      go (no d) = rw (ne_eqb (suc (m % R)) R d) (sym (suc-mod m R ∙ mod-eq_of_lt (omega (arith, inside, d))))

  tick_next : (kind : Kind) (n : ℕ) → next kind R (tick_of kind R first n) ≡ tick_of kind R first (suc n)
  tick_next Round n = wraps (first + n) ∙ ap (λ (m : ℕ). m % R) (sym (add-suc first n))
  tick_next Run n = sym (add-suc first n)

  playing_first : (kind : Kind) → Playing kind R first 0
  playing_first Round = tt
  playing_first Run = omega (arith, below)

  playing_before : (kind : Kind) (n : ℕ) → Playing kind R first (suc n) → Playing kind R first n
  playing_before Round n p = tt
  playing_before Run n p = omega (arith, p)

  playing? : (kind : Kind) (n : ℕ) → Dec (Playing kind R first n)
  playing? Round n = yes tt
  playing? Run n = dec_lt (first + n) R

  -- where a run no longer plays
  past_end : (kind : Kind) (n : ℕ) → (Playing kind R first n → ⊥) → R ≤ tick_of kind R first n
  past_end Round n d = absurd (d tt)
  past_end Run n d = omega (arith, d)

-- ---- the steps on a tape

module _ (tape : List ℕ) (judged : Judged (stated tape)) (first : ℕ) (below : first < (stated tape).ticks) where
  abbrev kind : Kind
  kind = (stated tape).kind

  abbrev R : ℕ
  R = (stated tape).ticks

  after_moved : (t : ℕ) → t < R → (stepped tape (player_at t)).player ≡ player_at (next kind R t)
  unfolding moving stated
  after_moved t h = ap (λ s. s.player) (step_tells tape (player_at t) h)

  after_playing : (n : ℕ) → Playing kind R first n → after_steps tape (player_at first) n ≡ player_at (tick_of kind R first n)
  unfolding after_steps
  after_playing zero p = ap player_at (tick_first R first below kind)
  after_playing (suc n) p =
      let q = playing_before R first below kind n p in
      ap (λ p. (stepped tape p).player) (after_playing n q)
      ∙ after_moved (tick_of kind R first n) (tick_below R first below kind n q)
      ∙ ap player_at (tick_next R first below kind n)

  after_end : (n : ℕ) → (Playing kind R first n → ⊥) → R ≤ (after_steps tape (player_at first) n).tick
  unfolding after_steps
  after_end zero d = absurd (d (playing_first R first below kind))
  after_end (suc n) d = go (playing? R first below kind n) (λ e. after_end n e)
    where
      go : Dec (Playing kind R first n) → ((Playing kind R first n → ⊥) → R ≤ (after_steps tape (player_at first) n).tick) → R ≤ (stepped tape (after_steps tape (player_at first) n)).player.tick
      go (yes q) f =
          let moved : (stepped tape (after_steps tape (player_at first) n)).player ≡ player_at (tick_of kind R first (suc n)) =
          ap (λ p. (stepped tape p).player) (after_playing n q) ∙ after_moved (tick_of kind R first n) (tick_below R first below kind n q) ∙ ap player_at (tick_next R first below kind n) in
          rw moved (past_end R first below kind (suc n) d)
      go (no e) f =
          let h = f e in
          rw (← ap (λ s. s.player) (step_rests tape (after_steps tape (player_at first) n) refl h)) h

  agrees : (n : ℕ) → Playing kind R first n → Agrees (stated tape) (tick_of kind R first n) (step_at tape (player_at first) n).state
  unfolding moving told_at stated
  agrees n p =
      let tick = tick_of kind R first n in
      let inside = tick_below R first below kind n p in
      let told : step_at tape (player_at first) n ≡ moving (stated tape) tick = ap (stepped tape) (after_playing n p) ∙ step_tells tape (player_at tick) inside in
      rw (ap (λ s. s.state) told)
      (record {
        playing = refl;
        receiver_1 = telling_tells kind R tick (stated tape).first judged.first inside;
        receiver_2 = telling_tells kind R tick (stated tape).second judged.second inside;
      })

  pub follows : Follows tape first (player_at first)
  unfolding stated
  follows = record { agrees = agrees; finishes = λ n d. sym (step_rests tape (after_steps tape (player_at first) n) refl (after_end n d)) }
