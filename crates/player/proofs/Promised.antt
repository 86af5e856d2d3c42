-- What a start that is as promised comes to, from the promise alone (`StartsPlayer`, `Follows`): before the end no step
-- says finished; after it, and after a refusal, the player rests; and what is told is determined at every step.
use Prim.Native.Nat.{ℕ, zero, suc, ◌+◌, ◌≤◌, ◌<◌}
use mathlib.Core.Path.{◌≡◌, refl, sym, ap, ◌∙◌}
use mathlib.Core.Bool.{true, false}
use mathlib.Core.List.{List}
use native.Mathlib.Decide.{dec_lt}
use native.Mathlib.Omega.{arith}
use Rattle.refusals.specs.Refusals.{Accepted}
use Rattle.window.specs.declared.Kind.{Kind}
use Rattle.window.specs.declared.Kind.TheVariants.{Round, Run}
use Rattle.tape.specs.Words.{Bytes}
use Rattle.plan_tape.specs.Stated.{Listen, Stated, stated}
use Rattle.player.specs.declared.Receiver.{Receiver}
use Rattle.player.specs.declared.Receiver.TheVariants.{Idle, Listening}
use Rattle.player.specs.declared.State.{State}
use Rattle.player.specs.declared.Player.{Player}
use Rattle.player.specs.declared.Stepped.{Stepped}
use Rattle.player.specs.Told.{Tells}
use Rattle.player.specs.Played.{state_of, resting, stepped, Started}
use Rattle.player.specs.Follows.{after_steps, step_at, tick_of, Playing, Agrees, IsFinished, StartsPlayer}

-- a step of a player that says finished, tells that both receivers are idle, and gives the player as it was
pub record Rests (player : Player) (given : Stepped) : Type 0 where
  pub finished : given.state.finished ≡ true
  pub receiver_1 : given.state.receiver1 ≡ Idle
  pub receiver_2 : given.state.receiver2 ≡ Idle
  pub same : given.player ≡ player

is_rest : (player : Player) (given : Stepped) → given ≡ resting player → Rests player given
is_rest player given e =
    record {
      finished = ap (λ s. s.state.finished) e;
      receiver_1 = ap (λ s. s.state.receiver1) e;
      receiver_2 = ap (λ s. s.state.receiver2) e;
      same = ap (λ s. s.player) e;
    }

-- ---- which steps come before the end

playing_below : (kind : Kind) (R first n : ℕ) → first + n < R → Playing kind R first n
playing_below Round R first n l = tt
playing_below Run R first n l = l

playing? : (kind : Kind) (R first n : ℕ) → Dec (Playing kind R first n)
playing? Round R first n = yes tt
playing? Run R first n = dec_lt (first + n) R

-- ---- an accepted start

module _ {tape : List ℕ} {first : ℕ} {out : Started} (s : StartsPlayer tape first out)
    (accepted : out.refusal ≡ Accepted) where
  abbrev step : ℕ → Stepped
  step n = step_at tape out.player n

  -- in a round no step says finished
  pub round_plays : (stated tape).kind ≡ Round → (n : ℕ) → (step n).state.finished ≡ false
  round_plays k n = ((s.follows accepted).agrees n (rw k tt)).playing

  -- nor does one up to tick R − 1
  pub plays_below : (n : ℕ) → first + n < (stated tape).ticks → (step n).state.finished ≡ false
  plays_below n l =
      let playing = playing_below (stated tape).kind (stated tape).ticks first n l in
      ((s.follows accepted).agrees n playing).playing

  -- after tick R − 1 of a run each step rests
  pub run_rests : (stated tape).kind ≡ Run → (n : ℕ) → (stated tape).ticks ≤ first + n
      → Rests (after_steps tape out.player n) (step n)
  run_rests k n l =
      let over : Playing (stated tape).kind (stated tape).ticks first n → ⊥ =
      rw k (λ (below : first + n < (stated tape).ticks). omega (arith, below, l)) in
      is_rest (after_steps tape out.player n) (step n) ((s.follows accepted).finishes n over)

-- ---- a refused start

-- a finished player is the same after any number of steps, on any tape
pub finished_same : (player : Player) → IsFinished player → (tape : List ℕ) → Bytes tape → (n : ℕ)
    → after_steps tape player n ≡ player
unfolding after_steps
finished_same player f tape b zero = refl
finished_same player f tape b (suc n) =
    ap (λ p. (stepped tape p).player) (finished_same player f tape b n) ∙ ap (λ s. s.player) (f tape b)

-- so each step rests, on any tape
pub finished_rests : (player : Player) → IsFinished player → (tape : List ℕ) → Bytes tape → (n : ℕ)
    → Rests player (step_at tape player n)
finished_rests player f tape b n =
    is_rest player (step_at tape player n) (ap (stepped tape) (finished_same player f tape b n) ∙ f tape b)

pub refused_rests : {tape : List ℕ} {first : ℕ} {out : Started} → StartsPlayer tape first out
    → (out.refusal ≡ Accepted → ⊥) → (other : List ℕ) → Bytes other → (n : ℕ)
    → Rests out.player (step_at other out.player n)
refused_rests {out = out} s refused other b n = finished_rests out.player (s.finished refused) other b n

-- ---- what is told is determined

only_told : (kind : Kind) (R tick : ℕ) (listens : List Listen) (told told' : Receiver)
    → Tells kind R tick listens told → Tells kind R tick listens told' → told ≡ told'
only_told kind R tick listens Idle told' t t' = sym (t'.idle.1 (t.idle.0 refl))
only_told kind R tick listens (Listening row end) told' t t' =
    sym ((t'.listening row end).1 ((t.listening row end).0 refl))

-- states that agree with a tape at a tick are one
pub only_state : (s : Stated) (tick : ℕ) (a b : State) → Agrees s tick a → Agrees s tick b → a ≡ b
only_state s tick a b x y =
    let finished = x.playing ∙ sym y.playing in
    let first = only_told s.kind s.ticks tick s.first a.receiver1 b.receiver1 x.receiver_1 y.receiver_1 in
    let second = only_told s.kind s.ticks tick s.second a.receiver2 b.receiver2 x.receiver_2 y.receiver_2 in
    λ i. state_of (finished i) (first i) (second i)

-- WHATEVER STARTS AS PROMISED tells the same at every step, before the end and after it
pub only_steps : (tape : List ℕ) (first : ℕ) (out out' : Started)
    → StartsPlayer tape first out → StartsPlayer tape first out'
    → out.refusal ≡ Accepted → out'.refusal ≡ Accepted → (n : ℕ)
    → (step_at tape out.player n).state ≡ (step_at tape out'.player n).state
only_steps tape first out out' s s' a a' n = go (playing? (stated tape).kind (stated tape).ticks first n)
  where
    go : Dec (Playing (stated tape).kind (stated tape).ticks first n)
        → (step_at tape out.player n).state ≡ (step_at tape out'.player n).state
    go (yes p) =
        let tick = tick_of (stated tape).kind (stated tape).ticks first n in
        only_state (stated tape) tick (step_at tape out.player n).state (step_at tape out'.player n).state
        ((s.follows a).agrees n p) ((s'.follows a').agrees n p)
    go (no d) = ap (λ x. x.state) ((s.follows a).finishes n d) ∙ sym (ap (λ x. x.state) ((s'.follows a').finishes n d))
