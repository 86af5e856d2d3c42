-- Worked examples: a tape of three LISTENs played over the end of the day, a run to its end and beyond, a beacon that
-- sends all day, and refused starts; and the same of whatever starts as promised.
use Rattle.refusals.specs.Refusals.{Accepted, Tape, FirstTick}
use Prim.Native.Nat.{ℕ, zero, suc, ◌≤◌}
use mathlib.Core.Path.{◌≡◌, refl, ap, ◌∙◌}
use mathlib.Core.Bool.{Bool, true, false, ◌&&◌, and-eq-true_iff}
use mathlib.Core.List.{List, [], ◌∷◌, ◌++◌}
use native.Mathlib.Omega.{arith}
use borrow.Author.Tests.{ltb-true}
use lib.Dec.{ltb}
use Rattle.refusals.specs.Refusals.{number_of, Outcome}
use Rattle.tape.specs.Words.{Bytes}
use Rattle.plan_tape.specs.Stated.{stated}
use Rattle.plan_tape.proofs.Sample.{session_tape}
use Rattle.player.specs.declared.Receiver.{Receiver}
use Rattle.player.specs.declared.Receiver.TheVariants.{Idle, Listening}
use Rattle.player.specs.declared.Stepped.{Stepped}
use Rattle.player.specs.Played.{player_at, state_of, stepped_to, stepped, starting, Started, started}
use Rattle.player.specs.Follows.{after_steps, step_at, StartsPlayer}
use Rattle.player.proofs.Starting.{starts_player, only_refusal}
use Rattle.player.proofs.Promised.{Rests, run_rests, refused_rests, only_steps}

-- a step that tells this and goes to a tick
abbrev told : Receiver → Receiver → ℕ → Stepped
told receiver1 receiver2 tick = stepped_to (state_of false receiver1 receiver2) (player_at tick)

-- a window over the end of the day is told on both sides of tick 0, until its end, and at its end tick the one that
-- begins there
pub played :
    (started session_tape 98 ≡ starting Accepted (player_at 98))
    × (step_at session_tape (player_at 98) 0 ≡ told (Listening 3 10) Idle 99)
    × (step_at session_tape (player_at 98) 1 ≡ told (Listening 3 10) Idle 0)
    × (step_at session_tape (player_at 98) 2 ≡ told (Listening 3 10) Idle 1)
    × (step_at session_tape (player_at 9) 0 ≡ told (Listening 3 10) Idle 10)
    × (step_at session_tape (player_at 9) 1 ≡ told (Listening 0 30) Idle 11)
    × (step_at session_tape (player_at 29) 0 ≡ told (Listening 0 30) (Listening 1 40) 30)
    × (step_at session_tape (player_at 29) 1 ≡ told Idle (Listening 1 40) 31)
    × (step_at session_tape (player_at 39) 1 ≡ told Idle Idle 41)
unfolding started after_steps
played = (refl, refl, refl, refl, refl, refl, refl, refl, refl)

-- a run of 4 ticks in which receiver 2 hears row 7 from 2 to 4: the step at tick 3 still tells, and the following
-- ones say finished
abbrev run : List ℕ
run = 0x11 ∷ 0x00 ∷ 0x04 ∷ 0x20 ∷ 0x01 ∷ 0x20 ∷ 0x02 ∷ 0x30 ∷ 0x07 ∷ 0x00 ∷ 0x02 ∷ 0x00 ∷ 0x04 ∷ 0x7F ∷ []

abbrev over : ℕ → Stepped
over tick = stepped_to (state_of true Idle Idle) (player_at tick)

pub ended :
    (started run 1 ≡ starting Accepted (player_at 1))
    × (step_at run (player_at 1) 0 ≡ told Idle Idle 2)
    × (step_at run (player_at 1) 2 ≡ told Idle (Listening 7 4) 4)
    × (step_at run (player_at 1) 3 ≡ over 4)
    × (step_at run (player_at 1) 4 ≡ over 4)
unfolding started after_steps
ended = (refl, refl, refl, refl, refl)

-- a round of 4 ticks in which receiver 1 hears row 5 from 2 to 2 and receiver 2 row 0 from 1 to 2: for two days row 5
-- is told at every tick until 2, at 2 itself and at the tick before it too
abbrev all_day : ℕ → List ℕ
all_day kind =
    kind ∷ 0x00 ∷ 0x04
    ∷ 0x20 ∷ 0x01
    ∷ 0x30 ∷ 0x05 ∷ 0x00 ∷ 0x02 ∷ 0x00 ∷ 0x02
    ∷ 0x20 ∷ 0x02
    ∷ 0x30 ∷ 0x00 ∷ 0x00 ∷ 0x01 ∷ 0x00 ∷ 0x02
    ∷ 0x7F
    ∷ []

pub all_days :
    (started (all_day 0x10) 1 ≡ starting Accepted (player_at 1))
    × (step_at (all_day 0x10) (player_at 1) 0 ≡ told (Listening 5 2) (Listening 0 2) 2)
    × (step_at (all_day 0x10) (player_at 1) 1 ≡ told (Listening 5 2) Idle 3)
    × (step_at (all_day 0x10) (player_at 1) 2 ≡ told (Listening 5 2) Idle 0)
    × (step_at (all_day 0x10) (player_at 1) 3 ≡ told (Listening 5 2) Idle 1)
    × (step_at (all_day 0x10) (player_at 1) 4 ≡ told (Listening 5 2) (Listening 0 2) 2)
    × (step_at (all_day 0x10) (player_at 1) 5 ≡ told (Listening 5 2) Idle 3)
    × (step_at (all_day 0x10) (player_at 1) 6 ≡ told (Listening 5 2) Idle 0)
    × (step_at (all_day 0x10) (player_at 1) 7 ≡ told (Listening 5 2) Idle 1)
    × (started (all_day 0x11) 1 ≡ starting Tape (player_at 65535))
unfolding started after_steps
all_days = (refl, refl, refl, refl, refl, refl, refl, refl, refl, refl)

-- refusal 12, a tape that the writer never makes, comes before 13, a first tick not below R; the player beside either
-- is finished
pub refused :
    (started session_tape 99 ≡ starting Accepted (player_at 99))
    × (started session_tape 100 ≡ starting FirstTick (player_at 65535))
    × (started [] 100 ≡ starting Tape (player_at 65535))
    × (started (session_tape ++ (0x00 ∷ [])) 100 ≡ starting Tape (player_at 65535))
    × (stepped session_tape (player_at 65535) ≡ over 65535)
unfolding started stepped
refused = (refl, refl, refl, refl, refl)

-- ---- the same of whatever starts as promised

is_bytes : List ℕ → Bool
is_bytes [] = true
is_bytes (x ∷ xs) = ltb x 256 && is_bytes xs

bytes : (s : List ℕ) → is_bytes s ≡ true → Bytes s
unfolding is_bytes
bytes [] e i = omega arith
bytes (x ∷ xs) e zero = ltb-true x 256 ((and-eq-true_iff (ltb x 256) (is_bytes xs)).0 e).0
bytes (x ∷ xs) e (suc i) = bytes xs ((and-eq-true_iff (ltb x 256) (is_bytes xs)).0 e).1 i

not_accepted : {r : Outcome} (n : ℕ) → number_of r ≡ suc n → r ≡ Accepted → ⊥
not_accepted n e a = omega (arith, e, ap number_of a)

module _ (tape : List ℕ) (is : is_bytes tape ≡ true) (first : ℕ) (out : Started) (s : StartsPlayer tape first out) where
  refusal_is : out.refusal ≡ (started tape first).refusal
  refusal_is = only_refusal tape (bytes tape is) first out s

  tells : (started tape first).refusal ≡ Accepted → (n : ℕ)
      → (step_at tape out.player n).state ≡ (step_at tape (started tape first).player n).state
  tells a n =
      only_steps tape first out (started tape first) s (starts_player tape (bytes tape is) first) (refusal_is ∙ a) a n

  rests : (n : ℕ) → number_of (started tape first).refusal ≡ suc n
      → (other : List ℕ) → is_bytes other ≡ true → (m : ℕ) → Rests out.player (step_at other out.player m)
  rests n e other b m = refused_rests s (not_accepted n (ap number_of refusal_is ∙ e)) other (bytes other b) m

-- in the session at 98, over the end of the day
pub promised_98 : (out : Started) → StartsPlayer session_tape 98 out
    → (out.refusal ≡ Accepted)
    × ((step_at session_tape out.player 0).state ≡ state_of false (Listening 3 10) Idle)
    × ((step_at session_tape out.player 2).state ≡ state_of false (Listening 3 10) Idle)
unfolding started after_steps is_bytes
promised_98 out s =
    let told = tells session_tape refl 98 out s refl in
    (refusal_is session_tape refl 98 out s, told 0, told 2)

-- in the session at 29, the last tick of row 0
pub promised_29 : (out : Started) → StartsPlayer session_tape 29 out
    → (out.refusal ≡ Accepted)
    × ((step_at session_tape out.player 0).state ≡ state_of false (Listening 0 30) (Listening 1 40))
    × ((step_at session_tape out.player 1).state ≡ state_of false Idle (Listening 1 40))
unfolding started after_steps is_bytes
promised_29 out s =
    let told = tells session_tape refl 29 out s refl in
    (refusal_is session_tape refl 29 out s, told 0, told 1)

-- in the run at 1: at tick 3 it tells, and from then on it rests
pub promised_run : (out : Started) → StartsPlayer run 1 out
    → (out.refusal ≡ Accepted)
    × ((step_at run out.player 0).state ≡ state_of false Idle Idle)
    × ((step_at run out.player 2).state ≡ state_of false Idle (Listening 7 4))
    × ((n : ℕ) → 3 ≤ n → Rests (after_steps run out.player n) (step_at run out.player n))
unfolding started after_steps stated is_bytes
promised_run out s =
    let accepted : out.refusal ≡ Accepted = refusal_is run refl 1 out s in
    let told = tells run refl 1 out s refl in
    (accepted, told 0, told 2, λ n l. run_rests s accepted refl n (omega (arith, l)))

-- a first tick that is not below R: refused with 13, and the player rests on every tape
pub promised_13 : (out : Started) → StartsPlayer session_tape 100 out
    → (out.refusal ≡ FirstTick)
    × ((n : ℕ) → Rests out.player (step_at session_tape out.player n))
    × ((n : ℕ) → Rests out.player (step_at run out.player n))
unfolding started is_bytes
promised_13 out s =
    let rest = rests session_tape refl 100 out s 12 refl in
    (refusal_is session_tape refl 100 out s, rest session_tape refl, rest run refl)

-- a byte after STOP, and such a first tick as well: refused with 12, and the player rests on every tape
pub promised_12 : (out : Started) → StartsPlayer (session_tape ++ (0x00 ∷ [])) 100 out
    → (out.refusal ≡ Tape)
    × ((n : ℕ) → Rests out.player (step_at session_tape out.player n))
    × ((n : ℕ) → Rests out.player (step_at run out.player n))
unfolding started is_bytes
promised_12 out s =
    let tape = session_tape ++ (0x00 ∷ []) in
    let rest = rests tape refl 100 out s 11 refl in
    (refusal_is tape refl 100 out s, rest session_tape refl, rest run refl)
