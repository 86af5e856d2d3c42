-- Believed: What a start of a player promises: which tapes and first ticks it accepts, that an accepted player
-- follows its tape at every step, and that the player which stands for a refused start is finished (docs/RULES.md,
-- Player).
use Rattle.refusals.specs.Refusals.{Accepted, Tape, FirstTick}
use Rattle.std.specs.Prelude.{ℕ, zero, suc, ◌+◌, ◌%◌, ◌≤◌, ◌<◌, ◌≡◌, ◌↔◌, false, List}
use Rattle.window.specs.declared.Kind.{Kind}
use Rattle.window.specs.declared.Kind.TheVariants.{Round, Run}
use Rattle.tape.specs.Words.{Bytes}
use Rattle.plan_tape.specs.Stated.{Stated, ticks_at, stated}
use Rattle.plan_reader.specs.Taken.{WriterMakes}
use Rattle.player.specs.declared.State.{State}
use Rattle.player.specs.declared.Player.{Player}
use Rattle.player.specs.declared.Stepped.{Stepped}
use Rattle.player.specs.Told.{Tells}
use Rattle.player.specs.Played.{resting, stepped, Started}

-- the player after n steps on the tape
unfoldable pub after_steps : List ℕ → Player → ℕ → Player
unfolding stepped
after_steps tape player zero = player
after_steps tape player (suc n) = (stepped tape (after_steps tape player n)).player

-- what step n gives, counted from 0
abbrev pub step_at : List ℕ → Player → ℕ → Stepped
step_at tape player n = stepped tape (after_steps tape player n)

-- the tick of step n: the first step is at the first tick, each further one at the next; after R − 1 a round is at 0
-- again
abbrev pub tick_of : Kind → ℕ → ℕ → ℕ → ℕ
tick_of Round R first n = (first + n) % R
tick_of Run R first n = first + n

-- step n comes before the end: a run ends after tick R − 1, and a round never
abbrev pub Playing : Kind → ℕ → ℕ → ℕ → Type 0
Playing Round R first n = Unit {0}
Playing Run R first n = first + n < R

-- a state agrees with what a tape states at a tick, for both receivers
pub record Agrees (s : Stated) (tick : ℕ) (state : State) : Type 0 where
  pub playing : state.finished ≡ false
  pub receiver_1 : Tells s.kind s.ticks tick s.first state.receiver1
  pub receiver_2 : Tells s.kind s.ticks tick s.second state.receiver2

-- the steps of a player that starts at tick `first`, all of them
pub record Follows (tape : List ℕ) (first : ℕ) (player : Player) : Type 0 where
  pub agrees : (n : ℕ) → Playing (stated tape).kind (stated tape).ticks first n
      → Agrees (stated tape) (tick_of (stated tape).kind (stated tape).ticks first n) (step_at tape player n).state
  -- after the end a step says finished and leaves the player as it is
  pub finishes : (n : ℕ) → (Playing (stated tape).kind (stated tape).ticks first n → ⊥)
      → step_at tape player n ≡ resting (after_steps tape player n)

-- a player that is finished on every tape: a step says so, tells that both receivers are idle, and leaves it as it is
abbrev pub IsFinished : Player → Type 0
IsFinished player = (tape : List ℕ) → Bytes tape → stepped tape player ≡ resting player

-- What a start promises that gives this refusal and this player.
pub record StartsPlayer (tape : List ℕ) (first : ℕ) (out : Started) : Type 0 where
  -- refusal 12 comes first: the writer makes no such tape
  pub tape_refused : (out.refusal ≡ Tape) ↔ (WriterMakes tape → ⊥)
  -- then refusal 13: the first tick is not below R
  pub tick_refused : (out.refusal ≡ FirstTick) ↔ (WriterMakes tape × (ticks_at tape ≤ first))
  pub accepted : (out.refusal ≡ Accepted) ↔ (WriterMakes tape × (first < ticks_at tape))
  pub follows : out.refusal ≡ Accepted → Follows tape first out.player
  -- the player beside a refusal is finished, whatever tape it is stepped on
  pub finished : (out.refusal ≡ Accepted → ⊥) → IsFinished out.player
