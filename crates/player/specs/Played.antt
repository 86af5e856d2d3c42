-- Believed: The right answers of the player's start and step, whole, on every tape, first tick and player.
use Rattle.std.specs.Prelude.{ℕ, Bool, true, false, cond, List, ltb, Result, Ok, Err}
use Rattle.window.specs.Windows.{next}
use Rattle.refusals.specs.declared.Refusal.{Refusal}
use Rattle.refusals.specs.Refusals.{asked, passes, ◌then◌, Accepted, Tape, FirstTick, Outcome}
use Rattle.plan_tape.specs.Stated.{Stated, ticks_at, stated}
use Rattle.plan_reader.specs.Judged.{is_plan_tape}
use Rattle.player.specs.declared.Receiver.{Receiver}
use Rattle.player.specs.declared.Receiver.TheVariants.{Idle}
use Rattle.player.specs.declared.State.{State}
use Rattle.player.specs.declared.Player.{Player}
use Rattle.player.specs.declared.Stepped.{Stepped}
use Rattle.player.specs.Told.{telling}

abbrev pub player_at : ℕ → Player
player_at tick = record { tick = tick }

abbrev pub state_of : Bool → Receiver → Receiver → State
state_of finished receiver1 receiver2 = record { finished = finished; receiver1 = receiver1; receiver2 = receiver2 }

abbrev pub stepped_to : State → Player → Stepped
stepped_to state player = record { state = state; player = player }

-- ---- a step

-- what is told at a tick below R
unfoldable pub told_at : Stated → ℕ → State
unfolding telling
told_at s tick =
    state_of false (telling s.kind s.ticks tick Idle s.first) (telling s.kind s.ticks tick Idle s.second)

-- a step tells this for its tick, and the player moves on to the next
unfoldable pub moving : Stated → ℕ → Stepped
unfolding told_at
moving s tick = stepped_to (told_at s tick) (player_at (next s.kind s.ticks tick))

-- a step of a finished player says finished, tells that both receivers are idle, and leaves the player as it is
abbrev pub resting : Player → Stepped
resting player = stepped_to (state_of true Idle Idle) player

-- a player is finished on a tape where its tick is not below R
unfoldable pub stepped : List ℕ → Player → Stepped
unfolding stated moving
stepped tape player = cond (ltb player.tick (stated tape).ticks) (moving (stated tape) player.tick) (resting player)

-- ---- a start

-- refusal 12, a tape that the writer never makes; then 13, a first tick not below R
unfoldable pub start_refusal : List ℕ → ℕ → Outcome
unfolding is_plan_tape ticks_at
start_refusal tape first = asked (is_plan_tape tape) Tape then asked (ltb first (ticks_at tape)) FirstTick

-- the tick of a player that is finished on every tape: R has 16 bits, so it is below no R
abbrev pub finished_tick : ℕ
finished_tick = 65535

-- a start as a whole: whether it is accepted, and a player; of a refused start the finished one
pub record Started : Type 0 where
  pub refusal : Outcome
  pub player : Player

abbrev pub starting : Outcome → Player → Started
starting refusal player = record { refusal = refusal; player = player }

unfoldable pub started : List ℕ → ℕ → Started
unfolding start_refusal
started tape first =
    cond (passes (start_refusal tape first)) (starting Accepted (player_at first))
    (starting (start_refusal tape first) (player_at finished_tick))

-- A Result as such a whole. An `Err` has no player: the finished one is put beside the refusal here. It is what
-- `Player::finished` gives, and what C is handed with a refusal (crate `hub_c`).
abbrev pub started_of : Result Player Refusal → Started
started_of (Ok player) = starting Accepted player
started_of (Err r) = starting (Err r) (player_at finished_tick)
