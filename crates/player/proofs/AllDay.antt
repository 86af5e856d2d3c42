-- A receiver that hears a beacon which sends all day listens to it at every step, that at the end itself included; as
-- the tick until which it listens the player tells the window's end.
use Prim.Native.Nat.{ℕ, ◌+◌, ◌<◌}
use mathlib.Core.Path.{◌≡◌, refl}
use mathlib.Core.List.{List}
use native.Mathlib.Nat.{mod-lt}
use native.Mathlib.Omega.{arith}
use Rattle.basics.specs.Lists.{at}
use Rattle.window.specs.Windows.{Covers}
use Rattle.window.proofs.AllDay.{all_day_covers}
use Rattle.table.specs.Tables.{Table, Valid}
use Rattle.table.proofs.AllDay.{AllDay}
use Rattle.plan_tape.proofs.Same.{accepted_tape}
use Rattle.plan_reader.specs.Taken.{WriterMakes}
use Rattle.player.specs.declared.Receiver.{Receiver}
use Rattle.player.specs.declared.Receiver.TheVariants.{Listening}
use Rattle.player.specs.Played.{player_at}
use Rattle.player.specs.Follows.{step_at, tick_of}
use Rattle.player.proofs.Plan.{TellsPlan, plays_plan}

-- what is told of the receiver that hears such a row, at any tick
told_all_day : (t : Table) (labels : List ℕ) (receiver tick row : ℕ) {told : Receiver} → Valid t → AllDay t row → tick < t.setting.ticks
    → at labels row ≡ receiver → TellsPlan t labels receiver tick told → told ≡ Listening row (at t.ends row)
told_all_day t labels receiver tick row valid a below l tells =
    let start = at t.starts row in
    let covers : Covers t.setting.kind t.setting.ticks start (at t.ends row) tick =
    rw (a.round, ← a.same) (all_day_covers t.setting.ticks start (rw a.round at (valid.row row a.below).window).0 tick below) in
    (tells.listening row (at t.ends row)).1 (l, refl, covers)

module _ {tape : List ℕ} (m : WriterMakes tape) (first n row : ℕ) (below : first < m.table.setting.ticks) (a : AllDay m.table row) where
  -- both receivers, at each step: the last tick of a day, the first of the next and the window's end are no exceptions
  pub plays_all_day :
      (at m.labels row ≡ 1 → (step_at tape (player_at first) n).state.receiver1 ≡ Listening row (at m.table.ends row))
      × (at m.labels row ≡ 2 → (step_at tape (player_at first) n).state.receiver2 ≡ Listening row (at m.table.ends row))
  plays_all_day =
      let t = m.table in
      let valid = (accepted_tape t m.labels m.buffer m.accepted).0.valid in
      let tick = tick_of t.setting.kind t.setting.ticks first n in
      let inside : tick < t.setting.ticks = rw a.round (mod-lt (first + n) (omega (arith, below))) in
      let told = plays_plan m first n below (rw a.round tt) in (
        λ l. told_all_day t m.labels 1 tick row valid a inside l told.0,
        λ l. told_all_day t m.labels 2 tick row valid a inside l told.1,
      )
