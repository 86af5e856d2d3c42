-- From a plan to the receivers: a player on the tape that the writer writes for a plan tells at each step which row
-- of the plan its receiver hears, and until which tick. No reading of a tape stands in this statement.
use Prim.Native.Nat.{ℕ, ◌<◌}
use mathlib.Core.Path.{◌≡◌, refl, sym, ◌∙◌, subst}
use mathlib.Core.Logic.{◌↔◌}
use mathlib.Core.List.{List, Memᴰ}
use Rattle.basics.specs.Lists.{at}
use Rattle.window.specs.Windows.{Covers}
use Rattle.table.specs.Tables.{Table}
use Rattle.plan_tape.specs.Stated.{Listen, listen_of, Stated, stated}
use Rattle.plan_tape.specs.Written.{tape_of}
use Rattle.plan_tape.proofs.Reading.{Heard, States, tape_states}
use Rattle.plan_tape.proofs.Same.{accepted_tape}
use Rattle.plan_reader.specs.Taken.{WriterMakes}
use Rattle.plan_reader.proofs.Parts.{plan_tape_iff}
use Rattle.plan_reader.proofs.Made.{made_taken}
use Rattle.player.specs.declared.Receiver.{Receiver}
use Rattle.player.specs.declared.Receiver.TheVariants.{Idle, Listening}
use Rattle.player.specs.declared.State.{State}
use Rattle.player.specs.Told.{Tells}
use Rattle.player.specs.Played.{player_at}
use Rattle.player.specs.Follows.{step_at, tick_of, Playing, Agrees}
use Rattle.player.proofs.Following.{follows}

-- what is told of a receiver is what the plan has for it: the row with this label whose window covers the tick, until
-- the row's end
pub record TellsPlan (t : Table) (labels : List ℕ) (receiver tick : ℕ) (told : Receiver) : Type 0 where
  pub listening : (row end : ℕ)
      → (told ≡ Listening row end)
      ↔ ((at labels row ≡ receiver) × (end ≡ at t.ends row) × Covers t.setting.kind t.setting.ticks (at t.starts row) (at t.ends row) tick)
  pub idle : (told ≡ Idle)
      ↔ ((row : ℕ) → at labels row ≡ receiver → Covers t.setting.kind t.setting.ticks (at t.starts row) (at t.ends row) tick → ⊥)

module _ (t : Table) (labels : List ℕ) (receiver tick : ℕ) (listens : List Listen) {told : Receiver}
    (heard : (w : Listen) → Memᴰ w listens ↔ Heard t.starts t.ends labels receiver w)
    (tells : Tells t.setting.kind t.setting.ticks tick listens told) where
  tells_plan : TellsPlan t labels receiver tick told
  tells_plan =
      record {
        listening = λ row end. (
          λ e.
              let x = (tells.listening row end).0 e in
              let m = (heard (listen_of row x.0 end)).0 x.1 in
              (m.0, m.2, rw (← m.1, ← m.2) x.2),
          λ y. (tells.listening row end).1
              (at t.starts row, (heard (listen_of row (at t.starts row) end)).1 (y.0, refl, y.1), rw y.1 y.2),
        );
        idle = (
          λ e row l x. tells.idle.0 e (listen_of row (at t.starts row) (at t.ends row)) ((heard (listen_of row (at t.starts row) (at t.ends row))).1 (l, refl, refl)) x,
          λ none. tells.idle.1 (λ w m x. let h = (heard w).0 m in none w.row h.0 (rw (← h.1, ← h.2) x)),
        );
      }

module _ (t : Table) (labels : List ℕ) (s : Stated) (states : States t.setting.kind t.setting.ticks t.starts t.ends labels s) (tick : ℕ) {state : State} (a : Agrees s tick state) where
  abbrev Both : Type 0
  Both = TellsPlan t labels 1 tick state.receiver1 × TellsPlan t labels 2 tick state.receiver2

  agreed : Both
  agreed = (
    tells_plan t labels 1 tick s.first states.first_stated (rw (states.kind_stated, states.ticks_stated) at a.receiver_1),
    tells_plan t labels 2 tick s.second states.second_stated (rw (states.kind_stated, states.ticks_stated) at a.receiver_2),
  )

-- both receivers, at each step until finished
pub plays_plan : {tape : List ℕ} (m : WriterMakes tape) (first n : ℕ)
    → first < m.table.setting.ticks
    → Playing m.table.setting.kind m.table.setting.ticks first n
    → TellsPlan m.table m.labels 1 (tick_of m.table.setting.kind m.table.setting.ticks first n) (step_at tape (player_at first) n).state.receiver1
    × TellsPlan m.table m.labels 2 (tick_of m.table.setting.kind m.table.setting.ticks first n) (step_at tape (player_at first) n).state.receiver2
unfolding tape_of
plays_plan {tape} m first n below p =
    let t = m.table in
    let tape_is : tape_of t m.labels ≡ tape = sym (accepted_tape t m.labels m.buffer m.accepted).1 ∙ m.bytes in
    let states : States t.setting.kind t.setting.ticks t.starts t.ends m.labels (stated tape) =
    rw tape_is at (tape_states t.starts t.ends m.labels t.setting.kind t.setting.ticks) in
    let taken = rw m.bytes at (made_taken t m.labels m.buffer m.accepted) in
    let followed = follows tape ((plan_tape_iff tape).0 taken).1 first (rw states.ticks_stated below) in
    let a = followed.agrees n (rw (states.kind_stated, states.ticks_stated) p) in
    let same : tick_of (stated tape).kind (stated tape).ticks first n ≡ tick_of t.setting.kind t.setting.ticks first n = λ i. tick_of (states.kind_stated i) (states.ticks_stated i) first n in
    agreed t m.labels (stated tape) states (tick_of t.setting.kind t.setting.ticks first n)
    (subst (λ (tick : ℕ). Agrees (stated tape) tick (step_at tape (player_at first) n).state) same a)
