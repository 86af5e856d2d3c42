-- Believed: How an answer, a report, the receivers' open hours, a player and what it tells, a held table, what
-- candidates are answered, and words of bits are handed over to C: by numbers alone. proofs/Bench.antt has a worked
-- example of each.
use Rattle.std.specs.Prelude.{Bool, true, false, ℕ, List}
use Rattle.window.specs.declared.Kind.{Kind}
use Rattle.window.specs.declared.Kind.TheVariants.{Round, Run}
use Rattle.refusals.specs.Refusals.{number_of, Answer}
use Rattle.table.specs.declared.Looked.{Looked}
use Rattle.table.specs.Planned.{PlanCalled}
use Rattle.plan_tape.specs.Written.{Written}
use Rattle.window.specs.Hours.{hour}
use Rattle.fleet_tape.specs.Reading.{Report, Reading}
use Rattle.player.specs.declared.Receiver.{Receiver}
use Rattle.player.specs.declared.Receiver.TheVariants.{Idle, Listening}
use Rattle.player.specs.declared.Player.{Player}
use Rattle.player.specs.Played.{Started}
use Rattle.player.specs.declared.Stepped.{Stepped}
use Rattle.held_table.specs.declared.Numbers.{Numbers}
use Rattle.held_table.specs.Held.{Begun, HeldCall}
use Rattle.candidates.specs.Tried.{CandidatesCalled}
use Rattle.bit_words.specs.Words.{LabelWords, MustWord, LabelsCalled}
use Rattle.bit_words.specs.Clashes.{ClashCalled}
use Rattle.hub_c.specs.declared.HubAnswer.{HubAnswer}
use Rattle.hub_c.specs.declared.HubPlayer.{HubPlayer}
use Rattle.hub_c.specs.declared.HubStarted.{HubStarted}
use Rattle.hub_c.specs.declared.HubReceiver.{HubReceiver}
use Rattle.hub_c.specs.declared.HubStepped.{HubStepped}
use Rattle.hub_c.specs.declared.HubReport.{HubReport}
use Rattle.hub_c.specs.declared.HubHeldNumbers.{HubHeldNumbers}
use Rattle.hub_c.specs.declared.HubHeldBegun.{HubHeldBegun}
use Rattle.hub_c.specs.declared.HubHeldChange.{HubHeldChange}
use Rattle.hub_c.specs.declared.HubTried.{HubTried}
use Rattle.hub_c.specs.declared.words.HubLabelWords.{HubLabelWords}
use Rattle.hub_c.specs.declared.words.HubMustWord.{HubMustWord}

-- the refusal by its number, 0 for accepted, and the count
abbrev pub handed : Answer → HubAnswer
handed answer = record { refusal = number_of answer.refusal; count = answer.count }

abbrev pub is_run : Kind → Bool
is_run Round = false
is_run Run = true

-- what the fleet tape reader reports, the hours one by one
abbrev pub handed_report : Report → HubReport
handed_report report =
    record {
      refusal = number_of report.refusal;
      run = is_run report.kind;
      ticks = report.ticks;
      p1 = hour report.hours 0 0;
      q1 = hour report.hours 0 1;
      p2 = hour report.hours 1 0;
      q2 = hour report.hours 1 1;
      rows = report.rows;
    }

-- what a call of the planner gives to C
pub record HubPlanned : Type 0 where
  pub answer : HubAnswer
  pub labels : List ℕ
  pub space : List ℕ

abbrev pub plan_gave : HubAnswer → List ℕ → List ℕ → HubPlanned
plan_gave answer labels space = record { answer = answer; labels = labels; space = space }

abbrev pub handed_plan : PlanCalled → HubPlanned
handed_plan p = plan_gave (handed p.answer) p.labels p.space

-- and a call of the plan tape writer
pub record HubWritten : Type 0 where
  pub answer : HubAnswer
  pub buffer : List ℕ

abbrev pub tape_gave : HubAnswer → List ℕ → HubWritten
tape_gave answer buffer = record { answer = answer; buffer = buffer }

abbrev pub handed_tape : Written → HubWritten
handed_tape w = tape_gave (handed w.answer) w.buffer

-- and a call of the fleet tape reader
pub record HubRead : Type 0 where
  pub report : HubReport
  pub starts : List ℕ
  pub ends : List ℕ
  pub marks : List ℕ

abbrev pub read_gave : HubReport → List ℕ → List ℕ → List ℕ → HubRead
read_gave report starts ends marks = record { report = report; starts = starts; ends = ends; marks = marks }

abbrev pub handed_read : Reading → HubRead
handed_read r = read_gave (handed_report r.report) r.starts r.ends r.marks

-- ---- the player

abbrev pub handed_player : Player → HubPlayer
handed_player player = record { tick = player.tick }

abbrev pub handed_started : Started → HubStarted
handed_started s = record { refusal = number_of s.refusal; player = handed_player s.player }

-- idle, or listening to a row until a tick
abbrev pub handed_receiver : Receiver → HubReceiver
handed_receiver Idle = record { listening = false; row = 0; until = 0 }
handed_receiver (Listening row end) = record { listening = true; row = row; until = end }

abbrev pub handed_stepped : Stepped → HubStepped
handed_stepped s =
    record {
      finished = s.state.finished;
      receiver1 = handed_receiver s.state.receiver1;
      receiver2 = handed_receiver s.state.receiver2;
      player = handed_player s.player;
    }

-- ---- a held table

abbrev pub handed_numbers : Numbers → HubHeldNumbers
handed_numbers n = record { ticks = n.ticks; gap = n.gap; rows = n.rows; count = n.count }

-- as C hands them in
abbrev pub numbers_from : HubHeldNumbers → Numbers
numbers_from n = record { ticks = n.ticks; gap = n.gap; rows = n.rows; count = n.count }

abbrev pub handed_begun : Begun → HubHeldBegun
handed_begun b = record { refusal = number_of b.refusal; numbers = handed_numbers b.numbers }

-- what a change of a held table gives to C
pub record HubHeldCall : Type 0 where
  pub change : HubHeldChange
  pub starts : List ℕ
  pub ends : List ℕ
  pub marks : List ℕ
  pub labels : List ℕ
  pub space : List ℕ

abbrev pub held_gave : HubHeldChange → List ℕ → List ℕ → List ℕ → List ℕ → List ℕ → HubHeldCall
held_gave change starts ends marks labels space = record { change = change; starts = starts; ends = ends; marks = marks; labels = labels; space = space }

abbrev pub handed_change : Answer → Numbers → HubHeldChange
handed_change a n = record { refusal = number_of a.refusal; count = a.count; numbers = handed_numbers n }

abbrev pub handed_held : HeldCall → HubHeldCall
handed_held c =
    held_gave (handed_change c.answer c.held.numbers) c.held.starts c.held.ends c.held.marks c.held.labels c.space

-- ---- candidates

-- the refusal by its number, and how many rows were looked at
abbrev pub handed_looked : Looked → HubTried
handed_looked l = record { refusal = number_of l.refusal; rows = l.rows }

-- what trying candidates gives to C
pub record HubCandidates : Type 0 where
  pub reports : HubTried
  pub numbers : List ℕ
  pub counts : List ℕ
  pub space : List ℕ

abbrev pub tried_gave : HubTried → List ℕ → List ℕ → List ℕ → HubCandidates
tried_gave reports numbers counts space = record { reports = reports; numbers = numbers; counts = counts; space = space }

abbrev pub handed_tried : CandidatesCalled → HubCandidates
handed_tried c = tried_gave (handed_looked c.reports) c.numbers c.counts c.space

-- ---- words of bits

-- the refusal by its number, the number heard, and the heard and the receiver word
abbrev pub handed_words : LabelWords → HubLabelWords
handed_words w = record { refusal = number_of w.refusal; count = w.count; heard = w.heard; receiver = w.receiver }

abbrev pub handed_must : MustWord → HubMustWord
handed_must m = record { refusal = number_of m.refusal; word = m.word }

-- what a call that makes labels of words gives to C
pub record HubLabels : Type 0 where
  pub answer : HubAnswer
  pub labels : List ℕ

abbrev pub labels_gave : HubAnswer → List ℕ → HubLabels
labels_gave answer labels = record { answer = answer; labels = labels }

abbrev pub handed_labels : LabelsCalled → HubLabels
handed_labels l = labels_gave (handed l.answer) l.labels

-- and a call that makes clash words
pub record HubClashes : Type 0 where
  pub refusal : ℕ
  pub words : List ℕ

abbrev pub clash_gave : ℕ → List ℕ → HubClashes
clash_gave refusal words = record { refusal = refusal; words = words }

abbrev pub handed_clash : ClashCalled → HubClashes
handed_clash c = clash_gave (number_of c.refusal) c.words
