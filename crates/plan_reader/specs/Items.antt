-- Believed: What stands first on what is left of a plan tape: a command with its operands, and the bytes after it;
-- and what the reader gives at its position and where it stands then (docs/RULES.md, Plan tapes).
use Rattle.std.specs.Prelude.{ℕ, ◌+◌, ◌≡◌, true, false, Option, Some, None, cond, List, [], ◌∷◌, get_or, drop}
use Rattle.window.specs.declared.Kind.{Kind}
use Rattle.window.specs.declared.Kind.TheVariants.{Round, Run}
use Rattle.tape.specs.Commands.{ROUND, RUN, RECEIVER, LISTEN, STOP, operand_bytes, begins, after}
use Rattle.tape.specs.Words.{word_at}
use Rattle.plan_tape.specs.Stated.{Listen, listen_of, listens_in, after_listens}
use Rattle.plan_reader.specs.declared.Head.{Head as Begin}
use Rattle.plan_reader.specs.declared.Listen.{Listen as Read}
use Rattle.plan_reader.specs.declared.PlanReader.{PlanReader}
use Rattle.plan_reader.specs.declared.Item.{Item}
use Rattle.plan_reader.specs.declared.Item.TheVariants as item

abbrev pub head_of : Kind → ℕ → Begin
head_of kind ticks = record { kind = kind; ticks = ticks }

abbrev pub read_of : ℕ → ℕ → ℕ → Read
read_of row start end = record { row = row; window = record { start = start; end = end } }

-- what a LISTEN that is read states
abbrev pub stated_listen : Read → Listen
stated_listen w = listen_of w.row w.window.start w.window.end

-- the row in a byte, and start and end in 16 bits each
abbrev pub listen_at : List ℕ → Read
listen_at s = read_of (get_or s 1 0) (word_at s 2) (word_at s 4)

-- the receiver's number in a byte
abbrev pub receiver_at : List ℕ → Item
receiver_at s = item.Receiver (get_or s 1 0)

-- R in 16 bits
abbrev pub head_at : Kind → List ℕ → Item
head_at kind s = item.Head (head_of kind (word_at s 1))

-- the item with which bytes begin; any other byte, and a command that is cut short, is none
unfoldable pub item_of : List ℕ → Option Item
unfolding begins operand_bytes
item_of s =
    cond (begins LISTEN s) (Some (item.Listen (listen_at s)))
    (cond (begins RECEIVER s) (Some (receiver_at s))
    (cond (begins STOP s) (Some item.Stop)
    (cond (begins ROUND s) (Some (head_at Round s))
    (cond (begins RUN s) (Some (head_at Run s)) None))))

-- the bytes after it, and all of them where none stands first
unfoldable pub after_item : List ℕ → List ℕ
unfolding begins operand_bytes
after_item s =
    cond (begins LISTEN s) (after LISTEN s)
    (cond (begins RECEIVER s) (after RECEIVER s)
    (cond (begins STOP s) (after STOP s)
    (cond (begins ROUND s) (after ROUND s)
    (cond (begins RUN s) (after RUN s) s))))

-- how many bytes an item takes, its command's byte among them; none is taken where nothing is given
unfoldable pub item_bytes : Option Item → ℕ
item_bytes None = 0
item_bytes (Some (item.Head head)) = 3
item_bytes (Some (item.Receiver number)) = 2
item_bytes (Some (item.Listen listen)) = 6
item_bytes (Some item.Stop) = 1

-- what is left of the tape from the reader's position on
abbrev pub left : PlanReader → List ℕ
left r = drop r.at r.tape.now

-- what the reader gives: the item that stands first on what is left of its tape. The bytes after it are left then:
-- the reader keeps its tape, and stands as many bytes further on as the item takes.
abbrev pub TakesItem : PlanReader → Option Item → PlanReader → Type 0
TakesItem old given new =
    (given ≡ item_of (left old))
    × (left new ≡ after_item (left old))
    × (new.tape ≡ old.tape)
    × (new.at ≡ old.at + item_bytes given)

-- What it gives if it is asked for a LISTEN: that which stands first, and the reader stands 6 bytes further on, after
-- it; else none, and the reader is the same.
abbrev pub ReadsListen : PlanReader → Option Read → PlanReader → Type 0
ReadsListen old None new = (begins LISTEN (left old) ≡ false) × (new ≡ old)
ReadsListen old (Some w) new =
    (begins LISTEN (left old) ≡ true)
    × (w ≡ listen_at (left old))
    × (left new ≡ after LISTEN (left old))
    × (new.tape ≡ old.tape)
    × (new.at ≡ old.at + 6)

-- the same by the LISTENs that stand one after the other: it is the first of those with which the rest begins; the
-- others are left, and so is what follows them
abbrev pub TakesListen : PlanReader → Option Read → PlanReader → Type 0
TakesListen old None new = (listens_in (left old) ≡ []) × (after_listens (left old) ≡ left new) × (new ≡ old)
TakesListen old (Some w) new =
    (listens_in (left old) ≡ stated_listen w ∷ listens_in (left new))
    × (after_listens (left old) ≡ after_listens (left new))
    × (new.tape ≡ old.tape)
    × (new.at ≡ old.at + 6)

-- what stands at a place of a tape, and the bytes after it
abbrev pub item_at : List ℕ → ℕ → Option Item × List ℕ
item_at tape at = (item_of (drop at tape), after_item (drop at tape))
