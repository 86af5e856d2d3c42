-- `candidates::try_rows` meets its contract: the candidates passed have their answers.
use Rattle.std.proofs.Common.{◌≡◌, length, drop}
use Rattle.basics.proofs.Filling.{Filled}
use Rattle.line.specs.Cells.{core_bytes}
use Rattle.table.specs.Tables.{lent}
use Rattle.candidates.specs.Tried.{tried, offered, candidate_at}
use Rattle.candidates.proofs.try_rows.Given as goal

abbrev pub invariant-loop-j : goal.invariant-loop-j
invariant-loop-j l =
    let t = lent l.table in
    let c = offered l.candidates in
    record {
      numbers : Filled (λ k. (tried t (candidate_at c k)).number) l.j l.initial.numbers l.numbers;
      counts : Filled (λ k. (tried t (candidate_at c k)).count) l.j l.initial.counts l.counts;
      space : length l.space ≡ length l.initial.space;
      rest : drop core_bytes l.space ≡ drop core_bytes l.initial.space;
    }
