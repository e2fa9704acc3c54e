use Rattle.std.proofs.Common.{◌≡◌, ◌+◌, min, fold, arith, rules}
use Rattle.store.specs.Laws.{held_within}
use Rattle.store.proofs.Cells.{capped}
use Rattle.store.proofs.bank.BankStore.held.Goals as goal

pub returns : goal.returns
returns c =
    let cells = c.args.self.now.cells.items in
    let total : c.fold.result ≡ fold (λ t x. min (t + x.held) 4294967295) 0 cells = search rules in
    record { result = λ s. omega (arith, total, capped (λ x. x.held) 4294967295 cells, held_within cells s.0, s.1) }
