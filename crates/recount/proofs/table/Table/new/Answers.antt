use Rattle.std.proofs.Common.{get_or, replicate, ap, ◌∙◌}
use Rattle.recount.specs.Recount.{none, place}
use Rattle.recount.proofs.Counting.{get_d_replicate}
use Rattle.recount.proofs.table.Table.new.Goals as goal

pub returns : goal.returns
returns c = record {
  result = λ task reserve.
      ap (λ xs. get_or xs (place task reserve) none) (c.in_ok-rows.ensures.items_if_clones_equal (λ y e. e))
      ∙ ap (λ row. get_or (replicate 65536 row) (place task reserve) none) c.new.ensures.result
      ∙ get_d_replicate 65536 (place task reserve) none;
}
