-- What a probe has counted of its radio. Assumes nothing.
--     nothing                    no tick and no request yet
--     count_tick q y             the tally y after a tick at which the radio got q
--     count_request q y          after a request for q
--     count_grant y              after a grant
--     count_denial n y           after a denial with the number n
--     count_settled used lost y  after a settlement
use Rattle.std.specs.Prelude.{ℕ, replicate, slice_index, slice_set}
use Rattle.tables.specs.Books.{plus}
use Rattle.probe.specs.declared.tally.Tally.{Tally}

abbrev pub nothing : Tally
nothing = record {
  ticks = 0;
  delivered = 0;
  requests = 0;
  requested = 0;
  granted = 0;
  denied = 0;
  reasons = replicate 18 0;
  settled = 0;
  spent = 0;
  lost = 0;
}

abbrev pub count_tick : ℕ → Tally → Tally
count_tick q y = record y { ticks = plus y.ticks 1; delivered = plus y.delivered q }

abbrev pub count_request : ℕ → Tally → Tally
count_request q y = record y { requests = plus y.requests 1; requested = plus y.requested q }

abbrev pub count_grant : Tally → Tally
count_grant y = record y { granted = plus y.granted 1 }

abbrev pub count_denial : ℕ → Tally → Tally
count_denial n y = record y { denied = plus y.denied 1; reasons = slice_set y.reasons n (plus (slice_index y.reasons n) 1) }

abbrev pub count_settled : ℕ → ℕ → Tally → Tally
count_settled used lost y = record y { settled = plus y.settled 1; spent = plus y.spent used; lost = plus y.lost lost }
