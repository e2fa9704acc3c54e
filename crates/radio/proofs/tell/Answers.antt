use Rattle.radio.proofs.tell.Goals as goal

pub returns : goal.returns
returns g c = record {
  balance = λ at. c.audit.ensures.balance (c.in_ok-lost-2.ensures.run (c.in_ok-serial.ensures.run (c.in_ok-lost.ensures.run (c.in_ok-feed_radio.ensures.run at))));
}
