use Rattle.std.proofs.Common.{refl}
use Rattle.frame.proofs.DigitsLaws.{eight_front}
use Rattle.frame.proofs.digits.four_bytes.Goals as goal

pub returns : goal.returns
returns c = record {
  result = (
    c.in-len8-up.len_at_least,
    eight_front c.args.digits.now c.to_be_bytes.result _ c.value.result c.value-2.result c.value-3.result c.value-4.result
        c.value-5.result c.value-6.result c.value-7.result c.value-8.result c.in-len8-up.len_at_least c.value.ensures.result
        c.value-2.ensures.result c.value-3.ensures.result c.value-4.ensures.result c.value-5.ensures.result
        c.value-6.ensures.result c.value-7.ensures.result c.value-8.ensures.result refl c.if-n-ge-NONE.false c.to_be_bytes.ensures,
  );
}
