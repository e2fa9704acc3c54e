use Rattle.std.proofs.Common.{◌*◌, ◌+◌, ◌-◌, ◌++◌, ◌≡◌, min, take, drop, length, ap, ◌∙◌, rules, arith, length-drop}
use Rattle.std.proofs.lemmas.List.{take_more_set, length-take}
use Rattle.std.proofs.lemmas.Slice.{take-put_mid}
use Rattle.frame.specs.Digits.{bytes_of}
use Rattle.frame.proofs.DigitsLaws.{prepend_none, prepend_more, prepend_eight}
use Rattle.frame.proofs.digits.read_digits.Goals as goal

pub loop-rest-init : goal.loop-rest-init
loop-rest-init c = (prepend_none (bytes_of c.args.digits.now), search rules, search rules)

pub loop-rest-preserved-in-Some : goal.loop-rest-preserved-in-Some
loop-rest-preserved-in-Some c =
    let l = c.loop-rest in
    let e = c.in-Some.ensures.result in
    let new = c.copy_from_slice.new.self in
    let k = l.len + 4 - l.len in
    let few = length-take k (drop l.len l.array) ∙ ap (min k) (length-drop l.len l.array) in
    let four : length new ≡ 4 = omega (arith, few, c.copy_from_slice.ensures.len) in
    let front = take-put_mid l.len k l.array new (l.len + 4) (omega arith) (omega arith) in (
      prepend_eight (take l.len l.array) c.in-Some.bytes _ l.rest.now c.args.digits.now l.invariant.0 e.1
          (front ∙ ap (λ t. take l.len l.array ++ t) c.copy_from_slice.ensures.after),
      search rules,
      search rules,
    )

pub loop-rest-preserved : goal.loop-rest-preserved
loop-rest-preserved c =
    let l = c.loop-rest in
    let b = c.value-h.result * 16 + c.value-l.result in (
      prepend_more _ _ l.rest.now c.args.digits.now c.value-h.result c.value-l.result l.invariant.0 c.value-h.ensures.result
          c.value-l.ensures.result c.if-h-gt15.false c.if-l-gt15.false (search rules) (take_more_set l.array l.len b (omega arith)),
      search rules,
      search rules,
    )
