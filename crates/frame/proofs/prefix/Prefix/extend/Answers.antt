use Rattle.std.proofs.Common.{rules}
use Rattle.frame.proofs.PrefixLaws.{begins_all, kept_more}
use Rattle.frame.proofs.prefix.Prefix.extend.Goals as goal

pub returns : goal.returns
returns g c =
    let p = c.args.self.now in
    let ys = c.args.more.now in
    let e = kept_more _ p c.copy_from_slice.new.self ys c.min-taken.result _ (search rules) (search rules) c.min-taken.ensures c.copy_from_slice.ensures.after in
    record { after = e; whole = begins_all _ p _ ys e }
