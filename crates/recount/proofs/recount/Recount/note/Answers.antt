use Rattle.recount.proofs.Counting.{judges_more, denies_more}
use Rattle.recount.proofs.recount.Recount.note.Goals as goal

pub returns : goal.returns
returns c = record {
  counts = λ xs is. record {
    verdicts = judges_more xs c.args.reply.now c.args.self.now.verdicts c.note.new.self c.note.ensures.within
        c.note.ensures.lines c.note.ensures.accepted c.note.ensures.refused is.verdicts;
    denials = denies_more xs c.args.reply.now c.args.self.now.denials c.note-2.new.self
        c.note-2.ensures.within c.note-2.ensures.all c.note-2.ensures.level c.note-2.ensures.store is.denials;
  };
}
