use Rattle.std.proofs.Common.{rules, ◌∙◌, sym}
use Rattle.mongo_connect.proofs.recording.RecordingSink.flush.Goals as goal

pub invariant_of-self-clause-counted : goal.invariant_of-self-clause-counted
invariant_of-self-clause-counted g c = λ bytes rest o s. c.args.self.now.counted bytes rest o (sym c.flush.ensures.on.unread.left ∙ s)

pub returns-clause-all : goal.returns-clause-all
returns-clause-all g c = search rules
