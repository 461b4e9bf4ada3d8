use Rattle.mongo_scram.proofs.Parts.{cut_by}
use Rattle.mongo_scram.proofs.parse.cut.Goals as goal

pub returns : goal.returns
returns c = cut_by c.args.mark c.args.text.now c.split_once.result c.requires c.split_once.ensures.cases
