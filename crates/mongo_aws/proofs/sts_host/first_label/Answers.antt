use Rattle.std.proofs.Common.{ap}
use Rattle.std.specs.Prelude.{slice_get}
use Rattle.mongo_aws.proofs.Labels.{labels_cut, labels_whole}
use Rattle.mongo_aws.proofs.sts_host.first_label.Goals as goal

pub returns-in-Some : goal.returns-in-Some
returns-in-Some c = ap (λ ls. slice_get ls 0) (labels_cut c.args.host.now c.split_once.result c.split_once.ensures.cases _ c.in-Some.is)

pub returns-in-None : goal.returns-in-None
returns-in-None c = ap (λ ls. slice_get ls 0) (labels_whole c.args.host.now c.split_once.result c.split_once.ensures.cases c.in-None.is)
