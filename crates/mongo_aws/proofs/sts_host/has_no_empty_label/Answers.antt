use Rattle.std.proofs.Common.{lit<, rules, tests}
use Rattle.std.proofs.lemmas.Iterator.Search.{all_from_yields_List}
use Rattle.std.proofs.lemmas.Iterator.Splits.{YieldsList-from_str_split}
use Rattle.mongo_aws.proofs.Labels.{is_some_label, no_empty_label}
use Rattle.mongo_aws.proofs.sts_host.has_no_empty_label.Goals as goal

pub returns : goal.returns
returns c =
    no_empty_label c.args.host.now c.all.result
    (all_from_yields_List is_some_label _ _ c.all.result c.all.ensures.ran (YieldsList-from_str_split 46 c.args.host.now (lit< tt) c.split.ensures.text c.split.ensures.has_more c.split.ensures.pattern) (λ x b q k. search (rules, tests)))
