use Rattle.std.proofs.Common.{sym, ◌∙◌}
use Rattle.mongo_aws.proofs.Labels.{labels_cut, labels_whole, region_global, region_second, region_alone}
use Rattle.mongo_aws.proofs.sts_host.region_of.Goals as goal

pub returns-then-eq : goal.returns-then-eq
returns-then-eq c = sym (region_global c.args.host.now (sym c.eq.ensures ∙ c.if-eq.true))

pub returns-in-Some : goal.returns-in-Some
returns-in-Some c =
    sym (region_second c.args.host.now c.in-Some._first.now c.in-Some.rest.now c.first_label.result.now (sym c.eq.ensures ∙ c.if-eq.false) (labels_cut c.args.host.now c.split_once.result c.split_once.ensures.cases _ c.in-Some.is) c.first_label.ensures)

pub returns-in-None : goal.returns-in-None
returns-in-None c = sym (region_alone c.args.host.now (sym c.eq.ensures ∙ c.if-eq.false) (labels_whole c.args.host.now c.split_once.result c.split_once.ensures.cases c.in-None.is))
