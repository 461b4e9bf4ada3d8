use Rattle.std.proofs.Common.{subst, sym, arith}
use Rattle.std.specs.Str.{IsAscii}
use Rattle.jiff_core.proofs.SignedLemmas.{signed_arith}
use Rattle.mongo_sasl.specs.Moment.{milliseconds_of}
use Rattle.mongo_aws.specs.Date.{civil_of}
use Rattle.mongo_aws.proofs.Dates.{date_is, ascii_date}
use Rattle.mongo_aws.proofs.date.date_of.Goals as goal

pub returns-clause-date : goal.returns-clause-date
returns-clause-date c =
    date_is c.to_datetime.result (milliseconds_of c.args.moment) c.date_text.result c.args.moment.least (omega (arith, signed_arith, c.to_datetime.ensures, c.in-Ok.ensures.value, c.ms.ensures)) c.date_text.ensures.text

pub returns-clause-ascii : goal.returns-clause-ascii
returns-clause-ascii c = subst IsAscii (sym c.date_text.ensures.text) (ascii_date (civil_of c.to_datetime.result))
