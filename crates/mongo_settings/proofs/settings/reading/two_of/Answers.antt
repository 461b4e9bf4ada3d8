use Rattle.std.proofs.Common.{arith}
use Rattle.std.proofs.lemmas.Bool.{ltb-true, ltb-false}
use Rattle.mongo_settings.proofs.Twos.{two_of-few, two_of-many}
use Rattle.mongo_settings.proofs.settings.reading.two_of.Goals as goal
use Rattle.mongo_settings.proofs.settings.reading.two_of.Goals.{in_default-via-then-items-lt2, in_default-via-else-items-lt2+else-items-lt3}

pub returns-in_default : goal.returns-in_default
returns-in_default c =
    elim c.in_default.branch [
      | in_default-via-then-items-lt2 w ↦ two_of-few c.args.items.now (omega (arith, ltb-true))
      | in_default-via-else-items-lt2+else-items-lt3 w ↦ two_of-many c.args.items.now (omega (arith, ltb-false))
    ]
