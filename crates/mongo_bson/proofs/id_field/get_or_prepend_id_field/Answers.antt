use Rattle.std.proofs.Common.{◌≡◌, Result, Ok, Err, IfErr, rules}
use Rattle.std.specs.Prelude.{IsErrOf}
use Rattle.mongo_bson.specs.Framed.{element_bytes}
use Rattle.mongo_bson.specs.Find.{IsFirstOf, BreaksOff}
use Rattle.mongo_bson.specs.Merge.{id_key}
use Rattle.mongo_bson.specs.declared.fault.BsonFault.{BsonFault}
use Rattle.mongo_bson.specs.declared.fault.BsonFault.TheVariants.{Malformed, TooLong, OutOfMemory}
use Rattle.mongo_bson.proofs.OneAnswer.{found_or_none, none_or_broken}
use Rattle.mongo_bson.proofs.OneElement.{made_of}
use Rattle.mongo_bson.proofs.id_field.get_or_prepend_id_field.Goals as goal

never_too_long : {T : Type 0} (r : Result T BsonFault) → IfErr r (λ fault. fault ≡ OutOfMemory) → IsErrOf r TooLong → ⊥
never_too_long (Ok _) refused same = cc
never_too_long (Err fault) refused same = cc

pub returns-in-Ok-Some-clause-too_long : goal.returns-in-Ok-Some-clause-too_long
returns-in-Ok-Some-clause-too_long c =
    let body = element_bytes c.args.document.now in
    let element = made_of c.in-Ok-Some.kind id_key c.in-Ok-Some.bytes.now in
    let first : IsFirstOf body id_key element = search rules in
    (λ same. absurd (never_too_long c.owned.result c.owned.ensures.refused same), λ said. absurd (found_or_none body id_key element first said.1))

pub returns-in-Err-clause-too_long : goal.returns-in-Err-clause-too_long
returns-in-Err-clause-too_long c =
    let body = element_bytes c.args.document.now in
    let broken : (c.in-Err.fault ≡ Malformed) × BreaksOff body id_key = search rules in
    let is = broken.0 in
    (λ same. cc, λ said. absurd (none_or_broken body id_key said.1 broken.1))
