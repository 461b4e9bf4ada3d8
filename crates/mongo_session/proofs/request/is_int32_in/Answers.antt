use Rattle.std.proofs.Common.{◌↔◌, FitsSigned, IsTrue, rules, subst}
use Rattle.std.specs.Int.{w32}
use Rattle.std.proofs.lemmas.Bool.{false≢true}
use Rattle.std.proofs.lemmas.Int.{to_z-of_z}
use Rattle.mongo_session.specs.Values.{IsInt32}
use Rattle.mongo_session.proofs.RequestFields.{int32_held}
use Rattle.mongo_session.proofs.request.is_int32_in.Goals as goal

pub returns-in-Some : goal.returns-in-Some
returns-in-Some c =
    let fits : FitsSigned w32 c.args.number = search rules in
    let test = subst (λ n. IsTrue c.is_int32.result ↔ IsInt32 n c.in-Some.value) (to_z-of_z w32 c.args.number fits) c.is_int32.ensures in
    let held = int32_held c.args.document.bytes.now c.args.key.now c.args.number c.in-Some.value c.in-Some.ensures in
    (λ set. held.0 (test.0 set), λ has. test.1 (held.1 has))

pub returns-in-None : goal.returns-in-None
returns-in-None c = (λ never. absurd (false≢true never), λ has. absurd (c.in-None.ensures has.element has.first))
