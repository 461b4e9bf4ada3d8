use Rattle.std.proofs.Common.{ap, ◌∙◌, rules}
use Rattle.mongo_scram.specs.Messages.{verifier}
use Rattle.mongo_scram.specs.Version.{digest_of}
use Rattle.mongo_scram.proofs.Signed.{verifier_is}
use Rattle.mongo_scram.proofs.salted_password.SaltedPassword.verifier.Goals as goal

pub returns-then-eq : goal.returns-then-eq
returns-then-eq c =
    let auth_message = c.args.auth_message.now in
    c.verifier.ensures
    ∙ verifier_is c.self.inside.keys c.args.version.now c.self.inside.tag auth_message (search rules) c.self.invariant
    ∙ ap (λ salted. verifier (digest_of c.args.version.now) salted auth_message) c.self.view_is

pub returns-else-eq : goal.returns-else-eq
returns-else-eq c =
    let auth_message = c.args.auth_message.now in
    c.verifier-else-eq.ensures
    ∙ verifier_is c.new.result c.args.version.now c.self.inside.tag auth_message c.new.ensures.version c.new.ensures.keys
    ∙ ap (λ salted. verifier (digest_of c.args.version.now) salted auth_message) c.self.view_is
