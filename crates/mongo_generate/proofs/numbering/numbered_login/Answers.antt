use Rattle.std.proofs.Common.{◌∙◌, refl}
use Rattle.mongo_generate.proofs.Numbered.{nonces_as_at, login_at, nonces_of_login}
use Rattle.mongo_generate.proofs.numbering.numbered_login.Goals as goal

pub returns-clause-login : goal.returns-clause-login
returns-clause-login c =
    login_at c.args.number c.of_user.result _ _ _ _ c.version_at.ensures (c.as_str.ensures ∙ c.in_ok-username.ensures.text) (c.as_str-2.ensures ∙ c.in_ok-password.ensures.text) (nonces_as_at c.args.number _ refl refl) c.of_user.ensures.login

pub returns-clause-nonces : goal.returns-clause-nonces
returns-clause-nonces c = nonces_of_login c.args.number c.of_user.result _ _ _ _ (nonces_as_at c.args.number _ refl refl) c.of_user.ensures.login
