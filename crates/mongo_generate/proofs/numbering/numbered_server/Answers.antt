use Rattle.std.proofs.Common.{◌≡◌, ◌∙◌, ℕ, List, subst, sym, rules}
use Rattle.mongo_scram.specs.declared.scram_version.ScramVersion.{ScramVersion}
use Rattle.mongo_server.specs.declared.user.ServerUser.{ServerUser}
use Rattle.mongo_server.specs.User.{IsUserOf}
use Rattle.mongo_generate.specs.Generated.{authentication_at}
use Rattle.mongo_generate.proofs.Numbered.{password_only_memory}
use Rattle.mongo_generate.proofs.numbering.numbered_server.Goals as goal

renamed : (version other : ScramVersion) (username name password secret salt grains : List ℕ) (count : ℕ) (user : ServerUser) → version ≡ other → username ≡ name → password ≡ secret → salt ≡ grains → IsUserOf version username password salt count user → IsUserOf other name secret grains count user
renamed version other username name password secret salt grains count user v u p s is =
    subst (λ w. IsUserOf w name secret grains count user) v (subst (λ w. IsUserOf version w secret grains count user) u (subst (λ w. IsUserOf version username w grains count user) p (subst (λ w. IsUserOf version username password w count user) s is)))

pub returns-clause-serves : goal.returns-clause-serves
returns-clause-serves g c =
    let x = authentication_at c.args.number in
    record {
      user = subst (λ user. IsUserOf x.version x.username x.password x.salt x.count user) (sym c.new-2.ensures.user)
          (renamed _ x.version _ x.username _ x.password _ x.salt 4096 c.in_ok-user.user c.version_at.ensures (c.as_str.ensures ∙ c.in_ok-username.ensures.text) (c.as_str-2.ensures ∙ c.in_ok-password.ensures.text) c.in_ok-from_slice.ensures.copied c.in_ok-user.ensures.user);
      suffix = c.new-2.ensures.suffix ∙ c.in_ok-from_slice-2.ensures.copied;
    }

pub returns-in_err-user-clause-refused : goal.returns-in_err-user-clause-refused
returns-in_err-user-clause-refused g c =
    let memory = password_only_memory c.args.number _ _ _ c.version_at.ensures (c.as_str-2.ensures ∙ c.in_ok-password.ensures.text) c.in_err-user.ensures.refused in
    search rules
