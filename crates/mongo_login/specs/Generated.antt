-- What `generate` tells of the logins that it made.
use Rattle.std.specs.Prelude.{◌≡◌, ℕ, List, [], ◌∷◌, ◌++◌, codes, decimal}
use Rattle.hex.specs.Hex.{encode_lower}
use Rattle.mongo_settings.specs.Line.{line}
use Rattle.mongo_settings.specs.Task.{StepCounts}
use Rattle.mongo_generate.specs.declared.logins.Generated.{Generated}
use Rattle.mongo_generate.specs.Generated.{IsGenerated}

-- how many there were, how many of them both sides accepted, the rounds of Hi that the client derived, and the SHA-256 of their
-- last messages
abbrev pub generated_text : Generated → List ℕ
generated_text g =
    line (codes "logins") (decimal g.logins ∷ [])
    ++ (line (codes "accepted") (decimal g.accepted ∷ []) ++ (line (codes "rounds") (decimal g.rounds ∷ []) ++ line (codes "digest") (encode_lower g.digest ∷ [])))

-- the text tells of so many logins, by which the steps rose; no login of the program's own can be refused
pub record ReportsLogins (count : ℕ) (steps : StepCounts) (text : List ℕ) : Type 0 where
  pub generated : Generated
  pub generated_is : IsGenerated count steps.before steps.after generated
  pub text_is : text ≡ generated_text generated
