-- What the parts of a whole mean, and the whole.
use Rattle.std.proofs.Common.{◌≡◌, ◌⊎◌, inl, inr, Option, None, Some, Result, Ok, Err, IsOk, IfOk, IfErr, refl, sym, subst}
use Rattle.mongo_settings.specs.Kinds.{◌>>=◌, Means, MeansNothing}
use Rattle.mongo_settings.specs.declared.settings.SettingsError.{SettingsError}
use Rattle.mongo_settings.specs.declared.settings.SettingsError.TheVariants.{BadSettings, NotBuilt, OutOfMemory}

-- where a part has no meaning, the whole has none
pub without_part : {A B : Type 0} (error : SettingsError) (part : Option A) (rest : A → Option B) → MeansNothing error part → MeansNothing error (part >>= rest)
without_part OutOfMemory part rest nothing = tt
without_part NotBuilt part rest nothing = absurd nothing
without_part BadSettings part rest nothing = rw nothing refl

-- two parts as one
abbrev pub paired : {A B : Type 0} → Option A → Option B → Option (A × B)
paired first second = first >>= λ a. second >>= λ b. Some (a, b)

paired_nothing : {A B : Type 0} (first : Option A) (second : Option B) → second ≡ None → paired first second ≡ None
paired_nothing None second nothing = refl
paired_nothing (Some a) second nothing = rw nothing refl

pub both_mean : {A B : Type 0} (first_part : Option A) (second_part : Option B) (first : Result A SettingsError) (second : Result B SettingsError) (answer : Result (A × B) SettingsError) → IfOk answer (λ values. (first ≡ Ok values.0) × (second ≡ Ok values.1)) → IfErr answer (λ error. (first ≡ Err error) ⊎ (IsOk first × (second ≡ Err error))) → Means (λ a. a) first first_part → Means (λ b. b) second second_part → Means (λ values. values) answer (paired first_part second_part)
both_mean first_part second_part first second (Ok values) same error one other =
    rw (subst (λ r. Means (λ a. a) r first_part) same.0 one, subst (λ r. Means (λ b. b) r second_part) same.1 other) refl
both_mean first_part second_part first second (Err OutOfMemory) same error one other = tt
both_mean first_part second_part first second (Err NotBuilt) same error one other =
    elim error [ inl is ↦ absurd (subst (λ r. Means (λ a. a) r first_part) is one) | inr is ↦ absurd (subst (λ r. Means (λ b. b) r second_part) is.1 other) ]
both_mean first_part second_part first second (Err BadSettings) same error one other =
    elim error [ inl is ↦ without_part BadSettings first_part _ (subst (λ r. Means (λ a. a) r first_part) is one) | inr is ↦ paired_nothing first_part second_part (subst (λ r. Means (λ b. b) r second_part) is.1 other) ]

pub paired_parts : {A B : Type 0} (first : Option A) (second : Option B) (values : A × B) → paired first second ≡ Some values → (first ≡ Some values.0) × (second ≡ Some values.1)
paired_parts None second values is = absurd cc
paired_parts (Some a) None values is = absurd cc
paired_parts (Some a) (Some b) values is = let same : (a, b) ≡ values = cc in rw (sym same) (refl, refl)

-- six parts, four and two, as one after another
pub six_nothing : {A B C D E F G : Type 0} (error : SettingsError) (a : Option A) (b : Option B) (c : Option C) (d : Option D) (e : Option E) (f : Option F) (rest : A → B → C → D → E → F → Option G) → MeansNothing error (paired (paired (paired a b) (paired c d)) (paired e f)) → MeansNothing error (a >>= λ u. b >>= λ v. c >>= λ w. d >>= λ x. e >>= λ y. f >>= λ z. rest u v w x y z)
six_nothing OutOfMemory a b c d e f rest nothing = tt
six_nothing NotBuilt a b c d e f rest nothing = absurd nothing
six_nothing BadSettings None b c d e f rest nothing = refl
six_nothing BadSettings (Some u) None c d e f rest nothing = refl
six_nothing BadSettings (Some u) (Some v) None d e f rest nothing = refl
six_nothing BadSettings (Some u) (Some v) (Some w) None e f rest nothing = refl
six_nothing BadSettings (Some u) (Some v) (Some w) (Some x) None f rest nothing = refl
six_nothing BadSettings (Some u) (Some v) (Some w) (Some x) (Some y) None rest nothing = refl
six_nothing BadSettings (Some u) (Some v) (Some w) (Some x) (Some y) (Some z) rest nothing = absurd cc
