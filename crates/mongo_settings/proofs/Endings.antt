-- What decides how a run ends that ended so, by how its text is judged.
use Rattle.std.proofs.Common.{◌≡◌, refl, ap, inl, inr, Result, Ok, Err}
use Rattle.mongo_settings.specs.declared.settings.SettingsError.{SettingsError}
use Rattle.mongo_settings.specs.declared.settings.SettingsError.TheVariants.{BadSettings as Bad, NotBuilt as Unbuilt, OutOfMemory}
use Rattle.mongo_settings.specs.declared.rehearsal.RehearsalStatus.{RehearsalStatus}
use Rattle.mongo_settings.specs.declared.status.Status.TheVariants.{BadSettings, NoMemory, NotBuilt}
use Rattle.mongo_settings.specs.Status.{status_after, JudgementDecides}

module _ {A : Type 0} (ComesOut : A → RehearsalStatus → Type 0) (judgement : Result A SettingsError) where
  -- it asks for something, which comes out in no other way
  pub decides_ok : (judged : A) (status : RehearsalStatus) → judgement ≡ Ok judged → ((other : RehearsalStatus) → ComesOut judged other → status ≡ other) → JudgementDecides ComesOut judgement (status_after status)
  decides_ok judged status is one = rw is (λ other out. inl (ap status_after (one other out)))

  pub decides_bad : judgement ≡ Err Bad → JudgementDecides ComesOut judgement BadSettings
  decides_bad is = rw is (inl refl)

  pub decides_unbuilt : judgement ≡ Err Unbuilt → JudgementDecides ComesOut judgement NotBuilt
  decides_unbuilt is = rw is (inl refl)

-- memory may run out whatever it asks for
pub decides_memory : {A : Type 0} (ComesOut : A → RehearsalStatus → Type 0) (judgement : Result A SettingsError) → JudgementDecides ComesOut judgement NoMemory
decides_memory ComesOut (Ok judged) = λ status out. inr refl
decides_memory ComesOut (Err OutOfMemory) = tt
decides_memory ComesOut (Err error) = inr refl
