-- The settings of a batch's values, one after another.
use Rattle.std.proofs.Common.{◌≡◌, ℕ, suc, ◌<◌, ◌+◌, ◌∙◌, refl, sym, ap, Result, Ok, Err, List, [], ◌∷◌, ◌++◌, length, get_or, drop, add-one, drop-cons, append-nil}
use Rattle.std.proofs.lemmas.List.{append_assoc}
use Rattle.serde_json.specs.View.{view, items_view}
use Rattle.serde_json.specs.declared.value.Value.{Value}
use Rattle.mongo_settings.specs.Settings.{unless_refused, settings_of, Refuses}
use Rattle.mongo_settings.specs.Logins.{each_settings}
use Rattle.mongo_settings.specs.declared.settings.Settings.{Settings}
use Rattle.mongo_settings.specs.declared.settings.SettingsError.{SettingsError}
use Rattle.mongo_settings.specs.declared.settings.SettingsError.TheVariants.{BadSettings, NotBuilt, OutOfMemory}

-- settings before the others
abbrev pub with_front : List Settings → Result (List Settings) SettingsError → Result (List Settings) SettingsError
with_front front others = unless_refused others (λ more. Ok (front ++ more))

-- the values' settings: these, and then those of the values from here on
abbrev pub ReadTo : List Value → ℕ → List Settings → Type 0
ReadTo values i front = each_settings (items_view values) ≡ with_front front (each_settings (items_view (drop i values)))

pub read_none : (values : List Value) → ReadTo values 0 []
read_none values = same (each_settings (items_view values)) where
  same : (r : Result (List Settings) SettingsError) → r ≡ with_front [] r
  same (Ok l) = refl
  same (Err e) = refl

-- the values from here on
rest_of : (values : List Value) (i : ℕ) (x : Value) → i < length values → x ≡ get_or values i x → each_settings (items_view (drop i values)) ≡ (unless_refused (settings_of (view x)) (λ settings. unless_refused (each_settings (items_view (drop (i + 1) values))) (λ more. Ok (settings ∷ more))))
unfolding each_settings
rest_of values i x within at =
    let next : drop i values ≡ x ∷ drop (i + 1) values = drop-cons values i x within ∙ ap (λ y. y ∷ drop (suc i) values) (sym at) ∙ ap (λ n. x ∷ drop n values) (sym (add-one i)) in
    ap (λ l. each_settings (items_view l)) next

joined : (front : List Settings) (settings : Settings) (others : Result (List Settings) SettingsError) → with_front front (unless_refused others (λ more. Ok (settings ∷ more))) ≡ with_front (front ++ settings ∷ []) others
joined front settings (Ok more) = ap Ok (sym (append_assoc front (settings ∷ []) more))
joined front settings (Err e) = refl

pub read_more : (values : List Value) (i : ℕ) (front : List Settings) (x : Value) (settings : Settings) → i < length values → x ≡ get_or values i x → ReadTo values i front → settings_of (view x) ≡ Ok settings → ReadTo values (i + 1) (front ++ settings ∷ [])
read_more values i front x settings within at so_far is =
    so_far
    ∙ ap (with_front front) (rest_of values i x within at ∙ ap (λ r. unless_refused r (λ s. unless_refused (each_settings (items_view (drop (i + 1) values))) (λ more. Ok (s ∷ more)))) is)
    ∙ joined front settings (each_settings (items_view (drop (i + 1) values)))

pub one_refused : (values : List Value) (i : ℕ) (front : List Settings) (x : Value) (e : SettingsError) → i < length values → x ≡ get_or values i x → ReadTo values i front → settings_of (view x) ≡ Err e → each_settings (items_view values) ≡ Err e
one_refused values i front x e within at so_far is =
    so_far ∙ ap (with_front front) (rest_of values i x within at ∙ ap (λ r. unless_refused r (λ s. unless_refused (each_settings (items_view (drop (i + 1) values))) (λ more. Ok (s ∷ more)))) is)

pub each_read : (values : List Value) (i : ℕ) (front : List Settings) → drop i values ≡ [] → ReadTo values i front → each_settings (items_view values) ≡ Ok front
unfolding each_settings
each_read values i front none so_far = so_far ∙ ap (λ l. with_front front (each_settings (items_view l))) none ∙ ap Ok (append-nil front)

-- what is refused is refused so
pub read_stopped : (values : List Value) (i : ℕ) (front : List Settings) (x : Value) (e : SettingsError) → i < length values → x ≡ get_or values i x → ReadTo values i front → Refuses e (settings_of (view x)) → Refuses e (each_settings (items_view values))
read_stopped values i front x OutOfMemory within at so_far r = tt
read_stopped values i front x BadSettings within at so_far r = one_refused values i front x BadSettings within at so_far r
read_stopped values i front x NotBuilt within at so_far r = one_refused values i front x NotBuilt within at so_far r
