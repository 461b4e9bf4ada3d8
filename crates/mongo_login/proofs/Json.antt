-- What a text of JSON is, from what reading it answers.
use Rattle.std.proofs.Common.{◌≡◌, ℕ, List, Some, None, Ok, Err, Bool, true, false, refl}
use Rattle.std.specs.Str.{IsUtf8, is_utf8}
use Rattle.std.proofs.lemmas.Str.{is_utf8-from_IsUtf8, IsUtf8-from_is_utf8}
use Rattle.serde_json.specs.Data.{Data}
use Rattle.serde_json.specs.Read.{read}
use Rattle.mongo_settings.specs.Settings.{json_of}
use Rattle.mongo_settings.specs.declared.settings.SettingsError.TheVariants.{BadSettings}

pub json_of-read : (text : List ℕ) (d : Data) → IsUtf8 text → read text ≡ Some d → json_of text ≡ Ok d
unfolding json_of
json_of-read text d utf8 found = rw (is_utf8-from_IsUtf8 text utf8, found) refl

refused_by_test : (text : List ℕ) (test : Bool) → is_utf8 text ≡ test → (IsUtf8 text → read text ≡ None) → json_of text ≡ Err BadSettings
unfolding json_of
refused_by_test text true is none = rw (is, none (IsUtf8-from_is_utf8 text is)) refl
refused_by_test text false is none = rw is refl

pub json_of-refused : (text : List ℕ) → (IsUtf8 text → read text ≡ None) → json_of text ≡ Err BadSettings
json_of-refused text none = refused_by_test text (is_utf8 text) refl none
