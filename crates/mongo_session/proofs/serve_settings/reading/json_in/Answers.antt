use Rattle.std.proofs.Common.{◌≡◌, ℕ, Bool, true, false, None, List, refl}
use Rattle.std.specs.Str.{IsUtf8, is_utf8}
use Rattle.std.proofs.lemmas.Str.{is_utf8-from_IsUtf8, IsUtf8-from_is_utf8}
use Rattle.serde_json.specs.Read.{read}
use Rattle.mongo_session.specs.ServeSettings.{json_in}
use Rattle.mongo_session.proofs.serve_settings.reading.json_in.Goals as goal

unread : (text : List ℕ) (test : Bool) → is_utf8 text ≡ test → (IsUtf8 text → read text ≡ None) → json_in text ≡ None
unread text true is none = rw is (none (IsUtf8-from_is_utf8 text is))
unread text false is none = rw is refl

pub returns-in-Ok : goal.returns-in-Ok
returns-in-Ok c = rw (is_utf8-from_IsUtf8 _ c.in-Ok.ensures.ok.0) c.in-Ok.ensures.ok.1

pub returns-in_default : goal.returns-in_default
returns-in_default c =
    unread _ _ refl (c.in-Err.ensures.err (λ memory. c.in_default.not-Memory (c.classify.ensures.memory.1 memory)))
