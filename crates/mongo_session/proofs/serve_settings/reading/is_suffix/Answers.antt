use Rattle.std.proofs.Common.{◌≡◌, ◌↔◌, ℕ, Bool, true, List, [], ◌∷◌, IsTrue, refl, rules, tests}
use Rattle.std.specs.List.{list_all}
use Rattle.std.proofs.lemmas.Bool.Decides.{same_from_decides}
use Rattle.std.proofs.lemmas.List.Elements.{All-weaker}
use Rattle.std.proofs.lemmas.List.Sums.{AllPass-from_list_all, list_all-from_AllPass}
use Rattle.mongo_server.specs.ClientMessages.{IsNonceByte, IsNonce}
use Rattle.mongo_session.specs.ServeSettings.{is_printable, is_suffix}
use Rattle.mongo_session.proofs.serve_settings.reading.is_suffix.Goals as goal

printable_if : (byte : ℕ) → is_printable byte ≡ true → IsNonceByte byte
printable_if byte is = search (rules, tests)

if_printable : (byte : ℕ) → IsNonceByte byte → is_printable byte ≡ true
if_printable byte is = search (rules, tests)

all_printable : (bytes : List ℕ) → IsTrue (list_all is_printable bytes) ↔ IsNonce bytes
all_printable bytes = (
  λ all. All-weaker (λ byte. is_printable byte ≡ true) IsNonceByte printable_if bytes (AllPass-from_list_all is_printable bytes all),
  λ all. list_all-from_AllPass is_printable bytes (All-weaker IsNonceByte (λ byte. is_printable byte ≡ true) if_printable bytes all),
)

same_test : (nonce : List ℕ) (test : Bool) → (nonce ≡ [] → ⊥) → IsTrue test ↔ IsNonce nonce → test ≡ is_suffix nonce
same_test [] test some is = absurd (some refl)
same_test (byte ∷ bytes) test some is = same_from_decides test _ is (all_printable (byte ∷ bytes))

pub returns-then-not-is_empty-clause-said : goal.returns-then-not-is_empty-clause-said
returns-then-not-is_empty-clause-said c = same_test c.args.nonce.now c.is_nonce.result (search rules) c.is_nonce.ensures
