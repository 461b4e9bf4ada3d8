-- A plan that never refuses by `IncompatibleServer`, which is the refusal of whoever establishes the connection; and what two such
-- plans make.
use Rattle.std.proofs.Common.{◌≡◌, ap, sym, subst, [], ◌∷◌}
use Rattle.mongo_wire.specs.declared.error.ErrorKind.{ErrorKind}
use Rattle.mongo_wire.specs.declared.error.ErrorKind.TheVariants.{IncompatibleServer}
use Rattle.mongo_command.specs.Conversation.{Turn, says, asks, refuses, ends, Plan, later, passed_on, passed_later, followed_by}
use Rattle.mongo_command.proofs.Leads.{Never}

abbrev pub NeverIncompatible : {A : Type 0} → Plan A → Type 0
NeverIncompatible plan = Never IncompatibleServer plan

same_kind : {A : Type 0} (a b : ErrorKind) → ◌≡◌ {A = Turn A} (refuses a) (refuses b) → a ≡ b
same_kind a b e = cc

fits_passed : {A B : Type 0} (next : A → Turn B → Type 0) (first : Turn A) → (first ≡ refuses IncompatibleServer → ⊥) → ((answer : A) → next answer (refuses IncompatibleServer) → ⊥) → passed_on next first (refuses IncompatibleServer) → ⊥
fits_passed next (says s) early late h = cc
fits_passed next (asks question answer) early late h = cc
fits_passed next (refuses kind) early late h = early (ap refuses (same_kind kind IncompatibleServer (sym h)))
fits_passed next (ends answer) early late h = late answer h

fits_later : {A B : Type 0} (next : A → Turn B → Type 0) (rest : Turn B → Type 0) (first : Turn A) → (rest (refuses IncompatibleServer) → ⊥) → ((answer : A) → next answer (refuses IncompatibleServer) → ⊥) → passed_later next rest first (refuses IncompatibleServer) → ⊥
fits_later next rest (says s) on late h = on h
fits_later next rest (asks question answer) on late h = on h
fits_later next rest (refuses kind) on late h = h
fits_later next rest (ends answer) on late h = late answer h

pub fits_followed : {A B : Type 0} (plan : Plan A) (next : A → Plan B) → NeverIncompatible plan → ((answer : A) → NeverIncompatible (next answer)) → NeverIncompatible (followed_by plan next)
fits_followed plan next p q [] h = fits_passed (λ answer. next answer []) h.0 (λ is. p [] (subst (plan []) is h.1)) (λ answer. q answer []) h.2
fits_followed plan next p q (event ∷ events) h =
    fits_later (λ answer. next answer (event ∷ events)) (followed_by (later plan event) next events) h.0 (fits_followed (later plan event) next (λ past. p (event ∷ past)) q events) (λ answer. q answer (event ∷ events)) h.2
