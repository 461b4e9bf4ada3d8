-- The shape of a kind is one, so what is read by shape is read by kind.
use Rattle.std.proofs.Common.{◌≡◌, ℕ, Bool, IsTrue, List, Option, None, Some, MatchOption, sym, ap, ◌∙◌, subst}
use Rattle.mongo_bson.specs.Document.{Shape, shape_of, Holds}
use Rattle.mongo_bson.specs.Reading.{IsAtFront, NoneAtFront, HoldsKind}

pub same_shape : (s t : Shape) → Some s ≡ Some t → s ≡ t
same_shape s t e = cc

pub of_kind : (kind k : ℕ) (shape : Shape) (bytes : List ℕ) (r : Option ℕ) → kind ≡ k → shape_of k ≡ Some shape → MatchOption r (NoneAtFront (Holds shape) bytes) (IsAtFront (Holds shape) bytes) → MatchOption r (NoneAtFront (HoldsKind kind) bytes) (IsAtFront (HoldsKind kind) bytes)
of_kind kind k shape bytes None e known m = λ front rest held at. m front rest (subst (λ t. Holds t front) (same_shape held.0 shape (sym held.1 ∙ ap shape_of e ∙ known)) held.2) at
of_kind kind k shape bytes (Some n) e known m = record { within = m.within; holds = (shape, ap shape_of e ∙ known, m.holds) }

-- nor is a test of the shape another than of the kind
pub test_of_kind : (kind k : ℕ) (shape : Shape) (v : List ℕ) (r : Bool) → kind ≡ k → shape_of k ≡ Some shape → (IsTrue r → Holds shape v) × (Holds shape v → IsTrue r) → (IsTrue r → HoldsKind kind v) × (HoldsKind kind v → IsTrue r)
test_of_kind kind k shape v r e known test =
    (λ yes. (shape, ap shape_of e ∙ known, test.0 yes), λ held. test.1 (subst (λ t. Holds t v) (same_shape held.0 shape (sym held.1 ∙ ap shape_of e ∙ known)) held.2))
