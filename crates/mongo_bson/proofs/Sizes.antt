-- How long a value is, by the int32 at its front.
use Rattle.std.proofs.Common.{◌≡◌, ℕ, ◌+◌, ◌≤◌, Bool, false, IsTrue, List, [], ◌∷◌, ◌++◌, length, take, drop, refl, sym, ap, ◌∙◌, subst, arith}
use Rattle.std.specs.Int.{from_le_bytes, w32}
use Rattle.std.proofs.lemmas.List.{take_at, length-append, length-take-le, take-append-drop}
use Rattle.std.proofs.lemmas.Bool.{false≢true}
use Rattle.mongo_bson.specs.Framed.{IsFramed, maximum_length}
use Rattle.mongo_bson.specs.Document.{IsString, IsBinary, IsCodeWithScope, Holds, code_with_scope}
use Rattle.mongo_bson.specs.Reading.{NoneAtFront, IsCounted, IsNotCounted}

-- the int32 at the front of bytes and `more` count this front
pub record IsSized (front bytes : List ℕ) (more : ℕ) : Type 0 where
  pub least : 5 ≤ length front
  pub most : from_le_bytes w32 bytes ≤ maximum_length
  pub size : length front ≡ from_le_bytes w32 bytes + more

-- whatever meets P at the front of these bytes is counted so
abbrev pub HasSize : (List ℕ → Type 0) → List ℕ → ℕ → Type 0
HasSize P bytes more = (front rest : List ℕ) → P front → bytes ≡ front ++ rest → IsSized front bytes more

-- an int32 lies in the first four bytes
pub number_at_front : (front rest : List ℕ) → 4 ≤ length front → from_le_bytes w32 (front ++ rest) ≡ from_le_bytes w32 front
number_at_front [] rest h = absurd (omega arith)
number_at_front (a ∷ []) rest h = absurd (omega arith)
number_at_front (a ∷ b ∷ []) rest h = absurd (omega arith)
number_at_front (a ∷ b ∷ c ∷ []) rest h = absurd (omega arith)
number_at_front (a ∷ b ∷ c ∷ d ∷ more) rest h = refl

-- a front that counts itself is counted in the bytes that it stands in
sized_in : (front rest bytes : List ℕ) (more : ℕ) → bytes ≡ front ++ rest → 5 ≤ length front → from_le_bytes w32 front ≤ maximum_length → length front ≡ from_le_bytes w32 front + more → IsSized front bytes more
sized_in front rest bytes more e least most size =
    let number = ap (from_le_bytes w32) e ∙ number_at_front front rest (omega arith) in
    record { least = least; most = omega (arith, number); size = omega (arith, number) }

pub string_size : (bytes : List ℕ) → HasSize IsString bytes 4
string_size bytes front rest is e = sized_in front rest bytes 4 e is.least is.most (sym is.counted)

pub document_size : (bytes : List ℕ) → HasSize IsFramed bytes 0
document_size bytes front rest is e = sized_in front rest bytes 0 e is.least (omega (arith, is.counted, is.most)) (omega (arith, is.counted))

pub binary_size : (bytes : List ℕ) → HasSize IsBinary bytes 5
binary_size bytes front rest is e = sized_in front rest bytes 5 e is.least is.most (sym is.counted)

-- a code with scope is longer than its length field
least : (v code scope : List ℕ) → IsCodeWithScope v code scope → 5 ≤ length v
least [] code scope is = absurd (omega (arith, ap length is.spelled, length-append code scope, is.string.least))
least (a ∷ []) code scope is = absurd (omega (arith, ap length is.spelled, length-append code scope, is.string.least))
least (a ∷ b ∷ []) code scope is = absurd (omega (arith, ap length is.spelled, length-append code scope, is.string.least))
least (a ∷ b ∷ c ∷ []) code scope is = absurd (omega (arith, ap length is.spelled, length-append code scope, is.string.least))
least (a ∷ b ∷ c ∷ d ∷ more) code scope is = omega (arith, ap length is.spelled, length-append code scope, is.string.least)

pub code_with_scope_size : (bytes : List ℕ) → HasSize (Holds code_with_scope) bytes 0
code_with_scope_size bytes front rest (code, scope, is) e = sized_in front rest bytes 0 e (least front code scope is) (omega (arith, is.counted, is.most)) (omega (arith, is.counted))

-- fronts that the int32 counts have one length
pub one_size : (P : List ℕ → Type 0) (bytes v w x y : List ℕ) (more : ℕ) → HasSize P bytes more → P v → P w → bytes ≡ v ++ x → bytes ≡ w ++ y → length v ≡ length w
one_size P bytes v w x y more sized p q e f = (sized v x p e).size ∙ sym (sized w y q f).size

-- where the counted bytes fail a test that all of P pass, none of P stands at the front
pub none_counted : (P : List ℕ → Type 0) (bytes : List ℕ) (more n : ℕ) (test : Bool) → HasSize P bytes more → IsCounted bytes more n → test ≡ false → (P (take n bytes) → IsTrue test) → NoneAtFront P bytes
none_counted P bytes more n test sized counted failed passes front rest holds e =
    let size : length front ≡ n = (sized front rest holds e).size ∙ sym counted.count in
    let cut : front ≡ take n bytes = sym (ap (take n) e ∙ take_at front rest n size) in
    false≢true (sym failed ∙ passes (subst P cut holds))

-- nor where the bytes are fewer
pub none_as_short : (P : List ℕ → Type 0) (bytes : List ℕ) (more : ℕ) → HasSize P bytes more → IsNotCounted bytes more → NoneAtFront P bytes
none_as_short P bytes more sized not_counted front rest holds e =
    let is = sized front rest holds e in
    let whole = ap length e ∙ length-append front rest in
    not_counted is.most (omega (arith, is.least, is.size)) (omega (arith, is.size, whole))

-- the counted bytes count themselves
pub counts_itself : (bytes : List ℕ) (more n : ℕ) → IsCounted bytes more n → IsCounted (take n bytes) more (length (take n bytes))
counts_itself bytes more n counted =
    let size : length (take n bytes) ≡ n = length-take-le n bytes counted.within in
    let number : from_le_bytes w32 bytes ≡ from_le_bytes w32 (take n bytes) = ap (from_le_bytes w32) (sym (take-append-drop n bytes)) ∙ number_at_front (take n bytes) (drop n bytes) (omega (arith, size, counted.least)) in
    record { least = omega (arith, size, counted.least); most = omega (arith, number, counted.most); count = omega (arith, size, number, counted.count); within = omega arith }
