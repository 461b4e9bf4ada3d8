use Rattle.std.proofs.Common.{◌≡◌, ℕ, ◌-◌, ◌+◌, ◌≤◌, Bool, List, [], ◌∷◌, ◌++◌, length, take, drop, get_or, sym, ap, ◌∙◌, subst, rules, arith}
use Rattle.std.specs.Bool.{Decides}
use Rattle.std.proofs.lemmas.List.{take_at, take-append-drop, drop_more, get_or-drop, length-append, length-drop}
use Rattle.std.proofs.lemmas.List.{nil_from_length}
use Rattle.mongo_bson.specs.Document.{IsCstring}
use Rattle.mongo_bson.proofs.Splits.{IsTextBetweenZeros}
use Rattle.mongo_bson_tests.proofs.tests.plain_reader.is_text_between_zeros.Goals as goal

-- bytes with a zero at each end
between_ends : (bytes : List ℕ) → 2 ≤ length bytes → get_or bytes 0 0 ≡ 0 → get_or bytes (length bytes - 1) 0 ≡ 0 → bytes ≡ 0 ∷ (take (length bytes - 2) (drop 1 bytes) ++ 0 ∷ [])
between_ends bytes long zero last =
    let rest = drop 1 bytes in
    let count = length bytes - 2 in
    let name = take count rest in
    let place : 1 + count ≡ length bytes - 1 = omega (arith, long) in
    let front = drop_more bytes 0 0 (omega (arith, long)) ∙ ap (λ b. b ∷ rest) zero in
    let end : get_or rest count 0 ≡ 0 = get_or-drop 1 bytes count 0 ∙ ap (λ n. get_or bytes n 0) place ∙ last in
    let none : drop (count + 1) rest ≡ [] = nil_from_length (drop (count + 1) rest) (omega (arith, long, length-drop (count + 1) rest, length-drop 1 bytes)) in
    let back : drop count rest ≡ 0 ∷ [] = drop_more rest count 0 (omega (arith, long, length-drop 1 bytes)) ∙ ap (λ b. b ∷ drop (count + 1) rest) end ∙ ap (λ w. 0 ∷ w) none in
    front ∙ ap (λ w. 0 ∷ w) (sym (take-append-drop count rest) ∙ ap (λ w. name ++ w) back)

-- what is between two zeros is all but the ends
between_zeros : (bytes name : List ℕ) (r : Bool) → name ≡ take (length bytes - 2) (drop 1 bytes) → bytes ≡ 0 ∷ (name ++ 0 ∷ []) → Decides r (IsCstring name) → Decides r (IsTextBetweenZeros bytes)
between_zeros bytes name r cut spelled test = (
  λ yes. (name, spelled, test.0 yes),
  λ is.
      let other = is.0 in
      let size : length other ≡ length bytes - 2 = omega (arith, ap length is.1, length-append other (0 ∷ [])) in
      let same = cut ∙ ap (λ w. take (length bytes - 2) (drop 1 w)) is.1 ∙ take_at other (0 ∷ []) (length bytes - 2) size in
      test.1 (subst IsCstring (sym same) is.2),
)

pub returns-in-0 : goal.returns-in-0
returns-in-0 c =
    let bytes = c.args.bytes.now in
    let name = take (length bytes - 1 - 1) (drop 1 bytes) in
    let zero : get_or bytes 0 0 ≡ 0 = search rules in
    let last : get_or bytes (length bytes - 1) 0 ≡ 0 = search rules in
    let size : length bytes - 2 ≡ length bytes - 1 - 1 = omega arith in
    let cut : name ≡ take (length bytes - 2) (drop 1 bytes) = ap (λ n. take n (drop 1 bytes)) (sym size) in
    let spelled = between_ends bytes c.in-0.len_at_least zero last ∙ ap (λ w. 0 ∷ (w ++ 0 ∷ [])) (sym cut) in
    between_zeros bytes name c.is_cstring.result cut spelled c.is_cstring.ensures
