use Rattle.std.proofs.Common.{◌≡◌, ℕ, ◌-◌, Bool, List, ◌∷◌, length, take, drop, get_or, sym, ap, ◌∙◌, subst, rules, arith}
use Rattle.std.specs.Bool.{Decides}
use Rattle.std.proofs.Math.Seq.{take-length}
use Rattle.std.proofs.lemmas.List.{drop_more, length-drop}
use Rattle.mongo_bson.specs.Reading.{HoldsKind}
use Rattle.mongo_bson.proofs.Splits.{IsZeroAndValue}
use Rattle.mongo_bson_tests.proofs.tests.plain_reader.is_zero_and_value.Goals as goal

-- what is behind a zero is all the rest
behind_zero : (kind : ℕ) (bytes value : List ℕ) (r : Bool) → bytes ≡ 0 ∷ value → Decides r (HoldsKind kind value) → Decides r (IsZeroAndValue kind bytes)
behind_zero kind bytes value r spelled test = (
  λ yes. (value, spelled, test.0 yes),
  λ is.
      let whole : 0 ∷ is.0 ≡ 0 ∷ value = sym is.1 ∙ spelled in
      let same : is.0 ≡ value = cc in
      test.1 (subst (HoldsKind kind) same is.2),
)

pub returns-in-0 : goal.returns-in-0
returns-in-0 c =
    let bytes = c.args.bytes.now in
    let rest = drop 1 bytes in
    let zero : get_or bytes 0 0 ≡ 0 = search rules in
    let all : take (length bytes - 1) rest ≡ rest = ap (λ n. take n rest) (sym (length-drop 1 bytes)) ∙ take-length rest in
    let spelled = drop_more bytes 0 0 (omega (arith, c.in-0.len_at_least)) ∙ ap (λ b. b ∷ rest) zero ∙ ap (λ w. 0 ∷ w) (sym all) in
    behind_zero c.args.kind bytes (take (length bytes - 1) rest) c.is_value.result spelled c.is_value.ensures
