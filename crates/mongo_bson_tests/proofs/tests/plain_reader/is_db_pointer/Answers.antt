use Rattle.std.proofs.Common.{◌≡◌, ◌-◌, ◌++◌, length, take, drop, sym, ap, ◌∙◌, subst, arith}
use Rattle.std.proofs.lemmas.List.{length-append, take-append-drop, take_at}
use Rattle.mongo_bson.specs.Document.{IsString}
use Rattle.mongo_bson_tests.proofs.tests.plain_reader.is_db_pointer.Goals as goal

pub returns : goal.returns
returns c =
    let bytes = c.args.bytes.now in
    let cut = c.split_at.ensures in
    let front = c.split_at.result.0.now in
    let back = c.split_at.result.1.now in
    let place = length bytes - 12 in
    let whole = sym (take-append-drop place bytes) ∙ ap (λ w. w ++ drop place bytes) (sym cut.front) ∙ ap (λ w. front ++ w) (sym cut.back) in
    let twelve : length back ≡ 12 = omega (arith, cut.back_len, c.if-bytes-lt12.false) in (
      λ yes. (front, back, record { spelled = whole; string = c.is_string.ensures.0 yes; twelve = twelve }),
      λ (name, id, is).
          let size : length name ≡ place = omega (arith, ap length is.spelled, length-append name id, is.twelve) in
          let same = cut.front ∙ ap (take place) is.spelled ∙ take_at name id place size in
          c.is_string.ensures.1 (subst IsString (sym same) is.string),
    )
