use Rattle.std.proofs.Common.{◌≡◌, ◌≤◌, ◌++◌, length, Err, sym, ap, subst, arith}
use Rattle.std.specs.Fmt.{decimal}
use Rattle.std.specs.List.{Contains}
use Rattle.mongo_bson.specs.Framed.{IsFramed, element_bytes, enclosed}
use Rattle.mongo_bson.specs.Array.{IsArray}
use Rattle.mongo_bson.specs.Document.{AddsElement, spell}
use Rattle.mongo_bson.specs.Value.{kind_of, bytes_of, element_of}
use Rattle.mongo_bson.proofs.Numbered.{number_text, one_more_within, decimal_no_zero, push_refuses, too_long_at_number, array_goes_on}
use Rattle.mongo_bson.proofs.raw_array_buf.RawArrayBuf.push.Goals as goal

pub returns-in-Err-clause-too_long : goal.returns-in-Err-clause-too_long
returns-in-Err-clause-too_long c =
    let array = c.args.self.now in
    too_long_at_number array.document (bytes_of c.args.value) c.format.result.now (decimal array.count) _ (number_text _ _ array.count (omega arith) c.format.ensures.text) (decimal_no_zero array.count (omega arith)) c.in-Err.ensures.too_long

pub returns-in-Err-clause-refused : goal.returns-in-Err-clause-refused
returns-in-Err-clause-refused c =
    let array = c.args.self.now in
    push_refuses c.in-Err.fault c.in-Err.ensures.refused (λ same. decimal_no_zero array.count (omega arith) (subst (λ k. Contains k 0) (number_text _ _ array.count (omega arith) c.format.ensures.text) (c.in-Err.ensures.key_has_zero.0 (ap Err same))))

pub invariant_of-self-clause-numbered : goal.invariant_of-self-clause-numbered
invariant_of-self-clause-numbered c =
    let array = c.args.self.now in
    array_goes_on array.document c.append.new.self c.format.result.now (bytes_of c.args.value) (kind_of c.args.value) array.count array.framed (number_text _ _ array.count (omega arith) c.format.ensures.text) c.in-Ok.ensures.added array.numbered

pub invariant_of-self-in-Err-1 : goal.invariant_of-self-in-Err-1
invariant_of-self-in-Err-1 c =
    let array = c.args.self.now in
    let same = sym c.in-Err.ensures.unchanged in
    record {
      within = subst (λ d. array.count ≤ length d) same array.within;
      framed = subst IsFramed same array.framed;
      numbered = subst (λ d. IsArray d array.count) same array.numbered;
    }

pub returns-in-Ok-clause-one_more : goal.returns-in-Ok-clause-one_more
returns-in-Ok-clause-one_more c =
    let array = c.args.self.now in
    subst (λ key. AddsElement array.document c.append.new.self (element_of key c.args.value)) (number_text _ _ array.count (omega arith) c.format.ensures.text) c.in-Ok.ensures.one_more

pub returns-in-Ok-clause-added : goal.returns-in-Ok-clause-added
returns-in-Ok-clause-added c =
    let array = c.args.self.now in
    subst (λ key. c.append.new.self ≡ enclosed (element_bytes array.document ++ spell (element_of key c.args.value))) (number_text _ _ array.count (omega arith) c.format.ensures.text) c.in-Ok.ensures.added

pub returns-in-Ok-clause-too_long : goal.returns-in-Ok-clause-too_long
returns-in-Ok-clause-too_long c =
    let array = c.args.self.now in
    too_long_at_number array.document (bytes_of c.args.value) c.format.result.now (decimal array.count) _ (number_text _ _ array.count (omega arith) c.format.ensures.text) (decimal_no_zero array.count (omega arith)) c.in-Ok.ensures.too_long

pub invariant_of-self-clause-framed : goal.invariant_of-self-clause-framed
invariant_of-self-clause-framed c = c.in-Ok.ensures.framed

pub invariant_of-self-clause-within : goal.invariant_of-self-clause-within
invariant_of-self-clause-within c =
    let array = c.args.self.now in
    one_more_within array.document c.append.new.self c.format.result.now (bytes_of c.args.value) (kind_of c.args.value) array.count array.framed array.within c.in-Ok.ensures.added

pub overflow_add-self : goal.overflow_add-self
overflow_add-self c =
    let array = c.args.self.now in
    omega (arith, array.within, array.framed.most)
