use Rattle.std.proofs.Common.{◌≢◌, ◌∙◌, sym, arith, rules}
use Rattle.std.specs.Bool.{Decides}
use Rattle.std.specs.Str.{IsUtf8}
use Rattle.std.proofs.lemmas.Bool.{false≢true, true≢false}
use Rattle.std.proofs.lemmas.Bool.Decides.{Decides-eqb}
use Rattle.std.proofs.lemmas.List.Elements.{All-from_recursion, recursion_from_All}
use Rattle.mongo_bson_tests.proofs.tests.plain_reader.is_cstring.Goals as goal

pub returns-then-contains : goal.returns-then-contains
returns-then-contains c =
    let bytes = c.args.bytes.now in
    let zero = c.if-contains.ensures.cases in
    (λ f. absurd (false≢true f), λ is. absurd (All-from_recursion (λ b. b ≢ 0) bytes is.without_zero zero.0 0 zero.1 ((Decides-eqb _ 0).0 (zero.2 0))))

pub returns : goal.returns
returns c =
    let bytes = c.args.bytes.now in
    let utf8 : Decides c.is_ok.result (IsUtf8 bytes) = search rules in
    let no_zero = recursion_from_All (λ b. b ≢ 0) bytes (λ k d lt e. true≢false (sym ((Decides-eqb _ 0).1 e) ∙ c.if-contains.ensures.cases k d (omega arith) lt)) in
    (λ ok. record { utf8 = utf8.0 ok; without_zero = no_zero }, λ is. utf8.1 is.utf8)
