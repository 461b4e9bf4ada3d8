use Rattle.std.proofs.Common.{drop, sym, ap, ◌∙◌, subst}
use Rattle.std.specs.Str.{IsUtf8}
use Rattle.std.proofs.lemmas.List.{drop-drop}
use Rattle.mongo_bson.proofs.Cstrings.{no_zero_no_cstring, before_zero, cut_at_zero, other_text_no_cstring}
use Rattle.mongo_bson.proofs.cstring.take_cstring.Goals as goal

pub returns-in_err-end : goal.returns-in_err-end
returns-in_err-end c = rw c.from_residual.ensures (no_zero_no_cstring c.args.bytes.now c.in_err-end.ensures.zero)

pub returns-in-Some : goal.returns-in-Some
returns-in-Some c =
    let bytes = c.args.bytes.now in
    let end = c.in_ok-end.end.at in
    let first = c.in_ok-end.ensures.zero in
    let text = c.in-Some.ensures.0 ∙ c.split_at.ensures.front in
    let after = c.split_at-in-Some.ensures.back ∙ ap (drop 1) c.split_at.ensures.back ∙ drop-drop 1 end bytes in
    record {
      is_cstring = record { utf8 = subst IsUtf8 (sym c.in-Some.ensures.0) c.in-Some.ensures.1; without_zero = rw text (before_zero bytes end first) };
      spelled = rw (text, after) (cut_at_zero bytes end first);
    }

pub returns-in-None : goal.returns-in-None
returns-in-None c =
    other_text_no_cstring c.args.bytes.now c.in_ok-end.end.at c.in_ok-end.ensures.zero (subst (λ w. IsUtf8 w → ⊥) c.split_at.ensures.front c.in-None.ensures)
