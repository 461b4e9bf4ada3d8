use Rattle.std.proofs.Common.{◌++◌, ◌∷◌, sym, ap, ◌∙◌}
use Rattle.mongo_settings.specs.Line.{text_word}
use Rattle.mongo_settings.proofs.Spaced.{words_after, no_words}
use Rattle.mongo_settings.proofs.report.description.push_names.Goals as goal

pub names-preserved : goal.names-preserved
names-preserved c =
    let out = c.names.out.items in
    let grown = c.in_ok-push_text.ensures ∙ ap (λ text. out ++ 32 ∷ text_word text) c.as_bytes.ensures in
    words_after out _ _ c.args.names.now c.names.index _ (sym c.in-Some.ensures) grown c.names.invariant

pub returns : goal.returns
returns c = no_words c.names.out.items _ c.args.names.now c.names.index (sym c.in_default.ensures) c.names.invariant
